-- What the nets of a group have.
use Rattle.std.specs.List.{slice_get}
use Rattle.std.specs.Prelude.{min}
use Rattle.std.proofs.Common.{◌≡◌, ◌<◌, ◌≤◌, ◌+◌, ◌*◌, ◌-◌, ◌∙◌, ℕ, List, Bool, true, false, length, get_or, take, drop, ap, sym, subst, arith, Some, None}
use Rattle.std.proofs.lemmas.Option.{slice_get_past}
use Rattle.std.proofs.lemmas.List.{drop-map}
use Rattle.ht_tern.specs.declared.tern.Tern.{Tern}
use Rattle.ht_tern.specs.declared.tern.Tern.TheVariants.{Unk}
use Rattle.ht_lanes.specs.Lanes.{Lanes, lane}
use Rattle.ht_net.specs.Circuit.Netlist.{Netlist, net_count, IsCircuit}
use Rattle.ht_net.specs.Frames.Frame.{net_value}
use Rattle.ht_net.specs.Frames.Faults.{tern_rules}
use Rattle.ht_group.specs.GroupView.{FaultyMachine, GroupView, words_for}
use Rattle.ht_group.specs.GroupOf.{IsGroup, group_of}
use Rattle.ht_group.specs.MachineWords.{AreFilled, IsLaid, machines_of}
use Rattle.ht_group.specs.NetValues.{good_value, faulty_value}
use Rattle.ht_group.specs.LaneRules.{rules_at, in_lane, lane_env, HasItsValue}
use Rattle.ht_events.specs.Schedules.{IsSchedule}
use Rattle.ht_group.specs.StuckTables.{AreStuck}
use Rattle.ht_group.specs.declared.good_frame.GoodFrame.{GoodFrame}
use Rattle.ht_events.specs.declared.schedule.Schedule.{Schedule}
use Rattle.ht_group.specs.declared.machines.Machines.{Machines}
use Rattle.ht_group.specs.declared.group.Group.TheInside.{Inside}
use Rattle.ht_group.proofs.BlockLaws.{AreFull, all_count, item_at}
use Rattle.ht_group.proofs.ChangeLaws.{has_laid}
use Rattle.ht_group.proofs.DriveLaws.{values_are_frame}
use Rattle.ht_group.proofs.InLaneLaws.{lane_read}
use Rattle.ht_group.proofs.ViewLaws.{machine_at, machine_count}

-- the machines of words that are filled in turn
pub filled_machines : (c : Netlist) (n : ℕ) (words : List Machines) → AreFilled n words
    → AreFull (machines_of c) n words
filled_machines c n words filled w d inside =
    let m = get_or words w d in
    machine_count 0 m.lines.faults.items (drop c.inputs m.sources.words) ∙ filled w d inside

module _ (c : Netlist) (s : Schedule) (frame : GoodFrame) (pending : List Bool) (m : Machines) (circuit : IsCircuit c)
    (schedule : IsSchedule c s) (laid : IsLaid c s frame pending m)
    (none : (r : ℕ) → get_or pending r false ≡ false) where
  has_value : (k : ℕ) → k < 64 → (x : ℕ) → x < net_count c
      → HasItsValue c (rules_at m.lines.faults.items k) (in_lane k m.sources.words) (lane_env k m.nets.words) x
  has_value k below x inside =
      let r = get_or s.ranks.items x 0 in
      subst (λ (y : ℕ). HasItsValue c (rules_at m.lines.faults.items k) (in_lane k m.sources.words)
      (lane_env k m.nets.words) y) (schedule.ranks.back x inside)
      (laid.quiet k r below (schedule.ranks.small x inside) (none r))

  lane_value : (x : ℕ) → x < net_count c → (k : ℕ) → k < 64
      → lane_env k m.nets.words x
      ≡ net_value c (rules_at m.lines.faults.items k) (take c.inputs frame.sources.items)
      (drop c.inputs (in_lane k m.sources.words)) x
  lane_value x inside k below =
      values_are_frame c circuit (rules_at m.lines.faults.items k) (in_lane k m.sources.words)
      (lane_env k m.nets.words) (has_value k below) x inside
      ∙ ap (λ (v : List Tern). net_value c (rules_at m.lines.faults.items k) v
      (drop c.inputs (in_lane k m.sources.words)) x)
      (laid.inputs k below ∙ ap (take c.inputs) laid.sources)

  -- each machine's value of a net, and the good one in a lane without a machine
  machine_value : (x : ℕ) → x < net_count c → (k : ℕ) → k < 64 → (o : FaultyMachine)
      → slice_get (machines_of c m) k ≡ Some o → lane_env k m.nets.words x
      ≡ net_value c (tern_rules (Some o.fault)) (take c.inputs frame.sources.items) o.latches x
  machine_value x inside k below o has =
      let latches = drop c.inputs m.sources.words in
      let is = machine_at 0 m.lines.faults.items latches k o has in
      let lane_k : 0 + k ≡ k = omega arith in
      let held : drop c.inputs (in_lane k m.sources.words) ≡ o.latches =
      drop-map (λ (w : Lanes). lane w k) c.inputs m.sources.words
      ∙ (ap (λ (i : ℕ). in_lane i latches) (sym lane_k) ∙ sym is.latches) in
      lane_value x inside k below
      ∙ (λ i. net_value c (tern_rules (is.fault i)) (take c.inputs frame.sources.items) (held i) x)

  spare_value : (x : ℕ) → x < net_count c → (k : ℕ) → k < 64 → length m.lines.faults.items ≤ k
      → lane_env k m.nets.words x
      ≡ net_value c (tern_rules None) (take c.inputs frame.sources.items) (drop c.inputs frame.sources.items) x
  spare_value x inside k below free =
      let none = slice_get_past m.lines.faults.items k free in
      lane_value x inside k below
      ∙ (λ i. net_value c (tern_rules (none i)) (take c.inputs frame.sources.items)
      (drop c.inputs ((laid.spare k free below ∙ laid.sources) i)) x)

module _ (a : Inside) (g : IsGroup a) where
  -- the good value that a group's frame has of a net is the net's value in the good machine
  pub good_of : (x : ℕ) → x < net_count a.frame.circuit.now
      → get_or a.frame.good.values.items x Unk ≡ good_value (group_of a) x
  good_of x inside = g.frame.good.values x inside

  -- a group has as many machines as its count says
  pub group_count : length (group_of a).machines ≡ a.count
  group_count =
      let n = g.word_count in
      let few = g.few in
      all_count (machines_of a.frame.circuit.now) a.words.items a.count (omega (arith, n, few))
      (filled_machines a.frame.circuit.now a.count a.words.items g.filled)

  -- a group with fewer than 256 machines has a count below 256
  pub group_room : (v : GroupView) → group_of a ≡ v → length v.machines < 256 → a.count < 256
  group_room v is room =
      let count = group_count in
      let same = ap (λ (u : GroupView). length u.machines) is in
      omega (arith, room, count, same)

  -- a word that the machines of a group take is one that its count takes
  pub used_word : (v : GroupView) → group_of a ≡ v → (w : ℕ) → w < words_for (length v.machines)
      → w < words_for a.count
  used_word v is w used =
      let count = group_count in
      let same = ap (λ (u : GroupView). length u.machines) is in
      omega (arith, used, count, same)

  -- a word that the count takes is one of the group's words
  pub word_inside : (w : ℕ) → w < words_for a.count → w < length a.words.items
  word_inside w used = let n = g.word_count in let few = g.few in omega (arith, used, n, few)

  -- A word that has machines, and where they stand in the group.
  module _ (w : ℕ) (d : Machines) (used : w < words_for a.count) where
    abbrev m : Machines
    m = get_or a.words.items w d

    -- a used word has a good value for each net of the circuit
    pub word_room : length m.nets.good ≡ net_count a.frame.circuit.now
    word_room =
        let n = g.word_count in
        (g.words w d (let i = word_inside w used in omega (arith, i, n))).room.nets

    -- a used word has the stuck lines of the circuit with its faults
    pub word_stuck : AreStuck a.frame.circuit.now m.lines
    word_stuck =
        let n = g.word_count in
        (g.words w d (let i = word_inside w used in omega (arith, i, n))).room.stuck

    -- a used word has what is left of the machines after the words before it, up to 64
    pub word_filled : length m.lines.faults.items ≡ min 64 (a.count - 64 * w)
    word_filled = g.filled w d (word_inside w used)

    -- a used word lies over the group's frame
    pub word_laid : IsLaid a.frame.circuit.now a.frame.schedule a.frame.good a.frame.pending m
    word_laid =
        let n = g.word_count in
        let word = g.words w d (let i = word_inside w used in omega (arith, i, n)) in
        word.laid (has_laid a.frame.circuit.now a.frame.schedule a.frame.good a.frame.pending m
        (let f = word_filled in omega (arith, f, used)) word)

    -- machine 64 * w + k of a group is machine k of word w
    pub word_machine : (k : ℕ) → k < 64 → slice_get (group_of a).machines (64 * w + k)
        ≡ slice_get (machines_of a.frame.circuit.now m) k
    word_machine k below =
        let n = g.word_count in
        let few = g.few in
        item_at (machines_of a.frame.circuit.now) a.words.items a.count w k d below (word_inside w used)
        (omega (arith, n, few)) (filled_machines a.frame.circuit.now a.count a.words.items g.filled)

    -- what was read of a net in it
    pub word_read : (v : GroupView) → group_of a ≡ v → (read : Machines) → read ≡ m → (words : List Lanes) (x i : ℕ)
        (word : Lanes) → words ≡ read.nets.words → length words ≡ length read.nets.good → x < net_count v.circuit
        → i ≡ x → word ≡ get_or words i word → (k : ℕ) → lane word k ≡ lane_env k m.nets.words x
    word_read v view read is words x i word net_words count known at has k =
        let same = ap (λ (o : Machines). length o.nets.good) is in
        let room = word_room in
        let size = ap (λ (u : GroupView). net_count u.circuit) view in
        let inside : i < length words = omega (arith, known, size, room, same, count, at) in
        lane_read words i word inside has k
        ∙ ((λ j. lane_env k (net_words j) (at j)) ∙ ap (λ (o : Machines). lane_env k o.nets.words x) is)

    -- in a settled group a lane with a machine has that machine's value of each net
    pub word_value : (v : GroupView) → group_of a ≡ v → v.settled ≡ true → (x : ℕ) → x < net_count v.circuit
        → (k : ℕ) (o : FaultyMachine) → k < 64 → slice_get v.machines (64 * w + k) ≡ Some o
        → lane_env k m.nets.words x ≡ faulty_value v o x
    word_value v view =
        subst (λ (u : GroupView). u.settled ≡ true → (x : ℕ) → x < net_count u.circuit → (k : ℕ) (o : FaultyMachine)
        → k < 64 → slice_get u.machines (64 * w + k) ≡ Some o → lane_env k m.nets.words x ≡ faulty_value u o x) view
        (λ settled x inside k o below has.
        machine_value a.frame.circuit.now a.frame.schedule a.frame.good a.frame.pending m g.frame.circuit
        g.frame.schedule word_laid (g.settled settled) x
        inside k below o (sym (word_machine k below) ∙ has))

    free_lane : (k : ℕ) → k < 64 → length (group_of a).machines ≤ 64 * w + k → length m.lines.faults.items ≤ k
    free_lane k below past =
        let count = group_count in
        let f = word_filled in
        omega (arith, past, count, f)

    -- in a settled group a lane without a machine has the good value of each net
    pub word_spare : (v : GroupView) → group_of a ≡ v → v.settled ≡ true → (x : ℕ) → x < net_count v.circuit
        → (k : ℕ) → k < 64 → length v.machines ≤ 64 * w + k → lane_env k m.nets.words x ≡ good_value v x
    word_spare v view =
        subst (λ (u : GroupView). u.settled ≡ true → (x : ℕ) → x < net_count u.circuit → (k : ℕ) → k < 64
        → length u.machines ≤ 64 * w + k → lane_env k m.nets.words x ≡ good_value u x) view
        (λ settled x inside k below past.
        spare_value a.frame.circuit.now a.frame.schedule a.frame.good a.frame.pending m g.frame.circuit g.frame.schedule
        word_laid (g.settled settled) x
        inside k below (free_lane k below past))

    -- the fault of a lane, or none
    pub fault_of : (k : ℕ) (o : FaultyMachine) → k < 64 → slice_get (group_of a).machines (64 * w + k) ≡ Some o
        → slice_get m.lines.faults.items k ≡ Some o.fault
    fault_of k o below has =
        (machine_at 0 m.lines.faults.items (drop a.frame.circuit.now.inputs m.sources.words) k o
        (sym (word_machine k below) ∙ has)).fault

    -- a lane without a machine has no fault
    pub spare_lane : (k : ℕ) → k < 64 → length (group_of a).machines ≤ 64 * w + k
        → slice_get m.lines.faults.items k ≡ None
    spare_lane k below past = slice_get_past m.lines.faults.items k (free_lane k below past)
