-- The demonstration netlist is a well-formed circuit, and its names are names of the format.
use Rattle.std.proofs.Common.{◌≡◌, ℕ, ◌+◌, ◌*◌, ◌/◌, ◌<◌, ◌≤◌, List, length, get_or, sym, ap, subst, ◌∙◌, arith}
use Rattle.std.proofs.Math.Nat.{div-le_of_le-mul}
use Rattle.std.specs.List.{sum_by}
use Rattle.std.proofs.lemmas.List.Elements.{All-get_or, All-from_get_or}
use Rattle.std.proofs.lemmas.List.FromFn.{length-map-range_with_len, get_or-map-range_with_len}
use Rattle.std.proofs.lemmas.List.Sums.{sum_by-le}
use Rattle.rand_pcg.specs.Lcg.{Lcg}
use Rattle.ht_tern.specs.Gate.{HasArity}
use Rattle.ht_net.specs.Circuit.Lists.{AllDiffer}
use Rattle.ht_net.specs.Circuit.Netlist.{Gate, Netlist, IsRank, IsCircuit, first_gate_net, net_count, no_net, no_gate, gate_at, arg_at}
use Rattle.ht_statement.specs.Name.{is_name}
use Rattle.ht_bench.specs.Normal.{HasFormatNames}
use Rattle.ht_random.specs.Words.{generator_of, next_word, after_word, after_words}
use Rattle.ht_demo.specs.Counts.{max_demo_size, input_count, dff_count, first_gate, demo_name}
use Rattle.ht_demo.specs.Draws.{kind_by_word, drawn_gate, drawn_gate_net, after_gates}
use Rattle.ht_demo.specs.Demo.{output_draws, demo_netlist}
use Rattle.ht_demo.proofs.RangeLaws.{list_all_range}
use Rattle.ht_demo.proofs.DrawLaws.{IsBelow, arguments_are_below, arguments_count, count_is_arity, at_most_two, gate_is_below, outputs_differ, outputs_are_below}
use Rattle.ht_demo.proofs.NameLaws.{one_net_per_name, demo_name_is_name}

module _ (size seed : ℕ) where
  abbrev pub demo : Netlist
  demo = demo_netlist size seed

  -- the generator before gate k, and after all gates
  abbrev pub before_gate : ℕ → Lcg
  before_gate k = after_gates k (generator_of seed)

  abbrev pub gate_drawn : ℕ → Gate
  gate_drawn k = drawn_gate (first_gate size + k) (before_gate k)

  -- ---- how many there are

  -- there are as many gates as the size says
  pub gates_count : length demo.gates ≡ size
  gates_count = length-map-range_with_len gate_drawn 0 size

  -- there is one flip-flop for every sixteen gates, and one more
  pub dffs_count : length demo.dffs ≡ dff_count size
  dffs_count = length-map-range_with_len (drawn_gate_net size (before_gate size)) 0 (dff_count size)

  -- there is a name for each input, flip-flop and gate
  pub names_count : length demo.names ≡ first_gate size + size
  names_count = length-map-range_with_len (demo_name size) 0 (first_gate size + size)

  -- the first gate's net has the number that the size gives
  pub first_is : first_gate_net demo ≡ first_gate size
  first_is = ap (λ n. input_count + n) dffs_count

  -- there is a net for each input, flip-flop and gate
  pub nets_count : net_count demo ≡ first_gate size + size
  nets_count = omega (arith, first_is, gates_count)

  -- ---- what stands at a place

  -- gate k is the one that is drawn after k others
  pub gate_is : (k : ℕ) → k < size → gate_at demo k ≡ gate_drawn k
  gate_is k below = get_or-map-range_with_len gate_drawn 0 size k k no_gate below (omega arith)

  -- the data pin of flip-flop j reads the gate that is drawn for it after j others
  pub dff_is : (j : ℕ) → j < dff_count size → get_or demo.dffs j no_net ≡ drawn_gate_net size (before_gate size) j
  dff_is j below =
      get_or-map-range_with_len (drawn_gate_net size (before_gate size)) 0 (dff_count size) j j no_net below
      (omega arith)

  -- each net has the name that its number gives
  pub name_is : (net : ℕ) (d : List ℕ) → net < first_gate size + size → get_or demo.names net d ≡ demo_name size net
  name_is net d below =
      get_or-map-range_with_len (demo_name size) 0 (first_gate size + size) net net d below (omega arith)

  gate_has : (P : Gate → Type 0) (k : ℕ) → k < length demo.gates → P (gate_drawn k) → P (gate_at demo k)
  gate_has P k below holds = subst P (sym (gate_is k (omega (arith, gates_count)))) holds

  -- no gate has more than two arguments
  pub few_arguments : (k : ℕ) → k < length demo.gates → length (gate_at demo k).args ≤ 2
  few_arguments k below = gate_has (λ gate. length gate.args ≤ 2) k below
      (let kind = kind_by_word (next_word (before_gate k)) in
      let few = at_most_two kind in
      omega (arith, arguments_count (first_gate size + k) kind (after_word (before_gate k))))

  argument_is_earlier : (k i : ℕ) → k < length demo.gates → i < length (gate_at demo k).args
      → arg_at demo k i < first_gate size + k
  argument_is_earlier k i below = gate_has
      (λ gate. i < length gate.args → (get_or gate.args i no_net).0 < first_gate size + k) k below
      (λ inside. All-get_or (IsBelow (first_gate size + k)) (gate_drawn k).args i no_net inside
      (arguments_are_below (first_gate size + k) (kind_by_word (next_word (before_gate k))) (after_word (before_gate k))
      (omega arith)))

  arities : (k : ℕ) → k < length demo.gates → HasArity (gate_at demo k).kind (length (gate_at demo k).args)
  arities k below = gate_has (λ gate. HasArity gate.kind (length gate.args)) k below
      (let kind = kind_by_word (next_word (before_gate k)) in
      subst (HasArity kind) (sym (arguments_count (first_gate size + k) kind (after_word (before_gate k))))
      (count_is_arity kind))

  ranks : IsRank (first_gate_net demo) demo.gates (λ k. k)
  ranks = record {
    falls = λ k i below inside from.
        let earlier = argument_is_earlier k i below inside in
        omega (arith, first_is);
  }

  pins : sum_by (λ (gate : Gate). length gate.args) demo.gates ≤ length demo.gates * 2
  pins = sum_by-le (λ (gate : Gate). length gate.args) 2 demo.gates
      (All-from_get_or (λ (gate : Gate). length gate.args ≤ 2) demo.gates no_gate few_arguments)

  module _ (some : 1 ≤ size) (few : size ≤ max_demo_size) where
    -- a size within the limits gives at most 1,251 flip-flops
    pub few_dffs : dff_count size ≤ 1251
    few_dffs =
        let quotient : size / 16 ≤ 1250 = div-le_of_le-mul 16 (omega arith) in
        omega arith

    names_differ : AllDiffer demo.names
    names_differ i j d before below same =
        let dffs = few_dffs in
        let count = names_count in
        let is_i = name_is i d (omega arith) in
        let is_j = name_is j d (omega arith) in
        let one : i ≡ j = one_net_per_name size i j (omega arith) (omega arith) (sym is_i ∙ (same ∙ is_j)) in
        absurd (omega arith)

    -- the demonstration netlist is a well-formed circuit, for a size within the limits
    pub demo_is_circuit : IsCircuit demo
    demo_is_circuit =
        let dffs = few_dffs in
        record {
          few_nets = omega (arith, nets_count);
          few_pins = omega (arith, dffs_count, gates_count, pins);
          few_inputs = omega arith;
          few_dffs = omega (arith, dffs_count);
          arities = arities;
          few_args = λ k below. omega (arith, few_arguments k below);
          known = λ k i below inside.
              let earlier = argument_is_earlier k i below inside in
              omega (arith, nets_count, gates_count);
          data_known = λ j below.
              let is = dff_is j (omega (arith, dffs_count)) in
              let known = gate_is_below size (next_word (after_words j (before_gate size))) some in
              rw is (omega (arith, nets_count));
          outputs_known = λ o below.
              let known = All-get_or (IsBelow (first_gate size + size)) demo.outputs o no_net below
              (outputs_are_below size (after_words (dff_count size) (before_gate size)) output_draws some) in
              omega (arith, nets_count);
          outputs_differ = outputs_differ size (after_words (dff_count size) (before_gate size)) output_draws;
          named = names_count ∙ sym nets_count;
          names_differ = names_differ;
          ranked = (λ k. k, ranks);
        }

    -- all names of the demonstration netlist are names of the format, for a size within the limits
    pub demo_has_format_names : HasFormatNames demo
    demo_has_format_names =
        let dffs = few_dffs in
        list_all_range is_name (demo_name size) 0 (first_gate size + size)
        (λ net below. (demo_name_is_name size net (omega arith)).0)
