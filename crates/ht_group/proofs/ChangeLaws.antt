-- What each call leaves of a word's machines.
use Rattle.std.proofs.Common.{◌≡◌, ◌≢◌, ◌<◌, ◌≤◌, ◌+◌, ◌∙◌, ℕ, List, [], ◌∷◌, ◌++◌, Bool, true, false, length, get_or, take, drop, ap, sym, subst, refl, arith, inl, inr}
use Rattle.std.proofs.lemmas.Bool.{cases_Bool, cases_eq, cases_lt}
use Rattle.std.proofs.lemmas.List.{length-map, length-append, drop-map}
use Rattle.ht_tern.specs.declared.tern.Tern.{Tern}
use Rattle.ht_tern.specs.declared.tern.Tern.TheVariants.{Unk}
use Rattle.ht_lanes.specs.Lanes.{Lanes, lane}
use Rattle.ht_group.specs.declared.diffs.Diff.{Diff}
use Rattle.ht_group.specs.Differences.{with_differences}
use Rattle.ht_net.specs.declared.fault.Fault.{Fault}
use Rattle.ht_net.specs.Circuit.Netlist.{Netlist, net_count, IsCircuit}
use Rattle.ht_group.specs.GoodFrames.{IsGoodFrame}
use Rattle.ht_group.specs.LaneRules.{rules_at, in_lane, lane_env, HasItsValue}
use Rattle.ht_group.specs.MachineWords.{AreFirstChanged, AreMachinesKept, AreRunning, AreSameMachines, HaveRun, IsMachineAdded, IsBare, IsComputed, IsLaid, IsLaidOver, IsRestored, IsWord, machines_from, machines_of}
use Rattle.ht_group.specs.Overlays.{IsSpread, OverlayView}
use Rattle.ht_group.specs.Pending.{IsFired, QuietHaveValues}
use Rattle.ht_events.specs.Schedules.{IsSchedule, ReadsFrom}
use Rattle.ht_group.specs.StuckTables.{AreStuck}
use Rattle.ht_group.specs.declared.good_frame.GoodFrame.{GoodFrame}
use Rattle.ht_group.specs.declared.machines.Machines.{Machines}
use Rattle.ht_events.specs.declared.schedule.Schedule.{Schedule}
use Rattle.ht_group.specs.declared.stuck_lines.StuckLines.{StuckLines}
use Rattle.ht_group.proofs.EventLaws.{fired_quiet}
use Rattle.ht_group.proofs.KeptLaws.{value_kept}
use Rattle.ht_group.proofs.SpreadLaws.{good_has_values}
use Rattle.ht_group.proofs.ViewLaws.{machine_added}

-- a net that isn't pending afterwards wasn't before, where those that were still are
not_before : (before pending : List Bool)
    → ((r : ℕ) → get_or before r false ≡ true → get_or pending r false ≡ true)
    → (r : ℕ) → get_or pending r false ≡ false → get_or before r false ≡ false
not_before before pending more r idle = elim (cases_Bool (get_or before r false)) [
  | inl was ↦ let bad : true ≡ false = sym (more r was) ∙ idle in cc
  | inr free ↦ free
]

module _ (c : Netlist) (s : Schedule) (frame : GoodFrame) where
  -- Others are pending, and each net that isn't has its value.
  over_pending : (before pending : List Bool) (m : Machines)
      → (IsLaid c s frame before m
      → QuietHaveValues c s m.lines.faults.items m.sources.words pending m.nets.words)
      → IsWord c s frame before m → IsWord c s frame pending m
  over_pending before pending m quiet word = record {
    room = word.room;
    bare = word.bare;
    laid = λ is.
        let was = word.laid is in
        record {
          quiet = quiet was;
          sources = was.sources;
          nets = was.nets;
          source_count = was.source_count;
          inputs = was.inputs;
          spare = was.spare;
          still = was.still;
        };
  }

  -- more nets are pending
  pub more_pending : (before pending : List Bool) (m : Machines)
      → ((r : ℕ) → get_or before r false ≡ true → get_or pending r false ≡ true)
      → IsWord c s frame before m → IsWord c s frame pending m
  more_pending before pending m more = over_pending before pending m
      (λ was k r below inside idle. was.quiet k r below inside (not_before before pending more r idle))

  -- a word that has no machines and lies over no frame is a word, whatever is pending
  pub bare_word : (pending : List Bool) (m : Machines) → IsBare c m → IsWord c s frame pending m
  bare_word pending m bare = record {
    room = bare.room;
    bare = λ is. bare.none;
    laid = λ is. let bad : true ≡ false = sym is ∙ bare.unlaid in cc;
  }

  module _ (circuit : IsCircuit c) (schedule : IsSchedule c s) (good : IsGoodFrame c frame) where
    -- The good machine in every lane.
    laid_over : (pending : List Bool) (m : Machines) → m.lines.faults.items ≡ []
        → IsSpread frame.sources.items m.sources → IsSpread frame.values.items m.nets → IsLaid c s frame pending m
    laid_over pending m none sources nets =
        let same : (k : ℕ) → k < 64 → in_lane k m.sources.words ≡ m.sources.good =
        λ k below. sources.lanes k below ∙ sym sources.good in
        let P : ℕ → List Tern → List Tern → ℕ → Type 0 = λ (k : ℕ) (t l : List Tern) (x : ℕ).
        HasItsValue c (rules_at m.lines.faults.items k) t (λ y. get_or l y Unk) x in
        let each : (k r : ℕ) → k < 64 → r < net_count c
        → HasItsValue c (rules_at m.lines.faults.items k) (in_lane k m.sources.words) (lane_env k m.nets.words)
        (get_or s.order.items r 0) =
        λ k r below inside.
        let x = get_or s.order.items r 0 in
        subst (λ (t : List Tern). P k t (in_lane k m.nets.words) x) (sym (sources.lanes k below))
        (subst (λ (l : List Tern). P k frame.sources.items l x) (sym (nets.lanes k below))
        (good_has_values c circuit m.lines.faults.items k none frame.sources.items frame.values.items good.values x
        (schedule.ranks.known r inside))) in
        record {
          sources = sources.good;
          nets = nets.good;
          source_count = sym (length-map m.sources.words (λ (w : Lanes). lane w 0))
              ∙ (ap (λ (l : List Tern). length l) (sources.lanes 0 (omega arith)) ∙ good.room.source_count);
          inputs = λ k below. ap (take c.inputs) (same k below);
          spare = λ k past below. same k below;
          quiet = λ k r below inside idle. each k r below inside;
          still = λ none k r below inside idle. each k r below inside;
        }

    -- a word is laid over the frame, if it isn't
    pub lay_word : (pending : List Bool) (old new : Machines) → IsWord c s frame pending old
        → IsLaidOver frame old new → IsWord c s frame pending new
    lay_word pending old new word h = elim (cases_Bool old.laid) [
      | inl is ↦ subst (λ (m : Machines). IsWord c s frame pending m) (sym (h.same is)) word
      | inr is ↦ record {
        room = record {
          stuck = rw (h.lines) word.room.stuck;
          sources = ap (λ (l : List Tern). length l) (h.sources is).good ∙ good.room.source_count;
          nets = ap (λ (l : List Tern). length l) (h.nets is).good ∙ good.room.value_count;
        };
        bare = λ no. let bad : true ≡ false = sym h.laid ∙ no in cc;
        laid = λ yes. laid_over pending new (rw (h.lines) (word.bare is)) (h.sources is) (h.nets is);
      }
    ]

    -- what a word's machines changed is put back
    pub restored_word : (before pending : List Bool) (old new : Machines) → IsWord c s frame before old
        → IsRestored c old new → IsWord c s frame pending new
    restored_word before pending old new word back = record {
      room = record {
        stuck = back.stuck;
        sources = ap (λ (l : List Tern). length l) back.sources.good ∙ word.room.sources;
        nets = ap (λ (l : List Tern). length l) back.nets.good ∙ word.room.nets;
      };
      bare = λ is. back.none;
      laid = λ is.
          let was = word.laid (sym back.laid ∙ is) in
          laid_over pending new back.none
          (subst (λ (l : List Tern). IsSpread l new.sources) was.sources back.sources)
          (subst (λ (l : List Tern). IsSpread l new.nets) was.nets back.nets);
    }

  -- a word without machines, whatever is pending
  pub still_word : (before pending : List Bool) (m : Machines) → m.lines.faults.items ≡ []
      → IsWord c s frame before m → IsWord c s frame pending m
  still_word before pending m none = over_pending before pending m
      (λ was k r below inside idle. was.still none k r below inside refl)

  -- a word with machines lies over the frame
  pub has_laid : (pending : List Bool) (m : Machines) → 0 < length m.lines.faults.items
      → IsWord c s frame pending m → m.laid ≡ true
  has_laid pending m some word = elim (cases_Bool m.laid) [
    | inl is ↦ is
    | inr is ↦ let none = ap (λ (l : List Fault). length l) (word.bare is) in absurd (omega (arith, some, none))
  ]

  -- Its machines run until no net is pending.
  pub runs : (pending : List Bool) (m : Machines) → 0 < length m.lines.faults.items
      → IsWord c s frame pending m → AreRunning c s pending m
  runs pending m some word =
      let laid = word.laid (has_laid pending m some word) in
      record {
        room = record { stuck = word.room.stuck; sources = laid.source_count; nets = word.room.nets };
        quiet = laid.quiet;
      }

  -- a word with machines that ran and were kept is a word, with what is pending after the run
  pub ran_word : (before pending : List Bool) (old new : Machines) → 0 < length old.lines.faults.items
      → IsWord c s frame before old → AreMachinesKept old new → AreRunning c s pending new
      → IsWord c s frame pending new
  ran_word before pending old new some word kept running =
      let was = word.laid (has_laid before old some word) in
      record {
        room = record {
          stuck = running.room.stuck;
          sources = rw (kept.sources) word.room.sources;
          nets = running.room.nets;
        };
        bare = λ is. rw (kept.lines) (word.bare (sym kept.laid ∙ is));
        laid = λ is. record {
          sources = rw (kept.sources) was.sources;
          nets = kept.good ∙ was.nets;
          source_count = running.room.sources;
          inputs = rw (kept.sources) was.inputs;
          spare = rw (kept.lines, kept.sources) was.spare;
          quiet = running.quiet;
          still = λ none.
              let e = ap (λ (l : List Fault). length l) none in
              let f = ap (λ (l : StuckLines). length l.faults.items) kept.lines in
              absurd (omega (arith, some, e, f));
        };
      }

  -- the same faults over the same words
  pub same_word : (pending : List Bool) (old new : Machines) → AreStuck c new.lines → AreSameMachines old new
      → IsWord c s frame pending old → IsWord c s frame pending new
  same_word pending old new stuck same word = record {
    room = record {
      stuck = stuck;
      sources = rw (same.sources) word.room.sources;
      nets = rw (same.nets) word.room.nets;
    };
    bare = λ is. same.faults ∙ word.bare (sym same.laid ∙ is);
    laid = λ is.
        let was = word.laid (sym same.laid ∙ is) in
        record {
          sources = rw (same.sources) was.sources;
          nets = rw (same.nets) was.nets;
          source_count = rw (same.sources) was.source_count;
          inputs = rw (same.sources) was.inputs;
          spare = rw (same.faults, same.sources) was.spare;
          quiet = rw (same.faults, same.sources, same.nets) was.quiet;
          still = rw (same.faults, same.sources, same.nets) was.still;
        };
  }

  -- and its machines are the same
  pub laid_machines : (pending : List Bool) (old new : Machines) → IsWord c s frame pending old
      → IsLaidOver frame old new → machines_of c new ≡ machines_of c old
  laid_machines pending old new word h = elim (cases_Bool old.laid) [
    | inl is ↦ ap (machines_of c) (h.same is)
    | inr is ↦
        let none = word.bare is in
        (λ i. machines_from 0 (h.lines i).faults.items (drop c.inputs new.sources.words))
        ∙ ((λ i. machines_from 0 (none i) (drop c.inputs new.sources.words))
        ∙ (λ i. machines_from 0 (sym none i) (drop c.inputs old.sources.words)))
  ]

  module _ (before pending : List Bool) (old new : Machines) (f : Fault) (diffs : List Diff)
      (word : IsWord c s frame before old) (is_laid : old.laid ≡ true) (room : length old.lines.faults.items < 64)
      (h : IsMachineAdded c s f diffs old before new pending) where
    count_more : length new.lines.faults.items ≡ length old.lines.faults.items + 1
    count_more = ap (λ (l : List Fault). length l) h.more ∙ length-append old.lines.faults.items (f ∷ [])

    -- One machine more: its lane has its latches, and the nets that its fault or a latch touches are pending.
    pub added_word : AreStuck c new.lines → IsWord c s frame pending new
    added_word stuck =
        let was = word.laid is_laid in
        record {
          room = record {
            stuck = stuck;
            sources = ap (λ (l : List Tern). length l) h.good ∙ word.room.sources;
            nets = rw (h.nets) word.room.nets;
          };
          bare = λ is. let bad : true ≡ false = sym is_laid ∙ (sym h.laid ∙ is) in cc;
          laid = λ is. record {
            sources = h.good ∙ was.sources;
            nets = rw (h.nets) was.nets;
            source_count = h.put.count;
            inputs = λ n below. elim (cases_eq n (length old.lines.faults.items)) [
              | inl e ↦ ap (λ (k : ℕ). take c.inputs (in_lane k new.sources.words)) e
                  ∙ (h.put.inputs ∙ ap (take c.inputs) (sym h.good))
              | inr ne ↦ ap (take c.inputs) (h.put.others n below ne)
                  ∙ (was.inputs n below ∙ ap (take c.inputs) (sym h.good))
            ];
            spare = λ n past below.
                let free : length old.lines.faults.items + 1 ≤ n = omega (arith, past, count_more) in
                h.put.others n below (omega (arith, free))
                ∙ (was.spare n (omega (arith, free)) below ∙ sym h.good);
            quiet = λ n r below inside is.
                let x = get_or s.order.items r 0 in
                subst (λ (l : List Lanes). HasItsValue c (rules_at new.lines.faults.items n)
                (in_lane n new.sources.words) (lane_env n l) x) (sym (ap (λ (o : OverlayView). o.words) h.nets))
                (subst (λ (l : List Fault). HasItsValue c (rules_at l n) (in_lane n new.sources.words)
                (lane_env n old.nets.words) x) (sym h.more)
                (value_kept c old.lines.faults.items f (in_lane n old.sources.words) (in_lane n new.sources.words)
                (lane_env n old.nets.words) x n (sym (h.put.quiet n r below inside is)) (h.forced r inside is)
                (was.quiet n r below inside (not_before before pending h.put.more r is))));
            still = λ none.
                let e = ap (λ (l : List Fault). length l) none in absurd (omega (arith, e, count_more));
          };
        }

    -- and the word has it at the end
    pub added_machine : machines_of c new
        ≡ machines_of c old
        ++ record { fault = f; latches = with_differences (drop c.inputs frame.sources.items) diffs } ∷ []
    added_machine =
        let was = word.laid is_laid in
        let n = c.inputs in
        let k = length old.lines.faults.items in
        let before = drop c.inputs old.sources.words in
        let after = drop c.inputs new.sources.words in
        let lane_of = λ (m : ℕ) (w : Lanes). lane w m in
        let latches : in_lane (0 + k) after ≡ with_differences (drop c.inputs frame.sources.items) diffs =
        ap (λ (m : ℕ). in_lane m after) (let e : 0 + k ≡ k = omega arith in e)
        ∙ (sym (drop-map (lane_of k) n new.sources.words)
        ∙ (h.put.latches ∙ ap (λ (l : List Tern). with_differences (drop c.inputs l) diffs) was.sources)) in
        let machines = machine_added 0 old.lines.faults.items f before after
        (λ m from below.
        sym (drop-map (lane_of m) n new.sources.words)
        ∙ (ap (drop n) (h.put.others m (omega (arith, below, room)) (omega (arith, below)))
        ∙ drop-map (lane_of m) n old.sources.words)) in
        ap (λ (l : List Fault). machines_from 0 l after) h.more ∙ (machines
        ∙ ap (λ (l : List Tern). machines_from 0 old.lines.faults.items before ++ record { fault = f; latches = l }
        ∷ []) latches)

-- a word that is as before
pub kept_itself : (old new : Machines) → new ≡ old → AreMachinesKept old new
kept_itself old new same = subst (λ (m : Machines). AreMachinesKept old m) (sym same)
    (record { lines = refl; sources = refl; good = refl; laid = refl })

-- machines that are kept twice are kept
pub kept_twice : (a b d : Machines) → AreMachinesKept a b → AreMachinesKept b d → AreMachinesKept a d
kept_twice a b d first second = record {
  lines = second.lines ∙ first.lines;
  sources = second.sources ∙ first.sources;
  good = second.good ∙ first.good;
  laid = second.laid ∙ first.laid;
}

-- all words have the same machines after the first ones ran
pub same_machines : (c : Netlist) (s : Schedule) (pending : List Bool) (used : ℕ) (old new : List Machines)
    → AreFirstChanged used (HaveRun c s pending) old new → (w : ℕ) (d : Machines)
    → AreMachinesKept (get_or old w d) (get_or new w d)
same_machines c s pending used old new ran w d = elim (cases_lt w used) [
  | inl inside ↦ (ran.each w d inside).kept
  | inr past ↦ kept_itself (get_or old w d) (get_or new w d) (ran.rest w d past)
]

-- A net is evaluated, and those that aren't pending have their values: the machines run on.
computed_running : (c : Netlist) (s : Schedule) (before pending : List Bool) (x : ℕ) (changed : Bool)
    (old new : Machines) → AreRunning c s before old → IsComputed c x changed old new
    → QuietHaveValues c s old.lines.faults.items old.sources.words pending new.nets.words → AreRunning c s pending new
computed_running c s before pending x changed old new running done quiet = record {
  room = record {
    stuck = rw (done.kept.lines) running.room.stuck;
    sources = rw (done.kept.sources) running.room.sources;
    nets = rw (done.kept.good) running.room.nets;
  };
  quiet = rw (done.kept.lines, done.kept.sources) quiet;
}

-- The net of a rank is evaluated, and where its word changed those that read it are pending: the machines run on.
module _ (c : Netlist) (s : Schedule) (is : IsSchedule c s) (before pending : List Bool) (rank x : ℕ) (changed : Bool)
    (inside : rank < net_count c) (net : x ≡ get_or s.order.items rank 0)
    (fired : IsFired c s rank changed before pending) where
  fired_running : (old new : Machines) → AreRunning c s before old → IsComputed c x changed old new
      → AreRunning c s pending new
  fired_running old new running done =
      let kept : (k p : ℕ) → p < net_count c → p ≢ rank → get_or pending p false ≡ false
      → (get_or before p false ≡ false)
      × ((z : ℕ) → ReadsFrom c (get_or s.order.items p 0) z
      → lane_env k new.nets.words z ≡ lane_env k old.nets.words z) =
      λ k p within ne idle. (
        fired.idle p ne idle,
        λ z read. elim (cases_Bool changed) [
          | inl told ↦ done.others k z
              (λ is_x. fired.apart told p within idle
              (subst (λ (m : ℕ). ReadsFrom c (get_or s.order.items p 0) m) (is_x ∙ net) read))
          | inr same ↦ ap (λ (l : List Lanes). lane_env k l z) (done.unchanged same)
        ],
      ) in
      computed_running c s before pending x changed old new running done
      (λ k q below.
      fired_quiet c s is (rules_at old.lines.faults.items k) (in_lane k old.sources.words)
      (lane_env k old.nets.words) (lane_env k new.nets.words) before pending rank x
      inside net (done.given k below) (done.others k) (kept k) (λ p. running.quiet k p below) q)

  -- after a word that has run evaluates one more net, it has run with the same machines
  pub run_on : (start old new : Machines) → HaveRun c s before start old → IsComputed c x changed old new
      → HaveRun c s pending start new
  run_on start old new ran done = record {
    kept = kept_twice start old new ran.kept done.kept;
    running = fired_running old new ran.running done;
  }

  -- after each of the first words evaluates one more net, they have run and the others are as before
  pub first_run_on : (used : ℕ) (start old new : List Machines) → AreFirstChanged used (HaveRun c s before) start old
      → AreFirstChanged used (IsComputed c x changed) old new → AreFirstChanged used (HaveRun c s pending) start new
  first_run_on used start old new ran done = record {
    count = done.count ∙ ran.count;
    each = λ w d first. run_on (get_or start w d) (get_or old w d) (get_or new w d) (ran.each w d first)
        (done.each w d first);
    rest = λ w d past. done.rest w d past ∙ ran.rest w d past;
  }
