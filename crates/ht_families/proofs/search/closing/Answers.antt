use Rattle.std.proofs.Common.{◌≡◌, ◌∙◌, ◌<◌, ◌≤◌, ◌*◌, ◌-◌, List, [], length, get_or, refl, sym, ap, arith, inl, inr, subst}
use Rattle.std.proofs.lemmas.List.{with_items_is}
use Rattle.ht_pairs.specs.Pairs.{Pair}
use Rattle.ht_pairs.specs.Included.{joined_set}
use Rattle.ht_tree.specs.Record.ClosedFamilies.{IncludesEach, Family}
use Rattle.ht_families.specs.FamilyFrames.{size_of}
use Rattle.ht_families.proofs.CloseLaws.{frame_run, least_when, none_when, smaller_when}
use Rattle.ht_families.proofs.JoinEachLaws.{not_true}
use Rattle.ht_families.proofs.LeastLaws.{IsGrown, grows_on}
use Rattle.ht_families.proofs.search.closing.Goals as goal

pub returns-then-may_differ : goal.returns-then-may_differ
returns-then-may_differ c =
    let is = frame_run c.rounds.frame c.rounds.invariant.circuit c.rounds.invariant.fault c.deref.ensures.value
    c.run.ensures in
    none_when c.args.circuit.now c.args.fault c.args.start.now c.rounds.family.items c.run.new.self is
    c.rounds.invariant.grown (c.if-may_differ.ensures.0 refl)

pub returns-then-includes_each : goal.returns-then-includes_each
returns-then-includes_each c =
    let is = frame_run c.rounds.frame c.rounds.invariant.circuit c.rounds.invariant.fault c.deref.ensures.value
    c.run.ensures in
    least_when c.args.circuit.now c.args.fault c.args.start.now c.rounds.family.items c.next_sets.result.now
    c.run.new.self is c.rounds.invariant.grown c.next_sets.ensures.next_sets
    (subst (λ (f : Family). IncludesEach f c.next_sets.result.now) c.deref-in-rounds.ensures.value
    (c.if-includes_each.ensures.0 refl))
    (λ m. not_true (c.if-may_differ.ensures.1 m))

pub rounds-smaller : goal.rounds-smaller
rounds-smaller c =
    let family : Family = c.rounds.family.items in
    let next : Family = c.join_each.new.family in
    let items = with_items_is c.rounds.family next (omega arith) in
    let was = c.deref_mut.ensures.value in
    let same = c.next_sets-in-rounds.ensures.next_sets ∙ sym c.next_sets.ensures.next_sets in
    let long : length next ≡ length family = let e = ap length was in omega (arith, e) in
    let few : size_of next ≤ 9 * length family =
    subst (λ (f : Family). size_of next ≤ 9 * length f) was c.join_each.ensures.few in
    let more : size_of family < size_of next = elim c.join_each.ensures.grows [
      | inl all ↦
          absurd (not_true (c.if-includes_each.ensures.1
          (subst (λ (t : List (List Pair)). IncludesEach c.deref-in-rounds.result.now t) same
          (subst (λ (f : Family). IncludesEach f c.next_sets-in-rounds.result.now)
          (was ∙ sym c.deref-in-rounds.ensures.value) all))))
      | inr l ↦ subst (λ (f : Family). size_of f < size_of next) was l
    ] in
    subst (λ (f : Family). 9 * length f - size_of f < 9 * length family - size_of family) (sym items)
    (smaller_when family next long more few)

pub rounds-preserved : goal.rounds-preserved
rounds-preserved c =
    let n = c.args.circuit.now in
    let family : Family = c.rounds.family.items in
    let next : Family = c.join_each.new.family in
    let items = with_items_is c.rounds.family next (omega arith) in
    let was = c.deref_mut.ensures.value in
    let is = frame_run c.rounds.frame c.rounds.invariant.circuit c.rounds.invariant.fault c.deref.ensures.value
    c.run.ensures in
    let took = c.next_sets-in-rounds.ensures.next_sets ∙ is.next_sets in
    let long : length next ≡ length family = let e = ap length was in omega (arith, e) in
    record {
      circuit = is.circuit;
      fault = is.fault_is;
      grown = subst (λ (f : Family). IsGrown n c.args.fault c.args.start.now f) (sym items)
          (grows_on n c.args.fault c.args.start.now family next c.rounds.invariant.grown long
          (λ j l. c.join_each.ensures.joined j (let e = ap length was in omega (arith, e, l))
          ∙ (λ i. joined_set (get_or (was i) j []) (get_or (took i) j []))) c.requires);
    }
