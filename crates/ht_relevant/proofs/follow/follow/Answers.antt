use Rattle.std.proofs.Common.{◌≡◌, ◌≢◌, ◌<◌, ℕ, List, [], length, get_or, sym, ap, subst, inl, inr, arith}
use Rattle.std.proofs.lemmas.Bool.Decides.{eqb_tells}
use Rattle.std.proofs.lemmas.List.Elements.{Contains-get_or}
use Rattle.ht_events.proofs.ItemLaws.{reads_known}
use Rattle.ht_relevant.specs.declared.way.Way.{Way}
use Rattle.ht_relevant.specs.Distances.{IsFollowed}
use Rattle.ht_relevant.specs.Offsets.{IsTaken}
use Rattle.ht_relevant.proofs.DistanceLaws.{grown_same, grown_more}
use Rattle.ht_relevant.proofs.TakenLaws.{offset_small, readers_followed, taken_grown}
use Rattle.ht_relevant.proofs.follow.follow.Goals as goal

pub loop-offset-init : goal.loop-offset-init
loop-offset-init c = record {
  grown = grown_same c.args.distances.now;
  taken = λ k less. absurd (omega (arith, less));
}

pub take-requires-clause-small : goal.take-requires-clause-small
take-requires-clause-small c =
    let p = c.args.frame_plan.now in
    let i = c.loop-offset.offset-index in
    let e = c.load_offsets-offset-items.ensures in
    let row = get_or p.readers c.args.net [] in
    let l : i < length row =
    (let n = ap (λ (xs : List ℕ). length xs) e.offsets in let test = c.loop-offset-test.true in omega (arith, n, test)) in
    let same : get_or c.load_offsets-offset-items.result.now i 0 ≡ get_or row i 0 =
    ap (λ (xs : List ℕ). get_or xs i 0) e.offsets in
    let found = e.table.sound c.args.net (get_or row i 0) (Contains-get_or row i 0 l) in
    let o = found.2 in
    let small = offset_small p e.ranking found.0 (reads_known p.circuit found.0 c.args.net found.1) in
    omega (arith, same, o, small)

pub take-requires-clause-count : goal.take-requires-clause-count
take-requires-clause-count c =
    let count = c.requires.count in
    let more = c.loop-offset.invariant.grown.lower.count in
    omega (arith, count, more)

pub loop-offset-preserved : goal.loop-offset-preserved
loop-offset-preserved c =
    let p = c.args.frame_plan.now in
    let i = c.loop-offset.offset-index in
    let row = get_or p.readers c.args.net [] in
    let same : get_or c.load_offsets-offset-items.result.now i 0 ≡ get_or row i 0 =
    ap (λ (xs : List ℕ). get_or xs i 0) c.load_offsets-offset-items.ensures.offsets in
    let e = c.in_ok-take-in-Readers.ensures in
    record {
      grown = grown_more c.args.distances.now c.loop-offset.distances c.take.new.distances c.loop-offset.invariant.grown
          e.grown;
      taken = λ k less. elim (eqb_tells k i) [
        | inl at ↦ subst (λ (n : ℕ). IsTaken p c.take.new.distances (get_or row n 0)) (sym at.1)
            (subst (IsTaken p c.take.new.distances) same e.taken)
        | inr at ↦
            let ne : k ≢ i = at.1 in
            taken_grown p c.loop-offset.distances c.take.new.distances (get_or row k 0) e.grown
            (c.loop-offset.invariant.taken k (omega (arith, less, ne)))
      ];
    }

pub returns-after-loop-offset-clause-followed : goal.returns-after-loop-offset-clause-followed
returns-after-loop-offset-clause-followed c =
    let e = c.load_offsets-offset-items.ensures in
    let n = ap (λ (xs : List ℕ). length xs) e.offsets in
    let test = c.loop-offset-test.false in
    let P : Way → Type 0 = λ way. IsFollowed c.args.frame_plan.now.circuit way c.loop-offset.distances c.args.net in
    subst P (sym c.in-Readers.is)
    (readers_followed c.args.frame_plan.now c.loop-offset.distances c.args.net e.table
    (λ k less. c.loop-offset.invariant.taken k (omega (arith, n, test, less))))
