use Rattle.std.proofs.Common.{◌≡◌, ◌<◌, List, ℕ, length, get_or, refl, sym, ◌∙◌, ap, subst, arith}
use Rattle.std.proofs.lemmas.List.{length-set}
use Rattle.ht_net.specs.Detect.Detection.{IsFirstFrom, IsPlace}
use Rattle.ht_faults.specs.Classes.{fault_at, own_representatives}
use Rattle.ht_faults.proofs.OwnLaws.{own_below, own_within}
use Rattle.ht_proofs.specs.PackedView.{verdict_at}
use Rattle.ht_proofs.proofs.DetectionLaws.{all_first, each_set, first_within, one_more, own_verdict}
use Rattle.ht_proofs.proofs.class_grader.write_places.Goals as goal

pub loop-k-init : goal.loop-k-init
loop-k-init c = record {
  each = c.requires.each;
  first = λ start list stands within. record {
    each = c.requires.each ∙ c.requires.classes.every;
    first = λ j less. absurd (omega (arith, less));
    within = within;
  };
  known = λ known. known;
}

pub overflow_cast-k : goal.overflow_cast-k
overflow_cast-k c =
    let own = ap (λ (l : List ℕ). length l) c.representatives-i-items.ensures in
    omega (arith, own, c.loop-k-test.true, own_within c.args.classes.now, c.len.ensures)

pub bounds-places-i : goal.bounds-places-i
bounds-places-i c =
    let below = own_below c.args.classes.now _ c.loop-k.k (length c.args.classes.now) c.representatives-i-items.ensures
    c.loop-k-test.true refl in
    omega (arith, below, c.loop-k.invariant.each)

pub loop-k-preserved : goal.loop-k-preserved
loop-k-preserved c =
    let machines = c.args.machines.now in
    let circuit = machines.circuit in
    let classes = c.args.classes.now in
    let places = c.loop-k.places in
    let place = c.verdict.result in
    let k = c.loop-k.k in
    let own = c.representatives-i-items.ensures in
    let i : ℕ = get_or c.representatives-i-items.result.now k 0 in
    let same : i ≡ get_or (own_representatives classes) k 0 = ap (λ (l : List ℕ). get_or l k 0) own in
    let inside : k < length (own_representatives classes) = omega (
      arith,
      ap (λ (l : List ℕ). length l) own,
      c.loop-k-test.true,
    ) in
    let there : i < length places = own_below classes _ k (length places) own c.loop-k-test.true
    c.loop-k.invariant.each in
    record {
      each = length-set places i place ∙ c.loop-k.invariant.each;
      first = λ start list stands within.
          let said = verdict_at machines k in
          let found : IsFirstFrom circuit (fault_at circuit i) start list place =
          subst (IsFirstFrom circuit (fault_at circuit i) start list) (sym c.verdict.ensures.verdict)
          (subst (λ n. IsFirstFrom circuit (fault_at circuit n) start list said) (sym same)
          (own_verdict circuit classes start list machines k refl c.requires.faults inside stands)) in
          one_more circuit classes start list places place k i (c.loop-k.invariant.first start list stands within) same
          there found
          (first_within circuit (fault_at circuit i) start list place found);
      known = λ known. each_set (IsPlace circuit) places place i there c.verdict.ensures.place
          (c.loop-k.invariant.known known);
    }

pub returns-clause-first : goal.returns-clause-first
returns-clause-first c =
    let own = ap (λ (l : List ℕ). length l) c.representatives-i-items.ensures in
    λ start list stands within. all_first c.args.machines.now.circuit c.args.classes.now start list c.loop-k.places
    c.loop-k.k
    c.requires.classes.every (c.loop-k.invariant.first start list stands within)
    (omega (arith, own, c.loop-k-test.false))

pub returns-clause-within : goal.returns-clause-within
returns-clause-within c = λ start list stands within. (c.loop-k.invariant.first start list stands within).within
