-- Counts of verdicts, class by class.
use Rattle.std.proofs.Common.{◌≡◌, ◌<◌, ◌+◌, ℕ, List, Bool, take, length, get_or, sym, ap, ◌∙◌, arith}
use Rattle.std.proofs.lemmas.List.Sums.{sum_by_more}
use Rattle.ht_texts.specs.declared.said.Said.{Said}
use Rattle.ht_texts.specs.declared.total.Sums.{Sums}
use Rattle.ht_texts.specs.Verdicts.{said_at, says_detected, says_untestable, says_undetectable, says_aborted, says_undetected}
use Rattle.ht_texts.specs.Counts.{count_said, one_if, CountsOne}

-- the sums where only the verdicts of these faults are counted
pub record AreTallied (classes : ℕ) (saids : List Said) (search : Bool) (faults : List ℕ) (sums : Sums) : Type 0 where
  pub classes_are : sums.classes ≡ classes
  pub detected : sums.detected ≡ count_said says_detected saids faults
  pub untestable : sums.untestable ≡ count_said says_untestable saids faults
  pub aborted : sums.aborted ≡ count_said says_aborted saids faults
  pub undetectable : sums.undetectable ≡ count_said says_undetectable saids faults
  pub undetected : sums.undetected ≡ count_said says_undetected saids faults
  pub search_is : sums.search ≡ search

count_more : (is_kind : Said → Bool) (saids : List Said) (faults : List ℕ) (k i : ℕ) → k < length faults
    → i ≡ get_or faults k 0
    → count_said is_kind saids (take (k + 1) faults)
    ≡ count_said is_kind saids (take k faults) + one_if (is_kind (said_at saids i))
count_more is_kind saids faults k i inside is =
    sum_by_more (λ x. one_if (is_kind (said_at saids x))) faults k 0 inside
    ∙ ap (λ x. count_said is_kind saids (take k faults) + one_if (is_kind (said_at saids x))) (sym is)

-- one class more is counted
pub one_counted : (classes : ℕ) (saids : List Said) (search : Bool) (faults : List ℕ) (k i : ℕ) (old new : Sums)
    → AreTallied classes saids search (take k faults) old → k < length faults → i ≡ get_or faults k 0
    → CountsOne (said_at saids i) old new → AreTallied classes saids search (take (k + 1) faults) new
one_counted classes saids search faults k i old new so_far inside is one = record {
  classes_are = one.classes ∙ so_far.classes_are;
  detected = omega (arith, one.detected, so_far.detected, count_more says_detected saids faults k i inside is);
  untestable = omega (arith, one.untestable, so_far.untestable, count_more says_untestable saids faults k i inside is);
  aborted = omega (arith, one.aborted, so_far.aborted, count_more says_aborted saids faults k i inside is);
  undetectable =
      omega (arith, one.undetectable, so_far.undetectable, count_more says_undetectable saids faults k i inside is);
  undetected = omega (arith, one.undetected, so_far.undetected, count_more says_undetected saids faults k i inside is);
  search_is = one.search ∙ so_far.search_is;
}
