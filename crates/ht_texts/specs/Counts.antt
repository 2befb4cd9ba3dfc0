-- How many classes there are, and of how many of them each verdict is said.
use Rattle.std.specs.Prelude.{◌≡◌, ◌<◌, ◌^◌, ℕ, ◌+◌, ◌-◌, List, Bool, if◌then◌else◌}
use Rattle.std.specs.List.{count_by, filter, range_with_len}
use Rattle.ht_faults.specs.Classes.{is_representative, own_representatives, class_count}
use Rattle.ht_texts.specs.declared.item.Item.{Item}
use Rattle.ht_texts.specs.declared.item.Item.TheVariants.{Head, Verdict, Member, Total}
use Rattle.ht_texts.specs.declared.said.Said.{Said}
use Rattle.ht_texts.specs.declared.total.Sums.{Sums}
use Rattle.ht_texts.specs.Verdicts.{said_at, says_detected, says_untestable, says_undetectable, says_aborted, says_undetected}

-- of how many of these faults a verdict of this kind is said
abbrev pub count_said : (Said → Bool) → List Said → List ℕ → ℕ
count_said is_kind saids faults = count_by (λ i. is_kind (said_at saids i)) faults

-- the sums of a report where only the verdicts of these faults are counted
abbrev pub sums_among : List ℕ → List Said → Bool → List ℕ → Sums
sums_among representatives saids search faults = record {
  classes = class_count representatives;
  detected = count_said says_detected saids faults;
  untestable = count_said says_untestable saids faults;
  aborted = count_said says_aborted saids faults;
  undetectable = count_said says_undetectable saids faults;
  undetected = count_said says_undetected saids faults;
  search = search;
}

-- the sums of a report, with the budget of a search or without one
abbrev pub sums_of : List ℕ → List Said → Bool → Sums
sums_of representatives saids search =
    sums_among representatives saids search (own_representatives representatives)

-- the representatives among the first n faults
abbrev pub representatives_below : List ℕ → ℕ → List ℕ
representatives_below representatives n = filter (is_representative representatives) (range_with_len 0 n)

-- ---- class by class

-- one more where the test passes
abbrev pub one_if : Bool → ℕ
one_if test = if test then 1 else 0

-- One class more can be counted, whatever is said of it.
pub record CanCount (sums : Sums) : Type 0 where
  pub detected : sums.detected < 2 ^ 32 - 1
  pub untestable : sums.untestable < 2 ^ 32 - 1
  pub aborted : sums.aborted < 2 ^ 32 - 1
  pub undetectable : sums.undetectable < 2 ^ 32 - 1
  pub undetected : sums.undetected < 2 ^ 32 - 1

-- one class more is counted, of which this is said
pub record CountsOne (said : Said) (old new : Sums) : Type 0 where
  pub classes : new.classes ≡ old.classes
  pub detected : new.detected ≡ old.detected + one_if (says_detected said)
  pub untestable : new.untestable ≡ old.untestable + one_if (says_untestable said)
  pub aborted : new.aborted ≡ old.aborted + one_if (says_aborted said)
  pub undetectable : new.undetectable ≡ old.undetectable + one_if (says_undetectable said)
  pub undetected : new.undetected ≡ old.undetected + one_if (says_undetected said)
  pub search : new.search ≡ old.search

-- what a line of a report says is counted, if it is the line of a representative
abbrev pub CountsItem : Item → Sums → Sums → Type 0
CountsItem (Verdict i said) old new = CountsOne said old new
CountsItem (Head budget) old new = new ≡ old
CountsItem (Member i) old new = new ≡ old
CountsItem Total old new = new ≡ old
