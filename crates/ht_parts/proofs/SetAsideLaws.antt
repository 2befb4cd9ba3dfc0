-- What a loop over the verdicts leaves that sets those of others aside.
use Rattle.std.proofs.Common.{◌≡◌, ◌≢◌, ◌∙◌, ◌<◌, ◌≤◌, ◌+◌, inl, inr, subst, refl, ℕ, Bool, false, List, length, get_or, sym, ap, arith}
use Rattle.std.specs.Prelude.{if◌then◌else◌}
use Rattle.std.proofs.lemmas.Bool.{cases_lt}
use Rattle.std.proofs.lemmas.List.{get_or_default, same_lists}
use Rattle.ht_texts.specs.declared.said.Said.{Said}
use Rattle.ht_texts.specs.declared.said.Said.TheVariants.{Undetected}
use Rattle.ht_texts.specs.Verdicts.{said_at}
use Rattle.ht_parts.specs.declared.part.Part.{Part}
use Rattle.ht_parts.specs.Parts.{SetsAside, has_member, part_members, part_saids, set_aside}
use Rattle.ht_parts.proofs.MemberLaws.{length-part_saids, member_flag, said_in_part}

-- what is left of a verdict
abbrev pub left_of : List Bool → List Said → ℕ → Said
left_of members saids k = if has_member members k then said_at saids k else set_aside

-- The first i verdicts are set aside where they aren't of members, and the others are as they were.
pub record IsSetAsideTo (members : List Bool) (old new : List Said) (i : ℕ) : Type 0 where
  pub each : length new ≡ length old
  pub done : (k : ℕ) → k < i → k < length old → said_at new k ≡ left_of members old k
  pub rest : (k : ℕ) → i ≤ k → said_at new k ≡ said_at old k

-- at first none is
pub none_set_aside : (members : List Bool) (saids : List Said) → IsSetAsideTo members saids saids 0
none_set_aside members saids = record {
  each = refl;
  done = λ k below inside. absurd (omega (arith, below));
  rest = λ k from. refl;
}

-- then one more
pub one_set_aside : (members : List Bool) (old mid new : List Said) (i : ℕ) → IsSetAsideTo members old mid i
    → SetsAside members mid new i → IsSetAsideTo members old new (i + 1)
one_set_aside members old mid new i so_far sets =
    let same : said_at mid i ≡ said_at old i = so_far.rest i (omega arith) in
    let here : said_at new i ≡ left_of members old i =
    sets.here ∙ ap (λ said. if has_member members i then said else set_aside) same in record {
      each = sets.each ∙ so_far.each;
      done = λ k below inside. elim (cases_lt k i) [
        | inl less ↦
            let other : k ≢ i = omega (arith, less) in
            sets.others k other ∙ so_far.done k less inside
        | inr upto ↦
            let is : i ≡ k = omega (arith, below, upto) in
            subst (λ j. said_at new j ≡ left_of members old j) is here
      ];
      rest = λ k from.
          let other : k ≢ i = omega (arith, from) in
          sets.others k other ∙ so_far.rest k (omega (arith, from));
    }

-- all are what is said for the part
pub all_set_aside : (representatives : List ℕ) (part : Part) (members : List Bool) (old new : List Said) (i : ℕ)
    → members ≡ part_members representatives part → length old ≡ length representatives → length old ≤ i
    → IsSetAsideTo members old new i → new ≡ part_saids representatives part old
all_set_aside representatives part members old new i is listed all set =
    let long = length-part_saids representatives part old in
    let each = set.each in
    same_lists new (part_saids representatives part old) (omega (arith, each, long))
    (λ k d inside.
    let below : k < length old = omega (arith, inside, each) in
    get_or_default new k d Undetected inside
    ∙ (set.done k (omega (arith, below, all)) below
    ∙ (ap (λ b. if b then said_at old k else set_aside)
    (ap (λ l. get_or l k false) is ∙ member_flag representatives part k (omega (arith, below, listed)))
    ∙ (sym (said_in_part representatives part old k below)
    ∙ get_or_default (part_saids representatives part old) k Undetected d (omega (arith, below, long))))))
