-- Each class is in one part.
use Rattle.std.proofs.Common.{◌≡◌, ◌<◌, ◌%◌, ℕ, List, true, refl, sym}
use Rattle.std.specs.Cmp.Derive.{both_true}
use Rattle.std.proofs.lemmas.Bool.{eq-eqb, eqb-true}
use Rattle.std.proofs.lemmas.Nat.{mod_below}
use Rattle.ht_faults.specs.Classes.{is_representative}
use Rattle.ht_parts.specs.Parts.{IsItsPart, turn_in}
use Rattle.ht_parts.proofs.MemberLaws.{second_true}

-- the part to which the turn of a representative falls is the one that it is of
pub its_part : (representatives : List ℕ) (i count : ℕ) → is_representative representatives i ≡ true → 0 < count
    → (index : ℕ) × IsItsPart representatives i count index
its_part representatives i count own some =
    let index = turn_in representatives i % count in (
      index,
      record {
        counted = mod_below (turn_in representatives i) count some;
        own = both_true own (eq-eqb index index refl);
        only = λ other is. sym (eqb-true index other (second_true (is_representative representatives i) _ is));
      },
    )
