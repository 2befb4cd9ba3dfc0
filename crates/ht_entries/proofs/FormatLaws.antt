-- Which entries each format has.
use Rattle.std.specs.Prelude.{◌≡◌, ◌≢◌, true, refl}
use Rattle.std.proofs.lemmas.Bool.{false≢true}
use Rattle.ht_tree.specs.declared.entry.Entry.{Entry}
use Rattle.ht_tree.specs.declared.entry.Entry.TheVariants.{Untestable, UntestableFrom, UndetectableBySets, UndetectableByCubes, Aborted}
use Rattle.ht_tree.specs.declared.kind.EntryKind.TheVariants as kinds
use Rattle.ht_tree.specs.Record.Entries.{kind_of}
use Rattle.ht_entries.specs.declared.format.Format.{Format}
use Rattle.ht_entries.specs.declared.format.Format.TheVariants.{One, Two, Three}
use Rattle.ht_entries.specs.EntryLines.{whole_part}
use Rattle.ht_entries.specs.EntryTexts.{has_form}

-- the third format has the form of each entry
pub third_has_all : (e : Entry) → has_form Three (whole_part e) ≡ true
third_has_all (Untestable z tokens) = refl
third_has_all (UntestableFrom state clauses z tokens) = refl
third_has_all (UndetectableBySets rows) = refl
third_has_all (UndetectableByCubes cubes steps) = refl
third_has_all (Aborted told walk aim sweep) = refl

-- the second format has the form of each entry that doesn't say undetectable
pub second_has_others : (e : Entry) → kind_of e ≢ kinds.Undetectable → has_form Two (whole_part e) ≡ true
second_has_others (Untestable z tokens) h = refl
second_has_others (UntestableFrom state clauses z tokens) h = refl
second_has_others (UndetectableBySets rows) h = absurd (h refl)
second_has_others (UndetectableByCubes cubes steps) h = absurd (h refl)
second_has_others (Aborted told walk aim sweep) h = refl

-- each format has the form of an entry that the first format has
pub first_stays : (e : Entry) → has_form One (whole_part e) ≡ true → (format : Format)
    → has_form format (whole_part e) ≡ true
first_stays (Untestable z tokens) h format = refl
first_stays (UntestableFrom state clauses z tokens) h format = absurd (false≢true h)
first_stays (UndetectableBySets rows) h format = absurd (false≢true h)
first_stays (UndetectableByCubes cubes steps) h format = absurd (false≢true h)
first_stays (Aborted told walk aim sweep) h format = refl
