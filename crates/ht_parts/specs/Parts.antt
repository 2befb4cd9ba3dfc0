-- The parts of a fault list, to which its classes are dealt out in turn.
use Rattle.std.specs.Prelude.{◌≡◌, ◌≢◌, ◌==◌, ◌&&◌, ◌<◌, ◌%◌, ℕ, List, Bool, true, false, length, get_or, map, if◌then◌else◌}
use Rattle.std.specs.List.{range_with_len}
use Rattle.ht_faults.specs.Classes.{is_representative}
use Rattle.ht_texts.specs.declared.said.Said.{Said}
use Rattle.ht_texts.specs.declared.said.Said.TheVariants.{Detected}
use Rattle.ht_texts.specs.Counts.{representatives_below}
use Rattle.ht_texts.specs.Verdicts.{said_at}
use Rattle.ht_valid.specs.ValidFiles.{Content}
use Rattle.ht_parts.specs.declared.part.Part.{Part}

-- the index of a part is below their count
abbrev pub IsPart : Part → Type 0
IsPart part = part.index < part.count

-- the turn of fault i: how many representatives come before it
abbrev pub turn_in : List ℕ → ℕ → ℕ
turn_in representatives i = length (representatives_below representatives i)

-- fault i is of the part: it is a representative, and its turn falls to the part, where the parts take turns
abbrev pub is_in_part : List ℕ → Part → ℕ → Bool
is_in_part representatives part i =
    is_representative representatives i && (turn_in representatives i % part.count == part.index)

-- of each fault, by number, whether it is of the part
abbrev pub part_members : List ℕ → Part → List Bool
part_members representatives part =
    map (is_in_part representatives part) (range_with_len 0 (length representatives))

-- fault i is a member; none after the last one is
abbrev pub has_member : List Bool → ℕ → Bool
has_member members i = get_or members i false

-- Of so many parts, that of this index is the one that the fault is of.
pub record IsItsPart (representatives : List ℕ) (i count index : ℕ) : Type 0 where
  pub counted : index < count
  pub own : is_in_part representatives (record { index = index; count = count }) i ≡ true
  pub only : (other : ℕ)
      → is_in_part representatives (record { index = other; count = count }) i ≡ true
      → other ≡ index

-- ---- what is to be shown for a part

-- what stands for a verdict of which nothing is to be shown: that of a detected fault, whose entry isn't judged
abbrev pub set_aside : Said
set_aside = Detected (record { vector = 0; output = 0 })

-- The verdict of fault i is set aside, unless it is a member, and all others are as before.
pub record SetsAside (members : List Bool) (old new : List Said) (i : ℕ) : Type 0 where
  pub each : length new ≡ length old
  pub here : said_at new i ≡ (if has_member members i then said_at old i else set_aside)
  pub others : (k : ℕ) → k ≢ i → said_at new k ≡ said_at old k

-- what is said of each fault, where the verdicts of all that aren't of the part are set aside
abbrev pub part_saids : List ℕ → Part → List Said → List Said
part_saids representatives part saids =
    map (λ i. if is_in_part representatives part i then said_at saids i else set_aside)
    (range_with_len 0 (length saids))

-- what files say, where the verdicts of all faults that aren't of the part are set aside
abbrev pub part_content : List ℕ → Part → Content → Content
part_content representatives part content =
    record content { saids = part_saids representatives part content.saids }
