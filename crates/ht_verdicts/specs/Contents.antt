-- Files that say what verdicts do.
use Rattle.std.specs.Prelude.{◌≡◌, ◌<◌, ◌-◌, ℕ, Option, Some, None}
use Rattle.std.specs.List.{All}
use Rattle.ht_net.specs.declared.place.Place.{Place}
use Rattle.ht_proofs.specs.ClassGraderView.{ClassGraderStandsFor}
use Rattle.ht_proofs.specs.Detections.{place_at}
use Rattle.ht_tree.specs.declared.entry.Entry as recorded
use Rattle.ht_entries.specs.declared.numbered.Numbered.{Numbered}
use Rattle.ht_texts.specs.declared.said.Said.{Said}
use Rattle.ht_texts.specs.declared.said.Said.TheVariants.{Detected}
use Rattle.ht_texts.specs.Verdicts.{said_at}
use Rattle.ht_valid.specs.ValidFiles.{Content, HasEntry, IsOwn}
use Rattle.ht_verdicts.specs.Standing.{VerdictsView, entry_at, said_by_entry}

-- what is said by a first detection, or by an entry where there is none
abbrev pub said_by_both : Option Place → Option recorded.Entry → Said
said_by_both (Some place) entry = Detected place
said_by_both None entry = said_by_entry entry

-- What is said of fault i: its first detection, else what its entry says.
abbrev pub said_in : VerdictsView → ℕ → Said
said_in v i = said_by_both (place_at v.grader.places i) (entry_at v i)

-- The entry is the one that is kept for the fault of its number, which counts from 1.
pub record IsKeptEntry (v : VerdictsView) (e : Numbered) : Type 0 where
  pub counted : 0 < e.number
  pub kept : entry_at v (e.number - 1) ≡ Some e.entry

-- Files say what the verdicts do: of the start, with the vectors so far, what is said of each representative, entries that
-- are kept, and among them that of each fault that no vectors detect.
pub record IsContentOf (v : VerdictsView) (content : Content) : Type 0 where
  pub start : content.start ≡ v.start
  pub graded : ClassGraderStandsFor v.grader v.start content.list
  pub says : (i : ℕ) → IsOwn v.circuit v.representatives i → said_at content.saids i ≡ said_in v i
  pub kept : All (IsKeptEntry v) content.entries
  pub each : (i : ℕ) (made : recorded.Entry) → place_at v.grader.places i ≡ None
      → entry_at v i ≡ Some made → HasEntry content.entries i
