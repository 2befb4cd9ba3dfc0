-- The entries that are kept, as a list with numbers, and their lines.
use Rattle.std.specs.Prelude.{◌+◌, ℕ, List, [], ◌∷◌, Option, Some, None}
use Rattle.ht_tree.specs.declared.entry.Entry as recorded
use Rattle.ht_entries.specs.declared.numbered.Numbered.{Numbered}
use Rattle.ht_entries.specs.EntryLines.{entry_text}
use Rattle.ht_verdicts.specs.Standing.{VerdictsView}

-- The entries of faults from number k on, which counts from 0; in the entries numbers count from 1.
abbrev pub entries_from : ℕ → List (Option recorded.Entry) → List Numbered
entries_from k [] = []
entries_from k (None ∷ rest) = entries_from (k + 1) rest
entries_from k (Some made ∷ rest) =
    record { number = k + 1; entry = made } ∷ entries_from (k + 1) rest

-- the entries that are kept, by the numbers of their faults
abbrev pub kept_entries : VerdictsView → List Numbered
kept_entries v = entries_from 0 v.entries

-- The text of the entry of fault i, which counts from 0; none where it has no entry.
abbrev pub kept_text : ℕ → Option recorded.Entry → List ℕ
kept_text i None = []
kept_text i (Some made) = entry_text (record { number = i + 1; entry = made })
