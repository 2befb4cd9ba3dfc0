-- The text of the record that the search for a list that synchronizes leaves, and what is said of it. Lines are without
-- their LF.
use Rattle.std.specs.Prelude.{◌-◌, ℕ, List, [], ◌∷◌, ◌++◌, Bool, codes, length, map}
use Rattle.std.specs.Fmt.{decimal}
use Rattle.ht_texts.specs.Lines.{with_lf, with_lfs}
use Rattle.ht_tree.specs.declared.token.Token.{Token}
use Rattle.ht_entries.specs.ProofLines.{bits_text, line_text}
use Rattle.ht_entries.specs.EntryLines.{length_lines}
use Rattle.ht_sync.specs.declared.synchronizing.Synchronized.{Synchronized}
use Rattle.ht_sync.specs.declared.synchronizing.Synchronized.TheVariants.{Found, Spent}

-- how many flip-flops there are, and the budget
abbrev pub sync_head : ℕ → ℕ → List ℕ
sync_head latches budget = codes "sync flip-flops " ++ decimal latches ++ codes " budget " ++ decimal budget

-- the walks for 1 vector, 2 vectors and so on
abbrev pub walk_lines : List (List Token) → List (List ℕ)
walk_lines walks = map line_text (length_lines 1 walks)

-- the lines of a record but its last
abbrev pub first_sync_lines : ℕ → ℕ → Synchronized → List (List ℕ)
first_sync_lines latches budget (Found list state walks) =
    sync_head latches budget ∷ walk_lines walks ++ (codes "found " ++ decimal (length list.list)) ∷ []
first_sync_lines latches budget (Spent walks) = sync_head latches budget ∷ walk_lines walks

-- its last line: the state to which the list synchronizes, or that the budget was spent
abbrev pub last_sync_line : Synchronized → List ℕ
last_sync_line (Found list state walks) = codes "state " ++ bits_text state
last_sync_line (Spent walks) = codes "spent"

-- a record without its last line, and the whole record
abbrev pub sync_body : ℕ → ℕ → Synchronized → List ℕ
sync_body latches budget answer = with_lfs (first_sync_lines latches budget answer)

-- the whole text of an answer
abbrev pub sync_text : ℕ → ℕ → Synchronized → List ℕ
sync_text latches budget answer = sync_body latches budget answer ++ with_lf (last_sync_line answer)

-- what is said of it: how many vectors the list has, or for how many lengths no list synchronizes
abbrev pub sync_said : Synchronized → List ℕ
sync_said (Found list state walks) = codes "sync " ++ decimal (length list.list)
sync_said (Spent walks) = codes "spent " ++ decimal (length walks - 1)

-- the list; none where the budget was spent
abbrev pub sync_list : Synchronized → List (List Bool)
sync_list (Found list state walks) = list.list
sync_list (Spent walks) = []
