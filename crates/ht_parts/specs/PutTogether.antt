-- What two parts of proofs say together, each of which justifies a report of its own.
use Rattle.std.specs.Prelude.{◌≡◌, ◌⊎◌, ℕ, List, true}
use Rattle.std.specs.List.{Contains}
use Rattle.ht_faults.specs.Classes.{is_representative}
use Rattle.ht_texts.specs.declared.said.Said.{Said}
use Rattle.ht_texts.specs.declared.said.Said.TheVariants.{Undetected}
use Rattle.ht_texts.specs.Verdicts.{said_at}
use Rattle.ht_entries.specs.declared.numbered.Numbered.{Numbered}
use Rattle.ht_valid.specs.ValidFiles.{Content, HasEntry}

-- what two reports say of a fault together: what the first says, or where that is `undetected` what the second says
abbrev pub said_together : Said → Said → Said
said_together Undetected second = second
said_together first second = first

-- The entries are those of two lists, no number of which is in both.
pub record AreOfBoth (entries first second : List Numbered) : Type 0 where
  pub either : (e : Numbered) → Contains entries e → Contains first e ⊎ Contains second e
  pub all_first : (e : Numbered) → Contains first e → Contains entries e
  pub all_second : (e : Numbered) → Contains second e → Contains entries e
  pub apart : (i : ℕ) → HasEntry first i → ¬ HasEntry second i

-- The content is that of two others: of the same start, list and budget, with the entries of both, and with what both say of
-- each representative together.
pub record IsPutTogether (representatives : List ℕ) (whole first second : Content) : Type 0 where
  pub starts : (first.start ≡ whole.start) × (second.start ≡ whole.start)
  pub lists : (first.list ≡ whole.list) × (second.list ≡ whole.list)
  pub budgets : (first.budget ≡ whole.budget) × (second.budget ≡ whole.budget)
  pub entries : AreOfBoth whole.entries first.entries second.entries
  pub saids : (i : ℕ) → is_representative representatives i ≡ true
      → said_at whole.saids i ≡ said_together (said_at first.saids i) (said_at second.saids i)
