-- One line of the report of a search, by the number of lines before it.
use Rattle.std.specs.Prelude.{◌≡◌, ℕ, ◌+◌, ◌<◌, List, Bool, true, false, length, Option, Some, MatchOption}
use Rattle.ht_net.specs.Circuit.Netlist.{Netlist}
use Rattle.ht_faults.specs.Sites.{faults_of}
use Rattle.ht_faults.specs.Classes.{is_representative}
use Rattle.ht_texts.specs.declared.item.Item.{Item}
use Rattle.ht_texts.specs.declared.item.Item.TheVariants.{Head, Verdict, Member, Total}
use Rattle.ht_texts.specs.declared.said.Said.{Said}
use Rattle.ht_texts.specs.declared.said.Said.TheVariants.{Undetected}
use Rattle.ht_texts.specs.declared.total.Sums.{Sums}
use Rattle.ht_texts.specs.Reports.{head_line, fault_line, total_line}
use Rattle.ht_texts.specs.SearchReports.{IsBudget}
use Rattle.ht_texts.specs.Verdicts.{IsSayable}

-- the line of fault i, where this is said of it
pub record SaysOfFault (c : Netlist) (representatives : List ℕ) (i : ℕ) (own : Bool) (line : List ℕ) (said : Said)
    : Type 0 where
  pub listed : i < length (faults_of c)
  pub own_is : is_representative representatives i ≡ own
  pub line_is : line ≡ fault_line c representatives i said

-- Line n of a report, from 0, says this. The sums are those of the lines before; they matter for the total alone.
abbrev pub SaysItem : Netlist → List ℕ → ℕ → Sums → List ℕ → Item → Type 0
SaysItem c representatives n sums line (Head budget) =
    (n ≡ 0) × IsBudget budget × (line ≡ head_line c representatives (Some budget))
SaysItem c representatives n sums line (Verdict i said) =
    (n ≡ i + 1) × IsSayable c said × SaysOfFault c representatives i true line said
SaysItem c representatives n sums line (Member i) =
    (n ≡ i + 1) × SaysOfFault c representatives i false line Undetected
SaysItem c representatives n sums line Total = (n ≡ length (faults_of c) + 1) × (line ≡ total_line sums)

-- the item of the line, or none where it says none
abbrev pub FindsItem : Netlist → List ℕ → ℕ → Sums → List ℕ → Option Item → Type 0
FindsItem c representatives n sums line found =
    MatchOption found ((item : Item) → ¬ SaysItem c representatives n sums line item)
    (SaysItem c representatives n sums line)
