-- The report of a search: what it may say, which texts are one, and where a text that is none goes wrong.
use Rattle.std.specs.Prelude.{◌≡◌, ◌==◌, ℕ, ◌+◌, ◌<◌, ◌≤◌, ◌⊎◌, List, ◌++◌, Bool, not, ◌&&◌, IsTrue, length, Some}
use Rattle.std.specs.List.{All, list_all}
use Rattle.ht_net.specs.Circuit.Netlist.{Netlist}
use Rattle.ht_faults.specs.Sites.{faults_of}
use Rattle.ht_ports.specs.LineRule.{lines_of, max_text_bytes}
use Rattle.ht_tree.specs.declared.limits.TheConstants.{MAX_BUDGET}
use Rattle.ht_texts.specs.declared.said.Said.{Said}
use Rattle.ht_texts.specs.Tests.{IsTooLong}
use Rattle.ht_texts.specs.WrongLines.{IsNoNextLine, IsFirst}
use Rattle.ht_texts.specs.Verdicts.{AreSayableTo}
use Rattle.ht_texts.specs.Reports.{report_lines}

-- the budget of a search
abbrev pub IsBudget : ℕ → Type 0
IsBudget budget = (0 < budget) × (budget ≤ MAX_BUDGET)

-- a budget, and what may be said of the first n faults
pub record IsSearchOf (c : Netlist) (representatives : List ℕ) (n budget : ℕ) (saids : List Said) : Type 0 where
  pub budget_is : IsBudget budget
  pub listed : n ≤ length (faults_of c)
  pub saids_are : AreSayableTo c representatives n saids

-- ---- lines

-- The lines are the report of a search with this budget that says this of each fault.
pub record IsSearchReport (c : Netlist) (representatives : List ℕ) (lines : List (List ℕ)) (budget : ℕ)
    (saids : List Said) : Type 0 where
  pub search : IsSearchOf c representatives (length (faults_of c)) budget saids
  pub lines_are : lines ≡ report_lines c representatives (Some budget) saids

-- Some report of a search begins with these lines.
pub record IsReportFront (c : Netlist) (representatives : List ℕ) (lines : List (List ℕ)) : Type 0 where
  pub budget : ℕ
  pub saids : List Said
  pub more : List (List ℕ)
  pub report : IsSearchReport c representatives (lines ++ more) budget saids

-- ---- texts

-- The lines of the text are the report, and the text is no longer than a text may be.
pub record IsReportText (c : Netlist) (representatives : List ℕ) (text : List ℕ) (budget : ℕ) (saids : List Said)
    : Type 0 where
  pub report : IsSearchReport c representatives (lines_of text) budget saids
  pub short : length text ≤ max_text_bytes

-- a byte that may stand in a line wherever it comes: no LF, and no CR
abbrev pub is_line_byte : ℕ → Bool
is_line_byte byte = not (byte == 10) && not (byte == 13)

-- no name has an LF or a CR
abbrev pub HasPlainNames : Netlist → Type 0
HasPlainNames c = All (λ name. IsTrue (list_all is_line_byte name)) c.names

-- the most bytes of a short name
abbrev pub max_short_name_bytes : ℕ
max_short_name_bytes = 255

-- no name has more bytes than a netlist lets it have
abbrev pub HasShortNames : Netlist → Type 0
HasShortNames c = All (λ (name : List ℕ). length name ≤ max_short_name_bytes) c.names

-- line n is there, and no report has it after the lines before it
abbrev pub IsNoReportLine : Netlist → List ℕ → List ℕ → ℕ → Type 0
IsNoReportLine c representatives text n = IsNoNextLine (IsReportFront c representatives) text n

-- the text ends before line n, though no report ends there
pub record EndsTooEarly (c : Netlist) (representatives : List ℕ) (text : List ℕ) (n : ℕ) : Type 0 where
  pub line : n ≡ length (lines_of text) + 1
  pub none : (budget : ℕ) (saids : List Said) → ¬ IsSearchReport c representatives (lines_of text) budget saids

-- line n is none of a report, or isn't there though it should be, or the text gets too long in it
abbrev pub IsWrongReportLine : Netlist → List ℕ → List ℕ → ℕ → Type 0
IsWrongReportLine c representatives text n =
    IsNoReportLine c representatives text n ⊎ (EndsTooEarly c representatives text n ⊎ IsTooLong text n)

-- The text is no report of a search of the circuit, and line n, from 1, is the first that shows it.
abbrev pub IsMalformedReport : Netlist → List ℕ → List ℕ → ℕ → Type 0
IsMalformedReport c representatives text n = IsFirst (IsWrongReportLine c representatives text) n
