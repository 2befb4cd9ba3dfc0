-- Lines and texts that say nothing.
use Rattle.std.proofs.Common.{◌≡◌, ◌≢◌, ℕ, ◌+◌, ◌<◌, true, false, List, ◌++◌, length, Some, refl, sym, ap, ◌∙◌, arith}
use Rattle.std.specs.Prelude.{codes}
use Rattle.ht_net.specs.declared.place.Place.{Place}
use Rattle.ht_net.specs.Circuit.Netlist.{Netlist}
use Rattle.ht_net.specs.Detect.Detection.{IsPlace}
use Rattle.ht_faults.specs.Sites.{faults_of}
use Rattle.ht_faults.specs.Classes.{is_representative}
use Rattle.ht_texts.specs.declared.item.Item.{Item}
use Rattle.ht_texts.specs.declared.item.Item.TheVariants.{Head, Verdict, Member, Total}
use Rattle.ht_texts.specs.declared.said.Said.{Said}
use Rattle.ht_texts.specs.declared.said.Said.TheVariants.{Detected, Untestable, Undetectable, Aborted, Undetected}
use Rattle.ht_texts.specs.declared.total.Sums.{Sums}
use Rattle.ht_texts.specs.Verdicts.{IsSayable, place_text, says_detected, verdict_text}
use Rattle.ht_texts.specs.Reports.{head_line, fault_line, total_line}
use Rattle.ht_texts.specs.SearchReports.{IsBudget}
use Rattle.ht_texts.specs.ReportLines.{SaysItem}
use Rattle.ht_texts.proofs.VerdictLaws.{detection_parts}

-- the first line says nothing where no budget has it
pub no_head : (c : Netlist) (representatives : List ℕ) (n : ℕ) (sums : Sums) (line : List ℕ) → n ≡ 0
    → ((budget : ℕ) → IsBudget budget → line ≢ head_line c representatives (Some budget))
    → (item : Item) → ¬ SaysItem c representatives n sums line item
no_head c representatives n sums line first none (Head budget) says = none budget says.1 says.2
no_head c representatives n sums line first none (Verdict i said) says = omega (arith, first, says.0)
no_head c representatives n sums line first none (Member i) says = omega (arith, first, says.0)
no_head c representatives n sums line first none Total says = omega (arith, first, says.0)

-- the line of fault i says nothing where nothing that may be said has it
pub no_fault_line : (c : Netlist) (representatives : List ℕ) (i : ℕ) (sums : Sums) (line : List ℕ)
    → i < length (faults_of c)
    → ((said : Said) → (is_representative representatives i ≡ true → IsSayable c said)
    → line ≢ fault_line c representatives i said)
    → (item : Item) → ¬ SaysItem c representatives (i + 1) sums line item
no_fault_line c representatives i sums line inside none (Head budget) says = omega (arith, says.0)
no_fault_line c representatives i sums line inside none (Verdict k said) says =
    let same : k ≡ i = omega (arith, says.0) in
    none said (λ _. says.1) (says.2.line_is ∙ ap (λ j. fault_line c representatives j said) same)
no_fault_line c representatives i sums line inside none (Member k) says =
    let same : k ≡ i = omega (arith, says.0) in
    let other : is_representative representatives i ≡ false =
    ap (is_representative representatives) (sym same) ∙ says.1.own_is in
    none Undetected (λ own. cc) (says.1.line_is ∙ ap (λ j. fault_line c representatives j Undetected) same)
no_fault_line c representatives i sums line inside none Total says = omega (arith, inside, says.0)

-- after the lines of the faults only the total says anything
pub no_total : (c : Netlist) (representatives : List ℕ) (n : ℕ) (sums : Sums) (line : List ℕ)
    → length (faults_of c) < n → (n ≡ length (faults_of c) + 1 → line ≢ total_line sums)
    → (item : Item) → ¬ SaysItem c representatives n sums line item
no_total c representatives n sums line after none (Head budget) says = omega (arith, after, says.0)
no_total c representatives n sums line after none (Verdict i said) says =
    omega (arith, after, says.0, says.2.listed)
no_total c representatives n sums line after none (Member i) says = omega (arith, after, says.0, says.1.listed)
no_total c representatives n sums line after none Total says = none says.0 says.1

-- ---- verdicts

-- a verdict that is a word may be said
pub word_is_sayable : (c : Netlist) (said : Said) → says_detected said ≡ false → IsSayable c said
word_is_sayable c (Detected place) other = cc
word_is_sayable c Untestable other = tt
word_is_sayable c Undetectable other = tt
word_is_sayable c Aborted other = tt
word_is_sayable c Undetected other = tt

-- a text that is neither a word nor a detection is that of no verdict
pub no_verdict : (c : Netlist) (text : List ℕ)
    → ((said : Said) → says_detected said ≡ false → text ≢ verdict_text c said)
    → ((place : Place) → IsPlace c place → text ≢ codes "detected " ++ place_text c place) → (said : Said)
    → IsSayable c said → text ≢ verdict_text c said
no_verdict c text word detected (Detected place) is e = detected place is (e ∙ detection_parts c place)
no_verdict c text word detected Untestable is e = word Untestable refl e
no_verdict c text word detected Undetectable is e = word Undetectable refl e
no_verdict c text word detected Aborted is e = word Aborted refl e
no_verdict c text word detected Undetected is e = word Undetected refl e
