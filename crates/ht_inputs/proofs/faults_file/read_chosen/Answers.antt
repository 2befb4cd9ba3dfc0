use Rattle.std.proofs.Common.{◌≡◌, ◌∙◌, ap, sym, subst, List, ℕ, refl, rules, arith}
use Rattle.std.specs.Prelude.{Some, option_map}
use Rattle.ht_ports.specs.declared.ports.InPort.TheVariants.{Faults}
use Rattle.ht_texts.specs.FaultListTexts.{IsFaultListText}
use Rattle.ht_inputs.proofs.Common.{SaysBasis}
use Rattle.ht_inputs.proofs.ReadingLaws.{one_more, read_so, skipped, stops_there}
use Rattle.ht_inputs.proofs.faults_file.read_chosen.Goals as goal

-- ---- a list is named

pub returns-in_ok-read_fault_list-in-Some-clause-read : goal.returns-in_ok-read_fault_list-in-Some-clause-read
returns-in_ok-read_fault_list-in-Some-clause-read g c = λ job basis first reads count before same.
    one_more before refl (reads ∙ c.in-Some.is ∙ ap Some (sym c.as_str.ensures)) c.read_fault_list.ensures.frame
    (before.netlist (omega arith))
    (read_so (SaysBasis job basis Faults) (λ text is.
    let both : Some c.in_ok-read_fault_list-in-Some.field-0 ≡ Some basis.chosen =
    same ∙ ap (option_map (λ _. basis.chosen)) c.in-Some.is in
    let numbers : c.in_ok-read_fault_list-in-Some.field-0 ≡ basis.chosen = cc in
    subst (λ (n : ℕ). IsFaultListText n text basis.chosen) (sym count)
    (subst (λ (l : List ℕ). IsFaultListText c.args.count text l) numbers is))
    (c.in_ok-read_fault_list-in-Some.ensures.read basis.circuit count))

pub returns-in_err-read_fault_list-in-Some-clause-stopped : goal.returns-in_err-read_fault_list-in-Some-clause-stopped
returns-in_err-read_fault_list-in-Some-clause-stopped g c = λ job basis first reads count fault before.
    let ends = stops_there before refl (reads ∙ c.in-Some.is ∙ ap Some (sym c.as_str.ensures))
    c.read_fault_list.ensures.frame (λ late. fault) _
    (c.in_err-read_fault_list-in-Some.ensures.stops job basis count) in
    search (rules, ends)

-- ---- none is named

pub returns-in-None-clause-read : goal.returns-in-None-clause-read
returns-in-None-clause-read g c = λ job basis first reads count before same.
    skipped before Faults refl (reads ∙ c.in-None.is) (before.netlist (omega arith))
