use Rattle.std.proofs.Common.{◌+◌, ℕ, List, [], ◌∷◌, ◌++◌, get_or, ◌∙◌, ap, subst}
use Rattle.std.specs.Prelude.{codes}
use Rattle.std.specs.Fmt.{decimal}
use Rattle.ht_net.specs.declared.fault.Fault.{Fault}
use Rattle.ht_faults.specs.FaultList.{no_fault}
use Rattle.ht_faults.specs.Classes.{fault_at}
use Rattle.ht_texts.specs.Fronts.{Strips}
use Rattle.ht_texts.specs.Pieces.{word, number, pieces_text}
use Rattle.ht_texts.specs.Reports.{fault_pieces}
use Rattle.ht_texts.proofs.FrontLaws.{strips_pieces}
use Rattle.ht_texts.proofs.SiteLaws.{listed_is_on_line}
use Rattle.ht_texts.proofs.read_fault.strip_fault.Goals as goal

pub strip_stuck_line-rest-requires : goal.strip_stuck_line-rest-requires
strip_stuck_line-rest-requires c = listed_is_on_line c.args.circuit.now c.args.faults.now c.args.i c.get.result
    c.requires.faults c.requires.fault c.get.ensures

pub returns : goal.returns
returns c =
    let circuit = c.args.circuit.now in
    let i = c.args.i in
    let is = c.get.ensures ∙ ap (λ (l : List Fault). get_or l i no_fault) c.requires.faults in
    let fault = fault_pieces circuit (fault_at circuit i) in
    let front = subst (λ (n : ℕ). Strips (decimal (n + 1) ++ codes " ") c.args.text c.strip_pieces-rest.result)
    c.from.ensures c.strip_pieces-rest.ensures in
    let strips = subst
    (λ (f : Fault). Strips (pieces_text (fault_pieces circuit f)) c.strip_pieces-rest.result c.strip_stuck_line-rest.result)
    is c.strip_stuck_line-rest.ensures in
    strips_pieces (number (i + 1) ∷ word (codes " ") ∷ fault) (word (codes " ") ∷ [])
    (strips_pieces (number (i + 1) ∷ word (codes " ") ∷ []) fault front strips)
    c.strip_word.ensures
