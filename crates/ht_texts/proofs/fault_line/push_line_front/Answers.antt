use Rattle.std.proofs.Common.{◌+◌, ◌++◌, ◌∷◌, [], ℕ, ◌∙◌, ap, List, get_or}
use Rattle.std.specs.Prelude.{codes}
use Rattle.std.specs.Fmt.{decimal}
use Rattle.ht_net.specs.declared.fault.Fault.{Fault}
use Rattle.ht_faults.specs.FaultList.{no_fault}
use Rattle.ht_faults.specs.Classes.{fault_at}
use Rattle.ht_texts.specs.Pieces.{word, add_pieces}
use Rattle.ht_texts.specs.Reports.{fault_pieces}
use Rattle.ht_texts.proofs.PieceLaws.{added_both}
use Rattle.ht_texts.proofs.SiteLaws.{listed_is_on_line}
use Rattle.ht_texts.proofs.fault_line.push_line_front.Goals as goal

pub push_stuck_line-requires : goal.push_stuck_line-requires
push_stuck_line-requires c = listed_is_on_line c.args.circuit.now c.args.faults.now c.args.i c.get.result
    c.requires.faults c.requires.fault c.get.ensures

pub returns : goal.returns
returns c =
    let circuit = c.args.circuit.now in
    let i = c.args.i in
    let text = c.args.text.now.items in
    let fault = fault_pieces circuit (fault_at circuit i) in
    let at = c.get.ensures ∙ ap (λ (l : List Fault). get_or l i no_fault) c.requires.faults in
    let number = c.in_ok-push_number.ensures ∙ ap (λ (n : ℕ). text ++ decimal (n + 1)) c.from.ensures in
    let before = c.in_ok-extend_from_slice.ensures.items ∙ ap (λ (t : List ℕ). t ++ codes " ") number in
    c.in_ok-extend_from_slice-2.ensures.items
    ∙ ap (λ (t : List ℕ). t ++ codes " ") (c.in_ok-push_stuck_line.ensures
    ∙ ap (λ (f : Fault). add_pieces c.extend_from_slice.new.self.items (fault_pieces circuit f)) at
    ∙ ap (λ (t : List ℕ). add_pieces t fault) before)
    ∙ added_both (text ++ decimal (i + 1) ++ codes " ") fault (word (codes " ") ∷ [])
