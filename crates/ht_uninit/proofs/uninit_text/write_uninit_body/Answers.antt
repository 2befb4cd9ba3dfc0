use Rattle.std.proofs.Common.{◌∙◌, ◌++◌, ℕ, List, length, ap, sym}
use Rattle.ht_net.specs.declared.fault.Fault.{Fault}
use Rattle.ht_uninit.specs.UninitTexts.{hidden_texts}
use Rattle.ht_uninit.proofs.UninitTextLaws.{body_appended}
use Rattle.ht_uninit.proofs.uninit_text.write_uninit_body.Goals as goal

pub returns : goal.returns
returns c =
    let faults = c.in_ok-push_faults.ensures
    ∙ ap (λ (n : ℕ). c.push_outputs.new.text.items
    ++ hidden_texts c.args.circuit.now c.args.classes.now c.args.answer.now.hidden n) (sym c.len-count.ensures) in
    body_appended c.args.circuit.now c.args.classes.now c.args.budget c.args.answer.now _ _ _ _ _ _ _ _ _ _
    c.new-body.ensures.items c.in_ok-push_head.ensures c.in_ok-push_removals.ensures c.in_ok-push_held.ensures
    c.in_ok-push_outputs.ensures faults c.dffs-dffs.ensures c.outputs-outputs.ensures
    (c.len-count.ensures ∙ ap (λ (fs : List Fault). length fs) c.requires.faults) c.count_classes-class_count.ensures
