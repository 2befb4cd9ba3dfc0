use Rattle.std.proofs.Common.{IfOk, Bool, subst, sym}
use Rattle.ht_app.specs.Outputs.{AreTextsOf}
use Rattle.ht_app.proofs.respond.machine_texts.Goals as goal

pub returns-then-lines : goal.returns-then-lines
returns-then-lines c =
    let a = c.args in
    subst (λ (lines : Bool). IfOk c.line_texts.result (λ texts. AreTextsOf lines a.circuit.now a.fault a.start.now
    a.list.now.list texts.body.items texts.last.items texts.said.items)) (sym c.if-lines.true) c.line_texts.ensures
