use Rattle.std.proofs.Common.{sym, subst}
use Rattle.std.specs.Prelude.{IsTrue}
use Rattle.ht_texts.specs.ReportStands.{ReportView}
use Rattle.ht_texts.proofs.ReaderLaws.{line_taken, line_refused}
use Rattle.ht_texts.proofs.report_reader.ReportReader.line.Goals as goal

pub returns-in_default : goal.returns-in_default
returns-in_default c =
    rw (← c.self.view_is) (line_refused c.self.inside c.args.line.now c.self.invariant c.in_default.ensures)

pub returns : goal.returns
returns c =
    let live = subst (λ (v : ReportView). IsTrue v.live) (sym c.self.view_is) c.requires.live in
    rw (← c.self.view_is) (line_taken c.self.inside c.args.line.now c.in-Some.item c.count_item.new.self
    c.self.invariant live c.in-Some.ensures c.count_item.ensures)
