use Rattle.std.proofs.Common.{◌∙◌, ◌+◌, arith, sym, subst}
use Rattle.std.proofs.lemmas.Bool.{false≢true}
use Rattle.std.specs.Prelude.{IsTrue}
use Rattle.ht_parts.specs.PartReportJudging.{AgreesIfMember, PartReportView}
use Rattle.ht_parts.proofs.PartReportLaws.{has_budget, has_lines, has_members, line_contradicts, line_refused, line_taken}
use Rattle.ht_parts.proofs.part_report_judge.PartReportJudge.line.Goals as goal

pub returns-in-Err : goal.returns-in-Err
returns-in-Err c =
    let live = subst (λ (v : PartReportView). IsTrue v.live) (sym c.self.view_is) c.requires in
    rw (← c.self.view_is) (line_refused c.self.inside c.line.new.self c.args.line.now c.in-Err.malformed
    c.wrong_line.result c.wrong_line.ensures c.self.invariant live c.in-Err.ensures)

pub returns-then-not-agrees_if_member : goal.returns-then-not-agrees_if_member
returns-then-not-agrees_if_member c =
    let live = subst (λ (v : PartReportView). IsTrue v.live) (sym c.self.view_is) c.requires in
    rw (← c.self.view_is) (line_contradicts c.self.inside c.line.new.self c.args.line.now c.in-Ok.item c.self.invariant
    live c.in-Ok.ensures (c.len.result + 2) c.wrong_line-then-not-agrees_if_member.result
    c.wrong_line-then-not-agrees_if_member.ensures
    (λ agrees. false≢true (sym c.if-not-agrees_if_member.true ∙ c.agrees_if_member.ensures.1
    (subst (λ l. AgreesIfMember l c.self.inside.detections.now c.in-Ok.item) (sym c.deref.ensures.value) agrees)))
    (omega (arith, c.len.ensures)))

pub invariant_of-self-in_err-keep : goal.invariant_of-self-in_err-keep
invariant_of-self-in_err-keep c =
    let live = subst (λ (v : PartReportView). IsTrue v.live) (sym c.self.view_is) c.requires in
    record {
      stands = λ no. absurd (false≢true no);
      budget = has_budget c.self.inside c.line.new.self c.args.line.now c.in-Ok.item c.self.invariant live
          c.in-Ok.ensures c.keep.new.budget c.keep.ensures.budget;
      members = has_members c.self.inside c.line.new.self c.args.line.now c.in-Ok.item c.self.invariant live
          c.in-Ok.ensures;
    }

pub invariant_of-self-2 : goal.invariant_of-self-2
invariant_of-self-2 c =
    let live = subst (λ (v : PartReportView). IsTrue v.live) (sym c.self.view_is) c.requires in
    record {
      stands = λ yes. has_lines c.self.inside c.line.new.self c.args.line.now c.in-Ok.item c.self.invariant live
          c.in-Ok.ensures;
      budget = has_budget c.self.inside c.line.new.self c.args.line.now c.in-Ok.item c.self.invariant live
          c.in-Ok.ensures c.keep.new.budget c.keep.ensures.budget;
      members = has_members c.self.inside c.line.new.self c.args.line.now c.in-Ok.item c.self.invariant live
          c.in-Ok.ensures;
    }

pub returns : goal.returns
returns c =
    let live = subst (λ (v : PartReportView). IsTrue v.live) (sym c.self.view_is) c.requires in
    rw (← c.self.view_is) (line_taken c.self.inside c.line.new.self c.args.line.now c.in-Ok.item c.self.invariant live
    c.in-Ok.ensures c.keep.new.budget c.keep.new.saids.items
    (subst (λ l. AgreesIfMember l c.self.inside.detections.now c.in-Ok.item) c.deref.ensures.value
    (c.agrees_if_member.ensures.0 c.if-not-agrees_if_member.false))
    c.keep.ensures.budget (c.in_ok-keep.ensures.saids))
