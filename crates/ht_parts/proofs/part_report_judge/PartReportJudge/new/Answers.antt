use Rattle.std.proofs.Common.{◌∙◌, [], true, ap, arith, refl, subst, sym}
use Rattle.ht_texts.specs.ReportReading.{before_report}
use Rattle.ht_texts.specs.ReportStands.{ReportView}
use Rattle.ht_judge.specs.ReportJudgeOf.{HasLines}
use Rattle.ht_judge.proofs.ReportLaws.{starts}
use Rattle.ht_parts.specs.Parts.{part_members}
use Rattle.ht_parts.proofs.PartReportLaws.{new_judges}
use Rattle.ht_parts.proofs.part_report_judge.PartReportJudge.new.Goals as goal

pub invariant_of-result : goal.invariant_of-result
invariant_of-result c = record {
  stands = λ live. subst HasLines (sym c.new.ensures)
      ([], before_report, starts c.args.circuit.now c.args.classes.now);
  budget = (omega arith, omega arith);
  members = c.in_ok-members.ensures
      ∙ ap (λ (r : ReportView). part_members r.representatives c.args.part) (sym c.new.ensures);
}

pub returns-clause-stands : goal.returns-clause-stands
returns-clause-stands c = new_judges
    (record {
      reader = c.new.result;
      detections = c.args.detections;
      part = c.args.part;
      members = c.in_ok-members.members;
      budget = 1;
      saids = c.in_ok-saids.saids;
      live = true;
    }) c.args.circuit.now c.args.classes.now c.new.ensures c.in_ok-saids.ensures.items refl c.requires.classes.every
