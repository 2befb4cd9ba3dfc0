-- How the fields of a judge of reports for a part stand for what it keeps.
use Rattle.std.specs.Prelude.{◌≡◌, IsTrue}
use Rattle.ht_texts.specs.SearchReports.{IsBudget}
use Rattle.ht_judge.specs.ReportJudgeOf.{HasLines}
use Rattle.ht_parts.specs.Parts.{part_members}
use Rattle.ht_parts.specs.PartReportJudging.{PartReportView}
use Rattle.ht_parts.specs.declared.part_report_judge.PartReportJudge.TheInside.{Inside}

-- What the judge of a report for a part keeps, by its fields.
abbrev pub part_report_view : Inside → PartReportView
part_report_view a = record {
  circuit = a.reader.circuit;
  representatives = a.reader.representatives;
  part = a.part;
  detections = a.detections.now;
  lines_read = a.reader.lines_read;
  sums = a.reader.sums;
  budget = a.budget;
  saids = a.saids.items;
  live = a.live;
}

-- While the judge is live its reader stands for some lines; the budget is one of a search; and the members are those of
-- the part.
pub record KeepsPartReport (a : Inside) : Type 0 where
  pub stands : IsTrue a.live → HasLines a.reader
  pub budget : IsBudget a.budget
  pub members : a.members.items ≡ part_members a.reader.representatives a.part
