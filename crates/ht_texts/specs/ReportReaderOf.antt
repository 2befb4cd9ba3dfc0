-- What the fields of a reader of reports stand for.
use Rattle.std.specs.Prelude.{◌≡◌, ◌<◌, ◌≤◌, ◌+◌, ◌-◌, ◌^◌, true, length}
use Rattle.ht_faults.specs.Sites.{faults_of}
use Rattle.ht_faults.specs.Classes.{AreClasses, class_count}
use Rattle.ht_texts.specs.ReportStands.{ReportView}
use Rattle.ht_texts.specs.declared.report_reader.ReportReader.TheInside.{Inside}

-- the fields as what the reader keeps
abbrev pub report_view : Inside → ReportView
report_view a = record {
  circuit = a.circuit.now;
  representatives = a.classes.now;
  lines_read = a.lines_read;
  sums = a.sums;
  live = a.live;
}

-- The list and the classes are the circuit's, 32 bits count the lines of its report, and no verdict was said more
-- often than there were lines of faults.
pub record ReadsReport (a : Inside) : Type 0 where
  pub faults : a.faults.now ≡ faults_of a.circuit.now
  pub classes : AreClasses a.circuit.now a.classes.now
  pub few_faults : length (faults_of a.circuit.now) + 2 < 2 ^ 32
  pub few_lines : a.lines_read ≤ length (faults_of a.circuit.now) + 2
  pub class_count_is : a.sums.classes ≡ class_count a.classes.now
  pub searched : a.sums.search ≡ true
  pub few_detected : a.sums.detected ≤ a.lines_read - 1
  pub few_untestable : a.sums.untestable ≤ a.lines_read - 1
  pub few_aborted : a.sums.aborted ≤ a.lines_read - 1
  pub few_undetectable : a.sums.undetectable ≤ a.lines_read - 1
  pub few_undetected : a.sums.undetected ≤ a.lines_read - 1
