use Rattle.std.proofs.Common.{◌≡◌, ◌+◌, ◌-◌, ◌≤◌, [], IsTrue}
use Rattle.ht_inputs.proofs.Common.{InCall, JobBasis, MayBeHeld, max_text_bytes}
use Rattle.ht_inputs.proofs.JudgedLaws.{Takes}
use Rattle.ht_inputs.proofs.judged_file.read_lines.Given as goal

abbrev pub invariant-lines : goal.invariant-lines
invariant-lines g l = record {
  port : l.lines.port ≡ l.fn.port;
  max_len : l.lines.max_len ≡ g.J.LineJudge.most_bytes;
  live : IsTrue l.lines.live;
  judges : g.J.LineJudge.live l.judge;
  open_now : IsTrue ((g.D.Desk.view l.desk).is_open l.fn.port);
  frame : InCall l.fn.port (g.D.Desk.view l.fn.desk) (g.D.Desk.view l.desk);
  there : MayBeHeld (g.D.Desk.view l.fn.desk) l.name;
  below : l.lines.lines_read ≤ l.lines.bytes_read;
  fits : l.lines.bytes_read ≤ max_text_bytes;
  counts : l.number ≡ l.lines.lines_read;
  upto : l.number ≤ l.most;
  so_far : (basis : JobBasis) → g.J.LineJudge.stands l.fn.judge basis []
      → Takes (g.J.LineJudge.stands l.judge basis) (g.J.LineJudge.is_wrong basis) l.fn.port l.name
      (g.D.Desk.view l.fn.desk) (g.D.Desk.view l.desk) l.lines;
}

abbrev pub decreases-lines : goal.decreases-lines
decreases-lines g l = max_text_bytes + 1 - l.lines.bytes_read
