use Rattle.ht_close.proofs.judge.judge_whole.Goals as goal

pub returns-in-Some : goal.returns-in-Some
returns-in-Some c =
    let place = c.in-Some.field-0 in
    let detects = rw c.in-Some.is at c.in_ok-first.ensures.first in
    record {
      wide = c.in_ok-list.ensures.wide;
      width = c.in_ok-list.ensures.width;
      vector = place.vector;
      output = place.output;
      detects = detects.0;
    }
