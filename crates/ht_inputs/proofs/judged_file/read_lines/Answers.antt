use Rattle.std.proofs.Common.{◌≡◌, ◌≤◌, ◌+◌, ℕ, List, [], length, inr, Bool, Some, true, IsTrue, ap, subst, sym, ◌∙◌, rules, arith}
use Rattle.std.specs.Prelude.{Err, is_ok}
use Rattle.std.specs.Io.KnownBytes.{prepend_known}
use Rattle.ht_inputs.proofs.Common.{InPort, IsTooLongLine, max_text_bytes, rest_of}
use Rattle.ht_ports.specs.Lines.{Next}
use Rattle.ht_ports.proofs.NextLaws.{next_some, next_none}
use Rattle.ht_inputs.proofs.JudgedLaws.{read_call, stops_at_long, stops_judged, takes_all, takes_enough, takes_more, takes_start}
use Rattle.ht_inputs.proofs.judged_file.read_lines.Goals as goal

pub lines-init : goal.lines-init
lines-init g c =
    let lines = c.in_ok-lines.lines in
    let made = c.in_ok-lines.ensures in
    let desk = g.D.Desk.view c.open.new.self in
    let rest : (text : List ℕ) → desk.left c.args.port ≡ Some text → rest_of lines desk ≡ Some text =
    λ text is. ap (λ l. rest_of l desk) made ∙ ap (prepend_known []) is in
    record {
      port = ap (λ l. l.port) made;
      max_len = ap (λ l. l.max_len) made ∙ c.longest.ensures;
      live = search rules;
      judges = c.requires;
      open_now = c.in_default.ensures.opened.is_open;
      frame = c.in_default.ensures.frame;
      there = c.in_default.ensures.opened.there;
      below = search rules;
      fits = search rules;
      counts = search rules;
      upto = omega arith;
      so_far = λ basis stands. takes_start (g.J.LineJudge.stands c.args.judge.now basis)
          (g.J.LineJudge.is_wrong basis) (ap (λ l. l.lines_read) made) (ap (λ l. l.bytes_read) made) stands
          (λ text is. rest text (c.in_default.ensures.opened.bytes text is.file is.known));
    }

pub lines-preserved : goal.lines-preserved
lines-preserved g c =
    let before = c.lines.invariant in
    let after = c.next.follows.lender-at-none in
    let a = g.D.Desk.view c.lines.desk in
    let b = g.D.Desk.view c.next.new.desk in
    let next : Next c.lines.lines after a b c.next.result = c.next.follows.holds-at-none in
    let gives = next_some next c.in-Ok-Some.is c.in-Ok-Some.field-0-is in
    let took = c.in_ok-take-in-Ok-Some.ensures in
    let port : after.port ≡ c.args.port = next.port ∙ before.port in
    let reads = c.in-Ok-Some.ensures.frame in
    let lives : after.live ≡ true = next.live ∙ ap is_ok c.in-Ok-Some.is in
    let live : IsTrue after.live = search rules in
    record {
      port = port;
      max_len = next.max_len ∙ before.max_len;
      live = live;
      judges = took.live;
      open_now = subst (λ (f : InPort → Bool). IsTrue (f c.args.port)) (sym reads.is_open) before.open_now;
      frame = read_call before.port before.frame reads;
      there = before.there;
      below = omega (arith, gives.lines_read, gives.bytes_read, gives.some, before.below);
      fits = gives.fits;
      counts = omega (arith, before.counts, gives.lines_read);
      upto = omega (arith, c.lines-test.true);
      so_far = λ basis stands.
          let t = before.so_far basis stands in
          let number : c.lines.number + 1 ≡ length t.lines + 1 = omega (arith, t.counted, before.counts) in
          let within : c.lines.number + 1 ≤ max_text_bytes =
          omega (arith, before.counts, before.below, gives.some, gives.bytes_read, gives.fits) in
          takes_more t gives (g.J.LineJudge.stands c.take.new.self basis)
          (took.stands basis t.lines t.stands number within)
          (took.fine basis t.lines t.stands number within);
    }

pub returns-in_err-take-in-Ok-Some-clause-stops : goal.returns-in_err-take-in-Ok-Some-clause-stops
returns-in_err-take-in-Ok-Some-clause-stops g c = λ basis stands.
    let before = c.lines.invariant in
    let t = before.so_far basis stands in
    let gives = next_some c.next.follows.holds-at-none c.in-Ok-Some.is c.in-Ok-Some.field-0-is in
    let number : c.lines.number + 1 ≡ length t.lines + 1 = omega (arith, t.counted, before.counts) in
    let within : c.lines.number + 1 ≤ max_text_bytes =
    omega (arith, before.counts, before.below, gives.some, gives.bytes_read, gives.fits) in
    let stops = stops_judged t gives g.J.LineJudge.error_at g.J.LineJudge.most_bytes {most = c.args.most}
    {e = c.in_err-take-in-Ok-Some.field-0.0} before.there
    (omega (arith, t.counted, before.counts, c.lines-test.true))
    (c.in_err-take-in-Ok-Some.ensures.wrong basis t.lines t.stands number within) in
    let is : c.from_residual-in_err-take-in-Ok-Some.result ≡ Err c.in_err-take-in-Ok-Some.field-0.0 = search rules in
    rw is stops

pub returns-in-Ok-None-clause-stands : goal.returns-in-Ok-None-clause-stands
returns-in-Ok-None-clause-stands g c = λ basis stands.
    let before = c.lines.invariant in
    let none = next_none c.next.follows.holds-at-none c.in-Ok-None.is c.in-Ok-None.field-0-is in
    let t = before.so_far basis stands in
    takes_all t c.args.most none before.below before.fits (omega (arith, t.counted, before.counts, before.upto))
    before.there

pub returns-in-Err-TooLong-clause-stops : goal.returns-in-Err-TooLong-clause-stops
returns-in-Err-TooLong-clause-stops g c = λ basis stands.
    let before = c.lines.invariant in
    let cause = rw c.in-Err-TooLong.field-0-is at c.in-Err-TooLong.ensures.cause in
    let long : (rest : List ℕ) → rest_of c.lines.lines (g.D.Desk.view c.lines.desk) ≡ Some rest
    → IsTooLongLine g.J.LineJudge.most_bytes c.lines.lines.bytes_read rest = λ rest is.
    subst (λ (m : ℕ). IsTooLongLine m c.lines.lines.bytes_read rest) before.max_len (cause.1 rest is) in
    inr (inr (inr (
      c.in-Err-TooLong.line,
      c.too_long.ensures,
      stops_at_long g.J.LineJudge.most_bytes c.in-Err-TooLong.line (before.so_far basis stands) before.there cause.0
          (omega (arith, before.counts, c.lines-test.true)) before.fits long,
    )))

-- the loop ends where there are enough
pub returns-clause-stands : goal.returns-clause-stands
returns-clause-stands g c = λ basis stands.
    let before = c.lines.invariant in
    takes_enough c.args.most (before.so_far basis stands) before.below before.fits
    (omega (arith, before.counts, before.upto, c.lines-test.false)) before.there
