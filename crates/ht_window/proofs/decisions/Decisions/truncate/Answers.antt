use Rattle.std.proofs.Common.{◌∙◌, drop, ap, arith, length}
use Rattle.ht_trail.proofs.TrailLaws.{restored_length}
use Rattle.ht_window.specs.Standing.{Standing}
use Rattle.ht_window.proofs.ValueLaws.{value_undo}
use Rattle.ht_window.proofs.decisions.Decisions.truncate.Goals as goal

pub invariant_of-self : goal.invariant_of-self
invariant_of-self c =
    let a = c.self.inside in
    let i = c.self.invariant in
    let u = c.undo.ensures in
    let r = c.requires in
    let n = ap (λ (s : Standing). length s.path) c.self.view_is in
    record {
      window = i.window;
      few_frames = i.few_frames;
      room = ap length u.values ∙ (restored_length a.values.values (drop c.args.count a.values.trail) ∙ i.room);
      history = value_undo a.values c.undo.new.self a.path.items c.truncate.new.self.items c.args.count
          (omega (arith, r, n)) c.truncate.ensures.items u.values u.trail i.history;
    }
