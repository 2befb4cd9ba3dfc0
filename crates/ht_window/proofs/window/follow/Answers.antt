use Rattle.std.proofs.lemmas.Grind.{common_steps, elements}
use Rattle.std.proofs.Common.{◌≡◌, ◌∙◌, ℕ, List, ap, sym, arith, subst}
use Rattle.ht_pairs.specs.Pairs.{Pair}
use Rattle.ht_net.specs.Circuit.Netlist.{Netlist}
use Rattle.ht_trail.specs.Trails.{CellsState, IsLater}
use Rattle.ht_trail.proofs.TrailLaws.{later_more}
use Rattle.ht_tree.specs.declared.token.Assign3.{Assign3}
use Rattle.ht_tree.specs.Window.Windows.{SearchWindow, IsWindow}
use Rattle.ht_events.specs.Plans.{PlanState}
use Rattle.ht_events.specs.Items.{item_count, IsReader}
use Rattle.ht_events.specs.Pending.{QuietAgree}
use Rattle.ht_window.specs.Holding.{item_agrees}
use Rattle.ht_window.proofs.LegalLaws.{legal_frame, legal_net}
use Rattle.ht_window.proofs.FollowLaws.{settled_all, follow_agrees, follow_cells}
use Rattle.ht_window.proofs.window.follow.Goals as goal

pub write-requires-clause-frame : goal.write-requires-clause-frame
write-requires-clause-frame c =
    let e = c.in_ok-push.ensures.window in
    let f = c.var_place-frame.ensures.frame in
    let l = legal_frame c.push.new.self.standing.window (subst IsWindow (sym e) c.decisions.ensures.window) c.args.var in
    omega (arith, f, l)

pub touch_loads-requires-clause-frame : goal.touch_loads-requires-clause-frame
touch_loads-requires-clause-frame c =
    let e = c.in_ok-push.ensures.window in
    let f = c.var_place-frame.ensures.frame in
    let l = legal_frame c.push.new.self.standing.window (subst IsWindow (sym e) c.decisions.ensures.window) c.args.var in
    let n = ap (λ (w : SearchWindow). w.frames) e in
    let k = c.requires.frames in
    omega (arith, f, l, n, k)

pub returns-in_err-settle-clause-later : goal.returns-in_err-settle-clause-later
returns-in_err-settle-clause-later c =
    later_more c.args.held.now.cells c.write.new.self.cells c.settle.new.plant.cells
    (subst (λ (s : CellsState (List Pair)). IsLater s c.write.new.self.cells) c.in_ok-push.ensures.cells
    c.in_ok-write.ensures.later) c.in_err-settle.ensures.keeps.later

pub returns-clause-later : goal.returns-clause-later
returns-clause-later c =
    later_more c.args.held.now.cells c.write.new.self.cells c.settle.new.plant.cells
    (subst (λ (s : CellsState (List Pair)). IsLater s c.write.new.self.cells) c.in_ok-push.ensures.cells
    c.in_ok-write.ensures.later) c.in_ok-settle.ensures.keeps.later

pub returns-clause-cells : goal.returns-clause-cells
returns-clause-cells c =
    let a = c.args.held.now in
    let w = a.standing.window in
    let d : Assign3 = record { var = c.args.var; value = c.args.choice } in
    let p = c.in_ok-push.ensures in
    let q = c.in_ok-write.ensures in
    let v = c.var_place-frame.ensures in
    let t = c.touch_loads.ensures in
    let s = c.in_ok-settle.ensures in
    let b = c.touch_loads.new.self in
    let r = c.settle.new.plant in
    let f = c.var_place-frame.result.0 in
    let x = c.var_place-frame.result.1 in
    let n = legal_net w c.args.var c.args.choice c.requires.legal in
    let circuit : b.plan.circuit ≡ w.circuit = ap (λ (p : PlanState). p.circuit) t.plan ∙ c.requires.circuit in
    let frames : b.plan.frames ≡ w.frames = ap (λ (p : PlanState). p.frames) t.plan ∙ c.requires.frames in
    let count : item_count b.plan.circuit b.plan.frames ≡ item_count w.circuit w.frames =
    (λ i. item_count (circuit i) (frames i)) in
    let known = c.decisions.ensures in
    let quiet : QuietAgree b (item_agrees c.write.new.self) = λ y ys free.
    follow_agrees a c.push.new.self c.write.new.self d known.window known.count c.requires.closed c.requires.cells
    (omega (arith, n)) p.window p.relevant p.cells p.ok f x v.frame v.net q.standing q.relevant q.values y (omega (arith, ys, count))
    (λ r. free (t.loads y (subst (λ (k : ℕ). IsReader c.args.core.now.plan.circuit k f x y) (sym c.requires.frames)
    (subst (λ (n : Netlist). IsReader n w.frames f x y) (sym c.requires.circuit) r)))) in
    follow_cells a c.push.new.self c.write.new.self d known.window known.count c.requires.closed c.requires.cells
    (omega (arith, n)) p.window p.relevant p.cells p.ok f x v.frame v.net q.standing q.relevant q.values r s.keeps
    (settled_all b c.settle.new.self w c.write.new.self r s.plan circuit frames quiet s.agree s.none)

pub returns-in_err-push-clause-before : goal.returns-in_err-push-clause-before
returns-in_err-push-clause-before c = grind (arith, elements)

pub returns-in_err-write-clause-before : goal.returns-in_err-write-clause-before
returns-in_err-write-clause-before c = grind (arith, common_steps)

pub returns-in_err-settle-clause-before : goal.returns-in_err-settle-clause-before
returns-in_err-settle-clause-before c = grind (arith, common_steps)

pub returns-clause-before : goal.returns-clause-before
returns-clause-before c = grind (arith, common_steps)

pub returns-clause-trail : goal.returns-clause-trail
returns-clause-trail c = grind (arith, elements)
