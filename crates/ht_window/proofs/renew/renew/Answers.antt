use Rattle.std.proofs.Common.{◌<◌, ◌∙◌, ap, sym, subst}
use Rattle.ht_net.specs.Circuit.Netlist.{net_count}
use Rattle.ht_window.specs.Holding.{HeldState}
use Rattle.ht_window.specs.Renewals.{HoldsOrPends, IsRenewed}
use Rattle.ht_window.proofs.RenewLaws.{renewed_write}
use Rattle.ht_window.proofs.renew.renew.Goals as goal

-- what the write leaves, over the cells that `holds_value` has read
written : (c : goal.After-touch_loads) → IsRenewed c.args.core.now c.holds_value.new.self c.touch_loads.new.self
    c.write.new.self
    × HoldsOrPends c.touch_loads.new.self c.write.new.self c.args.frame c.args.net
written c =
    let h = c.holds_value.new.self in
    let e = c.holds_value.ensures.same in
    let q = c.in_ok-write.ensures in
    let t = c.touch_loads.ensures in
    renewed_write c.args.core.now c.touch_loads.new.self h c.write.new.self q.window q.count c.args.frame c.args.net
    (subst (λ (a : HeldState). c.args.frame < a.standing.window.frames) (sym e) c.requires.frame)
    (subst (λ (a : HeldState). c.args.net < net_count a.standing.window.circuit) (sym e) c.requires.net)
    (c.requires.plan.circuit ∙ sym (ap (λ (a : HeldState). a.standing.window.circuit) e))
    (c.requires.plan.frames ∙ sym (ap (λ (a : HeldState). a.standing.window.frames) e))
    q.standing q.relevant q.values t.plan t.more t.loads

pub returns-clause-renewed : goal.returns-clause-renewed
returns-clause-renewed c =
    subst (λ (a : HeldState). IsRenewed c.args.core.now a c.touch_loads.new.self c.write.new.self)
    c.holds_value.ensures.same (written c).0

pub returns-clause-holds : goal.returns-clause-holds
returns-clause-holds c = (written c).1
