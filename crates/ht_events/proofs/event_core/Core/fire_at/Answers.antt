use Rattle.std.proofs.lemmas.Grind.{elements}
use Rattle.std.proofs.Common.{◌≢◌, ◌<◌, inl, inr, ℕ, Ok, sym, ap, subst, arith}
use Rattle.std.proofs.lemmas.Bool.{cases_Bool}
use Rattle.std.proofs.lemmas.Bool.Decides.{eqb_tells}
use Rattle.ht_net.specs.Circuit.Netlist.{Netlist}
use Rattle.ht_events.specs.Items.{IsLoad, item_at, item_count}
use Rattle.ht_events.specs.Plans.{PlanState}
use Rattle.ht_events.specs.Pending.{IsPending, core_items}
use Rattle.ht_events.proofs.event_core.Core.fire_at.Goals as goal

pub returns-clause-agree : goal.returns-clause-agree
returns-clause-agree g c = λ agreed x here quiet.
    let s = c.args.self.now in
    let item : Netlist → ℕ = λ n. item_at n c.args.frame c.args.local in
    let e = c.in_ok-changed.ensures in
    let f = c.finish.ensures in
    let ec = c.requires.circuit in
    let ef = c.requires.frames in
    let known : x < core_items s = subst (λ (p : PlanState). x < item_count p.circuit p.frames) f.plan here in
    elim (eqb_tells x (item s.plan.circuit)) [
      | inl p ↦ subst (λ (y : ℕ). g.P.Plant.agrees c.recompute.new.self y) (sym p.1)
          (subst (λ (n : Netlist). g.P.Plant.agrees c.recompute.new.self (item n)) ec e.agrees)
      | inr p ↦
          let ne : x ≢ item s.plan.circuit = p.1 in
          let before : ¬ IsPending s x = λ h. elim (f.kept x known h) [ inl k ↦ quiet k | inr k ↦ ne k ] in
          let old = agreed x known before in
          let inside = subst (λ (n : ℕ). x < n) (sym (λ i. item_count (ec i) (ef i))) known in
          elim (cases_Bool c.in_ok-changed.changed) [
            | inl changed ↦
                e.others x inside
                (λ load. quiet (f.loads changed x
                (subst (λ (n : Netlist). IsLoad n s.plan.frames (item n) x) ec
                (subst (λ (k : ℕ). IsLoad (g.P.Plant.circuit c.args.plant.now) k
                (item (g.P.Plant.circuit c.args.plant.now)) x) ef load)))) old
            | inr same ↦ e.loads (ap Ok same) x inside old
          ]
    ]

pub finish-requires-clause-stands : goal.finish-requires-clause-stands
finish-requires-clause-stands g c = grind (arith, elements)
