-- The net that a fault touches is pending, and so are those that were.
use Rattle.std.specs.Prelude.{set}
use Rattle.std.proofs.Common.{◌≡◌, ◌≢◌, ◌<◌, ◌∙◌, ℕ, List, Bool, true, false, length, get_or, ap, sym, arith, Some, inl, inr}
use Rattle.std.proofs.lemmas.Bool.{cases_eq}
use Rattle.std.proofs.lemmas.List.{get_or-set_same, get_or-set_other}
use Rattle.ht_net.specs.declared.fault.Site.{Site}
use Rattle.ht_net.specs.Circuit.Netlist.{Netlist, net_count}
use Rattle.ht_events.specs.Schedules.{IsSchedule}
use Rattle.ht_group.specs.StuckTables.{forced_net_of}
use Rattle.ht_events.specs.declared.schedule.Schedule.{Schedule}

-- A net that isn't pending once the net that a fault touches is.
pub forced_pending : (c : Netlist) (s : Schedule) → IsSchedule c s → (site : Site) (net : ℕ) → forced_net_of c site
    ≡ Some net
    → (put pending : List Bool) → length put ≡ net_count c → pending ≡ set put (get_or s.ranks.items net 0) true
    → (r : ℕ) → r < net_count c → get_or pending r false ≡ false
    → (get_or put r false ≡ false) × (forced_net_of c site ≢ Some (get_or s.order.items r 0))
forced_pending c s is site net forced put pending marks set_one r inside idle =
    let rank = get_or s.ranks.items net 0 in
    let at = ap (λ (l : List Bool). get_or l r false) set_one in
    elim (cases_eq r (get_or s.ranks.items net 0)) [
      | inl e ↦
          let here : get_or (set put rank true) r false ≡ true =
          ap (λ (n : ℕ). get_or (set put rank true) n false) e
          ∙ get_or-set_same put rank true false (omega (arith, e, inside, marks)) in
          let bad : true ≡ false = sym here ∙ (sym at ∙ idle) in cc
      | inr ne ↦ (
        sym (get_or-set_other put rank r true false ne) ∙ (sym at ∙ idle),
        λ other.
            let same : Some net ≡ Some (get_or s.order.items r 0) = sym forced ∙ other in
            let is_net : net ≡ get_or s.order.items r 0 = cc in
            ne (sym (is.ranks.forth r inside) ∙ ap (λ (x : ℕ). get_or s.ranks.items x 0) (sym is_net)),
      )
    ]
