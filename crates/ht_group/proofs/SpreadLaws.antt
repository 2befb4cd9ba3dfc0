-- The good machine in every lane: each net has its value.
use Rattle.std.specs.List.{slice_get}
use Rattle.std.proofs.Common.{◌≡◌, ◌<◌, ◌∙◌, ℕ, List, [], get_or, take, drop, ap, sym, subst, arith, None}
use Rattle.std.proofs.lemmas.Option.{slice_get_past}
use Rattle.ht_tern.specs.declared.tern.Tern.{Tern}
use Rattle.ht_tern.specs.declared.tern.Tern.TheVariants.{Unk}
use Rattle.ht_net.specs.declared.fault.Fault.{Fault}
use Rattle.ht_net.specs.Circuit.Netlist.{Netlist, net_count, IsCircuit}
use Rattle.ht_net.specs.Frames.Frame.{Rules, net_value}
use Rattle.ht_net.specs.Frames.Faults.{tern_rules}
use Rattle.ht_group.specs.LaneRules.{rules_at, HasItsValue}
use Rattle.ht_group.proofs.DriveLaws.{frame_has_values, drive_same, read_known}

-- a lane without a fault has the good machine
pub good_has_values : (c : Netlist) → IsCircuit c → (faults : List Fault) (k : ℕ) → faults ≡ []
    → (sources values : List Tern)
    → ((x : ℕ) → x < net_count c → get_or values x Unk
    ≡ net_value c (tern_rules None) (take c.inputs sources) (drop c.inputs sources) x)
    → (x : ℕ) → x < net_count c → HasItsValue c (rules_at faults k) sources (λ y. get_or values y Unk) x
good_has_values c circuit faults k none sources values are x inside =
    let r = tern_rules None in
    let good : tern_rules None ≡ rules_at faults k =
    sym (ap tern_rules (ap (λ (l : List Fault). slice_get l k) none ∙ slice_get_past [] k (omega arith))) in
    let e = net_value c (tern_rules None) (take c.inputs sources) (drop c.inputs sources) in
    let f = λ (y : ℕ). get_or values y Unk in
    subst (λ (s : Rules Tern). HasItsValue c s sources (λ y. get_or values y Unk) x) good
    (are x inside ∙ (frame_has_values c circuit r sources x inside
    ∙ ap (r.stem x) (drive_same c r sources e f x inside (λ z read. sym (are z (read_known c circuit x z read))))))
