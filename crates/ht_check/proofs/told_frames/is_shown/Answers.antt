use Rattle.std.proofs.Common.{◌≡◌, ◌↔◌, IsTrue, true, ap, sym, subst}
use Rattle.std.specs.List.{list_all}
use Rattle.ht_pairs.specs.Pairs.{differs}
use Rattle.ht_net.specs.Circuit.Netlist.{Netlist}
use Rattle.ht_tree.specs.Window.Places.{IsSpot, set_at}
use Rattle.ht_tree.specs.Record.ToldChains.{vars_of}
use Rattle.ht_tree.specs.Window.Variables.{may_two}
use Rattle.ht_tree.specs.Window.Windows.{SearchWindow}
use Rattle.ht_check.proofs.told_frames.is_shown.Goals as goal

pub shows-shown-requires-clause-one : goal.shows-shown-requires-clause-one
shows-shown-requires-clause-one c = ap (λ (w : SearchWindow). w.frames) c.in-Ok.ensures.window

pub shows-shown-requires-clause-place : goal.shows-shown-requires-clause-place
shows-shown-requires-clause-place c =
    subst (λ (n : Netlist). IsSpot n c.args.told.now.place)
    (sym (ap (λ (w : SearchWindow). w.circuit) c.in-Ok.ensures.window)) c.requires.place

pub returns-in-Ok-clause-shown : goal.returns-in-Ok-clause-shown
returns-in-Ok-clause-shown c =
    let told = c.args.told.now in
    subst (λ (w : SearchWindow). IsTrue c.shows-shown.result ↔ ((list_all (may_two w) (vars_of told.sets) ≡ true)
    × (list_all differs (set_at w c.args.path.now 0 told.place) ≡ true)))
    c.in-Ok.ensures.window
    c.shows-shown.ensures.shown
