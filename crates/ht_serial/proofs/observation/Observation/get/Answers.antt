use Rattle.std.proofs.Common.{◌≡◌, ◌<◌, ◌∙◌, [], List, Vec, length, get_or, ap, arith, sym}
use Rattle.std.specs.declared.alloc.Global.{Global}
use Rattle.std.proofs.lemmas.List.{get_or-map, length-map}
use Rattle.ht_tern.specs.declared.tern.Tern.{Tern}
use Rattle.ht_serial.specs.ObservationOf.{value_rows}
use Rattle.ht_serial.specs.ObservationView.{ObservationView}
use Rattle.ht_serial.proofs.observation.Observation.get.Goals as goal

pub returns-clause-width : goal.returns-clause-width
returns-clause-width c =
    let rows = c.self.inside.rows.items in
    let items = λ (r : Vec Tern Global). r.items in
    let count : length (value_rows rows) ≡ length rows = length-map rows items in
    let known = ap (λ (o : ObservationView). length o.rows) c.self.view_is in
    let inside : c.args.t < length (value_rows rows) = omega (arith, known, c.requires) in
    let below : c.args.t < length rows = omega arith in
    let row : c.deref.result.now ≡ get_or (value_rows rows) c.args.t [] = c.deref.ensures.value
    ∙ (ap items c.index.ensures ∙ sym (get_or-map items rows c.args.t c.index.result.now [] below)) in
    ap (λ (l : List Tern). length l) row
    ∙ (c.self.invariant c.args.t inside ∙ ap (λ (o : ObservationView). o.width) c.self.view_is)
