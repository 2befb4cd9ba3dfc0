use Rattle.std.proofs.Common.{arith, List, Bool, length, sym, ◌∙◌, ap, subst}
use Rattle.std.proofs.lemmas.List.{with_items_is}
use Rattle.ht_cubes.specs.Rails.{IsCone}
use Rattle.ht_cubes.specs.Cones.{marked}
use Rattle.ht_cubes.proofs.ConeLaws.{cone_from}
use Rattle.ht_cubes.proofs.cone.cone_of.Goals as goal

pub close-requires : goal.close-requires
close-requires c = ap (λ (l : List Bool). length l) c.deref_mut.ensures.value ∙ c.in_ok-marks.ensures.long

pub returns-clause-cone : goal.returns-clause-cone
returns-clause-cone c =
    let n = c.args.circuit.now in
    let new : List Bool = c.close.new.marks in
    let before : List Bool = c.deref_mut.result.now in
    let items = with_items_is c.in_ok-marks.marks new (omega arith) in
    let P : List Bool → Type 0 = λ l. IsCone n c.args.fault (marked l) in
    subst P (sym items) (cone_from n c.args.fault c.in_ok-marks.marks.items before new c.deref_mut.ensures.value
    c.in_ok-marks.ensures.first c.in_ok-marks.ensures.reached c.close.ensures.grown c.close.ensures.closed)
