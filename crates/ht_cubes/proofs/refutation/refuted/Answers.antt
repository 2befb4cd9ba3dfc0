use Rattle.std.proofs.Common.{◌≡◌, List, Bool, false, sym, subst}
use Rattle.std.specs.Prelude.{◌↔◌, IsTrue}
use Rattle.std.proofs.lemmas.Bool.{both_ways, false≢true}
use Rattle.ht_net.specs.declared.fault.Fault.{Fault}
use Rattle.ht_net.specs.Circuit.Netlist.{Netlist}
use Rattle.ht_cubes.specs.Cones.{marked}
use Rattle.ht_cubes.specs.Rails.{IsCone}
use Rattle.ht_cubes.specs.Passing.{RefutesByCubes}
use Rattle.ht_cubes.proofs.PassLaws.{known_here, clauses_below, within_last, refutes_exactly, passing_excludes}
use Rattle.ht_cubes.proofs.refutation.refuted.Goals as goal

-- the cone by marks, which are read as a slice
cone_of_slice : {c : Netlist} {fault : Fault} {marks slice : List Bool} → slice ≡ marks → IsCone c fault (marked marks)
    → IsCone c fault (marked slice)
cone_of_slice {c} {fault} is cone = let P : List Bool → Type 0 = λ l. IsCone c fault (marked l) in subst P (sym is) cone

-- what needs a test that fails doesn't pass
none_passes : {P Q : Type 0} (test : Bool) → test ≡ false → IsTrue test ↔ Q → (P → Q) → IsTrue false ↔ P
none_passes test off tells needs =
    ((λ wrong. absurd (false≢true wrong)), (λ h. absurd (both_ways test off (tells.1 (needs h)))))

pub returns-then-not-are_known-clause-exact : goal.returns-then-not-are_known-clause-exact
returns-then-not-are_known-clause-exact c =
    let is = cone_of_slice c.as_slice-cone.ensures.value c.in_ok-marks.ensures.cone in
    none_passes c.are_known.result c.if-not-are_known.true c.are_known.ensures
    (λ (h : RefutesByCubes _ _ _ _ _). known_here is h)

pub returns-then-not-avoids_all-clause-exact : goal.returns-then-not-avoids_all-clause-exact
returns-then-not-avoids_all-clause-exact c = none_passes c.avoids_all.result c.if-not-avoids_all.true
    c.avoids_all.ensures (λ (h : RefutesByCubes _ _ _ _ _). h.starts)

pub returns-then-not-ends_empty-clause-exact : goal.returns-then-not-ends_empty-clause-exact
returns-then-not-ends_empty-clause-exact c = none_passes c.ends_empty.result c.if-not-ends_empty.true
    c.ends_empty.ensures (λ (h : RefutesByCubes _ _ _ _ _). h.ends)

pub returns-then-not-are_within-clause-exact : goal.returns-then-not-are_within-clause-exact
returns-then-not-are_within-clause-exact c =
    let is = cone_of_slice c.as_slice-cone.ensures.value c.in_ok-marks.ensures.cone in
    let e = c.in_ok-formula.ensures in
    none_passes c.are_within.result c.if-not-are_within.true c.are_within.ensures
    (λ (h : RefutesByCubes _ _ _ _ _). within_last _ _ _ _ e.clauses e.last is h)

pub steps_pass-requires-clause-rows : goal.steps_pass-requires-clause-rows
steps_pass-requires-clause-rows c =
    let e = c.in_ok-formula.ensures in
    clauses_below c.args.circuit.now c.args.fault c.args.cubes.now (marked c.as_slice-cone.result.now) e.clauses e.last
    c.nets.ensures.circuit (c.are_known.ensures.0 c.if-not-are_known.false)

pub steps_pass-requires-clause-steps : goal.steps_pass-requires-clause-steps
steps_pass-requires-clause-steps c = c.are_within.ensures.0 c.if-not-are_within.false

pub returns : goal.returns
returns c =
    let n = c.args.circuit.now in
    let fault = c.args.fault in
    let start = c.args.start.now in
    let cubes = c.args.cubes.now in
    let steps = c.args.steps.now in
    let is = cone_of_slice c.as_slice-cone.ensures.value c.in_ok-marks.ensures.cone in
    let e = c.in_ok-formula.ensures in
    let exact = refutes_exactly n fault start cubes steps e.clauses e.last is
    (c.are_known.ensures.0 c.if-not-are_known.false) (c.avoids_all.ensures.0 c.if-not-avoids_all.false)
    (c.ends_empty.ensures.0 c.if-not-ends_empty.false) (c.are_within.ensures.0 c.if-not-are_within.false)
    c.in_ok-passes.passes c.in_ok-passes.ensures in
    record {
      exact = exact;
      sound = λ so. passing_excludes n fault start cubes steps c.nets.ensures.circuit c.requires (exact.0 so);
    }
