use Rattle.std.proofs.Common.{ℕ, List, Option, Bool, length, sym, subst}
use Rattle.std.specs.List.{All}
use Rattle.std.specs.Prelude.{◌↔◌, IsTrue}
use Rattle.ht_trail.specs.Trails.{CellsState, IsLater}
use Rattle.ht_trail.proofs.TrailLaws.{later_more}
use Rattle.ht_cubes.specs.declared.signed_var.SignedVar.{SignedVar}
use Rattle.ht_cubes.specs.Steps.{StepPasses}
use Rattle.ht_cubes.specs.Values.{IsBelow}
use Rattle.ht_cubes.proofs.HintLaws.{step_tried, step_denied}
use Rattle.ht_cubes.proofs.steps.step_passes.Goals as goal
use Rattle.ht_cubes.proofs.steps.step_passes.Goals.{then-passes+in_ok-passes-2, else-passes}

pub deny-requires-clause-below : goal.deny-requires-clause-below
deny-requires-clause-below c =
    let P : List SignedVar → Type 0 = λ l. IsBelow (length c.args.values.now.values) l in
    subst P (sym c.as_slice.ensures) c.requires.step

pub clash-requires : goal.clash-requires
clash-requires c =
    let P : ℕ → Type 0 = λ n. All (IsBelow n) c.args.rows.now in
    record { below = subst P (sym c.in_ok-passes.ensures.long) c.requires.rows }

later : (c : goal.After-undo) → IsLater c.args.values.now c.if-passes.values
later c =
    let P : CellsState (Option Bool) → Type 0 = λ v. IsLater c.args.values.now v in
    elim c.if-passes.branch [
      | then-passes+in_ok-passes-2 w ↦ subst P (sym w.values-is)
          (later_more c.args.values.now c.deny.new.values w.clash.new.values c.deny.ensures.later w.clash.ensures.later)
      | else-passes w ↦ subst P (sym w.values-is) c.deny.ensures.later
    ]

pub returns-clause-kept : goal.returns-clause-kept
returns-clause-kept c = c.undo.ensures.exact c.args.values.now (later c) c.mark-mark.ensures

pub returns-clause-exact : goal.returns-clause-exact
returns-clause-exact c =
    let step = c.args.step.now in
    let P : Bool → Type 0 = λ b. IsTrue b ↔ StepPasses c.args.rows.now step in
    elim c.if-passes.branch [
      | then-passes+in_ok-passes-2 w ↦ subst P (sym w.passes-is)
          (step_tried c.args.rows.now step c.as_slice.result.now w.as_slice-then-passes.result.now
          c.deny.new.values.values w.in_ok-passes-2.passes c.as_slice.ensures w.as_slice-then-passes.ensures
          (c.in_ok-passes.ensures.plain.0 w.if-passes.true) (c.in_ok-passes.ensures.denied w.if-passes.true)
          w.in_ok-passes-2.ensures.exact)
      | else-passes w ↦ subst P (sym w.passes-is)
          (step_denied c.args.rows.now step c.as_slice.result.now c.in_ok-passes.passes c.as_slice.ensures
          c.in_ok-passes.ensures.plain w.if-passes.false)
    ]
