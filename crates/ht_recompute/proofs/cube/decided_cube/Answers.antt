use Rattle.std.proofs.Common.{◌≡◌, ◌+◌, ◌∙◌, ℕ, List, Option, None, get_or, length, ap, arith}
use Rattle.ht_tern.specs.declared.tern.Tern.{Tern}
use Rattle.ht_tern.specs.declared.tern.Tern.TheVariants.{Unk}
use Rattle.ht_tree.specs.Window.Decisions.{decided_value}
use Rattle.ht_tree.specs.Window.Nodes.{or_unknown}
use Rattle.ht_tree.proofs.MemberLaws.{listed_by}
use Rattle.ht_recompute.proofs.cube.decided_cube.Goals as goal

pub returns-clause-cube : goal.returns-clause-cube
returns-clause-cube c =
    let n = c.args.circuit.now in
    let ds : List (Option Tern) = c.write_decisions.new.decisions in
    let cube : List Tern = c.write_cube.new.cube in
    let long = c.requires.cube in
    let room = c.requires.room in
    let kept = c.write_decisions.ensures.room in
    listed_by (λ j. or_unknown (decided_value c.args.path.now (n.inputs + j))) 0 (length n.dffs) cube Unk
    (omega (arith, long))
    (λ j below. let at : j ≡ 0 + j = omega arith in
    c.write_cube.ensures j (omega (arith, long, below))
    ∙ (ap (λ (first : ℕ). or_unknown (get_or ds (first + j) None)) c.inputs.ensures
    ∙ (ap or_unknown (c.write_decisions.ensures.written (n.inputs + j) (omega (arith, room, kept, below)))
    ∙ ap (λ (k : ℕ). or_unknown (decided_value c.args.path.now (n.inputs + k))) at)))
