use Rattle.std.proofs.Common.{◌≡◌, ◌-◌, ℕ, sym, ◌∙◌, ap, subst, arith}
use Rattle.ht_compact.specs.declared.graded.GradedVectors.{GradedVectors}
use Rattle.ht_compact.specs.Kept.{without_run}
use Rattle.ht_compact.specs.Rounds.{longest_run}
use Rattle.ht_compact.specs.Compacts.{MissesOne, serves}
use Rattle.ht_compact.specs.GradedLists.{IsGradedWithout}
use Rattle.ht_compact.proofs.RoundLaws.{longest_here, longest_less, longest_none}
use Rattle.ht_compact.proofs.ServesLaws.{misses_fails}
use Rattle.ht_compact.proofs.GradedLaws.{without_serves}
use Rattle.ht_compact.proofs.compaction.leave_out_before.Goals as goal

pub returns-then-branch-clause-count : goal.returns-then-branch-clause-count
returns-then-branch-clause-count c =
    let circuit = c.args.circuit.now in
    let given = c.args.kept.now in
    let count = c.loop-count.count in
    let end = c.args.end in
    let without : IsGradedWithout circuit given (end - count) end c.leave_out_part.new.graded =
    subst (λ (g : GradedVectors). IsGradedWithout circuit g (end - count) end c.leave_out_part.new.graded)
    c.loop-count.invariant.same (c.in_ok-leave_out_part.ensures.left_out c.if-branch.true) in
    sym (c.loop-count.invariant.longest
    ∙ longest_here (serves circuit given.wanted.items) given.vectors.list end count
    (omega (arith, c.loop-count-test.true))
    (without_serves circuit given c.leave_out_part.new.graded (end - count) end without))

pub loop-count-preserved : goal.loop-count-preserved
loop-count-preserved c =
    let circuit = c.args.circuit.now in
    let given = c.args.kept.now in
    let count = c.loop-count.count in
    let end = c.args.end in
    let misses : MissesOne circuit given.wanted.items (without_run given.vectors.list (end - count) end) =
    subst (λ (g : GradedVectors). MissesOne circuit g.wanted.items (without_run g.vectors.list (end - count) end))
    c.loop-count.invariant.same (c.in_ok-leave_out_part.ensures.lost c.if-branch.false) in
    record {
      circuit = c.in_ok-leave_out_part.ensures.circuit;
      same = c.in_ok-leave_out_part.ensures.same c.if-branch.false ∙ c.loop-count.invariant.same;
      within = omega (arith, c.loop-count.invariant.within);
      longest = c.loop-count.invariant.longest
          ∙ longest_less (serves circuit given.wanted.items) given.vectors.list end count
          (omega (arith, c.loop-count-test.true))
          (misses_fails circuit given.wanted.items (without_run given.vectors.list (end - count) end) misses);
    }

pub returns-clause-count : goal.returns-clause-count
returns-clause-count c =
    let given = c.args.kept.now in
    let passes = serves c.args.circuit.now given.wanted.items in
    let none : c.loop-count.count ≡ 0 = omega (arith, c.loop-count-test.false) in
    sym (c.loop-count.invariant.longest
    ∙ (ap (λ (n : ℕ). longest_run passes given.vectors.list c.args.end n) none
    ∙ longest_none passes given.vectors.list c.args.end))
