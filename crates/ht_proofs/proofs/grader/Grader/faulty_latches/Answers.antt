use Rattle.std.proofs.Common.{◌≡◌, ◌<◌, ◌+◌, ◌∙◌, ◌++◌, [], ◌∷◌, ℕ, List, length, get_or, take, sym, ap, arith}
use Rattle.std.proofs.lemmas.List.{take_all, take_more}
use Rattle.ht_tern.specs.declared.tern.Tern.{Tern}
use Rattle.ht_tern.specs.declared.tern.Tern.TheVariants.{Unk}
use Rattle.ht_proofs.specs.PackedView.{PackedView, state_at}
use Rattle.ht_proofs.proofs.PackedLaws.{state_long}
use Rattle.ht_proofs.proofs.grader.Grader.faulty_latches.Goals as goal
use Rattle.ht_proofs.proofs.grader.Grader.faulty_latches.Goals.{At-loop-j}

-- a value for each latch
long : (c : At-loop-j) → length (state_at c.args.self.now c.args.k) ≡ length c.self.inside.latches.items
long c =
    let a = c.self.inside in
    let faults = ap (λ (g : PackedView). length g.faults) c.self.view_is in
    ap (λ (g : PackedView). length (state_at g c.args.k)) (sym c.self.view_is)
    ∙ state_long a.latches.items a.grades.items c.args.k (omega (
      arith,
      c.requires,
      faults,
      c.self.invariant.grade_count,
    ))

-- one value more
taken : (state done new : List Tern) (j : ℕ) (value : Tern) → done ≡ take j state → new ≡ done ++ value ∷ []
    → value ≡ get_or state j Unk → j < length state → new ≡ take (j + 1) state
taken state done new j value so_far pushed is inside =
    pushed ∙ (ap (λ (l : List Tern). l ++ value ∷ []) so_far
    ∙ (ap (λ v. take j state ++ v ∷ []) is ∙ sym (take_more state j Unk inside)))

pub loop-j-preserved : goal.loop-j-preserved
loop-j-preserved c =
    taken (state_at c.args.self.now c.args.k) c.loop-j.latches.items c.push.new.self.items c.loop-j.j c.state.result
    c.loop-j.invariant c.in_ok-push.ensures.items c.state.ensures (omega (
      arith,
      c.loop-j-test.true,
      c.dffs-j-end.ensures,
      c.self.invariant.latch_count,
      long (goal.at.loop-j-preserved c).At-loop-j,
    ))

pub returns-clause-state : goal.returns-clause-state
returns-clause-state c =
    c.loop-j.invariant ∙ take_all c.loop-j.j (state_at c.args.self.now c.args.k) (omega (
      arith,
      c.loop-j-test.false,
      c.dffs-j-end.ensures,
      c.self.invariant.latch_count,
      long (goal.at.returns-clause-state c).At-loop-j,
    ))

pub returns-clause-each : goal.returns-clause-each
returns-clause-each c =
    let each = long (goal.at.returns-clause-each c).At-loop-j in
    ap (λ (l : List Tern). length l) (c.loop-j.invariant ∙ take_all c.loop-j.j (state_at c.args.self.now c.args.k)
    (omega (
      arith,
      c.loop-j-test.false,
      c.dffs-j-end.ensures,
      c.self.invariant.latch_count,
      each,
    )))
    ∙ (each ∙ (c.self.invariant.latch_count ∙ ap (λ (g : PackedView). length g.circuit.dffs) c.self.view_is))
