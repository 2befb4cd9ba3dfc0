use Rattle.std.proofs.Common.{◌≡◌, ◌≢◌, ◌+◌, ◌++◌, ◌∷◌, ◌∙◌, [], ℕ, List, length, get_or, sym, ap, subst, arith, length-append}
use Rattle.std.proofs.lemmas.List.{get_or_append_left}
use Rattle.std.proofs.Math.Seq.{get_or-append_seam}
use Rattle.ht_compact.specs.declared.runners.Runner.{Runner}
use Rattle.ht_compact.specs.Kept.{continued}
use Rattle.ht_compact.specs.Runs.{AreContinued, runner_at}
use Rattle.ht_compact.proofs.EndLaws.{continued_more}
use Rattle.ht_compact.proofs.graded.continue_histories.Goals as goal

pub loop-runner-preserved : goal.loop-runner-preserved
loop-runner-preserved c =
    let runners = c.args.runners.items in
    let from = c.args.from in
    let rest = c.loop-runner.rest.items in
    let left = c.pop.new.self.items in
    let runner = c.in-Some.runner in
    let now = c.loop-runner.histories in
    let new = c.continue_one.new.histories in
    let none : Runner = record { place = 0; log = []; rest = 0 } in
    let items : rest ≡ left ++ runner ∷ [] = c.in-Some.ensures.items in
    let long : length rest ≡ length left + 1 =
    omega (arith, ap (λ (l : List Runner). length l) items, length-append left (runner ∷ [])) in
    let at : runner_at runners (length left) ≡ runner =
    sym (c.loop-runner.invariant.same (length left) (omega (arith, long)))
    ∙ (ap (λ (l : List Runner). runner_at l (length left)) items ∙ get_or-append_seam left runner [] none) in
    record {
      few = omega (arith, long, c.loop-runner.invariant.few);
      same = λ j less.
          sym (get_or_append_left left (runner ∷ []) none j less)
          ∙ (sym (ap (λ (l : List Runner). runner_at l j) items)
          ∙ c.loop-runner.invariant.same j (omega (arith, less, long)));
      done = continued_more runners from (length left) c.args.histories.now now new c.requires.places
          (omega (arith, long, c.loop-runner.invariant.few))
          (subst (λ (n : ℕ). AreContinued runners from n c.args.histories.now now) long c.loop-runner.invariant.done)
          c.in_ok-continue_one.ensures.every
          (subst (λ (r : Runner). get_or new r.place [] ≡ continued from (get_or now r.place []) r.log r.rest)
          (sym at) c.in_ok-continue_one.ensures.here)
          (subst (λ (r : Runner). (k : ℕ) → r.place ≢ k → get_or new k [] ≡ get_or now k []) (sym at)
          c.in_ok-continue_one.ensures.others);
    }
