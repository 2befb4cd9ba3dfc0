use Rattle.std.proofs.Common.{◌≡◌, ◌+◌, ◌∙◌, ℕ, List, length, rules, refl, sym, ap, subst, arith}
use Rattle.std.proofs.lemmas.List.{with_items_is}
use Rattle.ht_net.specs.Frames.Rows.{Rows}
use Rattle.ht_group.specs.declared.diffs.Diff.{Diff}
use Rattle.ht_compact.specs.Kept.{continued}
use Rattle.ht_compact.specs.GradedLists.{shorter}
use Rattle.ht_compact.specs.Runs.{AreContinued}
use Rattle.ht_compact.proofs.EndLaws.{left_out}
use Rattle.ht_compact.proofs.graded.GradedVectors.leave_out.Goals as goal

pub continue_histories-requires-clause-known : goal.continue_histories-requires-clause-known
continue_histories-requires-clause-known c = λ j less. omega (
  arith,
  (c.requires.ended.of_fault j less).part.inside,
  c.requires.may.wanted.every,
  ap (λ (l : List (List (List Diff))). length l) c.deref_mut.ensures.value,
)

pub continue_histories-requires-clause-order : goal.continue_histories-requires-clause-order
continue_histories-requires-clause-order c = λ j less. (c.requires.ended.each j less).order

pub returns : goal.returns
returns c =
    let circuit = c.args.circuit.now in
    let self = c.args.self.now in
    let from = c.args.part.from in
    let to = c.args.part.to in
    let run = c.args.run in
    let rows : ℕ → Rows = λ n. record { width = n; list = shorter self from to } in
    let new = c.continue_histories.new.histories in
    let count : c.len.result ≡ length run.moments.items = omega (arith, c.len.ensures, run.moments.ok.0) in
    left_out circuit self _ from to run c.requires.may c.requires.ended c.requires.settled
    (c.in_ok-shorter.ensures ∙ ap rows c.inputs.ensures) refl refl
    (c.in_ok-replace.ensures
    ∙ ap (λ (k : ℕ). continued from self.moments.items run.moments.items (to + k)) count)
    (subst (AreContinued run.runners.items from 0 self.histories.items)
    (sym (with_items_is self.histories new (search rules)))
    (subst (λ (l : List (List (List Diff))). AreContinued run.runners.items from 0 l new) c.deref_mut.ensures.value
    c.in_ok-continue_histories.ensures))
