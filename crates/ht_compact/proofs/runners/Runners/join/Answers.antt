use Rattle.std.proofs.Common.{◌≡◌, ◌⊎◌, ◌+◌, ℕ, List, true, subst}
use Rattle.ht_group.specs.declared.diffs.Diff.{Diff}
use Rattle.ht_compact.specs.declared.moment.Moment.{Moment}
use Rattle.ht_compact.specs.Runs.{HasMet, HaveJoined}
use Rattle.ht_compact.proofs.RunLaws.{joined_run, meets}
use Rattle.ht_compact.proofs.runners.Runners.join.Goals as goal

pub returns-then-self-clause-run : goal.returns-then-self-clause-run
returns-then-self-clause-run c = λ circuit from to n may at inside are.
    let graded = c.args.graded.now in
    let self = c.args.self.now in
    let met = c.meet.new.self in
    let meeting : met.joined ≡ true
    → (self.joined ≡ true) ⊎ HasMet graded.moments.items (to + n) self.latches.items =
    subst (λ (k : ℕ). met.joined ≡ true → (self.joined ≡ true) ⊎ HasMet graded.moments.items k self.latches.items) at
    (subst (λ (l : List Moment). met.joined ≡ true → (self.joined ≡ true) ⊎ HasMet l c.args.t self.latches.items)
    c.deref.ensures.value c.meet.ensures.met) in
    let joined : HaveJoined graded.histories.items (to + n) met c.end_joined.new.self =
    subst (λ (k : ℕ). HaveJoined graded.histories.items k met c.end_joined.new.self) at
    (subst (λ (l : List (List (List Diff))). HaveJoined l c.args.t met c.end_joined.new.self)
    c.deref-then-self.ensures.value c.end_joined.ensures) in
    joined_run circuit graded from to n met c.end_joined.new.self may inside
    (meets circuit graded from to n self met may inside are c.meet.ensures.same c.meet.ensures.stays meeting)
    c.if-self.true joined
