use Rattle.std.specs.Prelude.{◌≡◌, List, Bool, length}
use Rattle.std.proofs.Common.{ap, subst, sym, ◌∙◌}
use Rattle.ht_tern.specs.declared.tern.Tern.{Tern}
use Rattle.ht_net.specs.Detect.Detection.{some_state}
use Rattle.ht_net.proofs.SilenceLaws.{some_long}
use Rattle.ht_tree.specs.Clause.Invariants.{IsInvariant}
use Rattle.ht_invariant.specs.FoundClauses.{FindsClauses}
use Rattle.ht_engine.proofs.engine.find_named.Goals as goal

-- the state that is named has a bit for each latch
pub find-requires : goal.find-requires
find-requires c =
    ap (λ (s : List Bool). length s) (c.deref.ensures.value ∙ c.in_ok-named.ensures)
    ∙ (some_long c.as_slice-start.result.now
    ∙ (ap (λ (s : List Tern). length s) c.as_slice-start.ensures ∙ c.requires))

pub returns-clause-found : goal.returns-clause-found
returns-clause-found c =
    let made = c.in_ok-named_invariant.ensures in
    let named : c.deref.result.now ≡ some_state c.args.settings.now.start =
    c.deref.ensures.value ∙ (c.in_ok-named.ensures ∙ ap some_state c.as_slice-start.ensures) in
    record {
      state = made.state ∙ named;
      found = subst (λ (s : List Bool). FindsClauses c.args.circuit.now c.args.settings.now.budget s
          c.in_ok-named_invariant.named_invariant.clauses) named made.clauses;
    }

pub returns-clause-holds : goal.returns-clause-holds
returns-clause-holds c = λ some.
    let made = c.in_ok-named_invariant.ensures in
    subst (λ (s : List Bool). IsInvariant c.args.circuit.now s c.in_ok-named_invariant.named_invariant.clauses)
    (sym made.state) (made.holds some)
