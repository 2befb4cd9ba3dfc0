use Rattle.std.proofs.Common.{◌≡◌, false, length, get_or, rules, sym, subst, arith}
use Rattle.std.specs.Prelude.{IsTrue}
use Rattle.std.proofs.lemmas.Bool.{false≢true}
use Rattle.std.proofs.lemmas.List.{get_or_default}
use Rattle.ht_tern.specs.declared.tern.Tern.{Tern}
use Rattle.ht_tern.specs.declared.tern.Tern.TheVariants.{Zero, Unk}
use Rattle.ht_tern.specs.Gate.{Refines, tern_of}
use Rattle.ht_net.proofs.AllowedLaws.{allows_at, allows_long, allows_more}
use Rattle.ht_net.proofs.start.allows.Goals as goal

pub returns-then-start-state : goal.returns-then-start-state
returns-then-start-state c = (
  λ t. absurd (false≢true t),
  λ h. let same = allows_long c.args.start.now c.args.state.now h in search (rules, same),
)

pub returns-then-not-refines : goal.returns-then-not-refines
returns-then-not-refines c = (
  λ t. absurd (false≢true t),
  λ h.
      let start = c.args.start.now in
      let j = c.loop-j.j in
      let at = allows_at start c.args.state.now j c.loop-j-test.true h in
      let here : Refines c.from.result (get_or start j Zero) =
      subst (λ (v : Tern). Refines c.from.result v) (get_or_default start j Unk Zero c.loop-j-test.true)
      (subst (λ (v : Tern). Refines v (get_or start j Unk)) (sym c.from.ensures) at) in
      let yes = c.refines.ensures.1 here in
      search (rules, yes),
)

pub loop-j-preserved : goal.loop-j-preserved
loop-j-preserved c =
    let start = c.args.start.now in
    let j = c.loop-j.j in
    let same : length start ≡ length c.args.state.now = search rules in
    let yes : IsTrue c.refines.result = search rules in
    let here : Refines (tern_of (get_or c.args.state.now j false)) (get_or start j Zero) =
    subst (λ (v : Tern). Refines v (get_or start j Zero)) c.from.ensures (c.refines.ensures.0 yes) in
    allows_more start c.args.state.now j c.loop-j-test.true (omega (arith, same, c.loop-j-test.true))
    c.loop-j.invariant
    (subst (λ (v : Tern). Refines (tern_of (get_or c.args.state.now j false)) v)
    (sym (get_or_default start j Unk Zero c.loop-j-test.true)) here)
