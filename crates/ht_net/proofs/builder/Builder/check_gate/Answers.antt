use Rattle.std.proofs.Common.{◌+◌, refl, sym, ap, ◌∙◌, arith}
use Rattle.std.proofs.lemmas.Bool.{false≢true}
use Rattle.ht_net.proofs.KeptLaws.{pins_are}
use Rattle.ht_net.proofs.builder.Builder.check_gate.Goals as goal

pub returns-then-driven-clause-refusal : goal.returns-then-driven-clause-refusal
returns-then-driven-clause-refusal c = (refl, c.driven.ensures.0 c.if-driven.true)

pub returns-then-pins-gt-MAX_PINS-clause-refusal : goal.returns-then-pins-gt-MAX_PINS-clause-refusal
returns-then-pins-gt-MAX_PINS-clause-refusal c = (
  λ h. false≢true (sym c.if-driven.false ∙ c.driven.ensures.1 h),
  omega (arith, pins_are c.self.invariant c.self.view_is, c.if-pins-gt-MAX_PINS.true),
)

pub returns-clause-accepts : goal.returns-clause-accepts
returns-clause-accepts c = (
  λ h. false≢true (sym c.if-driven.false ∙ c.driven.ensures.1 h),
  omega (arith, pins_are c.self.invariant c.self.view_is, c.if-pins-gt-MAX_PINS.false),
)

pub returns-clause-pins : goal.returns-clause-pins
returns-clause-pins c = ap (λ n. n + c.args.arity) (sym (pins_are c.self.invariant c.self.view_is))
