use Rattle.std.proofs.Common.{refl, sym, ◌∙◌, arith}
use Rattle.std.proofs.lemmas.Bool.{false≢true}
use Rattle.ht_net.proofs.KeptLaws.{dff_count, pins_are}
use Rattle.ht_net.proofs.builder.Builder.check_dff.Goals as goal

pub returns-then-driven-clause-refusal : goal.returns-then-driven-clause-refusal
returns-then-driven-clause-refusal c = (refl, c.driven.ensures.0 c.if-driven.true)

pub returns-then-self-eq-MAX_PINS-clause-refusal : goal.returns-then-self-eq-MAX_PINS-clause-refusal
returns-then-self-eq-MAX_PINS-clause-refusal c = (
  λ h. false≢true (sym c.if-driven.false ∙ c.driven.ensures.1 h),
  pins_are c.self.invariant c.self.view_is ∙ c.if-self-eq-MAX_PINS.true,
)

pub returns-then-len-eq-MAX_DFFS-clause-refusal : goal.returns-then-len-eq-MAX_DFFS-clause-refusal
returns-then-len-eq-MAX_DFFS-clause-refusal c =
    let few = c.self.invariant.few_pins in (
      λ h. false≢true (sym c.if-driven.false ∙ c.driven.ensures.1 h),
      omega (arith, few, pins_are c.self.invariant c.self.view_is, c.if-self-eq-MAX_PINS.false),
      omega (arith, dff_count c.self.invariant c.self.view_is, c.len.ensures, c.if-len-eq-MAX_DFFS.true),
    )

pub returns-clause-accepts : goal.returns-clause-accepts
returns-clause-accepts c =
    let few = c.self.invariant.few_dffs in
    let few_pins = c.self.invariant.few_pins in (
      λ h. false≢true (sym c.if-driven.false ∙ c.driven.ensures.1 h),
      omega (arith, few_pins, pins_are c.self.invariant c.self.view_is, c.if-self-eq-MAX_PINS.false),
      omega (arith, few, dff_count c.self.invariant c.self.view_is, c.len.ensures, c.if-len-eq-MAX_DFFS.false),
    )
