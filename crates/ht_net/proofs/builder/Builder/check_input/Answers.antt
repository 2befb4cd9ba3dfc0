use Rattle.std.proofs.Common.{refl, sym, ◌∙◌, arith}
use Rattle.std.proofs.lemmas.Bool.{false≢true}
use Rattle.ht_net.proofs.KeptLaws.{input_count}
use Rattle.ht_net.proofs.builder.Builder.check_input.Goals as goal

pub returns-then-driven-clause-refusal : goal.returns-then-driven-clause-refusal
returns-then-driven-clause-refusal c = (refl, c.driven.ensures.0 c.if-driven.true)

pub returns-then-len-eq-MAX_INPUTS-clause-refusal : goal.returns-then-len-eq-MAX_INPUTS-clause-refusal
returns-then-len-eq-MAX_INPUTS-clause-refusal c = (
  λ h. false≢true (sym c.if-driven.false ∙ c.driven.ensures.1 h),
  omega (arith, input_count c.self.invariant c.self.view_is, c.len.ensures, c.if-len-eq-MAX_INPUTS.true),
)

pub returns-clause-accepts : goal.returns-clause-accepts
returns-clause-accepts c =
    let few = c.self.invariant.few_inputs in (
      λ h. false≢true (sym c.if-driven.false ∙ c.driven.ensures.1 h),
      omega (arith, few, input_count c.self.invariant c.self.view_is, c.len.ensures, c.if-len-eq-MAX_INPUTS.false),
    )
