use Rattle.std.proofs.Common.{◌≡◌, List, Bool, true, false, get_or, refl, sym, ◌∙◌, ap}
use Rattle.ht_tern.specs.declared.tern.Tern.{Tern}
use Rattle.ht_tern.specs.declared.tern.Tern.TheVariants.{Unk}
use Rattle.ht_cubes.specs.Rails.{both, latches_of}
use Rattle.ht_cubes.proofs.refutation.holds.Goals as goal

same_latches : (state : List Tern) (faulty : Bool) → latches_of (both state) faulty ≡ state
same_latches state true = refl
same_latches state false = refl

pub returns : goal.returns
returns c =
    let e = ap (λ (l : List Tern). get_or l c.args.rail.dff Unk) (same_latches c.args.state.now c.args.rail.faulty) in (
      λ so. e ∙ (sym c.latch_value.ensures ∙ c.is_bit.ensures.0 so),
      λ h. c.is_bit.ensures.1 (c.latch_value.ensures ∙ (sym e ∙ h)),
    )
