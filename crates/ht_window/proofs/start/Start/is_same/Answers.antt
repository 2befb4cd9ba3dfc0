use Rattle.std.proofs.Common.{◌≡◌, Bool, true, false, refl, sym, ◌∙◌, ap}
use Rattle.std.specs.Bool.{Decides}
use Rattle.std.proofs.lemmas.Slice.Eq.{slice_eq-Decides}
use Rattle.ht_tern.specs.declared.tern.Tern.{Tern}
use Rattle.ht_tern.specs.declared.tern.Tern.TheVariants.{Zero, One, Unk}
use Rattle.ht_tree.specs.Window.Windows.{state_pair}
use Rattle.ht_window.specs.Starts.{start_of}
use Rattle.ht_window.proofs.start.Start.is_same.Goals as goal

-- a test that tells the three values apart
tells : (E : Tern → Tern → Bool) → E Zero Zero ≡ true → E One One ≡ true → E Unk Unk ≡ true → E Zero One ≡ false
    → E Zero Unk ≡ false → E One Zero ≡ false → E One Unk ≡ false → E Unk Zero ≡ false → E Unk One ≡ false
    → (a b : Tern) → Decides (E a b) (a ≡ b)
tells E zz oo uu zo zu oz ou uz uo Zero Zero = ((λ h. refl), (λ h. zz))
tells E zz oo uu zo zu oz ou uz uo One One = ((λ h. refl), (λ h. oo))
tells E zz oo uu zo zu oz ou uz uo Unk Unk = ((λ h. refl), (λ h. uu))
tells E zz oo uu zo zu oz ou uz uo Zero One = ((λ h. cc), (λ h. cc))
tells E zz oo uu zo zu oz ou uz uo Zero Unk = ((λ h. cc), (λ h. cc))
tells E zz oo uu zo zu oz ou uz uo One Zero = ((λ h. cc), (λ h. cc))
tells E zz oo uu zo zu oz ou uz uo One Unk = ((λ h. cc), (λ h. cc))
tells E zz oo uu zo zu oz ou uz uo Unk Zero = ((λ h. cc), (λ h. cc))
tells E zz oo uu zo zu oz ou uz uo Unk One = ((λ h. cc), (λ h. cc))

pub returns-then-eq : goal.returns-then-eq
returns-then-eq c = λ is.
    let decides = tells _ refl refl refl refl refl refl refl refl refl in
    let good = (slice_eq-Decides decides c.as_slice.result.now c.as_slice-in-Pair-Pair.result.now c.eq.result
    c.eq.ensures).0 c.if-eq.true in
    let bad = (slice_eq-Decides decides c.as_slice-then-eq.result.now c.as_slice-then-eq-2.result.now
    c.eq-then-eq.result c.eq-then-eq.ensures).0 is in
    let goods = sym c.as_slice.ensures ∙ (good ∙ c.as_slice-in-Pair-Pair.ensures) in
    let bads = sym c.as_slice-then-eq.ensures ∙ (bad ∙ c.as_slice-then-eq-2.ensures) in
    ap start_of c.in-Pair-Pair.is-0 ∙ ((λ i. state_pair (goods i) (bads i)) ∙ sym (ap start_of c.in-Pair-Pair.is-1))
