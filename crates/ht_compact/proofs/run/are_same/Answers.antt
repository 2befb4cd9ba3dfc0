use Rattle.std.proofs.Common.{◌≡◌, Bool, true, false, refl}
use Rattle.std.specs.Bool.{Decides}
use Rattle.std.proofs.lemmas.Slice.Eq.{slice_eq-Decides}
use Rattle.ht_tern.specs.declared.tern.Tern.{Tern}
use Rattle.ht_tern.specs.declared.tern.Tern.TheVariants.{Zero, One, Unk}
use Rattle.ht_compact.proofs.run.are_same.Goals as goal

-- a test that tells the three values apart
tells : (E : Tern → Tern → Bool) → E Zero Zero ≡ true → E One One ≡ true → E Unk Unk ≡ true → E Zero One ≡ false
    → E Zero Unk ≡ false → E One Zero ≡ false → E One Unk ≡ false → E Unk Zero ≡ false → E Unk One ≡ false
    → (a b : Tern) → Decides (E a b) (a ≡ b)
tells E zz oo uu zo zu oz ou uz uo Zero Zero = ((λ h. refl), (λ h. zz))
tells E zz oo uu zo zu oz ou uz uo One One = ((λ h. refl), (λ h. oo))
tells E zz oo uu zo zu oz ou uz uo Unk Unk = ((λ h. refl), (λ h. uu))
tells E zz oo uu zo zu oz ou uz uo Zero One = ((λ h. cc), (λ h. cc))
tells E zz oo uu zo zu oz ou uz uo Zero Unk = ((λ h. cc), (λ h. cc))
tells E zz oo uu zo zu oz ou uz uo One Zero = ((λ h. cc), (λ h. cc))
tells E zz oo uu zo zu oz ou uz uo One Unk = ((λ h. cc), (λ h. cc))
tells E zz oo uu zo zu oz ou uz uo Unk Zero = ((λ h. cc), (λ h. cc))
tells E zz oo uu zo zu oz ou uz uo Unk One = ((λ h. cc), (λ h. cc))

pub returns : goal.returns
returns c = λ is.
    let decides = tells _ refl refl refl refl refl refl refl refl refl in
    (slice_eq-Decides decides c.args.latches.now c.args.others.now c.eq.result c.eq.ensures).0 is
