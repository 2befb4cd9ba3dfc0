-- Opposite values, as a fact and as a test.
use Rattle.std.proofs.Common.{◌↔◌, IsTrue, refl}
use Rattle.ht_tern.specs.declared.tern.Tern.{Tern}
use Rattle.ht_tern.specs.declared.tern.Tern.TheVariants.{Zero, One, Unk}
use Rattle.ht_tern.specs.Opposite.{Opposite, are_opposite}

-- the test tells the fact
pub opposite_tested : (good faulty : Tern) → IsTrue (are_opposite good faulty) ↔ Opposite good faulty
opposite_tested Zero Zero = (λ h. cc, λ h. absurd h)
opposite_tested Zero One = (λ h. tt, λ h. refl)
opposite_tested Zero Unk = (λ h. cc, λ h. absurd h)
opposite_tested One Zero = (λ h. tt, λ h. refl)
opposite_tested One One = (λ h. cc, λ h. absurd h)
opposite_tested One Unk = (λ h. cc, λ h. absurd h)
opposite_tested Unk faulty = (λ h. cc, λ h. absurd h)
