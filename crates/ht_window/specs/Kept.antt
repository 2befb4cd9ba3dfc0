-- `KeepsHeld` is reflexive and transitive.
use Rattle.std.proofs.Common.{◌≡◌, ◌<◌, refl, ◌∙◌, subst}
use Rattle.ht_trail.proofs.TrailLaws.{later_now, later_more}
use Rattle.ht_window.specs.Standing.{Standing}
use Rattle.ht_window.specs.Cells.{env_at}
use Rattle.ht_window.specs.Holding.{HeldState, KeepsHeld}

-- What is held keeps itself.
pub kept_same : (a : HeldState) → KeepsHeld a a
kept_same a = record { standing = refl; relevant = refl; later = later_now a.cells; inputs = λ f i fs is. refl }

-- What the first keeps of the second and this of the third, the first keeps of the third.
pub kept_more : (a b c : HeldState) → KeepsHeld a b → KeepsHeld b c → KeepsHeld a c
kept_more a b c h k = record {
  standing = k.standing ∙ h.standing;
  relevant = k.relevant ∙ h.relevant;
  later = later_more a.cells b.cells c.cells h.later k.later;
  inputs = λ f i fs is.
      subst (λ (s : Standing). f < s.window.frames → i < s.window.circuit.inputs → env_at s.window c.cells.values f i
      ≡ env_at s.window b.cells.values f i) h.standing (k.inputs f i) fs is
      ∙ h.inputs f i fs is;
}
