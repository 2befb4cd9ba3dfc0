use Rattle.std.proofs.Common.{◌≡◌, ◌≢◌, ◌∙◌, ℕ, sym, arith, IsTrue, nat_eq}
use Rattle.std.proofs.lemmas.Bool.Decides.{nat_tests}
use Rattle.ht_lanes.specs.Rows.{lanes_of}
use Rattle.ht_lanes.proofs.QueryLaws.{same_word}
use Rattle.ht_lanes.proofs.word.Word.same.Goals as goal

test_same : (x y : ℕ) → IsTrue (nat_eq x y) → x ≡ y
test_same x y h = grind (arith, nat_tests)

same_test : (x y : ℕ) → x ≡ y → IsTrue (nat_eq x y)
same_test x y h = grind (arith, nat_tests)

pub returns-then-self-other : goal.returns-then-self-other
returns-then-self-other c =
    let z : c.self.inside.zero ≡ c.other.inside.zero = c.if-self-other.true in (
      λ t. sym c.self.view_is ∙ ((λ i. lanes_of (z i) (test_same c.self.inside.one c.other.inside.one t i))
          ∙ c.other.view_is),
      λ e. same_test c.self.inside.one c.other.inside.one
          (same_word c.self.inside.zero c.self.inside.one c.other.inside.zero c.other.inside.one
          (c.self.view_is ∙ (e ∙ sym c.other.view_is)) c.self.invariant c.other.invariant).1,
    )

pub returns-else-self-other : goal.returns-else-self-other
returns-else-self-other c =
    let ne : c.self.inside.zero ≢ c.other.inside.zero = c.if-self-other.false in (
      λ t. absurd (ne (test_same c.self.inside.zero c.other.inside.zero t)),
      λ e. same_test c.self.inside.zero c.other.inside.zero
          (same_word c.self.inside.zero c.self.inside.one c.other.inside.zero c.other.inside.one
          (c.self.view_is ∙ (e ∙ sym c.other.view_is)) c.self.invariant c.other.invariant).0,
    )
