use Rattle.std.proofs.Common.{◌≡◌, ◌<◌, ◌+◌, ◌∙◌, ℕ, List, [], ◌∷◌, ◌++◌, length, get_or, ap, sym, subst, arith, inl, inr}
use Rattle.std.proofs.lemmas.Bool.{cases_lt}
use Rattle.std.proofs.lemmas.List.{length-append, get_or_append_left}
use Rattle.std.proofs.Math.Seq.{get_or-append_seam}
use Rattle.ht_group.specs.MachineWords.{IsBare}
use Rattle.ht_group.specs.declared.machines.Machines.{Machines}
use Rattle.ht_group.proofs.group.new_words.Goals as goal

-- what holds of each and of one more
one_more : {A : Type 0} → (P : A → Type 0) (xs ys : List A) (x : A) → ys ≡ xs ++ x ∷ []
    → ((v : ℕ) (d : A) → v < length xs → P (get_or xs v d)) → P x
    → (v : ℕ) (d : A) → v < length xs + 1 → P (get_or ys v d)
one_more {A = A} P xs ys x is each here v d below = subst (λ (l : List A). P (get_or l v d)) (sym is)
    (elim (cases_lt v (length xs)) [
      | inl before ↦ subst P (sym (get_or_append_left xs (x ∷ []) d v before)) (each v d before)
      | inr after ↦
          let at : v ≡ length xs = omega (arith, below, after) in
          subst P (sym (ap (λ (n : ℕ). get_or (xs ++ x ∷ []) n d) at ∙ get_or-append_seam xs x [] d)) here
    ])

pub loop-w-preserved : goal.loop-w-preserved
loop-w-preserved c =
    let count = ap (λ (l : List Machines). length l) c.in_ok-push.ensures.items
    ∙ length-append c.loop-w.words.items (c.in_ok-new.field-0 ∷ []) in
    record {
      count = omega (arith, count, c.loop-w.invariant.count);
      each = λ v d below. one_more (IsBare c.args.circuit.now) c.loop-w.words.items c.push.new.self.items
          c.in_ok-new.field-0 c.in_ok-push.ensures.items
          (λ u e h. c.loop-w.invariant.each u e (omega (arith, h, c.loop-w.invariant.count))) c.in_ok-new.ensures v d
          (omega (arith, below, c.loop-w.invariant.count));
    }
