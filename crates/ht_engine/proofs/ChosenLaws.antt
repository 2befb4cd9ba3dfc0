-- Marks of the faults that are to be worked on.
use Rattle.std.proofs.Common.{◌≡◌, ◌⊎◌, ◌↔◌, ◌<◌, ◌+◌, ◌-◌, ◌++◌, ℕ, suc, zero, List, [], ◌∷◌, Bool, true, false, take, length, get_or, refl, inl, inr, arith, sym, ◌∙◌, subst}
use Rattle.std.proofs.lemmas.List.{take_more}
use Rattle.std.proofs.lemmas.List.Elements.{Contains-append_cases, Contains-append_left, Contains-append_right}
use Rattle.ht_net.specs.Circuit.Netlist.{Netlist}
use Rattle.ht_faults.specs.Classes.{AreClasses}
use Rattle.ht_engine.specs.Marks.{AreListedNumbers, MarksAny}
use Rattle.ht_engine.specs.Steps.{AnyInClass, IsInClass}

-- each representative is the number of a fault
pub classes_listed : (c : Netlist) (representatives : List ℕ) → AreClasses c representatives
    → AreListedNumbers representatives
classes_listed c representatives classes i l =
    let every = classes.every in
    let below = (classes.exact i (omega (arith, l, every))).listed in
    omega (arith, below, every)

-- ---- one number

-- The marks with that of the class of fault number n, or as before where there is no such fault.
abbrev pub MarksOneMore : List ℕ → ℕ → List Bool → List Bool → Type 0
MarksOneMore representatives n old new =
    (i : ℕ) → (get_or new i false ≡ true) ↔ ((get_or old i false ≡ true) ⊎ IsInClass representatives n i)

-- ---- more numbers

only : (n m k : ℕ) → k < length (n ∷ []) → get_or (n ∷ []) k m ≡ m → n ≡ m
only n m zero l is = is
only n m (suc k) l is = absurd (omega (arith, l))

any_more : (representatives numbers : List ℕ) (n i : ℕ)
    → AnyInClass representatives (numbers ++ n ∷ []) i
    → AnyInClass representatives numbers i ⊎ IsInClass representatives n i
any_more representatives numbers n i h = elim (Contains-append_cases numbers (n ∷ []) h.0 h.1) [
  | inl before ↦ inl (h.0, before, h.2)
  | inr last ↦ inr (subst (λ (m : ℕ). IsInClass representatives m i) (sym (only n h.0 last.0 last.1 last.2)) h.2)
]

more_any : (representatives numbers : List ℕ) (n i : ℕ)
    → AnyInClass representatives numbers i ⊎ IsInClass representatives n i
    → AnyInClass representatives (numbers ++ n ∷ []) i
more_any representatives numbers n i (inl h) = (h.0, Contains-append_left numbers (n ∷ []) h.0 h.1, h.2)
more_any representatives numbers n i (inr h) =
    (n, Contains-append_right numbers (n ∷ []) n (0, omega arith, refl), h)

-- marks for some numbers, with the class of one number more marked, are the marks for all these numbers
pub marks_more : (representatives numbers : List ℕ) (n : ℕ) (old new : List Bool)
    → MarksAny representatives numbers old → length new ≡ length old → MarksOneMore representatives n old new
    → MarksAny representatives (numbers ++ n ∷ []) new
marks_more representatives numbers n old new so_far same one = record {
  each = same ∙ so_far.each;
  any = λ i. (
    λ h. more_any representatives numbers n i (elim ((one i).0 h) [
      | inl before ↦ inl ((so_far.any i).0 before)
      | inr here ↦ inr here
    ]),
    λ h. (one i).1 (elim (any_more representatives numbers n i h) [
      | inl before ↦ inl ((so_far.any i).1 before)
      | inr here ↦ inr here
    ]),
  );
}

-- in a loop over the numbers
pub marks_on : (representatives numbers : List ℕ) (k d : ℕ) (old read new : List Bool) → k < length numbers
    → MarksAny representatives (take k numbers) old → read ≡ old → length new ≡ length read
    → MarksOneMore representatives (get_or numbers k d) read new
    → MarksAny representatives (take (k + 1) numbers) new
marks_on representatives numbers k d old read new l so_far is same one =
    subst (λ (ns : List ℕ). MarksAny representatives ns new) (sym (take_more numbers k d l))
    (marks_more representatives (take k numbers) (get_or numbers k d) read new
    (subst (MarksAny representatives (take k numbers)) (sym is) so_far) same one)
