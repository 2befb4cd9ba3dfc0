-- Entries that are kept.
use Rattle.std.proofs.Common.{◌≡◌, ◌<◌, ◌∙◌, ℕ, List, Option, Some, None, inl, inr, get_or, set, length, ap, sym, subst}
use Rattle.std.proofs.lemmas.Bool.Decides.{eqb_tells}
use Rattle.std.proofs.lemmas.List.{get_or-set_other, get_or-set_same}
use Rattle.ht_tree.specs.declared.entry.Entry as recorded
use Rattle.ht_verdicts.specs.Standing.{AllDecide, Decides, VerdictsView, entry_at}

some_same : (a b : recorded.Entry) → Some a ≡ Some b → a ≡ b
some_same a b is = cc

-- An entry more that decides its fault.
pub one_more_decides : (v : VerdictsView) (fault : ℕ) (made : recorded.Entry) → fault < length v.entries
    → Decides v.circuit v.representatives v.start fault made → AllDecide v
    → AllDecide (record v { entries = set v.entries fault (Some made) })
one_more_decides v fault made room decides all i other is = elim (eqb_tells i fault) [
  | inl t ↦
      let here : get_or (set v.entries fault (Some made)) i None ≡ Some made =
      ap (λ k. get_or (set v.entries fault (Some made)) k None) t.1
      ∙ get_or-set_same v.entries fault (Some made) None room in
      subst (λ k. Decides v.circuit v.representatives v.start k other) (sym t.1)
      (subst (Decides v.circuit v.representatives v.start fault) (some_same made other (sym here ∙ is)) decides)
  | inr t ↦ all i other (sym (get_or-set_other v.entries fault i (Some made) None t.1) ∙ is)
]
