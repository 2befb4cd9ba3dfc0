-- What a path has decided, written down variable by variable.
use Rattle.std.proofs.Common.{◌≡◌, ◌<◌, ◌≤◌, ◌+◌, ℕ, List, [], ◌∷◌, ◌++◌, cond, eqb, false, Bool, Option, Some, length, set, sym, ◌∙◌, ap, inl, inr, arith, subst}
use Rattle.std.proofs.lemmas.Bool.Decides.{eqb_tells}
use Rattle.std.proofs.lemmas.List.{length-set}
use Rattle.ht_tern.specs.declared.tern.Tern.{Tern}
use Rattle.ht_tern.specs.declared.tern.Tern.TheVariants.{Zero}
use Rattle.ht_tree.specs.declared.token.Assign3.{Assign3}
use Rattle.ht_tree.specs.Window.Decisions.{decided_value}
use Rattle.ht_tree.proofs.WrittenLaws.{decided_more, written_more}
use Rattle.ht_recompute.specs.Written.{IsWritten}

abbrev pub no_decision : Assign3
no_decision = record { var = 0; value = Zero }

-- one more decision, of a variable that there is room for
pub more_written : (old new : List (Option Tern)) (path : List Assign3) (d : Assign3) → d.var < length old
    → new ≡ set old d.var (Some d.value) → IsWritten old path → IsWritten new (path ++ d ∷ [])
more_written old new path d room is h =
    let n = length-set old d.var (Some d.value) in
    subst (λ (values : List (Option Tern)). IsWritten values (path ++ d ∷ [])) (sym is)
    (λ var below. written_more old path d var room (h var (omega (arith, n, below))))

-- one more decision, of another variable
pub still_written : (old new : List (Option Tern)) (path : List Assign3) (d : Assign3) → length old ≤ d.var
    → new ≡ old → IsWritten old path → IsWritten new (path ++ d ∷ [])
still_written old new path d out is h =
    let other : (var : ℕ) → var < length old → eqb d.var var ≡ false = λ var below. elim (eqb_tells d.var var) [
      | inl t ↦ let e : d.var ≡ var = t.1 in absurd (omega (arith, e, out, below))
      | inr t ↦ t.0
    ] in
    subst (λ (values : List (Option Tern)). IsWritten values (path ++ d ∷ [])) (sym is)
    (λ var below. h var below ∙ sym (decided_more path d var
    ∙ ap (λ (b : Bool). cond b (Some d.value) (decided_value path var)) (other var below)))
