-- The formula, joined from its parts.
use Rattle.std.proofs.Common.{◌≡◌, ◌+◌, ◌*◌, ℕ, List, [], ◌∷◌, ◌++◌, map, Bool, sym, ◌∙◌, ap, append_assoc}
use Rattle.std.specs.List.{flat_map}
use Rattle.ht_net.specs.declared.fault.Fault.{Fault}
use Rattle.ht_net.specs.Circuit.Netlist.{Netlist, net_count}
use Rattle.ht_cubes.specs.declared.rail.Rail.{Rail}
use Rattle.ht_cubes.specs.declared.signed_var.SignedVar.{SignedVar}
use Rattle.ht_cubes.specs.Formula.{frame_clauses, cube_clause, targets_of, target_clauses, some_target, without_constants, formula_of}

joined : {A : Type 0} (a b d e none one two three : List A) → none ≡ [] → one ≡ none ++ a → two ≡ one ++ b
    → three ≡ two ++ (d ++ e) → three ≡ a ++ b ++ d ++ e
joined {A} a b d e none one two three empty first second third =
    third ∙ (ap (λ (l : List A). l ++ (d ++ e))
    (second ∙ ap (λ (l : List A). l ++ b) (first ∙ ap (λ (l : List A). l ++ a) empty)) ∙ sym (append_assoc (a ++ b) d e))

-- clauses that are joined from the frame, the cubes and the targets, without constants, are the formula
pub built : (c : Netlist) (fault : Fault) (cone : ℕ → Bool) (cubes : List (List Rail)) (nets : ℕ)
    (none one two three clauses targets : List (List SignedVar)) → nets ≡ net_count c → none ≡ []
    → one ≡ none ++ frame_clauses c fault cone → two ≡ one ++ map (cube_clause c cone) cubes
    → targets ≡ targets_of c fault cone cubes
    → three ≡ two ++ (target_clauses (4 * nets + 1) targets ++ some_target (4 * nets + 1) targets ∷ [])
    → clauses ≡ flat_map without_constants three → clauses ≡ formula_of c fault cone cubes
built c fault cone cubes nets none one two three clauses targets count empty first second aims third is =
    let all = targets_of c fault cone cubes in
    let from = 4 * net_count c + 1 in
    is ∙ ap (flat_map without_constants)
    (joined (frame_clauses c fault cone) (map (cube_clause c cone) cubes) (target_clauses from all)
    (some_target from all ∷ []) none one two three empty first second
    (third ∙ (λ k. two ++ (target_clauses (4 * count k + 1) (aims k) ++ some_target (4 * count k + 1) (aims k) ∷ []))))
