-- Vectors after others: what the first ones detect stays detected, and the others begin where the first ones lead.
use Rattle.std.specs.Prelude.{◌≡◌, ◌⊎◌, ℕ, suc, zero, List, [], ◌∷◌, ◌++◌, map, Bool, refl, length, get_or, Option, Some, None}
use Rattle.std.proofs.Common.{◌+◌, ◌∙◌, inl, inr, ap, arith, sym, subst}
use Rattle.std.proofs.lemmas.List.{length-map, map-append}
use Rattle.ht_tern.specs.declared.tern.Tern.{Tern}
use Rattle.ht_tern.specs.declared.tern.Tern.TheVariants.{Zero, One, Unk}
use Rattle.ht_tern.specs.Opposite.{Opposite}
use Rattle.ht_net.specs.declared.fault.Fault.{Fault}
use Rattle.ht_net.specs.Circuit.Netlist.{Netlist}
use Rattle.ht_net.specs.Frames.Frame.{Rules, next_state, run_outputs, run_state}
use Rattle.ht_net.specs.Frames.Faults.{tern_rules}
use Rattle.ht_net.specs.Detect.Detection.{DetectsFrom, IsFirstFrom, output_from, state_from, terns_of}
use Rattle.ht_tree.specs.Record.Reached.{ShowsFrom, shown_at}

-- a value that is shown stays the same where vectors come after
same_or_unknown : (c : Netlist) (r : Rules Tern) (latches : List Tern) (xs ys : List (List Tern)) (t o : ℕ)
    → (get_or (get_or (run_outputs c r latches xs) t []) o Unk ≡ Unk)
    ⊎ (get_or (get_or (run_outputs c r latches xs) t []) o Unk
    ≡ get_or (get_or (run_outputs c r latches (xs ++ ys)) t []) o Unk)
same_or_unknown c r latches [] ys t o = inl refl
same_or_unknown c r latches (x ∷ xs) ys zero o = inr refl
same_or_unknown c r latches (x ∷ xs) ys (suc t) o = same_or_unknown c r (next_state c r x latches) xs ys t o

output_more : (c : Netlist) (fault : Option Fault) (s : List Tern) (list more : List (List Bool)) (t o : ℕ)
    → (output_from c fault s list t o ≡ Unk) ⊎
    (output_from c fault s list t o ≡ output_from c fault s (list ++ more) t o)
output_more c fault s list more t o =
    let r = tern_rules fault in
    subst (λ (xs : List (List Tern)). (output_from c fault s list t o ≡ Unk)
    ⊎ (output_from c fault s list t o ≡ get_or (get_or (run_outputs c r s xs) t []) o Unk))
    (sym (map-append terns_of list more)) (same_or_unknown c r s (map terns_of list) (map terns_of more) t o)

not_unknown : (g : Tern) → Opposite g Unk → ⊥
not_unknown Zero h = h
not_unknown One h = h
not_unknown Unk h = h

unknown_not : (b : Tern) → Opposite Unk b → ⊥
unknown_not Zero h = h
unknown_not One h = h
unknown_not Unk h = h

opposite_more : (g b g' b' : Tern) → (g ≡ Unk) ⊎ (g ≡ g') → (b ≡ Unk) ⊎ (b ≡ b') → Opposite g b → Opposite g' b'
opposite_more g b g' b' (inl e) h d = absurd (unknown_not b (subst (λ (x : Tern). Opposite x b) e d))
opposite_more g b g' b' (inr e) (inl f) d = absurd (not_unknown g (subst (λ (x : Tern). Opposite g x) f d))
opposite_more g b g' b' (inr e) (inr f) d =
    subst (λ (x : Tern). Opposite g' x) f (subst (λ (x : Tern). Opposite x b) e d)

-- a fault that a list detects stays detected at that vector and output if more vectors come after
pub detects_more : (c : Netlist) (fault : Fault) (s : List Tern) (list more : List (List Bool)) (t o : ℕ)
    → DetectsFrom c fault s list t o → DetectsFrom c fault s (list ++ more) t o
detects_more c fault s list more t o d =
    opposite_more (output_from c None s list t o) (output_from c (Some fault) s list t o)
    (output_from c None s (list ++ more) t o) (output_from c (Some fault) s (list ++ more) t o)
    (output_more c None s list more t o) (output_more c (Some fault) s list more t o) d

-- what all vectors don't detect the first ones don't
pub undetected_before : (c : Netlist) (fault : Fault) (s : List Tern) (list more : List (List Bool))
    → IsFirstFrom c fault s (list ++ more) None → IsFirstFrom c fault s list None
undetected_before c fault s list more h = λ t o d. h t o (detects_more c fault s list more t o d)

-- ---- the others

outputs_after : (c : Netlist) (r : Rules Tern) (latches : List Tern) (xs ys : List (List Tern)) (t : ℕ)
    → get_or (run_outputs c r latches (xs ++ ys)) (length xs + t) []
    ≡ get_or (run_outputs c r (run_state c r latches xs) ys) t []
outputs_after c r latches [] ys t =
    let at : 0 + t ≡ t = omega arith in ap (λ (k : ℕ). get_or (run_outputs c r latches ys) k []) at
outputs_after c r latches (x ∷ xs) ys t =
    let at : suc (length xs) + t ≡ suc (length xs + t) = omega arith in
    ap (λ (k : ℕ). get_or (run_outputs c r latches (x ∷ xs ++ ys)) k []) at
    ∙ outputs_after c r (next_state c r x latches) xs ys t

shown_after : (c : Netlist) (fault : Option Fault) (s : List Tern) (before list : List (List Bool)) (t o : ℕ)
    → shown_at c fault (state_from c fault s before) list t o
    ≡ output_from c fault s (before ++ list) (length before + t) o
shown_after c fault s before list t o =
    let r = tern_rules fault in
    let long : length (map terns_of before) + t ≡ length before + t =
    ap (λ (k : ℕ). k + t) (length-map before terns_of) in
    ap (λ (row : List Tern). get_or row o Unk)
    (sym (outputs_after c r s (map terns_of before) (map terns_of list) t)
    ∙ (ap (λ (k : ℕ). get_or (run_outputs c r s (map terns_of before ++ map terns_of list)) k []) long
    ∙ ap (λ (xs : List (List Tern)). get_or (run_outputs c r s xs) (length before + t) [])
    (sym (map-append terns_of before list))))

-- what a list shows of the states to which vectors lead, it shows after these vectors
pub shows_after : (c : Netlist) (fault : Fault) (s : List Tern) (before list : List (List Bool)) (t o : ℕ)
    → ShowsFrom c fault (state_from c None s before) (state_from c (Some fault) s before) list t o
    → DetectsFrom c fault s (before ++ list) (length before + t) o
shows_after c fault s before list t o shows =
    subst (λ (x : Tern). Opposite (output_from c None s (before ++ list) (length before + t) o) x)
    (shown_after c (Some fault) s before list t o)
    (subst (λ (x : Tern). Opposite x (shown_at c (Some fault) (state_from c (Some fault) s before) list t o))
    (shown_after c None s before list t o) shows)
