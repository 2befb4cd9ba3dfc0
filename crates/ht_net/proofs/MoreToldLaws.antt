-- Machines that are told more show more: a list that detects from a start does so from every start that refines it, and
-- one that detects from all-unknown does so from every start, after any vectors.
use Rattle.std.proofs.Common.{◌≡◌, ◌+◌, ℕ, suc, zero, List, [], ◌∷◌, ◌++◌, map, replicate, Bool, Option, Some, None, length, get_or, refl, sym, ◌∙◌, ap, inl, inr, arith, subst}
use Rattle.std.proofs.lemmas.List.{length-replicate}
use Rattle.ht_tern.specs.declared.tern.Tern.{Tern}
use Rattle.ht_tern.specs.declared.tern.Tern.TheVariants.{Zero, One, Unk}
use Rattle.ht_tern.specs.Gate.{AllRelated, Refines, gate_value, tern_of}
use Rattle.ht_tern.specs.Opposite.{Opposite}
use Rattle.ht_tern.proofs.GateLaws.{gate_refines}
use Rattle.ht_net.specs.declared.fault.Fault.{Fault}
use Rattle.ht_net.specs.Circuit.Netlist.{Netlist}
use Rattle.ht_net.specs.Frames.Frame.{Rules, next_state, run_outputs, run_state}
use Rattle.ht_net.specs.Frames.Faults.{tern_rules}
use Rattle.ht_net.specs.Detect.Detection.{Detects, DetectsFrom, IsStart, output_from, outputs_from, state_from, terns_of, unknown_state}
use Rattle.ht_net.proofs.FaultLaws.{rules_keep}
use Rattle.ht_net.proofs.RelationLaws.{Preserves, get_related, run_related}
use Rattle.ht_net.proofs.ValueLaws.{next_long}

-- every machine, with or without a stuck line, tells more where it is told more
pub machine_refines : (fault : Option Fault) → Preserves Refines (tern_rules fault) (tern_rules fault)
machine_refines fault = rules_keep Refines Unk Unk gate_value gate_value (λ b v. tern_of b) (λ b v. tern_of b)
    (inl refl) gate_refines (λ b x y r. inr refl) fault

-- a list of values refines itself
pub same_refines : (xs : List Tern) → AllRelated Refines xs xs
same_refines [] = tt
same_refines (x ∷ xs) = (inr refl, same_refines xs)

same_vectors : (list : List (List Bool)) → AllRelated (AllRelated Refines) (map terns_of list) (map terns_of list)
same_vectors [] = tt
same_vectors (v ∷ list) = (same_refines (terns_of v), same_vectors list)

refines_unknown : (s : List Tern) (m : ℕ) → length s ≡ m → AllRelated Refines s (replicate m Unk)
refines_unknown [] zero h = tt
refines_unknown [] (suc m) h = absurd (omega arith)
refines_unknown (x ∷ s) zero h = absurd (omega arith)
refines_unknown (x ∷ s) (suc m) h = (inl refl, refines_unknown s m (omega arith))

-- every start refines all-unknown
pub start_refines_unknown : (c : Netlist) (start : List Tern) → IsStart c start
    → AllRelated Refines start (unknown_state c)
start_refines_unknown c start is = refines_unknown start (length c.dffs) is

-- values that say no less are still opposite
pub still_opposite : (g f g' f' : Tern) → Refines g' g → Refines f' f → Opposite g f → Opposite g' f'
still_opposite Zero One g' f' (inr e) (inr d) h = rw (e, d) tt
still_opposite One Zero g' f' (inr e) (inr d) h = rw (e, d) tt
still_opposite Zero One g' f' (inl e) d h = cc
still_opposite Zero One g' f' (inr e) (inl d) h = cc
still_opposite One Zero g' f' (inl e) d h = cc
still_opposite One Zero g' f' (inr e) (inl d) h = cc
still_opposite Zero Zero g' f' e d h = absurd h
still_opposite Zero Unk g' f' e d h = absurd h
still_opposite One One g' f' e d h = absurd h
still_opposite One Unk g' f' e d h = absurd h
still_opposite Unk f g' f' e d h = absurd h

shown_refines : (c : Netlist) (fault : Option Fault) (more less : List Tern) (list : List (List Bool)) (t o : ℕ)
    → AllRelated Refines more less
    → Refines (output_from c fault more list t o) (output_from c fault less list t o)
shown_refines c fault more less list t o h =
    let r = tern_rules fault in
    get_related Refines (get_or (outputs_from c fault more list) t []) (get_or (outputs_from c fault less list) t []) o
    Unk Unk
    (get_related (AllRelated Refines) (outputs_from c fault more list) (outputs_from c fault less list) t [] []
    (run_related Refines c r r (machine_refines fault) more less (map terns_of list) (map terns_of list) h
    (same_vectors list)) tt) (inr refl)

-- what is detected from a start is detected from every start that refines it
pub detects_where_refined : (c : Netlist) (fault : Fault) (more less : List Tern) (list : List (List Bool)) (t o : ℕ)
    → AllRelated Refines more less → DetectsFrom c fault less list t o → DetectsFrom c fault more list t o
detects_where_refined c fault more less list t o h d =
    still_opposite _ _ _ _ (shown_refines c None more less list t o h)
    (shown_refines c (Some fault) more less list t o h)
    d

-- ---- after other vectors

outputs_later : (c : Netlist) (r : Rules Tern) (before list : List (List Bool)) (s : List Tern) (t : ℕ)
    → get_or (run_outputs c r s (map terns_of (before ++ list))) (length before + t) []
    ≡ get_or (run_outputs c r (run_state c r s (map terns_of before)) (map terns_of list)) t []
outputs_later c r [] list s t =
    let at : 0 + t ≡ t = omega arith in ap (λ (k : ℕ). get_or (run_outputs c r s (map terns_of list)) k []) at
outputs_later c r (v ∷ before) list s t =
    let at : suc (length before) + t ≡ suc (length before + t) = omega arith in
    ap (λ (k : ℕ). get_or (run_outputs c r s (terns_of v ∷ map terns_of (before ++ list))) k []) at
    ∙ outputs_later c r before list (next_state c r (terns_of v) s) t

run_long : (c : Netlist) (r : Rules Tern) (start : List Tern) (vectors : List (List Tern)) → IsStart c start
    → IsStart c (run_state c r start vectors)
run_long c r start [] is = is
run_long c r start (v ∷ vectors) is = run_long c r (next_state c r v start) vectors (next_long c r v start)

-- the latches after some vectors are a start
pub state_is_start : (c : Netlist) (fault : Option Fault) (start : List Tern) (list : List (List Bool))
    → IsStart c start → IsStart c (state_from c fault start list)
state_is_start c fault start list is = run_long c (tern_rules fault) start (map terns_of list) is

later_refines : (c : Netlist) (fault : Option Fault) (start : List Tern) (before list : List (List Bool)) (t o : ℕ)
    → IsStart c start
    → Refines (output_from c fault start (before ++ list) (length before + t) o)
    (output_from c fault (unknown_state c) list t o)
later_refines c fault start before list t o is =
    let s = state_from c fault start before in
    subst (λ (xs : List Tern). Refines (get_or xs o Unk) (output_from c fault (unknown_state c) list t o))
    (sym (outputs_later c (tern_rules fault) before list start t))
    (shown_refines c fault s (unknown_state c) list t o
    (start_refines_unknown c s (state_is_start c fault start before is)))

-- what is detected from all-unknown is detected from every start, after any vectors
pub detects_from_any : (c : Netlist) (fault : Fault) (start : List Tern) (before list : List (List Bool)) (t o : ℕ)
    → IsStart c start → Detects c fault list t o
    → DetectsFrom c fault start (before ++ list) (length before + t) o
detects_from_any c fault start before list t o is d =
    still_opposite _ _ _ _ (later_refines c None start before list t o is)
    (later_refines c (Some fault) start before list t o is) d

-- all-unknown is a start
pub unknown_is_start : (c : Netlist) → IsStart c (unknown_state c)
unknown_is_start c = length-replicate (length c.dffs) Unk

-- what is detected from all-unknown is detected so after any list
pub detects_later : (c : Netlist) (fault : Fault) (before list : List (List Bool)) (t o : ℕ)
    → Detects c fault list t o → Detects c fault (before ++ list) (length before + t) o
detects_later c fault before list t o d =
    detects_from_any c fault (unknown_state c) before list t o (unknown_is_start c) d
