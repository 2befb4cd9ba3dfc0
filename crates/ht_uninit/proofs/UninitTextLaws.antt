-- The text of a record, piece by piece.
use Rattle.std.proofs.Common.{◌≡◌, ◌<◌, ◌+◌, ◌++◌, ◌∷◌, ℕ, zero, suc, List, [], length, get_or, drop, flat_map, sym, ◌∙◌, ap, add-one, append-nil, append_assoc, arith}
use Rattle.std.specs.List.{range_with_len}
use Rattle.std.proofs.lemmas.Grind.{flat_map-append}
use Rattle.std.proofs.lemmas.List.{drop_more}
use Rattle.ht_net.specs.Circuit.Netlist.{Netlist}
use Rattle.ht_faults.specs.Sites.{faults_of}
use Rattle.ht_faults.specs.Classes.{class_count}
use Rattle.ht_texts.specs.Lines.{with_lf}
use Rattle.ht_uninit.specs.declared.record.Removed.{Removed}
use Rattle.ht_uninit.specs.Records.{UninitState}
use Rattle.ht_uninit.specs.UninitTexts.{held_texts, hidden_texts, removal_text, searched_texts, uninit_body, uninit_head}

-- ---- pieces of a list

range_more : (a n : ℕ) → range_with_len a (suc n) ≡ range_with_len a n ++ (a + n) ∷ []
range_more a zero = ap (λ (x : ℕ). x ∷ []) (omega arith)
range_more a (suc n) =
    ap (λ (xs : List ℕ). a ∷ xs) (range_more (a + 1) n
    ∙ ap (λ (x : ℕ). range_with_len (a + 1) n ++ x ∷ []) (omega arith))

numbers_more : (n : ℕ) → range_with_len 0 (n + 1) ≡ range_with_len 0 n ++ n ∷ []
numbers_more n =
    ap (range_with_len 0) (add-one n)
    ∙ (range_more 0 n ∙ ap (λ (x : ℕ). range_with_len 0 n ++ x ∷ []) (omega arith))

-- one number more after the first n
pub number_more : (n : ℕ) (before after : List ℕ) → before ≡ range_with_len 0 n → after ≡ before ++ n ∷ []
    → after ≡ range_with_len 0 (n + 1)
number_more n before after first more = more ∙ (ap (λ (t : List ℕ). t ++ n ∷ []) first ∙ sym (numbers_more n))

pieces_more : (f : ℕ → List ℕ) (n : ℕ)
    → flat_map f (range_with_len 0 (n + 1)) ≡ flat_map f (range_with_len 0 n) ++ f n
pieces_more f n =
    ap (flat_map f) (numbers_more n)
    ∙ (flat_map-append f (range_with_len 0 n) (n ∷ [])
    ∙ ap (λ (t : List ℕ). flat_map f (range_with_len 0 n) ++ t) (append-nil (f n)))

-- one piece more after the first n
pub piece_more : (f : ℕ → List ℕ) (n : ℕ) (start before after piece : List ℕ)
    → before ≡ start ++ flat_map f (range_with_len 0 n) → after ≡ before ++ piece → piece ≡ f n
    → after ≡ start ++ flat_map f (range_with_len 0 (n + 1))
piece_more f n start before after piece first more is =
    more
    ∙ ((λ k. first k ++ is k)
    ∙ (append_assoc start (flat_map f (range_with_len 0 n)) (f n)
    ∙ ap (λ (t : List ℕ). start ++ t) (sym (pieces_more f n))))

-- one removal more
pub removal_more : (removed : List Removed) (i : ℕ) (r : Removed) (before after whole : List ℕ) → i < length removed
    → r ≡ get_or removed i r → before ++ flat_map removal_text (drop i removed) ≡ whole
    → after ≡ before ++ removal_text r → after ++ flat_map removal_text (drop (i + 1) removed) ≡ whole
removal_more removed i r before after whole l is left more =
    let rest = flat_map removal_text (drop (i + 1) removed) in
    ap (λ (t : List ℕ). t ++ rest) more
    ∙ (append_assoc before (removal_text r) rest
    ∙ (ap (λ (x : Removed). before ++ (removal_text x ++ rest)) is
    ∙ (ap (λ (rs : List Removed). before ++ flat_map removal_text rs) (sym (drop_more removed i r l)) ∙ left)))

-- the head line, removals, walks, outputs and faults, one after the other, are the text without its last line
pub body_appended : (c : Netlist) (representatives : List ℕ) (budget : ℕ) (r : UninitState)
    → (b0 b1 b2 b3 b4 b5 : List ℕ) (dffs outputs faults classes : ℕ) → b0 ≡ []
    → b1 ≡ b0 ++ with_lf (uninit_head dffs outputs faults classes budget) → b2 ≡ b1 ++ flat_map removal_text r.removed
    → b3 ≡ b2 ++ held_texts r.walks dffs → b4 ≡ b3 ++ searched_texts r.outs outputs
    → b5 ≡ b4 ++ hidden_texts c representatives r.hidden faults → dffs ≡ length c.dffs → outputs ≡ length c.outputs
    → faults ≡ length (faults_of c) → classes ≡ class_count representatives
    → b5 ≡ uninit_body c representatives budget r
body_appended c representatives budget r b0 b1 b2 b3 b4 b5 dffs outputs faults classes to0 to1 to2 to3 to4 to5 ds os fs cs =
    to5
    ∙ (ap (λ (l : List ℕ). l ++ hidden_texts c representatives r.hidden faults) (to4
    ∙ ap (λ (l : List ℕ). l ++ searched_texts r.outs outputs) (to3
    ∙ ap (λ (l : List ℕ). l ++ held_texts r.walks dffs) (to2
    ∙ ap (λ (l : List ℕ). l ++ flat_map removal_text r.removed) (to1
    ∙ ap (λ (l : List ℕ). l ++ with_lf (uninit_head dffs outputs faults classes budget)) to0))))
    ∙ (λ k. with_lf (uninit_head (ds k) (os k) (fs k) (cs k) budget) ++ flat_map removal_text r.removed
    ++ held_texts r.walks (ds k) ++ searched_texts r.outs (os k) ++ hidden_texts c representatives r.hidden (fs k)))
