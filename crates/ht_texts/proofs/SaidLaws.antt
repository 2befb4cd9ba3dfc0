-- What is said of the first faults, and their lines.
use Rattle.std.proofs.Common.{◌≡◌, inl, inr, ℕ, ◌+◌, ◌<◌, true, false, List, [], ◌∷◌, ◌++◌, length, get_or, refl, sym, ap, ◌∙◌, arith}
use Rattle.std.specs.Prelude.{codes}
use Rattle.std.proofs.lemmas.Bool.{cases_Bool}
use Rattle.std.proofs.lemmas.List.{get_or_append_left}
use Rattle.std.proofs.lemmas.List.FromFn.{map-range_with_len_more, length-map-range_with_len, get_or-map-range_with_len, fill_by_all}
use Rattle.std.proofs.Math.Seq.{get_or-append_seam}
use Rattle.ht_net.specs.Circuit.Netlist.{Netlist}
use Rattle.ht_faults.specs.Classes.{is_representative}
use Rattle.ht_texts.specs.declared.said.Said.{Said}
use Rattle.ht_texts.specs.declared.said.Said.TheVariants.{Undetected}
use Rattle.ht_texts.specs.Pieces.{Piece, word, number, pieces_text}
use Rattle.ht_texts.specs.Verdicts.{said_at, verdict_pieces, verdict_text}
use Rattle.ht_texts.specs.Reports.{outcome_pieces, line_front, fault_line, fault_lines}
use Rattle.ht_texts.proofs.PieceLaws.{pieces_both}

-- ---- one verdict more

-- verdicts that are added at the end change nothing that is said of the faults before
pub said_before : (saids more : List Said) (i : ℕ) → i < length saids → said_at (saids ++ more) i ≡ said_at saids i
said_before saids more i below = get_or_append_left saids more Undetected i below

-- a verdict that is added at the end of n others is what is said of fault n
pub said_last : (saids : List Said) (said : Said) → said_at (saids ++ said ∷ []) (length saids) ≡ said
said_last saids said = get_or-append_seam saids said [] Undetected

-- ---- the line of a fault

-- the outcome of a representative is its verdict
pub outcome_of_representative : (c : Netlist) (representatives : List ℕ) (i : ℕ) (said : Said)
    → is_representative representatives i ≡ true → outcome_pieces c representatives i said ≡ verdict_pieces c said
outcome_of_representative c representatives i said own = rw own refl

-- the outcome of a fault that isn't its own representative is `as` and the number of the one that is
pub outcome_of_member : (c : Netlist) (representatives : List ℕ) (i : ℕ) (said : Said)
    → is_representative representatives i ≡ false
    → outcome_pieces c representatives i said
    ≡ word (codes "as ") ∷ number (get_or representatives i 0 + 1) ∷ []
outcome_of_member c representatives i said other = rw other refl

-- the line begins with the fault
pub line_parts : (c : Netlist) (representatives : List ℕ) (i : ℕ) (said : Said) (outcome : List Piece)
    → outcome_pieces c representatives i said ≡ outcome
    → fault_line c representatives i said ≡ pieces_text (line_front c i) ++ pieces_text outcome
line_parts c representatives i said outcome is =
    ap (λ p. pieces_text (line_front c i ++ p)) is ∙ pieces_both (line_front c i) outcome

-- the line of a representative is the fault and then its verdict
pub line_of_representative : (c : Netlist) (representatives : List ℕ) (i : ℕ) (said : Said)
    → is_representative representatives i ≡ true
    → fault_line c representatives i said ≡ pieces_text (line_front c i) ++ verdict_text c said
line_of_representative c representatives i said own =
    line_parts c representatives i said (verdict_pieces c said)
    (outcome_of_representative c representatives i said own)

-- what is said of a fault that isn't its own representative has no effect
pub line_of_member : (c : Netlist) (representatives : List ℕ) (i : ℕ) (a b : Said)
    → is_representative representatives i ≡ false
    → fault_line c representatives i a ≡ fault_line c representatives i b
line_of_member c representatives i a b other =
    ap (λ p. pieces_text (line_front c i ++ p)) (outcome_of_member c representatives i a other
    ∙ sym (outcome_of_member c representatives i b other))

-- ---- the lines of the first faults

-- the first n faults have n lines
pub length-fault_lines : (c : Netlist) (representatives : List ℕ) (saids : List Said) (n : ℕ)
    → length (fault_lines c representatives saids n) ≡ n
length-fault_lines c representatives saids n =
    length-map-range_with_len (λ i. fault_line c representatives i (said_at saids i)) 0 n

-- of the lines of faults, the one at index i is that of fault i, with what is said of it
pub get_or-fault_lines : (c : Netlist) (representatives : List ℕ) (saids : List Said) (n i : ℕ) → i < n
    → get_or (fault_lines c representatives saids n) i [] ≡ fault_line c representatives i (said_at saids i)
get_or-fault_lines c representatives saids n i below =
    get_or-map-range_with_len (λ k. fault_line c representatives k (said_at saids k)) 0 n i i [] below (omega arith)

-- the lines of one fault more are those before it and then its own
pub fault_lines_more : (c : Netlist) (representatives : List ℕ) (saids : List Said) (n : ℕ)
    → fault_lines c representatives saids (n + 1)
    ≡ fault_lines c representatives saids n ++ fault_line c representatives n (said_at saids n) ∷ []
fault_lines_more c representatives saids n =
    map-range_with_len_more (λ i. fault_line c representatives i (said_at saids i)) 0 n n (omega arith)

-- they depend on what is said of the representatives among these faults alone
pub same_fault_lines : (c : Netlist) (representatives : List ℕ) (a b : List Said) (n : ℕ)
    → ((i : ℕ) → i < n → is_representative representatives i ≡ true → said_at a i ≡ said_at b i)
    → fault_lines c representatives a n ≡ fault_lines c representatives b n
same_fault_lines c representatives a b n agree =
    fill_by_all (λ i. fault_line c representatives i (said_at b i)) (fault_lines c representatives a n) n []
    (length-fault_lines c representatives a n)
    (λ i below. get_or-fault_lines c representatives a n i below
    ∙ elim (cases_Bool (is_representative representatives i)) [
      | inl own ↦ ap (fault_line c representatives i) (agree i below own)
      | inr other ↦ line_of_member c representatives i (said_at a i) (said_at b i) other
    ])

-- the lines with one verdict more
pub fault_lines_push : (c : Netlist) (representatives : List ℕ) (saids : List Said) (said : Said)
    → fault_lines c representatives (saids ++ said ∷ []) (length saids + 1)
    ≡ fault_lines c representatives saids (length saids) ++ fault_line c representatives (length saids) said ∷ []
fault_lines_push c representatives saids said =
    let n = length saids in
    fault_lines_more c representatives (saids ++ said ∷ []) n
    ∙ ap (λ line. fault_lines c representatives (saids ++ said ∷ []) n ++ line ∷ [])
    (ap (fault_line c representatives n) (said_last saids said))
    ∙ ap (λ lines. lines ++ fault_line c representatives n said ∷ [])
    (same_fault_lines c representatives (saids ++ said ∷ []) saids n
    (λ i below own. said_before saids (said ∷ []) i below))
