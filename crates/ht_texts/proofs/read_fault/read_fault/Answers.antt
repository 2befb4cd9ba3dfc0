use Rattle.std.proofs.Common.{◌≡◌, ◌≢◌, ℕ, ◌+◌, ◌<◌, [], ◌∷◌, ◌++◌, List, true, false, length, get_or, refl, sym, ◌∙◌, ap, subst}
use Rattle.std.specs.Prelude.{codes}
use Rattle.std.specs.Fmt.{decimal}
use Rattle.std.proofs.lemmas.Bool.{eq-eqb, ne_eqb, false≢true}
use Rattle.ht_net.specs.declared.fault.Fault.{Fault}
use Rattle.ht_net.specs.Circuit.Netlist.{Netlist}
use Rattle.ht_faults.specs.Sites.{faults_of}
use Rattle.ht_faults.specs.Classes.{is_representative}
use Rattle.ht_texts.specs.declared.said.Said.{Said}
use Rattle.ht_texts.specs.declared.said.Said.TheVariants.{Undetected}
use Rattle.ht_texts.specs.Pieces.{word, number, pieces_text}
use Rattle.ht_texts.specs.Reports.{fault_line, line_front, outcome_pieces}
use Rattle.ht_texts.specs.Verdicts.{verdict_text}
use Rattle.ht_texts.proofs.FrontLaws.{rest_of_text, no_rest, the_rest, differs_after}
use Rattle.ht_texts.proofs.ItemLaws.{no_fault_line}
use Rattle.ht_texts.proofs.SaidLaws.{line_parts, line_of_representative, outcome_of_member}
use Rattle.ht_texts.proofs.read_fault.read_fault.Goals as goal
use Rattle.ht_texts.proofs.read_fault.read_fault.Goals.{After-of-representative, In_ok-rest, Start}

-- the fault is one of the circuit
inside : (c : Start) → c.args.i < length (faults_of c.args.circuit.now)
inside c = subst (λ (l : List Fault). c.args.i < length l) c.requires.faults c.requires.fault

-- what stands in front of the outcome
abbrev front_text : Netlist → ℕ → List ℕ
front_text circuit i = pieces_text (line_front circuit i)

-- the line of a fault that isn't its own representative
line_of_other : (circuit : Netlist) (classes : List ℕ) (i : ℕ) (said : Said) → is_representative classes i ≡ false
    → fault_line circuit classes i said ≡ front_text circuit i ++ (codes "as " ++ decimal (get_or classes i 0 + 1))
line_of_other circuit classes i said other =
    line_parts circuit classes i said (word (codes "as ") ∷ number (get_or classes i 0 + 1) ∷ [])
    (outcome_of_member circuit classes i said other)

-- the line begins with its number, site and value
front : (c : In_ok-rest) → c.args.line.now ≡ front_text c.args.circuit.now c.args.i ++ c.in_ok-rest.rest.now
front c = the_rest (front_text c.args.circuit.now c.args.i) c.args.line.now c.strip_fault.result c.in_ok-rest.rest
    c.in_ok-rest.was (rest_of_text c.strip_fault.ensures)

-- it represents its class
represents : (c : After-of-representative) → c.of-representative.result ≡ c.args.i
    → is_representative c.args.classes.now c.args.i ≡ true
represents c is = eq-eqb (get_or c.args.classes.now c.args.i 0) c.args.i (sym c.of-representative.ensures ∙ is)

-- or another one does
is_other : (c : After-of-representative) → c.of-representative.result ≢ c.args.i
    → is_representative c.args.classes.now c.args.i ≡ false
is_other c differs = ne_eqb (get_or c.args.classes.now c.args.i 0) c.args.i
    (λ e. differs (c.of-representative.ensures ∙ e))

pub returns-in_err-rest : goal.returns-in_err-rest
returns-in_err-rest c = λ sums.
    let known = inside (goal.at.returns-in_err-rest c).Start in
    let i = c.args.i in
    let line = c.args.line.now in
    rw c.from_residual.ensures (no_fault_line c.args.circuit.now c.args.classes.now i sums line known (λ said may e.
    no_rest (front_text c.args.circuit.now i) line c.strip_fault.result c.in_err-rest.was
    (rest_of_text c.strip_fault.ensures) (pieces_text (outcome_pieces c.args.circuit.now c.args.classes.now i said))
    (e ∙ line_parts c.args.circuit.now c.args.classes.now i said
    (outcome_pieces c.args.circuit.now c.args.classes.now i said) refl)))

pub returns-in_err-said : goal.returns-in_err-said
returns-in_err-said c = λ sums.
    let at = goal.at.returns-in_err-said c in
    let circuit = c.args.circuit.now in
    let classes = c.args.classes.now in
    let own = represents at.After-of-representative c.if-representative-i.true in
    rw c.from_residual-in_err-said.ensures (no_fault_line circuit classes c.args.i sums c.args.line.now
    (inside at.Start) (λ said may e.
    differs_after (front_text circuit c.args.i) (verdict_text circuit said) c.args.line.now c.in_ok-rest.rest.now
    (front at.In_ok-rest) (c.in_err-said.ensures said (may own))
    (e ∙ line_of_representative circuit classes c.args.i said own)))

pub returns-then-representative-i : goal.returns-then-representative-i
returns-then-representative-i c = λ sums.
    let at = goal.at.returns-then-representative-i c in
    let own = represents at.After-of-representative c.if-representative-i.true in (
      refl,
      c.in_ok-said.ensures.0,
      record {
        listed = inside at.Start;
        own_is = own;
        line_is = front at.In_ok-rest
            ∙ ap (λ t. front_text c.args.circuit.now c.args.i ++ t) c.in_ok-said.ensures.1
            ∙ sym (line_of_representative c.args.circuit.now c.args.classes.now c.args.i c.in_ok-said.said own);
      },
    )

pub returns-then-is_member : goal.returns-then-is_member
returns-then-is_member c = λ sums.
    let at = goal.at.returns-then-is_member c in
    let other = is_other at.After-of-representative c.if-representative-i.false in (
      refl,
      record {
        listed = inside at.Start;
        own_is = other;
        line_is = front at.In_ok-rest ∙ ap (λ t. front_text c.args.circuit.now c.args.i ++ t)
            (c.if-is_member.ensures.0 refl ∙ ap (λ r. codes "as " ++ decimal (r + 1)) c.of-representative.ensures)
            ∙ sym (line_of_other c.args.circuit.now c.args.classes.now c.args.i Undetected other);
      },
    )

pub returns-else-is_member : goal.returns-else-is_member
returns-else-is_member c = λ sums.
    let at = goal.at.returns-else-is_member c in
    let circuit = c.args.circuit.now in
    let classes = c.args.classes.now in
    let i = c.args.i in
    let other = is_other at.After-of-representative c.if-representative-i.false in
    no_fault_line circuit classes i sums c.args.line.now (inside at.Start) (λ said may e.
    differs_after (front_text circuit i) (codes "as " ++ decimal (get_or classes i 0 + 1)) c.args.line.now
    c.in_ok-rest.rest.now (front at.In_ok-rest)
    (λ m. false≢true (c.if-is_member.ensures.1 (m
    ∙ ap (λ r. codes "as " ++ decimal (r + 1)) (sym c.of-representative.ensures))))
    (e ∙ line_of_other circuit classes i said other))
