-- The normal text of a circuit is a netlist of that circuit.
use Rattle.std.proofs.Common.{◌≡◌, ℕ, ◌≤◌, List, [], ◌∷◌, ◌++◌, Bool, true, false, not, length, get_or, map, append_assoc, append-nil, refl, sym, ap, subst, ◌∙◌, arith, fold, find, None, option_map, All, Contains, length-append, length-take}
use Rattle.std.proofs.lemmas.Bool.{not_from_true}
use Rattle.std.proofs.lemmas.Bool.Decides.{nat_tests}
use Rattle.std.proofs.lemmas.List.Concat.{flat_map-append}
use Rattle.std.proofs.lemmas.List.Sums.{fold-append, sum_by_push, list_all-from_AllPass, AllPass-from_list_all}
use Rattle.std.proofs.lemmas.List.Elements.{All-nil, All-head, All-tail, All-weaker, All-contains, Contains-append_left, Contains-get_or}
use Rattle.ht_net.specs.Circuit.Lists.{AllDiffer}
use Rattle.ht_net.specs.Circuit.Netlist.{max_nets, max_pins, max_inputs, max_dffs, Netlist, IsCircuit}
use Rattle.ht_net.specs.Build.Named.{Name, NamedGate, NamedNetlist, named_of}
use Rattle.ht_statement.specs.Name.{is_name}
use Rattle.ht_statement.specs.Statement.{Statement, names_in}
use Rattle.ht_statement.specs.Reading.{stated, reading_of}
use Rattle.ht_statement.specs.StatementText.{statement_text, CanBeStated}
use Rattle.ht_statement.proofs.StatementTextLaws.{normal_reads}
use Rattle.ht_bench.specs.Different.{has_name}
use Rattle.ht_bench.specs.Contents.{no_parts, with_statement, named_of_statements, driven_in, driven_by, mentions_of, stated_nets}
use Rattle.ht_net.specs.Build.Draft.{named_pins}
use Rattle.ht_bench.specs.Accepted.{limit_passed_by, limit_passed, second_driver, reading_error}
use Rattle.ht_bench.specs.Role.{line_of}
use Rattle.ht_bench.specs.EndOfText.{undriven_refusal}
use Rattle.ht_bench.specs.Text.{IsNetlistOf, readings_of, refusal_after}
use Rattle.ht_bench.specs.Normal.{statements_of, normal_text, HasFormatNames}
use Rattle.ht_bench.specs.declared.find_line.Role.TheVariants.{Mentioned}
use Rattle.ht_bench.specs.declared.error.BenchError.TheVariants.{Undriven}
use Rattle.ht_bench.proofs.NamedPartLaws.{named_dffs_count}
use Rattle.ht_bench.proofs.NameListLaws.{has_name-Decides, has_no_name, All-with_names, differ_apart, length-different}
use Rattle.ht_bench.proofs.ProgressLaws.{no_error}
use Rattle.ht_bench.proofs.LineLaws.{lines_of_statements}
use Rattle.ht_bench.proofs.AllLaws.{AreNames, All-left, All-flat_map}
use Rattle.ht_bench.proofs.NormalNameLaws.{driven_are_names, statements_say, pins_are}
use Rattle.ht_bench.proofs.NormalContentLaws.{statements_made, have_counts}

none_passed : (nets pins inputs dffs : ℕ) → nets ≤ max_nets → pins ≤ max_pins → inputs ≤ max_inputs
    → dffs ≤ max_dffs → limit_passed_by nets pins inputs dffs ≡ None
none_passed nets pins inputs dffs few_nets few_pins few_inputs few_dffs = grind (arith, nat_tests)

-- ---- each line is read

texts_read : (statements : List Statement) → All CanBeStated statements → map reading_of (map statement_text statements)
    ≡ map stated statements
texts_read [] can = refl
texts_read (s ∷ statements) can =
    let rest = texts_read statements (All-tail CanBeStated s statements can) in
    rw (normal_reads s (All-head CanBeStated s statements can), rest) refl

-- ---- more statements say no less

says_no_less : (n : NamedNetlist) (s : Statement) → (length n.inputs ≤ length (with_statement n s).inputs)
    × (length n.dffs ≤ length (with_statement n s).dffs) × (named_pins n ≤ named_pins (with_statement n s))
says_no_less n s = grind (arith, length-append, sum_by_push (λ (g : NamedGate). length g.args))

grows : (count : NamedNetlist → ℕ) → ((n : NamedNetlist) (s : Statement) → count n ≤ count (with_statement n s))
    → (n : NamedNetlist) (statements : List Statement) → count n ≤ count (fold with_statement n statements)
grows count step n [] = omega arith
grows count step n (s ∷ statements) = omega (arith, step n s, grows count step (with_statement n s) statements)

find_none : (p : Name → Bool) (names : List Name) → All (λ name. p name ≡ false) names → find p names ≡ None
find_none p [] all = refl
find_none p (name ∷ names) all =
    rw (All-head (λ n. p n ≡ false) name names all) (find_none p names (All-tail (λ n. p n ≡ false) name names all))

-- statements of which none is refused are accepted up to the end
accepted_to_end : (before after : List Statement)
    → ((first : List Statement) (s : Statement) (rest : List Statement) → before ++ after ≡ first ++ s ∷ rest
    → reading_error first (stated s) ≡ None)
    → refusal_after before (map stated after) ≡ undriven_refusal (before ++ after)
accepted_to_end before [] each = ap undriven_refusal (sym (append-nil before))
accepted_to_end before (s ∷ after) each =
    rw (each before s after refl) refl ∙ accepted_to_end (before ++ s ∷ []) after
    (λ first t rest e. each first t rest (sym (append_assoc before (s ∷ []) after) ∙ e))
    ∙ ap undriven_refusal (append_assoc before (s ∷ []) after)

module _ (c : Netlist) (is : IsCircuit c) where
  -- ---- the statements are accepted

  mentioned : All (Contains c.names) (mentions_of (statements_of c))
  mentioned = All-flat_map (Contains c.names) names_in (statements_of c) (statements_made c is)

  within_limits : (first rest : List Statement) → statements_of c ≡ first ++ rest → limit_passed first ≡ None
  within_limits first rest split =
      let n = named_of_statements first in
      let parts : mentions_of (statements_of c) ≡ mentions_of first ++ mentions_of rest = ap mentions_of split ∙
      flat_map-append names_in first rest in
      let nets = length-different (mentions_of first) c.names (All-left (Contains c.names) (mentions_of first)
      (mentions_of rest) (subst (All (Contains c.names)) parts mentioned)) in
      let all : fold with_statement n rest ≡ named_of c = sym (fold-append with_statement no_parts first rest)
      ∙ ap named_of_statements (sym split) ∙ statements_say c is in
      let inputs = grows (λ m. length m.inputs) (λ m s. (says_no_less m s).0) n rest in
      let dffs = grows (λ m. length m.dffs) (λ m s. (says_no_less m s).1) n rest in
      let pins = grows named_pins (λ m s. (says_no_less m s).2) n rest in
      none_passed (length (stated_nets first)) (named_pins n) (length n.inputs) (length n.dffs)
      (omega arith) (omega (arith, ap named_pins all, pins_are c is))
      (omega (arith, ap (λ (m : NamedNetlist). length m.inputs) all, length-take c.inputs c.names))
      (omega (arith, ap (λ (m : NamedNetlist). length m.dffs) all, named_dffs_count c c.inputs c.dffs))

  new_driver : (before after : List Statement) (s : Statement) → statements_of c ≡ before ++ s ∷ after
      → second_driver before s ≡ None
  new_driver before after s split = find_none (has_name (driven_by before)) (driven_in s) (λ k d below.
      has_no_name (driven_by before) (get_or (driven_in s) k d) (λ driven.
      let parts : c.names ≡ driven_by before ++ (driven_in s ++ driven_by after) = sym (driven_are_names c is) ∙ ap
      driven_by split ∙ flat_map-append driven_in before (s ∷ after) in
      differ_apart (driven_by before) (driven_in s ++ driven_by after) (get_or (driven_in s) k d)
      (subst AllDiffer parts is.names_differ) driven
      (Contains-append_left (driven_in s) (driven_by after) (get_or (driven_in s) k d)
      (Contains-get_or (driven_in s) k d below))))

  all_driven : undriven_refusal (statements_of c) ≡ None
  all_driven =
      let drives = has_name (driven_by (statements_of c)) in
      let is_driven : (name : Name) → Contains c.names name → not (drives name) ≡ false = λ name has.
      not_from_true (drives name) ((has_name-Decides (driven_by (statements_of c)) name).1
      (subst (λ l. Contains l name) (sym (driven_are_names c is)) has)) in
      ap (option_map (λ net. Undriven (line_of Mentioned (statements_of c) net) net))
      (find_none (λ net. not (drives net)) (stated_nets (statements_of c))
      (All-weaker (Contains c.names) (λ name. not (drives name) ≡ false) is_driven (stated_nets (statements_of c))
      (All-with_names (Contains c.names) [] (mentions_of (statements_of c)) (All-nil (Contains c.names)) mentioned)))

  accepted : refusal_after [] (map stated (statements_of c)) ≡ None
  accepted = accepted_to_end [] (statements_of c) (λ first s rest split. no_error first s
      (new_driver first rest s split)
      (within_limits (first ++ s ∷ []) rest (split ∙ sym (append_assoc first (s ∷ []) rest)))) ∙ all_driven

  -- ---- the statements can be stated

  module _ (good : HasFormatNames c) where
    have_names : All (λ s. AreNames (names_in s)) (statements_of c)
    have_names =
        let all = AllPass-from_list_all is_name c.names good in
        All-weaker (λ s. All (Contains c.names) (names_in s)) (λ s. AreNames (names_in s))
        (λ s made. All-weaker (Contains c.names) (λ name. is_name name ≡ true)
        (λ name has. All-contains (λ n. is_name n ≡ true) c.names name all has) (names_in s) made)
        (statements_of c) (statements_made c is)

    can_be_stated : All CanBeStated (statements_of c)
    can_be_stated k d below =
        let s = get_or (statements_of c) k d in
        record {
          names = list_all-from_AllPass is_name (names_in s) (have_names k d below);
          count = have_counts c is k d below;
        }

    -- the normal text of a circuit with names of the format is its netlist
    pub normal_is_netlist : IsNetlistOf (normal_text c) c
    normal_is_netlist =
        let lines : readings_of (normal_text c) ≡ map stated (statements_of c) =
        ap (map reading_of) (lines_of_statements (statements_of c) can_be_stated)
        ∙ texts_read (statements_of c) can_be_stated in
        record {
          statements = statements_of c;
          read = record { lines = lines; unrefused = ap (refusal_after []) lines ∙ accepted };
          is_circuit = is;
          named = sym (statements_say c is);
        }
