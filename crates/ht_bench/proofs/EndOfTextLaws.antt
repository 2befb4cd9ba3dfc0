-- A text whose lines are all accepted: its nets, the first that is undriven, and the circuit where none is.
use Rattle.std.proofs.Common.{◌≡◌, ℕ, ◌<◌, ◌≤◌, List, [], Bool, true, not, length, get_or, sym, ◌∙◌, ap, arith, Some, find, option_map, All, Contains, slice_get}
use Rattle.std.proofs.lemmas.Bool.{false_from_ne_true, not_from_true, not_from_false}
use Rattle.std.proofs.lemmas.List.Elements.{All-nil, All-contains_itself}
use Rattle.std.proofs.lemmas.List.Folds.{find_at}
use Rattle.std.proofs.lemmas.List.Sums.{position_or_len_is}
use Rattle.std.proofs.lemmas.Option.{slice_get_past, slice_get-get_or}
use Rattle.ht_net.specs.declared.names.NameId.{NameId}
use Rattle.ht_net.specs.Circuit.Netlist.{Netlist, IsCircuit}
use Rattle.ht_net.specs.Build.Named.{Name, named_of}
use Rattle.ht_net.specs.Build.Draft.{Draft, IsDriven, IsName, draft_name, named_draft, driven_names}
use Rattle.ht_net.specs.Build.Built.{AllDriven, IsLeastUndriven}
use Rattle.ht_bench.specs.Different.{has_name}
use Rattle.ht_bench.specs.Contents.{driven_by, mentions_of, stated_nets, named_of_statements}
use Rattle.ht_bench.specs.EndOfText.{first_undriven}
use Rattle.ht_bench.specs.Text.{IsAcceptedText, IsNetlistOf, refusal_of}
use Rattle.ht_bench.specs.Progress.{IsRead, HasNet, IsFirstLine}
use Rattle.ht_bench.specs.Role.{line_of}
use Rattle.ht_bench.specs.declared.find_line.Role.TheVariants.{Mentioned, Driven}
use Rattle.ht_bench.specs.declared.error.BenchError.TheVariants.{Undriven}
use Rattle.ht_bench.proofs.NameListLaws.{has_name-Decides, All-with_names}
use Rattle.ht_bench.proofs.DriverLaws.{drivers_are}

module _ {text : List ℕ} {d : Draft} (is : IsRead text d) where
  names_are : d.names ≡ stated_nets is.statements
  names_are = ap (λ (x : Draft). x.names) is.draft.is

  -- the netlist of the draft is what the statements of the text say together
  pub says_named : named_draft d ≡ named_of_statements is.statements
  says_named = ap named_draft is.draft.is

  -- whether a net is driven
  same_drivers : (name : Name) → has_name (driven_by is.statements) name ≡ has_name (driven_names d) name
  same_drivers name = sym (drivers_are name is.statements) ∙ ap (λ (x : Draft). has_name (driven_names x) name)
      (sym is.draft.is)

  net_driven : (id : NameId) → IsDriven d id → has_name (driven_by is.statements) (draft_name d id) ≡ true
  net_driven id driven = same_drivers (draft_name d id) ∙ (has_name-Decides (driven_names d) (draft_name d id)).1 driven

  -- a line of the text mentions each net of the draft
  pub net_is_mentioned : (id : NameId) → IsName d id → HasNet text Mentioned (draft_name d id)
  net_is_mentioned id known =
      let all = mentions_of is.statements in
      let mentioned : All (Contains all) d.names = rw names_are
      (All-with_names (Contains all) [] all (All-nil (Contains all)) (All-contains_itself all)) in
      let has = (has_name-Decides all (draft_name d id)).1 (mentioned id.0 [] known) in
      record { statements = is.statements; lines = is.lines; has = has }

  -- a line of the text drives each net that is driven in the draft
  pub net_is_driven : (id : NameId) → IsDriven d id → HasNet text Driven (draft_name d id)
  net_is_driven id driven = record { statements = is.statements; lines = is.lines; has = net_driven id driven }

  -- the first net without a driver stands at a place before which all are driven
  undriven_at : (k : ℕ) → k ≤ length d.names → ((j : ℕ) → j < k → IsDriven d (record { 0 = j }))
      → (k < length d.names → ¬ IsDriven d (record { 0 = k })) → first_undriven is.statements ≡ slice_get d.names k
  undriven_at k below driven free =
      let drives = has_name (driven_by is.statements) in
      let p : Name → Bool = λ net. not (drives net) in
      let name = get_or d.names k [] in
      ap (find p) (sym names_are) ∙ find_at p d.names
      ∙ ap (slice_get d.names) (position_or_len_is p d.names k [] below
      (λ j less. not_from_true (drives (get_or d.names j [])) (net_driven (record { 0 = j }) (driven j less)))
      (λ known. not_from_false (drives name) (false_from_ne_true (drives name) (λ yes.
      free known ((has_name-Decides (driven_names d) name).0 (sym (same_drivers name) ∙ yes))))))

  -- a text that was read is accepted if each of its nets is driven
  pub accepted_text : AllDriven d → IsAcceptedText text is.statements
  accepted_text all = record {
    lines = is.lines;
    unrefused = is.refusal ∙ ap (option_map (λ net. Undriven (line_of Mentioned is.statements net) net))
        (undriven_at (length d.names) (omega arith) (λ j less. all (record { 0 = j }) less)
        (λ known. absurd (omega arith)) ∙ slice_get_past d.names (length d.names) (omega arith));
  }

  -- a text that was read, each of its nets driven, is the netlist of the circuit that its draft gives by names
  pub netlist_is : (circuit : Netlist) → AllDriven d → IsCircuit circuit → named_of circuit ≡ named_draft d
      → IsNetlistOf text circuit
  netlist_is circuit all is_circuit named = record {
    statements = is.statements;
    read = accepted_text all;
    is_circuit = is_circuit;
    named = named ∙ says_named;
  }

  -- a text is refused for its first net without a driver, at the first line that mentions that net
  pub undriven_is : (id : NameId) → IsLeastUndriven d id → (number : ℕ)
      → IsFirstLine text Mentioned (draft_name d id) number
      → refusal_of text ≡ Some (Undriven number (draft_name d id))
  undriven_is id free number first =
      let known : id.0 < length d.names = free.0 in
      is.refusal
      ∙ ap (option_map (λ net. Undriven (line_of Mentioned is.statements net) net))
      (undriven_at id.0 (omega arith) (λ j less. free.2 (record { 0 = j }) less) (λ _. free.1)
      ∙ slice_get-get_or d.names id.0 [] known)
      ∙ ap (λ n. Some (Undriven n (draft_name d id))) (sym (first is.statements is.lines))
