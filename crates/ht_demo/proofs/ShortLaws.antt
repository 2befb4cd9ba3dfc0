-- The text of the demonstration netlist is short.
use Rattle.std.proofs.Common.{ℕ, ◌+◌, ◌*◌, ◌<◌, ◌≤◌, List, [], ◌∷◌, ◌++◌, length, map, sym, subst, arith, length-append}
use Rattle.std.specs.List.{All, flat_map, range_with_len}
use Rattle.std.proofs.lemmas.List.{length-map}
use Rattle.std.proofs.lemmas.Grind.{common_steps}
use Rattle.std.proofs.lemmas.List.Elements.{All-head, All-tail, All-map, All-weaker}
use Rattle.std.proofs.lemmas.List.Concat.{length-flat_map}
use Rattle.std.proofs.lemmas.List.FromFn.{length-range_with_len, get_or-range_with_len}
use Rattle.std.proofs.lemmas.List.Sums.{sum_by-le}
use Rattle.ht_tern.specs.declared.gate.Kind.{Kind}
use Rattle.ht_net.specs.Build.Named.{Name}
use Rattle.ht_statement.specs.Statement.{input_line, output_line, dff_line, gate_line}
use Rattle.ht_statement.specs.StatementText.{kind_text, arguments_text, statement_line}
use Rattle.ht_bench.specs.Normal.{normal_text}
use Rattle.ht_bench.specs.Text.{max_netlist_bytes}
use Rattle.ht_random.specs.Words.{generator_of, next_word, after_word, after_words}
use Rattle.ht_demo.specs.Counts.{max_demo_size, input_count, dff_count, first_gate, demo_name}
use Rattle.ht_demo.specs.Draws.{kind_by_word, drawn_gate_net, after_gates}
use Rattle.ht_demo.specs.Demo.{output_draws}
use Rattle.ht_demo.specs.DemoText.{demo_name_of, demo_input_line, demo_output_line, drawn_dff_line, drawn_gate_line, demo_input_lines, demo_output_lines, demo_dff_lines, demo_gate_lines}
use Rattle.ht_demo.proofs.KindLaws.{by_kind}
use Rattle.ht_demo.proofs.DrawLaws.{IsBelow, arguments_are_below, arguments_count, at_most_two, gate_is_below, outputs_are_below, outputs_at_most}
use Rattle.ht_demo.proofs.NameLaws.{demo_name_is_name}
use Rattle.ht_demo.proofs.CircuitLaws.{demo, before_gate, gate_drawn, few_dffs}
use Rattle.ht_demo.proofs.TextLaws.{text_is}

-- ---- a line has at most 100 bytes

abbrev IsShortName : Name → Type 0
IsShortName name = length name ≤ 6

input_line_is_short : (name : Name) → IsShortName name → length (statement_line (input_line name)) ≤ 100
input_line_is_short name short = grind (arith, common_steps, length-append)

output_line_is_short : (name : Name) → IsShortName name → length (statement_line (output_line name)) ≤ 100
output_line_is_short name short = grind (arith, common_steps, length-append)

dff_line_is_short : (out data_pin : Name) → IsShortName out → IsShortName data_pin
    → length (statement_line (dff_line out data_pin)) ≤ 100
dff_line_is_short out data_pin short also = grind (arith, common_steps, length-append)

kind_is_short : (kind : Kind) → length (kind_text kind) ≤ 4
kind_is_short = by_kind (λ kind. length (kind_text kind) ≤ 4)
    (omega arith) (omega arith) (omega arith) (omega arith) (omega arith) (omega arith) (omega arith) (omega arith)

arguments_are_short : (args : List Name) → length args ≤ 2 → All IsShortName args → length (arguments_text args) ≤ 14
arguments_are_short [] few all = omega arith
arguments_are_short (a ∷ []) few all =
    let short = All-head IsShortName a [] all in
    omega arith
arguments_are_short (a ∷ b ∷ []) few all =
    let short = All-head IsShortName a (b ∷ []) all in
    let also = All-head IsShortName b [] (All-tail IsShortName a (b ∷ []) all) in
    grind (arith, common_steps, length-append)
arguments_are_short (a ∷ b ∷ c ∷ more) few all = absurd (omega arith)

gate_line_is_short : (out : Name) (kind : Kind) (args : List Name) → IsShortName out → length args ≤ 2
    → All IsShortName args → length (statement_line (gate_line out kind args)) ≤ 100
gate_line_is_short out kind args short few all =
    let word = kind_is_short kind in
    let listed = arguments_are_short args few all in
    grind (arith, common_steps, length-append)

-- ---- lines of a list

lines_are_short : {A : Type 0} (line : A → List ℕ) (xs : List A) → All (λ x. length (line x) ≤ 100) xs
    → length (flat_map line xs) ≤ length xs * 100
lines_are_short line xs all =
    rw (length-flat_map line xs) (sum_by-le (λ x. length (line x)) 100 xs all)

over_range : (line : ℕ → List ℕ) (n : ℕ) → ((k : ℕ) → k < n → length (line k) ≤ 100)
    → length (flat_map line (range_with_len 0 n)) ≤ n * 100
over_range line n each =
    let count = length-range_with_len 0 n in
    subst (λ m. length (flat_map line (range_with_len 0 n)) ≤ m * 100) count
    (lines_are_short line (range_with_len 0 n) (λ k d below.
    let inside : k < n = omega arith in
    subst (λ x. length (line x) ≤ 100) (sym (get_or-range_with_len 0 n k d inside)) (each (0 + k) (omega arith))))

module _ (size seed : ℕ) (some : 1 ≤ size) (few : size ≤ max_demo_size) where
  nets_are_few : first_gate size + size < 100000
  nets_are_few =
      let dffs = few_dffs size seed some few in
      omega arith

  short_name : (net : ℕ) → net < first_gate size + size → IsShortName (demo_name size net)
  short_name net below =
      let all = nets_are_few in
      (demo_name_is_name size net (omega arith)).1

  short_inputs : length (demo_input_lines size input_count) ≤ input_count * 100
  short_inputs = over_range (demo_input_line size) input_count
      (λ i below. input_line_is_short (demo_name size i) (short_name i (omega arith)))

  short_outputs : length (demo_output_lines size (demo size seed).outputs) ≤ length (demo size seed).outputs * 100
  short_outputs =
      lines_are_short (demo_output_line size) (demo size seed).outputs
      (All-weaker (IsBelow (first_gate size + size)) (λ net. length (demo_output_line size net) ≤ 100)
      (λ net below. output_line_is_short (demo_name size net.0) (short_name net.0 below))
      (demo size seed).outputs
      (outputs_are_below size (after_words (dff_count size) (before_gate size seed size)) output_draws some))

  short_dffs : length (demo_dff_lines size (before_gate size seed size) (dff_count size)) ≤ dff_count size * 100
  short_dffs = over_range (drawn_dff_line size (before_gate size seed size)) (dff_count size)
      (λ j below. dff_line_is_short (demo_name size (input_count + j))
      (demo_name_of size (drawn_gate_net size (before_gate size seed size) j))
      (short_name (input_count + j) (omega arith)) (short_name _ (gate_is_below size _ some)))

  short_gate : (k : ℕ) → k < size
      → length (drawn_gate_line size (first_gate size + k) (before_gate size seed k)) ≤ 100
  short_gate k below =
      let gate = gate_drawn size seed k in
      let kind = kind_by_word (next_word (before_gate size seed k)) in
      let g = after_word (before_gate size seed k) in
      let arguments = arguments_are_below (first_gate size + k) kind g (omega arith) in
      let two = at_most_two kind in
      let counted : length gate.args ≤ 2 = omega (arith, arguments_count (first_gate size + k) kind g) in
      gate_line_is_short (demo_name size (first_gate size + k)) kind (map (demo_name_of size) gate.args)
      (short_name (first_gate size + k) (omega arith))
      (omega (arith, length-map gate.args (demo_name_of size)))
      (All-map IsShortName (demo_name_of size) gate.args
      (All-weaker (IsBelow (first_gate size + k)) (λ net. IsShortName (demo_name_of size net))
      (λ net earlier. short_name net.0 (omega arith)) gate.args arguments))

  short_gates : length (demo_gate_lines size (generator_of seed) size) ≤ size * 100
  short_gates = over_range (λ k. drawn_gate_line size (first_gate size + k) (after_gates k (generator_of seed))) size
      short_gate

  -- the text of the demonstration netlist is no longer than a netlist may be
  pub demo_is_short : length (normal_text (demo size seed)) ≤ max_netlist_bytes
  demo_is_short =
      let dffs = few_dffs size seed some few in
      let drawn = outputs_at_most size (after_words (dff_count size) (before_gate size seed size)) output_draws in
      let a = demo_input_lines size input_count in
      let b = demo_output_lines size (demo size seed).outputs in
      let c = demo_dff_lines size (before_gate size seed size) (dff_count size) in
      let d = demo_gate_lines size (generator_of seed) size in
      let short_a = short_inputs in
      let short_b = short_outputs in
      let short_c = short_dffs in
      let short_d = short_gates in
      rw (text_is size seed some, length-append (a ++ b ++ c) d, length-append (a ++ b) c, length-append a b)
      (omega arith)
