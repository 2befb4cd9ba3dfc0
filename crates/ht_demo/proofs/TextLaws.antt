-- The normal text of the demonstration netlist, by the lines as they are drawn.
use Rattle.std.proofs.Common.{◌≡◌, ℕ, ◌+◌, ◌<◌, ◌≤◌, List, ◌++◌, get_or, map, take, sym, ap, ◌∙◌, arith, []}
use Rattle.std.specs.List.{range_with_len}
use Rattle.std.proofs.lemmas.Grind.{flat_map-append}
use Rattle.std.proofs.lemmas.List.FromFn.{take-map-range_with_len, fill_by_all}
use Rattle.ht_tern.specs.declared.gate.Kind.{Kind}
use Rattle.ht_net.specs.declared.net.NetId.{NetId}
use Rattle.ht_net.specs.Circuit.Netlist.{first_gate_net}
use Rattle.ht_net.specs.Build.Named.{Name, NamedDff, NamedGate, name_of, named_dffs, named_gates}
use Rattle.ht_statement.specs.Statement.{Statement, input_line, output_line}
use Rattle.ht_statement.specs.StatementText.{statement_line}
use Rattle.ht_bench.specs.Normal.{statement_lines, dff_statement, gate_statement, normal_text}
use Rattle.ht_bench.proofs.NamedPartLaws.{no_named_dff, gate_named, named_dffs_count, named_gates_count, get_or-named_dffs, get_or-named_gates}
use Rattle.ht_net.proofs.NameCycleLaws.{no_named_gate}
use Rattle.ht_net.proofs.PlaceLaws.{map_agree}
use Rattle.ht_random.specs.Words.{generator_of, next_word, after_word, after_words}
use Rattle.ht_demo.specs.Counts.{input_count, dff_count, first_gate, demo_name}
use Rattle.ht_demo.specs.Draws.{kind_by_word, drawn_gate_net}
use Rattle.ht_demo.specs.Demo.{output_draws}
use Rattle.ht_demo.specs.DemoText.{demo_name_of, demo_input_lines, demo_output_lines, demo_dff_lines, demo_gate_lines}
use Rattle.ht_demo.proofs.RangeLaws.{ap2, flat_map-map}
use Rattle.ht_demo.proofs.DrawLaws.{IsBelow, arguments_are_below, gate_is_below, outputs_are_below}
use Rattle.ht_demo.proofs.CircuitLaws.{demo, before_gate, gate_drawn, gates_count, dffs_count, first_is, gate_is, dff_is, name_is}

four_parts : (a b c d : List Statement) → statement_lines (a ++ b ++ c ++ d)
    ≡ statement_lines a ++ statement_lines b ++ statement_lines c ++ statement_lines d
four_parts a b c d =
    flat_map-append statement_line (a ++ b ++ c) d
    ∙ ap (λ t. t ++ statement_lines d) (flat_map-append statement_line (a ++ b) c
    ∙ ap (λ t. t ++ statement_lines c) (flat_map-append statement_line a b))

all_same : {a b c d e f g h : List ℕ} → a ≡ e → b ≡ f → c ≡ g → d ≡ h → a ++ b ++ c ++ d ≡ e ++ f ++ g ++ h
all_same first second third fourth =
    ap2 (λ l r. l ++ r) (ap2 (λ l r. l ++ r) (ap2 (λ l r. l ++ r) first second) third) fourth

abbrev named_dff : Name → Name → NamedDff
named_dff out data_pin = record { out = out; data_pin = data_pin }

abbrev named_gate : Kind → Name → List Name → NamedGate
named_gate kind out args = record { kind = kind; out = out; args = args }

module _ (size seed : ℕ) (some : 1 ≤ size) where
  same_name : (net : NetId) → IsBelow (first_gate size + size) net
      → name_of (demo size seed) net ≡ demo_name_of size net
  same_name net below = name_is size seed net.0 [] below

  input_part : statement_lines (map input_line (take input_count (demo size seed).names))
      ≡ demo_input_lines size input_count
  input_part =
      ap (λ names. statement_lines (map input_line names))
      (take-map-range_with_len (demo_name size) 0 (first_gate size + size) input_count (omega arith))
      ∙ flat_map-map statement_line input_line (map (demo_name size) (range_with_len 0 input_count))
      ∙ flat_map-map (λ (name : Name). statement_line (input_line name)) (demo_name size) (range_with_len 0 input_count)

  output_part : statement_lines (map output_line (map (name_of (demo size seed)) (demo size seed).outputs))
      ≡ demo_output_lines size (demo size seed).outputs
  output_part =
      let outputs = (demo size seed).outputs in
      ap (λ names. statement_lines (map output_line names))
      (map_agree (IsBelow (first_gate size + size)) (name_of (demo size seed)) (demo_name_of size) same_name outputs
      (outputs_are_below size (after_words (dff_count size) (before_gate size seed size)) output_draws some))
      ∙ flat_map-map statement_line output_line (map (demo_name_of size) outputs)
      ∙ flat_map-map (λ (name : Name). statement_line (output_line name)) (demo_name_of size) outputs

  -- ---- flip-flops

  abbrev dff_at : ℕ → NamedDff
  dff_at j = record {
    out = demo_name size (input_count + j);
    data_pin = demo_name_of size (drawn_gate_net size (before_gate size seed size) j);
  }

  dff_at_is : (j : ℕ) → j < dff_count size
      → get_or (named_dffs (demo size seed) input_count (demo size seed).dffs) j no_named_dff ≡ dff_at j
  dff_at_is j below =
      let out = name_is size seed (input_count + j) [] (omega arith) in
      let drawn = dff_is size seed j below in
      let pin = same_name (drawn_gate_net size (before_gate size seed size) j) (gate_is_below size _ some) in
      get_or-named_dffs (demo size seed) input_count (demo size seed).dffs j (omega (arith, dffs_count size seed))
      ∙ ap2 (λ (o d : Name). named_dff o d) out (ap (name_of (demo size seed)) drawn ∙ pin)

  dff_part : statement_lines (map dff_statement (named_dffs (demo size seed) input_count (demo size seed).dffs))
      ≡ demo_dff_lines size (before_gate size seed size) (dff_count size)
  dff_part =
      let named = named_dffs (demo size seed) input_count (demo size seed).dffs in
      ap (λ dffs. statement_lines (map dff_statement dffs))
      (fill_by_all dff_at named (dff_count size) no_named_dff
      (named_dffs_count (demo size seed) input_count (demo size seed).dffs ∙ dffs_count size seed) dff_at_is)
      ∙ flat_map-map statement_line dff_statement (map dff_at (range_with_len 0 (dff_count size)))
      ∙ flat_map-map (λ (d : NamedDff). statement_line (dff_statement d)) dff_at (range_with_len 0 (dff_count size))

  -- ---- gates

  abbrev gate_at_place : ℕ → NamedGate
  gate_at_place k = record {
    kind = (gate_drawn size seed k).kind;
    out = demo_name size (first_gate size + k);
    args = map (demo_name_of size) (gate_drawn size seed k).args;
  }

  same_arguments : (k : ℕ) → k < size
      → map (name_of (demo size seed)) (gate_drawn size seed k).args
      ≡ map (demo_name_of size) (gate_drawn size seed k).args
  same_arguments k below =
      map_agree (IsBelow (first_gate size + k)) (name_of (demo size seed)) (demo_name_of size)
      (λ net earlier. same_name net (omega arith)) (gate_drawn size seed k).args
      (arguments_are_below (first_gate size + k) (kind_by_word (next_word (before_gate size seed k)))
      (after_word (before_gate size seed k)) (omega arith))

  gate_at_is : (k : ℕ) → k < size
      → get_or (named_gates (demo size seed) (first_gate_net (demo size seed)) (demo size seed).gates) k no_named_gate
      ≡ gate_at_place k
  gate_at_is k below =
      let kind = (gate_drawn size seed k).kind in
      let out = ap (λ n. get_or (demo size seed).names (n + k) []) (first_is size seed)
      ∙ name_is size seed (first_gate size + k) [] (omega arith) in
      get_or-named_gates (demo size seed) (first_gate_net (demo size seed)) (demo size seed).gates k
      (omega (arith, gates_count size seed))
      ∙ ap (gate_named (demo size seed) (first_gate_net (demo size seed) + k)) (gate_is size seed k below)
      ∙ ap2 (λ (o : Name) (a : List Name). named_gate kind o a) out (same_arguments k below)

  gate_part : statement_lines (map gate_statement
      (named_gates (demo size seed) (first_gate_net (demo size seed)) (demo size seed).gates))
      ≡ demo_gate_lines size (generator_of seed) size
  gate_part =
      let first = first_gate_net (demo size seed) in
      let named = named_gates (demo size seed) first (demo size seed).gates in
      ap (λ gates. statement_lines (map gate_statement gates))
      (fill_by_all gate_at_place named size no_named_gate
      (named_gates_count (demo size seed) first (demo size seed).gates ∙ gates_count size seed) gate_at_is)
      ∙ flat_map-map statement_line gate_statement (map gate_at_place (range_with_len 0 size))
      ∙ flat_map-map (λ (g : NamedGate). statement_line (gate_statement g)) gate_at_place (range_with_len 0 size)

  -- the normal text is the lines of the inputs, outputs, flip-flops and gates, as they are drawn
  pub text_is : normal_text (demo size seed) ≡ demo_input_lines size input_count
      ++ demo_output_lines size (demo size seed).outputs
      ++ demo_dff_lines size (before_gate size seed size) (dff_count size)
      ++ demo_gate_lines size (generator_of seed) size
  text_is =
      let c = demo size seed in
      four_parts (map input_line (take input_count c.names)) (map output_line (map (name_of c) c.outputs))
      (map dff_statement (named_dffs c input_count c.dffs))
      (map gate_statement (named_gates c (first_gate_net c) c.gates))
      ∙ all_same input_part output_part dff_part gate_part

  -- the text, from its parts
  pub text_of_parts : (inputs outputs dffs gates : List ℕ) (nets : List NetId)
      → gates ≡ demo_gate_lines size (generator_of seed) size
      → dffs ≡ demo_dff_lines size (before_gate size seed size) (dff_count size)
      → nets ≡ (demo size seed).outputs → outputs ≡ demo_output_lines size nets
      → inputs ≡ demo_input_lines size input_count
      → inputs ++ outputs ++ dffs ++ gates ≡ normal_text (demo size seed)
  text_of_parts inputs outputs dffs gates nets is_gates is_dffs is_nets is_outputs is_inputs =
      all_same is_inputs (is_outputs ∙ ap (demo_output_lines size) is_nets) is_dffs is_gates ∙ sym text_is
