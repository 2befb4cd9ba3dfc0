-- What the statements of a circuit say together; they mention no net but its own.
use Rattle.std.proofs.Common.{map-id, ◌≡◌, List, [], ◌∷◌, ◌++◌, map, append-nil, append_assoc, refl, ap, sym, ◌∙◌, ℕ, ◌+◌, ◌<◌, true, length, get_or, take, arith, fold, flat_map, All, Contains}
use Rattle.std.proofs.lemmas.List.Concat.{flat_map-append, flat_map_single}
use Rattle.std.proofs.lemmas.List.Folds.{flat_map-map}
use Rattle.std.proofs.lemmas.List.Sums.{fold-append}
use Rattle.ht_net.specs.Build.Named.{Name, NamedDff, NamedGate, NamedNetlist, name_of, named_of}
use Rattle.ht_statement.specs.Statement.{input_line, output_line, Statement, names_in}
use Rattle.ht_bench.specs.Different.{with_name, with_names, different}
use Rattle.ht_bench.specs.Contents.{with_statement, named_of_statements, driven_by}
use Rattle.ht_bench.specs.Normal.{dff_statement, gate_statement, named_statements, statements_of}
use Rattle.ht_bench.proofs.NamedPartLaws.{All-named_dffs, All-named_gates}
use Rattle.ht_net.specs.Build.Draft.{net_names}
use Rattle.std.proofs.lemmas.List.{length-map}
use Rattle.std.proofs.lemmas.List.Elements.{All-nil, All-cons, All-append, All-map, All-take, All-weaker, All-contains_itself, All-from_get_or, Contains-get_or}
use Rattle.ht_net.specs.Circuit.Netlist.{Netlist, IsCircuit, first_gate_net, net_count, gate_at, no_net}
use Rattle.ht_statement.specs.StatementText.{has_its_count}
use Rattle.ht_statement.proofs.StatedLaws.{arity_is_count}

-- ---- what lines of one kind add

-- lines each of which adds one more
said_in_turn : {A : Type 0} (made : List A → NamedNetlist) (f : A → Statement)
    → ((l : List A) (x : A) → with_statement (made l) (f x) ≡ made (l ++ x ∷ [])) → (l xs : List A)
    → fold with_statement (made l) (map f xs) ≡ made (l ++ xs)
said_in_turn made f one l [] = ap made (sym (append-nil l))
said_in_turn made f one l (x ∷ xs) = ap (λ n. fold with_statement n (map f xs)) (one l x)
    ∙ said_in_turn made f one (l ++ x ∷ []) xs ∙ ap made (append_assoc l (x ∷ []) xs)

inputs_said : (n : NamedNetlist) (xs : List Name) → fold with_statement n (map input_line xs)
    ≡ record n { inputs = n.inputs ++ xs }
inputs_said n xs = said_in_turn (λ l. record n { inputs = l }) input_line (λ l x. refl) n.inputs xs

outputs_said : (n : NamedNetlist) (xs : List Name) → fold with_statement n (map output_line xs)
    ≡ record n { outputs = with_names n.outputs xs }
outputs_said n [] = refl
outputs_said n (x ∷ xs) = outputs_said (record n { outputs = with_name n.outputs x }) xs

dffs_said : (n : NamedNetlist) (xs : List NamedDff) → fold with_statement n (map dff_statement xs)
    ≡ record n { dffs = n.dffs ++ xs }
dffs_said n xs = said_in_turn (λ l. record n { dffs = l }) dff_statement (λ l x. refl) n.dffs xs

gates_said : (n : NamedNetlist) (xs : List NamedGate) → fold with_statement n (map gate_statement xs)
    ≡ record n { gates = n.gates ++ xs }
gates_said n xs = said_in_turn (λ l. record n { gates = l }) gate_statement (λ l x. refl) n.gates xs

-- ---- all of them

flat_none : {A B : Type 0} (xs : List A) → flat_map {X = A} {A = B} (λ x. []) xs ≡ []
flat_none [] = refl
flat_none (x ∷ xs) = flat_none xs

module _ (n : NamedNetlist) where
  -- the statements of a netlist together say that netlist, with each of its outputs once
  pub named_said : named_of_statements (named_statements n) ≡ record n { outputs = different n.outputs }
  named_said = simp (fold-append, inputs_said, outputs_said, dffs_said, gates_said)

  -- the statements of a netlist drive its inputs, its flip-flops' nets and its gates' nets, in this order
  pub driven_are : driven_by (named_statements n) ≡ net_names n
  driven_are = simp (
    flat_map-append,
    flat_map-map,
    flat_none {A = Name} {B = Name},
    flat_map_single (λ (name : Name). name),
    flat_map_single (λ (d : NamedDff). d.out),
    flat_map_single (λ (g : NamedGate). g.out),
    map-id,
    append-nil,
  )

All-statements : (P : Statement → Type 0) (n : NamedNetlist) → All (λ name. P (input_line name)) n.inputs
    → All (λ name. P (output_line name)) n.outputs → All (λ (d : NamedDff). P (dff_statement d)) n.dffs
    → All (λ (g : NamedGate). P (gate_statement g)) n.gates → All P (named_statements n)
All-statements P n inputs outputs dffs gates =
    let in_lines = map input_line n.inputs in
    let out_lines = map output_line n.outputs in
    let dff_lines = map dff_statement n.dffs in
    All-append P ((in_lines ++ out_lines) ++ dff_lines) (map gate_statement n.gates)
    (All-append P (in_lines ++ out_lines) dff_lines
    (All-append P in_lines out_lines (All-map P input_line n.inputs inputs) (All-map P output_line n.outputs outputs))
    (All-map P dff_statement n.dffs dffs)) (All-map P gate_statement n.gates gates)

module _ (c : Netlist) (is : IsCircuit c) where
  has_net : (x : ℕ) → x < net_count c → Contains c.names (get_or c.names x [])
  has_net x below = Contains-get_or c.names x [] (omega arith)

  abbrev IsMade : Statement → Type 0
  IsMade s = All (Contains c.names) (names_in s)

  only_one : (name : Name) → Contains c.names name → All (Contains c.names) (name ∷ [])
  only_one name has = All-cons (Contains c.names) name [] has (All-nil (Contains c.names))

  -- each name in each statement is a net's
  pub statements_made : All (λ s. All (Contains c.names) (names_in s)) (statements_of c)
  statements_made = All-statements IsMade (named_of c)
      (All-weaker (Contains c.names) (λ name. IsMade (input_line name)) only_one (take c.inputs c.names)
      (All-take (Contains c.names) c.inputs c.names (All-contains_itself c.names)))
      (All-map (λ name. IsMade (output_line name)) (name_of c) c.outputs
      (All-from_get_or (λ net. IsMade (output_line (name_of c net))) c.outputs no_net
      (λ o below. only_one (name_of c (get_or c.outputs o no_net))
      (has_net (get_or c.outputs o no_net).0 (is.outputs_known o below)))))
      (All-named_dffs c c.inputs (λ d. IsMade (dff_statement d)) c.dffs (λ j inside.
      All-cons (Contains c.names) (get_or c.names (c.inputs + j) []) (name_of c (get_or c.dffs j no_net) ∷ [])
      (has_net (c.inputs + j) (omega arith))
      (only_one (name_of c (get_or c.dffs j no_net)) (has_net (get_or c.dffs j no_net).0 (is.data_known j inside)))))
      (All-named_gates c (first_gate_net c) (λ g. IsMade (gate_statement g)) c.gates (λ g inside.
      All-cons (Contains c.names) (get_or c.names (first_gate_net c + g) []) (map (name_of c) (gate_at c g).args)
      (has_net (first_gate_net c + g) (omega arith))
      (All-map (Contains c.names) (name_of c) (gate_at c g).args
      (All-from_get_or (λ net. Contains c.names (name_of c net)) (gate_at c g).args no_net
      (λ i within. has_net (get_or (gate_at c g).args i no_net).0 (is.known g i inside within))))))

  -- each statement of a circuit has a number of arguments that its kind may have
  pub have_counts : All (λ s. has_its_count s ≡ true) (statements_of c)
  have_counts =
      let HasIts : Statement → Type 0 = λ s. has_its_count s ≡ true in
      All-statements HasIts (named_of c) (λ k d below. refl) (λ k d below. refl) (λ k d below. refl)
      (All-named_gates c (first_gate_net c) (λ g. HasIts (gate_statement g)) c.gates (λ g inside.
      let few = is.few_args g inside in
      arity_is_count (gate_at c g).kind (length (map (name_of c) (gate_at c g).args))
      (rw length-map (is.arities g inside)) (rw length-map (omega arith))))
