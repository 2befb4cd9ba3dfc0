-- What is drawn stays within its bounds.
use Rattle.std.proofs.Common.{◌≡◌, ◌≢◌, ℕ, zero, suc, ◌+◌, ◌<◌, ◌≤◌, List, [], ◌∷◌, ◌++◌, Bool, true, false, length, get_or, refl, sym, ap, ◌∙◌, add-one, arith, length-append, nat_eq, if◌then◌else◌}
use Rattle.std.specs.List.{All, range_with_len}
use Rattle.std.proofs.lemmas.Nat.{mod_below}
use Rattle.std.proofs.lemmas.Bool.{false≢true, eq-eqb}
use Rattle.std.proofs.lemmas.List.Elements.{All-nil, All-push, Contains-get_or}
use Rattle.std.proofs.lemmas.List.Folds.{list_any-from_Any}
use Rattle.std.proofs.lemmas.List.Quantifiers.{all_pairs_push}
use Rattle.ht_net.specs.Circuit.Lists.{AllDiffer}
use Rattle.std.proofs.lemmas.List.FromFn.{length-map-range_with_len}
use Rattle.rand_pcg.specs.Lcg.{Lcg}
use Rattle.ht_tern.specs.declared.gate.Kind.{Kind}
use Rattle.ht_tern.specs.Gate.{HasArity}
use Rattle.ht_net.specs.declared.net.NetId.{NetId}
use Rattle.ht_random.specs.Words.{next_word, after_words}
use Rattle.ht_demo.specs.Counts.{first_gate}
use Rattle.ht_demo.specs.Draws.{argument_count, argument_by_word, drawn_arguments, after_gate, after_gates, gate_by_word, drawn_gate_net, includes_net, with_net, drawn_outputs}
use Rattle.ht_demo.proofs.KindLaws.{by_kind}
use Rattle.ht_demo.proofs.RangeLaws.{All-map_always}

abbrev pub IsBelow : ℕ → NetId → Type 0
IsBelow nets net = net.0 < nets

-- ---- gates

-- the generator after k + 1 gates is the one after k gates and then one more
pub after_gates_more : (k : ℕ) (g : Lcg) → after_gates (k + 1) g ≡ after_gate (after_gates k g)
after_gates_more k g = rw add-one refl

-- the argument that a word gives is one of the nets before the gate
pub argument_is_below : (nets word : ℕ) → 1 ≤ nets → IsBelow nets (argument_by_word nets word)
argument_is_below nets word some = omega arith

-- all arguments that are drawn for a gate are nets before it
pub arguments_are_below : (nets : ℕ) (kind : Kind) (g : Lcg) → 1 ≤ nets
    → All (IsBelow nets) (drawn_arguments nets kind g)
arguments_are_below nets kind g some =
    All-map_always (IsBelow nets) (λ i. argument_by_word nets (next_word (after_words i g)))
    (λ i. argument_is_below nets _ some) (range_with_len 0 (argument_count kind))

-- as many arguments are drawn as the kind has
pub arguments_count : (nets : ℕ) (kind : Kind) (g : Lcg) → length (drawn_arguments nets kind g) ≡ argument_count kind
arguments_count nets kind g =
    length-map-range_with_len (λ i. argument_by_word nets (next_word (after_words i g))) 0 (argument_count kind)

-- each kind gets a number of arguments that it may have
pub count_is_arity : (kind : Kind) → HasArity kind (argument_count kind)
count_is_arity = by_kind (λ kind. HasArity kind (argument_count kind)) refl refl refl refl refl refl refl refl

-- no kind gets more than two arguments
pub at_most_two : (kind : Kind) → argument_count kind ≤ 2
at_most_two = by_kind (λ kind. argument_count kind ≤ 2)
    (omega arith) (omega arith) (omega arith) (omega arith) (omega arith) (omega arith) (omega arith) (omega arith)

-- ---- flip-flops and outputs

-- the gate that a word gives drives a net of the netlist
pub gate_is_below : (size word : ℕ) → 1 ≤ size → IsBelow (first_gate size + size) (gate_by_word size word)
gate_is_below size word some =
    let small = mod_below word size some in
    omega arith

-- one of two, by a test
by_test : {A : Type 0} (P : A → Type 0) (b : Bool) (x y : A) → (b ≡ true → P x) → (b ≡ false → P y)
    → P (if b then x else y)
by_test P true x y holds fails = holds refl
by_test P false x y holds fails = fails refl

absent : (nets : List NetId) (net : NetId) → includes_net nets net ≡ false
    → (k : ℕ) (d : NetId) → k < length nets → get_or nets k d ≢ net
absent nets net none k d below same =
    let here = Contains-get_or nets k d below in
    false≢true (sym none ∙ list_any-from_Any (λ (other : NetId). nat_eq other.0 net.0) nets
    (here.0, get_or nets k d, here.1, here.2, eq-eqb _ _ (ap (λ (n : NetId). n.0) same)))

module _ (size : ℕ) (g : Lcg) where
  -- before a word is drawn there is no output
  pub no_outputs : drawn_outputs size g 0 ≡ []
  unfolding drawn_outputs
  no_outputs = refl

  -- one more word adds the gate that it gives to the outputs, unless it is one of them
  pub outputs_more : (n : ℕ)
      → drawn_outputs size g (n + 1) ≡ with_net (drawn_outputs size g n) (drawn_gate_net size g n)
  unfolding drawn_outputs
  outputs_more n = ap (drawn_outputs size g) (add-one n)

  -- no gate is an output twice
  pub outputs_differ : (n : ℕ) → AllDiffer (drawn_outputs size g n)
  unfolding drawn_outputs
  outputs_differ zero = λ i j d before below. absurd (omega arith)
  outputs_differ (suc n) =
      let nets = drawn_outputs size g n in
      let net = drawn_gate_net size g n in
      by_test (λ (l : List NetId). AllDiffer l) (includes_net nets net) nets (nets ++ net ∷ [])
      (λ is. outputs_differ n)
      (λ none. all_pairs_push (λ x y. x ≢ y) nets net (outputs_differ n) (absent nets net none))

  -- all outputs that are drawn are nets of the netlist
  pub outputs_are_below : (n : ℕ) → 1 ≤ size → All (IsBelow (first_gate size + size)) (drawn_outputs size g n)
  unfolding drawn_outputs
  outputs_are_below zero some = All-nil (IsBelow (first_gate size + size))
  outputs_are_below (suc n) some =
      let nets = drawn_outputs size g n in
      let net = drawn_gate_net size g n in
      let before = outputs_are_below n some in
      by_test (λ (l : List NetId). All (IsBelow (first_gate size + size)) l) (includes_net nets net) nets
      (nets ++ net ∷ [])
      (λ is. before)
      (λ none. All-push (IsBelow (first_gate size + size)) nets net before (gate_is_below size _ some))

  -- n words give at most n outputs
  pub outputs_at_most : (n : ℕ) → length (drawn_outputs size g n) ≤ n
  unfolding drawn_outputs
  outputs_at_most zero = omega arith
  outputs_at_most (suc n) =
      let nets = drawn_outputs size g n in
      let net = drawn_gate_net size g n in
      let before = outputs_at_most n in
      by_test (λ (l : List NetId). length l ≤ suc n) (includes_net nets net) nets (nets ++ net ∷ [])
      (λ is. omega arith)
      (λ none. omega (arith, length-append nets (net ∷ [])))
