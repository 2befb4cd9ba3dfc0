-- Flip-flops and gates of a circuit by name.
use Rattle.std.proofs.Common.{◌≡◌, ℕ, zero, suc, ◌+◌, ◌<◌, List, [], ◌∷◌, length, get_or, map, refl, sym, ap, subst, ◌∙◌, arith, All}
use Rattle.std.proofs.lemmas.List.{get_or-map}
use Rattle.std.proofs.lemmas.List.Elements.{All-from_get_or}
use Rattle.ht_net.specs.declared.net.NetId.{NetId}
use Rattle.ht_net.specs.Circuit.Netlist.{Netlist, Gate, no_net, no_gate}
use Rattle.ht_net.specs.Build.Draft.{dff_outs, gate_outs}
use Rattle.ht_net.proofs.NameCycleLaws.{no_named_gate}
use Rattle.ht_net.specs.Build.Named.{NamedDff, NamedGate, name_of, named_dffs, named_gates}

-- ---- lists whose members are numbered from a start on

module _ {A B : Type 0} (f : ℕ → A → B) (g : ℕ → List A → List B) (none : (n : ℕ) → g n [] ≡ [])
    (more : (n : ℕ) (x : A) (xs : List A) → g n (x ∷ xs) ≡ f n x ∷ g (n + 1) xs) where
  length-numbered : (n : ℕ) (xs : List A) → length (g n xs) ≡ length xs
  length-numbered n [] = ap length (none n)
  length-numbered n (x ∷ xs) = ap length (more n x xs) ∙ ap suc (length-numbered (n + 1) xs)

  get_or-numbered : (n : ℕ) (xs : List A) (k : ℕ) (d : A) (e : B) → k < length xs
      → get_or (g n xs) k e ≡ f (n + k) (get_or xs k d)
  get_or-numbered n [] k d e below = absurd (omega arith)
  get_or-numbered n (x ∷ xs) zero d e below = ap (λ l. get_or l 0 e) (more n x xs) ∙ ap (λ m. f m x) (omega arith)
  get_or-numbered n (x ∷ xs) (suc k) d e below =
      ap (λ l. get_or l (suc k) e) (more n x xs) ∙ get_or-numbered (n + 1) xs k d e (omega arith)
      ∙ ap (λ m. f m (get_or xs k d)) (omega arith)

  All-numbered : (P : B → Type 0) (n : ℕ) (xs : List A) (d : A) (e : B)
      → ((k : ℕ) → k < length xs → P (f (n + k) (get_or xs k d))) → All P (g n xs)
  All-numbered P n xs d e each = All-from_get_or P (g n xs) e (λ k below.
      let inside : k < length xs = omega (arith, length-numbered n xs) in
      subst P (sym (get_or-numbered n xs k d e inside)) (each k inside))

-- ---- flip-flops and gates by name

abbrev pub no_named_dff : NamedDff
no_named_dff = record { out = []; data_pin = [] }

abbrev pub dff_named : Netlist → ℕ → NetId → NamedDff
dff_named c x d = record { out = get_or c.names x []; data_pin = name_of c d }

abbrev pub gate_named : Netlist → ℕ → Gate → NamedGate
gate_named c x g = record { kind = g.kind; out = get_or c.names x []; args = map (name_of c) g.args }

module _ (c : Netlist) (n : ℕ) where
  -- there are as many flip-flops by name as by number
  pub named_dffs_count : (dffs : List NetId) → length (named_dffs c n dffs) ≡ length dffs
  named_dffs_count dffs = length-numbered (dff_named c) (named_dffs c) (λ m. refl) (λ m d more. refl) n dffs

  -- there are as many gates by name as by number
  pub named_gates_count : (gates : List Gate) → length (named_gates c n gates) ≡ length gates
  named_gates_count gates = length-numbered (gate_named c) (named_gates c) (λ m. refl) (λ m g more. refl) n gates

  -- flip-flop k by name has the name of net n + k and that of the net at its data pin
  pub get_or-named_dffs : (dffs : List NetId) (k : ℕ) → k < length dffs
      → get_or (named_dffs c n dffs) k no_named_dff ≡ dff_named c (n + k) (get_or dffs k no_net)
  get_or-named_dffs dffs k below = get_or-numbered (dff_named c) (named_dffs c) (λ m. refl) (λ m d more. refl) n dffs k
      no_net no_named_dff below

  -- gate k by name has the name of net n + k, its kind and the names of its arguments
  pub get_or-named_gates : (gates : List Gate) (k : ℕ) → k < length gates
      → get_or (named_gates c n gates) k no_named_gate ≡ gate_named c (n + k) (get_or gates k no_gate)
  get_or-named_gates gates k below = get_or-numbered (gate_named c) (named_gates c) (λ m. refl) (λ m g more. refl) n
      gates k no_gate no_named_gate below

  -- what holds of each flip-flop, once named, holds of all flip-flops by name
  pub All-named_dffs : (P : NamedDff → Type 0) (dffs : List NetId)
      → ((k : ℕ) → k < length dffs → P (dff_named c (n + k) (get_or dffs k no_net))) → All P (named_dffs c n dffs)
  All-named_dffs P dffs each = All-numbered (dff_named c) (named_dffs c) (λ m. refl) (λ m d more. refl) P n dffs no_net
      no_named_dff each

  -- what holds of each gate, once named, holds of all gates by name
  pub All-named_gates : (P : NamedGate → Type 0) (gates : List Gate)
      → ((k : ℕ) → k < length gates → P (gate_named c (n + k) (get_or gates k no_gate))) → All P (named_gates c n gates)
  All-named_gates P gates each = All-numbered (gate_named c) (named_gates c) (λ m. refl) (λ m g more. refl) P n gates
      no_gate no_named_gate each

  -- the nets that they drive are those from n on
  pub dff_out : (dffs : List NetId) (k : ℕ) → k < length dffs
      → get_or (dff_outs (named_dffs c n dffs)) k [] ≡ get_or c.names (n + k) []
  dff_out dffs k below =
      get_or-map (λ (d : NamedDff). d.out) (named_dffs c n dffs) k no_named_dff []
      (omega (arith, named_dffs_count dffs))
      ∙ ap (λ (d : NamedDff). d.out) (get_or-named_dffs dffs k below)

  -- the nets that the gates drive are those from n on, by name
  pub gate_out : (gates : List Gate) (k : ℕ) → k < length gates
      → get_or (gate_outs (named_gates c n gates)) k [] ≡ get_or c.names (n + k) []
  gate_out gates k below =
      get_or-map (λ (g : NamedGate). g.out) (named_gates c n gates) k no_named_gate []
      (omega (arith, named_gates_count gates)) ∙ ap (λ (g : NamedGate). g.out) (get_or-named_gates gates k below)
