-- What words mean in a demonstration netlist.
use Rattle.std.specs.Prelude.{ℕ, zero, suc, ◌+◌, ◌-◌, ◌%◌, min, List, [], ◌∷◌, ◌++◌, Bool, true, false, map, get_or, if◌then◌else◌, nat_eq}
use Rattle.std.specs.List.{range_with_len, list_any}
use Rattle.rand_pcg.specs.Lcg.{Lcg}
use Rattle.ht_tern.specs.declared.gate.Kind.{Kind}
use Rattle.ht_tern.specs.declared.gate.Kind.TheVariants.{And, Nand, Or, Nor, Xor, Xnor, Not, Buf}
use Rattle.ht_net.specs.declared.net.NetId.{NetId}
use Rattle.ht_net.specs.Circuit.Netlist.{Gate}
use Rattle.ht_random.specs.Words.{next_word, after_word, after_words}
use Rattle.ht_demo.specs.Counts.{first_gate}

-- ---- gates

-- the kinds of gates, in their order
abbrev pub all_kinds : List Kind
all_kinds = And ∷ Nand ∷ Or ∷ Nor ∷ Xor ∷ Xnor ∷ Not ∷ Buf ∷ []

-- the kind that a word gives
abbrev pub kind_by_word : ℕ → Kind
kind_by_word word = get_or all_kinds (word % 8) And

-- NOT and BUFF have one argument, the other kinds two
abbrev pub is_unary : Kind → Bool
is_unary Not = true
is_unary Buf = true
is_unary kind = false

-- how many pins a gate of the demonstration netlist has
abbrev pub argument_count : Kind → ℕ
argument_count kind = if is_unary kind then 1 else 2

-- the argument that a word gives to a gate with so many nets before it: one of the last 64
abbrev pub argument_by_word : ℕ → ℕ → NetId
argument_by_word nets word = record { 0 = nets - 1 - word % min nets 64 }

-- the arguments of a gate of a kind, one word each
abbrev pub drawn_arguments : ℕ → Kind → Lcg → List NetId
drawn_arguments nets kind g =
    map (λ i. argument_by_word nets (next_word (after_words i g))) (range_with_len 0 (argument_count kind))

-- the next gate, with so many nets before it: one word for its kind, then its arguments
abbrev pub drawn_gate : ℕ → Lcg → Gate
drawn_gate nets g = record {
  kind = kind_by_word (next_word g);
  args = drawn_arguments nets (kind_by_word (next_word g)) (after_word g);
}

-- the generator after one gate and after k gates
abbrev pub after_gate : Lcg → Lcg
after_gate g = after_words (argument_count (kind_by_word (next_word g))) (after_word g)

-- the generator after k gates were drawn
abbrev pub after_gates : ℕ → Lcg → Lcg
after_gates zero g = g
after_gates (suc k) g = after_gate (after_gates k g)

-- ---- data pins and outputs

-- the gate that a word gives to a flip-flop or to an output, by its net
abbrev pub gate_by_word : ℕ → ℕ → NetId
gate_by_word size word = record { 0 = first_gate size + word % size }

-- the gate that the word after n others gives
abbrev pub drawn_gate_net : ℕ → Lcg → ℕ → NetId
drawn_gate_net size g n = gate_by_word size (next_word (after_words n g))

-- a net after others, unless it is one of them
abbrev pub includes_net : List NetId → NetId → Bool
includes_net nets net = list_any (λ (other : NetId). nat_eq other.0 net.0) nets

-- the nets with one more, unless it is among them
abbrev pub with_net : List NetId → NetId → List NetId
with_net nets net = if includes_net nets net then nets else nets ++ net ∷ []

-- the outputs by n words in order; a gate that is drawn twice is one output
unfoldable pub drawn_outputs : ℕ → Lcg → ℕ → List NetId
drawn_outputs size g zero = []
drawn_outputs size g (suc n) = with_net (drawn_outputs size g n) (drawn_gate_net size g n)
