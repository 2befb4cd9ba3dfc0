-- What a definition's kind names (ISCAS-89 format).
use Rattle.std.specs.Prelude.{ℕ, List, [], ◌∷◌, Bool, ◌&&◌, eqb, leb, Option, codes}
use Rattle.std.specs.Map.{lookup}
use Rattle.std.specs.Str.{str_eq_ignore_ascii_case}
use Rattle.ht_tern.specs.Gate.{has_arity}
use Rattle.ht_tern.specs.declared.gate.Kind.{Kind}
use Rattle.ht_tern.specs.declared.gate.Kind.TheVariants.{And, Nand, Or, Nor, Xor, Xnor, Not, Buf}
use Rattle.ht_net.specs.Circuit.Netlist.{max_arguments}

-- a flip-flop, or a gate of a kind
pub data Element : Type 0 where
  flip_flop : Element
  gate_of : Kind → Element

-- the words of kinds, in capitals
abbrev pub kind_words : List (List ℕ × Element)
kind_words = (codes "AND", gate_of And) ∷ (codes "NAND", gate_of Nand) ∷ (codes "OR", gate_of Or)
    ∷ (codes "NOR", gate_of Nor)
    ∷ (codes "XOR", gate_of Xor) ∷ (codes "XNOR", gate_of Xnor) ∷ (codes "NOT", gate_of Not)
    ∷ (codes "BUFF", gate_of Buf) ∷ (codes "BUF", gate_of Buf) ∷ (codes "DFF", flip_flop) ∷ []

-- what a word names, in any letter case
abbrev pub element_named : List ℕ → Option Element
element_named word = lookup (λ known. str_eq_ignore_ascii_case word known) kind_words

-- whether it may have this number of arguments: one for DFF, as many as its kind takes for a gate, and never more than
-- the limit
abbrev pub has_count : Element → ℕ → Bool
has_count flip_flop count = eqb count 1
has_count (gate_of kind) count = has_arity kind count && leb count max_arguments
