-- How the element of the code stands for the element.
use Rattle.ht_statement.specs.declared.element.Element.{Element as Coded}
use Rattle.ht_statement.specs.declared.element.Element.TheVariants.{FlipFlop as CodedFlipFlop, Gate as CodedGate}
use Rattle.ht_statement.specs.Element.{Element, flip_flop, gate_of}

-- the element that a stored one stands for
abbrev pub element_of : Coded → Element
element_of CodedFlipFlop = flip_flop
element_of (CodedGate kind) = gate_of kind
