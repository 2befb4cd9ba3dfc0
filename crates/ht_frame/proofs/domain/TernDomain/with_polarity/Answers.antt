use Rattle.std.proofs.Common.{◌≡◌, ◌∙◌, rules, refl}
use Rattle.ht_tern.specs.declared.gate.Kind.{Kind}
use Rattle.ht_tern.specs.declared.gate.Kind.TheVariants.{And, Nand, Or, Nor, Xor, Xnor, Not, Buf}
use Rattle.ht_tern.specs.declared.tern.Tern.{Tern}
use Rattle.ht_tern.specs.Gate.{complement_of, polarity_of, tern_operations}
use Rattle.ht_frame.proofs.domain.TernDomain.with_polarity.Goals as goal

-- the value itself or its complement, kind by kind, as in the table
abbrev by_kind : Kind → Tern → Tern
by_kind And v = v
by_kind Nand v = complement_of v
by_kind Or v = v
by_kind Nor v = complement_of v
by_kind Xor v = v
by_kind Xnor v = complement_of v
by_kind Not v = complement_of v
by_kind Buf v = v

-- it is what the kind makes of a folded value
is_by_kind : (kind : Kind) (v : Tern) → by_kind kind v ≡ polarity_of tern_operations kind v
is_by_kind And v = refl
is_by_kind Nand v = refl
is_by_kind Or v = refl
is_by_kind Nor v = refl
is_by_kind Xor v = refl
is_by_kind Xnor v = refl
is_by_kind Not v = refl
is_by_kind Buf v = refl

pub returns : goal.returns
returns c = (search rules) ∙ is_by_kind c.args.kind c.args.value
