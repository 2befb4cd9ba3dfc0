-- What holds of each kind of gate holds of all.
use Rattle.ht_tern.specs.declared.gate.Kind.{Kind}
use Rattle.ht_tern.specs.declared.gate.Kind.TheVariants.{And, Nand, Or, Nor, Xor, Xnor, Not, Buf}

-- what holds of the eight kinds one by one holds of any kind
pub by_kind : (P : Kind → Type 0) → P And → P Nand → P Or → P Nor → P Xor → P Xnor → P Not → P Buf
    → (kind : Kind) → P kind
by_kind P and nand or nor xor xnor not buf And = and
by_kind P and nand or nor xor xnor not buf Nand = nand
by_kind P and nand or nor xor xnor not buf Or = or
by_kind P and nand or nor xor xnor not buf Nor = nor
by_kind P and nand or nor xor xnor not buf Xor = xor
by_kind P and nand or nor xor xnor not buf Xnor = xnor
by_kind P and nand or nor xor xnor not buf Not = not
by_kind P and nand or nor xor xnor not buf Buf = buf
