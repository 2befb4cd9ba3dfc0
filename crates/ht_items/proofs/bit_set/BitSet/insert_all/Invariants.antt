use Rattle.std.specs.List.{Contains}
use Rattle.std.proofs.Common.{◌≡◌, ℕ, true, false, length, get_or, take}
use Rattle.ht_items.proofs.bit_set.BitSet.insert_all.Given as goal

abbrev pub invariant-loop-number : goal.invariant-loop-number
invariant-loop-number l = record {
  count : length l.self ≡ length l.fn.self;
  all : (i : ℕ) → Contains (take l.number-index l.numbers) i → get_or l.self i false ≡ true;
  more : (i : ℕ) → get_or l.fn.self i false ≡ true → get_or l.self i false ≡ true;
  rest : (i : ℕ) → ¬ Contains l.numbers i → get_or l.self i false ≡ get_or l.fn.self i false;
}
