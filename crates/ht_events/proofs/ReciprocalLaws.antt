-- An item's frame by the reciprocal of a frame's length.
use Rattle.std.proofs.Common.{◌≡◌, ◌<◌, ◌≤◌, ◌+◌, ◌-◌, ◌*◌, ◌/◌, ◌%◌, ◌^◌, ℕ, suc, sym, ◌∙◌, ap, arith}
use Rattle.std.proofs.lemmas.Nat.{div-mul-add, div-add-mod'}
use Rattle.std.proofs.Math.Nat.{add-mul, mul-add, mul_assoc, mul_comm, suc-mul, mul-le-mul_right, mod-lt, div-lt_iff_lt-mul, le-div_iff_mul-le}
use Rattle.ht_events.specs.FrameLengths.{IsReciprocal, max_frames, scale}

-- The quotient of x by n, and the rest; so of the scale. All but the last line is linear in the products.
module _ (n x : ℕ) (some : 0 < n) (few : n < 2 ^ 16) (known : x < max_frames * n) where
  abbrev k : ℕ
  k = scale / n

  abbrev q : ℕ
  q = x / n

  abbrev r : ℕ
  r = x % n

  -- what a frame's length lacks to divide more than the scale
  abbrev e : ℕ
  e = n - scale % n

  scale_is : k * n + scale % n ≡ scale
  scale_is = div-add-mod' scale n

  whole : n * (k + 1) ≡ scale + e
  whole =
      let s = scale_is in
      let m = mod-lt scale some in
      let a : n * (k + 1) ≡ n * k + n * 1 = mul-add n k 1 in
      let b : n * k ≡ k * n = mul_comm n k in
      omega (arith, s, m, a, b)

  product : x * (k + 1) ≡ q * scale + (q * e + r * (k + 1))
  product =
      let split : q * n + r ≡ x = div-add-mod' x n in
      let a : (q * n + r) * (k + 1) ≡ q * n * (k + 1) + r * (k + 1) = add-mul (q * n) r (k + 1) in
      let b : q * n * (k + 1) ≡ q * (scale + e) = mul_assoc q n (k + 1) ∙ ap (λ (t : ℕ). q * t) whole in
      let d : q * (scale + e) ≡ q * scale + q * e = mul-add q scale e in
      let f : x * (k + 1) ≡ (q * n + r) * (k + 1) = ap (λ (t : ℕ). t * (k + 1)) (sym split) in
      omega (arith, a, b, d, f)

  far : max_frames * n ≤ k
  far =
      let a : 447 * n * n ≤ 29294145 * n = mul-le-mul_right n (omega (arith, few)) in
      (le-div_iff_mul-le {k = n} {x = max_frames * n} {y = scale} some).1 (omega (arith, a, few))

  rest : q * e + r * (k + 1) < scale
  rest =
      let s = scale_is in
      let m = mod-lt scale some in
      let rs = mod-lt x some in
      let qs : q < max_frames = (div-lt_iff_lt-mul {k = n} {x = x} {y = max_frames} some).1 known in
      let a : suc q * e ≤ max_frames * e = mul-le-mul_right e (omega (arith, qs)) in
      let b : suc q * e ≡ q * e + e = suc-mul q e in
      let d : suc r * (k + 1) ≤ n * (k + 1) = mul-le-mul_right (k + 1) (omega (arith, rs)) in
      let f : suc r * (k + 1) ≡ r * (k + 1) + (k + 1) = suc-mul r (k + 1) in
      let g = whole in
      let h = far in
      omega (arith, s, m, a, b, d, f, g, h)

  quotient : x * (k + 1) / scale ≡ x / n
  quotient = ap (λ (t : ℕ). t / scale) product ∙ div-mul-add q scale (q * e + r * (k + 1)) rest

-- the scale divided by a frame's length, and one more, is its reciprocal, for a length below 2^16
pub reciprocal_is : (n : ℕ) → 0 < n → n < 2 ^ 16 → IsReciprocal n (scale / n + 1)
reciprocal_is n some few = λ x known. quotient n x some few known
