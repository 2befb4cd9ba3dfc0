-- Numbers in texts: decimal, without a sign and without leading zeros.
use Rattle.std.specs.Prelude.{◌≡◌, ℕ, ◌≤◌, List}
use Rattle.std.specs.Fmt.{decimal}

-- the text is that of this number, which is at most `most`
pub record IsNumberText (most : ℕ) (text : List ℕ) (number : ℕ) : Type 0 where
  pub digits : text ≡ decimal number
  pub bound : number ≤ most
