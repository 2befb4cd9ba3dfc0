-- A list of vectors of one width, and how bits in a row stand for it.
use Rattle.std.specs.Prelude.{◌≡◌, ◌<◌, ℕ, suc, zero, List, [], ◌∷◌, ◌*◌, ◌^◌, Bool, length, take, drop}
use Rattle.ht_net.specs.declared.vectors.Vectors.TheInside.{Inside}
use Rattle.ht_net.specs.Frames.Rows.{Rows}

-- the first n rows of so many bits each in a flat list
abbrev pub chunks : ℕ → ℕ → List Bool → List (List Bool)
chunks width zero bits = []
chunks width (suc n) bits = take width bits ∷ chunks width n (drop width bits)

-- the list of vectors that flat bits stand for
abbrev pub vectors_of : Inside → Rows
vectors_of a = record { width = a.width; list = chunks a.width a.count a.bits.items }

-- There are as many bits as the vectors have.
pub record IsWhole (a : Inside) : Type 0 where
  pub whole : a.count * a.width ≡ length a.bits.items
  pub fits : a.count < 2 ^ 62
