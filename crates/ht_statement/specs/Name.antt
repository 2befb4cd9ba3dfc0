-- Names of nets (ISCAS-89 format).
use Rattle.std.specs.Prelude.{ℕ, Bool, ◌&&◌, ◌||◌, not, eqb, leb, length}
use Rattle.std.specs.List.{list_all}
use Rattle.ht_net.specs.Build.Named.{Name}

-- one of `#`, `(`, `)`, `,` and `=`, which end a word as a blank does
abbrev pub ends_word : ℕ → Bool
ends_word byte = eqb byte 35 || (eqb byte 40 || (eqb byte 41 || (eqb byte 44 || eqb byte 61)))

-- a printable byte that is no blank and ends no word
abbrev pub is_name_byte : ℕ → Bool
is_name_byte byte = leb 33 byte && leb byte 126 && not (ends_word byte)

-- the most bytes that a name may have
abbrev pub max_name_bytes : ℕ
max_name_bytes = 255

-- at least one such byte and at most 255
abbrev pub is_name : Name → Bool
is_name name = leb 1 (length name) && leb (length name) max_name_bytes && list_all is_name_byte name
