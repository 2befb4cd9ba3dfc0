-- A net that is forced to a value for one frame, whatever drives it.
use Rattle.std.specs.Prelude.{◌==◌, ℕ, if◌then◌else◌}
use Rattle.ht_net.specs.Frames.Frame.{Rules}

-- the rules of a machine with net x forced to v: its stem gives v, whatever it carries
abbrev pub net_forced : {V : Type 0} → Rules V → ℕ → V → Rules V
net_forced r x v = record {
  blank = r.blank;
  gate = r.gate;
  stem = λ y w. if y == x then v else r.stem y w;
  pin = r.pin;
  data_pin = r.data_pin;
}

-- the values of nets, where net x has the value v in place of its own
abbrev pub with_net_value : {V : Type 0} → (ℕ → V) → ℕ → V → ℕ → V
with_net_value env x v y = if y == x then v else env y
