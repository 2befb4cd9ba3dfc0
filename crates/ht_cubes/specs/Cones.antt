-- Marks of nets while a cone is found.
use Rattle.std.specs.Prelude.{◌≡◌, ◌<◌, ◌≤◌, ◌+◌, ℕ, suc, List, [], ◌∷◌, Bool, true, false, length, get_or}
use Rattle.ht_net.specs.declared.fault.Fault.{Fault}
use Rattle.ht_net.specs.Circuit.Netlist.{Netlist, first_gate_net, gate_at, arg_at, no_net}
use Rattle.ht_cubes.specs.declared.cone.Reader.{Reader}
use Rattle.ht_cubes.specs.declared.cone.Reader.TheVariants.{Gate, Dff}
use Rattle.ht_cubes.specs.Rails.{Encloses}

-- The marked nets as a set.
abbrev pub marked : List Bool → ℕ → Bool
marked marks x = get_or marks x false

-- How many nets have no mark.
abbrev pub unmarked_count : List Bool → ℕ
unmarked_count [] = 0
unmarked_count (true ∷ marks) = unmarked_count marks
unmarked_count (false ∷ marks) = suc (unmarked_count marks)

-- Each marked net is in every set of nets that encloses a fault.
abbrev pub AreReached : Netlist → Fault → List Bool → Type 0
AreReached c fault marks =
    (nets : ℕ → Bool) → Encloses c fault nets → (x : ℕ) → marked marks x ≡ true → nets x ≡ true

-- Marks have grown: none is gone, and what every enclosing set has is as before.
pub record HaveGrown (c : Netlist) (old new : List Bool) : Type 0 where
  pub long : length new ≡ length old
  pub kept : (x : ℕ) → marked old x ≡ true → marked new x ≡ true
  pub reached : (fault : Fault) → AreReached c fault old → AreReached c fault new
  pub count : unmarked_count new ≤ unmarked_count old

-- A gate or a flip-flop is there.
abbrev pub IsReader : Netlist → Reader → Type 0
IsReader c (Gate g) = g < length c.gates
IsReader c (Dff j) = j < length c.dffs

-- The net that it drives.
abbrev pub driven : Netlist → Reader → ℕ
driven c (Gate g) = first_gate_net c + g
driven c (Dff j) = c.inputs + j

-- It reads a marked net.
abbrev pub ReadsMarked : Netlist → List Bool → Reader → Type 0
ReadsMarked c marks (Gate g) = (i : ℕ) × (i < length (gate_at c g).args) × (marked marks (arg_at c g i) ≡ true)
ReadsMarked c marks (Dff j) = marked marks (get_or c.dffs j no_net).0 ≡ true

-- With a net that it reads the marks have the net that it drives.
abbrev pub Closes : Netlist → Reader → List Bool → Type 0
Closes c reader marks = ReadsMarked c marks reader → marked marks (driven c reader) ≡ true

-- With a net the marks have what the gates that read it drive.
abbrev pub CloseGates : Netlist → List Bool → Type 0
CloseGates c marks = (g : ℕ) → g < length c.gates → Closes c (Gate g) marks

-- With a net the marks have what the flip-flops that take it drive.
abbrev pub CloseDffs : Netlist → List Bool → Type 0
CloseDffs c marks = (j : ℕ) → j < length c.dffs → Closes c (Dff j) marks

-- With a net the marks have all that reads it drives.
pub record CloseBoth (c : Netlist) (marks : List Bool) : Type 0 where
  pub gates : CloseGates c marks
  pub dffs : CloseDffs c marks

-- What a sweep says: with a new mark there are fewer nets without one, and without a new mark the marks close.
pub record IsSwept (closes : Type 0) (old new : List Bool) (changed : Bool) : Type 0 where
  pub fewer : changed ≡ true → unmarked_count new < unmarked_count old
  pub still : changed ≡ false → new ≡ old
  pub closed : changed ≡ false → closes
