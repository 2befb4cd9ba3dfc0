-- The items of a core: in each frame the flip-flops and then the gates. Item l of a frame drives net inputs + l.
use Rattle.std.specs.Prelude.{◌≡◌, ◌<◌, ◌≤◌, ◌+◌, ◌-◌, ◌*◌, ◌/◌, ◌%◌, ◌⊎◌, ℕ, length, get_or, cond, ltb}
use Rattle.ht_net.specs.Circuit.Netlist.{Netlist, gate_at, arg_at, no_net}

-- how many items one frame has: its flip-flops and its gates
abbrev pub frame_items : Netlist → ℕ
frame_items c = length c.dffs + length c.gates

-- how many items all frames have
abbrev pub item_count : Netlist → ℕ → ℕ
item_count c frames = frames * frame_items c

-- the number of item l of frame f among those of all frames
abbrev pub item_at : Netlist → ℕ → ℕ → ℕ
item_at c f l = f * frame_items c + l

-- the frame of an item
abbrev pub frame_of : Netlist → ℕ → ℕ
frame_of c item = item / frame_items c

-- the number of an item within its frame
abbrev pub local_of : Netlist → ℕ → ℕ
local_of c item = item % frame_items c

-- the net that item l of a frame drives
abbrev pub driven_net : Netlist → ℕ → ℕ
driven_net c l = c.inputs + l

-- item l of a frame is a gate with net x among its arguments
pub record IsGateOn (c : Netlist) (l x : ℕ) : Type 0 where
  pub pin : ℕ
  pub is_gate : length c.dffs ≤ l
  pub known : l < frame_items c
  pub is_pin : pin < length (gate_at c (l - length c.dffs)).args
  pub reads : arg_at c (l - length c.dffs) pin ≡ x

-- item l of a frame is a flip-flop with net x at its data pin
pub record IsDffOn (c : Netlist) (l x : ℕ) : Type 0 where
  pub is_dff : l < length c.dffs
  pub reads : (get_or c.dffs l no_net).0 ≡ x

-- item l of a frame reads net x
abbrev pub ReadsNet : Netlist → ℕ → ℕ → Type 0
ReadsNet c l x = IsGateOn c l x ⊎ IsDffOn c l x

-- a gate reads nets of its own frame, a flip-flop those of the frame before
abbrev pub reader_frame : Netlist → ℕ → ℕ → ℕ
reader_frame c f l = cond (ltb l (length c.dffs)) (f + 1) f

-- an item that reads net x of frame f
pub record IsReader (c : Netlist) (frames f x item : ℕ) : Type 0 where
  pub local : ℕ
  pub reads : ReadsNet c local x
  pub inside : reader_frame c f local < frames
  pub at : item ≡ item_at c (reader_frame c f local) local

-- the loads of an item: those that read its net
abbrev pub IsLoad : Netlist → ℕ → ℕ → ℕ → Type 0
IsLoad c frames item y = IsReader c frames (frame_of c item) (driven_net c (local_of c item)) y
