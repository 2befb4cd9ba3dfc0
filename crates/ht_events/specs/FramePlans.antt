-- The order in which the items of a frame are fired, and a table of what reads each net.
use Rattle.std.specs.Prelude.{◌≡◌, ◌+◌, ℕ, List, [], length, get_or, cond, ltb}
use Rattle.std.specs.List.{Contains}
use Rattle.ht_net.specs.Circuit.Netlist.{Netlist, IsCircuit, net_count}
use Rattle.ht_events.specs.Ranks.{AreRanked}
use Rattle.ht_events.specs.Items.{frame_items, ReadsNet}
use Rattle.ht_events.specs.declared.frame_plan.FramePlan.TheInside.{Inside}

-- each net's row has the items of a frame that read it
pub record IsTable (c : Netlist) (rows : List (List ℕ)) : Type 0 where
  pub count : length rows ≡ net_count c
  pub sound : (x l : ℕ) → Contains (get_or rows x []) l → ReadsNet c l x
  pub complete : (x l : ℕ) → ReadsNet c l x → Contains (get_or rows x []) l

-- How far from the first position of a frame an item stands that reads a net of it, where items stand by frame and in
-- it by rank: a flip-flop is one of the next frame.
abbrev pub offset_among : List ℕ → ℕ → ℕ → ℕ
offset_among ranks dffs l = cond (ltb l dffs) (length ranks + get_or ranks l 0) (get_or ranks l 0)

-- the offset of a reader in a frame of a circuit
abbrev pub reader_offset : Netlist → List ℕ → ℕ → ℕ
reader_offset c ranks l = offset_among ranks (length c.dffs) l

-- each net's row has the offsets of the items that read it
pub record IsOffsetTable (c : Netlist) (ranks : List ℕ) (rows : List (List ℕ)) : Type 0 where
  pub count : length rows ≡ net_count c
  pub sound : (x o : ℕ) → Contains (get_or rows x []) o → (l : ℕ) × ReadsNet c l x
      × (o ≡ reader_offset c ranks l)
  pub complete : (x l : ℕ) → ReadsNet c l x → Contains (get_or rows x []) (reader_offset c ranks l)

-- a circuit, the offsets of what reads each net, and the items of a frame in their order, with the rank of each
pub record FramePlanState : Type 0 where
  pub circuit : Netlist
  pub readers : List (List ℕ)
  pub order : List ℕ
  pub ranks : List ℕ

-- the parts of a frame's plan belong to its circuit
pub record IsFramePlan (a : Inside) : Type 0 where
  pub circuit : IsCircuit a.circuit.now
  pub table : IsOffsetTable a.circuit.now a.ranks.items a.readers
  pub frame_length : a.frame_length ≡ frame_items a.circuit.now
  -- a gate comes after what it reads
  pub ranking : AreRanked a.circuit.now (length a.circuit.now.dffs) a.order.items a.ranks.items
