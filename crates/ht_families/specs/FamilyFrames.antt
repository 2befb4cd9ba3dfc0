-- A frame of families as contracts see it, and how its fields stand for it.
use Rattle.std.specs.Prelude.{◌≡◌, ℕ, List, [], ◌∷◌, length}
use Rattle.std.specs.List.{sum_by}
use Rattle.ht_tern.specs.declared.tern.Tern.TheVariants.{Unk}
use Rattle.ht_pairs.specs.Pairs.{Pair, pair}
use Rattle.ht_net.specs.declared.fault.Fault.{Fault}
use Rattle.ht_net.specs.Circuit.Netlist.{Netlist, IsCircuit, max_arguments, net_count}
use Rattle.ht_net.specs.Frames.Frame.{values_at}
use Rattle.ht_frame.specs.Values.{env_of}
use Rattle.ht_tree.specs.Record.ClosedFamilies.{Family, any_vector, shown_sets, taken_sets}
use Rattle.ht_families.specs.declared.frame.FamilyFrame.TheInside.{Inside}

-- A circuit and a fault, with what the outputs showed and the flip-flops took in the last frame.
pub record FrameView : Type 0 where
  pub circuit : Netlist
  pub fault : Fault
  pub shown : List (List Pair)
  pub next_sets : Family

-- the fields of a frame as this view
abbrev pub frame_view : Inside → FrameView
frame_view a = record {
  circuit = a.circuit.now;
  fault = a.fault;
  shown = values_at (env_of (pair Unk Unk ∷ []) a.values.items) a.circuit.now.outputs;
  next_sets = a.next_sets.items;
}

-- after a frame from a family
abbrev pub after_family : FrameView → Family → FrameView
after_family f family = record f {
  shown = shown_sets f.circuit f.fault family;
  next_sets = taken_sets f.circuit f.fault family;
}

-- each field is as long as what it has values for
pub record HasRoom (a : Inside) : Type 0 where
  pub circuit : IsCircuit a.circuit.now
  pub vector : a.vector.items ≡ any_vector a.circuit.now
  pub nets : length a.values.items ≡ net_count a.circuit.now
  pub widest : length a.pins.items ≡ max_arguments
  pub dffs : length a.next_sets.items ≡ length a.circuit.now.dffs

-- how many pairs a family has in all
abbrev pub size_of : Family → ℕ
size_of family = sum_by (λ (set : List Pair). length set) family
