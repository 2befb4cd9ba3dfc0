-- How a group's fields stand for it.
use Rattle.std.specs.Prelude.{◌≡◌, ◌<◌, ◌≤◌, ℕ, List, Bool, true, false, take, drop, length, get_or, flat_map}
use Rattle.ht_group.specs.GroupView.{GroupView, max_machines, max_words}
use Rattle.ht_group.specs.MachineWords.{AreFilled, IsWordIn, machines_of}
use Rattle.ht_group.specs.SharedFrames.{IsSharedFrame}
use Rattle.ht_group.specs.declared.group.Group.TheInside.{Inside}
use Rattle.ht_group.specs.declared.machines.Machines.{Machines}
use Rattle.ht_group.specs.declared.shared_frame.SharedFrame.{SharedFrame}

-- a group in a frame: the machines of its words one after the other
abbrev pub group_in : SharedFrame → List Machines → Bool → GroupView
group_in frame words settled = record {
  circuit = frame.circuit.now;
  vector = take frame.circuit.now.inputs frame.good.sources.items;
  latches = drop frame.circuit.now.inputs frame.good.sources.items;
  machines = flat_map (machines_of frame.circuit.now) words;
  settled = settled;
}

-- the fields as a group
abbrev pub group_of : Inside → GroupView
group_of a = group_in a.frame a.words.items a.settled

-- The words lie over one frame, and are filled in turn.
pub record IsGroup (a : Inside) : Type 0 where
  pub frame : IsSharedFrame a.frame
  pub word_count : length a.words.items ≡ max_words
  pub words : (w : ℕ) (d : Machines) → w < max_words
      → IsWordIn a.frame (get_or a.words.items w d)
  pub filled : AreFilled a.count a.words.items
  pub few : a.count ≤ max_machines
  pub room : length a.pins.items ≡ 256
  pub four_room : length a.fours.items ≡ 256
  pub settled : a.settled ≡ true → (r : ℕ) → get_or a.frame.pending r false ≡ false
