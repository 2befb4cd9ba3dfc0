-- Files in memory.
use Rattle.std.specs.Prelude.{ℕ, List, [], Vec, String, string_bytes}
use Rattle.std.specs.declared.option.Option.{Option}
use Rattle.std.specs.declared.alloc.Global.{Global}
use Rattle.std.specs.Option.{option_map, option_map_or}
use Rattle.std.specs.BTreeMap.{BTreeMap, get_by_text}
use Rattle.ht_ports.specs.PerPort.{at_out_port}
use Rattle.ht_ports.specs.declared.ports.OutPort.{OutPort}
use Rattle.ht_ports.specs.declared.per_port.PerOutPort.{PerOutPort}

-- files in memory, by their names
abbrev pub FileMap : Type 0
FileMap = BTreeMap (String Global) (Vec ℕ Global)

-- the bytes of the file of this name
abbrev pub file_of : FileMap → List ℕ → Option (List ℕ)
file_of files name = option_map (λ v. v.items) (get_by_text files name)

-- the bytes of a text; none where there is no text
abbrev pub bytes_of : Option (Vec ℕ Global) → List ℕ
bytes_of text = option_map_or (λ v. v.items) text []

-- the name under which a port was last created; an empty one before that
abbrev pub name_in : PerOutPort (Option (String Global)) → OutPort → List ℕ
name_in names port = option_map_or string_bytes (at_out_port names port) []
