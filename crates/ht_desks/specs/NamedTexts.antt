-- Texts under names, where the newest of a name counts.
use Rattle.std.specs.Prelude.{ℕ, ◌<◌, zero, suc, List, [], ◌∷◌, length, Some, None, if◌then◌else◌, string_bytes}
use Rattle.std.specs.declared.option.Option.{Option}
use Rattle.std.specs.Option.{ForSome, option_map_or, option_or}
use Rattle.std.specs.Str.{bytes_eq}
use Rattle.ht_ports.specs.PerPort.{at_in_port}
use Rattle.ht_ports.specs.declared.ports.InPort.{InPort}
use Rattle.ht_ports.specs.declared.per_port.PerInPort.{PerInPort}
use Rattle.ht_desks.specs.declared.clean.NamedText.{NamedText}

-- the bytes of the newest text of this name
abbrev pub text_named : List NamedText → List ℕ → Option (List ℕ)
text_named [] name = None
text_named (t ∷ texts) name = option_or (text_named texts name)
    (if bytes_eq (string_bytes t.name) name then Some t.bytes.items else None)

-- the bytes of the text at an index; none after the last text
abbrev pub bytes_at : List NamedText → ℕ → List ℕ
bytes_at [] k = []
bytes_at (t ∷ texts) zero = t.bytes.items
bytes_at (t ∷ texts) (suc k) = bytes_at texts k

-- the bytes of an opened text; none before a text is opened
abbrev pub opened_in : List NamedText → Option ℕ → List ℕ
opened_in texts opened = option_map_or (bytes_at texts) opened []

-- what is open are texts
abbrev pub AreTexts : List NamedText → PerInPort (Option ℕ) → Type 0
AreTexts texts opened = (p : InPort) → ForSome (at_in_port opened p) (λ k. k < length texts)
