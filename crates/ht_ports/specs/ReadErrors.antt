-- Why a text isn't read.
use Rattle.std.specs.Prelude.{◌≡◌, ℕ, ◌<◌, List, length, IsTrue}
use Rattle.ht_ports.specs.Causes.{Rose}
use Rattle.ht_ports.specs.Desk.{DeskView, TookFront}
use Rattle.ht_ports.specs.declared.ports.InPort.{InPort}
use Rattle.ht_ports.specs.declared.whole_text.ReadFault.{ReadFault}
use Rattle.ht_ports.specs.declared.whole_text.ReadFault.TheVariants.{Failed, TooLong, NoMemory}

-- more bytes came than the limit
abbrev pub TookMoreThan : ℕ → InPort → DeskView → DeskView → Type 0
TookMoreThan limit port old new = (bytes : List ℕ) × (limit < length bytes) × TookFront port bytes old new

-- a read failed, more bytes came than the limit, or there was no memory
abbrev pub ReadHasCause : InPort → ℕ → DeskView → DeskView → ReadFault → Type 0
ReadHasCause port limit old new Failed =
    Rose (old.in_faults port) (new.in_faults port) × (IsTrue old.steady → ⊥)
ReadHasCause port limit old new (TooLong max_len) = (max_len ≡ limit) × TookMoreThan limit port old new
ReadHasCause port limit old new NoMemory = Unit {0}
