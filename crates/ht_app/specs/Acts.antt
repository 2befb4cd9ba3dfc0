-- What a command does to its outputs: it makes files and puts texts, one after the other.
use Rattle.std.specs.Prelude.{◌≡◌, ◌<◌, ◌++◌, ◌∷◌, ℕ, List, [], length, take, Bool, true, false, IsTrue, ◌||◌, Option, if◌then◌else◌}
use Rattle.std.specs.List.{list_any}
use Rattle.std.specs.Option.{option_map}
use Rattle.std.specs.Io.KnownBytes.{append_known}
use Rattle.ht_ports.specs.Causes.{Rose}
use Rattle.ht_ports.specs.Desk.{DeskView}
use Rattle.ht_ports.specs.declared.ports.OutPort.{OutPort}
use Rattle.ht_ports.specs.declared.ports.OutPort.TheVariants.{Tests, Report, Proofs, Out, Err}

-- A port gets a new, empty file of this name, or a text is added at a port.
pub data Act : Type 0 where
  make : OutPort → List ℕ → Act
  put : OutPort → List ℕ → Act

-- both are the same port
abbrev pub is_port : OutPort → OutPort → Bool
is_port Tests Tests = true
is_port Report Report = true
is_port Proofs Proofs = true
is_port Out Out = true
is_port Err Err = true
is_port p q = false

-- where an act goes
abbrev pub act_port : Act → OutPort
act_port (make port name) = port
act_port (put port text) = port

-- ---- what acts leave

-- what stands at a port after an act
abbrev pub written_by : OutPort → Act → Option (List ℕ) → Option (List ℕ)
written_by p (make port name) written = if is_port p port then option_map (λ _. []) written else
    written
written_by p (put port text) written = if is_port p port then append_known written text else written

-- the name of the port's file after an act
abbrev pub named_by : OutPort → Act → Option (List ℕ) → Option (List ℕ)
named_by p (make port name) named = if is_port p port then option_map (λ _. name) named else named
named_by p (put port text) named = named

-- the act makes the port's file
abbrev pub makes : OutPort → Act → Bool
makes p (make port name) = is_port p port
makes p (put port text) = false

-- what stands at a port after some acts, each after the one before
abbrev pub written_after : OutPort → List Act → Option (List ℕ) → Option (List ℕ)
written_after p [] written = written
written_after p (act ∷ acts) written = written_after p acts (written_by p act written)

-- the name of the port's file after them
abbrev pub named_after : OutPort → List Act → Option (List ℕ) → Option (List ℕ)
named_after p [] named = named
named_after p (act ∷ acts) named = named_after p acts (named_by p act named)

-- The acts were done: each port has what they leave there, and no other file is made.
pub record Did (acts : List Act) (old new : DeskView) : Type 0 where
  pub written : (p : OutPort) → new.written p ≡ written_after p acts (old.written p)
  pub named : (p : OutPort) → new.named p ≡ named_after p acts (old.named p)
  pub is_created : (p : OutPort) → new.is_created p ≡ (list_any (makes p) acts || old.is_created p)

-- ---- where a write fails

-- a part of an act, and not all: a file isn't made, or a proper front of the text is put
abbrev pub IsInPart : Act → List Act → Type 0
IsInPart (make port name) part = part ≡ []
IsInPart (put port text) part = (count : ℕ) × (count < length text)
    × (part ≡ put port (take count text) ∷ [])

-- a fault of writing was counted at this port, and the desk isn't steady
pub record IsWriteFault (port : OutPort) (old new : DeskView) : Type 0 where
  pub rose : Rose (old.out_faults port) (new.out_faults port)
  pub unsteady : ¬ IsTrue old.steady

-- Some first acts were done whole, and the next one in part, for a call at its port failed.
pub record Stops (acts : List Act) (old new : DeskView) : Type 0 where
  pub whole : List Act
  pub act : Act
  pub rest : List Act
  pub part : List Act
  pub are : acts ≡ whole ++ act ∷ rest
  pub in_part : IsInPart act part
  pub did : Did (whole ++ part) old new
  pub fault : IsWriteFault (act_port act) old new
