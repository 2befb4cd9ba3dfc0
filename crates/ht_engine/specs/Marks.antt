-- Marks of the faults that are to be worked on, one for each fault by its number from 0.
use Rattle.std.specs.Prelude.{◌≡◌, ◌↔◌, ◌<◌, ℕ, List, Bool, true, false, get_or, length}
use Rattle.ht_engine.specs.declared.settings.Settings.{Settings}
use Rattle.ht_engine.specs.Steps.{AnyInClass, IsChosen}

-- Each representative is the number of a fault.
abbrev pub AreListedNumbers : List ℕ → Type 0
AreListedNumbers representatives =
    (i : ℕ) → i < length representatives → get_or representatives i 0 < length representatives

-- Marks tell which faults stand for the class of a fault with one of these numbers.
pub record MarksAny (representatives numbers : List ℕ) (marks : List Bool) : Type 0 where
  pub each : length marks ≡ length representatives
  pub any : (i : ℕ) → (get_or marks i false ≡ true) ↔ AnyInClass representatives numbers i

-- Marks tell which faults are to be worked on.
pub record AreMarks (representatives : List ℕ) (settings : Settings) (marks : List Bool) : Type 0 where
  pub each : length marks ≡ length representatives
  pub chosen : (i : ℕ) → i < length representatives
      → (get_or marks i false ≡ true) ↔ IsChosen representatives settings i
