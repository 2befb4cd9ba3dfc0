-- What a report says of the representatives of classes. A list has what is said of each fault, by number from 0; of a
-- fault that isn't its own representative it has no effect.
use Rattle.std.specs.Prelude.{◌≡◌, ◌==◌, ℕ, ◌+◌, ◌<◌, List, [], ◌∷◌, Bool, true, length, get_or, map, Option, Some, None, codes}
use Rattle.ht_net.specs.declared.place.Place.{Place}
use Rattle.ht_net.specs.Circuit.Netlist.{Netlist}
use Rattle.ht_net.specs.Detect.Detection.{IsPlace}
use Rattle.ht_faults.specs.Sites.{faults_of}
use Rattle.ht_faults.specs.Classes.{is_representative}
use Rattle.ht_texts.specs.declared.said.Said.{Said}
use Rattle.ht_texts.specs.declared.said.Said.TheVariants.{Detected, Untestable, Undetectable, Aborted, Undetected}
use Rattle.ht_texts.specs.Pieces.{Piece, word, number, name, pieces_text}
use Rattle.ht_texts.specs.Sites.{output_text}

-- what is said of fault i; nothing more than undetected after the last fault
abbrev pub said_at : List Said → ℕ → Said
said_at saids i = get_or saids i Undetected

-- ---- what may be said

-- a detection is said to be at a place of the circuit
abbrev pub IsSayable : Netlist → Said → Type 0
IsSayable c (Detected place) = IsPlace c place
IsSayable c Untestable = Unit {0}
IsSayable c Undetectable = Unit {0}
IsSayable c Aborted = Unit {0}
IsSayable c Undetected = Unit {0}

-- something is said of each of the first n faults, and of each representative among them what may be said
pub record AreSayableTo (c : Netlist) (representatives : List ℕ) (n : ℕ) (saids : List Said) : Type 0 where
  pub each : length saids ≡ n
  pub sayable : (i : ℕ) → i < n → is_representative representatives i ≡ true → IsSayable c (said_at saids i)

-- the same of each fault of the list
abbrev pub AreSayable : Netlist → List ℕ → List Said → Type 0
AreSayable c representatives saids = AreSayableTo c representatives (length (faults_of c)) saids

-- ---- the words

-- the number of the vector, from 1, and the name of the output
abbrev pub place_pieces : Netlist → Place → List Piece
place_pieces c place = number (place.vector + 1) ∷ word (codes " ") ∷ name (output_text c place.output) ∷ []

-- where the first detection is, or why there is none
abbrev pub verdict_pieces : Netlist → Said → List Piece
verdict_pieces c (Detected place) = word (codes "detected ") ∷ place_pieces c place
verdict_pieces c Untestable = word (codes "untestable") ∷ []
verdict_pieces c Undetectable = word (codes "undetectable") ∷ []
verdict_pieces c Aborted = word (codes "aborted") ∷ []
verdict_pieces c Undetected = word (codes "undetected") ∷ []

-- a place as bytes
abbrev pub place_text : Netlist → Place → List ℕ
place_text c place = pieces_text (place_pieces c place)

-- a verdict as bytes
abbrev pub verdict_text : Netlist → Said → List ℕ
verdict_text c said = pieces_text (verdict_pieces c said)

-- ---- the kinds of verdict

-- the number of a verdict's kind: all detections are of one kind
abbrev pub kind_number : Said → ℕ
kind_number (Detected place) = 0
kind_number Untestable = 1
kind_number Undetectable = 2
kind_number Aborted = 3
kind_number Undetected = 4

-- the verdict is a detection
abbrev pub says_detected : Said → Bool
says_detected said = kind_number said == 0

-- the verdict is `untestable`
abbrev pub says_untestable : Said → Bool
says_untestable said = kind_number said == 1

-- the verdict is `undetectable`
abbrev pub says_undetectable : Said → Bool
says_undetectable said = kind_number said == 2

-- the verdict is `aborted`
abbrev pub says_aborted : Said → Bool
says_aborted said = kind_number said == 3

-- the verdict is `undetected`
abbrev pub says_undetected : Said → Bool
says_undetected said = kind_number said == 4

-- ---- what is said where vectors are simulated

-- of a representative, by its first detection
abbrev pub said_of : Option Place → Said
said_of None = Undetected
said_of (Some place) = Detected place

-- of each fault, by its first detection
abbrev pub saids_of : List (Option Place) → List Said
saids_of places = map said_of places
