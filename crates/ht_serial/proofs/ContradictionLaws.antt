-- Where a machine's run contradicts an observation.
use Rattle.std.proofs.Common.{◌≡◌, ◌<◌, ◌+◌, ℕ, List, [], Bool, Option, length, get_or, ap, arith, subst, inl, inr}
use Rattle.std.specs.Prelude.{MatchOption}
use Rattle.std.proofs.lemmas.Bool.{cases_eq}
use Rattle.std.proofs.lemmas.List.{get_or_past}
use Rattle.ht_tern.specs.declared.tern.Tern.{Tern}
use Rattle.ht_tern.specs.declared.tern.Tern.TheVariants.{Zero, Unk}
use Rattle.ht_tern.specs.Opposite.{Opposite}
use Rattle.ht_net.specs.declared.fault.Fault.{Fault}
use Rattle.ht_net.specs.declared.place.Place.{Place}
use Rattle.ht_net.specs.Circuit.Netlist.{Netlist}
use Rattle.ht_net.specs.Detect.Detection.{IsBefore, output_from, outputs_from, tern_outputs}
use Rattle.ht_net.proofs.FrameLaws.{le_or_lt}
use Rattle.ht_serial.specs.Contradictions.{Contradicts}
use Rattle.ht_serial.specs.Opposites.{IsFirstOpposite}
use Rattle.ht_serial.proofs.RowLaws.{rows_count, rows_wide}

-- ---- where a value is opposite

not_unknown : (v : Tern) → ¬ Opposite v Unk
not_unknown Zero h = h
not_unknown v h = h

-- what is opposite to a value stands in the row
pub opposite_inside : (v : Tern) (row : List Tern) (o : ℕ) → Opposite v (get_or row o Unk) → o < length row
opposite_inside v row o h = elim (le_or_lt (length row) o) [
  | inl past ↦ absurd (not_unknown v (subst (Opposite v) (get_or_past row o Unk past) h))
  | inr inside ↦ inside
]

-- Where a machine shows what is opposite to a value, there is a vector of the list and an output of the circuit.
pub opposite_within : (v : Tern) (c : Netlist) (fault : Option Fault) (start : List Tern) (list : List (List Bool))
    (t o : ℕ) → Opposite v (output_from c fault start list t o) → (t < length list) × (o < length c.outputs)
opposite_within v c fault start list t o h =
    let rows = outputs_from c fault start list in
    let output = opposite_inside v (get_or rows t []) o h in
    elim (le_or_lt (length rows) t) [
      | inl past ↦ absurd (omega (arith, output, ap (λ (row : List Tern). length row) (get_or_past rows t [] past)))
      | inr inside ↦
          let width : length (get_or rows t []) ≡ length c.outputs = rows_wide c fault start list t [] inside in
          (omega (arith, inside, rows_count c fault start list), omega (arith, output, width))
    ]

-- ---- the first place

-- what is first opposite in the rows as they were read is the first contradiction at vector t
pub first_here : (c : Netlist) (fault : Option Fault) (list : List (List Bool)) (rows : List (List Tern)) (t : ℕ)
    (row shown : List Tern) (first : Option ℕ) → row ≡ get_or rows t []
    → shown ≡ get_or (tern_outputs c fault list) t [] → IsFirstOpposite row shown first
    → MatchOption first ((o : ℕ) → ¬ Contradicts c fault list rows t o)
    (λ p. Contradicts c fault list rows t p × ((o : ℕ) → o < p → ¬ Contradicts c fault list rows t o))
first_here c fault list rows t row shown first read is h =
    subst (λ (r : List Tern). IsFirstOpposite r (get_or (tern_outputs c fault list) t []) first) read
    (subst (λ (s : List Tern). IsFirstOpposite row s first) is h)

-- none is up to vector t, if none is before it and none at it
pub none_more : (IsAt : ℕ → ℕ → Type 0) (t : ℕ) → ((s o : ℕ) → s < t → ¬ IsAt s o) → ((o : ℕ) → ¬ IsAt t o) → (s o : ℕ)
    → s < t + 1 → ¬ IsAt s o
none_more IsAt t below here s o less h = elim (cases_eq s t) [
  | inl same ↦ here o (subst (λ (k : ℕ). IsAt k o) same h)
  | inr other ↦ below s o (omega arith) h
]

-- none is before an output of vector t, if none is before that vector and at no lower output of it
pub none_before : (IsAt : ℕ → ℕ → Type 0) (p : Place) → ((s o : ℕ) → s < p.vector → ¬ IsAt s o)
    → ((o : ℕ) → o < p.output → ¬ IsAt p.vector o) → (s o : ℕ) → IsBefore s o p → ¬ IsAt s o
none_before IsAt p below here s o (inl less) h = below s o less h
none_before IsAt p below here s o (inr same) h = here o same.1 (subst (λ (k : ℕ). IsAt k o) same.0 h)
