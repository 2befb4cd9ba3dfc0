-- Whether a line says anything: each line of a text is a report's there, or none's.
use Rattle.std.proofs.Common.{◌≡◌, ◌≢◌, ◌⊎◌, inl, inr, ℕ, zero, suc, ◌+◌, ◌-◌, ◌<◌, ◌^◌, List, [], ◌∷◌, ◌++◌, Some, length, refl, sym, ap, ◌∙◌, subst, arith}
use Rattle.std.specs.Str.{bytes_eq}
use Rattle.std.proofs.lemmas.Bool.{cases_lt, cases_eq, cases_Bool, both_ways}
use Rattle.std.proofs.lemmas.Slice.Eq.{bytes_eq-Decides}
use Rattle.ht_net.specs.declared.place.Place.{Place}
use Rattle.ht_net.specs.Circuit.Netlist.{Netlist}
use Rattle.ht_net.specs.Detect.Detection.{IsPlace}
use Rattle.ht_faults.specs.Sites.{faults_of}
use Rattle.ht_faults.specs.Classes.{is_representative}
use Rattle.ht_tree.specs.declared.limits.TheConstants.{MAX_BUDGET}
use Rattle.ht_texts.specs.declared.item.Item.{Item}
use Rattle.ht_texts.specs.declared.item.Item.TheVariants.{Head, Verdict, Member, Total}
use Rattle.ht_texts.specs.declared.said.Said.{Said}
use Rattle.ht_texts.specs.declared.said.Said.TheVariants.{Detected, Untestable, Undetectable, Aborted, Undetected}
use Rattle.ht_texts.specs.declared.total.Sums.{Sums}
use Rattle.ht_texts.specs.Counts.{one_if, CountsItem}
use Rattle.ht_texts.specs.Verdicts.{IsSayable, says_detected, says_untestable, says_undetectable, says_aborted, says_undetected}
use Rattle.ht_texts.specs.Reports.{head_line, fault_line, total_line}
use Rattle.ht_texts.specs.ReportLines.{SaysItem}
use Rattle.ht_texts.specs.ReportReading.{read_on}
use Rattle.ht_texts.specs.SearchReports.{IsReportFront}
use Rattle.ht_texts.specs.ReportStands.{sums_read}
use Rattle.ht_texts.proofs.ItemLaws.{no_head, no_fault_line, no_total}
use Rattle.ht_texts.proofs.ReadingLaws.{item_read, next_line_says}
use Rattle.ht_texts.proofs.ReportFrontLaws.{reading_is_front, front_is_reading}
use Rattle.ht_texts.proofs.SaidLaws.{line_of_member}

-- ---- what is decided

-- two lists of bytes are the same, or they differ
pub same_or_not : (a b : List ℕ) → (a ≡ b) ⊎ (a ≢ b)
same_or_not a b =
    let decides = bytes_eq-Decides a b in
    elim (cases_Bool (bytes_eq a b)) [
      | inl same ↦ inl (decides.0 same)
      | inr other ↦ inr (λ e. both_ways (bytes_eq a b) other (decides.1 e))
    ]

-- some number below n, or none
pub some_below : (P : ℕ → Type 0) → ((k : ℕ) → P k ⊎ (P k → ⊥)) → (n : ℕ)
    → ((k : ℕ) × (k < n) × P k) ⊎ ((k : ℕ) → k < n → P k → ⊥)
some_below P decide zero = inr (λ k below. absurd (omega arith))
some_below P decide (suc n) = elim (decide n) [
  | inl here ↦ inl (n, omega arith, here)
  | inr not_here ↦ elim (some_below P decide n) [
    | inl found ↦ inl (found.0, omega (arith, found.1), found.2)
    | inr none ↦ inr (λ k below holds. elim (cases_lt k n) [
      | inl before ↦ none k before holds
      | inr upto ↦ let last : k ≡ n = omega (arith, below, upto) in not_here (subst P last holds)
    ])
  ]
]

-- ---- one line

-- an item that the line says, or that it says none
abbrev pub SaysOrNot : Netlist → List ℕ → ℕ → Sums → List ℕ → Type 0
SaysOrNot c representatives n sums line = ((item : Item) × SaysItem c representatives n sums line item)
    ⊎ ((item : Item) → ¬ SaysItem c representatives n sums line item)

head_or_not : (c : Netlist) (representatives : List ℕ) (sums : Sums) (line : List ℕ)
    → SaysOrNot c representatives 0 sums line
head_or_not c representatives sums line =
    let Is : ℕ → Type 0 = λ k. line ≡ head_line c representatives (Some (k + 1)) in
    elim (some_below Is (λ k. same_or_not line (head_line c representatives (Some (k + 1)))) MAX_BUDGET) [
      | inl found ↦ inl (Head (found.0 + 1), (refl, (omega arith, omega (arith, found.1)), found.2))
      | inr none ↦ inr (no_head c representatives 0 sums line refl (λ budget is e.
          let before : budget - 1 + 1 ≡ budget = omega (arith, is.0) in
          none (budget - 1) (omega (arith, is.0, is.1))
          (e ∙ ap (λ k. head_line c representatives (Some k)) (sym before))))
    ]

-- the verdicts that are words
abbrev word_at : ℕ → Said
word_at zero = Untestable
word_at (suc zero) = Undetectable
word_at (suc (suc zero)) = Aborted
word_at (suc (suc (suc k))) = Undetected

word_may_be_said : (c : Netlist) (k : ℕ) → IsSayable c (word_at k)
word_may_be_said c zero = tt
word_may_be_said c (suc zero) = tt
word_may_be_said c (suc (suc zero)) = tt
word_may_be_said c (suc (suc (suc k))) = tt

-- a verdict that the line has, or that none has it
SaidOrNot : Netlist → List ℕ → ℕ → List ℕ → Type 0
SaidOrNot c representatives i line = ((said : Said) × IsSayable c said × (line ≡ fault_line c representatives i said))
    ⊎ ((said : Said) → IsSayable c said → line ≢ fault_line c representatives i said)

abbrev place_at : ℕ → ℕ → Place
place_at vector output = record { vector = vector; output = output }

-- the place of a detection that the line has
place_or_not : (c : Netlist) (representatives : List ℕ) (i : ℕ) (line : List ℕ)
    → ((place : Place) × IsPlace c place × (line ≡ fault_line c representatives i (Detected place)))
    ⊎ ((place : Place) → IsPlace c place → line ≢ fault_line c representatives i (Detected place))
place_or_not c representatives i line =
    let Is : ℕ → ℕ → Type 0 = λ o v. line ≡ fault_line c representatives i (Detected (place_at v o)) in
    let Some_vector : ℕ → Type 0 = λ o. (v : ℕ) × (v < 2 ^ 64 - 1) × Is o v in
    let vector_or_not : (o : ℕ) → Some_vector o ⊎ (Some_vector o → ⊥) = λ o.
    elim (some_below (Is o) (λ v. same_or_not line (fault_line c representatives i (Detected (place_at v o))))
    (2 ^ 64 - 1)) [
      | inl found ↦ inl found
      | inr none ↦ inr (λ found. none found.0 found.1 found.2)
    ] in
    elim (some_below Some_vector vector_or_not (length c.outputs)) [
      | inl found ↦ inl (
        place_at found.2.0 found.0,
        record { output = found.1; vector = found.2.1 },
        found.2.2,
      )
      | inr none ↦ inr (λ place is e. none place.output is.output (place.vector, is.vector, e))
    ]

said_or_not : (c : Netlist) (representatives : List ℕ) (i : ℕ) (line : List ℕ)
    → SaidOrNot c representatives i line
unfolding SaidOrNot
said_or_not c representatives i line =
    let word : ℕ → Type 0 = λ k. line ≡ fault_line c representatives i (word_at k) in
    elim (some_below word (λ k. same_or_not line (fault_line c representatives i (word_at k))) 4) [
      | inl found ↦ inl (word_at found.0, word_may_be_said c found.0, found.2)
      | inr none ↦ elim (place_or_not c representatives i line) [
        | inl found ↦ inl (Detected found.0, found.1, found.2)
        | inr not_detected ↦ inr (no_said c representatives i line none not_detected)
      ]
    ]
  where
    no_said : (c : Netlist) (representatives : List ℕ) (i : ℕ) (line : List ℕ)
        → ((k : ℕ) → k < 4 → line ≢ fault_line c representatives i (word_at k))
        → ((place : Place) → IsPlace c place → line ≢ fault_line c representatives i (Detected place))
        → (said : Said) → IsSayable c said → line ≢ fault_line c representatives i said
    no_said c representatives i line words detected (Detected place) is e = detected place is e
    no_said c representatives i line words detected Untestable is e = words 0 (omega arith) e
    no_said c representatives i line words detected Undetectable is e = words 1 (omega arith) e
    no_said c representatives i line words detected Aborted is e = words 2 (omega arith) e
    no_said c representatives i line words detected Undetected is e = words 3 (omega arith) e

fault_or_not : (c : Netlist) (representatives : List ℕ) (i : ℕ) (sums : Sums) (line : List ℕ)
    → i < length (faults_of c) → SaysOrNot c representatives (i + 1) sums line
unfolding SaidOrNot
fault_or_not c representatives i sums line inside = elim (cases_Bool (is_representative representatives i)) [
  | inl own ↦ elim (said_or_not c representatives i line) [
    | inl found ↦
        inl (Verdict i found.0, (refl, found.1, record { listed = inside; own_is = own; line_is = found.2 }))
    | inr none ↦ inr (no_fault_line c representatives i sums line inside (λ said may. none said (may own)))
  ]
  | inr other ↦ elim (same_or_not line (fault_line c representatives i Undetected)) [
    | inl same ↦ inl (Member i, (refl, record { listed = inside; own_is = other; line_is = same }))
    | inr differs ↦ inr (no_fault_line c representatives i sums line inside (λ said may e.
        differs (e ∙ line_of_member c representatives i said Undetected other)))
  ]
]

total_or_not : (c : Netlist) (representatives : List ℕ) (n : ℕ) (sums : Sums) (line : List ℕ)
    → length (faults_of c) < n → SaysOrNot c representatives n sums line
total_or_not c representatives n sums line after = elim (cases_eq n (length (faults_of c) + 1)) [
  | inr later ↦ inr (no_total c representatives n sums line after (λ now. absurd (later now)))
  | inl now ↦ elim (same_or_not line (total_line sums)) [
    | inl same ↦ inl (Total, (now, same))
    | inr differs ↦ inr (no_total c representatives n sums line after (λ _. differs))
  ]
]

says_or_not : (c : Netlist) (representatives : List ℕ) (n : ℕ) (sums : Sums) (line : List ℕ)
    → SaysOrNot c representatives n sums line
says_or_not c representatives zero sums line = head_or_not c representatives sums line
says_or_not c representatives (suc i) sums line = elim (cases_lt i (length (faults_of c))) [
  | inl inside ↦
      let more : i + 1 ≡ suc i = omega arith in
      subst (λ n. SaysOrNot c representatives n sums line) more (fault_or_not c representatives i sums line inside)
  | inr past ↦ total_or_not c representatives (suc i) sums line (omega (arith, past))
]

-- ---- the lines of a text

-- the sums after a line that says this
counted : (item : Item) (old : Sums) → (new : Sums) × CountsItem item old new
counted (Head budget) old = (old, refl)
counted (Verdict i said) old = (
  record {
    classes = old.classes;
    detected = old.detected + one_if (says_detected said);
    untestable = old.untestable + one_if (says_untestable said);
    aborted = old.aborted + one_if (says_aborted said);
    undetectable = old.undetectable + one_if (says_undetectable said);
    undetected = old.undetected + one_if (says_undetected said);
    search = old.search;
  },
  record {
    classes = refl;
    detected = refl;
    untestable = refl;
    aborted = refl;
    undetectable = refl;
    undetected = refl;
    search = refl;
  },
)
counted (Member i) old = (old, refl)
counted Total old = (old, refl)

-- a report goes on with a line after those that begin one, or none does
pub front_or_not : (c : Netlist) (representatives : List ℕ) → length representatives ≡ length (faults_of c)
    → (lines : List (List ℕ)) (line : List ℕ) → IsReportFront c representatives lines
    → IsReportFront c representatives (lines ++ line ∷ []) ⊎ ¬ IsReportFront c representatives (lines ++ line ∷ [])
front_or_not c representatives listed lines line front =
    let at = front_is_reading c representatives lines front in
    let sums = sums_read representatives at.0 in
    elim (says_or_not c representatives (length lines) sums line) [
      | inl found ↦
          let after = counted found.0 sums in
          inl (reading_is_front c representatives (lines ++ line ∷ []) (read_on at.0 found.0)
          (item_read c representatives lines at.0 line found.0 sums after.0 listed at.1 refl found.1 after.1).read)
      | inr none ↦ inr (λ more.
          let next = front_is_reading c representatives (lines ++ line ∷ []) more in
          let found = next_line_says c representatives lines at.0 next.0 line sums listed at.1 refl next.1 in
          none found.0 found.1)
    ]
