-- Lines are the texts of vectors, up to the first that is the text of none.
use Rattle.std.proofs.Common.{◌≡◌, ◌≢◌, ◌⊎◌, inl, inr, ℕ, zero, suc, ◌+◌, ◌-◌, ◌<◌, ◌≤◌, List, [], ◌∷◌, Bool, length, get_or, map, refl, ap, ◌∙◌, subst, arith}
use Rattle.std.specs.List.{All}
use Rattle.std.proofs.lemmas.List.{length-map, get_or-map}
use Rattle.std.proofs.lemmas.List.Elements.{All-nil, All-cons}
use Rattle.ht_net.specs.Circuit.Netlist.{Netlist}
use Rattle.ht_ports.specs.LineRule.{lines_of}
use Rattle.ht_texts.specs.Tests.{bit_code, IsCoded, IsTextOf, IsNoVector}
use Rattle.ht_texts.proofs.CodedLaws.{coded_or_none}
use Rattle.ht_texts.proofs.VectorLaws.{bit_or_none}

-- the lines are those of lists of so many values
pub record AreCodedLines {A : Type 0} (code : A → ℕ) (width : ℕ) (lines : List (List ℕ)) (list : List (List A))
    : Type 0 where
  pub texts : lines ≡ map (λ values. map code values) list
  pub widths : All (λ (values : List A). length values ≡ width) list

-- the lines before line k are, and line k is that of no values
pub record StopsCoded {A : Type 0} (code : A → ℕ) (width : ℕ) (lines : List (List ℕ)) (k : ℕ) : Type 0 where
  pub within : k < length lines
  pub none : (values : List A) → ¬ IsCoded code width (get_or lines k []) values
  pub before : (j : ℕ) → j < k → (values : List A) × IsCoded code width (get_or lines j []) values

-- where each character is a value's or no value's, all lines are those of values, or there is a first that isn't
pub coded_or_stop : {A : Type 0} (code : A → ℕ)
    → ((x : ℕ) → ((value : A) × (x ≡ code value)) ⊎ ((value : A) → x ≢ code value)) → (width : ℕ) (lines : List (List ℕ))
    → ((list : List (List A)) × AreCodedLines code width lines list) ⊎ ((k : ℕ) × StopsCoded code width lines k)
coded_or_stop {A = A} code value_or_none width [] = inl
    ([], record { texts = refl; widths = All-nil (λ (values : List A). length values ≡ width) })
coded_or_stop {A = A} code value_or_none width (line ∷ lines) = elim (coded_or_none code value_or_none width line) [
  | inr none ↦ inr (0, record { within = omega arith; none = none; before = λ j below. absurd (omega arith) })
  | inl here ↦ elim (coded_or_stop code value_or_none width lines) [
    | inl rest ↦ inl (
      here.0 ∷ rest.0,
      record {
        texts = let e = here.1.characters in let f = rest.1.texts in cc;
        widths = All-cons (λ (values : List A). length values ≡ width) here.0 rest.0 here.1.count rest.1.widths;
      },
    )
    | inr stop ↦ inr (
      suc stop.0,
      record {
        within = omega (arith, stop.1.within);
        none = stop.1.none;
        before = λ j. elim j as
            (λ i. i < suc stop.0 → (values : List A) × IsCoded code width (get_or (line ∷ lines) i []) values) [
              | zero ↦ λ _. here
              | suc i ↦ λ below. stop.1.before i (omega arith)
            ];
      },
    )
  ]
]

-- each line is that of some values
pub coded_at : {A : Type 0} (code : A → ℕ) (width : ℕ) (lines : List (List ℕ)) (list : List (List A))
    → AreCodedLines code width lines list → (k : ℕ) → k < length lines
    → (values : List A) × IsCoded code width (get_or lines k []) values
coded_at code width lines list are k below =
    let inside : k < length list = omega (arith, ap length are.texts ∙ length-map list (λ values. map code values)) in (
      get_or list k [],
      record {
        characters = ap (λ l. get_or l k []) are.texts ∙ get_or-map (λ values. map code values) list k [] [] inside;
        count = are.widths k [] inside;
      },
    )

-- ---- vectors

abbrev pub AreVectorLines : ℕ → List (List ℕ) → List (List Bool) → Type 0
AreVectorLines width lines list = AreCodedLines bit_code width lines list

abbrev pub StopsAt : ℕ → List (List ℕ) → ℕ → Type 0
StopsAt width lines k = StopsCoded bit_code width lines k

-- all lines are those of vectors, or there is a first that isn't
pub vectors_or_stop : (width : ℕ) (lines : List (List ℕ)) → ((list : List (List Bool)) × AreVectorLines width lines list)
    ⊎ ((k : ℕ) × StopsAt width lines k)
vectors_or_stop = coded_or_stop bit_code bit_or_none

-- ---- where no line is wrong by itself, and where one is

-- no line is wrong by itself in a text whose lines are all those of vectors
pub no_wrong_line : (c : Netlist) (text : List ℕ) (list : List (List Bool)) → AreVectorLines c.inputs (lines_of text) list
    → (n : ℕ) → ¬ IsNoVector c text n
no_wrong_line c text list are n bad =
    let found = coded_at bit_code c.inputs (lines_of text) list are (n - 1) (omega (arith, bad.counted.0, bad.counted.1)) in
    bad.none found.0 found.1

-- the lines before the one where the reading stops are not wrong by themselves
pub no_wrong_before : (c : Netlist) (text : List ℕ) (k n : ℕ) → StopsAt c.inputs (lines_of text) k → n ≤ k
    → ¬ IsNoVector c text n
no_wrong_before c text k n stop upto bad =
    let found = stop.before (n - 1) (omega (arith, bad.counted.0)) in
    bad.none found.0 found.1

-- the line at which the reading of vectors stops is wrong by itself
pub wrong_at : (c : Netlist) (text : List ℕ) (k : ℕ) → StopsAt c.inputs (lines_of text) k → IsNoVector c text (k + 1)
wrong_at c text k stop = record {
  counted = (omega arith, omega (arith, stop.within));
  none = subst (λ i. (vector : List Bool) → ¬ IsTextOf c.inputs (get_or (lines_of text) i []) vector) (omega arith)
      stop.none;
}
