-- The report of causes, line by line.
use Rattle.std.proofs.Common.{◌≡◌, ◌<◌, ◌-◌, ◌^◌, ◌+◌, ◌++◌, ◌∷◌, ℕ, List, Bool, true, false, Option, Some, None, length, refl, sym, ◌∙◌, ap, subst, arith}
use Rattle.std.specs.Option.{ForSome}
use Rattle.std.proofs.lemmas.List.FromFn.{map-range_with_len_more}
use Rattle.ht_tern.specs.declared.tern.Tern.{Tern}
use Rattle.ht_net.specs.declared.fault.Fault.{Fault}
use Rattle.ht_net.specs.declared.place.Place.{Place}
use Rattle.ht_net.specs.Circuit.Netlist.{Netlist}
use Rattle.ht_net.specs.Detect.Detection.{IsPlace}
use Rattle.ht_faults.specs.Classes.{fault_at}
use Rattle.ht_texts.specs.Lines.{with_lf, with_lfs}
use Rattle.ht_texts.specs.Reports.{head_line}
use Rattle.ht_texts.proofs.ReportLaws.{with_lfs-push}
use Rattle.ht_causes.specs.declared.cause.Cause.{Cause}
use Rattle.ht_causes.specs.declared.cause.LatchPlace.{LatchPlace}
use Rattle.ht_causes.specs.Firsts.{least_place}
use Rattle.ht_causes.specs.Compared.{detects_at, excites_at, latch_place, may_detect_at, output_place, stores_at}
use Rattle.ht_causes.specs.Causes.{AreCauses, cause_at, cause_of, cause_row}
use Rattle.ht_causes.specs.CauseTexts.{HaveLines, IsCauseIn, IsLatchPlace, cause_line, first_cause_lines}
use Rattle.ht_causes.proofs.LeastLaws.{least_some, place_some}

-- the lines of the first faults grow by the next fault's line
pub cause_lines_more : (c : Netlist) (representatives : List ℕ) (causes : List Cause) (n : ℕ)
    → with_lfs (first_cause_lines c representatives causes (n + 1))
    ≡ with_lfs (first_cause_lines c representatives causes n)
    ++ with_lf (cause_line c representatives n (cause_at causes n))
cause_lines_more c representatives causes n =
    let line : ℕ → List ℕ = λ i. cause_line c representatives i (cause_at causes i) in
    ap (λ lines. with_lfs (head_line c representatives None ∷ lines)) (map-range_with_len_more line 0 n n (omega arith))
    ∙ with_lfs-push (first_cause_lines c representatives causes n) (line n)

-- ---- causes have lines

row_in : (c : Netlist) (a b : Option Place) (s : Option LatchPlace) (e : Option ℕ) (k : Bool)
    → ForSome a (IsPlace c) → ForSome b (IsPlace c) → ForSome s (IsLatchPlace c)
    → ForSome e (λ vector. vector < 2 ^ 64 - 1) → IsCauseIn c (cause_row a b s e k)
row_in c (Some p) b s e k ha hb hs he = ha p refl
row_in c None (Some p) s e k ha hb hs he = hb p refl
row_in c None None (Some p) e k ha hb hs he = hs p refl
row_in c None None None (Some t) k ha hb hs he = he t refl
row_in c None None None None true ha hb hs he = tt
row_in c None None None None false ha hb hs he = tt

place_in : (c : Netlist) (holds : ℕ → ℕ → Bool) (n : ℕ) → n < 2 ^ 64
    → ForSome (least_place output_place holds (length c.outputs) n) (IsPlace c)
place_in c holds n few = λ p is.
    let first = place_some output_place holds (length c.outputs) n p is in
    let vector : p.vector ≡ first.vector = ap (λ (q : Place). q.vector) first.is in
    let output : p.output ≡ first.number = ap (λ (q : Place). q.output) first.is in
    record { output = omega (arith, output, first.inside); vector = omega (arith, vector, first.below, few) }

latch_in : (c : Netlist) (holds : ℕ → ℕ → Bool) (n : ℕ) → n < 2 ^ 64
    → ForSome (least_place latch_place holds (length c.dffs) n) (IsLatchPlace c)
latch_in c holds n few = λ p is.
    let first = place_some latch_place holds (length c.dffs) n p is in
    let vector : p.vector ≡ first.vector = ap (λ (q : LatchPlace). q.vector) first.is in
    let dff : p.dff ≡ first.number = ap (λ (q : LatchPlace). q.dff) first.is in
    record { dff = omega (arith, dff, first.inside); vector = omega (arith, vector, first.below, few) }

-- the cause of a fault has a line
pub cause_in : (c : Netlist) (fault : Fault) (start : List Tern) (list : List (List Bool)) → length list < 2 ^ 64
    → IsCauseIn c (cause_of c fault start list)
cause_in c fault start list few =
    row_in c _ _ _ _ _ (place_in c (detects_at c fault start list) (length list) few)
    (place_in c (may_detect_at c fault start list) (length list) few)
    (latch_in c (stores_at c fault start list) (length list) few)
    (λ t is. let least = least_some (excites_at c fault start list) (length list) t is in
    omega (arith, least.below, few))

-- causes of a circuit's faults have lines
pub causes_in : (c : Netlist) (representatives : List ℕ) (start : List Tern) (list : List (List Bool))
    (causes : List Cause) → length list < 2 ^ 64 → AreCauses c representatives start list causes
    → HaveLines c representatives causes
causes_in c representatives start list causes few are = record {
  each = are.each;
  within = λ i inside own.
      subst (IsCauseIn c) (sym (are.exact i inside own)) (cause_in c (fault_at c i) start list few);
}
