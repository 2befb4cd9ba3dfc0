-- The pieces of each line of a report fit: so the lines are plain and short where the names are.
use Rattle.std.proofs.Common.{◌≡◌, inl, inr, ℕ, ◌+◌, ◌^◌, ◌<◌, ◌≤◌, Bool, true, false, List, [], ◌∷◌, ◌++◌, Some, length, get_or, map, refl, sym, ap, ◌∙◌, subst, arith}
use Rattle.std.specs.Prelude.{◌==◌, eqb, codes}
use Rattle.std.specs.List.{All, list_any, range_with_len, IsDistinct}
use Rattle.std.proofs.lemmas.Bool.{cases_Bool, eqb-true, ne_eqb}
use Rattle.std.proofs.lemmas.List.{length-map, get_or-map}
use Rattle.std.proofs.lemmas.List.Elements.{All-cons, All-map, All-push}
use Rattle.std.proofs.lemmas.List.FromFn.{length-range_with_len}
use Rattle.std.proofs.lemmas.List.Sums.{length-filter, count_by-le-length}
use Rattle.std.proofs.lemmas.Map.Keys.{IsDistinct-from_apart}
use Rattle.std.proofs.lemmas.Map.Steps.{length-le_from_distinct_below}
use Rattle.std.proofs.lemmas.Map.Views.{Contains-from_any}
use Rattle.ht_net.specs.declared.fault.Fault.{Fault}
use Rattle.ht_net.specs.declared.fault.Site.{Site}
use Rattle.ht_net.specs.declared.fault.Site.TheVariants.{Stem, DffPin, GatePin}
use Rattle.ht_net.specs.declared.net.NetId.{NetId}
use Rattle.ht_net.specs.Circuit.Netlist.{Netlist, IsCircuit, first_gate_net, net_count, no_net}
use Rattle.ht_net.specs.Build.Named.{name_of}
use Rattle.ht_tree.proofs.FirstLaws.{All-range_with_len}
use Rattle.ht_faults.specs.Sites.{faults_of}
use Rattle.ht_faults.specs.Classes.{AreClasses, is_representative, own_representatives, class_count, fault_at}
use Rattle.ht_texts.specs.declared.said.Said.{Said}
use Rattle.ht_texts.specs.declared.said.Said.TheVariants.{Detected, Untestable, Undetectable, Aborted, Undetected}
use Rattle.ht_texts.specs.Tests.{bit_code}
use Rattle.ht_texts.specs.Pieces.{word, number}
use Rattle.ht_texts.specs.Sites.{IsSite, pin_pieces, site_pieces}
use Rattle.ht_texts.specs.Verdicts.{said_at, IsSayable, verdict_pieces, says_detected, says_untestable, says_undetectable, says_aborted, says_undetected}
use Rattle.ht_texts.specs.Counts.{count_said}
use Rattle.ht_texts.specs.Reports.{head_pieces, head_line, fault_pieces, line_front, outcome_pieces, fault_line, report_sums, some_pieces, total_pieces, total_line, report_lines}
use Rattle.ht_texts.specs.SearchReports.{IsSearchOf}
use Rattle.ht_texts.proofs.LineLaws.{ArePlain}
use Rattle.ht_texts.proofs.PieceLaws.{FitIn, fit_both, IsFitLine, fit_line}
use Rattle.ht_texts.proofs.ReaderLaws.{lines_few}
use Rattle.ht_texts.proofs.SaidLaws.{outcome_of_representative, outcome_of_member}
use Rattle.ht_texts.proofs.SiteLaws.{fault_is_on_line}

-- ---- counts are small

-- 32 bits count the classes of a circuit
pub classes_few : (c : Netlist) (representatives : List ℕ) → IsCircuit c → AreClasses c representatives
    → class_count representatives < 2 ^ 32
classes_few c representatives is classes =
    let numbers = range_with_len 0 (length representatives) in
    omega (
      arith,
      lines_few c is,
      classes.every,
      length-filter (is_representative representatives) numbers,
      count_by-le-length (is_representative representatives) numbers,
      length-range_with_len 0 (length representatives),
    )

-- there are no more outputs than nets
pub outputs_few : (c : Netlist) → IsCircuit c → length c.outputs ≤ net_count c
outputs_few c is =
    let number : NetId → ℕ = λ net. net.0 in
    let numbered : ℕ → NetId = λ k. record { 0 = k } in
    let numbers : List ℕ = map number c.outputs in
    let long : length numbers ≡ length c.outputs = length-map c.outputs number in
    let at : (o d : ℕ) → o < length c.outputs → get_or numbers o d ≡ (get_or c.outputs o no_net).0 =
    λ o d inside. get_or-map number c.outputs o no_net d inside in
    let distinct : IsDistinct eqb numbers = IsDistinct-from_apart eqb numbers (λ i j d less inside.
    let second : j < length c.outputs = omega (arith, inside, long) in
    ne_eqb (get_or numbers i d) (get_or numbers j d) (λ same. is.outputs_differ i j no_net less second
    (ap numbered (sym (at i d (omega (arith, less, second))) ∙ same ∙ at j d second)))) in
    let below : (q : ℕ) → list_any (eqb q) numbers ≡ true → q < net_count c = λ q any.
    let found = Contains-from_any {eq = eqb} eqb-true q numbers any in
    let inside : found.0 < length c.outputs = omega (arith, found.1, long) in
    omega (arith, is.outputs_known found.0 inside, at found.0 q inside, found.2) in
    omega (arith, long, length-le_from_distinct_below numbers (net_count c) distinct below)

-- ---- the parts of a line

module _ (IsName : List ℕ → Type 0) (c : Netlist) (is : IsCircuit c) (names : (net : NetId) → IsName (name_of c net))
  where
    pin_fits : (net pin : ℕ) → pin < 2 ^ 64 → FitIn IsName 277 (pin_pieces c net pin)
    pin_fits net pin small = record {
      fit = (names (record { 0 = net }), (refl, (small, (refl, tt))));
      size = omega arith;
    }

    site_fits : (site : Site) → IsSite c site → FitIn IsName 277 (site_pieces c site)
    site_fits (Stem net) on = record { fit = (names net, tt); size = omega arith }
    site_fits (DffPin dff) on = pin_fits (c.inputs + dff) 1 (omega arith)
    site_fits (GatePin gate pin) on =
        pin_fits (first_gate_net c + gate) (pin + 1) (omega (arith, on.1, is.few_args gate on.0))

    plain_bit : (bit : Bool) → ArePlain (bit_code bit ∷ [])
    plain_bit false = refl
    plain_bit true = refl

    fault_fits : (fault : Fault) → IsSite c fault.site → FitIn IsName 284 (fault_pieces c fault)
    fault_fits fault on =
        let value : FitIn IsName 7 (word (codes " s-a-") ∷ word (bit_code fault.value ∷ []) ∷ []) =
        record { fit = (refl, (plain_bit fault.value, tt)); size = omega arith } in
        fit_both (site_fits fault.site on) value

    verdict_fits : (said : Said) → IsSayable c said → FitIn IsName 285 (verdict_pieces c said)
    verdict_fits (Detected place) sayable = record {
      fit = (refl, (omega (arith, sayable.vector), (refl, (names (get_or c.outputs place.output no_net), tt))));
      size = omega arith;
    }
    verdict_fits Untestable sayable = record { fit = (refl, tt); size = omega arith }
    verdict_fits Undetectable sayable = record { fit = (refl, tt); size = omega arith }
    verdict_fits Aborted sayable = record { fit = (refl, tt); size = omega arith }
    verdict_fits Undetected sayable = record { fit = (refl, tt); size = omega arith }

    module _ (representatives : List ℕ) (classes : AreClasses c representatives) where
      outcome_fits : (i : ℕ) (said : Said) → i < length (faults_of c)
          → (is_representative representatives i ≡ true → IsSayable c said)
          → FitIn IsName 285 (outcome_pieces c representatives i said)
      outcome_fits i said inside sayable = elim (cases_Bool (is_representative representatives i)) [
        | inl own ↦ subst (FitIn IsName 285) (sym (outcome_of_representative c representatives i said own))
            (verdict_fits said (sayable own))
        | inr other ↦ subst (FitIn IsName 285) (sym (outcome_of_member c representatives i said other)) (record {
          fit = (refl, (omega (arith, (classes.exact i inside).listed, lines_few c is), tt));
          size = omega arith;
        })
      ]

      fault_line_fits : (i : ℕ) (said : Said) → i < length (faults_of c)
          → (is_representative representatives i ≡ true → IsSayable c said)
          → FitIn IsName 591 (line_front c i ++ outcome_pieces c representatives i said)
      fault_line_fits i said inside sayable =
          let front : FitIn IsName 21 (number (i + 1) ∷ word (codes " ") ∷ []) =
          record { fit = (omega (arith, inside, lines_few c is), (refl, tt)); size = omega arith } in
          let space : FitIn IsName 1 (word (codes " ") ∷ []) = record { fit = (refl, tt); size = omega arith } in
          fit_both (fit_both (fit_both front (fault_fits (fault_at c i) (fault_is_on_line c i inside))) space)
          (outcome_fits i said inside sayable)

      -- a word and a number
      counted_fits : (bytes : List ℕ) (n : ℕ) → ArePlain bytes → n < 2 ^ 64
          → FitIn IsName (length bytes + 20) (word bytes ∷ number n ∷ [])
      counted_fits bytes n plain small = record { fit = (plain, (small, tt)); size = omega arith }

      -- the same where there may be none
      some_fits : (bytes : List ℕ) (n : ℕ) → ArePlain bytes → n < 2 ^ 64
          → FitIn IsName (length bytes + 20) (some_pieces bytes n)
      some_fits bytes n plain small = elim (cases_Bool (n == 0)) [
        | inl none ↦ rw none (record { fit = tt; size = omega arith })
        | inr some ↦ rw some (counted_fits bytes n plain small)
      ]

      head_fits : (budget : ℕ) → budget < 2 ^ 64 → FitIn IsName 208 (head_pieces c representatives (Some budget))
      head_fits budget small =
          fit_both (counted_fits (codes "circuit inputs ") c.inputs refl (omega (arith, is.few_inputs)))
          (fit_both (counted_fits (codes " outputs ") (length c.outputs) refl (omega (arith, outputs_few c is, is.few_nets)))
          (fit_both (counted_fits (codes " flip-flops ") (length c.dffs) refl (omega (arith, is.few_dffs)))
          (fit_both (counted_fits (codes " gates ") (length c.gates) refl (omega (arith, is.few_nets)))
          (fit_both (counted_fits (codes " faults ") (length (faults_of c)) refl (omega (arith, lines_few c is)))
          (fit_both (counted_fits (codes " classes ") (class_count representatives) refl
          (omega (arith, classes_few c representatives is classes)))
          (counted_fits (codes " budget ") budget refl small))))))

      total_fits : (budget : ℕ) (saids : List Said)
          → FitIn IsName 183 (total_pieces (report_sums representatives (Some budget) saids))
      total_fits budget saids =
          let sums = report_sums representatives (Some budget) saids in
          let few = classes_few c representatives is classes in
          let fits : (is_kind : Said → Bool) → count_said is_kind saids (own_representatives representatives) < 2 ^ 64 =
          λ is_kind. omega (
            arith,
            few,
            count_by-le-length (λ i. is_kind (said_at saids i)) (own_representatives representatives),
          ) in
          fit_both (counted_fits (codes "total ") sums.classes refl (omega (arith, few)))
          (fit_both (counted_fits (codes " detected ") sums.detected refl (fits says_detected))
          (fit_both (counted_fits (codes " untestable ") sums.untestable refl (fits says_untestable))
          (fit_both (counted_fits (codes " aborted ") sums.aborted refl (fits says_aborted))
          (fit_both (some_fits (codes " undetectable ") sums.undetectable refl (fits says_undetectable))
          (some_fits (codes " undetected ") sums.undetected refl (fits says_undetected))))))

      -- each line of the report
      pub report_fits : (budget : ℕ) (saids : List Said)
          → IsSearchOf c representatives (length (faults_of c)) budget saids
          → All (IsFitLine IsName) (report_lines c representatives (Some budget) saids)
      report_fits budget saids search =
          let faults = length (faults_of c) in
          let line : ℕ → List ℕ = λ i. fault_line c representatives i (said_at saids i) in
          let head = head_line c representatives (Some budget) in
          let total = total_line (report_sums representatives (Some budget) saids) in
          All-push (IsFitLine IsName) (head ∷ map line (range_with_len 0 faults)) total
          (All-cons (IsFitLine IsName) head (map line (range_with_len 0 faults))
          (fit_line (head_fits budget (omega (arith, search.budget_is.1))) (omega arith))
          (All-map (IsFitLine IsName) line (range_with_len 0 faults)
          (All-range_with_len (λ i. IsFitLine IsName (line i)) 0 faults (λ i below.
          fit_line (fault_line_fits i (said_at saids i) (omega (arith, below))
          (search.saids_are.sayable i (omega (arith, below)))) (omega arith)))))
          (fit_line (total_fits budget saids) (omega arith))
