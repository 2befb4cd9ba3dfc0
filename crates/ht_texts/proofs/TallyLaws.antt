-- Sums of verdicts, fault by fault.
use Rattle.std.proofs.Common.{◌≡◌, ◌==◌, inl, inr, ◌<◌, ◌+◌, ℕ, zero, suc, List, [], ◌∷◌, ◌++◌, Bool, true, false, length, get_or, length-append, refl, sym, ap, ◌∙◌, subst, arith}
use Rattle.std.proofs.lemmas.Bool.{cases_eq, eq-eqb, eqb-true, eqb-false}
use Rattle.std.proofs.lemmas.List.Sums.{sum_by_push}
use Rattle.ht_faults.specs.Classes.{is_representative}
use Rattle.ht_faults.proofs.OwnLaws.{own_more, own_same}
use Rattle.ht_texts.specs.declared.said.Said.{Said}
use Rattle.ht_texts.specs.declared.total.Sums.{Sums}
use Rattle.ht_texts.specs.Verdicts.{said_at, kind_number, says_detected, says_untestable, says_undetectable, says_aborted, says_undetected}
use Rattle.ht_texts.specs.Counts.{count_said, sums_among, representatives_below, one_if, CountsOne}
use Rattle.ht_texts.proofs.SaidLaws.{said_before, said_last}
use Rattle.ht_texts.proofs.VerdictLaws.{SameKind}

-- ---- one fault more

-- a representative is counted
count_own : (is_kind : Said → Bool) (representatives : List ℕ) (saids : List Said) (n : ℕ)
    → get_or representatives n 0 ≡ n
    → count_said is_kind saids (representatives_below representatives (n + 1))
    ≡ count_said is_kind saids (representatives_below representatives n) + one_if (is_kind (said_at saids n))
count_own is_kind representatives saids n own =
    ap (count_said is_kind saids) (own_more representatives n own)
    ∙ sum_by_push (λ i. one_if (is_kind (said_at saids i))) (representatives_below representatives n) n

-- verdicts that agree on the representatives have one count
same_count : (is_kind : Said → Bool) (representatives : List ℕ) (a b : List Said) (n : ℕ)
    → ((i : ℕ) → i < n → is_representative representatives i ≡ true → is_kind (said_at a i) ≡ is_kind (said_at b i))
    → count_said is_kind a (representatives_below representatives n)
    ≡ count_said is_kind b (representatives_below representatives n)
same_count is_kind representatives a b zero agree = refl
same_count is_kind representatives a b (suc n) agree =
    let more : n + 1 ≡ suc n = omega arith in
    let so_far = same_count is_kind representatives a b n (λ i below own. agree i (omega arith) own) in
    subst (λ m. count_said is_kind a (representatives_below representatives m)
    ≡ count_said is_kind b (representatives_below representatives m)) more
    (elim (cases_eq (get_or representatives n 0) n) [
      | inl own ↦
          count_own is_kind representatives a n own
          ∙ ap (λ k. k + one_if (is_kind (said_at a n))) so_far
          ∙ ap (λ k. count_said is_kind b (representatives_below representatives n) + one_if k)
          (agree n (omega arith) (eq-eqb (get_or representatives n 0) n own))
          ∙ sym (count_own is_kind representatives b n own)
      | inr other ↦
          ap (count_said is_kind a) (own_same representatives n other)
          ∙ so_far
          ∙ sym (ap (count_said is_kind b) (own_same representatives n other))
    ])

-- ---- the sums

same_sums : (s t : Sums) → s.classes ≡ t.classes → s.detected ≡ t.detected → s.untestable ≡ t.untestable
    → s.aborted ≡ t.aborted → s.undetectable ≡ t.undetectable → s.undetected ≡ t.undetected → s.search ≡ t.search
    → s ≡ t
same_sums s t classes detected untestable aborted undetectable undetected searched =
    let sums : ℕ → ℕ → ℕ → ℕ → ℕ → ℕ → Bool → Sums = λ k d u a x l b. record {
      classes = k;
      detected = d;
      untestable = u;
      aborted = a;
      undetectable = x;
      undetected = l;
      search = b;
    } in
    ap (λ k. sums k s.detected s.untestable s.aborted s.undetectable s.undetected s.search) classes
    ∙ ap (λ d. sums t.classes d s.untestable s.aborted s.undetectable s.undetected s.search) detected
    ∙ ap (λ u. sums t.classes t.detected u s.aborted s.undetectable s.undetected s.search) untestable
    ∙ ap (λ a. sums t.classes t.detected t.untestable a s.undetectable s.undetected s.search) aborted
    ∙ ap (λ x. sums t.classes t.detected t.untestable t.aborted x s.undetected s.search) undetectable
    ∙ ap (λ l. sums t.classes t.detected t.untestable t.aborted t.undetectable l s.search) undetected
    ∙ ap (λ b. sums t.classes t.detected t.untestable t.aborted t.undetectable t.undetected b) searched

-- two lists of verdicts have the same sums over the first n faults if each representative has the same kind in both
pub sums_agree : (representatives : List ℕ) (a b : List Said) (of_search : Bool) (n : ℕ)
    → ((i : ℕ) → i < n → is_representative representatives i ≡ true → SameKind (said_at a i) (said_at b i))
    → sums_among representatives a of_search (representatives_below representatives n)
    ≡ sums_among representatives b of_search (representatives_below representatives n)
sums_agree representatives a b of_search n agree =
    let faults = representatives_below representatives n in
    let each : (k : ℕ) → count_said (λ said. kind_number said == k) a faults
    ≡ count_said (λ said. kind_number said == k) b faults =
    λ k. same_count (λ said. kind_number said == k) representatives a b n
    (λ i below own. ap (λ kind. kind == k) (agree i below own)) in
    same_sums _ _ refl (each 0) (each 1) (each 3) (each 2) (each 4) refl

-- ---- one verdict more

length_push : (saids : List Said) (said : Said) → length (saids ++ said ∷ []) ≡ length saids + 1
length_push saids said = length-append saids (said ∷ [])

count_push : (is_kind : Said → Bool) (representatives : List ℕ) (saids : List Said) (said : Said)
    → is_representative representatives (length saids) ≡ true
    → count_said is_kind (saids ++ said ∷ []) (representatives_below representatives (length saids + 1))
    ≡ count_said is_kind saids (representatives_below representatives (length saids)) + one_if (is_kind said)
count_push is_kind representatives saids said own =
    let n = length saids in
    let all = saids ++ said ∷ [] in
    count_own is_kind representatives all n (eqb-true (get_or representatives n 0) n own)
    ∙ ap (λ k. k + one_if (is_kind (said_at all n)))
    (same_count is_kind representatives all saids n
    (λ i below _. ap is_kind (said_before saids (said ∷ []) i below)))
    ∙ ap (λ s. count_said is_kind saids (representatives_below representatives n) + one_if (is_kind s))
    (said_last saids said)

-- the verdict of a representative is counted
pub verdict_counted : (representatives : List ℕ) (saids : List Said) (said : Said) (of_search : Bool) (old new : Sums)
    → is_representative representatives (length saids) ≡ true
    → old ≡ sums_among representatives saids of_search (representatives_below representatives (length saids))
    → CountsOne said old new
    → new ≡ sums_among representatives (saids ++ said ∷ []) of_search
    (representatives_below representatives (length (saids ++ said ∷ [])))
verdict_counted representatives saids said of_search old new own so_far one =
    let all = saids ++ said ∷ [] in
    let count : (Said → Bool) → ℕ = λ is_kind. count_said is_kind saids
    (representatives_below representatives (length saids)) in
    subst (λ n. new ≡ sums_among representatives all of_search (representatives_below representatives n))
    (sym (length_push saids said)) (same_sums _ _
    (one.classes ∙ ap (λ (s : Sums). s.classes) so_far)
    (one.detected ∙ ap (λ (s : Sums). s.detected + one_if (says_detected said)) so_far
    ∙ sym (count_push says_detected representatives saids said own))
    (one.untestable ∙ ap (λ (s : Sums). s.untestable + one_if (says_untestable said)) so_far
    ∙ sym (count_push says_untestable representatives saids said own))
    (one.aborted ∙ ap (λ (s : Sums). s.aborted + one_if (says_aborted said)) so_far
    ∙ sym (count_push says_aborted representatives saids said own))
    (one.undetectable ∙ ap (λ (s : Sums). s.undetectable + one_if (says_undetectable said)) so_far
    ∙ sym (count_push says_undetectable representatives saids said own))
    (one.undetected ∙ ap (λ (s : Sums). s.undetected + one_if (says_undetected said)) so_far
    ∙ sym (count_push says_undetected representatives saids said own))
    (one.search ∙ ap (λ (s : Sums). s.search) so_far))

-- nothing is counted for another fault
pub member_not_counted : (representatives : List ℕ) (saids : List Said) (said : Said) (of_search : Bool)
    → is_representative representatives (length saids) ≡ false
    → sums_among representatives saids of_search (representatives_below representatives (length saids))
    ≡ sums_among representatives (saids ++ said ∷ []) of_search
    (representatives_below representatives (length (saids ++ said ∷ [])))
member_not_counted representatives saids said of_search other =
    let n = length saids in
    let all = saids ++ said ∷ [] in
    let alike : (i : ℕ) → i < n → is_representative representatives i ≡ true
    → SameKind (said_at saids i) (said_at all i) =
    λ i below _. ap kind_number (sym (said_before saids (said ∷ []) i below)) in
    sums_agree representatives saids all of_search n alike
    ∙ ap (sums_among representatives all of_search)
    (sym (own_same representatives n (eqb-false (get_or representatives n 0) n other))
    ∙ ap (representatives_below representatives) (sym (length_push saids said)))
