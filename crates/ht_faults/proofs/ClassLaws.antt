-- The first index of each leader is the representative.
use Rattle.std.proofs.Common.{ext_get_or, ◌≡◌, ◌<◌, ℕ, List, length, get_or, sym, ◌∙◌, arith, inl, inr, subst}
use Rattle.std.specs.Prelude.{◌↔◌}
use Rattle.std.proofs.lemmas.Bool.{cases_lt}
use Rattle.ht_net.specs.Circuit.Netlist.{Netlist}
use Rattle.ht_faults.specs.Sites.{faults_of}
use Rattle.ht_faults.specs.Classes.{SameClass, itself, turned, joined, fault_at, IsRepresentative, AreClasses}
use Rattle.ht_faults.specs.Leaders.{AreLeaders}
use Rattle.ht_faults.specs.FirstIndex.{AreFirstIndices}

-- the first indices with each fault's leader are the representatives of the classes
pub are_classes : (c : Netlist) (leaders indices : List ℕ) → AreLeaders c leaders → AreFirstIndices leaders indices
    → AreClasses c indices
are_classes c leaders indices same first = record {
  every = first.every ∙ same.every;
  exact = λ i l.
      let count = same.every in
      let inside : i < length leaders = omega arith in
      let at = first.exact i inside in
      let low = at.within in
      let there : get_or indices i 0 < length leaders = omega arith in
      record {
        listed = omega arith;
        member = (same.exact (get_or indices i 0) i there inside).0 at.same;
        least = λ k less h. at.first k less ((same.exact k i (omega arith) inside).1 h);
      };
}

-- Two least numbers of one class are one.
one_representative : (c : Netlist) (i j r q : ℕ) → SameClass c (fault_at c i) (fault_at c j) → IsRepresentative c i r
    → IsRepresentative c j q → r ≡ q
one_representative c i j r q same h k = elim (cases_lt r q) [
  | inl l ↦ absurd (k.least r l (joined (fault_at c r) (fault_at c i) (fault_at c j) h.member same))
  | inr m ↦ elim (cases_lt q r) [
    | inl l ↦ absurd (h.least q l
        (joined (fault_at c q) (fault_at c j) (fault_at c i) k.member (turned (fault_at c i) (fault_at c j) same)))
    | inr n ↦ omega arith
  ]
]

-- two faults have one representative exactly where they are in one class
pub same_representative : (c : Netlist) (representatives : List ℕ) (i j : ℕ) → AreClasses c representatives
    → i < length (faults_of c) → j < length (faults_of c)
    → (get_or representatives i 0 ≡ get_or representatives j 0) ↔ SameClass c (fault_at c i) (fault_at c j)
same_representative c representatives i j h inside there =
    let a = h.exact i inside in
    let b = h.exact j there in (
      λ e. joined (fault_at c i) (fault_at c (get_or representatives i 0)) (fault_at c j)
          (turned (fault_at c (get_or representatives i 0)) (fault_at c i) a.member)
          (subst (λ (n : ℕ). SameClass c (fault_at c n) (fault_at c j)) (sym e) b.member),
      λ same. one_representative c i j (get_or representatives i 0) (get_or representatives j 0) same a b,
    )

-- the representative of a fault is its own representative
pub own_representative : (c : Netlist) (representatives : List ℕ) (i : ℕ) → AreClasses c representatives
    → i < length (faults_of c)
    → get_or representatives (get_or representatives i 0) 0 ≡ get_or representatives i 0
own_representative c representatives i h inside =
    let a = h.exact i inside in
    (same_representative c representatives (get_or representatives i 0) i h a.listed inside).1 a.member

-- a circuit has one list of representatives only
pub one_list : (c : Netlist) (representatives others : List ℕ) → AreClasses c representatives → AreClasses c others
    → representatives ≡ others
one_list c representatives others h k =
    let long = h.every in
    let same = k.every in
    ext_get_or 0 representatives others (omega arith)
    (λ i l. one_representative c i i (get_or representatives i 0) (get_or others i 0) (itself (fault_at c i))
    (h.exact i (omega arith)) (k.exact i (omega arith)))

-- There is one list of representatives, and a class has one of them, its own.
pub ruleset class_rules = (one_list, same_representative, own_representative)
