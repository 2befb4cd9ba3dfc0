-- Marks that grow to the cone.
use Rattle.std.proofs.Common.{◌≡◌, ◌<◌, ◌≤◌, ◌+◌, ℕ, suc, zero, List, [], ◌∷◌, length, get_or, set, Bool, true, false, refl, sym, ◌∙◌, ap, subst, arith, inl, inr, ◌⊎◌, below_more}
use Rattle.std.proofs.lemmas.List.{get_or-set_same, get_or-set_other, length-set}
use Rattle.std.proofs.lemmas.Bool.{both_ways, cases_Bool, cases_eq, false≢true}
use Rattle.ht_net.specs.declared.fault.Fault.{Fault}
use Rattle.ht_net.specs.Circuit.Netlist.{Netlist, net_count, arg_at, no_net}
use Rattle.ht_cubes.specs.declared.cone.Reader.{Reader}
use Rattle.ht_cubes.specs.declared.cone.Reader.TheVariants.{Gate, Dff}
use Rattle.ht_cubes.specs.Rails.{Encloses, IsCone, first_changed}
use Rattle.ht_cubes.specs.Cones.{marked, unmarked_count, AreReached, HaveGrown, IsReader, driven, ReadsMarked, CloseBoth, IsSwept}

-- a new mark
unmarked_set : (marks : List Bool) (x : ℕ) → x < length marks → get_or marks x false ≡ false
    → suc (unmarked_count (set marks x true)) ≡ unmarked_count marks
unmarked_set [] x l e = absurd (omega arith)
unmarked_set (false ∷ marks) zero l e = refl
unmarked_set (true ∷ marks) zero l e = absurd (both_ways true e refl)
unmarked_set (false ∷ marks) (suc x) l e = ap suc (unmarked_set marks x (omega arith) e)
unmarked_set (true ∷ marks) (suc x) l e = unmarked_set marks x (omega arith) e

kept_set : (marks : List Bool) (x y : ℕ) → x < length marks → marked marks y ≡ true → marked (set marks x true) y ≡ true
kept_set marks x y l h = elim (cases_eq y x) [
  | inl same ↦ ap (λ (n : ℕ). get_or (set marks x true) n false) same ∙ get_or-set_same marks x true false l
  | inr other ↦ get_or-set_other marks x y true false other ∙ h
]

from_set : (marks : List Bool) (x y : ℕ) → marked (set marks x true) y ≡ true → (y ≡ x) ⊎ (marked marks y ≡ true)
from_set marks x y h = elim (cases_eq y x) [
  | inl same ↦ inl same
  | inr other ↦ inr (sym (get_or-set_other marks x y true false other) ∙ h)
]

module _ (c : Netlist) where
  -- marks have grown from themselves
  pub grown_now : (marks : List Bool) → HaveGrown c marks marks
  grown_now marks = record { long = refl; kept = λ x h. h; reached = λ f h. h; count = omega arith }

  -- marks that have grown twice have grown from the first
  pub grown_more : (a b d : List Bool) → HaveGrown c a b → HaveGrown c b d → HaveGrown c a d
  grown_more a b d one two = record {
    long = two.long ∙ one.long;
    kept = λ x h. two.kept x (one.kept x h);
    reached = λ f h. two.reached f (one.reached f h);
    count = omega (arith, one.count, two.count);
  }

  -- a new mark that every enclosing set has
  pub grown_set : (marks : List Bool) (x : ℕ) → x < length marks → get_or marks x false ≡ false
      → ((fault : Fault) (nets : ℕ → Bool) → Encloses c fault nets → AreReached c fault marks → nets x ≡ true)
      → HaveGrown c marks (set marks x true)
  grown_set marks x l e has = record {
    long = length-set marks x true;
    kept = λ y h. kept_set marks x y l h;
    reached = λ f h nets closed y m. elim (from_set marks x y m) [
      | inl same ↦ ap nets same ∙ has f nets closed h
      | inr old ↦ h nets closed y old
    ];
    count = omega (arith, unmarked_set marks x l e);
  }

  -- a sweep with a new mark is one with a change
  pub swept_set : (closes : Type 0) (marks : List Bool) (x : ℕ) → x < length marks → get_or marks x false ≡ false
      → IsSwept closes marks (set marks x true) true
  swept_set closes marks x l e = record {
    fewer = λ so. omega (arith, unmarked_set marks x l e);
    still = λ wrong. absurd (both_ways true wrong refl);
    closed = λ wrong. absurd (both_ways true wrong refl);
  }

  -- marks that close are swept without a change
  pub swept_none : (closes : Type 0) (marks : List Bool) → closes → IsSwept closes marks marks false
  swept_none closes marks h = record {
    fewer = λ so. absurd (false≢true so);
    still = λ wrong. refl;
    closed = λ wrong. h;
  }

  -- every set that encloses a fault, and so has the marks, has what reads a marked net and drives another
  enclosed : (marks : List Bool) (reader : Reader) (fault : Fault) (nets : ℕ → Bool) → Encloses c fault nets
      → AreReached c fault marks → IsReader c reader → ReadsMarked c marks reader → nets (driven c reader) ≡ true
  enclosed marks (Gate g) fault nets closed reached there read =
      closed.gates g read.0 there read.1 (reached nets closed (arg_at c g read.0) read.2)
  enclosed marks (Dff j) fault nets closed reached there read =
      closed.dffs j there (reached nets closed (get_or c.dffs j no_net).0 read)

  -- the mark of what a gate or flip-flop drives, which stands at x
  pub reader_grown : (marks : List Bool) (reader : Reader) (x : ℕ) → IsReader c reader → x ≡ driven c reader
      → x < length marks → get_or marks x false ≡ false → ReadsMarked c marks reader
      → HaveGrown c marks (set marks x true)
  reader_grown marks reader x there is inside none read = grown_set marks x inside none
      (λ fault nets closed reached. ap nets is ∙ enclosed marks reader fault nets closed reached there read)

-- what a sweep closes, said otherwise
pub swept_so : (P Q : Type 0) → (P → Q) → (a b : List Bool) (x : Bool) → IsSwept P a b x → IsSwept Q a b x
swept_so P Q so a b x h = record { fewer = h.fewer; still = h.still; closed = λ wrong. so (h.closed wrong) }

-- two sweeps, one after the other
pub swept_join : (P Q R : List Bool → Type 0) → ((m : List Bool) → P m → Q m → R m) → (a b d : List Bool) (x y z : Bool)
    → unmarked_count b ≤ unmarked_count a → unmarked_count d ≤ unmarked_count b
    → IsSwept (P b) a b x → IsSwept (Q d) b d y → (y ≡ true → z ≡ true) → (y ≡ false → z ≡ x) → IsSwept (R d) a d z
swept_join P Q R join a b d x y z few less one two right wrong = record {
  fewer = λ so. elim (cases_Bool y) [
    | inl on ↦ let l = two.fewer on in omega (arith, few, l)
    | inr off ↦ let l = one.fewer (sym (wrong off) ∙ so) in omega (arith, less, l)
  ];
  still = λ not. two.still (off not) ∙ one.still (x_off not);
  closed = λ not. join d (subst P (sym (two.still (off not))) (one.closed (x_off not))) (two.closed (off not));
}
  where
    off : z ≡ false → y ≡ false
    off not = elim (cases_Bool y) [ inl on ↦ absurd (both_ways z not (right on)) | inr no_one ↦ no_one ]

    x_off : z ≡ false → x ≡ false
    x_off not = sym (wrong (off not)) ∙ not

-- Whether some mark is new, with one answer more.
abbrev pub Joins : Bool → Bool → Bool → Type 0
Joins before one now = (one ≡ true → now ≡ true) × (one ≡ false → now ≡ before)

-- a new mark makes the answer yes, whatever it was before
pub joins_new : (before : Bool) {one now : Bool} → one ≡ true → now ≡ true → Joins before one now
joins_new before {one} on is = ((λ yes. is), (λ wrong. absurd (both_ways one wrong on)))

-- without a new mark the answer stays as it was before
pub joins_old : {before one now : Bool} → one ≡ false → now ≡ before → Joins before one now
joins_old {before} {one} off is = ((λ yes. absurd (both_ways one off yes)), (λ no. is))

-- one item more of a sweep
pub swept_more : (P : ℕ → List Bool → Type 0) (i : ℕ) {a b d : List Bool} {x y z : Bool}
    → unmarked_count b ≤ unmarked_count a → unmarked_count d ≤ unmarked_count b
    → IsSwept ((k : ℕ) → k < i → P k b) a b x → IsSwept (P i d) b d y → Joins x y z
    → IsSwept ((k : ℕ) → k < i + 1 → P k d) a d z
swept_more P i {a} {b} {d} {x} {y} {z} few less one two joins =
    swept_join (λ (m : List Bool). (k : ℕ) → k < i → P k m) (P i) (λ (m : List Bool). (k : ℕ) → k < i + 1 → P k m)
    (λ m below here. below_more (λ (k : ℕ). P k m) i below here) a b d x y z few less one two joins.0 joins.1

-- marks that are reached, have the first net and close are the cone
pub cone_found : (c : Netlist) (fault : Fault) (marks : List Bool)
    → (first_changed c fault.site < net_count c → marked marks (first_changed c fault.site) ≡ true)
    → AreReached c fault marks → CloseBoth c marks → IsCone c fault (marked marks)
cone_found c fault marks first reached closed = record {
  encloses = record {
    first = first;
    gates = λ g i inside pin h. closed.gates g inside (i, pin, h);
    dffs = λ j inside h. closed.dffs j inside h;
  };
  least = reached;
}

-- marks that begin with the first net and grow until they close
pub cone_from : (c : Netlist) (fault : Fault) (first before marks : List Bool) → before ≡ first
    → (first_changed c fault.site < net_count c → marked first (first_changed c fault.site) ≡ true)
    → AreReached c fault first → HaveGrown c before marks → CloseBoth c marks → IsCone c fault (marked marks)
cone_from c fault first before marks same begins reached grown closed =
    let P : List Bool → Type 0 = λ l. HaveGrown c l marks in
    let from = subst P same grown in
    cone_found c fault marks (λ l. from.kept (first_changed c fault.site) (begins l)) (from.reached fault reached) closed

-- there is one cone
pub cones_agree : (c : Netlist) (fault : Fault) (one two : ℕ → Bool) → IsCone c fault one → IsCone c fault two → one ≡ two
cones_agree c fault one two a b = λ k x. same x k
  where
    same : (x : ℕ) → one x ≡ two x
    same x = elim (cases_Bool (one x)) [
      | inl on ↦ on ∙ sym (a.least two b.encloses x on)
      | inr off ↦ elim (cases_Bool (two x)) [
        | inl on ↦ absurd (both_ways (one x) off (b.least one a.encloses x on))
        | inr none ↦ off ∙ sym none
      ]
    ]
