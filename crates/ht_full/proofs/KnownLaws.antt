-- What is known goes on: in no step, by vectors, by an entry, and in two steps.
use Rattle.std.proofs.Common.{◌≡◌, ◌++◌, ◌∙◌, ◌<◌, ◌≤◌, ℕ, IsTrue, List, Bool, false, length, arith, Option, Some, None, [], inl, inr, set, refl, sym, ap, subst, append_assoc, append-nil}
use Rattle.std.proofs.lemmas.Bool.Decides.{eqb_tells}
use Rattle.std.proofs.lemmas.List.{get_or-set_other}
use Rattle.ht_tern.specs.declared.tern.Tern.{Tern}
use Rattle.ht_net.specs.Circuit.Netlist.{Netlist}
use Rattle.ht_net.specs.Frames.Rows.{Rows}
use Rattle.ht_proofs.specs.ClassGraderView.{ClassGraderStandsFor, ClassGraderView}
use Rattle.ht_tree.specs.declared.entry.Entry as recorded
use Rattle.ht_verdicts.specs.Standing.{VerdictsView, entry_at}
use Rattle.ht_faults.specs.Sites.{faults_of}
use Rattle.ht_faults.specs.Classes.{AreClasses}
use Rattle.ht_full.specs.Known.{KnowsMore, IsKnownOf, IsStillOpen, KnownView}

-- nothing is added
pub stays : (a : KnownView) → KnowsMore a a
stays a = record {
  circuit = refl;
  classes = refl;
  start = refl;
  chosen = refl;
  more = [];
  added = sym (append-nil a.vectors.list);
  kept = λ i made is. is;
  stands = λ stands. stands;
}

-- twice in a row
pub goes_further : (a b c : KnownView) → KnowsMore a b → KnowsMore b c → KnowsMore a c
goes_further a b c once again = record {
  circuit = again.circuit ∙ once.circuit;
  classes = again.classes ∙ once.classes;
  start = again.start ∙ once.start;
  chosen = again.chosen ∙ once.chosen;
  more = once.more ++ again.more;
  added = again.added ∙ ap (λ (l : List (List Bool)). l ++ again.more) once.added
      ∙ append_assoc a.vectors.list once.more again.more;
  kept = λ i made is. again.kept i made (once.kept i made is);
  stands = λ stands. again.stands (once.stands stands);
}

-- vectors are added, and graded
pub by_list : (v : VerdictsView) (g : ClassGraderView) (before after list : Rows) (chosen : List Bool)
    → after.list ≡ before.list ++ list.list
    → ((start : List Tern) (so_far : List (List Bool)) → ClassGraderStandsFor v.grader start so_far
    → ClassGraderStandsFor g start (so_far ++ list.list))
    → KnowsMore (record { verdicts = v; vectors = before; chosen = chosen })
    (record { verdicts = record v { grader = g }; vectors = after; chosen = chosen })
by_list v g before after list chosen added graded = record {
  circuit = refl;
  classes = refl;
  start = refl;
  chosen = refl;
  more = list.list;
  added = added;
  kept = λ i made is. is;
  stands = λ stands. subst (ClassGraderStandsFor g v.start) (sym added) (graded v.start before.list stands);
}

none_is : {A : Type 0} (made : recorded.Entry) (o : Option recorded.Entry) → o ≡ None → o ≡ Some made → A
none_is made o none some = absurd (cc)

-- an open fault gets an entry
pub by_entry : (v : VerdictsView) (vectors : Rows) (chosen : List Bool) (fault : ℕ) (made : recorded.Entry)
    → entry_at v fault ≡ None
    → KnowsMore (record { verdicts = v; vectors = vectors; chosen = chosen })
    (record { verdicts = record v { entries = set v.entries fault (Some made) }; vectors = vectors; chosen = chosen })
by_entry v vectors chosen fault made none = record {
  circuit = refl;
  classes = refl;
  start = refl;
  chosen = refl;
  more = [];
  added = sym (append-nil vectors.list);
  kept = kept;
  stands = λ stands. stands;
}
  where
    kept : (i : ℕ) (other : recorded.Entry) → entry_at v i ≡ Some other
        → entry_at (record v { entries = set v.entries fault (Some made) }) i ≡ Some other
    kept i other is = elim (eqb_tells i fault) [
      | inl t ↦ none_is other (entry_at v fault) none (sym (ap (entry_at v) t.1) ∙ is)
      | inr t ↦ get_or-set_other v.entries fault i (Some made) None t.1 ∙ is
    ]

-- what goes on is of the same circuit, classes, start and given vectors
pub known_further : (c : Netlist) (representatives : List ℕ) (start : List Tern) (given : List (List Bool))
    (a b : KnownView) → IsKnownOf c representatives start given a → KnowsMore a b
    → IsKnownOf c representatives start given b
known_further c representatives start given a b known further = record {
  circuit = further.circuit ∙ known.circuit;
  classes = further.classes ∙ known.classes;
  start_is = further.start ∙ known.start_is;
  more = known.more ++ further.more;
  added = further.added ∙ ap (λ (l : List (List Bool)). l ++ further.more) known.added
      ∙ append_assoc given known.more further.more;
  stands = further.stands known.stands;
}

-- ---- from the beginning

-- verdicts of no vectors
pub known_at_first : (c : Netlist) (representatives : List ℕ) (start : List Tern) (v : VerdictsView) (vectors : Rows)
    (chosen : List Bool) → v.circuit ≡ c → v.representatives ≡ representatives → v.start ≡ start
    → ClassGraderStandsFor v.grader start []
    → vectors.list ≡ []
    → IsKnownOf c representatives start [] (record { verdicts = v; vectors = vectors; chosen = chosen })
known_at_first c representatives start v vectors chosen circuit classes start_is graded empty = record {
  circuit = circuit;
  classes = classes;
  start_is = start_is;
  more = [];
  added = empty;
  stands = subst (ClassGraderStandsFor v.grader v.start) (sym empty)
      (subst (λ (s : List Tern). ClassGraderStandsFor v.grader s []) (sym start_is) graded);
}

-- what is known of no vectors takes those that are given
pub known_by_given : (c : Netlist) (representatives : List ℕ) (start : List Tern) (given : List (List Bool))
    (a b : KnownView) → IsKnownOf c representatives start [] a → a.vectors.list ≡ [] → KnowsMore a b
    → b.vectors.list ≡ a.vectors.list ++ given → IsKnownOf c representatives start given b
known_by_given c representatives start given a b known empty further added = record {
  circuit = further.circuit ∙ known.circuit;
  classes = further.classes ∙ known.classes;
  start_is = further.start ∙ known.start_is;
  more = [];
  added = added ∙ ap (λ (l : List (List Bool)). l ++ given) empty ∙ sym (append-nil given);
  stands = further.stands known.stands;
}

-- ---- what isn't open

-- a number that no fault has
pub outside_is_not_open : (c : Netlist) (representatives : List ℕ) (k : KnownView) (i count : ℕ)
    → AreClasses c representatives → k.verdicts.circuit ≡ c → count ≡ length representatives → count ≤ i
    → (IsTrue false → IsStillOpen k i) × (IsStillOpen k i → IsTrue false)
outside_is_not_open c representatives k i count classes circuit counted outside =
    (λ none. absurd (cc), λ is. absurd (omega (arith, classes.every, counted, outside, inside is)))
  where
    inside : IsStillOpen k i → i < length (faults_of c)
    inside is = subst (λ (n : Netlist). i < length (faults_of n)) circuit is.own.listed
