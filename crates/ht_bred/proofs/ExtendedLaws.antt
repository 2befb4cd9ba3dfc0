-- A grader and a list that go on together, in no step, in one and in two.
use Rattle.std.proofs.Common.{◌≡◌, ◌+◌, ◌++◌, ◌∙◌, ℕ, List, Bool, [], refl, sym, ap, append_assoc, append-nil, length-append}
use Rattle.ht_net.specs.Frames.Rows.{Rows}
use Rattle.ht_tern.specs.declared.tern.Tern.{Tern}
use Rattle.ht_proofs.specs.ClassGraderView.{ClassGraderStandsFor, ClassGraderView}
use Rattle.ht_bred.specs.Extended.{AreExtended}

-- nothing is added
pub by_none : (g : ClassGraderView) (list : Rows) → AreExtended g g list.list list list 0
by_none g list = record {
  circuit = refl;
  classes = refl;
  inputs = refl;
  more = [];
  added = sym (append-nil list.list);
  counted = refl;
  stands = λ start stands. stands;
}

-- vectors are added twice
pub twice : (f g h : ClassGraderView) (graded : List (List Bool)) (first second third : Rows) (m n : ℕ)
    → AreExtended f g graded first second m → AreExtended g h second.list second third n
    → AreExtended f h graded first third (m + n)
twice f g h graded first second third m n once again = record {
  circuit = again.circuit ∙ once.circuit;
  classes = again.classes ∙ once.classes;
  inputs = again.inputs ∙ once.inputs;
  more = once.more ++ again.more;
  added = again.added ∙ ap (λ (l : List (List Bool)). l ++ again.more) once.added
      ∙ append_assoc first.list once.more again.more;
  counted = length-append once.more again.more ∙ (λ i. once.counted i + again.counted i);
  stands = λ start stands. again.stands start (once.stands start stands);
}

-- a grader of no vectors takes those of a list, and then goes on with it
pub extended_from_none : (f g h : ClassGraderView) (first second : Rows) (n : ℕ)
    → (g.machines.circuit ≡ f.machines.circuit) × (g.representatives ≡ f.representatives)
    → ((start : List Tern) (before : List (List Bool)) → ClassGraderStandsFor f start before
    → ClassGraderStandsFor g start (before ++ first.list)) → AreExtended g h first.list first second n
    → AreExtended f h [] first second n
extended_from_none f g h first second n same added further = record {
  circuit = further.circuit ∙ same.0;
  classes = further.classes ∙ same.1;
  inputs = further.inputs;
  more = further.more;
  added = further.added;
  counted = further.counted;
  stands = λ start stands. further.stands start (added start [] stands);
}
