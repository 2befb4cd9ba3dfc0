use Rattle.std.specs.Prelude.{◌≡◌, ◌<◌, ℕ, [], None, length, refl}
use Rattle.std.proofs.Common.{arith, subst, sym, ◌∙◌}
use Rattle.std.proofs.lemmas.List.Elements.{All-nil}
use Rattle.ht_net.specs.Detect.Detection.{IsStart}
use Rattle.ht_valid.specs.ValidFiles.{HasEntry}
use Rattle.ht_engine.specs.FaultWork.{HoldsIfAny, IsNamedInvariant}
use Rattle.ht_engine.specs.EngineStands.{EngineStandsFor, EngineView, HasGraded, IsKindIn, all_first, kind_at}
use Rattle.ht_engine.specs.Steps.{none}
use Rattle.ht_engine.proofs.ChosenLaws.{classes_listed}
use Rattle.ht_engine.proofs.engine.Engine.new.Goals as goal

no_entry : (i : ℕ) → ¬ HasEntry [] i
no_entry i h = let l = h.among.1 in absurd (omega (arith, l))

-- nothing is kept, so the engine stands for no steps
new_stands : (e : EngineView) → IsStart e.circuit e.settings.start → HasGraded e []
    → ((i : ℕ) → i < length e.representatives → kind_at e i ≡ None) → e.first_awaiting ≡ 0
    → e.rest ≡ all_first e
    → IsNamedInvariant e.circuit e.settings.start e.settings.budget e.named_invariant
    → HoldsIfAny e.circuit e.named_invariant → EngineStandsFor e []
new_stands e latches graded empty place rest found holds = record {
  latches = latches;
  are = none;
  rest = rest;
  graded = graded;
  kinds = λ i l. subst (IsKindIn [] i) (sym (empty i l)) (no_entry i);
  done = λ i l. absurd (omega (arith, l, place));
  entered = λ i h. absurd (no_entry i h);
  wide = All-nil _;
  pass = All-nil _;
  found = found;
  holds = holds;
  enough = All-nil _;
}

pub mark_chosen-requires : goal.mark_chosen-requires
mark_chosen-requires c = classes_listed c.args.circuit.now c.args.classes.now c.requires.classes

pub invariant_of-result : goal.invariant_of-result
invariant_of-result c =
    let tools = c.in_ok-new.ensures in
    record {
      engine = record {
        faults = c.requires.faults;
        classes = c.requires.classes;
        circuit = tools.circuit;
        representatives = tools.classes;
        budget = c.requires.budget;
        kinds = c.in_ok-no_kinds.ensures.each ∙ c.len.ensures;
        first_awaiting = omega arith;
        found = c.in_ok-find_named.ensures.found;
        holds = c.in_ok-find_named.ensures.holds;
        latches = c.requires.latches;
        marks = c.in_ok-mark_chosen.ensures;
      };
      bases = tools.bases;
      width = tools.width;
    }

pub returns-clause-none : goal.returns-clause-none
returns-clause-none c =
    let count = c.len.ensures in
    let tools = c.in_ok-new.ensures in
    new_stands _ c.requires.latches
    (record {
      circuit = tools.circuit;
      representatives_same = tools.classes;
      stands = tools.stands;
    })
    (λ i l. c.in_ok-no_kinds.ensures.none i (omega (arith, l, count))) refl
    tools.rest
    c.in_ok-find_named.ensures.found
    c.in_ok-find_named.ensures.holds
