use Rattle.std.proofs.Common.{◌∙◌, List, Bool, false, length, get_or, ap}
use Rattle.std.proofs.lemmas.List.{length-replicate}
use Rattle.ht_group.proofs.WordsLaws.{none_marked}
use Rattle.ht_group.proofs.shared_frame.SharedFrame.new.Goals as goal

pub returns-clause-frame : goal.returns-clause-frame
returns-clause-frame c = record {
  circuit = c.in_ok-schedule.ensures.circuit;
  schedule = c.in_ok-schedule.ensures;
  good = c.in_ok-good.ensures;
  marks = ap (λ (l : List Bool). length l) c.in_ok-pending.ensures
      ∙ (length-replicate c.nets.result false ∙ c.nets.ensures.count);
}

pub returns-clause-none : goal.returns-clause-none
returns-clause-none c = λ r.
    ap (λ (l : List Bool). get_or l r false) c.in_ok-pending.ensures ∙ none_marked c.nets.result r
