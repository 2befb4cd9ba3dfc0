use Rattle.std.proofs.Common.{◌∙◌, ℕ, List, get_or, ap, sym}
use Rattle.std.proofs.lemmas.Bool.{eq-eqb, eqb-true}
use Rattle.ht_proofs.specs.Detections.{place_at}
use Rattle.ht_verdicts.specs.Standing.{entry_at}
use Rattle.ht_files.proofs.SearchedLaws.{said_by_clauses}
use Rattle.ht_files.proofs.searched.find_said.Goals as goal

pub said-requires : goal.said-requires
said-requires c = record {
  listed = c.requires.listed;
  own =
      eq-eqb (get_or c.args.verdicts.now.representatives c.args.i 0) c.args.i
      (ap (λ (l : List ℕ). get_or l c.args.i 0) c.requires.representatives ∙ (sym c.of.ensures ∙ c.if-of-i.true));
}

pub returns-then-of-i : goal.returns-then-of-i
returns-then-of-i c = λ own. record {
  is = said_by_clauses (place_at c.args.verdicts.now.grader.places c.args.i) (entry_at c.args.verdicts.now c.args.i)
      c.said.result c.said.ensures.detected c.said.ensures.undetected;
  sayable = c.said.ensures.sayable;
}

pub returns-else-of-i : goal.returns-else-of-i
returns-else-of-i c = λ own. absurd (c.if-of-i.false (c.of.ensures
    ∙ (ap (λ (l : List ℕ). get_or l c.args.i 0) (sym c.requires.representatives) ∙ eqb-true _ _ own.own)))
