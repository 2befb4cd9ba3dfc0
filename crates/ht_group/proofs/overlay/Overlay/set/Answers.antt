use Rattle.std.specs.Prelude.{set}
use Rattle.std.proofs.Common.{◌≡◌, ◌∙◌, List, Bool, true, false, length, get_or, ap, sym, arith, inl, inr}
use Rattle.std.proofs.lemmas.Bool.Decides.{eqb_tells}
use Rattle.std.proofs.lemmas.List.{length-set, get_or-set_same, get_or-set_other}
use Rattle.ht_group.proofs.InLaneLaws.{lane_unwritten}
use Rattle.ht_group.proofs.overlay.Overlay.set.Goals as goal

pub invariant_of-self : goal.invariant_of-self
invariant_of-self c =
    let x = c.args.x in
    let words = c.self.inside.words.items in
    let written = c.self.inside.written in
    record {
      few = c.self.invariant.few;
      count = length-set words x c.args.word ∙ c.self.invariant.count;
      marks = ap (λ (l : List Bool). length l) c.insert.ensures ∙ (length-set written x true ∙ c.self.invariant.marks);
      rest = λ y inside idle k below.
          let mark = sym (ap (λ (l : List Bool). get_or l y false) c.insert.ensures) ∙ idle in
          elim (eqb_tells y c.args.x) [
            | inl p ↦
                let here = ap (λ n. get_or (set written x true) n false) p.1
                ∙ get_or-set_same written x true false (omega (arith, inside, p.1, c.self.invariant.marks)) in
                let bad : true ≡ false = sym here ∙ mark in cc
            | inr p ↦
                lane_unwritten words x c.args.word k y p.1
                ∙ c.self.invariant.rest y inside (sym (get_or-set_other written x y true false p.1) ∙ mark) k below
          ];
    }
