use Rattle.std.proofs.Common.{Vec, Global, true, sym, ◌∙◌, ap}
use Rattle.ht_cubes.specs.declared.signed_var.SignedVar.{SignedVar}
use Rattle.ht_cubes.specs.Formula.{is_constant}
use Rattle.ht_cubes.proofs.PieceLaws.{none_more, plain_none, kept_plain, left_plain}
use Rattle.ht_cubes.proofs.formula.push_plain.Goals as goal
use Rattle.ht_cubes.proofs.formula.push_plain.Goals.{then-not-fails+in_ok-push, else-not-fails}

pub returns-then-holds : goal.returns-then-holds
returns-then-holds c = plain_none c.args.clause.now c.literals.literal-index _ c.args.rows.now c.literals-test.true
    (sym c.is_constant-holds.ensures ∙ c.if-holds.true)

pub literals-preserved : goal.literals-preserved
literals-preserved c =
    let clause = c.args.clause.now in
    let i = c.literals.literal-index in
    record {
      none = none_more (is_constant true) clause i _ c.literals-test.true c.literals.invariant.none
          (sym c.is_constant-holds.ensures ∙ c.if-holds.false);
      plain = elim c.if-not-fails.branch [
        | then-not-fails+in_ok-push w ↦ kept_plain clause i _ c.literals.plain.items c.if-not-fails.plain.items
            c.literals-test.true c.literals.invariant.plain (sym c.is_constant-fails.ensures ∙ w.if-not-fails.true)
            (ap (λ (v : Vec SignedVar Global). v.items) w.plain-is ∙ w.in_ok-push.ensures.items)
        | else-not-fails w ↦ left_plain clause i _ c.literals.plain.items c.if-not-fails.plain.items
            c.literals-test.true c.literals.invariant.plain (sym c.is_constant-fails.ensures ∙ w.if-not-fails.false)
            (ap (λ (v : Vec SignedVar Global). v.items) w.plain-is)
      ];
    }
