use Rattle.std.proofs.Common.{◌++◌, ◌∷◌, [], List, Option, Some, None, Bool, length, get_or, refl, ◌∙◌, ap}
use Rattle.std.proofs.lemmas.Bool.{both_ways, false≢true}
use Rattle.std.proofs.lemmas.List.{length-set}
use Rattle.ht_trail.proofs.TrailLaws.{later_now, later_more}
use Rattle.ht_cubes.proofs.HintLaws.{row_below, left_below, row_stands, row_open, hint_known, hint_open, hint_next, hint_last, hints_end}
use Rattle.ht_cubes.proofs.steps.clash.Goals as goal

pub hints-init : goal.hints-init
hints-init c = record {
  long = refl;
  later = later_now c.args.values.now;
  followed = λ facts say. (facts, say, ((λ h. h), (λ h. h)));
}

pub stands-requires : goal.stands-requires
stands-requires c = row_below c.args.rows.now (get_or c.args.hints.now c.hints.i 0) (length c.args.values.now.values)
    c.row.result.now c.hints.values.values c.values.result.now c.requires.below c.hints.invariant.long
    (c.is_number.ensures.0 c.if-not-is_number.false) c.row.ensures c.values.ensures

pub set-requires : goal.set-requires
set-requires c = left_below c.args.rows.now (get_or c.args.hints.now c.hints.i 0) (length c.args.values.now.values)
    c.row.result.now c.hints.values.values c.values.result.now c.requires.below c.hints.invariant.long
    (c.is_number.ensures.0 c.if-not-is_number.false) c.row.ensures c.values.ensures c.in-Left.literal c.in-Left.ensures

pub returns-then-not-is_number-clause-exact : goal.returns-then-not-is_number-clause-exact
returns-then-not-is_number-clause-exact c facts say =
    let f = c.hints.invariant.followed facts say in (
      (λ wrong. absurd (false≢true wrong)),
      (λ h. absurd (both_ways _ c.if-not-is_number.true (c.is_number.ensures.1
          (hint_known c.args.rows.now facts f.0 c.args.hints.now c.hints.i c.hints.values.values f.1 f.2
          c.hints-test.true h)))),
    )

pub returns-in-Failed-clause-exact : goal.returns-in-Failed-clause-exact
returns-in-Failed-clause-exact c facts say =
    let f = c.hints.invariant.followed facts say in
    let known = c.is_number.ensures.0 c.if-not-is_number.false in
    hint_last c.args.rows.now facts f.0 c.args.hints.now c.hints.i (length c.args.hints.now) c.hints.values.values f.1 f.2
    c.hints-test.true known
    (row_stands c.args.rows.now (get_or c.args.hints.now c.hints.i 0) (length c.args.values.now.values)
    c.row.result.now c.hints.values.values c.values.result.now c.requires.below c.hints.invariant.long known c.row.ensures
    c.values.ensures None c.in-Failed.ensures) refl

pub returns-in-Open-clause-exact : goal.returns-in-Open-clause-exact
returns-in-Open-clause-exact c facts say =
    let f = c.hints.invariant.followed facts say in
    let known = c.is_number.ensures.0 c.if-not-is_number.false in (
      (λ wrong. absurd (false≢true wrong)),
      (λ h. absurd
          (hint_open c.args.rows.now facts f.0 c.args.hints.now c.hints.i c.hints.values.values f.1 f.2 c.hints-test.true
          (row_open c.args.rows.now (get_or c.args.hints.now c.hints.i 0) (length c.args.values.now.values)
          c.row.result.now c.hints.values.values c.values.result.now c.requires.below c.hints.invariant.long known c.row.ensures
          c.values.ensures c.in-Open.ensures) h)),
    )

pub returns-in_err-set-in-Left-clause-later : goal.returns-in_err-set-in-Left-clause-later
returns-in_err-set-in-Left-clause-later c =
    later_more c.args.values.now c.hints.values c.set.new.self c.hints.invariant.later c.set.ensures.later

pub hints-preserved : goal.hints-preserved
hints-preserved c =
    let known = c.is_number.ensures.0 c.if-not-is_number.false in
    let n = get_or c.args.hints.now c.hints.i 0 in
    let l = c.in-Left.literal in
    let low = left_below c.args.rows.now n (length c.args.values.now.values) c.row.result.now c.hints.values.values
    c.values.result.now c.requires.below c.hints.invariant.long known c.row.ensures c.values.ensures l c.in-Left.ensures in
    let so = row_stands c.args.rows.now n (length c.args.values.now.values) c.row.result.now c.hints.values.values
    c.values.result.now c.requires.below c.hints.invariant.long known c.row.ensures c.values.ensures (Some l)
    c.in-Left.ensures in
    record {
      long = ap (λ (v : List (Option Bool)). length v) c.in_ok-set-in-Left.ensures.values
          ∙ (length-set c.hints.values.values l.variable (Some l.value) ∙ c.hints.invariant.long);
      later = later_more c.args.values.now c.hints.values c.set.new.self c.hints.invariant.later c.set.ensures.later;
      followed = λ facts say.
          let f = c.hints.invariant.followed facts say in
          let next = hint_next c.args.rows.now facts f.0 c.args.hints.now c.hints.i c.hints.values.values
          c.set.new.self.values l f.1 f.2 c.hints-test.true known so low c.in_ok-set-in-Left.ensures.values in
          (f.0 ++ l ∷ [], next.0, next.1);
    }

pub returns-clause-exact : goal.returns-clause-exact
returns-clause-exact c facts say =
    let f = c.hints.invariant.followed facts say in (
      (λ wrong. absurd (false≢true wrong)),
      (λ h. absurd
          (hints_end c.args.rows.now facts f.0 c.args.hints.now c.hints.i f.2 c.hints-test.false h)),
    )
