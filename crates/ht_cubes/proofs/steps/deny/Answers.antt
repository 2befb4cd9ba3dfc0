use Rattle.std.proofs.Common.{arith, ◌≡◌, ◌+◌, ◌<◌, ℕ, List, length, map, get_or, set, take, Option, Some, None, Bool, false, refl, sym, ◌∙◌, ap, subst}
use Rattle.std.proofs.lemmas.Bool.{false≢true}
use Rattle.std.proofs.lemmas.List.{take_all, length-set}
use Rattle.std.proofs.lemmas.List.Elements.{Contains-get_or}
use Rattle.ht_trail.specs.Trails.{CellsState, IsLater}
use Rattle.ht_trail.proofs.TrailLaws.{later_now, later_more}
use Rattle.ht_cubes.specs.declared.signed_var.SignedVar.{SignedVar}
use Rattle.ht_cubes.specs.Formula.{complement}
use Rattle.ht_cubes.specs.Values.{SayFacts}
use Rattle.ht_cubes.proofs.StandingLaws.{same_bit, other_value}
use Rattle.ht_cubes.proofs.ClashLaws.{deny_opposites, deny_plain, deny_again, deny_more}
use Rattle.ht_cubes.proofs.steps.deny.Goals as goal
use Rattle.ht_cubes.proofs.steps.deny.Goals.{in-Some+else-value-literal, in-None+in_ok-set-in-None}

abbrev none : SignedVar
none = record { variable = 0; value = false }

pub loop-literal-init : goal.loop-literal-init
loop-literal-init c = record { long = refl; later = later_now c.args.values.now; say = c.requires.clear }

pub returns-then-value-literal-clause-plain : goal.returns-then-value-literal-clause-plain
returns-then-value-literal-clause-plain c =
    let l = get_or c.args.clause.now c.loop-literal.literal-index none in (
      (λ e. absurd (false≢true e)),
      (λ plain. absurd (deny_opposites c.args.clause.now c.loop-literal.literal-index
          c.loop-literal.values.values l c.loop-literal.invariant.say
          (sym (c.get.ensures None) ∙ (c.in-Some.is ∙ ap Some (same_bit c.in-Some.value _ c.if-value-literal.true)))
          (Contains-get_or c.args.clause.now c.loop-literal.literal-index none c.loop-literal-test.true) plain)),
    )

pub get-requires : goal.get-requires
get-requires c =
    let e = c.loop-literal.invariant.long in
    let b = c.requires.below c.loop-literal.literal-index none c.loop-literal-test.true in omega (arith, e, b)

pub set-requires : goal.set-requires
set-requires c =
    let e = c.loop-literal.invariant.long in
    let b = c.requires.below c.loop-literal.literal-index none c.loop-literal-test.true in omega (arith, e, b)

pub returns-in_err-set-in-None-clause-later : goal.returns-in_err-set-in-None-clause-later
returns-in_err-set-in-None-clause-later c =
    later_more c.args.values.now c.loop-literal.values c.set.new.self c.loop-literal.invariant.later c.set.ensures.later

pub loop-literal-preserved : goal.loop-literal-preserved
loop-literal-preserved c =
    let i = c.loop-literal.literal-index in
    let clause = c.args.clause.now in
    let l = get_or clause i none in
    let old = c.loop-literal.values in
    let inside = c.loop-literal-test.true in
    let L : CellsState (Option Bool) → Type 0 = λ v. length v.values ≡ length c.args.values.now.values in
    let M : CellsState (Option Bool) → Type 0 = λ v. IsLater c.args.values.now v in
    let S : CellsState (Option Bool) → Type 0 = λ v. SayFacts (map complement (take (i + 1) clause)) v.values in
    elim c.match-get.branch [
      | in-Some+else-value-literal w ↦
          record {
            long = subst L (sym w.values-is) c.loop-literal.invariant.long;
            later = subst M (sym w.values-is) c.loop-literal.invariant.later;
            say = subst S (sym w.values-is) (deny_again clause i none old.values inside c.loop-literal.invariant.say
                (sym (c.get.ensures None) ∙ (w.in-Some.is ∙ ap Some (other_value w.in-Some.value _ w.if-value-literal.false))));
          }
      | in-None+in_ok-set-in-None w ↦
          let V : List (Option Bool) → Type 0 = λ v. SayFacts (map complement (take (i + 1) clause)) v in
          let low : l.variable < length old.values =
          (let e = c.loop-literal.invariant.long in let b = c.requires.below i none inside in omega (arith, e, b)) in
          record {
            long = subst L (sym w.values-is) (long_set old.values _ _ w.set.new.self.values w.in_ok-set-in-None.ensures.values
                ∙ c.loop-literal.invariant.long);
            later = subst M (sym w.values-is) (later_more c.args.values.now old w.set.new.self
                c.loop-literal.invariant.later w.set.ensures.later);
            say = subst S (sym w.values-is) (subst V (sym w.in_ok-set-in-None.ensures.values)
                (deny_more clause i none old.values inside c.loop-literal.invariant.say low
                (sym (c.get.ensures None) ∙ w.in-None.is)));
          }
    ]
  where
    long_set : (xs : List (Option Bool)) (i : ℕ) (v : Option Bool) (ys : List (Option Bool))
        → ys ≡ set xs i v → length ys ≡ length xs
    long_set xs i v ys e = ap (λ (l : List (Option Bool)). length l) e ∙ length-set xs i v

said_all : (c : goal.After-loop-literal) → SayFacts (map complement c.args.clause.now) c.loop-literal.values.values
said_all c =
    let P : List SignedVar → Type 0 = λ l. SayFacts (map complement l) c.loop-literal.values.values in
    subst P (take_all c.loop-literal.literal-index c.args.clause.now (omega arith)) c.loop-literal.invariant.say

pub returns-clause-plain : goal.returns-clause-plain
returns-clause-plain c = ((λ e. deny_plain c.args.clause.now c.loop-literal.values.values (said_all c)), (λ h. refl))

pub returns-clause-denied : goal.returns-clause-denied
returns-clause-denied c _ = said_all c
