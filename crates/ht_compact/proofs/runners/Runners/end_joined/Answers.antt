use Rattle.std.proofs.Common.{◌≡◌, ◌∙◌, List, rules, refl, sym, ap, subst, length}
use Rattle.std.specs.List.{filter}
use Rattle.std.specs.Vec.{with_items}
use Rattle.std.proofs.lemmas.List.{length-map, with_items_is}
use Rattle.ht_proofs.specs.declared.grade.Grade.{Grade}
use Rattle.ht_proofs.specs.Undetected.{is_undetected, verdicts_of}
use Rattle.ht_proofs.proofs.UndetectedLaws.{kept_after, left_after, listed_known}
use Rattle.ht_compact.specs.declared.runners.Runner.{Runner}
use Rattle.ht_compact.specs.Runs.{SomeJoined}
use Rattle.ht_compact.proofs.RunLaws.{kept_joined}
use Rattle.ht_compact.proofs.runners.Runners.end_joined.Goals as goal

pub join_each-requires-clause-undetected : goal.join_each-requires-clause-undetected
join_each-requires-clause-undetected c =
    let grades = c.args.self.now.grades.items in
    listed_known (verdicts_of grades) c.deref.result.now (length c.deref_mut.result.now)
    (c.deref.ensures.value ∙ c.requires.listed)
    (length-map grades (λ (g : Grade). g.verdict) ∙ ap (λ (l : List Grade). length l) (sym c.deref_mut.ensures.value))

pub returns : goal.returns
returns c =
    let histories = c.args.histories.now in
    let t = c.args.t in
    let self = c.args.self.now in
    let grades = with_items self.grades c.join_each.new.grades in
    let runners = with_items self.runners c.join_each.new.runners in
    let grades_are : grades.items ≡ c.join_each.new.grades =
    with_items_is self.grades c.join_each.new.grades (search rules) in
    let runners_are : runners.items ≡ c.join_each.new.runners =
    with_items_is self.runners c.join_each.new.runners (search rules) in
    let some : SomeJoined histories t self.grades.items grades.items self.runners.items runners.items =
    subst (λ (l : List Grade). SomeJoined histories t self.grades.items l self.runners.items runners.items)
    (sym grades_are)
    (subst (λ (l : List Runner). SomeJoined histories t self.grades.items c.join_each.new.grades self.runners.items l)
    (sym runners_are)
    (subst (λ (l : List Grade). SomeJoined histories t l c.join_each.new.grades self.runners.items
    c.join_each.new.runners) c.deref_mut.ensures.value
    (subst (λ (l : List Runner). SomeJoined histories t c.deref_mut.result.now c.join_each.new.grades l
    c.join_each.new.runners) c.deref_mut-2.ensures.value c.join_each.ensures))) in
    record {
      latches = refl;
      joined = refl;
      moments = refl;
      faults = refl;
      some = some;
      listed = left_after (verdicts_of self.grades.items) grades.items self.undetected.items
          c.drop_ended.new.numbers.items
          (length-map self.grades.items (λ (g : Grade). g.verdict) ∙ sym some.grades) c.requires.listed
          (kept_after (verdicts_of self.grades.items) self.grades.items grades.items refl
          (kept_joined histories t self.grades.items grades.items self.runners.items runners.items some
          c.requires.each))
          (subst (λ (l : List Grade). c.drop_ended.new.numbers.items
          ≡ filter (is_undetected (verdicts_of l)) self.undetected.items) c.deref-2.ensures.value
          c.drop_ended.ensures);
    }
