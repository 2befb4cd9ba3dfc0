use Rattle.std.proofs.Common.{◌≡◌, ◌∙◌, false, refl, rules, true, sym, subst}
use Rattle.std.proofs.lemmas.List.{get_or-set_other, get_or-set_same}
use Rattle.std.proofs.lemmas.Result.{IfOk-weaker}
use Rattle.ht_proofs.specs.declared.grade.Grade.{Grade}
use Rattle.ht_proofs.specs.LaneGrades.{grade_at, no_grade}
use Rattle.ht_proofs.specs.Followers.{EndsAt, GoesThrough, ends_apart, ends_at_stem, firsts_if, takes_lane}
use Rattle.ht_proofs.proofs.FollowerLaws.{ends_told, joins_if, not_stem, nothing_kept}
use Rattle.ht_proofs.proofs.stems.Stems.needs_lane.Goals as goal

pub returns-then-not-self-clause-goes : goal.returns-then-not-self-clause-goes
returns-then-not-self-clause-goes c = takes_lane

pub returns-then-not-is_empty-clause-goes : goal.returns-then-not-is_empty-clause-goes
returns-then-not-is_empty-clause-goes c = takes_lane

pub returns-in-AtStem-clause-goes : goal.returns-in-AtStem-clause-goes
returns-in-AtStem-clause-goes c =
    let frame = c.args.batch.now.group in
    let stems = c.args.self.now in
    let found : stems.found ≡ true = search rules in
    let none = nothing_kept c.args.grades.now c.args.i c.index-grades-i.result c.entries.result.now c.is_empty.result
    c.requires.inside c.requires.undetected c.entries.ensures c.is_empty.ensures c.if-not-is_empty.false in
    let ends = subst (EndsAt frame c.args.fault) c.in-AtStem.is
    (ends_told frame c.args.self.now.arrivals c.args.fault c.fault-arrival.result c.requires.circuit
    (c.requires.good found) c.fault-arrival.ensures.shows c.fault-arrival.ensures.within) in
    IfOk-weaker c.is_first.result _ _
    (λ lane joins. ends_at_stem c.in-AtStem.net c.in-AtStem.value lane _ _ none ends
    (joins_if c.in-AtStem.net.0 c.in-AtStem.value c.args.i stems.found c.is_first.new.self.found stems.firsts.items
    stems.followers.items lane c.is_first.new.self.firsts.items c.is_first.new.self.followers.items found
    c.is_first.ensures.found joins))
    c.is_first.ensures.joins

pub returns : goal.returns
returns c =
    let frame = c.args.batch.now.group in
    let grades = c.args.grades.now in
    let i = c.args.i in
    let found : c.args.self.now.found ≡ true = search rules in
    let table = firsts_if c.args.self.now.found c.args.self.now.firsts.items in
    let followers = c.args.self.now.followers.items in
    let a = c.fault-arrival.result in
    let none = nothing_kept grades i c.index-grades-i.result c.entries.result.now c.is_empty.result c.requires.inside
    c.requires.undetected c.entries.ensures c.is_empty.ensures c.if-not-is_empty.false in
    let ends = ends_told frame c.args.self.now.arrivals c.args.fault a c.requires.circuit
    (c.requires.good found) c.fault-arrival.ensures.shows c.fault-arrival.ensures.within in
    record {
      goes = subst
          (λ (g : Grade). GoesThrough frame c.args.fault c.args.number i (grade_at grades i) table followers false g
          table followers)
          (sym (get_or-set_same grades i c.note_arrival.new.self no_grade c.requires.inside
          ∙ c.in_ok-note_arrival.ensures))
          (ends_apart a none ends (not_stem a c.in_default.not-AtStem));
      others = λ j other. get_or-set_other grades i j c.note_arrival.new.self no_grade other;
      table = refl;
      found = refl;
      arrivals = c.fault-arrival.ensures.same;
    }
