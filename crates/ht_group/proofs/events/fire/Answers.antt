use Rattle.std.proofs.Common.{◌∙◌, ℕ, [], ap, sym, subst, get_or, length, List, Bool, arith, inl, inr, false}
use Rattle.std.specs.List.{Contains}
use Rattle.std.proofs.lemmas.Bool.{cases_Bool}
use Rattle.std.proofs.lemmas.List.{get_or-set_other, length-set}
use Rattle.ht_group.proofs.EventLaws.{apart_by_readers, not_touched}
use Rattle.ht_events.proofs.ScheduleLaws.{readers_later, readers_known, touched_as_before, rank_taken}
use Rattle.ht_group.proofs.events.fire.Goals as goal

pub touch_if-requires : goal.touch_if-requires
touch_if-requires c =
    let marks = ap (λ (l : List Bool). length l) c.remove.ensures in
    let same = length-set c.args.pending.now c.args.rank false in
    λ k d inside.
    let known = readers_known c.args.circuit.now c.args.schedule.now c.requires.schedule c.args.net
    c.row.result.now c.row.ensures k d inside in
    omega (arith, known, marks, same, c.requires.marks)

pub returns-clause-marks : goal.returns-clause-marks
returns-clause-marks c =
    let s = c.args.schedule.now in
    let old = c.args.pending.now in
    let new = c.touch_if.new.pending in
    let later = readers_later c.args.circuit.now s c.requires.schedule c.args.net c.row.result.now c.row.ensures
    c.args.rank c.requires.rank c.requires.net in
    let as_before = touched_as_before old c.remove.new.self new c.row.result.now c.args.rank c.remove.ensures
    c.touch_if.ensures.rest in
    record {
      marks = c.touch_if.ensures.marks
          ∙ (ap (λ (l : List Bool). length l) c.remove.ensures ∙ length-set old c.args.rank false);
      taken = rank_taken old c.remove.new.self new c.row.result.now c.args.rank c.remove.ensures c.touch_if.ensures.rest
          (omega (arith, c.requires.rank, c.requires.marks)) (later c.args.rank (omega arith));
      earlier = λ r below. as_before r (omega (arith, below)) (later r (omega (arith, below)));
      idle = λ r ne is. elim (cases_Bool c.args.changed) [
        | inl told ↦ sym (as_before r ne (not_touched new c.row.result.now (c.touch_if.ensures.all told) r is)) ∙ is
        | inr same ↦ sym (get_or-set_other old c.args.rank r false false ne)
            ∙ (sym (ap (λ (l : List Bool). get_or l r false) (c.touch_if.ensures.unchanged same ∙ c.remove.ensures))
            ∙ is)
      ];
      apart = λ told r within is.
          apart_by_readers c.args.circuit.now s c.requires.schedule r (get_or s.order.items c.args.rank 0) within
          (λ has. not_touched new c.row.result.now (c.touch_if.ensures.all told) r is
          (subst (λ (l : List ℕ). Contains l r)
          (sym (c.row.ensures ∙ ap (λ (n : ℕ). get_or s.readers n []) c.requires.net)) has));
    }
