use Rattle.std.proofs.Common.{◌<◌, ◌+◌, [], length, ap, arith, refl}
use Rattle.std.proofs.lemmas.List.{get_or_read}
use Rattle.ht_tree.specs.declared.family_row.FamilyRow.{FamilyRow}
use Rattle.ht_families.proofs.JoinEachLaws.{not_true}
use Rattle.ht_families.proofs.RowLaws.{rise_by, rises_at}
use Rattle.ht_families.proofs.rows.names_flip_flops.Goals as goal

pub returns-then-rows-i-2 : goal.returns-then-rows-i-2
returns-then-rows-i-2 c =
    let d : FamilyRow = record { dff = 0; set = [] } in
    let i = c.loop-i.i in
    let more : i + 1 < length c.args.rows.now = let t = c.if-i-rows.true in omega (arith, t) in
    let one = get_or_read c.args.rows.now i c.index-rows-i-then-i-rows.result (omega (arith, more))
    c.index-rows-i-then-i-rows.is d in
    let two = get_or_read c.args.rows.now (i + 1) c.index-rows-i-then-i-rows-2.result more
    c.index-rows-i-then-i-rows-2.is d in (
      λ w. absurd (not_true w),
      λ all.
          let rise = rises_at c.args.rows.now i d all.0 more in
          let a = ap (λ (row : FamilyRow). row.dff) one in
          let b = ap (λ (row : FamilyRow). row.dff) two in
          let a' = ap (λ (row : FamilyRow). row.dff) c.index-rows-i-then-i-rows.is in
          let b' = ap (λ (row : FamilyRow). row.dff) c.index-rows-i-then-i-rows-2.is in
          let t = c.if-rows-i-2.true in
          absurd (omega (arith, rise, a, b, a', b', t)),
    )

pub returns : goal.returns
returns c =
    let t = c.loop-i-test.false in (
      λ w. (
        rise_by c.args.rows.now c.loop-i.i (omega (arith, t)) c.loop-i.invariant.rises,
        λ k d l. c.loop-i.invariant.known k d (omega (arith, l, t)),
      ),
      λ all. refl,
    )
