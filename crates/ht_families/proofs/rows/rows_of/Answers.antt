use Rattle.std.proofs.Common.{◌≡◌, ◌≢◌, ◌<◌, ◌+◌, ◌∙◌, [], ap, sym, subst, arith, length, List, Vec, Global}
use Rattle.std.proofs.lemmas.Bool.{false≢true}
use Rattle.std.proofs.lemmas.List.{get_or_read}
use Rattle.std.proofs.lemmas.List.Elements.{All-weaker}
use Rattle.ht_tern.specs.declared.tern.Tern.TheVariants.{Zero}
use Rattle.ht_pairs.specs.Pairs.{set_of}
use Rattle.ht_tree.specs.declared.family_row.FamilyRow.{FamilyRow}
use Rattle.ht_tree.specs.Record.FamilyRows.{start_set}
use Rattle.ht_families.proofs.RowsOfLaws.{AreRows, IsOwnRow, ended, pushed, skipped, start_read}
use Rattle.ht_families.proofs.rows.rows_of.Goals.{then-not-alone+in_ok-push, else-not-alone}
use Rattle.ht_families.proofs.rows.rows_of.Goals as goal

pub loop-j-preserved : goal.loop-j-preserved
loop-j-preserved c =
    let start = c.args.start.now in
    let family = c.args.family.now in
    let j = c.loop-j.j in
    let inside = c.loop-j-test.true in
    let n = c.requires.start in
    let set = get_or_read family j c.index-family-j.result inside c.index-family-j.is [] in
    let alone = start_read start j Zero c.single.result (omega (arith, inside, n)) c.single.ensures in
    elim c.if-not-alone.branch [
      | then-not-alone+in_ok-push w ↦
          subst (λ (rows : List FamilyRow). AreRows start family rows (j + 1))
          (sym (ap (λ (v : Vec FamilyRow Global). v.items) w.rows-is ∙ w.in_ok-push.ensures.items))
          (pushed start family c.loop-j.rows.items j (record { dff = j; set = c.index-family-j.result })
          c.loop-j.invariant (λ i. j) set (record {
            more = λ e. false≢true (sym w.if-not-alone.true ∙ c.eq-alone.ensures.same_members.1 (e ∙ sym alone));
            listed = w.is_listed_in_order.ensures;
            some = w.is_single.ensures.nonempty;
          }))
      | else-not-alone w ↦
          subst (λ (v : Vec FamilyRow Global). AreRows start family v.items (j + 1)) (sym w.rows-is)
          (skipped start family c.loop-j.rows.items j c.loop-j.invariant
          (sym set ∙ (c.eq-alone.ensures.same_members.0 w.if-not-alone.false ∙ alone)))
    ]

pub returns-clause-family : goal.returns-clause-family
returns-clause-family c =
    ended c.args.start.now c.args.family.now c.loop-j.rows.items c.loop-j.j c.loop-j.invariant c.loop-j-test.false
    c.requires.start

pub returns-clause-more : goal.returns-clause-more
returns-clause-more c =
    All-weaker (IsOwnRow c.args.start.now) (λ (row : FamilyRow). row.set ≢ start_set c.args.start.now row.dff)
    (λ row own. own.more) c.loop-j.rows.items c.loop-j.invariant.own

pub returns-clause-listed : goal.returns-clause-listed
returns-clause-listed c =
    All-weaker (IsOwnRow c.args.start.now) (λ (row : FamilyRow). row.set ≡ set_of row.set) (λ row own. own.listed)
    c.loop-j.rows.items c.loop-j.invariant.own

pub returns-clause-some : goal.returns-clause-some
returns-clause-some c =
    All-weaker (IsOwnRow c.args.start.now) (λ (row : FamilyRow). 0 < length row.set) (λ row own. own.some)
    c.loop-j.rows.items c.loop-j.invariant.own
