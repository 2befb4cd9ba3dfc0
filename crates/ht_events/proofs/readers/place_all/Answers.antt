use Rattle.std.proofs.Common.{ℕ, get_or, set, ◌∙◌, ap, arith}
use Rattle.std.proofs.lemmas.List.{length-set, get_or_default}
use Rattle.std.proofs.lemmas.List.Edits.{map_over_more}
use Rattle.ht_events.specs.FramePlans.{offset_among}
use Rattle.ht_events.proofs.OffsetLaws.{mapped_all}
use Rattle.ht_events.proofs.readers.place_all.Goals as goal

pub loop-i-preserved : goal.loop-i-preserved
loop-i-preserved c =
    let f : ℕ → ℕ = offset_among c.args.ranks.now c.args.dffs in
    let xs = c.args.items.now in
    let ys = c.loop-i.items in
    let i = c.loop-i.i in
    let v = get_or ys i 0 in
    let m = c.loop-i.invariant.long in
    let t = c.loop-i-test.true in
    record {
      long = length-set ys i c.offset_among.result ∙ m;
      same = ap (λ (n : ℕ). set ys i n) c.offset_among.ensures ∙ map_over_more f xs ys i v (omega (arith, t))
          c.loop-i.invariant.same (get_or_default ys i 0 v (omega (arith, m, t)));
    }

pub returns : goal.returns
returns c =
    let t = c.loop-i-test.false in
    mapped_all (offset_among c.args.ranks.now c.args.dffs) c.args.items.now c.loop-i.items c.loop-i.i
    (omega (arith, t)) c.loop-i.invariant.same
