use Rattle.std.proofs.Common.{◌∙◌, sym, arith}
use Rattle.ht_relevant.proofs.DistanceLaws.{first_put, spread_under}
use Rattle.ht_relevant.proofs.NearLaws.{near_found}
use Rattle.ht_relevant.proofs.find.find_relevant.Goals as goal

pub spread-requires-clause-followed : goal.spread-requires-clause-followed
spread-requires-clause-followed c =
    (first_put _ c.in_ok-near.ensures c.in_ok-put_outputs.ensures.grown c.in_ok-put_states.ensures.grown).followed _ _

pub returns-clause-relevant : goal.returns-clause-relevant
returns-clause-relevant c = λ w valid ce fe ke apart counts.
    let e = c.in_ok-spread.ensures in
    let away = c.in_ok-away.ensures in
    let some = c.requires.some in
    let outputs = c.in_ok-put_outputs.ensures in
    let states = c.in_ok-put_states.ensures in
    let first = first_put _ c.in_ok-near.ensures outputs.grown states.grown in
    near_found w valid c.args.fault c.args.counted.now c.circuit-circuit.result.now c.in_ok-away.away
    c.put_outputs.new.near c.put_states.new.near c.spread.new.distances c.args.frames c.into_numbers.result.items
    (c.circuit-circuit.ensures ∙ sym ce) fe (omega (arith, some, ke)) (sym ke) (e.lower.frames ∙ first.frames)
    c.into_numbers.ensures (away.frames ∙ sym ke) first.zero states.grown e.lower
    (away.reach w ce fe ke apart) outputs.put states.put counts
    (spread_under (sym ce) (first.frames ∙ sym ke) e.spread)
