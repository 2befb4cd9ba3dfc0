use Rattle.std.proofs.Common.{◌∙◌, sym}
use Rattle.ht_relevant.proofs.DistanceLaws.{first_put, spread_under}
use Rattle.ht_relevant.proofs.NearLaws.{away_found}
use Rattle.ht_relevant.proofs.away.find_away.Goals as goal

pub spread-requires-clause-followed : goal.spread-requires-clause-followed
spread-requires-clause-followed c =
    (first_put _ c.in_ok-away.ensures c.in_ok-begin_line.ensures.grown c.in_ok-begin_latches.ensures.grown).followed _ _

pub returns-clause-reach : goal.returns-clause-reach
returns-clause-reach c = λ w ce fe ke apart.
    let e = c.in_ok-spread.ensures in
    let line = c.in_ok-begin_line.ensures in
    let latches = c.in_ok-begin_latches.ensures in
    let first = first_put _ c.in_ok-away.ensures line.grown latches.grown in
    away_found w c.args.fault c.args.apart.now c.circuit-circuit.result.now c.begin_line.new.away
    c.begin_latches.new.away c.spread.new.distances (c.circuit-circuit.ensures ∙ sym ce) fe first.zero latches.grown
    e.lower line.begun latches.begun apart (spread_under (sym ce) (first.frames ∙ sym ke) e.spread)
