use Rattle.std.proofs.Common.{◌≡◌, ◌<◌, ◌∙◌, ap, sym, arith, length, List}
use Rattle.ht_lanes.specs.Lanes.{Lanes, lane}
use Rattle.ht_group.specs.LaneRules.{rules_at, in_lane, lane_env, given_value}
use Rattle.ht_group.specs.Overlays.{OverlayView}
use Rattle.ht_group.proofs.InLaneLaws.{lane_read, lane_written, lane_unwritten}
use Rattle.ht_group.proofs.events.recompute.Goals as goal

pub returns-then-same-clause-given : goal.returns-then-same-clause-given
returns-then-same-clause-given c k below =
    let x = c.args.net in
    let given = λ (l : List Lanes). given_value c.args.circuit.now (rules_at c.args.lines.now.faults.items k)
    (in_lane k c.args.sources.now) (lane_env k l) c.args.net in
    let inside : c.args.net < length c.words-2.result.now =
    omega (arith, c.requires.net, c.words-2.ensures.count, c.requires.nets) in
    let read = lane_read c.words-2.result.now c.args.net c.index-words-net.result inside c.index-words-net.is k in
    let same : c.evaluate-word.result ≡ c.index-words-net.result = c.same.ensures.0 c.if-same.true in
    sym (ap (λ (w : Lanes). lane w k) same ∙ (read ∙ ap (λ (l : List Lanes). lane_env k l x) c.words-2.ensures.words))
    ∙ (c.evaluate-word.ensures k below ∙ ap given c.words.ensures.words)

pub returns-clause-given : goal.returns-clause-given
returns-clause-given c k below =
    let old = c.args.nets.now.words in
    let given = λ (l : List Lanes). given_value c.args.circuit.now (rules_at c.args.lines.now.faults.items k)
    (in_lane k c.args.sources.now) (lane_env k l) c.args.net in
    let same = ap (λ (l : List Lanes). length l) c.words.ensures.words in
    let inside : c.args.net < length c.args.nets.now.words =
    omega (arith, c.requires.net, c.words.ensures.count, same, c.requires.nets) in
    ap (λ (o : OverlayView). lane_env k o.words c.args.net) c.set.ensures
    ∙ (lane_written old c.args.net c.evaluate-word.result inside k
    ∙ (c.evaluate-word.ensures k below ∙ ap given c.words.ensures.words))

pub returns-clause-others : goal.returns-clause-others
returns-clause-others c k x ne =
    ap (λ (o : OverlayView). lane_env k o.words x) c.set.ensures
    ∙ lane_unwritten c.args.nets.now.words c.args.net c.evaluate-word.result k x ne
