use Rattle.std.proofs.Common.{◌≡◌, ◌<◌, ◌∙◌, List, length, ap, refl, arith, true, false}
use Rattle.ht_lanes.specs.Lanes.{Lanes}
use Rattle.ht_group.specs.LaneRules.{rules_at, lane_env}
use Rattle.ht_group.specs.Overlays.{OverlayView}
use Rattle.ht_group.proofs.InLaneLaws.{lane_written, lane_unwritten}
use Rattle.ht_group.proofs.four_words.take_word.Goals as goal

pub returns : goal.returns
returns c =
    let old = c.args.machines.now.nets.words in
    let faults = c.args.machines.now.lines.faults.items in
    let x = c.args.net in
    let same = ap (λ (l : List Lanes). length l) c.words.ensures.words in
    let inside : c.args.net < length c.args.machines.now.nets.words =
    omega (arith, c.requires.net, c.words.ensures.count, same, c.requires.room.nets) in
    record {
      kept = record {
        lines = refl;
        sources = refl;
        good = ap (λ (o : OverlayView). o.good) c.set.ensures;
        laid = refl;
      };
      given = λ k below.
          ap (λ (o : OverlayView). lane_env k o.words x) c.set.ensures
          ∙ (lane_written old x c.stem-word.result inside k
          ∙ (c.stem-word.ensures k below ∙ ap ((rules_at faults k).stem x) (c.requires.value k below)));
      others = λ k y ne.
          ap (λ (o : OverlayView). lane_env k o.words y) c.set.ensures
          ∙ lane_unwritten old x c.stem-word.result k y ne;
      unchanged = λ is. let bad : true ≡ false = is in cc;
    }
