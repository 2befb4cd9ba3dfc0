use Rattle.ht_stems.proofs.FaultFrames.{stem_shows}
use Rattle.ht_stems.proofs.theorems.forced_stem_is_the_stem_fault.Goals as goal

pub returns : goal.returns
returns t = stem_shows
