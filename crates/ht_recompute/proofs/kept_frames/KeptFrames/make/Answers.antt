use Rattle.ht_recompute.proofs.kept_frames.KeptFrames.make.Goals as goal

pub invariant_of-self : goal.invariant_of-self
invariant_of-self c = record {
  schedule = c.self.invariant.schedule;
  frames = c.make_frames.ensures.frames c.self.inside.schedule.value c.self.invariant.schedule c.self.invariant.frames;
}
