use Rattle.std.proofs.Common.{◌≡◌, ◌+◌, ◌-◌, ◌∙◌, [], ℕ, List, Some, length, get_or, sym, ap, subst, arith}
use Rattle.std.specs.List.{slice_get}
use Rattle.ht_net.specs.declared.fault.Fault.{Fault}
use Rattle.ht_net.specs.Circuit.Netlist.{Netlist}
use Rattle.ht_net.specs.Detect.Detection.{terns_of}
use Rattle.ht_stems.specs.Arrivals.{HasLine}
use Rattle.ht_group.specs.GoodFrames.{AreFrameValues}
use Rattle.ht_group.specs.GroupView.{GroupView}
use Rattle.ht_compact.specs.declared.runners.Runners.{Runners}
use Rattle.ht_compact.specs.Runs.{AreRunners, HaveBegun, good_frame}
use Rattle.ht_compact.proofs.RunLaws.{has_lines, known_values, latches_long, passed}
use Rattle.ht_compact.proofs.runners.Runners.pass.Goals as goal

pub start_frame-requires-clause-latches : goal.start_frame-requires-clause-latches
start_frame-requires-clause-latches c =
    latches_long c.args.frame.now.group.circuit c.args.graded.now c.args.part.from c.args.part.to
    (c.args.t - c.args.part.to) c.args.self.now c.requires.run

pub start_frame-requires-clause-known : goal.start_frame-requires-clause-known
start_frame-requires-clause-known c = λ yes d.
    let circuit = c.args.frame.now.group.circuit in
    let graded = c.args.graded.now in
    let to = c.args.part.to in
    let n = c.args.t - to in
    let at : to + n ≡ c.args.t = omega (arith, c.requires.order) in
    subst (λ (k : ℕ). AreFrameValues circuit (terns_of (get_or graded.vectors.list k [])) c.args.self.now.latches.items
    (get_or graded.moments.items k d).values.items) at
    (known_values circuit graded c.args.part.from to n c.args.self.now c.requires.may
    (omega (arith, at, c.requires.inside)) c.requires.run yes d).1

pub step-requires-clause-lines : goal.step-requires-clause-lines
step-requires-clause-lines c = λ j fault has.
    let circuit = c.args.frame.now.group.circuit in
    let to = c.args.part.to in
    let same = ap (λ (r : Runners). r.faults.items) c.in_ok-start_frame.ensures.begun.same in
    subst (λ (n : Netlist). HasLine n fault.site)
    (sym (ap (λ (g : GroupView). g.circuit) c.in_ok-start_frame.ensures.frame.group))
    (has_lines circuit c.args.graded.now c.args.part.from to (c.args.t - to) c.args.self.now c.requires.may
    c.requires.run j fault (subst (λ (l : List Fault). slice_get l j ≡ Some fault) same has))

pub step-requires-clause-latches : goal.step-requires-clause-latches
step-requires-clause-latches c =
    let to = c.args.part.to in
    ap (λ (r : Runners). length r.latches.items) c.in_ok-start_frame.ensures.begun.same
    ∙ (latches_long c.args.frame.now.group.circuit c.args.graded.now c.args.part.from to (c.args.t - to)
    c.args.self.now c.requires.run
    ∙ ap (λ (n : Netlist). length n.dffs)
    (sym (ap (λ (g : GroupView). g.circuit) c.in_ok-start_frame.ensures.frame.group)))

pub returns-clause-run : goal.returns-clause-run
returns-clause-run c =
    let circuit = c.args.frame.now.group.circuit in
    let graded = c.args.graded.now in
    let self = c.args.self.now in
    let mid = c.start_frame.new.self in
    let frame = c.start_frame.new.frame.group in
    let from = c.args.part.from in
    let to = c.args.part.to in
    let n = c.args.t - to in
    let at : to + n ≡ c.args.t = omega (arith, c.requires.order) in
    let next : n + 1 ≡ c.args.t + 1 - to = omega (arith, c.requires.order) in
    let begun : HaveBegun circuit (get_or graded.vectors.list (to + n) []) self mid =
    subst (λ (k : ℕ). HaveBegun circuit (get_or graded.vectors.list k []) self mid) (sym at)
    c.in_ok-start_frame.ensures.begun in
    let frame_is : frame ≡ good_frame circuit (get_or graded.vectors.list (to + n) []) self.latches.items =
    subst (λ (k : ℕ). frame ≡ good_frame circuit (get_or graded.vectors.list k []) self.latches.items) (sym at)
    c.in_ok-start_frame.ensures.frame.group in
    subst (λ (k : ℕ). AreRunners circuit graded from to k c.step.new.self) next
    (passed circuit graded from to n self mid c.step.new.self frame c.requires.may
    (omega (arith, at, c.requires.inside)) c.requires.run begun frame_is c.in_ok-step.ensures.passed)
