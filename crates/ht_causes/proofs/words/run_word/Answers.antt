use Rattle.std.proofs.Common.{◌+◌, ◌∙◌, ap, subst, arith}
use Rattle.ht_net.specs.Circuit.Netlist.{Netlist}
use Rattle.ht_causes.specs.declared.track.Track.{Track}
use Rattle.ht_causes.specs.Tracks.{AreAdded}
use Rattle.ht_causes.proofs.WordShownLaws.{word_run}
use Rattle.ht_causes.proofs.words.run_word.Goals as goal

pub compare_latches-requires-clause-empty : goal.compare_latches-requires-clause-empty
compare_latches-requires-clause-empty c = λ k less.
    c.compare_outputs.ensures.diffs k less
    ∙ ap (λ (x : Track). x.diffs) (c.requires.shown.later (c.args.from + k) (omega arith))

pub returns-clause-run : goal.returns-clause-run
returns-clause-run c =
    word_run c.args.circuit.now c.args.group.now.vector c.args.group.now.latches c.args.tracks.now c.args.leads.now
    c.args.t c.args.from c.args.count c.add_machines.new.group c.settle.new.self c.args.shown.now
    c.compare_outputs.new.shown c.compare_latches.new.shown
    (subst (λ (n : Netlist). AreAdded n c.args.group.now.vector c.args.group.now.latches c.args.tracks.now
    c.args.leads.now c.args.from c.args.count c.add_machines.new.group) c.requires.circuit
    c.in_ok-add_machines.ensures.added)
    c.in_ok-settle.ensures.ok c.compare_outputs.ensures c.in_ok-compare_latches.ensures c.requires.shown
