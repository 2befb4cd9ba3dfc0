use Rattle.std.proofs.Common.{◌≡◌, ◌∙◌, ◌++◌, ◌∷◌, [], List, length, refl, ap, sym, subst, arith}
use Rattle.ht_group.specs.GroupView.{FaultyMachine}
use Rattle.ht_group.specs.MachineWords.{IsWordIn, machine_but}
use Rattle.ht_group.specs.SharedFrames.{IsMorePending}
use Rattle.ht_group.specs.declared.shared_frame.SharedFrame.{SharedFrame}
use Rattle.ht_group.specs.declared.stuck_lines.StuckLines.{StuckLines}
use Rattle.ht_group.proofs.ChangeLaws.{lay_word, laid_machines, same_word, added_word, added_machine}
use Rattle.ht_group.proofs.machines.Machines.admit.Goals as goal
use Rattle.ht_group.proofs.machines.Machines.admit.Goals.{After-lay}

laid_word : (c : After-lay) → IsWordIn c.args.frame.now c.lay.new.self
laid_word c =
    let f = c.args.frame.now in
    lay_word f.circuit.now f.schedule f.good c.requires.frame.circuit c.requires.frame.schedule c.requires.frame.good
    f.pending c.args.self.now c.lay.new.self c.requires.word c.lay.ensures

same_count : (c : After-lay)
    → length c.lay.new.self.lines.faults.items ≡ length c.args.self.now.lines.faults.items
same_count c = ap (λ (l : StuckLines). length l.faults.items) c.lay.ensures.lines

pub add-requires-clause-words : goal.add-requires-clause-words
add-requires-clause-words c =
    let word = laid_word (goal.at.add-requires-clause-words c).After-lay in
    (word.laid c.lay.ensures.laid).source_count

pub add-requires-clause-plain : goal.add-requires-clause-plain
add-requires-clause-plain c =
    let at = (goal.at.add-requires-clause-plain c).After-lay in
    let word = laid_word at in
    (word.laid c.lay.ensures.laid).spare (length c.lay.new.self.lines.faults.items) (omega arith)
    (omega (arith, same_count at, c.requires.room))

pub returns-in_err-add-clause-word : goal.returns-in_err-add-clause-word
returns-in_err-add-clause-word c =
    let f = c.args.frame.now in
    let e = c.in_err-add.ensures in
    subst (λ (g : SharedFrame). IsWordIn g c.add.new.self) (sym e.idle)
    (same_word f.circuit.now f.schedule f.good f.pending c.lay.new.self c.add.new.self e.stuck e.err
    (laid_word (goal.at.returns-in_err-add-clause-word c).After-lay))

pub returns-in_err-add-clause-more : goal.returns-in_err-add-clause-more
returns-in_err-add-clause-more c =
    subst (λ (g : SharedFrame). IsMorePending c.args.frame.now g) (sym c.in_err-add.ensures.idle)
    (record { same = refl; marks = c.requires.frame.marks; more = λ r is. is })

pub returns-clause-word : goal.returns-clause-word
returns-clause-word c =
    let f = c.args.frame.now in
    let e = c.in_ok-add.ensures in
    let at = (goal.at.returns-clause-word c).After-lay in
    subst (λ (g : SharedFrame). IsWordIn g c.add.new.self) (sym e.frame)
    (added_word f.circuit.now f.schedule f.good f.pending c.add.new.frame.pending c.lay.new.self c.add.new.self
    c.args.fault c.args.diffs.now (laid_word at) c.lay.ensures.laid (omega (arith, same_count at, c.requires.room)) e.ok
    e.stuck)

pub returns-clause-more : goal.returns-clause-more
returns-clause-more c =
    let e = c.in_ok-add.ensures in
    record { same = e.frame; marks = e.ok.put.marks; more = e.ok.put.more }

pub returns-clause-ok : goal.returns-clause-ok
returns-clause-ok c =
    let f = c.args.frame.now in
    let e = c.in_ok-add.ensures in
    let at = (goal.at.returns-clause-ok c).After-lay in
    added_machine f.circuit.now f.schedule f.good f.pending c.add.new.frame.pending c.lay.new.self c.add.new.self
    c.args.fault c.args.diffs.now (laid_word at) c.lay.ensures.laid (omega (arith, same_count at, c.requires.room)) e.ok
    ∙ ap (λ (l : List FaultyMachine). l ++ machine_but f c.args.fault c.args.diffs.now ∷ [])
    (laid_machines f.circuit.now f.schedule f.good f.pending c.args.self.now c.lay.new.self c.requires.word
    c.lay.ensures)
