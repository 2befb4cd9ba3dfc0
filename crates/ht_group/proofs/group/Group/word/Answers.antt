use Rattle.std.proofs.Common.{◌∙◌, length, ap, arith}
use Rattle.ht_net.specs.Circuit.Netlist.{net_count}
use Rattle.ht_group.specs.GroupView.{GroupView}
use Rattle.ht_group.specs.declared.machines.Machines.{Machines}
use Rattle.ht_group.proofs.GroupLaws.{used_word, word_inside, word_room, word_read, word_value, word_spare}
use Rattle.ht_group.proofs.group.Group.word.Goals as goal

pub index-requires : goal.index-requires
index-requires c =
    let used = used_word c.self.inside c.self.invariant c.args.self.now c.self.view_is c.args.w c.requires.word in
    omega (arith, word_inside c.self.inside c.self.invariant c.args.w used)

pub bounds-words-index : goal.bounds-words-index
bounds-words-index c =
    let a = c.self.inside in
    let used = used_word a c.self.invariant c.args.self.now c.self.view_is c.args.w c.requires.word in
    let size = ap (λ (v : GroupView). net_count v.circuit) c.self.view_is in
    let room = word_room a c.self.invariant c.args.w c.index.result.now used in
    let same = ap (λ (m : Machines). length m.nets.good) c.index.ensures in
    omega (arith, c.requires.net, size, room, same, c.words.ensures.count, c.index-2.ensures)

pub returns : goal.returns
returns c = record {
  machines = λ k m below has.
      let used = used_word c.self.inside c.self.invariant c.args.self.now c.self.view_is c.args.w c.requires.word in
      word_read c.self.inside c.self.invariant c.args.w c.index.result.now used c.args.self.now c.self.view_is
      c.index.result.now c.index.ensures c.words.result.now c.args.net.0 c.index-2.result c.index-words-index.result
      c.words.ensures.words c.words.ensures.count c.requires.net c.index-2.ensures c.index-words-index.is k
      ∙ word_value c.self.inside c.self.invariant c.args.w c.index.result.now used c.args.self.now c.self.view_is
      c.requires.settled c.args.net.0 c.requires.net k m below has;
  others = λ k below past.
      let used = used_word c.self.inside c.self.invariant c.args.self.now c.self.view_is c.args.w c.requires.word in
      word_read c.self.inside c.self.invariant c.args.w c.index.result.now used c.args.self.now c.self.view_is
      c.index.result.now c.index.ensures c.words.result.now c.args.net.0 c.index-2.result c.index-words-index.result
      c.words.ensures.words c.words.ensures.count c.requires.net c.index-2.ensures c.index-words-index.is k
      ∙ word_spare c.self.inside c.self.invariant c.args.w c.index.result.now used c.args.self.now c.self.view_is
      c.requires.settled c.args.net.0 c.requires.net k below past;
}
