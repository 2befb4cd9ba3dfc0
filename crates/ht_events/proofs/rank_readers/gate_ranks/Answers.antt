use Rattle.std.proofs.Common.{◌+◌, ◌∙◌, ℕ, List, [], ◌∷◌, ◌++◌, Vec, Global, get_or, take, sym, ap, arith, subst}
use Rattle.std.proofs.lemmas.List.{take_more}
use Rattle.std.proofs.lemmas.List.Elements.{Contains-get_or}
use Rattle.ht_events.specs.Schedules.{AreGateRanks}
use Rattle.ht_events.proofs.ReaderLaws.{rank_passed, rank_pushed}
use Rattle.ht_events.proofs.rank_readers.gate_ranks.Goals.{then-item-dffs+in_ok-push, else-item-dffs}
use Rattle.ht_events.proofs.rank_readers.gate_ranks.Goals as goal

pub overflow_add-inputs : goal.overflow_add-inputs
overflow_add-inputs c =
    let items = c.args.items.now in
    let i = c.loop-item.item-index in
    let known = c.requires.known (get_or items i 0) (Contains-get_or items i 0 c.loop-item-test.true) in
    let first = c.inputs-inputs.ensures in
    let all = c.nets.ensures.count in
    let fits = c.nets.type_inv in
    omega (arith, known, first, all, fits)

pub bounds-ranks-inputs : goal.bounds-ranks-inputs
bounds-ranks-inputs c =
    let items = c.args.items.now in
    let i = c.loop-item.item-index in
    let known = c.requires.known (get_or items i 0) (Contains-get_or items i 0 c.loop-item-test.true) in
    let first = c.inputs-inputs.ensures in
    let count = c.requires.count in
    omega (arith, known, first, count)

pub loop-item-preserved : goal.loop-item-preserved
loop-item-preserved c =
    let n = c.args.circuit.now in
    let ranks = c.args.ranks.now in
    let items = c.args.items.now in
    let i = c.loop-item.item-index in
    let item = get_or items i 0 in
    let now = take i items in
    let row = c.loop-item.row.items in
    let dffs = c.dffs-dffs.ensures in
    subst (λ (l : List ℕ). AreGateRanks n ranks l c.if-item-dffs.row.items)
    (sym (take_more items i 0 c.loop-item-test.true))
    (elim c.if-item-dffs.branch [
      | then-item-dffs+in_ok-push w ↦
          let gate = w.if-item-dffs.true in
          subst (AreGateRanks n ranks (now ++ item ∷ []))
          (sym (ap (λ (v : Vec ℕ Global). v.items) w.row-is ∙ w.in_ok-push.ensures.items))
          (rank_pushed n ranks now row c.loop-item.invariant item (get_or ranks (c.inputs-inputs.result + item) 0)
          (ap (λ (k : ℕ). get_or ranks (k + item) 0) c.inputs-inputs.ensures) (omega (arith, gate, dffs)))
      | else-item-dffs w ↦
          let dff = w.if-item-dffs.false in
          subst (λ (v : Vec ℕ Global). AreGateRanks n ranks (now ++ item ∷ []) v.items) (sym w.row-is)
          (rank_passed n ranks now row c.loop-item.invariant item (omega (arith, dff, dffs)))
    ])
