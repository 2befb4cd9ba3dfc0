use Rattle.std.proofs.Common.{ℕ, Vec, Global, sym, ◌∙◌, ap, ◌++◌, ◌∷◌, [], List}
use Rattle.ht_faults.proofs.OwnLaws.{own_more, own_same}
use Rattle.ht_faults.proofs.classes.own_representatives.Goals as goal
use Rattle.ht_faults.proofs.classes.own_representatives.Goals.{then-by_fault-i+in_ok-push, else-by_fault-i}

pub loop-i-preserved : goal.loop-i-preserved
loop-i-preserved c =
    let i = c.loop-i.i in
    elim c.if-by_fault-i.branch [
      | then-by_fault-i+in_ok-push w ↦
          ap (λ (v : Vec ℕ Global). v.items) w.own-is
          ∙ w.in_ok-push.ensures.items
          ∙ ap (λ (l : List ℕ). l ++ i ∷ []) c.loop-i.invariant
          ∙ sym (own_more c.args.by_fault.now i w.if-by_fault-i.true)
      | else-by_fault-i w ↦
          ap (λ (v : Vec ℕ Global). v.items) w.own-is
          ∙ c.loop-i.invariant
          ∙ sym (own_same c.args.by_fault.now i w.if-by_fault-i.false)
    ]
