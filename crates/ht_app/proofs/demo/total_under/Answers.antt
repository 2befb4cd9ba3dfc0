use Rattle.ht_app.proofs.demo.total_under.Goals as goal

pub returns : goal.returns
returns c = rw c.in_ok-engine.ensures.settings at c.make_total-total.ensures
