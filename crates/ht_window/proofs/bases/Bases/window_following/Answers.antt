use Rattle.std.proofs.Common.{◌∙◌, IfOk, refl, sym, subst}
use Rattle.ht_net.specs.Circuit.Netlist.{Netlist}
use Rattle.ht_tree.specs.Window.Windows.{SearchWindow, IsStart}
use Rattle.ht_window.specs.BaseStates.{IsBaseFor, IsNew}
use Rattle.ht_window.proofs.ResultLaws.{second_of_two}
use Rattle.ht_window.proofs.bases.Bases.window_following.Goals as goal

pub following-requires : goal.following-requires
following-requires c =
    let old = c.in_ok-old.ensures.base in
    subst (λ (k : Netlist). IsBaseFor k c.args.setup.now c.in_ok-old.old) (sym old.base.circuit) old

pub front-made-requires-clause-base : goal.front-made-requires-clause-base
front-made-requires-clause-base c =
    let base = c.in_ok-base.ensures.base in
    record { circuit = refl; decisions = base.decisions; whole = base.whole }

pub front-made-requires-clause-start : goal.front-made-requires-clause-start
front-made-requires-clause-start c =
    let w = c.in_ok-base.base.window in
    let b = c.in_ok-base.ensures in
    let circuit = b.base.circuit ∙ c.in_ok-old.ensures.base.base.circuit in
    subst (λ (v : SearchWindow). IsStart v.circuit v.fault c.args.setup.now.frames v.start) (λ i. record {
      circuit = sym circuit i;
      fault = sym b.fault i;
      frames = w.frames;
      start = sym b.start i;
    }) c.requires.start

pub returns-clause-new : goal.returns-clause-new
returns-clause-new c =
    let b = c.in_ok-base.ensures in
    let circuit = b.base.circuit ∙ c.in_ok-old.ensures.base.base.circuit in
    second_of_two c.keep.result c.front-made.result c.and.result _ c.and.ensures
    (subst (λ (v : SearchWindow). IfOk c.front-made.result (IsNew v)) (λ i. record {
      circuit = circuit i;
      fault = b.fault i;
      frames = c.args.setup.now.frames;
      start = b.start i;
    }) c.front-made.ensures)
