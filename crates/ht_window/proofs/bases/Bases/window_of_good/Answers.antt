use Rattle.std.proofs.Common.{IfOk, sym, subst}
use Rattle.ht_net.specs.Circuit.Netlist.{Netlist}
use Rattle.ht_window.specs.Setups.{IsSetup, window_for}
use Rattle.ht_window.specs.BaseStates.{IsBaseFor, IsNew}
use Rattle.ht_window.proofs.ResultLaws.{second_of_two}
use Rattle.ht_window.proofs.bases.Bases.window_of_good.Goals as goal

pub restricted-made-requires-clause-base : goal.restricted-made-requires-clause-base
restricted-made-requires-clause-base c =
    let b = c.in_ok-base.ensures.base in
    subst (λ (k : Netlist). IsBaseFor k c.args.setup.now c.in_ok-base.base) (sym b.base.circuit) b

pub restricted-made-requires-clause-setup : goal.restricted-made-requires-clause-setup
restricted-made-requires-clause-setup c =
    subst (λ (k : Netlist). IsSetup k c.args.setup.now) (sym c.in_ok-base.ensures.base.base.circuit) c.requires

pub returns-clause-new : goal.returns-clause-new
returns-clause-new c =
    second_of_two c.keep.result c.restricted-made.result c.and.result _ c.and.ensures
    (subst (λ (k : Netlist). IfOk c.restricted-made.result (IsNew (window_for k c.args.setup.now)))
    c.in_ok-base.ensures.base.base.circuit c.restricted-made.ensures)
