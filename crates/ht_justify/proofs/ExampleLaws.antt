-- The definitions at the toggle: OUTPUT(q), q = DFF(n), n = NOT(q). Its latch has no start that is known.
use Rattle.std.proofs.Common.{List, [], ◌∷◌, refl, arith}
use Rattle.ht_tern.specs.declared.tern.Tern.TheVariants.{Zero, One}
use Rattle.ht_pairs.specs.Pairs.{lifted_set, stuck_set, set_of}
use Rattle.ht_net.specs.Frames.Frame.{net_value, net_value_within, net_value_over, driver_value, gate_output, next_state}
use Rattle.ht_net.specs.Frames.Faults.{forced}
use Rattle.ht_tree.specs.declared.token.Token.{Token}
use Rattle.ht_tree.specs.declared.token.Token.TheVariants as token
use Rattle.ht_tree.specs.Walk.Walks.{Node}
use Rattle.ht_tree.specs.Window.Windows.{back_window, latches_at}
use Rattle.ht_tree.specs.Walk.Searches.{SpendsAt, guide_of}
use Rattle.ht_tree.specs.Window.WalkBack.{back_over, choice_at}
use Rattle.ht_tree.proofs.ExampleLaws.{toggle}

-- Back from q at 0: the value 0 before it is dead, and the value 1 goes on; before that the value 0 goes on at once.
abbrev walk : List Token
walk =
    token.Three 0 ∷ token.Dead ∷ token.Before ∷ token.Three 0 ∷ token.Before ∷ token.Three 0 ∷ token.Dead ∷ token.Before
    ∷ token.Three 0 ∷ token.Before ∷ []

abbrev node : Node
node = record {
  decisions =
      record { var = 0; value = One } ∷ record { var = 0; value = Zero } ∷ record { var = 0; value = One }
      ∷ record { var = 0; value = Zero } ∷ [];
  windows = 1 ∷ 2 ∷ 3 ∷ 4 ∷ [];
}

-- Ten tokens are the budget; the window that comes next is open.
toggle_spends : SpendsAt (guide_of (back_window toggle (Zero ∷ []) 32)) 10 1 walk node
unfolding latches_at next_state net_value net_value_within net_value_over driver_value gate_output forced lifted_set
    stuck_set set_of back_over choice_at
toggle_spends = record {
  walk = record {
    fit = (
      (refl, refl, refl),
      (
        refl,
        (
          (refl, refl),
          (
            (refl, refl, refl),
            (
              (refl, refl),
              ((refl, refl, refl), (refl, ((refl, refl), ((refl, refl, refl), ((refl, refl), tt))))),
            ),
          ),
        ),
      ),
    );
    unfinished = λ e. cc;
  };
  keeps = record {
    chosen = (refl, (tt, (tt, (refl, (tt, (refl, (tt, (tt, (refl, (tt, tt))))))))));
    within = omega arith;
  };
  top = refl;
  asks = λ found. let sure = found.sure in cc;
  spent = omega arith;
}
