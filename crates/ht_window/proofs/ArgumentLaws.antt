-- The first undetermined argument, pin by pin.
use Rattle.std.proofs.Common.{◌≡◌, ◌<◌, ◌+◌, ◌∙◌, ℕ, List, Bool, true, false, cond, Option, length, get_or, drop, ap, sym, inl, inr, arith, ◌↔◌, IsTrue}
use Rattle.std.proofs.lemmas.List.{drop_more}
use Rattle.std.proofs.lemmas.Bool.Decides.{leb_tells}
use Rattle.ht_pairs.specs.Pairs.{Pair}
use Rattle.ht_net.specs.declared.net.NetId.{NetId}
use Rattle.ht_net.specs.declared.fault.Fault.{Fault}
use Rattle.ht_net.specs.Circuit.Netlist.{Netlist, gate_at, no_net}
use Rattle.ht_tree.specs.Window.Windows.{pair_set_rules, is_undetermined}
use Rattle.ht_tree.specs.Window.WalkBack.{undetermined_argument}
use Rattle.ht_net.specs.Frames.Frame.{Rules}

module _ (r : Rules (List Pair)) (g : ℕ) (env : ℕ → List Pair) (args : List NetId) (i : ℕ) (here : i < length args)
    (set : List Pair)
    (is : set ≡ r.pin g i (env (get_or args i no_net).0))
    (before : undetermined_argument r g env i (drop i args) ≡ undetermined_argument r g env 0 args) where
  step : undetermined_argument r g env 0 args ≡ cond (is_undetermined set) (get_or args i no_net).0
      (undetermined_argument r g env (i + 1) (drop (i + 1) args))
  step =
      sym before ∙ (ap (undetermined_argument r g env i) (drop_more args i no_net here)
      ∙ ap (λ (s : List Pair). cond (is_undetermined s) (get_or args i no_net).0
      (undetermined_argument r g env (i + 1) (drop (i + 1) args))) (sym is))

  argument_undetermined : is_undetermined set ≡ true → (get_or args i no_net).0 ≡ undetermined_argument r g env 0 args
  argument_undetermined e = sym
      (step ∙ ap (λ (b : Bool). cond b (get_or args i no_net).0 (undetermined_argument r g env (i + 1) (drop
      (i + 1) args))) e)

  argument_passed : is_undetermined set ≡ false → undetermined_argument r g env (i + 1) (drop (i + 1) args)
      ≡ undetermined_argument r g env 0 args
  argument_passed e = sym
      (step ∙ ap (λ (b : Bool). cond b (get_or args i no_net).0 (undetermined_argument r g env (i + 1) (drop
      (i + 1) args))) e)

-- a set that isn't single is undetermined
pub undetermined_single : (set : List Pair) (single : Bool) → IsTrue single ↔ (length set ≡ 1) → 0 < length set
    → single ≡ false
    → is_undetermined set ≡ true
undetermined_single set single tells some differs = elim (leb_tells 2 (length set)) [
  | inl p ↦ p.0
  | inr p ↦
      let l = p.1 in
      let one : length set ≡ 1 = omega (arith, l, some) in
      let same : single ≡ true = tells.1 one in
      let clash : true ≡ false = sym same ∙ differs in
      cc
]

-- a single set isn't undetermined
pub determined_single : (set : List Pair) (single : Bool) → IsTrue single ↔ (length set ≡ 1) → single ≡ true
    → is_undetermined set ≡ false
determined_single set single tells same = elim (leb_tells 2 (length set)) [
  | inl p ↦ let l = p.1 in let one : length set ≡ 1 = tells.0 same in absurd (omega (arith, l, one))
  | inr p ↦ p.0
]

-- what the set at a pin tells of the first open argument
pub record IsPinStep (r : Rules (List Pair)) (g : ℕ) (env : ℕ → List Pair) (all args : List NetId) (i : ℕ)
    (set : List Pair) :
    Type 0 where
  pub ends : is_undetermined set ≡ true → (get_or args i no_net).0 ≡ undetermined_argument r g env 0 all
  pub goes_on : is_undetermined set ≡ false → undetermined_argument r g env (i + 1) (drop (i + 1) all)
      ≡ undetermined_argument r g env 0 all

-- the same from the parts that a program reads
pub pin_step : (read c : Netlist) (fault fault' : Option Fault) (args : List NetId) (g i : ℕ) (cell set : List Pair)
    (env : ℕ → List Pair) → read ≡ c → fault ≡ fault' → args ≡ (gate_at read g).args → i < length args
    → cell ≡ env (get_or args i no_net).0 → set ≡ (pair_set_rules fault).pin g i cell
    → undetermined_argument (pair_set_rules fault') g env i (drop i (gate_at c g).args)
    ≡ undetermined_argument (pair_set_rules fault') g env 0 (gate_at c g).args
    → IsPinStep (pair_set_rules fault') g env (gate_at c g).args args i set
pin_step read c fault fault' args g i cell set env cs fs ats inside here_is is before =
    let all = (gate_at c g).args in
    let same : args ≡ all = ats ∙ ap (λ (n : Netlist). (gate_at n g).args) cs in
    let n = ap length same in
    let here : i < length all = omega (arith, n, inside) in
    let set_is : set ≡ (pair_set_rules fault').pin g i (env (get_or all i no_net).0) = is
    ∙ (ap (λ (x : Option Fault). (pair_set_rules x).pin g i cell) fs ∙ ap ((pair_set_rules fault').pin g i)
    (here_is ∙ ap (λ (t : List NetId). env (get_or t i no_net).0) same)) in
    record {
      ends = λ e. ap (λ (t : List NetId). (get_or t i no_net).0) same
          ∙ argument_undetermined (pair_set_rules fault') g env all i here set set_is before e;
      goes_on = argument_passed (pair_set_rules fault') g env all i here set set_is before;
    }
