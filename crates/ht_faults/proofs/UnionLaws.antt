-- Both faults of a pin's stem are united with those of the gate's output.
use Rattle.std.proofs.Common.{◌≡◌, ◌<◌, ◌*◌, ℕ, List, Bool, true, false, Some, length, get_or, sym, ◌∙◌, ap, subst}
use Rattle.ht_net.specs.Circuit.Netlist.{Netlist, net_count, gate_at, arg_at, IsCircuit}
use Rattle.ht_faults.specs.Sites.{is_fanout}
use Rattle.ht_faults.specs.Leaders.{stem_number, output_value, output_number, united, StayInClass, PinJoins, OthersStay}
use Rattle.ht_faults.proofs.ValueUnionLaws.{unites, ValueJoins, value_united}

-- What uniting both faults of a pin's stem gives.
pub record AreUnited (c : Netlist) (g i : ℕ) (leaders all : List ℕ) : Type 0 where
  pub after : StayInClass c leaders → StayInClass c all
  pub this : length leaders ≡ 2 * net_count c → PinJoins c all g i
  pub pins : length leaders ≡ 2 * net_count c → (k : ℕ) → PinJoins c leaders g k → PinJoins c all g k
  pub others : OthersStay c leaders all g

by_value : (c : Netlist) (g k : ℕ) (leaders : List ℕ) → ValueJoins c g leaders k false → ValueJoins c g leaders k true
    → PinJoins c leaders g k
by_value c g k leaders low high = record { joins = go }
  where
    go : (v w : Bool) → is_fanout c (arg_at c g k) ≡ false → output_value c g v ≡ Some w
        → get_or leaders (stem_number (arg_at c g k) v) 0 ≡ get_or leaders (output_number c g w) 0
    go false w alone values = low w alone values
    go true w alone values = high w alone values

-- pin i of gate g, whose net has one load
module _ (c : Netlist) (circuit : IsCircuit c) (g i : ℕ) (inside : g < length c.gates)
    (pin : i < length (gate_at c g).args) (single : is_fanout c (arg_at c g i) ≡ false) where
  both_united : (leaders : List ℕ) → AreUnited c g i leaders (unites c g i true (unites c g i false leaders))
  both_united leaders =
      let one = value_united c circuit g i inside pin single false leaders in
      let two = value_united c circuit g i inside pin single true (unites c g i false leaders) in
      record {
        after = λ h. two.stay (one.stay h);
        this = λ long. by_value c g i _ (two.keep (one.long ∙ long) i false (one.join long))
            (two.join (one.long ∙ long));
        pins = λ long k old. by_value c g k _
            (two.keep (one.long ∙ long) k false (one.keep long k false (λ w. old.joins false w)))
            (two.keep (one.long ∙ long) k true (one.keep long k true (λ w. old.joins true w)));
        others = record { stay = λ k ne. two.others k (ne i true pin) ∙ one.others k (ne i false pin) };
      }

  -- both faults of a pin's stem united, one after the other, give each pair at the pin one leader, and keep other
  -- pins'
  pub united_pin : (x : ℕ) → x ≡ arg_at c g i → (leaders some all : List ℕ)
      → some ≡ united c g (stem_number x false) (output_value c g false) leaders
      → all ≡ united c g (stem_number x true) (output_value c g true) some → AreUnited c g i leaders all
  united_pin x is leaders some all first second =
      let same : all ≡ unites c g i true (unites c g i false leaders) =
      second ∙ (ap (λ (n : ℕ). united c g (stem_number n true) (output_value c g true) some) is
      ∙ ap (unites c g i true)
      (first ∙ ap (λ (n : ℕ). united c g (stem_number n false) (output_value c g false) leaders) is)) in
      subst (λ (l : List ℕ). AreUnited c g i leaders l) (sym same) (both_united leaders)
