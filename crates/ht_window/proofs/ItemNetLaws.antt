-- The net of an item, and the item of a net.
use Rattle.std.proofs.Common.{◌≡◌, ◌<◌, ◌≤◌, ◌-◌, ℕ, ◌∙◌, ap, arith, subst, sym}
use Rattle.ht_net.specs.Circuit.Netlist.{Netlist, net_count}
use Rattle.ht_events.specs.Items.{item_count, item_at, frame_items, frame_of, local_of, driven_net}
use Rattle.ht_events.proofs.ItemLaws.{item_is, item_frame, item_local, frame_inside, local_inside}
use Rattle.ht_window.specs.Holding.{HeldState, MayHold, item_agrees}

-- an item drives a net of a frame, and is the item of that net
pub record DrivesNet (c : Netlist) (k item : ℕ) : Type 0 where
  pub frame : frame_of c item < k
  pub net : driven_net c (local_of c item) < net_count c
  pub is : item_at c (frame_of c item) (driven_net c (local_of c item) - c.inputs) ≡ item

-- each item of k frames drives a net of one of them, and is the item of that net
pub item_net : (c : Netlist) (k item : ℕ) → item < item_count c k → DrivesNet c k item
item_net c k item known =
    let l = local_of c item in
    let ls = local_inside c k item known in
    let el : driven_net c l - c.inputs ≡ l = omega arith in
    record {
      frame = frame_inside c k item known;
      net = omega (arith, ls);
      is = ap (item_at c (frame_of c item)) el ∙ item_is c item;
    }

-- the item of a net
net_of : (c : Netlist) (y : ℕ) → c.inputs ≤ y → driven_net c (y - c.inputs) ≡ y
net_of c y at = omega (arith, at)

-- a net whose item agrees holds what it gets, where it matters
pub agrees_net : (h : HeldState) (g y : ℕ) → h.standing.window.circuit.inputs ≤ y
    → y < net_count h.standing.window.circuit
    → item_agrees h (item_at h.standing.window.circuit g (y - h.standing.window.circuit.inputs))
    → MayHold h g y
agrees_net h g y at ys agree =
    let c = h.standing.window.circuit in
    let l = y - c.inputs in
    let known : l < frame_items c = omega (arith, at, ys) in
    let f = item_frame c g l known in
    let n : driven_net c (local_of c (item_at c g l)) ≡ y = ap (driven_net c) (item_local c g l known) ∙ net_of c y at
    in
    subst (λ (x : ℕ). MayHold h g x) n
    (subst (λ (m : ℕ). MayHold h m (driven_net c (local_of c (item_at c g l)))) f agree)

-- the item of a net agrees where the net holds what it gets
pub net_agrees : (h : HeldState) (f l x : ℕ) → l < frame_items h.standing.window.circuit
    → x ≡ driven_net h.standing.window.circuit l
    → MayHold h f x → item_agrees h (item_at h.standing.window.circuit f l)
net_agrees h f l x known is holds =
    let c = h.standing.window.circuit in
    let n : x ≡ driven_net c (local_of c (item_at c f l)) = is ∙ ap (driven_net c) (sym (item_local c f l known)) in
    subst (λ (g : ℕ). MayHold h g (driven_net c (local_of c (item_at c f l)))) (sym (item_frame c f l known))
    (subst (λ (y : ℕ). MayHold h f y) n holds)
