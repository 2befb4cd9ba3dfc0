-- Items by frame and place, and their positions.
use Rattle.std.proofs.Common.{◌≡◌, ◌<◌, ◌≤◌, ◌+◌, ◌-◌, ◌*◌, ◌/◌, ◌%◌, inl, inr, ℕ, suc, zero, List, length, get_or, refl, sym, subst, ◌∙◌, ap, arith}
use Rattle.std.proofs.lemmas.Nat.{div-mul-add, mod-mul-add, div-add-mod'}
use Rattle.std.proofs.Math.Nat.{mul-le-mul_right, div-lt_iff_lt-mul, mod-lt, suc-mul, mul-zero}
use Rattle.std.proofs.lemmas.Bool.Decides.{nat_tests}
use Rattle.ht_net.specs.Circuit.Netlist.{Netlist}
use Rattle.ht_events.specs.Ranks.{AreRanked}
use Rattle.ht_events.specs.Items.{frame_items, item_count, item_at, frame_of, local_of, driven_net, IsGateOn, ReadsNet, reader_frame, IsReader, IsLoad}

-- the frame of item l of frame f is f
pub item_frame : (c : Netlist) (f l : ℕ) → l < frame_items c → frame_of c (item_at c f l) ≡ f
item_frame c f l h = div-mul-add f (frame_items c) l h

-- item l of a frame has index l there
pub item_local : (c : Netlist) (f l : ℕ) → l < frame_items c → local_of c (item_at c f l) ≡ l
item_local c f l h = mod-mul-add f (frame_items c) l h

-- an item is the one that its frame has at its index there
pub item_is : (c : Netlist) (item : ℕ) → item_at c (frame_of c item) (local_of c item) ≡ item
item_is c item = div-add-mod' item (frame_items c)

mul_mono : (a b n : ℕ) → a ≤ b → a * n ≤ b * n
mul_mono a b n h = mul-le-mul_right n h

-- an item of one of the first k frames is among the items of k frames
pub item_inside : (c : Netlist) (k f l : ℕ) → f < k → l < frame_items c → item_at c f l < item_count c k
item_inside c k f l fs ls =
    let n = frame_items c in
    let m : suc f * n ≤ k * n = mul_mono (suc f) k n (omega (arith, fs)) in
    let e : suc f * n ≡ f * n + n = suc-mul f n in
    omega (arith, m, e, ls)

-- where there is an item, a frame has items
pub some_items : (c : Netlist) (k item : ℕ) → item < item_count c k → 0 < frame_items c
some_items c k item h = some (frame_items c) k h where
  some : (n k : ℕ) → item < k * n → 0 < n
  some zero k h = let e = mul-zero k in absurd (omega (arith, e, h))
  some (suc n) k h = omega arith

-- an item among those of k frames is in one of the first k
pub frame_inside : (c : Netlist) (k item : ℕ) → item < item_count c k → frame_of c item < k
frame_inside c k item h = (div-lt_iff_lt-mul {k = frame_items c} {x = item} {y = k} (some_items c k item h)).1 h

-- an item's index in its frame is below the number of items that a frame has
pub local_inside : (c : Netlist) (k item : ℕ) → item < item_count c k → local_of c item < frame_items c
local_inside c k item h = mod-lt item (some_items c k item h)

-- what reads the net of an item of a frame is its load
pub reader_loads : (c : Netlist) (k f l y : ℕ) → l < frame_items c → IsReader c k f (driven_net c l) y
    → IsLoad c k (item_at c f l) y
reader_loads c k f l y h r = subst (λ (g : ℕ). IsReader c k g (driven_net c (local_of c (item_at c f l))) y)
    (sym (item_frame c f l h)) (subst (λ (m : ℕ). IsReader c k f (driven_net c m) y) (sym (item_local c f l h)) r)

-- a load of an item of a frame reads the net of that item
pub load_reads : (c : Netlist) (k f l y : ℕ) → l < frame_items c → IsLoad c k (item_at c f l) y
    → IsReader c k f (driven_net c l) y
load_reads c k f l y h load = subst (λ (m : ℕ). IsReader c k f (driven_net c m) y) (item_local c f l h)
    (subst (λ (g : ℕ). IsReader c k g (driven_net c (local_of c (item_at c f l))) y) (item_frame c f l h) load)

-- a reader is in the first frames, and is an item of its frame
pub reads_known : (c : Netlist) (l x : ℕ) → ReadsNet c l x → l < frame_items c
reads_known c l x (inl g) = g.known
reads_known c l x (inr d) = let h = d.is_dff in omega (arith, h)

module _ (c : Netlist) (order ranks : List ℕ) (ranking : AreRanked c (length c.dffs) order ranks) where
  rises_on : (l m : ℕ) → IsGateOn c m (driven_net c l) → get_or ranks l 0 < get_or ranks m 0
  rises_on l m on =
      let is = on.is_gate in
      let at : length c.dffs + (m - length c.dffs) ≡ m = omega (arith, is) in
      subst (λ (k : ℕ). get_or ranks l 0 < get_or ranks k 0) at (ranking.rises (m - length c.dffs) l (record {
        pin = on.pin;
        is_gate = omega (arith, is, on.known);
        is_pin = on.is_pin;
        reads = omega (arith, on.reads);
      }))

  -- the position of an item in a plan of this circuit
  abbrev pub position_of : ℕ → ℕ
  position_of item = frame_of c item * frame_items c + get_or ranks (local_of c item) 0

  -- items that stand at one position are the same item
  pub positions_differ : (k x y : ℕ) → x < item_count c k → y < item_count c k → position_of x ≡ position_of y → x ≡ y
  positions_differ k x y xs ys e =
      let n = frame_items c in
      let rx = ranking.small (local_of c x) (local_inside c k x xs) in
      let ry = ranking.small (local_of c y) (local_inside c k y ys) in
      let f : frame_of c x ≡ frame_of c y = sym (div-mul-add (frame_of c x) n (get_or ranks (local_of c x) 0) rx) ∙
      (ap (λ (p : ℕ). p / n) e ∙ div-mul-add (frame_of c y) n (get_or ranks (local_of c y) 0) ry) in
      let r : get_or ranks (local_of c x) 0 ≡ get_or ranks (local_of c y) 0 = sym
      (mod-mul-add (frame_of c x) n (get_or ranks (local_of c x) 0) rx) ∙
      (ap (λ (p : ℕ). p % n) e ∙ mod-mul-add (frame_of c y) n (get_or ranks (local_of c y) 0) ry) in
      let l : local_of c x ≡ local_of c y = sym (ranking.back (local_of c x) (local_inside c k x xs)) ∙
      (ap (λ (p : ℕ). get_or order p 0) r ∙ ranking.back (local_of c y) (local_inside c k y ys)) in
      sym (item_is c x) ∙ ((λ i. item_at c (f i) (l i)) ∙ item_is c y)

  -- the item of a position
  pub ranked_small : (k place o : ℕ) → place < item_count c k → o ≡ get_or order (local_of c place) 0
      → o < frame_items c
  ranked_small k place o inside os =
      let known = ranking.known (local_of c place) (local_inside c k place inside) in
      omega (arith, os, known)

  -- the item that the order has for a position stands at that position
  pub ranked_item : (k place f o : ℕ) → place < item_count c k → f ≡ frame_of c place
      → o ≡ get_or order (local_of c place) 0 → position_of (item_at c f o) ≡ place
  ranked_item k place f o inside fs os =
      let l = local_of c place in
      let small = ranked_small k place o inside os in
      let r : get_or ranks (local_of c (item_at c f o)) 0 ≡ l = ap (λ (m : ℕ). get_or ranks m 0)
      (item_local c f o small ∙ os) ∙ ranking.forth l (local_inside c k place inside) in
      (λ i. (item_frame c f o small ∙ fs) i * frame_items c + r i) ∙ item_is c place

  -- the item that the order has for a position is among those of the frames
  pub ranked_inside : (k place f o : ℕ) → place < item_count c k → f ≡ frame_of c place
      → o ≡ get_or order (local_of c place) 0 → item_at c f o < item_count c k
  ranked_inside k place f o inside fs os =
      let fi = frame_inside c k place inside in
      item_inside c k f o (omega (arith, fs, fi)) (ranked_small k place o inside os)

  -- an item's loads stand at later positions
  pub loads_later : (k item y : ℕ) → item < item_count c k → IsLoad c k item y → position_of item < position_of y
  loads_later k item y inside load =
      let n = frame_items c in
      let f = frame_of c item in
      let l = local_of c item in
      let m = load.local in
      let known = reads_known c m (driven_net c l) load.reads in
      let rl = ranking.small l (local_inside c k item inside) in
      let fy : frame_of c y ≡ reader_frame c f m = ap (frame_of c) load.at ∙ item_frame c (reader_frame c f m) m known
      in
      let ly : local_of c y ≡ m = ap (local_of c) load.at ∙ item_local c (reader_frame c f m) m known in
      let py : position_of y ≡ reader_frame c f m * n + get_or ranks m 0 = (λ i. fy i * n + get_or ranks (ly i) 0) in
      later f l m n rl (local_inside c k item inside) refl load.reads py where
        later : (f l m n : ℕ) → get_or ranks l 0 < n → l < frame_items c → n ≡ frame_items c
            → ReadsNet c m (driven_net c l) → position_of y ≡ reader_frame c f m * n + get_or ranks m 0 → f * n
            + get_or ranks l 0 < position_of y
        later f l m n rl known same (inl g) py =
            let h = g.is_gate in
            let e : reader_frame c f m ≡ f = grind (arith, nat_tests, h) in
            let up = rises_on l m g in
            let p : position_of y ≡ f * n + get_or ranks m 0 = py ∙ ap (λ (g : ℕ). g * n + get_or ranks m 0) e in
            omega (arith, p, up)
        later f l m n rl known same (inr d) py =
            let h = d.is_dff in
            let e : reader_frame c f m ≡ suc f = grind (arith, nat_tests, h) in
            let s : suc f * n ≡ f * n + n = suc-mul f n in
            let p : position_of y ≡ suc f * n + get_or ranks m 0 = py ∙ ap (λ (g : ℕ). g * n + get_or ranks m 0) e in
            omega (arith, s, p, rl)
