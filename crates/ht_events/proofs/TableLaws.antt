-- The table of readers, as the flip-flops and then the gates are added pin by pin.
use Rattle.std.proofs.Common.{◌≡◌, ◌≢◌, ◌<◌, ◌≤◌, ◌+◌, ◌-◌, inl, inr, ℕ, Bool, List, [], length, get_or, drop, cond, eqb, refl, sym, ◌∙◌, ap, arith, subst}
use Rattle.std.specs.List.{Contains, sum_by}
use Rattle.std.proofs.lemmas.Bool.{cases_lt, eq-eqb}
use Rattle.std.proofs.lemmas.Bool.Decides.{eqb_tells}
use Rattle.std.proofs.lemmas.List.{length-map, get_or-map, get_or-take, get_or-drop, get_or_past, get_or_default, length-take-le, length-drop, length-set}
use Rattle.std.proofs.lemmas.List.Sums.{sum_by-drop_more}
use Rattle.ht_net.specs.declared.net.NetId.{NetId}
use Rattle.ht_net.specs.Circuit.Netlist.{Netlist, Gate, IsCircuit, net_count, gate_at, arg_at, no_net, no_gate}
use Rattle.ht_net.specs.Circuit.Levels.{times}
use Rattle.ht_events.specs.declared.readers.NetRow.{NetRow}
use Rattle.ht_events.specs.Items.{IsDffOn, IsGateOn, ReadsNet}
use Rattle.ht_events.specs.NetRows.{no_row, row_of, readers_in, lists_of, AreNetRows}
use Rattle.ht_events.specs.FramePlans.{IsTable}
use Rattle.ht_events.proofs.RowLaws.{HasReader, HasRowRoom, IsMore, rows_with, items_with, room_kept, room_there, reader_more, room_left}

-- how often the gates from g on read net x
abbrev pub reads_from : Netlist → ℕ → ℕ → ℕ
reads_from c g x = sum_by (λ (gate : Gate). times x gate.args) (drop g c.gates)

-- a net occurs no more often from the next index on than from this one on
pub fewer_reads : (nets : List NetId) (i x : ℕ) → i < length nets → times x (drop (i + 1) nets) ≤ times x (drop i nets)
fewer_reads nets i x inside =
    let e = sum_by-drop_more (λ (n : NetId). cond (eqb n.0 x) 1 0) nets i no_net inside in
    omega (arith, e)

-- a net that is at an index occurs more often from there on than from the next index on
pub one_read : (nets : List NetId) (i x : ℕ) → i < length nets → (get_or nets i no_net).0 ≡ x
    → times x (drop (i + 1) nets) + 1 ≤ times x (drop i nets)
one_read nets i x inside is =
    let e = sum_by-drop_more (λ (n : NetId). cond (eqb n.0 x) 1 0) nets i no_net inside in
    let one = ap (λ (b : Bool). cond {A = ℕ} b 1 0) (eq-eqb (get_or nets i no_net).0 x is) in
    omega (arith, e, one)

gate_reads : (c : Netlist) (g x : ℕ) → g < length c.gates
    → reads_from c g x ≡ times x (gate_at c g).args + reads_from c (g + 1) x
gate_reads c g x inside = sum_by-drop_more (λ (gate : Gate). times x gate.args) c.gates g no_gate inside

-- a table that is filled, by what item reads what net so far
abbrev pub IsSound : Netlist → (ℕ → ℕ → Type 0) → Type 0
IsSound c Has = (x k : ℕ) → Has x k → ReadsNet c k x

-- a table with the flip-flops and the first g gates
pub record IsPartTable (c : Netlist) (Has : ℕ → ℕ → Type 0) (g : ℕ) : Type 0 where
  pub sound : IsSound c Has
  pub dffs : (x k : ℕ) → IsDffOn c k x → Has x k
  pub gates : (x k : ℕ) → k < length c.dffs + g → IsGateOn c k x → Has x k

module _ (c : Netlist) (Has New : ℕ → ℕ → Type 0) (n local : ℕ) (more : IsMore Has New n local) where
  -- a sound table is sound after an item is added to the row of a net that it reads
  pub sound_more : ReadsNet c local n → IsSound c Has → IsSound c New
  sound_more reads sound x k h = elim (more.only x k h) [
    | inl old ↦ sound x k old
    | inr e ↦ subst (λ (y : ℕ). ReadsNet c k y) (sym e.0) (subst (λ (l : ℕ). ReadsNet c l n) (sym e.1) reads)
  ]

  -- after a flip-flop is added to the row of the net at its data pin, one flip-flop more is in the table
  pub dffs_more : (get_or c.dffs local no_net).0 ≡ n → ((x k : ℕ) → k < local → IsDffOn c k x → Has x k)
      → (x k : ℕ) → k < local + 1 → IsDffOn c k x → New x k
  dffs_more reads dffs x k less d = elim (eqb_tells k local) [
    | inl p ↦
        let at : n ≡ x = sym reads ∙ (ap (λ (l : ℕ). (get_or c.dffs l no_net).0) (sym p.1) ∙ d.reads) in
        subst (λ (y : ℕ). New y k) at (subst (λ (l : ℕ). New n l) (sym p.1) more.has)
    | inr p ↦ let ne : k ≢ local = p.1 in more.keeps x k (dffs x k (omega (arith, less, ne)) d)
  ]

  -- after a gate is added to the row of the net at a pin, one pin more of that gate is in the table
  pub pins_more : (g i : ℕ) → local ≡ length c.dffs + g → arg_at c g i ≡ n
      → ((j : ℕ) → j < i → Has (arg_at c g j) (length c.dffs + g)) → (j : ℕ) → j < i + 1
      → New (arg_at c g j) (length c.dffs + g)
  pins_more g i is reads pins j less = elim (eqb_tells j i) [
    | inl p ↦
        let at : n ≡ arg_at c g j = sym reads ∙ ap (arg_at c g) (sym p.1) in
        subst (λ (y : ℕ). New y (length c.dffs + g)) at (subst (λ (l : ℕ). New n l) is more.has)
    | inr p ↦ let ne : j ≢ i = p.1 in more.keeps (arg_at c g j) (length c.dffs + g) (pins j (omega (arith, less, ne)))
  ]

  -- after an item is added to the row of a net that it reads, the table still has the flip-flops and the first g
  -- gates
  pub part_kept : (g : ℕ) → ReadsNet c local n → IsPartTable c Has g → IsPartTable c New g
  part_kept g reads t = record {
    sound = sound_more reads t.sound;
    dffs = λ x k d. more.keeps x k (t.dffs x k d);
    gates = λ x k less on. more.keeps x k (t.gates x k less on);
  }

-- all pins of a gate are there
gates_more : (c : Netlist) (Has : ℕ → ℕ → Type 0) (g n : ℕ) → n ≡ length (gate_at c g).args
    → ((j : ℕ) → j < n → Has (arg_at c g j) (length c.dffs + g))
    → ((x k : ℕ) → k < length c.dffs + g → IsGateOn c k x → Has x k)
    → (x k : ℕ) → k < length c.dffs + (g + 1) → IsGateOn c k x → Has x k
gates_more c Has g n all pins gates x k less on = elim (eqb_tells k (length c.dffs + g)) [
  | inl p ↦
      let is : k ≡ length c.dffs + g = p.1 in
      let at : k - length c.dffs ≡ g = omega (arith, is) in
      let inside : on.pin < n = (let h = on.is_pin in let e = ap (λ (h : ℕ). length (gate_at c h).args) at
      in omega (arith, h, e, all)) in
      let reads : arg_at c g on.pin ≡ x = ap (λ (h : ℕ). arg_at c h on.pin) (sym at) ∙ on.reads in
      subst (λ (y : ℕ). Has y k) reads
      (subst (λ (l : ℕ). Has (arg_at c g on.pin) l) (sym is) (pins on.pin inside))
  | inr p ↦ let ne : k ≢ length c.dffs + g = p.1 in gates x k (omega (arith, less, ne)) on
]

part_more : (c : Netlist) (Has : ℕ → ℕ → Type 0) (g n : ℕ) → n ≡ length (gate_at c g).args
    → ((j : ℕ) → j < n → Has (arg_at c g j) (length c.dffs + g))
    → IsPartTable c Has g → IsPartTable c Has (g + 1)
part_more c Has g n all pins t = record {
  sound = t.sound;
  dffs = t.dffs;
  gates = gates_more c Has g n all pins t.gates;
}

-- the rows with the first j flip-flops, and room for all that is still to come
pub record HasDffs (c : Netlist) (rows : List NetRow) (items : List ℕ) (j : ℕ) : Type 0 where
  pub count : length rows ≡ net_count c
  pub room : HasRowRoom rows items (λ x. times x (drop j c.dffs) + reads_from c 0 x)
  pub sound : IsSound c (HasReader rows items)
  pub dffs : (x k : ℕ) → k < j → IsDffOn c k x → HasReader rows items x k

-- the rows with all flip-flops and the first g gates
pub record HasGates (c : Netlist) (rows : List NetRow) (items : List ℕ) (g : ℕ) : Type 0 where
  pub count : length rows ≡ net_count c
  pub room : HasRowRoom rows items (reads_from c g)
  pub table : IsPartTable c (HasReader rows items) g

-- the rows with the first i pins of gate g beside
pub record HasPins (c : Netlist) (rows : List NetRow) (items : List ℕ) (g i : ℕ) : Type 0 where
  pub count : length rows ≡ net_count c
  pub room : HasRowRoom rows items (λ x. times x (drop i (gate_at c g).args) + reads_from c (g + 1) x)
  pub table : IsPartTable c (HasReader rows items) g
  pub pins : (j : ℕ) → j < i → HasReader rows items (arg_at c g j) (length c.dffs + g)

module _ (c : Netlist) (rows : List NetRow) (items : List ℕ) where
  -- rows that have all flip-flops are ready for the first gate
  pub all_dffs : (j : ℕ) → length c.dffs ≤ j → HasDffs c rows items j → HasGates c rows items 0
  all_dffs j all h = record {
    count = h.count;
    room = room_kept rows items (λ x. times x (drop j c.dffs) + reads_from c 0 x) (reads_from c 0) (λ x. omega arith)
        h.room;
    table = record {
      sound = h.sound;
      dffs = λ x k d. let is = d.is_dff in h.dffs x k (omega (arith, is, all)) d;
      gates = λ x k less on. let is = on.is_gate in absurd (omega (arith, less, is));
    };
  }

  -- rows that have the first g gates are ready for the first pin of gate g
  pub no_pins : (g : ℕ) → g < length c.gates → HasGates c rows items g → HasPins c rows items g 0
  no_pins g known h = record {
    count = h.count;
    room = room_kept rows items (reads_from c g)
        (λ x. times x (drop 0 (gate_at c g).args) + reads_from c (g + 1) x)
        (λ x. let r = gate_reads c g x known in omega (arith, r)) h.room;
    table = h.table;
    pins = λ j less. absurd (omega (arith, less));
  }

  -- rows that have all pins of gate g beside have one gate more
  pub all_pins : (g i : ℕ) → i ≡ length (gate_at c g).args → HasPins c rows items g i → HasGates c rows items (g + 1)
  all_pins g i all h = record {
    count = h.count;
    room = room_kept rows items (λ x. times x (drop i (gate_at c g).args) + reads_from c (g + 1) x)
        (reads_from c (g + 1)) (λ x. omega arith) h.room;
    table = part_more c (HasReader rows items) g i all h.pins h.table;
  }

module _ (c : Netlist) (valid : IsCircuit c) (rows : List NetRow) (items : List ℕ) (j n : ℕ)
    (known : j < length c.dffs) (is : (get_or c.dffs j no_net).0 ≡ n) (h : HasDffs c rows items j) where
  abbrev dff_left : ℕ → ℕ → ℕ
  dff_left k x = times x (drop k c.dffs) + reads_from c 0 x

  -- the net at a flip-flop's data pin has a row
  pub dff_row : n < length rows
  dff_row = let k = valid.data_known j known in let count = h.count in omega (arith, k, is, count)

  dff_some : 0 < dff_left j n
  dff_some = let o = one_read c.dffs j n known is in omega (arith, o)

  -- the row of the net at a flip-flop's data pin ends before the flat list does
  pub dff_room : (row_of rows n).end < length items
  dff_room = room_there rows items n j dff_row (dff_left j) h.room dff_some

  -- after a flip-flop is written in the row of the net at its data pin, the rows have one flip-flop more
  pub with_dff : HasDffs c (rows_with rows n) (items_with rows items n j) (j + 1)
  with_dff =
      let more = reader_more rows items n j dff_row (dff_left j) h.room dff_some in
      record {
        count = length-set rows n (record { start = (row_of rows n).start; end = (row_of rows n).end + 1 }) ∙ h.count;
        room = room_left rows items n j dff_row (dff_left j) h.room dff_some (dff_left (j + 1))
            (let o = one_read c.dffs j n known is in omega (arith, o))
            (λ x. let f = fewer_reads c.dffs j x known in omega (arith, f));
        sound = sound_more c _ _ n j more (inr (record { is_dff = known; reads = is })) h.sound;
        dffs = dffs_more c _ _ n j more is h.dffs;
      }

module _ (c : Netlist) (valid : IsCircuit c) (rows : List NetRow) (items : List ℕ) (g i n : ℕ)
    (known : g < length c.gates) (pin : i < length (gate_at c g).args) (is : arg_at c g i ≡ n)
    (h : HasPins c rows items g i) where
  abbrev pin_left : ℕ → ℕ → ℕ
  pin_left k x = times x (drop k (gate_at c g).args) + reads_from c (g + 1) x

  -- the net at a gate's pin has a row
  pub pin_row : n < length rows
  pin_row = let k = valid.known g i known pin in let count = h.count in omega (arith, k, is, count)

  pin_some : 0 < pin_left i n
  pin_some = let o = one_read (gate_at c g).args i n pin is in omega (arith, o)

  -- the row of the net at a gate's pin ends before the flat list does
  pub pin_room : (row_of rows n).end < length items
  pin_room = room_there rows items n (length c.dffs + g) pin_row (pin_left i) h.room pin_some

  reads_it : ReadsNet c (length c.dffs + g) n
  reads_it =
      let at : length c.dffs + g - length c.dffs ≡ g = omega arith in
      inl (record {
        pin = i;
        is_gate = omega arith;
        known = omega (arith, known);
        is_pin = (let e = ap (λ (h : ℕ). length (gate_at c h).args) at in omega (arith, pin, e));
        reads = ap (λ (h : ℕ). arg_at c h i) at ∙ is;
      })

  -- after a gate is written in the row of the net at its next pin, the rows have one pin more of it
  pub with_pin : HasPins c (rows_with rows n) (items_with rows items n (length c.dffs + g)) g (i + 1)
  with_pin =
      let l = length c.dffs + g in
      let more = reader_more rows items n l pin_row (pin_left i) h.room pin_some in
      record {
        count = length-set rows n (record { start = (row_of rows n).start; end = (row_of rows n).end + 1 }) ∙ h.count;
        room = room_left rows items n l pin_row (pin_left i) h.room pin_some (pin_left (i + 1))
            (let o = one_read (gate_at c g).args i n pin is in omega (arith, o))
            (λ x. let f = fewer_reads (gate_at c g).args i x pin in omega (arith, f));
        table = part_kept c _ _ n l more g reads_it h.table;
        pins = pins_more c _ _ n l more g i refl is h.pins;
      }

-- the flat list as a table
module _ (rows : List NetRow) (items : List ℕ) (within : AreNetRows rows items) where
  at_place : (row : NetRow) (k d : ℕ) → k < row.end - row.start
      → get_or (readers_in items row) k d ≡ get_or items (row.start + k) d
  at_place row k d less =
      get_or-take (row.end - row.start) (drop row.start items) k d less ∙ get_or-drop row.start items k d

  row_length : (row : NetRow) → row.end ≤ length items → length (readers_in items row) ≡ row.end - row.start
  row_length row fits =
      let d = length-drop row.start items in
      length-take-le (row.end - row.start) (drop row.start items) (omega (arith, d, fits))

  list_is : (x : ℕ) → x < length rows → get_or (lists_of rows items) x [] ≡ readers_in items (row_of rows x)
  list_is x known = get_or-map (readers_in items) rows x no_row [] known

  known_row : (x k : ℕ) → (row_of rows x).start ≤ k → k < (row_of rows x).end → x < length rows
  known_row x k from below = elim (cases_lt x (length rows)) [
    | inl known ↦ known
    | inr past ↦ let d = ap (λ (r : NetRow). r.end) (get_or_past rows x no_row past) in absurd (omega (arith, d, below))
  ]

  -- an item in a net's row is in the net's list of readers
  pub has_listed : (x l : ℕ) → HasReader rows items x l → Contains (get_or (lists_of rows items) x []) l
  has_listed x l r =
      let row = row_of rows x in
      let from = r.from_on in
      let below = r.below in
      let known = known_row x r.place from below in
      let fits = (within x known).1 in
      let k = r.place - row.start in
      let less : k < row.end - row.start = omega (arith, from, below) in
      let at : row.start + k ≡ r.place = omega (arith, from) in
      let long = row_length row fits in
      subst (λ (t : List ℕ). Contains t l) (sym (list_is x known)) (
        k,
        omega (arith, long, less),
        at_place row k l less ∙ (ap (λ (j : ℕ). get_or items j l) at
            ∙ (get_or_default items r.place l 0 (omega (arith, below, fits)) ∙ r.at)),
      )

  -- an item in a net's list of readers is in the net's row
  pub listed_has : (x l : ℕ) → Contains (get_or (lists_of rows items) x []) l → HasReader rows items x l
  listed_has x l c = elim (cases_lt x (length rows)) [
    | inl known ↦
        let row = row_of rows x in
        let found = subst (λ (t : List ℕ). Contains t l) (list_is x known) c in
        let fits = (within x known).1 in
        let long = row_length row fits in
        let k = found.0 in
        let inside = found.1 in
        let less : k < row.end - row.start = omega (arith, long, inside) in
        record {
          place = row.start + k;
          from_on = omega arith;
          below = omega (arith, less);
          at = get_or_default items (row.start + k) 0 l (omega (arith, less, fits)) ∙ (sym (at_place row k l less)
              ∙ found.2);
        }
    | inr past ↦
        let none : get_or (lists_of rows items) x [] ≡ [] = get_or_past (lists_of rows items) x []
        (let m = length-map rows (readers_in items) in omega (arith, m, past)) in
        let found = subst (λ (t : List ℕ). Contains t l) none c in
        let k = found.1 in
        absurd (omega (arith, k))
  ]

  -- rows that have all flip-flops and all gates are, as lists, a table of the circuit
  pub table_is : (c : Netlist) → length rows ≡ net_count c → IsPartTable c (HasReader rows items) (length c.gates)
      → IsTable c (lists_of rows items)
  table_is c count t = record {
    count = length-map rows (readers_in items) ∙ count;
    sound = λ x l h. t.sound x l (listed_has x l h);
    complete = λ x l reads. has_listed x l (elim reads [ inl g ↦ t.gates x l g.known g | inr d ↦ t.dffs x l d ]);
  }
