-- Acts that keep to some ports, one after the other.
use Rattle.std.proofs.Common.{◌≡◌, ℕ, List, [], ◌∷◌, ◌++◌, Bool, true, false, IsTrue, ◌||◌, take, length, refl, sym, ◌∙◌, ap, subst, append_assoc, append-nil, le_refl}
use Rattle.std.proofs.Math.Seq.{take-append_seam}
use Rattle.std.specs.Prelude.{Option, Some, None, Result, Ok, Err}
use Rattle.std.specs.List.{list_any}
use Rattle.std.specs.Option.{option_map}
use Rattle.std.specs.Io.KnownBytes.{append_known}
use Rattle.std.proofs.lemmas.List.Folds.{list_any-append}
use Rattle.ht_app.proofs.Common.{Act, ChangedOnly, Created, DeskView, Did, Does, IsCreatedOnly, IsOtherFile}
use Rattle.ht_app.proofs.Common.{IsOtherName, NotCreated, OutCall, OutPort, PermitsAll, Ports, RunError, Tries}
use Rattle.ht_app.proofs.Common.{WriteFault, Writes, is_port, make, makes, put}
use Rattle.ht_ports.specs.Desk.{AddedPart}
use Rattle.ht_inputs.specs.declared.run_error.RunError.TheVariants.{NoMemory}
use Rattle.ht_app.specs.Acts.{Stops, act_port}
use Rattle.ht_app.specs.Steps.{EndsWriting, HasWritten, Permits, StopsBy}
use Rattle.ht_app.proofs.ActLaws.{did_make, did_nothing, did_put, did_then, fault_after, is_no_port, is_that_port, stops_first}
use Rattle.ht_app.proofs.ChangedLaws.{changed_by_creating, changed_by_writing, changed_trans, kept, named_since, not_created}

-- ---- what is permitted

permits_first : (ports : Ports) (before xs ys : List Act) → PermitsAll ports before (xs ++ ys)
    → PermitsAll ports before xs
permits_first ports before [] ys all = tt
permits_first ports before (x ∷ xs) ys all = (all.0, permits_first ports (before ++ x ∷ []) xs ys all.1)

permits_rest : (ports : Ports) (before xs ys : List Act) → PermitsAll ports before (xs ++ ys)
    → PermitsAll ports (before ++ xs) ys
permits_rest ports before [] ys all = subst (λ (l : List Act). PermitsAll ports l ys) (sym (append-nil before)) all
permits_rest ports before (x ∷ xs) ys all = subst (λ (l : List Act). PermitsAll ports l ys)
    (append_assoc before (x ∷ []) xs) (permits_rest ports (before ++ x ∷ []) xs ys all.1)

-- acts that keep to the ports, and others that do so after them, keep to them together
pub permits_then : (ports : Ports) (before xs ys : List Act) → PermitsAll ports before xs
    → PermitsAll ports (before ++ xs) ys → PermitsAll ports before (xs ++ ys)
permits_then ports before [] ys first rest = subst (λ (l : List Act). PermitsAll ports l ys) (append-nil before) rest
permits_then ports before (x ∷ xs) ys first rest = (
  first.0,
  permits_then ports (before ++ x ∷ []) xs ys first.1
      (subst (λ (l : List Act). PermitsAll ports l ys) (sym (append_assoc before (x ∷ []) xs)) rest),
)

-- an act among those that keep to the ports goes to one that may be written
pub port_permitted : (ports : Ports) (whole : List Act) (act : Act) (rest : List Act)
    → PermitsAll ports [] (whole ++ act ∷ rest) → ports.writes (act_port act) ≡ true
port_permitted ports whole act rest all = by act (permits_rest ports [] whole (act ∷ rest) all).0
  where
    by : (act : Act) → Permits ports whole act → ports.writes (act_port act) ≡ true
    by (make port name) permits = permits.1
    by (put port text) permits = permits.0

or_none : (f : Bool) → (f || (false || false)) ≡ true → f ≡ true
or_none true is = refl
or_none false is = cc

-- ---- one more act

other_name : (known before : Option (List ℕ)) (name n : List ℕ) → known ≡ option_map (λ (_ : List ℕ). name) before
    → IsOtherFile (Some name) known n → IsOtherName known n
other_name None before name n is other = let none : false ≡ true = other.0 in absurd (cc)
other_name (Some old) None name n is other = let none : Some old ≡ None = is in absurd (cc)
other_name (Some old) (Some was) name n is other =
    let same : old ≡ name = cc in λ e. other.1 (e ∙ same)

-- the file of a port that was made has the name that it may have
file_named : {ports : Ports} {before : List Act} {a m : DeskView} (port : OutPort) (n : List ℕ)
    → HasWritten ports before a m → IsTrue (list_any (makes port) before)
    → IsOtherFile (ports.creates port) (m.named port) n → IsOtherName (m.named port) n
file_named {a = a} {m = m} port n h made other =
    let (name, is, named) = h.named port made in
    other_name (m.named port) (a.named port) name n named
    (subst (λ (created : Option (List ℕ)). IsOtherFile created (m.named port) n) is other)

-- an act that makes no file leaves the names
named_kept : {ports : Ports} {before : List Act} {a m : DeskView} (b : DeskView) → HasWritten ports before a m
    → (act : Act)
    → ((p : OutPort) → makes p act ≡ false) → b.named ≡ m.named → (p : OutPort)
    → IsTrue (list_any (makes p) (before ++ act ∷ [])) → (name : List ℕ) × (ports.creates p ≡ Some name)
    × (b.named p ≡ option_map (λ (_ : List ℕ). name) (a.named p))
named_kept {before = before} b h act none same p made =
    let (name, is, named) = h.named p (or_none (list_any (makes p) before)
    (ap (λ (f : Bool). list_any (makes p) before || (f || false)) (sym (none p))
    ∙ sym (list_any-append (makes p) before (act ∷ [])) ∙ made)) in
    (name, is, ap (λ f. f p) same ∙ named)

module _ {ports : Ports} {before : List Act} {a m b : DeskView} (port : OutPort) (h : HasWritten ports before a m) where
  changed_by_put : (text : List ℕ) → Permits ports before (put port text) → Writes port m b → ChangedOnly ports a b
  changed_by_put text permits w = changed_trans h.changed
      (changed_by_writing ports port m b permits.0 (λ n other file. file_named port n h (permits.1 file) other) w)

  -- with a text that may be put at a port, the acts written so far are one more
  pub has_put : (text : List ℕ) → PermitsAll ports before (put port text ∷ []) → Writes port m b
      → b.written port ≡ append_known (m.written port) text → HasWritten ports (before ++ put port text ∷ []) a b
  has_put text permits w added = record {
    permitted = permits_then ports [] before (put port text ∷ []) h.permitted permits;
    did = did_then h.did (did_put port text w added);
    changed = changed_by_put text permits.0 w;
    named = named_kept b h (put port text) (λ p. refl) w.named;
  }

  -- with a file that may be made at a port, the acts written so far are one more
  pub has_made : (name : List ℕ) → PermitsAll ports before (make port name ∷ []) → OutCall port m b
      → Created port name m b → HasWritten ports (before ++ make port name ∷ []) a b
  has_made name permits call made = record {
    permitted = permits_then ports [] before (make port name ∷ []) h.permitted permits;
    did = did_then h.did (did_make port name call made);
    changed = changed_trans h.changed (changed_by_creating ports port name m b permits.0.0 permits.0.1 call made);
    named = λ p was. named_now p (is_port p port) refl
        (sym (list_any-append (makes p) before (make port name ∷ [])) ∙ was);
  }
    where
      named_now : (p : OutPort) (f : Bool) → is_port p port ≡ f
          → (list_any (makes p) before || (is_port p port || false)) ≡ true
          → (n : List ℕ) × (ports.creates p ≡ Some n) × (b.named p ≡ option_map (λ (_ : List ℕ). n) (a.named p))
      named_now p true same was = (
        name,
        ap ports.creates (is_that_port p port same) ∙ permits.0.0,
        subst (λ (q : OutPort). b.named q ≡ option_map (λ (_ : List ℕ). name) (a.named q))
            (sym (is_that_port p port same))
            (named_since name port a m b (subst (λ (o : Option (List ℕ)). IsCreatedOnly o port a m) permits.0.0
            (h.changed.created port)) made.named),
      )
      named_now p false other was =
          let (n, is, named) = h.named p (or_none (list_any (makes p) before)
          (ap (λ (f : Bool). list_any (makes p) before || (f || false)) (sym other) ∙ was)) in
          (n, is, call.named.others p (is_no_port p port other) ∙ named)

  -- ---- a failed write

  -- a text that is put only in part stops the acts at it by a failed write
  pub put_stops : (text : List ℕ) → PermitsAll ports before (put port text ∷ []) → Writes port m b
      → AddedPart port text m b → StopsBy ports (before ++ put port text ∷ []) a b WriteFault
  put_stops text permits w part = (
    record {
      whole = before;
      act = put port text;
      rest = [];
      part = put port (take part.count text) ∷ [];
      are = refl;
      in_part = (part.count, part.proper, refl);
      did = did_then h.did (did_put port (take part.count text) w part.part.written);
      fault = fault_after h.changed.after (record { rose = part.cause; unsteady = part.steady });
    },
    changed_by_put text permits.0 w,
  )

  -- a file that isn't created stops the acts at it by a failed write
  pub make_stops : (name : List ℕ) → PermitsAll ports before (make port name ∷ []) → OutCall port m b
      → NotCreated port m b → StopsBy ports (before ++ make port name ∷ []) a b WriteFault
  make_stops name permits call failed = (
    record {
      whole = before;
      act = make port name;
      rest = [];
      part = [];
      are = refl;
      in_part = refl;
      did = did_then h.did (did_nothing failed.written failed.named failed.is_created);
      fault = fault_after h.changed.after (record { rose = failed.cause; unsteady = failed.steady });
    },
    changed_trans h.changed (not_created ports port m b permits.0.1 call failed),
  )

-- ---- steps after steps

-- acts that are tried after others were done are tried together with them
pub tries_then : {A B : Type 0} {xs ys : List Act} {value : A} {result : Result B RunError} {a m b : DeskView}
    → Tries xs (Ok value) a m → Tries ys result m b → Tries (xs ++ ys) result a b
tries_then {xs = xs} {ys = ys} {result = result} {b = b} first second = record {
  ends = λ ports before start h permits.
      subst (λ (l : List Act). EndsWriting ports l result start b) (append_assoc before xs ys)
      (second.ends ports (before ++ xs) start
      (first.ends ports before start h (permits_first ports before xs ys permits))
      (permits_rest ports before xs ys permits));
}

-- no act
pub tries_none : {A : Type 0} {value : A} {a : DeskView} → Tries [] (Ok value) a a
tries_none {a = a} = record {
  ends = λ ports before start h permits.
      subst (λ (l : List Act). HasWritten ports l start a) (sym (append-nil before)) h;
}

-- memory runs out after the first acts
tries_in_part : {A : Type 0} (B : Type 0) {xs : List Act} (ys : List Act) {value : A} {a b : DeskView}
    → Tries xs (Ok value) a b → Tries {A = B} (xs ++ ys) (Err NoMemory) a b
tries_in_part B {xs = xs} ys {b = b} first = record {
  ends = λ ports before start h permits.
      let wrote = first.ends ports before start h (permits_first ports before xs ys permits) in (
        length (before ++ xs),
        subst (λ (l : List Act). Did l start b) (sym (take-append_seam (before ++ xs) ys)
            ∙ ap (take (length (before ++ xs))) (append_assoc before xs ys)) wrote.did,
        wrote.changed,
      );
}

-- after all, or before all
pub runs_out_last : {A : Type 0} (B : Type 0) {acts : List Act} {value : A} {a b : DeskView}
    → Tries acts (Ok value) a b → Tries {A = B} acts (Err NoMemory) a b
runs_out_last B {acts = acts} {a = a} {b = b} first =
    subst (λ (l : List Act). Tries {A = B} l (Err NoMemory) a b) (append-nil acts) (tries_in_part B [] first)

-- memory may run out before the first of some acts
pub runs_out_first : (B : Type 0) (acts : List Act) (a : DeskView) → Tries {A = B} acts (Err NoMemory) a a
runs_out_first B acts a = tries_in_part B acts (tries_none {value = tt {0}} {a = a})

-- acts that take no memory, after others like them that were done, are one run of acts that takes none
pub does_then : {xs ys : List Act} {result : Result (Unit {0}) RunError} {a m b : DeskView} → Does xs (Ok tt) a m
    → Does ys result m b → Does (xs ++ ys) result a b
does_then first second = record { tries = tries_then first.tries second.tries; only = second.only }

-- a write fails in the first acts
pub does_in_part : {xs : List Act} (ys : List Act) {e : RunError} {a b : DeskView} → Does xs (Err e) a b
    → Does (xs ++ ys) (Err e) a b
does_in_part {xs = xs} ys {b = b} first = record {
  tries = record {
    ends = λ ports before start h permits.
        let stops = subst (StopsBy ports (before ++ xs) start b) first.only
        (first.tries.ends ports before start h (permits_first ports before xs ys permits)) in
        subst (StopsBy ports (before ++ (xs ++ ys)) start b) (sym first.only) (
          subst (λ (l : List Act). Stops l start b) (append_assoc before xs ys) (stops_first ys stops.0),
          stops.1,
        );
  };
  only = first.only;
}

-- ---- from the beginning

-- before the first act nothing is written
pub nothing_written : (ports : Ports) (a : DeskView) → HasWritten ports [] a a
nothing_written ports a = record {
  permitted = tt;
  did = did_nothing refl refl refl;
  changed = record {
    after = record { in_faults = λ p. le_refl _; out_faults = λ p. le_refl _; steady = refl };
    in_faults = λ p off. refl;
    out_faults = λ p off. refl;
    left = λ p off. refl;
    is_open = λ p off. refl;
    written = λ p off. refl;
    created = λ p. kept (ports.creates p) p a a (refl, refl);
    file = λ n other. refl;
  };
  named = λ p made. let none : false ≡ true = made in absurd (cc);
}

-- acts that are tried first, and keep to the ports, were all done or stopped for a cause
pub begins : {A : Type 0} {acts : List Act} {result : Result A RunError} {a b : DeskView} (ports : Ports)
    → Tries acts result a b → PermitsAll ports [] acts → EndsWriting ports acts result a b
begins {a = a} ports tries permits = tries.ends ports [] a (nothing_written ports a) permits
