-- What acts leave, one after the other.
use Rattle.std.proofs.Common.{◌≡◌, ◌≢◌, ℕ, List, [], ◌∷◌, ◌++◌, Bool, true, false, ◌||◌, IsTrue, refl, sym, ◌∙◌, ap, subst, append_assoc, arith}
use Rattle.std.specs.Prelude.{Option, if◌then◌else◌}
use Rattle.std.specs.List.{list_any}
use Rattle.std.specs.Option.{option_map}
use Rattle.std.specs.Io.KnownBytes.{append_known}
use Rattle.std.proofs.lemmas.List.Folds.{list_any-append}
use Rattle.ht_app.proofs.Common.{Act, Created, DeskView, Did, Err, Out, OutCall, OutPort, Writes, is_port, make, makes}
use Rattle.ht_app.proofs.Common.{put}
use Rattle.ht_ports.specs.Desk.{IsAfter}
use Rattle.ht_ports.specs.declared.ports.OutPort.TheVariants.{Tests, Report, Proofs}
use Rattle.ht_app.specs.Acts.{IsWriteFault, written_by, named_by, written_after, named_after, Stops}

-- ---- ports

-- ports that the test finds the same are the same
pub is_that_port : (p port : OutPort) → is_port p port ≡ true → p ≡ port
is_that_port Tests Tests is = refl
is_that_port Report Report is = refl
is_that_port Proofs Proofs is = refl
is_that_port Out Out is = refl
is_that_port Err Err is = refl
is_that_port p port is = cc

is_itself : (p : OutPort) → is_port p p ≡ true
is_itself Tests = refl
is_itself Report = refl
is_itself Proofs = refl
is_itself Out = refl
is_itself Err = refl

-- ports that the test finds different are different
pub is_no_port : (p port : OutPort) → is_port p port ≡ false → p ≢ port
is_no_port p port not same =
    let both : true ≡ false = sym (is_itself p) ∙ ap (is_port p) same ∙ not in cc

-- a test of ports gives this at the port, and that at each other one
at_port : {A : Type 0} (port p : OutPort) (this that got : A) → (p ≡ port → got ≡ this) → (p ≢ port → got ≡ that)
    → got ≡ (if is_port p port then this else that)
at_port {A} port p this that got same other = by (is_port p port) refl
  where
    by : (f : Bool) → is_port p port ≡ f → got ≡ (if f then this else that)
    by true is = same (is_that_port p port is)
    by false not = other (is_no_port p port not)

-- ---- acts after acts

written_then : (p : OutPort) (xs ys : List Act) (w : Option (List ℕ))
    → written_after p (xs ++ ys) w ≡ written_after p ys (written_after p xs w)
written_then p [] ys w = refl
written_then p (x ∷ xs) ys w = written_then p xs ys (written_by p x w)

named_then : (p : OutPort) (xs ys : List Act) (n : Option (List ℕ))
    → named_after p (xs ++ ys) n ≡ named_after p ys (named_after p xs n)
named_then p [] ys n = refl
named_then p (x ∷ xs) ys n = named_then p xs ys (named_by p x n)

either_made : (x y was : Bool) → (y || (x || was)) ≡ ((x || y) || was)
either_made true true was = refl
either_made true false was = refl
either_made false true was = refl
either_made false false was = refl

-- acts that were done after others were done together with them
pub did_then : {xs ys : List Act} {a m b : DeskView} → Did xs a m → Did ys m b → Did (xs ++ ys) a b
did_then {xs = xs} {ys = ys} {a = a} x y = record {
  written = λ p. y.written p ∙ ap (written_after p ys) (x.written p) ∙ sym (written_then p xs ys (a.written p));
  named = λ p. y.named p ∙ ap (named_after p ys) (x.named p) ∙ sym (named_then p xs ys (a.named p));
  is_created = λ p. y.is_created p ∙ ap (λ f. list_any (makes p) ys || f) (x.is_created p)
      ∙ either_made (list_any (makes p) xs) (list_any (makes p) ys) (a.is_created p)
      ∙ ap (λ f. f || a.is_created p) (sym (list_any-append (makes p) xs ys));
}

-- nothing but counts changed
pub did_nothing : {a b : DeskView} → b.written ≡ a.written → b.named ≡ a.named → b.is_created ≡ a.is_created
    → Did [] a b
did_nothing written named created = record {
  written = λ p. ap (λ f. f p) written;
  named = λ p. ap (λ f. f p) named;
  is_created = λ p. ap (λ f. f p) created;
}

-- a text that was written at a port is an act that was done: to put it there
pub did_put : {a b : DeskView} (port : OutPort) (text : List ℕ) → Writes port a b
    → b.written port ≡ append_known (a.written port) text → Did (put port text ∷ []) a b
did_put {a = a} {b = b} port text w added = record {
  written = λ p. at_port port p (append_known (a.written p) text) (a.written p) (b.written p)
      (λ same. subst (λ (q : OutPort). b.written q ≡ append_known (a.written q) text) (sym same) added)
      (w.call.written.others p);
  named = λ p. ap (λ f. f p) w.named;
  is_created = λ p. ap (λ f. f p) w.is_created;
}

-- a file that was created at a port is an act that was done: to make it there
pub did_make : {a b : DeskView} (port : OutPort) (name : List ℕ) → OutCall port a b → Created port name a b
    → Did (make port name ∷ []) a b
did_make {a = a} {b = b} port name call made = record {
  written = λ p. at_port port p (option_map (λ (_ : List ℕ). []) (a.written p)) (a.written p) (b.written p)
      (λ same. subst (λ (q : OutPort). b.written q ≡ option_map (λ (_ : List ℕ). []) (a.written q)) (sym same)
      made.written)
      (call.written.others p);
  named = λ p. at_port port p (option_map (λ (_ : List ℕ). name) (a.named p)) (a.named p) (b.named p)
      (λ same. subst (λ (q : OutPort). b.named q ≡ option_map (λ (_ : List ℕ). name) (a.named q)) (sym same)
      made.named)
      (call.named.others p);
  is_created = λ p. created p (is_port p port) refl;
}
  where
    created : (p : OutPort) (f : Bool) → is_port p port ≡ f → b.is_created p ≡ ((f || false) || a.is_created p)
    created p true is = ap b.is_created (is_that_port p port is) ∙ made.is_created
    created p false not = call.is_created.others p (is_no_port p port not)

-- ---- where acts stop

-- acts that stop also stop if more would come after
pub stops_first : {xs : List Act} {a b : DeskView} (ys : List Act) → Stops xs a b → Stops (xs ++ ys) a b
stops_first ys s = record {
  whole = s.whole;
  act = s.act;
  rest = s.rest ++ ys;
  part = s.part;
  are = ap (λ (l : List Act). l ++ ys) s.are ∙ append_assoc s.whole (s.act ∷ s.rest) ys;
  in_part = s.in_part;
  did = s.did;
  fault = s.fault;
}

-- a write that fails after some calls counts as one that fails from before them
pub fault_after : {port : OutPort} {a m b : DeskView} → IsAfter a m → IsWriteFault port m b → IsWriteFault port a b
fault_after {port = port} after fault = record {
  rose = omega (arith, after.out_faults port, fault.rose);
  unsteady = λ steady. fault.unsteady (subst IsTrue (sym after.steady) steady);
}

-- if acts stop after others were done, all of them together stop
unfoldable pub stops_then : {xs ys : List Act} {a m b : DeskView} → IsAfter a m → Did xs a m → Stops ys m b
    → Stops (xs ++ ys) a b
stops_then {xs = xs} {a = a} {b = b} after did s = record {
  whole = xs ++ s.whole;
  act = s.act;
  rest = s.rest;
  part = s.part;
  are = ap (λ (l : List Act). xs ++ l) s.are ∙ sym (append_assoc xs s.whole (s.act ∷ s.rest));
  in_part = s.in_part;
  did = subst (λ (l : List Act). Did l a b) (sym (append_assoc xs s.whole s.part))
      (did_then did s.did);
  fault = fault_after after s.fault;
}
