-- A job's files, read one after the other.
use Rattle.std.proofs.Common.{◌≡◌, ◌≢◌, ◌<◌, ◌≤◌, ◌+◌, ◌⊎◌, ℕ, List, [], Bool, true, false, IsTrue, inl, inr, refl, sym, ◌∙◌, ap, subst, arith, le_refl}
use Rattle.std.specs.Prelude.{IsSome, is_some, Option, Some, None}
use Rattle.std.proofs.lemmas.Bool.{cases_lt}
use Rattle.ht_inputs.proofs.Common.{AcceptsInputs, Asked, BadTests, DeskView, EndsReading, Extra, HasNetlist}
use Rattle.ht_inputs.proofs.Common.{HasReadTo, InCall, InPort, IsMalformedTest, IsRefusedFor, JobBasis, ReadFault}
use Rattle.ht_inputs.proofs.Common.{ReadStops, RefusesFile, RunError, SaysBasis, StopsReading, Tern, TestsStop}
use Rattle.ht_inputs.proofs.Common.{Usage, WasRead, WriteFault, after_trans, input_name, order_of, refused_port}
use Rattle.ht_ports.specs.declared.ports.InPort.TheVariants.{Netlist, Tests, Report, Proofs, Faults}
use Rattle.ht_net.specs.Circuit.Netlist as net
use Rattle.ht_inputs.specs.declared.run_error.RunError.TheVariants.{NoMemory, NoSuchFault}
use Rattle.ht_inputs.specs.Reading.{LacksMemory, OnlyReads}
use Rattle.ht_net.specs.Detect.Detection.{IsStart, unknown_state}
use Rattle.ht_inputs.specs.Inputs.{AreVectorsOf, HasFault, IsStated, IsUnread}
use Rattle.ht_inputs.specs.Refusals.{NamesAbove}
use Rattle.ht_inputs.specs.Jobs.{may_state_start, turn_of}

-- ---- ports

-- two ports are one or not
pub same_or_other : (p q : InPort) → (p ≡ q) ⊎ (p ≢ q)
same_or_other Netlist Netlist = inl refl
same_or_other Tests Tests = inl refl
same_or_other Report Report = inl refl
same_or_other Proofs Proofs = inl refl
same_or_other Faults Faults = inl refl
same_or_other Extra Extra = inl refl
same_or_other p q = inr (λ e. cc)

-- two ports have two places, whether a start is read or not
place_differs : (is_start : Bool) (p q : InPort) → p ≢ q → turn_of p is_start ≢ turn_of q is_start
place_differs is_start Netlist Netlist ne e = absurd (ne refl)
place_differs is_start Tests Tests ne e = absurd (ne refl)
place_differs is_start Report Report ne e = absurd (ne refl)
place_differs is_start Proofs Proofs ne e = absurd (ne refl)
place_differs is_start Faults Faults ne e = absurd (ne refl)
place_differs is_start Extra Extra ne e = absurd (ne refl)
place_differs true p q ne e = absurd (omega (arith, e))
place_differs false p q ne e = absurd (omega (arith, e))

-- two ports have two places in the order of reading
pub order_differs : (job : Asked) (p q : InPort) → p ≢ q → order_of job p ≢ order_of job q
order_differs job p q = place_differs (may_state_start job) p q

-- ---- calls that read

module _ {port : InPort} {a b : DeskView} (call : InCall port a b) where
  left_still : (p : InPort) → p ≢ port → b.left p ≡ a.left p
  left_still p ne = call.left.others p ne

  only_reads : OnlyReads a b
  only_reads = record {
    after = call.after;
    out_faults = call.out_faults;
    file = call.file;
    written = call.written;
    named = call.named;
    is_created = call.is_created;
    tells = λ p. elim (same_or_other p port) [
      | inl e ↦ subst (λ (q : InPort). is_some (b.left q) ≡ is_some (a.left q)) (sym e) call.left.tells
      | inr ne ↦ ap is_some (left_still p ne)
    ];
  }

  unread_by : (p : InPort) → p ≢ port → IsUnread p a b
  unread_by p ne = record {
    left = left_still p ne;
    is_open = call.is_open.others p ne;
    in_faults = call.in_faults p ne;
  }

reads_none : {a : DeskView} → OnlyReads a a
reads_none = record {
  after = record { in_faults = λ p. le_refl _; out_faults = λ p. le_refl _; steady = refl };
  out_faults = refl;
  file = refl;
  written = refl;
  named = refl;
  is_created = refl;
  tells = λ p. refl;
}

reads_then : {a m b : DeskView} → OnlyReads a m → OnlyReads m b → OnlyReads a b
reads_then x y = record {
  after = after_trans x.after y.after;
  out_faults = y.out_faults ∙ x.out_faults;
  file = y.file ∙ x.file;
  written = y.written ∙ x.written;
  named = y.named ∙ x.named;
  is_created = y.is_created ∙ x.is_created;
  tells = λ p. y.tells p ∙ x.tells p;
}

-- ---- what is read after other files

read_before : {port : InPort} {name : List ℕ} {IsSo : List ℕ → Type 0} {a m : DeskView} → OnlyReads a m
    → WasRead port name IsSo m → WasRead port name IsSo a
read_before {port = port} {name = name} x read = record {
  there = λ none. read.there (ap (λ f. f name) x.file ∙ none);
  told = λ text is. read.told text (record {
    file = ap (λ f. f name) x.file ∙ is.file;
    known = x.tells port ∙ is.known;
  });
}

-- if what a text says means something more, a file that was read as the first was read as that too
pub read_so : {port : InPort} {name : List ℕ} {P : List ℕ → Type 0} (Q : List ℕ → Type 0) {a : DeskView}
    → ((text : List ℕ) → P text → Q text) → WasRead port name P a → WasRead port name Q a
read_so Q so read = record { there = read.there; told = λ text is. so text (read.told text is) }

unread_then : {p : InPort} {a m b : DeskView} → IsUnread p a m → IsUnread p m b → IsUnread p a b
unread_then x y = record {
  left = y.left ∙ x.left;
  is_open = y.is_open ∙ x.is_open;
  in_faults = y.in_faults ∙ x.in_faults;
}

-- a file that is told of, and isn't told to be absent
known_holds : (file : Option (Option (List ℕ))) → IsSome file → file ≢ Some None
    → (bytes : List ℕ) × (file ≡ Some (Some bytes))
known_holds None known there = let e : false ≡ true = known in cc
known_holds (Some None) known there = absurd (there refl)
known_holds (Some (Some bytes)) known there = (bytes, refl)

-- ---- one file more

-- before the first file a job has read none
pub nothing_read : (job : Asked) (basis : JobBasis) (a : DeskView) → IsStated job basis
    → ((name : List ℕ) → IsTrue a.steady → IsSome (a.file name)) → HasReadTo job basis 0 a a
nothing_read job basis a stated tells = record {
  reads = reads_none;
  netlist = λ some. absurd (omega (arith, some));
  stated = stated;
  accepts = λ p before. absurd (omega (arith, before));
  unread = λ p after. record { left = refl; is_open = refl; in_faults = refl };
  others = λ p none. record { left = refl; is_open = refl; in_faults = refl };
  tells = tells;
}

module _ {job : Asked} {basis : JobBasis} {place : ℕ} {a m : DeskView} (h : HasReadTo job basis place a m) where
  -- a port that the job doesn't read
  pub skipped : (port : InPort) → order_of job port ≡ place → input_name job port ≡ None → HasNetlist basis.circuit
      → HasReadTo job basis (place + 1) a m
  skipped port at none netlist = record {
    reads = h.reads;
    netlist = λ some. netlist;
    stated = h.stated;
    accepts = λ p before name is. elim (same_or_other p port) [
      | inl e ↦ let some : None ≡ Some name =
          sym none ∙ ap (input_name job) (sym e) ∙ is in cc
      | inr ne ↦ h.accepts p (omega (arith, before, at, order_differs job p port ne)) name is
    ];
    unread = λ p after. h.unread p (omega (arith, after));
    others = h.others;
    tells = h.tells;
  }

  module _ {port : InPort} {name : List ℕ} {b : DeskView} (at : order_of job port ≡ place)
      (is : input_name job port ≡ Some name) (call : InCall port m b) where
    read_there : (p : InPort) (other : List ℕ) → p ≡ port → input_name job p ≡ Some other → other ≡ name
    read_there p other e reads =
        let same : Some other ≡ Some name = sym reads ∙ ap (input_name job) e ∙ is in cc

    unread_at : (p : InPort) → place + 1 ≤ order_of job p → IsUnread p a b
    unread_at p after = unread_then (h.unread p (omega (arith, after)))
        (unread_by call p (λ e. let same : order_of job p ≡ order_of job port = ap (order_of job) e in
        omega (arith, after, at, same)))

    other_at : (p : InPort) → input_name job p ≡ None → IsUnread p a b
    other_at p none = elim (same_or_other p port) [
      | inl e ↦ let some : None ≡ Some name = sym none ∙ ap (input_name job) e ∙ is in cc
      | inr ne ↦ unread_then (h.others p none) (unread_by call p ne)
    ]

    -- a file that says its part of the basis is the next that the job has read
    pub one_more : HasNetlist basis.circuit → WasRead port name (SaysBasis job basis port) m
        → HasReadTo job basis (place + 1) a b
    one_more netlist read = record {
      reads = reads_then h.reads (only_reads call);
      netlist = λ some. netlist;
      stated = h.stated;
      accepts = λ p before other reads. elim (same_or_other p port) [
        | inl e ↦ subst (λ (q : InPort). WasRead q other (SaysBasis job basis q) a) (sym e)
            (subst (λ (n : List ℕ). WasRead port n (SaysBasis job basis port) a) (sym (read_there p other e reads))
            (read_before h.reads read))
        | inr ne ↦ h.accepts p (omega (arith, before, at, order_differs job p port ne)) other reads
      ];
      unread = unread_at;
      others = other_at;
      tells = h.tells;
    }

    -- ---- a file that ends the run

    refuses : (order_of job Tests ≤ order_of job port → HasFault job basis.circuit) → (e : RunError)
        → (refused_port job e ≡ Some port) × WasRead port name (IsRefusedFor job basis e) m
        → RefusesFile job e a b
    refuses fault e refused = record {
      basis = basis;
      port = port;
      name = name;
      at = refused.0;
      reads = is;
      circuit = λ some. h.netlist (omega (arith, some, at));
      stated = h.stated;
      before = λ p before. h.accepts p (omega (arith, before, at));
      fault = fault;
      refused = read_before h.reads refused.1;
      unread = λ p after. unread_at p (omega (arith, after, at));
    }

    stops_reading : (order_of job Tests ≤ order_of job port → HasFault job basis.circuit) → (e : RunError)
        → ReadStops job basis port name m b e
        → StopsReading job a b e
    unfolding refuses
    stops_reading fault Usage stops = absurd stops
    stops_reading fault ReadFault stops = record {
      unread = λ p after. unread_at p (omega (arith, after, at));
      rose = omega (arith, h.reads.after.in_faults port, stops.rose);
      basis = basis;
      port = port;
      name = name;
      reads = is;
      circuit = λ some. h.netlist (omega (arith, some, at));
      stated = h.stated;
      fault = λ same. fault (omega (arith, ap (order_of job) same));
      before = λ p before. h.accepts p (omega (arith, before, at));
      lacks = λ steady holds. stops.lacks (subst IsTrue (sym h.reads.after.steady) steady)
          (holds.0, ap (λ f. f name) h.reads.file ∙ holds.1);
      held = λ steady p n before reads. known_holds (a.file n) (h.tells n steady)
          (h.accepts p (omega (arith, before, at)) n reads).there;
    }
    stops_reading fault WriteFault stops = absurd stops
    stops_reading fault NoMemory stops = record {
      basis = basis;
      place = place;
      circuit = h.netlist;
      stated = h.stated;
      before = h.accepts;
      unread = λ p after. unread_at p (omega (arith, after));
    }
    stops_reading fault (NoSuchFault faults) stops = let none : None ≡ Some port = stops.0 in cc
    stops_reading fault e stops = refuses fault e stops

    -- if reading the next file in the order ends the run, the reading of the job ends for that cause
    pub stops_there : (order_of job Tests ≤ order_of job port → HasFault job basis.circuit) → (e : RunError)
        → ReadStops job basis port name m b e
        → EndsReading job a b e
    stops_there fault e stops = record {
      reads = reads_then h.reads (only_reads call);
      others = other_at;
      cause = stops_reading fault e stops;
    }

  -- ---- all files

  -- reading may end for want of memory after any files that were read
  pub no_room : EndsReading job a m NoMemory
  no_room = record {
    reads = h.reads;
    others = h.others;
    cause = record {
      basis = basis;
      place = place;
      circuit = h.netlist;
      stated = h.stated;
      before = h.accepts;
      unread = λ p after. h.unread p (omega (arith, after));
    };
  }

  -- the fault that the job names isn't one of the circuit
  pub lacks_there : (faults : ℕ) → order_of job Tests ≡ place → 0 < place → NamesAbove job basis.circuit faults
      → EndsReading job a m (NoSuchFault faults)
  lacks_there faults at some above = record {
    reads = h.reads;
    others = h.others;
    cause = record {
      basis = basis;
      circuit = h.netlist some;
      stated = h.stated;
      before = λ p less. h.accepts p (omega (arith, less, at));
      above = above;
      unread = λ p after. h.unread p (omega (arith, after, at));
    };
  }

  -- a job that has read all files in its order accepts its inputs
  pub accepts_all : ((p : InPort) → place ≤ order_of job p → input_name job p ≡ None) → HasNetlist basis.circuit
      → IsStart basis.circuit basis.content.start → AreVectorsOf basis.circuit basis.content.list
      → AcceptsInputs job basis a
  accepts_all rest netlist latches widths = record {
    each = λ p name is. elim (cases_lt (order_of job p) place) [
      | inl before ↦ h.accepts p before name is
      | inr after ↦ let none : None ≡ Some name = sym (rest p after) ∙ is in cc
    ];
    stated = h.stated;
    circuit = λ some. netlist;
    latches = latches;
    widths = widths;
  }

-- ---- what files are first read for

-- the empty netlist: no inputs, flip-flops, gates, outputs or names
pub no_circuit : net.Netlist
no_circuit = record { inputs = 0; dffs = []; gates = []; outputs = []; names = [] }

-- the basis of a job that reads a start, vectors, and rows
abbrev pub basis_from : net.Netlist → List Tern → List (List Bool) → List (List Tern) → JobBasis
basis_from c start list rows = record {
  circuit = c;
  rows = rows;
  chosen = [];
  representatives = [];
  content = record { start = start; list = list; budget = 0; saids = []; entries = [] };
  follows = false;
}

-- that of a job that states no start
abbrev pub basis_of : net.Netlist → List (List Bool) → List (List Tern) → JobBasis
basis_of c = basis_from c (unknown_state c)

-- memory may run out before any file is opened
pub lacks_at_first : (job : Asked) (a : DeskView) → LacksMemory job a a
lacks_at_first job a = record {
  basis = basis_of no_circuit [] [];
  place = 0;
  circuit = λ some. absurd (omega (arith, some));
  stated = λ none. refl;
  before = λ p early. absurd (omega (arith, early));
  unread = λ p after. record { left = refl; is_open = refl; in_faults = refl };
}

-- why reading tests ends a job that refuses a malformed line of them
pub tests_stop : (job : Asked) (basis : JobBasis) (most : ℕ) (name : List ℕ) (a b : DeskView)
    → ((line : ℕ) → refused_port job (BadTests line) ≡ Some Tests)
    → ((line : ℕ) (text : List ℕ) → line ≤ most → IsMalformedTest basis.circuit text line
    → IsRefusedFor job basis (BadTests line) text)
    → (e : RunError) → TestsStop basis.circuit most name a b e → ReadStops job basis Tests name a b e
tests_stop job basis most name a b at refuses ReadFault s = s
tests_stop job basis most name a b at refuses NoMemory s = tt
tests_stop job basis most name a b at refuses (BadTests line) s =
    (at line, read_so (IsRefusedFor job basis (BadTests line)) (λ text. refuses line text s.1) s.0)
tests_stop job basis most name a b at refuses e s = absurd s
