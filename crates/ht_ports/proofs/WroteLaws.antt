-- A text that is written in pieces.
use Rattle.std.proofs.Common.{◌+◌, ℕ, List, ◌++◌, length, take, Bool, true, false, IsTrue, sym, ◌∙◌, ap, subst, arith}
use Rattle.std.proofs.lemmas.List.{take-append-le, length-append}
use Rattle.std.proofs.Math.Seq.{take-append-add}
use Rattle.std.specs.Io.KnownBytes.{append_known}
use Rattle.ht_ports.specs.Desk.{DeskView, Writes, Added, AddedPart, Wrote}
use Rattle.ht_ports.specs.declared.ports.OutPort.{OutPort}
use Rattle.ht_ports.proofs.CallLaws.{append_known_more, added_more, writes_trans}

-- the first piece failed
part_before : (port : OutPort) (xs ys : List ℕ) (a b : DeskView) → AddedPart port xs a b
    → AddedPart port (xs ++ ys) a b
part_before port xs ys a b p = record {
  count = p.count;
  proper = omega (arith, p.proper, length-append xs ys);
  part = record {
    written = p.part.written ∙ ap (λ (l : List ℕ). append_known (a.written port) l)
        (sym (take-append-le p.count xs ys (omega (arith, p.proper))));
  };
  cause = p.cause;
  steady = p.steady;
}

-- the first piece was added
part_after : (port : OutPort) (xs ys : List ℕ) (a b c : DeskView) → Writes port a b → Added port xs a b
    → AddedPart port ys b c → AddedPart port (xs ++ ys) a c
part_after port xs ys a b c before added p = record {
  count = length xs + p.count;
  proper = omega (arith, p.proper, length-append xs ys);
  part = record {
    written = p.part.written
        ∙ (ap (λ known. append_known known (take p.count ys)) added.written
        ∙ (append_known_more (a.written port) xs (take p.count ys)
        ∙ ap (λ (l : List ℕ). append_known (a.written port) l) (sym (take-append-add xs ys p.count))));
  };
  cause = omega (arith, before.call.after.out_faults port, p.cause);
  steady = λ s. p.steady (subst IsTrue (sym before.call.after.steady) s);
}

-- xs and then ys
pub wrote_then : {port : OutPort} {xs ys : List ℕ} {ok : Bool} {a b c : DeskView}
    → Wrote port xs true a b → Wrote port ys ok b c → Wrote port (xs ++ ys) ok a c
wrote_then {ok = true} p q = record {
  frame = writes_trans _ _ _ _ p.frame q.frame;
  outcome = added_more _ _ _ _ _ _ p.outcome q.outcome;
}
wrote_then {ok = false} p q = record {
  frame = writes_trans _ _ _ _ p.frame q.frame;
  outcome = part_after _ _ _ _ _ _ p.frame p.outcome q.outcome;
}

-- xs failed, so that ys wasn't tried
pub wrote_failed : {port : OutPort} {xs : List ℕ} (ys : List ℕ) {a b : DeskView}
    → Wrote port xs false a b → Wrote port (xs ++ ys) false a b
wrote_failed ys p = record { frame = p.frame; outcome = part_before _ _ ys _ _ p.outcome }
