-- Runs of calls.
use Rattle.std.proofs.Common.{◌≡◌, ℕ, ◌+◌, List, [], ◌++◌, take, drop, refl, sym, ◌∙◌, ap, subst, append_assoc, le_trans, Some, None, Bool, IsTrue}
use lib.Seq.{take-add}
use Rattle.std.specs.declared.option.Option.{Option}
use Rattle.std.specs.Io.KnownBytes.{append_known, prepend_known}
use Rattle.ht_ports.specs.Desk.{DeskView, IsAfter, CountsAt, ChangesAt, TurnsOn, InCall, OutCall, Reads, TookFront, Writes, Added, IsOtherName}
use Rattle.ht_ports.specs.declared.ports.InPort.{InPort}
use Rattle.ht_ports.specs.declared.ports.OutPort.{OutPort}

-- two runs of calls that lower no count of faults and leave the desk as steady do so together too
pub after_trans : {a b c : DeskView} → IsAfter a b → IsAfter b c → IsAfter a c
after_trans p q = record {
  in_faults = λ at. le_trans (p.in_faults at) (q.in_faults at);
  out_faults = λ at. le_trans (p.out_faults at) (q.out_faults at);
  steady = q.steady ∙ p.steady;
}

counts_trans : {Port : Type 0} {port : Port} {x y z : Port → ℕ} → CountsAt port x y → CountsAt port y z
    → CountsAt port x z
counts_trans p q = λ o ne. q o ne ∙ p o ne

changes_trans : {Port : Type 0} {port : Port} {x y z : Port → Option (List ℕ)} → ChangesAt port x y → ChangesAt port y z
    → ChangesAt port x z
changes_trans p q = record { tells = q.tells ∙ p.tells; others = λ o ne. q.others o ne ∙ p.others o ne }

turns_trans : {Port : Type 0} {port : Port} {x y z : Port → Bool} → TurnsOn port x y → TurnsOn port y z
    → TurnsOn port x z
turns_trans p q = record { others = λ o ne. q.others o ne ∙ p.others o ne; stays = λ on. q.stays (p.stays on) }

-- two calls at an in-port, one after the other, change together only what one may
pub in_call_trans : (port : InPort) (a b c : DeskView) → InCall port a b → InCall port b c → InCall port a c
in_call_trans port a b c p q = record {
  after = after_trans p.after q.after;
  in_faults = counts_trans p.in_faults q.in_faults;
  out_faults = q.out_faults ∙ p.out_faults;
  file = q.file ∙ p.file;
  written = q.written ∙ p.written;
  named = q.named ∙ p.named;
  is_created = q.is_created ∙ p.is_created;
  left = changes_trans p.left q.left;
  is_open = turns_trans p.is_open q.is_open;
}

-- reads at a port and then more of them are reads at that port
pub reads_trans : (port : InPort) (a b c : DeskView) → Reads port a b → Reads port b c → Reads port a c
reads_trans port a b c p q = record {
  call = in_call_trans port a b c p.call q.call;
  is_open = q.is_open ∙ p.is_open;
}

-- the second call keeps the port's name
pub out_call_trans : (port : OutPort) (a b c : DeskView) → OutCall port a b → OutCall port b c → c.named port
    ≡ b.named port → OutCall port a c
out_call_trans port a b c p q same = record {
  after = after_trans p.after q.after;
  in_faults = q.in_faults ∙ p.in_faults;
  out_faults = counts_trans p.out_faults q.out_faults;
  left = q.left ∙ p.left;
  is_open = q.is_open ∙ p.is_open;
  written = changes_trans p.written q.written;
  named = changes_trans p.named q.named;
  is_created = turns_trans p.is_created q.is_created;
  tells_files = λ n. q.tells_files n ∙ p.tells_files n;
  keeps_files = λ s n h. q.keeps_files (subst IsTrue (sym p.after.steady) s) n (p.keeps_files s n h);
  other_files = λ n other. q.other_files n other ∙ p.other_files n
      (λ file. subst (λ (o : Option (List ℕ)). IsOtherName o n) same (other file));
}

-- writes at a port and then more of them are writes at that port
pub writes_trans : (port : OutPort) (a b c : DeskView) → Writes port a b → Writes port b c → Writes port a c
writes_trans port a b c p q = record {
  call = out_call_trans port a b c p.call q.call (ap (λ f. f port) q.named);
  named = q.named ∙ p.named;
  is_created = q.is_created ∙ p.is_created;
}

-- one list and then another appended to a text are both appended at once
pub append_known_more : (known : Option (List ℕ)) (xs ys : List ℕ) → append_known (append_known known xs) ys
    ≡ append_known known (xs ++ ys)
append_known_more None xs ys = refl
append_known_more (Some known) xs ys = ap Some (append_assoc known xs ys)

-- bytes that are added to a port, and then more of them, are added as one list
pub added_more : (port : OutPort) (a b c : DeskView) (xs ys : List ℕ) → Added port xs a b → Added port ys b c
    → Added port (xs ++ ys) a c
added_more port a b c xs ys p q = record
    { written = q.written ∙ ap (λ known. append_known known ys) p.written ∙ append_known_more (a.written port) xs ys }

-- n bytes more of one text
pub added_part : (port : OutPort) (a b c : DeskView) (text : List ℕ) (done n : ℕ) → Added port (take done text) a b
    → Added port (take n (drop done text)) b c → Added port (take (done + n) text) a c
added_part port a b c text done n p q = rw (take-add done n text) (added_more port a b c _ _ p q)

-- an empty list prepended to a text leaves it
pub prepend_known_nil : (known : Option (List ℕ)) → prepend_known [] known ≡ known
prepend_known_nil None = refl
prepend_known_nil (Some xs) = refl

-- one list and then another prepended to a text are both prepended at once
pub prepend_known_more : (known : Option (List ℕ)) (xs ys : List ℕ) → prepend_known xs (prepend_known ys known)
    ≡ prepend_known (xs ++ ys) known
prepend_known_more None xs ys = refl
prepend_known_more (Some known) xs ys = ap Some (sym (append_assoc xs ys known))

-- more bytes were taken
pub took_more : (port : InPort) (xs ys all : List ℕ) (a b c : DeskView) → TookFront port xs a b → TookFront port ys b c
    → all ≡ xs ++ ys → TookFront port all a c
took_more port xs ys all a b c p q are = record {
  front = p.front ∙ ap (prepend_known xs) q.front ∙ prepend_known_more (c.left port) xs ys
      ∙ ap (λ (l : List ℕ). prepend_known l (c.left port)) (sym are);
}
