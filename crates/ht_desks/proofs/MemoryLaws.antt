-- What calls leave of a desk in memory.
use Rattle.std.proofs.Common.{◌≡◌, ◌≢◌, ◌≤◌, ℕ, drop, Some, le_refl, le_trans, refl, ◌∙◌, ap}
use Rattle.ht_ports.specs.Causes.{next_count}
use Rattle.ht_ports.specs.declared.ports.InPort.{InPort}
use Rattle.ht_ports.specs.declared.ports.OutPort.{OutPort}
use Rattle.ht_ports.specs.declared.per_port.PerInPort.{PerInPort}
use Rattle.ht_desks.specs.declared.memory.MemoryDesk.{MemoryDesk}
use Rattle.ht_ports.specs.PerPort.{at_in_port}
use Rattle.ht_desks.specs.Store.{bytes_of}
use Rattle.ht_ports.specs.Desk.{CountsAt, DeskView, KeepsAll, Reads, Writes}
use Rattle.ht_desks.specs.Memory.{CountsOutFault, memory_view}

-- a port took more of its text
pub reads_taken : (port : InPort) (m : MemoryDesk) (taken : PerInPort ℕ)
    → ((p : InPort) → p ≢ port → at_in_port taken p ≡ at_in_port m.positions p)
    → Reads port (memory_view m) (memory_view (record m { positions = taken }))
reads_taken port m taken others = record {
  call = record {
    after = record { in_faults = λ p. le_refl _; out_faults = λ p. le_refl _; steady = refl };
    in_faults = λ p ne. refl;
    out_faults = refl;
    file = refl;
    written = refl;
    named = refl;
    is_created = refl;
    left = record {
      tells = refl;
      others = λ p ne. ap (λ (n : ℕ). Some (drop n (bytes_of (at_in_port m.texts p)))) (others p ne);
    };
    is_open = record { others = λ p ne. refl; stays = λ on. on };
  };
  is_open = refl;
}

-- ---- a write that failed, and is then counted

module _ {port : OutPort} {a : DeskView} (m : DeskView) (faults : OutPort → ℕ) where
  -- writes whose fault is counted after them change only what writes may
  pub writes_counted : Writes port a m → ((p : OutPort) → m.out_faults p ≤ faults p)
      → CountsAt port m.out_faults faults → Writes port a (record m { out_faults = faults })
  writes_counted w later others = record {
    call = record {
      after = record {
        in_faults = w.call.after.in_faults;
        out_faults = λ p. le_trans (w.call.after.out_faults p) (later p);
        steady = w.call.after.steady;
      };
      in_faults = w.call.in_faults;
      out_faults = λ p ne. others p ne ∙ w.call.out_faults p ne;
      left = w.call.left;
      is_open = w.call.is_open;
      written = w.call.written;
      named = w.call.named;
      is_created = w.call.is_created;
      tells_files = w.call.tells_files;
      keeps_files = w.call.keeps_files;
      other_files = w.call.other_files;
    };
    named = w.named;
    is_created = w.is_created;
  }

  -- where they left all as it was, that fault is all that differs
  pub fails_counted : KeepsAll a m → faults port ≡ next_count (m.out_faults port)
      → CountsAt port m.out_faults faults → CountsOutFault port a (record m { out_faults = faults })
  fails_counted keeps one others = record {
    one = one ∙ ap (λ f. next_count (f port)) keeps.ports.out_faults;
    others = λ p ne. others p ne ∙ ap (λ f. f p) keeps.ports.out_faults;
    same = record {
      file = keeps.file;
      ports = record {
        left = keeps.ports.left;
        written = keeps.ports.written;
        named = keeps.ports.named;
        is_open = keeps.ports.is_open;
        is_created = keeps.ports.is_created;
        in_faults = keeps.ports.in_faults;
        out_faults = refl;
        steady = keeps.ports.steady;
      };
    };
  }
