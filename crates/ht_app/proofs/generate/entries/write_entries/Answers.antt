use Rattle.std.proofs.Common.{◌≡◌, ◌<◌, ◌+◌, List, length, sym, subst, rules}
use Rattle.std.specs.Prelude.{Result, Ok, Err}
use Rattle.ht_ports.specs.declared.ports.OutPort.TheVariants.{Proofs}
use Rattle.ht_engine.specs.declared.step.Step.{Step}
use Rattle.ht_app.proofs.Common.{RunError}
use Rattle.ht_app.specs.Generating.{Adds, WritesEntries}
use Rattle.ht_app.proofs.SearchedLaws.{adds_then, one_entry_more, stays_twice}
use Rattle.ht_app.proofs.generate.entries.write_entries.Goals as goal

pub returns-in_err-put_entry-clause-writes : goal.returns-in_err-put_entry-clause-writes
returns-in_err-put_entry-clause-writes g c =
    let kept = c.args.verdicts.now.entries in
    let i = c.loop-fault.fault in
    let inside : i < length kept = search rules in
    let a = g.D.Desk.view c.args.desk.now in
    let b = g.D.Desk.view c.put_entry.new.desk in
    let error : Result (Unit {0}) RunError = Err c.in_err-put_entry.field-0.0 in
    let is : c.from_residual.result ≡ error = search rules in
    subst (λ (r : Result (Unit {0}) RunError). WritesEntries kept c.args.sizes.now c.put_entry.new.sizes r a b) (sym is)
    (record {
      count = i + 1;
      adds = subst (λ (l : List Step). Adds l c.args.sizes.now c.put_entry.new.sizes error a b)
          (one_entry_more kept i inside)
          (adds_then error c.loop-fault.invariant.so_far c.in_err-put_entry.ensures.adds);
      whole = tt;
    })

pub loop-fault-preserved : goal.loop-fault-preserved
loop-fault-preserved g c =
    let kept = c.args.verdicts.now.entries in
    let i = c.loop-fault.fault in
    let inside : i < length kept = search rules in
    record {
      proofs = c.in_ok-put_entry.ensures.stays.is_created Proofs c.loop-fault.invariant.proofs;
      stays = stays_twice c.loop-fault.invariant.stays c.in_ok-put_entry.ensures.stays;
      so_far = subst (λ (l : List Step). Adds {A = Unit {0}} l c.args.sizes.now c.put_entry.new.sizes (Ok tt)
          (g.D.Desk.view c.args.desk.now) (g.D.Desk.view c.put_entry.new.desk))
          (one_entry_more kept i inside)
          (adds_then (Ok tt) c.loop-fault.invariant.so_far c.in_ok-put_entry.ensures.adds);
    }
