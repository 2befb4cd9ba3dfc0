use Rattle.std.proofs.Common.{◌≡◌, ◌≤◌, ◌∙◌, ℕ, List, Bool, true, false, length, take, sym, ap, subst, rules, arith}
use Rattle.std.specs.Prelude.{Result, Ok, Err}
use Rattle.ht_ports.specs.declared.ports.OutPort.TheVariants.{Tests}
use Rattle.ht_net.specs.Circuit.Netlist.{Netlist}
use Rattle.ht_net.specs.Frames.Rows.{Rows}
use Rattle.ht_full.specs.Searches.{FullView, IsChunk, IsEnd, IsFullOf}
use Rattle.ht_full.proofs.SearchLaws.{is_at_end, ran_chunk}
use Rattle.ht_inputs.specs.declared.run_error.RunError.TheVariants.{NoMemory}
use Rattle.ht_app.proofs.Common.{RunError, Tern}
use Rattle.ht_app.specs.Generating.{WritesLists}
use Rattle.ht_app.proofs.SearchedLaws.{chunk_is_put, first_after_chunk, full_after_chunk, lists_no_more, lists_of, more_after_chunk, stays_twice}
use Rattle.ht_app.proofs.generate.lists.write_lists.Given as given
use Rattle.ht_app.proofs.generate.lists.write_lists.Goals as goal
use Rattle.ht_app.proofs.generate.lists.write_lists.Goals.{In_ok-next_chunk, In_ok-put_rest}

pub returns-in_err-put_rest-clause-writes : goal.returns-in_err-put_rest-clause-writes
returns-in_err-put_rest-clause-writes g c = λ circuit representatives start list chosen work full.
    let error : Result (Unit {0}) RunError = Err c.in_err-put_rest.field-0.0 in
    let is : c.from_residual.result ≡ error = search rules in
    subst (λ (r : Result (Unit {0}) RunError). WritesLists circuit list c.chunks.search.known.vectors.list
    c.args.sizes.now c.put_rest.new.sizes r (g.D.Desk.view c.args.desk.now) (g.D.Desk.view c.put_rest.new.desk))
    (sym is)
    (chunk_is_put circuit representatives start list chosen work c.chunks.search c.chunks.written c.vectors.result.now
    (c.chunks.invariant.full circuit representatives start list chosen work full) c.vectors.ensures.list
    c.vectors.ensures.width c.put_rest.new.sizes error
    (c.chunks.invariant.so_far circuit representatives start list chosen work full)
    c.in_err-put_rest.ensures.tries tt tt)

-- the vectors are all put
so_put : (g : given.Over) (c : In_ok-put_rest g) (circuit : Netlist) (representatives : List ℕ) (start : List Tern)
    (list : List (List Bool)) (chosen : List Bool) (work : ℕ)
    → IsFullOf circuit representatives start list chosen work c.args.search.now
    → WritesLists {A = Unit {0}} circuit list c.chunks.search.known.vectors.list c.args.sizes.now c.put_rest.new.sizes
    (Ok tt) (g.D.Desk.view c.args.desk.now) (g.D.Desk.view c.put_rest.new.desk)
so_put g c circuit representatives start list chosen work full =
    chunk_is_put circuit representatives start list chosen work c.chunks.search c.chunks.written c.vectors.result.now
    (c.chunks.invariant.full circuit representatives start list chosen work full) c.vectors.ensures.list
    c.vectors.ensures.width c.put_rest.new.sizes (Ok tt)
    (c.chunks.invariant.so_far circuit representatives start list chosen work full)
    c.in_ok-put_rest.ensures.tries c.in_ok-put_rest.ensures.counted c.in_ok-put_rest.ensures.wide

pub returns-in_err-next_chunk-clause-writes : goal.returns-in_err-next_chunk-clause-writes
returns-in_err-next_chunk-clause-writes g c = λ circuit representatives start list chosen work full.
    let w : WritesLists {A = Unit {0}} circuit list c.next_chunk.new.self.known.vectors.list c.args.sizes.now
    c.put_rest.new.sizes (Err NoMemory) (g.D.Desk.view c.args.desk.now) (g.D.Desk.view c.put_rest.new.desk) =
    lists_no_more circuit list c.put_rest.new.sizes
    (so_put g (goal.at.returns-in_err-next_chunk-clause-writes g c).In_ok-put_rest circuit representatives start list
    chosen work full) in
    search (rules, w)

-- ---- the end

ended : (g : given.Over) (c : In_ok-next_chunk g) → c.in_ok-next_chunk.field-0 ≡ false
    → (c.next_chunk.new.self ≡ c.chunks.search) × IsEnd c.chunks.search
ended g c none = is_at_end c.chunks.search c.next_chunk.new.self c.in_ok-next_chunk.field-0 c.in_ok-next_chunk.ensures
    none

pub returns-then-not-branch-clause-writes : goal.returns-then-not-branch-clause-writes
returns-then-not-branch-clause-writes g c = λ circuit representatives start list chosen work full.
    let at = goal.at.returns-then-not-branch-clause-writes g c in
    let none : c.in_ok-next_chunk.field-0 ≡ false = search (rules, c.if-not-branch.true) in
    lists_of circuit list (ap (λ (s : FullView). s.known.vectors.list) (sym (ended g at.In_ok-next_chunk none).0))
    (so_put g at.In_ok-put_rest circuit representatives start list chosen work full)

pub returns-then-not-branch-clause-ends : goal.returns-then-not-branch-clause-ends
returns-then-not-branch-clause-ends g c = λ circuit representatives start list chosen work full.
    let at = goal.at.returns-then-not-branch-clause-ends g c in
    let none : c.in_ok-next_chunk.field-0 ≡ false = search (rules, c.if-not-branch.true) in
    let end = ended g at.In_ok-next_chunk none in
    subst (λ (s : FullView). IsFullOf circuit representatives start list chosen work s × IsEnd s) (sym end.0)
    (c.chunks.invariant.full circuit representatives start list chosen work full, end.1)

-- ---- one chunk more

pub chunks-preserved : goal.chunks-preserved
chunks-preserved g c =
    let at = goal.at.chunks-preserved g c in
    let more : c.in_ok-next_chunk.field-0 ≡ true = search (rules, c.if-not-branch.false) in
    let chunk : IsChunk c.chunks.search c.next_chunk.new.self = ran_chunk c.chunks.search c.next_chunk.new.self
    c.in_ok-next_chunk.field-0 c.in_ok-next_chunk.ensures more in
    let long : c.len-written.result ≡ length c.chunks.search.known.vectors.list =
    c.len-written.ensures ∙ ap (λ (r : Rows). length r.list) c.vectors-in-chunks.ensures.list in
    record {
      tests = c.in_ok-put_rest.ensures.stays.is_created Tests c.chunks.invariant.tests;
      stays = stays_twice c.chunks.invariant.stays c.in_ok-put_rest.ensures.stays;
      within =
          let further = more_after_chunk c.chunks.search c.next_chunk.new.self chunk in omega (arith, long, further);
      full = λ circuit representatives start list chosen work full.
          full_after_chunk circuit representatives start list chosen work c.chunks.search c.next_chunk.new.self
          (c.chunks.invariant.full circuit representatives start list chosen work full) chunk;
      so_far = λ circuit representatives start list chosen work full.
          lists_of circuit list
          (first_after_chunk c.chunks.search c.next_chunk.new.self chunk
          ∙ ap (λ (n : ℕ). take n c.next_chunk.new.self.known.vectors.list) (sym long))
          (so_put g at.In_ok-put_rest circuit representatives start list chosen work full);
    }
