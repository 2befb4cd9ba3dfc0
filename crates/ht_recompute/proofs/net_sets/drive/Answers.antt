use Rattle.std.proofs.Common.{◌≡◌, ◌+◌, ◌-◌, ◌∙◌, ℕ, List, [], ◌∷◌, ap, sym, arith, inl, inr}
use Rattle.std.proofs.lemmas.Bool.{cases_eq}
use Rattle.std.proofs.lemmas.List.{get_or_read}
use Rattle.ht_tern.specs.declared.tern.Tern.TheVariants.{Unk}
use Rattle.ht_pairs.specs.Pairs.{Pair, pair}
use Rattle.ht_events.proofs.ScheduleLaws.{readers_known}
use Rattle.ht_tree.specs.Window.Windows.{pair_set_rules}
use Rattle.ht_recompute.specs.GateSets.{sets_of}
use Rattle.ht_recompute.proofs.NetSetLaws.{source_quiet}
use Rattle.ht_recompute.proofs.net_sets.drive.Goals as goal

pub write_net-requires-clause-readers : goal.write_net-requires-clause-readers
write_net-requires-clause-readers c k d inside =
    let u = c.args.under.now in
    let known = readers_known u.circuit.now u.schedule.now c.requires.quiet.schedule (c.args.first + c.loop-j.j)
    c.row-readers.result.now c.row-readers.ensures k d inside in
    omega (arith, known, c.loop-j.invariant.quiet.marks)

pub loop-j-preserved : goal.loop-j-preserved
loop-j-preserved c =
    let u = c.args.under.now in
    let inv = c.loop-j.invariant in
    let wrote = c.write_net.ensures in
    let r = pair_set_rules u.fault in
    let sources : List (List Pair) = c.args.sources.now in
    let net : ℕ = c.args.first + c.loop-j.j in
    let read = get_or_read sources c.loop-j.j c.index-sources-j.result c.loop-j-test.true c.index-sources-j.is
    (pair Unk Unk ∷ []) in
    record {
      quiet = source_quiet u.circuit.now u.schedule.now c.requires.quiet.schedule u.fault net c.loop-j.values
          c.write_net.new.values c.write_net.new.pending c.row-readers.result.now c.row-readers.ensures wrote.sets
          wrote.readers c.loop-j.pending (omega (arith, c.requires.sources, c.loop-j-test.true)) c.write_net.auto.values
          wrote.marks wrote.more inv.quiet;
      driven = λ x from below. elim (cases_eq x (c.args.first + c.loop-j.j)) [
        | inl e ↦
            let net_is : c.args.first + c.loop-j.j ≡ x = sym e in
            let at : c.loop-j.j ≡ x - c.args.first = omega (arith, e) in
            ap (sets_of c.write_net.new.values) e ∙ (wrote.set ∙ (c.stem.ensures
            ∙ (λ i. r.stem (net_is i) ((read ∙ ap (sets_of sources) at) i))))
        | inr ne ↦ wrote.sets x ne ∙ inv.driven x from (omega (arith, below, ne))
      ];
      below = λ x low. wrote.sets x (λ e. absurd (omega (arith, e, low))) ∙ inv.below x low;
    }
