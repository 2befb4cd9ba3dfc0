use Rattle.std.proofs.Common.{arith, length-append, ◌≡◌, [], ◌∷◌, ◌++◌}
use Rattle.std.proofs.lemmas.Bool.{cond_both, both_ways}
use Rattle.ht_bench.specs.Different.{has_name}
use Rattle.ht_bench.proofs.NameListLaws.{new_name, has_new_name}
use Rattle.ht_bench.proofs.mention.mention.Goals as goal

pub returns-clause-mentions : goal.returns-clause-mentions
returns-clause-mentions c =
    let d = c.args.builder.now in
    let name = c.args.name.now in
    record {
      is = cond_both (has_name d.names name) d.names (d.names ++ name ∷ [])
          (λ l. c.net.new.self ≡ record d { names = l })
          (λ yes. c.in_ok-net.ensures.known (λ new. both_ways _ (has_new_name d.names name new) yes))
          (λ no. c.in_ok-net.ensures.new (new_name d.names name no));
      is_draft = c.in_ok-net.ensures.draft;
    }

pub returns-in_err-net-clause-refusal : goal.returns-in_err-net-clause-refusal
returns-in_err-net-clause-refusal c = grind (arith, length-append, has_new_name)
