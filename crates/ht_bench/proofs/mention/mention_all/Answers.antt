use Rattle.std.proofs.Common.{arith}
use Rattle.std.proofs.lemmas.List.{drop_more}
use Rattle.std.proofs.lemmas.List.Elements.{All-push}
use Rattle.ht_net.specs.Build.Draft.{IsName}
use Rattle.ht_bench.proofs.MentionLaws.{names_known, names_stay, mentioning}
use Rattle.ht_bench.proofs.NameListLaws.{with_names-long}
use Rattle.ht_bench.proofs.mention.mention_all.Goals as goal

pub loop-name-preserved : goal.loop-name-preserved
loop-name-preserved c =
    let more = c.in_ok-id.ensures.mentions in
    let known = names_known more c.loop-name.ids c.loop-name.invariant.known in
    let same = names_stay more c.loop-name.ids c.loop-name.invariant.known in
    record {
      is = grind (arith, mentioning);
      is_draft = more.is_draft;
      rest = grind (arith, mentioning);
      known = rw c.in_ok-push.ensures.ok
          (All-push (IsName c.mention.new.builder) c.loop-name.ids c.in_ok-id.id known c.in_ok-id.ensures.number.0);
      numbers = grind (arith, mentioning);
    }

pub returns-in_err-id-clause-refusal : goal.returns-in_err-id-clause-refusal
returns-in_err-id-clause-refusal c = grind (arith, drop_more, with_names-long)
