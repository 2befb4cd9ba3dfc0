use Rattle.std.proofs.Common.{rules, ◌≡◌}
use Rattle.ht_net.proofs.KeptLaws.{named_more, kept_draft}
use Rattle.ht_net.proofs.AddedLaws.{name_added}
use Rattle.ht_net.proofs.builder.Builder.add_name.Goals as goal

pub invariant_of-self : goal.invariant_of-self
invariant_of-self c =
    let same : c.push.new.self.items ≡ c.self.inside.driven.items = search rules in rw same c.self.invariant

pub invariant_of-self-else-is_err : goal.invariant_of-self-else-is_err
invariant_of-self-else-is_err c = name_added c.self.invariant c.self.view_is c.args.name.now _ _ c.requires.new
    c.requires.fits (search rules) (search rules)

pub returns-then-is_err-clause-err : goal.returns-then-is_err-clause-err
returns-then-is_err-clause-err c =
    let names : c.push-2.new.self ≡ c.self.inside.names = search rules in rw names c.self.view_is

pub returns-clause-ok : goal.returns-clause-ok
returns-clause-ok c = named_more c.self.invariant c.self.view_is c.args.name.now _ (search rules)

pub returns-clause-draft : goal.returns-clause-draft
returns-clause-draft c = kept_draft (invariant_of-self-else-is_err c)
