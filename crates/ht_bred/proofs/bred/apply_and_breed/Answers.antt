use Rattle.std.proofs.Common.{ℕ, []}
use Rattle.std.proofs.lemmas.Result.{IfOk-weaker}
use Rattle.ht_bred.specs.Extended.{AreExtended}
use Rattle.ht_bred.proofs.ExtendedLaws.{extended_from_none}
use Rattle.ht_bred.proofs.bred.apply_and_breed.Goals as goal

pub returns-clause-added : goal.returns-clause-added
returns-clause-added c =
    IfOk-weaker c.breed_bursts.result
    (λ (n : ℕ). AreExtended c.apply.new.self c.breed_bursts.new.grader c.args.vectors.now.list c.args.vectors.now
    c.breed_bursts.new.vectors n)
    (λ (n : ℕ). AreExtended c.args.grader.now c.breed_bursts.new.grader [] c.args.vectors.now
    c.breed_bursts.new.vectors n)
    (λ n further. extended_from_none c.args.grader.now c.apply.new.self c.breed_bursts.new.grader c.args.vectors.now
    c.breed_bursts.new.vectors n c.apply.ensures.same c.in_ok-apply.ensures.added further)
    c.breed_bursts.ensures.added
