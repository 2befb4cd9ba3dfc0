-- Ranges of the numbers that words give.
use Rattle.std.specs.Prelude.{◌≤◌, IfSome}
use Rattle.ht_asked.specs.declared.limits.TheConstants.{MAX_BRED, MAX_BUDGET, MAX_FAULT, MAX_RANDOM, MAX_RUN, MAX_SEED, MAX_SIZE, MAX_WORK, MIN_BUDGET, MIN_FAULT, MIN_RUN, MIN_SIZE, MIN_WORK}
use Rattle.ht_asked.specs.Asked.{Asked}

-- the numbers of the job are in their ranges
pub record IsInRange (job : Asked) : Type 0 where
  pub budget : (MIN_BUDGET ≤ job.numbers.budget) × (job.numbers.budget ≤ MAX_BUDGET)
  pub random : job.numbers.random ≤ MAX_RANDOM
  pub weighted : job.numbers.weighted ≤ MAX_RANDOM
  pub bred : job.numbers.bred ≤ MAX_BRED
  pub seed : job.numbers.seed ≤ MAX_SEED
  pub work : (MIN_WORK ≤ job.numbers.work) × (job.numbers.work ≤ MAX_WORK)
  pub fault : IfSome job.numbers.fault (λ n. (MIN_FAULT ≤ n) × (n ≤ MAX_FAULT))
  pub runs : IfSome job.numbers.runs (λ n. (MIN_RUN ≤ n) × (n ≤ MAX_RUN))
  pub size : (MIN_SIZE ≤ job.numbers.size) × (job.numbers.size ≤ MAX_SIZE)
