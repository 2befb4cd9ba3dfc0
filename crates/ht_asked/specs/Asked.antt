-- A job as words ask for it: its command, the names of its files by port, and its numbers.
use Rattle.std.specs.Prelude.{ℕ, Bool, false, Option, None}
use Rattle.clap.specs.Walk.{Text}
use Rattle.ht_asked.specs.Table.{Kind}
use Rattle.ht_asked.specs.declared.depth.Depth.{Depth}
use Rattle.ht_asked.specs.declared.depth.Depth.TheVariants.{Plain}
use Rattle.ht_asked.specs.declared.limits.TheConstants.{DEFAULT_BRED, DEFAULT_BUDGET, DEFAULT_RANDOM, DEFAULT_SEED, DEFAULT_WORK, MIN_SIZE}

-- the names of the files to be read, by port: a start, or the responses of `diagnose`, stand at the port Extra
pub record InNames : Type 0 where
  pub netlist : Option Text
  pub tests : Option Text
  pub report : Option Text
  pub proofs : Option Text
  pub faults : Option Text
  pub extra : Option Text

-- no file is read
abbrev pub reads_nothing : InNames
reads_nothing = record {
  netlist = None;
  tests = None;
  report = None;
  proofs = None;
  faults = None;
  extra = None;
}

-- the names of the files to be made, by port
pub record OutNames : Type 0 where
  pub tests : Option Text
  pub report : Option Text
  pub proofs : Option Text

-- no file is made
abbrev pub makes_nothing : OutNames
makes_nothing = record { tests = None; report = None; proofs = None }

-- the numbers of a job: the budget of each search, how many random vectors come first, how many weighted ones after
-- them, how many are bred at most, the seed of all, how far the search goes, the work of one that goes on until it is
-- spent, the fault whose machine is shown, whether it is shown at each net, the longest run of vectors that is left out
-- at once, and the size of a demonstration netlist
pub record Numbers : Type 0 where
  pub budget : ℕ
  pub random : ℕ
  pub weighted : ℕ
  pub bred : ℕ
  pub seed : ℕ
  pub depth : Depth
  pub work : ℕ
  pub fault : Option ℕ
  pub lines : Bool
  pub runs : Option ℕ
  pub size : ℕ

-- what the numbers are where the words say nothing of them
abbrev pub unsaid : Numbers
unsaid = record {
  budget = DEFAULT_BUDGET;
  random = DEFAULT_RANDOM;
  weighted = DEFAULT_RANDOM;
  bred = DEFAULT_BRED;
  seed = DEFAULT_SEED;
  depth = Plain;
  work = DEFAULT_WORK;
  fault = None;
  lines = false;
  runs = None;
  size = MIN_SIZE;
}

-- a command, the files that it reads and makes, and its numbers
pub record Asked : Type 0 where
  pub command : Kind
  pub reads : InNames
  pub makes : OutNames
  pub numbers : Numbers
