-- Jobs as what words ask for.
use Rattle.std.specs.Prelude.{◌≡◌, ◌∷◌, false, List, [], Option, Some, None, Result, Err, IfOk, ℕ, codes, map, option_and_then}
use Rattle.clap.specs.Words.{Row, Text, first_of}
use Rattle.ht_asked.specs.declared.limits.TheConstants.{DEFAULT_BRED, MAX_SEED, MAX_SIZE, MIN_SIZE}
use Rattle.ht_asked.specs.Asked.{Asked, Numbers, OutNames, makes_nothing, reads_nothing, unsaid}
use Rattle.ht_asked.specs.Table.{sim, gen, check, norm, demo, compact, diagnose, uninit, sync, respond, report, breed, causes}
use Rattle.ht_asked.specs.ByClap.{all_of}
use Rattle.ht_asked.specs.Commands.{budget_of, depth_of, numbers_with, random_of, seed_of, work_of}
use Rattle.ht_asked.specs.Numbers.{number_in}
use Rattle.ht_words.specs.declared.job.GenOptions.{GenOptions}
use Rattle.ht_words.specs.declared.job.Job.{Job}
use Rattle.ht_words.specs.declared.job.Job.TheVariants as job
use Rattle.ht_words.specs.declared.job.RunFiles.{RunFiles}
use Rattle.ht_words.specs.declared.job.WordsFault.{WordsFault}
use Rattle.ht_words.specs.declared.job.WordsFault.TheVariants.{Usage}

-- the numbers that the options of `gen` say
abbrev pub numbers_by : GenOptions → Numbers
numbers_by o = record unsaid {
  budget = o.budget;
  random = o.random;
  weighted = o.weighted;
  seed = o.seed;
  depth = o.depth;
  work = o.work;
}

-- the numbers that the options of `gen` say in the rows in which `clap` gives the values, where each is one
abbrev pub numbers_in : List Row → Option Numbers
numbers_in rows = numbers_with (budget_of (first_of (codes "budget") rows))
    (random_of (first_of (codes "random") rows)) (random_of (first_of (codes "weighted") rows))
    (Some DEFAULT_BRED) (seed_of (first_of (codes "seed") rows))
    (depth_of (first_of (codes "search") rows)) (work_of (first_of (codes "work") rows)) (Some None)
    (Some None) (Some MIN_SIZE) false

-- the names of the files of a run in the rows, where none is missing
abbrev pub files_in : List Row → Option (List Text)
files_in rows = all_of (map (λ id. first_of id rows)
    (codes "netlist" ∷ codes "tests" ∷ codes "report" ∷ codes "proofs" ∷ []))

-- the names of the files of a run, in the order of the words of `gen`
abbrev pub run_names : RunFiles → List Text
run_names files = files.netlist ∷ files.tests ∷ files.report ∷ files.proofs ∷ []

-- the three files that a search makes
abbrev pub made_by : RunFiles → OutNames
made_by files = record {
  tests = Some files.tests;
  report = Some files.report;
  proofs = Some files.proofs;
}

-- what words ask for where they ask for the job
abbrev pub asked_by : Job → Asked
asked_by (job.Sim netlist tests out start) = record {
  command = sim;
  reads = record reads_nothing { netlist = Some netlist; tests = Some tests; extra = start };
  makes = record makes_nothing { report = Some out };
  numbers = unsaid;
}
asked_by (job.Gen files options) = record {
  command = gen;
  reads = record reads_nothing {
    netlist = Some files.netlist;
    tests = options.first;
    faults = options.faults;
    extra = options.start;
  };
  makes = made_by files;
  numbers = numbers_by options;
}
asked_by (job.Check files start) = record {
  command = check;
  reads = record reads_nothing {
    netlist = Some files.netlist;
    tests = Some files.tests;
    report = Some files.report;
    proofs = Some files.proofs;
    extra = start;
  };
  makes = makes_nothing;
  numbers = unsaid;
}
asked_by (job.Norm netlist out) = record {
  command = norm;
  reads = record reads_nothing { netlist = Some netlist };
  makes = record makes_nothing { report = Some out };
  numbers = unsaid;
}
asked_by (job.Demo size seed) = record {
  command = demo;
  reads = reads_nothing;
  makes = makes_nothing;
  numbers = record unsaid { size = size; seed = seed };
}
asked_by (job.Compact netlist tests out runs) = record {
  command = compact;
  reads = record reads_nothing { netlist = Some netlist; tests = Some tests };
  makes = record makes_nothing { tests = Some out };
  numbers = record unsaid { runs = runs };
}
asked_by (job.Diagnose netlist tests responses out) = record {
  command = diagnose;
  reads = record reads_nothing {
    netlist = Some netlist;
    tests = Some tests;
    extra = Some responses;
  };
  makes = record makes_nothing { report = Some out };
  numbers = unsaid;
}
asked_by (job.Uninit netlist out budget) = record {
  command = uninit;
  reads = record reads_nothing { netlist = Some netlist };
  makes = record makes_nothing { report = Some out };
  numbers = record unsaid { budget = budget };
}
asked_by (job.Sync netlist tests out budget) = record {
  command = sync;
  reads = record reads_nothing { netlist = Some netlist };
  makes = record makes_nothing { tests = Some tests; report = Some out };
  numbers = record unsaid { budget = budget };
}
asked_by (job.Respond netlist tests out fault start lines) = record {
  command = respond;
  reads = record reads_nothing { netlist = Some netlist; tests = Some tests; extra = start };
  makes = record makes_nothing { report = Some out };
  numbers = record unsaid { fault = fault; lines = lines };
}
asked_by (job.Breed files options) = record {
  command = breed;
  reads = record reads_nothing {
    netlist = Some files.netlist;
    tests = Some files.tests;
    extra = options.start;
  };
  makes = record makes_nothing { tests = Some files.out };
  numbers = record unsaid { bred = options.vectors; seed = options.seed };
}
asked_by (job.Causes netlist tests out start) = record {
  command = causes;
  reads = record reads_nothing { netlist = Some netlist; tests = Some tests; extra = start };
  makes = record makes_nothing { report = Some out };
  numbers = unsaid;
}
asked_by (job.Report files budget start) = record {
  command = report;
  reads = record reads_nothing {
    netlist = Some files.netlist;
    tests = Some files.tests;
    proofs = Some files.proofs;
    extra = start;
  };
  makes = record makes_nothing { report = Some files.report };
  numbers = record unsaid { budget = budget };
}

-- `demo`, where its size and its seed are numbers
abbrev pub demo_with : Option ℕ → Option ℕ → Option Asked
demo_with (Some size) (Some seed) = Some (asked_by (job.Demo size seed))
demo_with _ _ = None

-- `demo`, by the rows in which `clap` gives the values
abbrev pub demo_in : List Row → Option Asked
demo_in rows = demo_with
    (option_and_then (number_in MIN_SIZE MAX_SIZE) (first_of (codes "size") rows))
    (option_and_then (number_in 0 MAX_SEED) (first_of (codes "seed") rows))

-- what is read where the words say this: their value, or a refusal; `Usage` only where they say none
pub record IsReadAs {T U : Type 0} (said : Option U) (taken : T → U)
    (result : Result T WordsFault) : Type 0 where
  pub usage : result ≡ Err Usage → said ≡ None
  pub ok : IfOk result (λ v. said ≡ Some (taken v))

-- what is read where the words say this, as it is
abbrev pub Hears : {T : Type 0} → Option T → Result T WordsFault → Type 0
Hears said result = IsReadAs said (λ v. v) result

-- the answer to what words ask for: the job, or a refusal
abbrev pub IsAnswer : Option Asked → Result Job WordsFault → Type 0
IsAnswer asked result = IsReadAs asked asked_by result
