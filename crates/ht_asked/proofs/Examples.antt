-- Worked examples of the commands, read by computation.
use Rattle.std.proofs.Common.{◌≡◌, ◌∷◌, ◌++◌, ◌==◌, ℕ, Bool, true, false, List, [], map, Option, Some, None, refl, arith, codes}
use Rattle.std.specs.Prelude.{if◌then◌else◌}
use Rattle.clap.specs.Walk.{Text}
use Rattle.ht_asked.specs.Forms.{given, parts}
use Rattle.ht_asked.specs.declared.depth.Depth.TheVariants.{Deep, Full}
use Rattle.ht_asked.specs.Asked.{Asked, InNames, Numbers, OutNames, makes_nothing, reads_nothing, unsaid}
use Rattle.ht_asked.specs.Table.{Kind}
use Rattle.ht_asked.specs.Table.{breed, causes, check, compact, demo, diagnose, gen, report, respond, sync, uninit}
use Rattle.ht_asked.specs.Commands.{asked, budget_of, command_of}
use Rattle.ht_asked.specs.ByClap.{app_with, given_by_clap}
use Rattle.ht_asked.proofs.States.{AreReadable}
use Rattle.ht_asked.proofs.FormByClap.{form_by_clap}

-- the words of a line, where the words after this character are split off: a space begins a new one
abbrev with_char : ℕ → List Text → List Text
with_char c [] = []
with_char c (word ∷ words) = if c == 32 then [] ∷ word ∷ words else (c ∷ word) ∷ words

-- the words of a line, with a space between them
abbrev split : Text → List Text
split [] = [] ∷ []
split (c ∷ cs) = with_char c (split cs)

-- what the words of a line ask for
abbrev asks : Text → Option Asked
asks line = asked (split line)

-- what `gen` and its four names ask for with these words after them
abbrev gen_asks : Text → Option Asked
gen_asks line = asks (codes "gen n t r p " ++ line)

-- a job of this command that reads and makes these files
abbrev job_of : Kind → InNames → OutNames → Numbers → Option Asked
job_of kind reads makes numbers =
    Some (record { command = kind; reads = reads; makes = makes; numbers = numbers })

abbrev told_from : InNames → Numbers → Option Asked
told_from reads numbers = job_of gen (record reads { netlist = Some (codes "n") })
    (record { tests = Some (codes "t"); report = Some (codes "r"); proofs = Some (codes "p") }) numbers

abbrev told_by : Numbers → Option Asked
told_by = told_from reads_nothing

abbrev told_with : ℕ → ℕ → ℕ → Option Asked
told_with budget random seed = told_by (record unsaid { budget = budget; random = random; seed = seed })

-- a budget alone
abbrev told : ℕ → Option Asked
told budget = told_with budget 0 0

-- an option stands anywhere before `--`, with its value in the next word or after `=`
taken : map asks (codes "gen n t r p" ∷ codes "gen --budget 5 n t r p" ∷ codes "gen n t --budget=007 r p"
    ∷ codes "gen n t r p --budget 100000" ∷ codes "gen n t --budget 1 -- r p" ∷ [])
    ≡ told 1000 ∷ told 5 ∷ told 7 ∷ told 100000 ∷ told 1 ∷ []
unfolding asked given parts
taken = refl

-- twice, after `--`, without a value, with a value that looks like an option, shortened, unknown
refused : map gen_asks (codes "--budget 5 --budget=5" ∷ codes "-- --budget=5" ∷ codes "--budget"
    ∷ codes "--budget -5" ∷ codes "--budge=5" ∷ codes "--speed 5" ∷ [])
    ≡ None ∷ None ∷ None ∷ None ∷ None ∷ None ∷ []
unfolding asked given parts
refused = refl

-- an option that `clap` takes, whose value is no budget
no_budget : map gen_asks (codes "--budget=0" ∷ codes "--budget=100001" ∷ codes "--budget=-5" ∷ codes "--budget="
    ∷ codes "--budget -" ∷ codes "--budget +5" ∷ codes "--budget 5x" ∷ [])
    ≡ None ∷ None ∷ None ∷ None ∷ None ∷ None ∷ None ∷ []
unfolding asked given parts
no_budget = refl

-- the options of random vectors, in any order
random_vectors : map gen_asks (codes "--random 3 --seed=007"
    ∷ codes "--seed=18446744073709551615 --random=100000 --budget=5"
    ∷ codes "--seed 18446744073709551616" ∷ codes "--random 100001" ∷ codes "--seed=1 --seed=1" ∷ [])
    ≡ told_with 1000 3 7 ∷ told_with 5 100000 18446744073709551615 ∷ None ∷ None ∷ None ∷ []
unfolding asked given parts
random_vectors = refl

-- the options of what is worked on, and how
further_options : map gen_asks (codes "--first f --faults=l --start=s" ∷ codes "--weighted=007 --search deep"
    ∷ codes "--search=plain --weighted 100000" ∷ codes "--weighted 100001" ∷ codes "--search=Deep"
    ∷ codes "--search=" ∷ codes "--search" ∷ codes "--search=full" ∷ codes "--work=1000000 --search full"
    ∷ codes "--work=7" ∷ codes "--work 0" ∷ codes "--work 1000001"
    ∷ codes "--search=deep --search=deep" ∷ codes "--first=f --first=f"
    ∷ codes "--faults -l" ∷ [])
    ≡ told_from (record reads_nothing { tests = Some (codes "f"); faults = Some (codes "l"); extra = Some (codes "s") })
    unsaid
    ∷ told_by (record unsaid { weighted = 7; depth = Deep }) ∷ told_by (record unsaid { weighted = 100000 })
    ∷ None ∷ None ∷ None ∷ None
    ∷ told_by (record unsaid { depth = Full })
    ∷ told_by (record unsaid { depth = Full; work = 1000000 }) ∷ told_by (record unsaid { work = 7 })
    ∷ None ∷ None ∷ None ∷ None ∷ None ∷ []
unfolding asked given parts
further_options = refl

-- `demo` has a size and a seed
demos : map asks (codes "demo 16 3" ∷ codes "demo 20000 0" ∷ codes "demo 20001 1" ∷ codes "demo 0 1"
    ∷ codes "demo 16 3 4" ∷ codes "demo 16 --seed=3" ∷ [])
    ≡ job_of demo reads_nothing makes_nothing (record unsaid { size = 16; seed = 3 })
    ∷ job_of demo reads_nothing makes_nothing (record unsaid { size = 20000 }) ∷ None ∷ None ∷ None ∷ None ∷ []
unfolding asked given parts
demos = refl

-- `check` has four names, and may have a start
abbrev checked : Option Text → Option Asked
checked start = job_of check (record reads_nothing {
  netlist = Some (codes "n");
  tests = Some (codes "t");
  report = Some (codes "r");
  proofs = Some (codes "p");
  extra = start;
}) makes_nothing unsaid

checks : map asks (codes "check n t r p" ∷ codes "check n t r" ∷ codes "check n t r p --budget=5"
    ∷ codes "check n t r p --start s" ∷ codes "check --start=-s n t r p" ∷ codes "check n t r p --start -s"
    ∷ codes "check n t r p --start=s --start=s" ∷ [])
    ≡ checked None ∷ None ∷ None ∷ checked (Some (codes "s")) ∷ checked (Some (codes "-s")) ∷ None ∷ None ∷ []
unfolding asked given parts
checks = refl

-- the netlist `n` is read, and these tests
abbrev of_tests : Text → InNames
of_tests tests = record reads_nothing { netlist = Some (codes "n"); tests = Some tests }

-- this file is made at the port Report
abbrev to_report : Text → OutNames
to_report out = record makes_nothing { report = Some out }

abbrev compacts : Text → Text → Option ℕ → Option Asked
compacts tests out runs =
    job_of compact (of_tests tests) (record makes_nothing { tests = Some out }) (record unsaid { runs = runs })

-- `compact` may have a longest run
runs : map asks (codes "compact n t o --runs 1" ∷ codes "compact --runs=064 n t o" ∷ codes "compact n t o --runs 0"
    ∷ codes "compact n t o --runs=65" ∷ codes "compact n t o --runs" ∷ codes "sync n t o --runs=1" ∷ [])
    ≡ compacts (codes "t") (codes "o") (Some 1) ∷ compacts (codes "t") (codes "o") (Some 64) ∷ None ∷ None ∷ None
    ∷ None ∷ []
unfolding asked given parts
runs = refl

-- `compact` has three names, `diagnose` four, and they need no option
further : map asks (codes "compact n t o" ∷ codes "compact n -- -t -" ∷ codes "compact n t" ∷ codes "compact n t o p"
    ∷ codes "Compact n t o" ∷ codes "diagnose n t r o" ∷ codes "diagnose n t r" ∷ codes "diagnose n t r o --seed=3"
    ∷ [])
    ≡ compacts (codes "t") (codes "o") None ∷ compacts (codes "-t") (codes "-") None ∷ None ∷ None ∷ None
    ∷ job_of diagnose (record (of_tests (codes "t")) { extra = Some (codes "r") }) (to_report (codes "o")) unsaid
    ∷ None ∷ None ∷ []
unfolding asked given parts
further = refl

abbrev of_netlist : Text → ℕ → Option Asked
of_netlist out budget = job_of uninit (record reads_nothing { netlist = Some (codes "n") }) (to_report out)
    (record unsaid { budget = budget })

-- `uninit` has two names and a budget
uninits : map asks (codes "uninit n o" ∷ codes "uninit n --budget 100000 o" ∷ codes "uninit --budget=007 n -- -o"
    ∷ codes "uninit n" ∷ codes "uninit n o p" ∷ codes "uninit n o --budget=0" ∷ codes "uninit n o --budget=100001"
    ∷ codes "uninit n o --random=3" ∷ [])
    ≡ of_netlist (codes "o") 1000 ∷ of_netlist (codes "o") 100000 ∷ of_netlist (codes "-o") 7 ∷ None ∷ None ∷ None
    ∷ None ∷ None ∷ []
unfolding asked given parts
uninits = refl

abbrev synchronizes : ℕ → Option Asked
synchronizes budget = job_of sync (record reads_nothing { netlist = Some (codes "n") })
    (record (to_report (codes "o")) { tests = Some (codes "t") }) (record unsaid { budget = budget })

-- `sync` has three names and a budget
syncs : map asks (codes "sync n t o" ∷ codes "sync n --budget 1 t o" ∷ codes "sync n t"
    ∷ codes "sync n t o --budget=0" ∷ [])
    ≡ synchronizes 1000 ∷ synchronizes 1
    ∷ None ∷ None ∷ []
unfolding asked given parts
syncs = refl

abbrev shows : Option ℕ → Option Text → Bool → Option Asked
shows fault start lines = job_of respond (record (of_tests (codes "t")) { extra = start }) (to_report (codes "o"))
    (record unsaid { fault = fault; lines = lines })

-- `respond` has three names, and may have a fault and a start
responds : map asks (codes "respond n t o" ∷ codes "respond n t o --fault 655358"
    ∷ codes "respond --fault=007 n --start s t o" ∷ codes "respond n t o --fault=0"
    ∷ codes "respond n t o --fault=655359" ∷ codes "respond n t" ∷ [])
    ≡ shows None None false ∷ shows (Some 655358) None false ∷ shows (Some 7) (Some (codes "s")) false
    ∷ None ∷ None ∷ None ∷ []
unfolding asked given parts
responds = refl

-- a flag stands anywhere before `--`, once and without a value
lines_shown : map asks (codes "respond n t o --lines" ∷ codes "respond --lines n t o --fault 7"
    ∷ codes "respond n --lines t o --start=s" ∷ codes "respond n t -- o" ∷ codes "respond n t -- --lines"
    ∷ codes "respond n t o --lines=true" ∷ codes "respond n t o --lines=" ∷ codes "respond n t o --lines --lines"
    ∷ codes "respond n t o --fault --lines" ∷ codes "respond n t o --line" ∷ codes "sim n t r --lines" ∷ [])
    ≡ shows None None true ∷ shows (Some 7) None true ∷ shows None (Some (codes "s")) true ∷ shows None None false
    ∷ job_of respond (of_tests (codes "t")) (to_report (codes "--lines")) unsaid
    ∷ None ∷ None ∷ None ∷ None ∷ None ∷ None ∷ []
unfolding asked given parts
lines_shown = refl

abbrev reported : ℕ → Option Text → Option Asked
reported budget start = job_of report
    (record (of_tests (codes "t")) { proofs = Some (codes "p"); extra = start }) (to_report (codes "r"))
    (record unsaid { budget = budget })

-- `report` has four names, and may have a budget and a start
reports : map asks (codes "report n t p r" ∷ codes "report --budget=007 n t p --start s r"
    ∷ codes "report n t p r --budget=0" ∷ codes "report n t p r --budget=100001"
    ∷ codes "report n t p r --search=deep" ∷ codes "report n t p" ∷ [])
    ≡ reported 1000 None ∷ reported 7 (Some (codes "s"))
    ∷ None ∷ None ∷ None ∷ None ∷ []
unfolding asked given parts
reports = refl

abbrev breeds : ℕ → ℕ → Option Text → Option Asked
breeds bred seed start = job_of breed (record (of_tests (codes "t")) { extra = start })
    (record makes_nothing { tests = Some (codes "o") }) (record unsaid { bred = bred; seed = seed })

-- `breed` has three names, and may have a count of vectors, a seed and a start
breeding : map asks (codes "breed n t o" ∷ codes "breed --vectors=0 n t o --seed 7" ∷ codes "breed n t --start s o"
    ∷ codes "breed n t o --vectors 100000" ∷ codes "breed n t o --vectors 100001" ∷ codes "breed n t"
    ∷ codes "breed n t o --budget=5" ∷ [])
    ≡ breeds 2000 0 None ∷ breeds 0 7 None ∷ breeds 2000 0 (Some (codes "s")) ∷ breeds 100000 0 None
    ∷ None ∷ None ∷ None ∷ []
unfolding asked given parts
breeding = refl

abbrev explains : Option Text → Option Asked
explains start = job_of causes (record (of_tests (codes "t")) { extra = start }) (to_report (codes "o")) unsaid

-- `causes` has three names, and may have a start
explained : map asks (codes "causes n t o" ∷ codes "causes --start s n t o" ∷ codes "causes n t"
    ∷ codes "causes n t o --fault=1" ∷ [])
    ≡ explains None ∷ explains (Some (codes "s"))
    ∷ None ∷ None ∷ []
unfolding asked given parts
explained = refl

-- `clap` reads the command's form as the plain reading does
by_clap : (words : List Text) → AreReadable words
    → given_by_clap (app_with (command_of gen).name (command_of gen).form) (command_of gen).form (codes "gen" ∷ words)
    ≡ given (command_of gen).form words
by_clap words =
    form_by_clap (command_of gen).name (command_of gen).form (record { differ = refl; few = omega arith })
    (codes "gen") words

-- from 1 to 100000, or 1000 where it is left out
budgets : map budget_of (None ∷ Some (codes "7") ∷ Some (codes "007") ∷ Some (codes "100000") ∷ Some (codes "0") ∷ [])
    ≡ Some 1000 ∷ Some 7 ∷ Some 7 ∷ Some 100000 ∷ None ∷ []
budgets = refl
