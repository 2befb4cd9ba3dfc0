-- Whatever words ask for is asked for by a job.
use Rattle.std.proofs.Common.{◌≡◌, ◌∷◌, Bool, ℕ, true, false, cond, List, [], Option, Some, None, refl, subst}
use Rattle.std.specs.Prelude.{IfSome, codes, find, is_some, option_and_then, option_map, map}
use Rattle.std.specs.Str.{bytes_eq}
use Rattle.clap.specs.Walk.{Text}
use Rattle.ht_asked.specs.Forms.{Part, given, given_by, fits_form, is_among, option_texts, options_of, parts, positionals_of, set_text, text_of}
use Rattle.ht_asked.specs.Asked.{Asked, InNames, Numbers, OutNames, makes_nothing, reads_nothing, unsaid}
use Rattle.ht_asked.specs.Table.{Kind}
use Rattle.ht_asked.specs.Table.{sim, gen, check, norm, demo, compact, diagnose, uninit, sync, respond, report, breed, causes}
use Rattle.ht_asked.specs.Commands.{Command, asked, bred_of, budget_of, command_of, demo_size, depth_of, fault_of}
use Rattle.ht_asked.specs.Table.{kinds}
use Rattle.ht_asked.specs.Commands.{numbers_with, random_of, runs_of, seed_of, work_of}
use Rattle.ht_asked.specs.declared.depth.Depth.{Depth}
use Rattle.ht_asked.specs.declared.depth.Depth.TheVariants.{Plain}
use Rattle.ht_words.specs.Jobs.{asked_by}
use Rattle.ht_words.specs.declared.job.Job.{Job}
use Rattle.ht_words.specs.declared.job.Job.TheVariants as job
use Rattle.ht_words.specs.declared.job.RunFiles.{RunFiles}

-- it is what the words of a job ask for
abbrev pub IsOfJob : Asked → Type 0
IsOfJob asks = (j : Job) × (asked_by j ≡ asks)

abbrev AsksForJob : Option Asked → Type 0
AsksForJob asks = IfSome asks IsOfJob

abbrev files_of : Text → Text → Text → Text → RunFiles
files_of netlist tests out proofs = record { netlist = netlist; tests = tests; report = out; proofs = proofs }

-- what a command asks for, by its positionals and the texts of its options
abbrev asks_for : Kind → List Text → (Text → Option Text) → Option Asked
asks_for kind names value =
    (command_of kind).asks (record { positionals = names; options = option_texts (command_of kind).form value })

by_gen : (n t r p : Text) (start first faults : Option Text) (budget random weighted seed : Option ℕ)
    (depth : Option Depth) (work : Option ℕ) → AsksForJob (option_map (λ (numbers : Numbers). record {
      command = gen;
      reads = record { netlist = Some n; tests = first; report = None; proofs = None; faults = faults; extra = start };
      makes = record { tests = Some t; report = Some r; proofs = Some p };
      numbers = numbers;
    }) (numbers_with budget random weighted (Some 2000) seed depth work (Some None) (Some None) (Some 1) false))
by_gen n t r p start first faults (Some b) (Some x) (Some w) (Some s) (Some d) (Some k) = (
  job.Gen (files_of n t r p) (record {
    budget = b;
    random = x;
    seed = s;
    start = start;
    first = first;
    faults = faults;
    weighted = w;
    depth = d;
    work = k;
  }),
  refl,
)
by_gen n t r p start first faults _ _ _ _ _ _ = tt

-- the job of a budget alone
by_budget : (j : ℕ → Job) (kind : Kind) (reads : InNames) (makes : OutNames)
    → ((b : ℕ) → asked_by (j b)
    ≡ record { command = kind; reads = reads; makes = makes; numbers = record unsaid { budget = b } })
    → (budget : Option ℕ) → AsksForJob (option_map
    (λ (numbers : Numbers). record { command = kind; reads = reads; makes = makes; numbers = numbers })
    (numbers_with budget (Some 0) (Some 0) (Some 2000) (Some 0) (Some Plain) (Some 60) (Some None) (Some None) (Some 1)
    false))
by_budget j kind reads makes is (Some b) = (j b, is b)
by_budget j kind reads makes is None = tt

by_demo : (seed size : Option ℕ) → AsksForJob (option_map
    (λ (numbers : Numbers). record { command = demo; reads = reads_nothing; makes = makes_nothing; numbers = numbers })
    (numbers_with (Some 1000) (Some 0) (Some 0) (Some 2000) seed (Some Plain) (Some 60) (Some None) (Some None) size
    false))
by_demo (Some s) (Some z) = (job.Demo z s, refl)
by_demo _ _ = tt

by_fault : (n t o : Text) (start : Option Text) (lines : Bool) (fault : Option (Option ℕ)) → AsksForJob (option_map
    (λ (numbers : Numbers). record {
      command = respond;
      reads = record reads_nothing { netlist = Some n; tests = Some t; extra = start };
      makes = record makes_nothing { report = Some o };
      numbers = numbers;
    }) (numbers_with (Some 1000) (Some 0) (Some 0) (Some 2000) (Some 0) (Some Plain) (Some 60) fault (Some None)
    (Some 1) lines))
by_fault n t o start lines (Some f) = (job.Respond n t o f start lines, refl)
by_fault n t o start lines None = tt

by_runs : (n t o : Text) (runs : Option (Option ℕ)) → AsksForJob (option_map
    (λ (numbers : Numbers). record {
      command = compact;
      reads = record reads_nothing { netlist = Some n; tests = Some t };
      makes = record makes_nothing { tests = Some o };
      numbers = numbers;
    }) (numbers_with (Some 1000) (Some 0) (Some 0) (Some 2000) (Some 0) (Some Plain) (Some 60) (Some None) runs (Some 1)
    false))
by_runs n t o (Some r) = (job.Compact n t o r, refl)
by_runs n t o None = tt

by_breed : (n t o : Text) (start : Option Text) (bred seed : Option ℕ) → AsksForJob (option_map
    (λ (numbers : Numbers). record {
      command = breed;
      reads = record reads_nothing { netlist = Some n; tests = Some t; extra = start };
      makes = record makes_nothing { tests = Some o };
      numbers = numbers;
    }) (numbers_with (Some 1000) (Some 0) (Some 0) bred seed (Some Plain) (Some 60) (Some None) (Some None) (Some 1)
    false))
by_breed n t o start (Some b) (Some s) = (
  job.Breed (record { netlist = n; tests = t; out = o }) (record { vectors = b; seed = s; start = start }),
  refl,
)
by_breed n t o start _ _ = tt

by_names : (kind : Kind) (names : List Text) (v : Text → Option Text) → AsksForJob (asks_for kind names v)
by_names sim (n ∷ t ∷ r ∷ []) v = (job.Sim n t r (v (codes "start")), refl)
by_names gen (n ∷ t ∷ r ∷ p ∷ []) v = by_gen n t r p (v (codes "start")) (v (codes "first")) (v (codes "faults"))
    (budget_of (v (codes "budget"))) (random_of (v (codes "random"))) (random_of (v (codes "weighted")))
    (seed_of (v (codes "seed"))) (depth_of (v (codes "search"))) (work_of (v (codes "work")))
by_names check (n ∷ t ∷ r ∷ p ∷ []) v = (job.Check (files_of n t r p) (v (codes "start")), refl)
by_names norm (n ∷ o ∷ []) v = (job.Norm n o, refl)
by_names demo (z ∷ s ∷ []) v = by_demo (seed_of (Some s)) (demo_size (Some z))
by_names compact (n ∷ t ∷ o ∷ []) v = by_runs n t o (runs_of (v (codes "runs")))
by_names diagnose (n ∷ t ∷ r ∷ o ∷ []) v = (job.Diagnose n t r o, refl)
by_names uninit (n ∷ o ∷ []) v = by_budget (job.Uninit n o) uninit (record reads_nothing { netlist = Some n })
    (record makes_nothing { report = Some o }) (λ b. refl) (budget_of (v (codes "budget")))
by_names sync (n ∷ t ∷ o ∷ []) v = by_budget (job.Sync n t o) sync (record reads_nothing { netlist = Some n })
    (record makes_nothing { tests = Some t; report = Some o }) (λ b. refl) (budget_of (v (codes "budget")))
by_names respond (n ∷ t ∷ o ∷ []) v = by_fault n t o (v (codes "start")) (is_some (set_text (v (codes "lines"))))
    (fault_of (v (codes "fault")))
by_names report (n ∷ t ∷ p ∷ r ∷ []) v = by_budget
    (λ b. job.Report (files_of n t r p) b (v (codes "start"))) report
    (record reads_nothing { netlist = Some n; tests = Some t; proofs = Some p; extra = v (codes "start") })
    (record makes_nothing { report = Some r }) (λ b. refl) (budget_of (v (codes "budget")))
by_names breed (n ∷ t ∷ o ∷ []) v =
    by_breed n t o (v (codes "start")) (bred_of (v (codes "vectors"))) (seed_of (v (codes "seed")))
by_names causes (n ∷ t ∷ o ∷ []) v = (job.Causes n t o (v (codes "start")), refl)
by_names kind names v = tt

by_parts : (kind : Kind) (ps : Option (List Part)) → AsksForJob
    (option_and_then (command_of kind).asks (option_and_then (given_by (command_of kind).form) ps))
by_parts kind None = tt
by_parts kind (Some ps) = go (fits_form (command_of kind).form ps)
  where
    go : (b : Bool) → AsksForJob (option_and_then (command_of kind).asks (cond b (Some (record {
      positionals = positionals_of ps;
      options = option_texts (command_of kind).form (λ name. text_of name (options_of ps));
    })) None))
    go true = by_names kind (positionals_of ps) (λ name. text_of name (options_of ps))
    go false = tt

by_found : (test : Command → Bool) (words : List Text) (ks : List Kind) → AsksForJob
    (option_and_then (λ (c : Command). option_and_then c.asks (given c.form words)) (find test (map command_of ks)))
unfolding given
by_found test words [] = tt
by_found test words (k ∷ ks) = go (test (command_of k)) (by_found test words ks)
  where
    asks : Command → Option Asked
    asks c = option_and_then c.asks (given c.form words)

    go : (b : Bool) → AsksForJob (option_and_then asks (find test (map command_of ks)))
        → AsksForJob (option_and_then asks (cond b (Some (command_of k)) (find test (map command_of ks))))
    go true rest = by_parts k (parts (λ name. is_among name (command_of k).form.flags) None words)
    go false rest = rest

asked_for_job : (words : List Text) → AsksForJob (asked words)
unfolding asked
asked_for_job [] = tt
asked_for_job (name ∷ words) = by_found (λ c. bytes_eq name c.name) words kinds

-- what words ask for is what the words of a job ask for
pub job_of_words : (words : List Text) (asks : Asked) → asked words ≡ Some asks
    → (j : Job) × (asked_by j ≡ asks)
job_of_words words asks is = subst AsksForJob is (asked_for_job words)
