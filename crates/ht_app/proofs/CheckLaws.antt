-- What `check` reads.
use Rattle.std.proofs.Common.{◌≡◌, ◌≤◌, List, ℕ, Bool, Option, false, refl, arith}
use Rattle.std.specs.Prelude.{None}
use Rattle.ht_app.proofs.Common.{Asked, Content, DeskView, HasReadTo, InPort, Numbered, RunFiles, Said}
use Rattle.ht_app.proofs.Common.{check_basis, input_name, order_of}
use Rattle.ht_words.specs.Jobs.{asked_by}
use Rattle.ht_words.specs.declared.job.Job.TheVariants as job_of
use Rattle.ht_ports.specs.declared.ports.InPort.TheVariants.{Faults, Netlist}
use Rattle.ht_inputs.specs.Grading.{IsGraded, JudgesFiles}
use Rattle.ht_inputs.specs.declared.graded.Graded.{Graded}

abbrev pub job : RunFiles → Option (List ℕ) → Asked
job files start = asked_by (job_of.Check files start)

-- `check` judges the files by the netlist, the start and the tests
pub judges : (files : RunFiles) (start : Option (List ℕ)) → JudgesFiles (job files start) files start
judges files start = record {
  netlist = refl;
  tests = refl;
  started = refl;
  may_start = refl;
  denies = λ line. refl;
  fault = λ c. tt;
  circuit = λ basis text good classes. (good, classes);
  vectors = λ basis text is. is;
}

-- it reads no file after the proofs
pub no_more : (files : RunFiles) (start : Option (List ℕ)) (p : InPort) → 5 ≤ order_of (job files start) p
    → input_name (job files start) p ≡ None
no_more files start Netlist late = absurd (omega (arith, late))
no_more files start Faults late = refl
no_more files start p late = absurd (omega (arith, late))

-- what the files say, with these vectors, this budget, these verdicts and entries
abbrev pub said : Graded → List (List Bool) → ℕ → List Said → List Numbered → Content
said graded list budget saids entries = record {
  start = graded.start.items;
  list = list;
  budget = budget;
  saids = saids;
  entries = entries;
}

-- once the netlist, the start and the tests are read, three files are, whatever the others say
pub vectors_read : {files : RunFiles} {start : Option (List ℕ)} {first now : DeskView} {graded : Graded}
    (is : IsGraded files start first now graded) (budget : ℕ) (saids : List Said) (entries : List Numbered)
    → HasReadTo (job files start)
    (check_basis graded.circuit graded.listed.classes (said graded is.list budget saids entries)) 3 first now
vectors_read {files = files} {start = start} {graded = graded} is budget saids entries =
    is.reads (job files start) false (said graded is.list budget saids entries) (judges files start) refl refl
