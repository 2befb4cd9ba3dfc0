-- What each command does to its outputs.
use Rattle.std.specs.Prelude.{◌≡◌, ◌-◌, ◌*◌, ◌++◌, ◌∷◌, ℕ, List, [], flat_map, codes, Some, Option, None, Bool, true, false, length, option_map}
use Rattle.ht_ports.specs.declared.ports.OutPort.{OutPort}
use Rattle.ht_ports.specs.declared.ports.OutPort.TheVariants.{Tests, Report, Proofs, Out}
use Rattle.ht_net.specs.Circuit.Netlist as net
use Rattle.ht_net.specs.Detect.Detection.{unknown_state}
use Rattle.ht_bench.specs.Normal.{normal_text}
use Rattle.ht_texts.specs.Lines.{with_lf}
use Rattle.ht_texts.specs.Reports.{head_line, report_text, report_sums, total_line}
use Rattle.ht_entries.specs.ProofLines.{line_text}
use Rattle.ht_entries.specs.declared.proof_line.ProofLine.TheVariants.{End}
use Rattle.ht_faults.specs.Classes.{AreClasses, fault_at}
use Rattle.ht_valid.specs.ValidFiles.{IsJustified}
use Rattle.ht_texts.specs.SearchReports.{IsReportText}
use Rattle.ht_valid.specs.TrueVerdicts.{AreDecided, HaveTrueVerdicts, IsWorkedOn}
use Rattle.ht_demo.specs.Demo.{demo_netlist}
use Rattle.ht_engine.specs.declared.step.Step.{Step}
use Rattle.ht_engine.specs.declared.step.Step.TheVariants.{Vectors, Entry, Finished}
use Rattle.ht_engine.specs.Marks.{AreMarks}
use Rattle.ht_engine.specs.Steps.{AreSteps, entries_of, first_vectors, vectors_of_steps}
use Rattle.ht_full.specs.Searches.{FullView, IsEnd, IsFullOf}
use Rattle.ht_order.specs.declared.rate.TheConstants.{UNIT_OF_WORK}
use Rattle.ht_verdicts.specs.Kept.{kept_entries}
use Rattle.ht_engine.specs.declared.settings.Search.{Search}
use Rattle.ht_engine.specs.declared.settings.Search.TheVariants as engine
use Rattle.ht_engine.specs.declared.settings.Settings.{Settings}
use Rattle.ht_files.specs.Generated.{IsGenerated, IsTotalOf}
use Rattle.ht_files.specs.Searched.{AreFound, IsSearched}
use Rattle.ht_files.specs.StepTexts.{proofs_of, proofs_so_far, step_text, tests_of}
use Rattle.ht_faults.specs.Sites.{faults_of}
use Rattle.ht_uninit.specs.Records.{IsUninit, UninitHolds, UninitState}
use Rattle.ht_uninit.specs.UninitTexts.{uninit_text, uninit_total}
use Rattle.ht_asked.specs.Asked.{Asked}
use Rattle.ht_asked.specs.declared.depth.Depth.{Depth}
use Rattle.ht_asked.specs.declared.depth.Depth.TheVariants as depth
use Rattle.ht_asked.specs.Table.{Kind}
use Rattle.ht_asked.specs.Table.{sim, gen, check, norm, demo, compact, diagnose, uninit, sync, respond, report, breed, causes}
use Rattle.ht_words.specs.Jobs.{made_by}
use Rattle.ht_app.specs.Changed.{output_name}
use Rattle.ht_sync.specs.SyncSearches.{FindsWithin, IsSynchronized, SynchronizedHolds}
use Rattle.ht_sync.specs.SyncTexts.{last_sync_line, sync_list, sync_said, sync_text}
use Rattle.ht_sync.specs.declared.synchronizing.Synchronized.{Synchronized}
use Rattle.ht_words.specs.declared.job.RunFiles.{RunFiles}
use Rattle.ht_app.specs.declared.demo.TheConstants.{DEMO_BUDGET, DEMO_RANDOM}
use Rattle.ht_app.specs.Acts.{Act, make, put}
use Rattle.ht_inputs.specs.Inputs.{IsListed, JobBasis}
use Rattle.ht_net.specs.declared.fault.Fault.{Fault}
use Rattle.ht_net.specs.declared.place.Place.{Place}
use Rattle.ht_net.specs.Circuit.Netlist.{Netlist}
use Rattle.ht_proofs.specs.Detections.{AreFirstDetections}
use Rattle.ht_texts.specs.declared.said.Said.{Said}
use Rattle.ht_texts.specs.Verdicts.{saids_of}
use Rattle.ht_texts.specs.Tests.{test_text}
use Rattle.ht_faults.specs.Classes.{own_representatives}
use Rattle.ht_bred.specs.Bred.{IsBred}
use Rattle.ht_bred.specs.BredText.{bred_line}
use Rattle.ht_bred.specs.declared.bred.Bred.{Bred}
use Rattle.ht_causes.specs.declared.cause.Cause.{Cause}
use Rattle.ht_causes.specs.Causes.{AreCauses}
use Rattle.ht_causes.specs.CauseTexts.{causes_text, causes_total}
use Rattle.ht_compact.specs.Compacts.{CompactsRuns, compaction_of}
use Rattle.ht_compact.specs.CompactionText.{compaction_line}
use Rattle.ht_tern.specs.declared.tern.Tern.{Tern}
use Rattle.ht_dictionary.specs.Diagnoses.{Diagnoses}
use Rattle.ht_dictionary.specs.DiagnosisTexts.{diagnosis_text, diagnosis_total}
use Rattle.ht_dictionary.specs.DiagnosisView.{DiagnosisView}
use Rattle.ht_dictionary.specs.Responses.{IsLineResponses, IsResponses}

-- ---- one file, and its total line on Out

-- A report ends with the total line, which stands on Out before: so a report that ends with it is whole, and so is all
-- that was written before it.
abbrev pub ending : OutPort → List ℕ → List Act
ending Report total = put Report total ∷ []
ending port total = []

-- The file is made with its body, the total line is said on Out, and a report ends with it.
abbrev pub file_acts : OutPort → List ℕ → List ℕ → List ℕ → List Act
file_acts port name body total = make port name ∷ put port body ∷ put Out total ∷ ending port total

-- What is said stands on Out before the last line of a report.
abbrev pub report_acts : List ℕ → List ℕ → List ℕ → List Act
report_acts body said last = put Report body ∷ put Out said ∷ put Report last ∷ []

-- A file of this name is written, with its total line, and they are so.
pub record WritesFile (port : OutPort) (name : List ℕ) (AreSo : List ℕ → List ℕ → Type 0)
    (acts : List Act)
    : Type 0 where
  pub body : List ℕ
  pub total : List ℕ
  pub so : AreSo body total
  pub acts_are : acts ≡ file_acts port name body total

-- the commands that read no proofs, and write one file so
abbrev pub MakesOneFile : Kind → Type 0
MakesOneFile sim = Unit {0}
MakesOneFile compact = Unit {0}
MakesOneFile diagnose = Unit {0}
MakesOneFile uninit = Unit {0}
MakesOneFile kind = ⊥

-- The job makes a file at the port, of whose name this is so.
abbrev pub MakesAt : Asked → OutPort → (List ℕ → Type 0) → Type 0
MakesAt job port IsSo = (name : List ℕ) × (output_name job port ≡ Some name) × IsSo name

-- ---- `check`

-- What is said of the faults is justified by the vectors and the entries: one verdict for each fault, which is true;
-- and what the budget is enough for is decided.
pub record AreTrue (basis : JobBasis) : Type 0 where
  pub classes : AreClasses basis.circuit basis.representatives
  pub justified : IsJustified basis.circuit basis.representatives basis.content
  pub verdicts : HaveTrueVerdicts basis.circuit basis.representatives basis.content
  pub decided : AreDecided basis.circuit basis.representatives (IsWorkedOn basis.content)
      basis.content

-- ---- `report`

-- The report of a circuit with this budget, which says this of the faults. The total line is its last.
pub record IsReportOfVerdicts (c : Netlist) (representatives : List ℕ) (budget : ℕ)
    (saids : List Said)
    (report total : List ℕ) : Type 0 where
  pub report_is : report ≡ report_text c representatives (Some budget) saids
  pub reported : IsReportText c representatives report budget saids
  pub total_is : total ≡ with_lf (total_line (report_sums representatives (Some budget) saids))

-- ---- `gen`

-- what a file says, where one is named, and else nothing
abbrev pub where_named : {A : Type 0} → Option (List ℕ) → List A → List A
where_named (Some name) said = said
where_named None said = []

-- the kind of search of the engine, by how far the search goes: a full one writes proofs of the format of a deep one
abbrev pub search_of : Depth → Search
search_of depth.Plain = engine.Plain
search_of depth.Deep = engine.Deep
search_of depth.Full = engine.Deep

-- what the options of `gen`, and the files that they name, tell the generator
abbrev pub settings_of : JobBasis → Asked → Settings
settings_of basis job = record {
  budget = job.numbers.budget;
  random = job.numbers.random;
  seed = job.numbers.seed;
  weighted = job.numbers.weighted;
  search = search_of job.numbers.depth;
  start = basis.content.start;
  first = record {
    width = basis.circuit.inputs;
    list = where_named job.reads.tests basis.content.list;
  };
  chosen = option_map (λ _. basis.chosen) job.reads.faults;
}

-- the creation of the three files
abbrev pub creation : RunFiles → List Act
creation files = make Tests files.tests ∷ make Report files.report ∷ make Proofs files.proofs ∷ []

-- a step's vectors go to the tests, its entry to the proofs
abbrev pub step_acts : Step → List Act
step_acts (Vectors list) = put Tests (step_text (Vectors list)) ∷ []
step_acts (Entry fault entry) = put Proofs (step_text (Entry fault entry)) ∷ []
step_acts Finished = []

-- the steps are those of a generator, one after the other
pub record AreGenerated (c : net.Netlist) (settings : Settings) (steps : List Step) : Type 0 where
  pub representatives : List ℕ
  pub classes : AreClasses c representatives
  pub steps_are : AreSteps c representatives settings steps

-- A full search of the circuit for the chosen faults, which was given the first vectors and so much work, ended with these
-- steps: the work is
-- spent, or no fault is open, or nothing is left to try.
pub record EndsSearch (c : net.Netlist) (settings : Settings) (work : ℕ) (steps : List Step)
    : Type 0 where
  pub representatives : List ℕ
  pub classes : AreClasses c representatives
  pub marks : List Bool
  pub marked : AreMarks representatives settings marks
  pub at : FullView
  pub is : IsFullOf c representatives settings.start (first_vectors c settings) marks
      (work * UNIT_OF_WORK) at
  pub vectors : vectors_of_steps steps ≡ at.known.vectors.list
  pub entries : entries_of steps ≡ kept_entries at.known.verdicts
  pub at_end : IsEnd at

-- the texts of an engine's steps, the report and the total line are the files of a finished generator
abbrev pub IsGeneratedOf : net.Netlist → Settings → List Step → List ℕ → List ℕ → Type 0
IsGeneratedOf c settings steps text total =
    IsGenerated c settings (tests_of steps) text (proofs_of settings steps) total

-- which steps there are, by how far the search goes
abbrev pub AreStepsTo : Depth → net.Netlist → Settings → List Step → Type 0
AreStepsTo depth.Full = AreFound
AreStepsTo other = AreGenerated

-- so are those of a full search, which ended with these steps
abbrev pub IsSearchedOf : ℕ → net.Netlist → Settings → List Step → List ℕ → List ℕ → Type 0
IsSearchedOf work c settings steps text total =
    IsSearched c settings (tests_of steps) text (proofs_of settings steps) total
    × EndsSearch c settings work steps

-- What the steps, the report and the total line are in the end, by how far the search goes.
abbrev pub AreFilesTo : Depth → ℕ → net.Netlist → Settings → List Step → List ℕ → List ℕ → Type 0
AreFilesTo depth.Full work c settings = IsSearchedOf work c settings
AreFilesTo other work c settings = IsGeneratedOf c settings

-- The files are made, the proofs get their head line, and the steps are put one after the other.
pub record WritesSteps (files : RunFiles) (settings : Settings) (AreSo : List Step → Type 0)
    (acts : List Act) : Type 0 where
  pub steps : List Step
  pub steps_are : AreSo steps
  pub acts_are : acts ≡ creation files ++ put Proofs (proofs_so_far settings [])
      ∷ flat_map step_acts steps

-- All steps, and then the end of the proofs and the report. The three files and the total line are those of a finished
-- search.
pub record WritesFiles (files : RunFiles) (settings : Settings) (AreSo : List Step → Type 0)
    (IsLast : List Step → List ℕ → List ℕ → Type 0) (acts : List Act) : Type 0 where
  pub first : List Act
  pub begun : WritesSteps files settings AreSo first
  pub body : List ℕ
  pub total : List ℕ
  pub acts_are : acts ≡ first
      ++ put Proofs (with_lf (line_text End)) ∷ put Report body ∷ put Out total
      ∷ ending Report total
  pub finished : IsLast begun.steps (body ++ total) total

-- the files of a search that goes so far
abbrev pub SearchesTo : Depth → ℕ → RunFiles → net.Netlist → Settings → List Act → Type 0
SearchesTo depth work files c settings =
    WritesFiles files settings (AreStepsTo depth c settings) (AreFilesTo depth work c settings)

-- ---- `demo`

-- the budget of each search, how many random vectors come first, and their seed, from all-unknown; all faults are worked
-- on, plainly
abbrev pub demo_settings : net.Netlist → ℕ → Settings
demo_settings c seed = record {
  budget = DEMO_BUDGET;
  random = DEMO_RANDOM;
  seed = seed;
  weighted = 0;
  search = engine.Plain;
  start = unknown_state c;
  first = record { width = c.inputs; list = [] };
  chosen = None;
}

-- The head line of a report on the netlist is said.
pub record SaysHead (size seed : ℕ) (acts : List Act) : Type 0 where
  pub representatives : List ℕ
  pub classes : AreClasses (demo_netlist size seed) representatives
  pub acts_are :
      acts ≡ put Out (with_lf (head_line (demo_netlist size seed) representatives
      (Some DEMO_BUDGET))) ∷ []

-- And then the total line of what the generator says of it.
pub record SaysTotals (size seed : ℕ) (acts : List Act) : Type 0 where
  pub first : List Act
  pub total : List ℕ
  pub head : SaysHead size seed first
  pub total_is : IsTotalOf (demo_netlist size seed) (demo_settings (demo_netlist size seed) seed)
      total
  pub acts_are : acts ≡ first ++ put Out total ∷ []

-- ---- `sim`

-- The report of a circuit over these vectors from a start, and its total line. A fault that represents its class has
-- its own verdict, and every other names its representative.
pub record IsReportOf (c : Netlist) (start : List Tern) (list : List (List Bool))
    (report total : List ℕ)
    : Type 0 where
  pub representatives : List ℕ
  pub places : List (Option Place)
  pub classes : AreClasses c representatives
  pub detections : AreFirstDetections c representatives start list places
  pub report_is : report ≡ report_text c representatives None (saids_of places)
  pub total_is : total ≡ with_lf (total_line (report_sums representatives None (saids_of places)))

-- ---- `compact`

-- the longest run of vectors that is left out at once: one vector where the words don't say it
abbrev pub most_at_once : Option ℕ → ℕ
most_at_once None = 1
most_at_once (Some most) = most

-- The text is that of the vectors to which this list is compacted by runs of at most so many, and the total line says
-- how many vectors there were and how many are kept.
pub record IsCompactionOf (c : net.Netlist) (most : ℕ) (list : List (List Bool))
    (text total : List ℕ) : Type 0 where
  pub representatives : List ℕ
  pub kept : List (List Bool)
  pub classes : AreClasses c representatives
  pub computed : kept ≡ compaction_of c representatives most list
  pub compacted : CompactsRuns c representatives most list kept
  pub text_is : text ≡ test_text kept
  pub total_is : total ≡ with_lf (compaction_line (length list) (length kept))

-- ---- `diagnose`

-- The report says where the good machine and the representative of each class first contradict what was observed over
-- these vectors, or that they are consistent. The total line is its last.
pub record IsDiagnosisReport (c : net.Netlist) (list : List (List Bool)) (rows : List (List Tern))
    (report total : List ℕ) : Type 0 where
  pub representatives : List ℕ
  pub diagnosis : DiagnosisView
  pub classes : AreClasses c representatives
  pub first : Diagnoses c representatives list rows diagnosis
  pub report_is : report ≡ diagnosis_text c representatives (length list) diagnosis
  pub total_is : total ≡ with_lf (diagnosis_total representatives diagnosis.places)

-- ---- `uninit`

-- The report is the text of the record that the work gives for all faults, and what such a record means holds: its set
-- is closed and stays unknown, and no list detects a hidden fault. The total line is its last.
pub record IsUninitReport (c : net.Netlist) (budget : ℕ) (report total : List ℕ) : Type 0 where
  pub representatives : List ℕ
  pub answer : UninitState
  pub classes : AreClasses c representatives
  pub is_answer : IsUninit c budget (faults_of c) answer
  pub holds : UninitHolds c budget answer
  pub report_is : report ≡ uninit_text c representatives budget answer
  pub total_is : total ≡ with_lf (uninit_total c representatives answer)

-- ---- `sync`

-- The tests are the list that the search within the budget finds, or none, and the record says what it found. What such
-- an answer means holds: the list synchronizes, and no shorter one does. A budget that is enough finds one.
pub record IsSyncRecord (c : net.Netlist) (budget : ℕ) (tests record_text said last : List ℕ) : Type
    0 where
  pub answer : Synchronized
  pub is_answer : IsSynchronized c budget answer
  pub holds : SynchronizedHolds c budget answer
  pub enough : FindsWithin c budget answer
  pub tests_are : tests ≡ test_text (sync_list answer)
  pub record_is : record_text ≡ sync_text (length c.dffs) budget answer
  pub said_is : said ≡ with_lf (sync_said answer)
  pub last_is : last ≡ with_lf (last_sync_line answer)

-- The tests are made before the record.
abbrev pub sync_acts : List ℕ → List ℕ → List ℕ → List ℕ → List ℕ → List ℕ → List Act
sync_acts tests out list body said last =
    make Tests tests ∷ make Report out ∷ put Tests list ∷ report_acts body said last

-- Both files are written, as such a search leaves them.
pub record WritesSync (tests out : List ℕ) (c : net.Netlist) (budget : ℕ) (acts : List Act) : Type 0
  where
    pub list : List ℕ
    pub body : List ℕ
    pub said : List ℕ
    pub last : List ℕ
    pub so : IsSyncRecord c budget list (body ++ last) said last
    pub acts_are : acts ≡ sync_acts tests out list body said last

-- ---- `respond`

-- the machine that the number of a fault names: the one with that fault, or without a number the good one
abbrev pub IsMachineOf : net.Netlist → Option ℕ → Option Fault → Type 0
IsMachineOf c None fault = fault ≡ None
IsMachineOf c (Some number) fault = IsListed c (Some number)
    × (fault ≡ Some (fault_at c (number - 1)))

-- The file is made and written.
abbrev pub response_acts : List ℕ → List ℕ → List ℕ → List ℕ → List Act
response_acts out body said last = make Report out ∷ report_acts body said last

-- the texts have what a machine shows over the vectors, from the start: the value of each net, or that of each output
abbrev pub AreTextsOf : Bool → net.Netlist → Option Fault → List Tern → List (List Bool)
    → List ℕ → List ℕ → List ℕ → Type 0
AreTextsOf true = IsLineResponses
AreTextsOf false = IsResponses

-- The file has exactly what that machine shows over the vectors, from the start, at each net or at each output.
pub record WritesResponses (out : List ℕ) (c : net.Netlist) (number : Option ℕ) (lines : Bool)
    (start : List Tern) (list : List (List Bool)) (acts : List Act) : Type 0 where
  pub fault : Option Fault
  pub body : List ℕ
  pub said : List ℕ
  pub last : List ℕ
  pub machine : IsMachineOf c number fault
  pub so : AreTextsOf lines c fault start list body last said
  pub acts_are : acts ≡ response_acts out body said last

-- ---- `breed`

-- The text is that of all vectors, and the total line says how many of them were given and how many bred, and how many
-- of the representatives they detect.
pub record AreBredTexts (representatives : List ℕ) (given : ℕ) (bred : Bred)
    (text total : List ℕ) : Type 0 where
  pub text_is : text ≡ test_text bred.vectors.list
  pub total_is : total ≡ with_lf (bred_line given bred.count bred.detected
      (length (own_representatives representatives)))

-- The text is that of these vectors and of at most so many others after them, and the total line says what all of them
-- detect from the start.
pub record IsBreeding (c : Netlist) (start : List Tern) (list : List (List Bool)) (most : ℕ)
    (text total : List ℕ) : Type 0 where
  pub representatives : List ℕ
  pub bred : Bred
  pub classes : AreClasses c representatives
  pub is_bred : IsBred c representatives start list most bred
  pub texts : AreBredTexts representatives (length list) bred text total

-- ---- `causes`

-- The report says why these vectors don't detect the representative of each class, from the start, or where they do. The
-- total line is its last.
pub record IsCausesReport (c : Netlist) (start : List Tern) (list : List (List Bool))
    (report total : List ℕ) : Type 0 where
  pub representatives : List ℕ
  pub found : List Cause
  pub classes : AreClasses c representatives
  pub exact : AreCauses c representatives start list found
  pub report_is : report ≡ causes_text c representatives found
  pub total_is : total ≡ with_lf (causes_total representatives found)

-- ---- all commands

-- What each command does to its outputs, once its inputs say the basis.
abbrev pub OutputOf : Kind → Asked → JobBasis → List Act → Type 0
OutputOf sim job basis acts = MakesAt job Report (λ out. WritesFile Report out
    (λ body total. IsReportOf basis.circuit basis.content.start basis.content.list
    (body ++ total) total) acts)
OutputOf gen job basis acts = (files : RunFiles) × (job.makes ≡ made_by files)
    × SearchesTo job.numbers.depth job.numbers.work files basis.circuit (settings_of basis job) acts
OutputOf check job basis acts = AreTrue basis × (acts ≡ put Out (codes "valid\n") ∷ [])
OutputOf norm job basis acts =
    MakesAt job Report (λ out. acts ≡ make Report out ∷ put Report (normal_text basis.circuit) ∷ [])
OutputOf demo job basis acts = SaysTotals job.numbers.size job.numbers.seed acts
OutputOf compact job basis acts =
    MakesAt job Tests (λ out. WritesFile Tests out
    (IsCompactionOf basis.circuit (most_at_once job.numbers.runs) basis.content.list) acts)
OutputOf diagnose job basis acts = MakesAt job Report (λ out. WritesFile Report out
    (λ body total. IsDiagnosisReport basis.circuit basis.content.list basis.rows
    (body ++ total) total) acts)
OutputOf uninit job basis acts = MakesAt job Report (λ out. WritesFile Report out
    (λ body total. IsUninitReport basis.circuit job.numbers.budget (body ++ total) total) acts)
OutputOf sync job basis acts = MakesAt job Tests (λ tests.
    MakesAt job Report (λ out. WritesSync tests out basis.circuit job.numbers.budget acts))
OutputOf respond job basis acts = MakesAt job Report (λ out.
    WritesResponses out basis.circuit job.numbers.fault job.numbers.lines basis.content.start
    basis.content.list acts)
OutputOf report job basis acts = (basis.content.budget ≡ job.numbers.budget) × AreTrue basis
    × MakesAt job Report
    (λ out. WritesFile Report out (λ body total. IsReportOfVerdicts basis.circuit
    basis.representatives basis.content.budget basis.content.saids (body ++ total) total) acts)
OutputOf breed job basis acts = MakesAt job Tests (λ out. WritesFile Tests out
    (IsBreeding basis.circuit basis.content.start basis.content.list job.numbers.bred) acts)
OutputOf causes job basis acts = MakesAt job Report (λ out. WritesFile Report out
    (λ body total. IsCausesReport basis.circuit basis.content.start basis.content.list
    (body ++ total) total) acts)

-- what the command of a job does
abbrev pub MakesOutput : Asked → JobBasis → List Act → Type 0
MakesOutput job = OutputOf job.command job

-- What each command does while it may still ask for memory.
abbrev pub BeginningOf : Kind → Asked → JobBasis → List Act → Type 0
BeginningOf gen job basis acts = (files : RunFiles) × (job.makes ≡ made_by files)
    × WritesSteps files (settings_of basis job)
    (AreStepsTo job.numbers.depth basis.circuit (settings_of basis job)) acts
BeginningOf demo job basis acts = SaysHead job.numbers.size job.numbers.seed acts
BeginningOf kind job basis acts = ⊥

-- what the command of a job does
abbrev pub BeginsOutput : Asked → JobBasis → List Act → Type 0
BeginsOutput job = BeginningOf job.command job
