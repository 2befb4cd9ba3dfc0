-- What the words of the command line ask for, by the table of the commands.
use Rattle.std.specs.Prelude.{Bool, if◌then◌else◌, List, [], ◌∷◌, ◌++◌, Option, Some, None, is_some, ℕ}
use Rattle.std.specs.Prelude.{codes, find, map, option_and_then, option_map, String, string_bytes}
use Rattle.std.specs.Global.{Global}
use Rattle.std.specs.Str.{bytes_eq}
use Rattle.clap.specs.Walk.{Text}
use Rattle.ht_ports.specs.declared.ports.InPort.TheVariants as in_port
use Rattle.ht_ports.specs.declared.ports.OutPort.TheVariants as out_port
use Rattle.ht_asked.specs.declared.depth.Depth.{Depth}
use Rattle.ht_asked.specs.declared.depth.Depth.TheVariants.{Plain, Deep, Full}
use Rattle.ht_asked.specs.declared.limits.TheConstants.{DEFAULT_BRED, DEFAULT_BUDGET, DEFAULT_WORK, MAX_BRED, MAX_BUDGET, MIN_BUDGET}
use Rattle.ht_asked.specs.declared.limits.TheConstants.{DEFAULT_RANDOM, DEFAULT_SEED, MAX_RANDOM, MAX_SEED}
use Rattle.ht_asked.specs.declared.limits.TheConstants.{MAX_FAULT, MAX_RUN, MAX_SIZE, MAX_WORK, MIN_FAULT, MIN_RUN, MIN_SIZE, MIN_WORK}
use Rattle.ht_asked.specs.Asked.{Asked, InNames, Numbers, OutNames, makes_nothing, reads_nothing}
use Rattle.ht_asked.specs.Forms.{Form, Given, given}
use Rattle.ht_asked.specs.Numbers.{number_in, number_or}
use Rattle.ht_asked.specs.Table.{Argument, Kind, Role, Row, command_row, file_made, file_read, kinds, says_budget}
use Rattle.ht_asked.specs.Table.{says_bred, says_depth, says_fault, says_lines, says_random, says_runs, says_seed, says_size, says_weighted, says_work}

-- the words as their bytes
abbrev pub words_of : List (String Global) → List Text
words_of = map (λ s. string_bytes s)

-- ---- numbers and choices

-- the budget of a search, where the option's text is one or is left out
abbrev pub budget_of : Option Text → Option ℕ
budget_of = number_or DEFAULT_BUDGET MIN_BUDGET MAX_BUDGET

-- how many random vectors come first, or how many weighted ones after them, where the option's text says it or is left
-- out
abbrev pub random_of : Option Text → Option ℕ
random_of = number_or DEFAULT_RANDOM 0 MAX_RANDOM

-- how many vectors are bred at most, where the option's text says it or is left out
abbrev pub bred_of : Option Text → Option ℕ
bred_of = number_or DEFAULT_BRED 0 MAX_BRED

-- the seed of random, weighted and bred vectors, or of a demonstration netlist, where the text is one or is left out
abbrev pub seed_of : Option Text → Option ℕ
seed_of = number_or DEFAULT_SEED 0 MAX_SEED

-- how far the search goes, where the option's text is `plain`, `deep` or `full`, or is left out
abbrev pub depth_of : Option Text → Option Depth
depth_of None = Some Plain
depth_of (Some text) = if bytes_eq text (codes "plain") then Some Plain
    else (if bytes_eq text (codes "deep") then Some Deep
    else (if bytes_eq text (codes "full") then Some Full else None))

-- the work of a full search, where the option's text is one or is left out
abbrev pub work_of : Option Text → Option ℕ
work_of = number_or DEFAULT_WORK MIN_WORK MAX_WORK

-- a number in a range, where the option's text is one, or none where it is left out
abbrev pub number_if : ℕ → ℕ → Option Text → Option (Option ℕ)
number_if least most None = Some None
number_if least most (Some text) = option_map Some (number_in least most text)

-- the number of a fault, where the option's text is one, or none where it is left out
abbrev pub fault_of : Option Text → Option (Option ℕ)
fault_of = number_if MIN_FAULT MAX_FAULT

-- the longest run of vectors that is left out at once, or none where the option is left out
abbrev pub runs_of : Option Text → Option (Option ℕ)
runs_of = number_if MIN_RUN MAX_RUN

-- the size of a demonstration netlist, where the text is one
abbrev pub demo_size : Option Text → Option ℕ
demo_size = number_or MIN_SIZE MIN_SIZE MAX_SIZE

-- ---- what a command's words ask for

-- the texts of the numbers and choices, where they are given
pub record NumberTexts : Type 0 where
  pub budget : Option Text
  pub random : Option Text
  pub weighted : Option Text
  pub bred : Option Text
  pub seed : Option Text
  pub depth : Option Text
  pub work : Option Text
  pub fault : Option Text
  pub lines : Option Text
  pub runs : Option Text
  pub size : Option Text

-- the texts of all arguments, by what they are for
pub record Sorted : Type 0 where
  pub reads : InNames
  pub makes : OutNames
  pub numbers : NumberTexts

-- nothing is given
abbrev pub nothing_sorted : Sorted
nothing_sorted = record {
  reads = reads_nothing;
  makes = makes_nothing;
  numbers = record {
    budget = None;
    random = None;
    weighted = None;
    bred = None;
    seed = None;
    depth = None;
    work = None;
    fault = None;
    lines = None;
    runs = None;
    size = None;
  };
}

-- one text more, by what it is for: no file is made at Out and Err
abbrev pub sort_in : Role → Option Text → Sorted → Sorted
sort_in (file_read in_port.Netlist) text s = record s { reads = record s.reads { netlist = text } }
sort_in (file_read in_port.Tests) text s = record s { reads = record s.reads { tests = text } }
sort_in (file_read in_port.Report) text s = record s { reads = record s.reads { report = text } }
sort_in (file_read in_port.Proofs) text s = record s { reads = record s.reads { proofs = text } }
sort_in (file_read in_port.Faults) text s = record s { reads = record s.reads { faults = text } }
sort_in (file_read in_port.Extra) text s = record s { reads = record s.reads { extra = text } }
sort_in (file_made out_port.Tests) text s = record s { makes = record s.makes { tests = text } }
sort_in (file_made out_port.Report) text s = record s { makes = record s.makes { report = text } }
sort_in (file_made out_port.Proofs) text s = record s { makes = record s.makes { proofs = text } }
sort_in (file_made port) text s = s
sort_in says_budget text s = record s { numbers = record s.numbers { budget = text } }
sort_in says_random text s = record s { numbers = record s.numbers { random = text } }
sort_in says_weighted text s = record s { numbers = record s.numbers { weighted = text } }
sort_in says_bred text s = record s { numbers = record s.numbers { bred = text } }
sort_in says_seed text s = record s { numbers = record s.numbers { seed = text } }
sort_in says_depth text s = record s { numbers = record s.numbers { depth = text } }
sort_in says_work text s = record s { numbers = record s.numbers { work = text } }
sort_in says_fault text s = record s { numbers = record s.numbers { fault = text } }
sort_in says_lines text s = record s { numbers = record s.numbers { lines = text } }
sort_in says_runs text s = record s { numbers = record s.numbers { runs = text } }
sort_in says_size text s = record s { numbers = record s.numbers { size = text } }

-- the texts of these arguments, after others and in their order, where there is one for each
abbrev pub sorted : Sorted → List Argument → List (Option Text) → Option Sorted
sorted s [] [] = Some s
sorted s (argument ∷ arguments) (text ∷ texts) = sorted (sort_in argument.role text s) arguments
    texts
sorted s _ _ = None

-- the texts of a command's positionals, and those of its options and flags
abbrev pub sorted_by : Row → List Text → List (Option Text) → Option Sorted
sorted_by row positionals options = option_and_then
    (λ s. sorted s (row.options ++ row.flags) options)
    (sorted nothing_sorted row.positionals (map Some positionals))

-- the numbers and choices, where each is one, and whether a machine is shown at each net
abbrev pub numbers_with : Option ℕ → Option ℕ → Option ℕ → Option ℕ → Option ℕ → Option Depth
    → Option ℕ → Option (Option ℕ) → Option (Option ℕ) → Option ℕ → Bool → Option Numbers
numbers_with (Some budget) (Some random) (Some weighted) (Some bred) (Some seed) (Some depth)
    (Some work) (Some fault) (Some runs) (Some size) lines =
    Some (record {
      budget = budget;
      random = random;
      weighted = weighted;
      bred = bred;
      seed = seed;
      depth = depth;
      work = work;
      fault = fault;
      lines = lines;
      runs = runs;
      size = size;
    })
numbers_with _ _ _ _ _ _ _ _ _ _ lines = None

-- the numbers and choices that their texts say, where each of them says one
abbrev pub numbers_said : NumberTexts → Option Numbers
numbers_said t = numbers_with (budget_of t.budget) (random_of t.random) (random_of t.weighted)
    (bred_of t.bred) (seed_of t.seed) (depth_of t.depth) (work_of t.work) (fault_of t.fault)
    (runs_of t.runs) (demo_size t.size) (is_some t.lines)

-- the job of a command that the texts of its arguments ask for, where each of its numbers is one
abbrev pub job_said : Kind → Sorted → Option Asked
job_said kind texts = option_map
    (λ numbers. record {
      command = kind;
      reads = texts.reads;
      makes = texts.makes;
      numbers = numbers;
    })
    (numbers_said texts.numbers)

-- a command as its words are read: its name, the form of the words after it, and what they ask for
pub record Command : Type 0 where
  pub name : Text
  pub form : Form
  pub asks : Given → Option Asked

-- the names of these arguments
abbrev pub argument_names : List Argument → List Text
argument_names = map (λ (a : Argument). a.name)

-- the command of a row
abbrev pub command_of : Kind → Command
command_of kind = record {
  name = (command_row kind).name;
  form = record {
    positionals = argument_names (command_row kind).positionals;
    options = argument_names (command_row kind).options;
    flags = argument_names (command_row kind).flags;
  };
  asks = λ g. option_and_then (job_said kind)
      (sorted_by (command_row kind) g.positionals g.options);
}

-- the command that has this name, if there is one
abbrev pub command_named : Text → Option Command
command_named name = find (λ c. bytes_eq name c.name) (map command_of kinds)

-- what the words ask for, where the first names a command and each command's words are read so
abbrev pub asked_in : (Command → List Text → Option Given) → List Text → Option Asked
asked_in read [] = None
asked_in read (name ∷ words) = option_and_then (λ c. option_and_then c.asks (read c words))
    (command_named name)

-- what the words ask for, where those after a command's name have its form
unfoldable pub asked : List Text → Option Asked
asked words = asked_in (λ c. given c.form) words
