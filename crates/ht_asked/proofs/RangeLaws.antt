-- The numbers that words ask for are in their ranges.
use Rattle.std.proofs.Common.{◌≡◌, ◌≤◌, ◌∷◌, ◌&&◌, ℕ, Bool, true, false, cond, List, [], Option, Some, None, refl, subst, arith}
use Rattle.std.specs.Prelude.{IfSome, find, is_some, map, nat_le, option_and_then, option_map}
use Rattle.std.specs.Str.{bytes_eq}
use Rattle.std.specs.Str.Parse.{digits_value}
use Rattle.std.proofs.lemmas.Bool.{leb-true}
use Rattle.clap.specs.Walk.{Text}
use Rattle.clap.proofs.WalkLemmas.{both}
use Rattle.ht_asked.specs.declared.limits.TheConstants.{MAX_BRED, MAX_BUDGET, MAX_FAULT, MAX_RANDOM, MAX_RUN, MAX_SEED, MAX_SIZE, MAX_WORK, MIN_BUDGET, MIN_FAULT, MIN_RUN, MIN_SIZE, MIN_WORK}
use Rattle.ht_asked.specs.declared.depth.Depth.{Depth}
use Rattle.ht_asked.specs.Forms.{Given, given}
use Rattle.ht_asked.specs.Numbers.{is_number, number_in, number_or}
use Rattle.ht_asked.specs.Asked.{Asked, InNames, Numbers, OutNames}
use Rattle.ht_asked.specs.Table.{Kind}
use Rattle.ht_asked.specs.Commands.{Command, Sorted, asked, bred_of, budget_of, command_of, demo_size, depth_of, fault_of}
use Rattle.ht_asked.specs.Table.{command_row}
use Rattle.ht_asked.specs.Commands.{job_said, number_if, numbers_with, random_of, runs_of, seed_of, sorted_by, work_of}
use Rattle.ht_asked.specs.Table.{kinds}
use Rattle.ht_asked.specs.Ranges.{IsInRange}

-- ---- numbers

abbrev InRange : ℕ → ℕ → ℕ → Type 0
InRange least most number = (least ≤ number) × (number ≤ most)

-- a number that was read is in its range
pub number_is_in_range : (least most : ℕ) (text : Text) → IfSome (number_in least most text) (InRange least most)
number_is_in_range least most text = go (is_number text)
    (nat_le least (digits_value 10 text) && nat_le (digits_value 10 text) most) refl
  where
    go : (a b : Bool) → (nat_le least (digits_value 10 text) && nat_le (digits_value 10 text) most) ≡ b
        → IfSome (cond (a && b) (Some (digits_value 10 text)) None) (InRange least most)
    go false b f = tt
    go true false f = tt
    go true true f =
        let range = both (nat_le least (digits_value 10 text)) (nat_le (digits_value 10 text) most) f in
        (leb-true least (digits_value 10 text) range.0, leb-true (digits_value 10 text) most range.1)

-- so is that of an option, where its default is
pub option_is_in_range : (default least most : ℕ) → InRange least most default → (text : Option Text)
    → IfSome (number_or default least most text) (InRange least most)
option_is_in_range default least most within None = within
option_is_in_range default least most within (Some text) = number_is_in_range least most text

-- ---- the numbers of a job

abbrev IfInRange : ℕ → ℕ → Option ℕ → Type 0
IfInRange least most number = IfSome number (InRange least most)

-- so is a number that may be left out
number_if_in_range : (least most : ℕ) (text : Option Text) → IfSome (number_if least most text) (IfInRange least most)
number_if_in_range least most None = tt
number_if_in_range least most (Some text) = go (number_in least most text) (number_is_in_range least most text)
  where
    go : (n : Option ℕ) → IfInRange least most n → IfSome (option_map Some n) (IfInRange least most)
    go None within = tt
    go (Some n) within = within

abbrev AsksInRange : Option Asked → Type 0
AsksInRange asks = IfSome asks IsInRange

by_numbers : (kind : Kind) (reads : InNames) (makes : OutNames) (budget random weighted bred seed : Option ℕ)
    (depth : Option Depth) (work : Option ℕ) (fault runs : Option (Option ℕ)) (size : Option ℕ) (lines : Bool)
    → IfSome budget (InRange MIN_BUDGET MAX_BUDGET) → IfSome random (InRange 0 MAX_RANDOM)
    → IfSome weighted (InRange 0 MAX_RANDOM) → IfSome bred (InRange 0 MAX_BRED)
    → IfSome seed (InRange 0 MAX_SEED) → IfSome work (InRange MIN_WORK MAX_WORK)
    → IfSome fault (IfInRange MIN_FAULT MAX_FAULT) → IfSome runs (IfInRange MIN_RUN MAX_RUN)
    → IfSome size (InRange MIN_SIZE MAX_SIZE)
    → AsksInRange (option_map
    (λ (n : Numbers). record { command = kind; reads = reads; makes = makes; numbers = n })
    (numbers_with budget random weighted bred seed depth work fault runs size lines))
by_numbers kind reads makes (Some b) (Some r) (Some w) (Some n) (Some s) (Some d) (Some k) (Some f) (Some l) (Some z)
    lines bs rs ws ns ss ks fs ls zs = record {
      budget = bs;
      random = rs.1;
      weighted = ws.1;
      bred = ns.1;
      seed = ss.1;
      work = ks;
      fault = fs;
      runs = ls;
      size = zs;
    }
by_numbers kind reads makes _ _ _ _ _ _ _ _ _ _ lines bs rs ws ns ss ks fs ls zs = tt

said_in_range : (kind : Kind) (texts : Sorted) → AsksInRange (job_said kind texts)
said_in_range kind texts = by_numbers kind texts.reads texts.makes (budget_of texts.numbers.budget)
    (random_of texts.numbers.random) (random_of texts.numbers.weighted) (bred_of texts.numbers.bred)
    (seed_of texts.numbers.seed) (depth_of texts.numbers.depth) (work_of texts.numbers.work)
    (fault_of texts.numbers.fault) (runs_of texts.numbers.runs) (demo_size texts.numbers.size)
    (is_some texts.numbers.lines)
    (option_is_in_range 1000 MIN_BUDGET MAX_BUDGET (omega arith, omega arith) texts.numbers.budget)
    (option_is_in_range 0 0 MAX_RANDOM (omega arith, omega arith) texts.numbers.random)
    (option_is_in_range 0 0 MAX_RANDOM (omega arith, omega arith) texts.numbers.weighted)
    (option_is_in_range 2000 0 MAX_BRED (omega arith, omega arith) texts.numbers.bred)
    (option_is_in_range 0 0 MAX_SEED (omega arith, omega arith) texts.numbers.seed)
    (option_is_in_range 60 MIN_WORK MAX_WORK (omega arith, omega arith) texts.numbers.work)
    (number_if_in_range MIN_FAULT MAX_FAULT texts.numbers.fault)
    (number_if_in_range MIN_RUN MAX_RUN texts.numbers.runs)
    (option_is_in_range 1 MIN_SIZE MAX_SIZE (omega arith, omega arith) texts.numbers.size)

-- ---- the table of the commands

by_sorted : (kind : Kind) (texts : Option Sorted) → AsksInRange (option_and_then (job_said kind) texts)
by_sorted kind None = tt
by_sorted kind (Some texts) = said_in_range kind texts

by_given : (kind : Kind) (o : Option Given) → AsksInRange (option_and_then (command_of kind).asks o)
by_given kind None = tt
by_given kind (Some g) = by_sorted kind (sorted_by (command_row kind) g.positionals g.options)

by_found : (test : Command → Bool) (words : List Text) (ks : List Kind) → AsksInRange
    (option_and_then (λ (c : Command). option_and_then c.asks (given c.form words)) (find test (map command_of ks)))
by_found test words [] = tt
by_found test words (k ∷ ks) = go (test (command_of k)) (by_found test words ks)
  where
    asks : Command → Option Asked
    asks c = option_and_then c.asks (given c.form words)

    go : (b : Bool) → AsksInRange (option_and_then asks (find test (map command_of ks)))
        → AsksInRange (option_and_then asks (cond b (Some (command_of k)) (find test (map command_of ks))))
    go true rest = by_given k (given (command_of k).form words)
    go false rest = rest

asked_in_range : (words : List Text) → AsksInRange (asked words)
unfolding asked
asked_in_range [] = tt
asked_in_range (name ∷ words) = by_found (λ c. bytes_eq name c.name) words kinds

-- the numbers of the command that words ask for are in their ranges
pub numbers_are_in_range : (words : List Text) (job : Asked) → asked words ≡ Some job → IsInRange job
numbers_are_in_range words job is = subst AsksInRange is (asked_in_range words)
