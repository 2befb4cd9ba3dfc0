-- The draft of the statements that were added to a builder.
use Rattle.std.specs.Prelude.{◌≡◌, ◌⊎◌, ℕ, ◌<◌, ◌≤◌, List, [], ◌∷◌, length, find, true, false, Option, None}
use Rattle.ht_tern.specs.Gate.{HasArity}
use Rattle.ht_net.specs.declared.names.NameId.{NameId}
use Rattle.ht_net.specs.declared.error.Limit.{Limit as NetLimit}
use Rattle.ht_net.specs.declared.error.Limit.TheVariants.{Nets}
use Rattle.ht_net.specs.Build.Names.{IsNameAt}
use Rattle.ht_net.specs.Build.Named.{Name, NamedNetlist}
use Rattle.ht_net.specs.Build.Draft.{Draft, IsDraft, named_draft, draft_pins, driven_names}
use Rattle.ht_net.specs.Circuit.Netlist.{max_nets, max_arguments}
use Rattle.ht_statement.specs.Statement.{Statement, gate_line, names_in}
use Rattle.ht_statement.specs.Reading.{stated, reading_of}
use Rattle.ht_bench.specs.Different.{has_name, with_names}
use Rattle.ht_bench.specs.Contents.{with_statement, driven_in, stated_nets, named_of_statements}
use Rattle.ht_bench.specs.Accepted.{limit_passed, limit_passed_by, driver_or_limit, reading_error}
use Rattle.ht_bench.specs.AddErrors.{IsAddError}
use Rattle.ht_bench.specs.declared.add_error.AddError.{AddError}
use Rattle.ht_bench.specs.declared.add_error.AddError.TheVariants.{SecondDriver, Limit, NoMemory}

-- the draft of a netlist by names
abbrev pub drafted : List Name → NamedNetlist → Draft
drafted names n = record { names = names; inputs = n.inputs; outputs = n.outputs; dffs = n.dffs; gates = n.gates }

-- the draft of statements that are within the limits
pub record IsDraftOf (statements : List Statement) (d : Draft) : Type 0 where
  pub is : d ≡ drafted (stated_nets statements) (named_of_statements statements)
  pub limits : limit_passed statements ≡ None

-- a draft with one more statement
abbrev pub with_line : Draft → Statement → Draft
with_line d s = drafted (with_names d.names (names_in s)) (with_statement (named_draft d) s)

-- the first limit that a draft passes
abbrev pub draft_limit : Draft → Option NetLimit
draft_limit d = limit_passed_by (length d.names) (draft_pins d) (length d.inputs) (length d.dffs)

-- why a statement isn't accepted after those of a draft, if it isn't
abbrev pub draft_error : Draft → Statement → Option AddError
draft_error d s = driver_or_limit (find (has_name (driven_names d)) (driven_in s)) (draft_limit (with_line d s))

-- a draft in which more names are mentioned, and nothing else is new
pub record Mentions (old : Draft) (names : List Name) (new : Draft) : Type 0 where
  pub is : new ≡ record old { names = with_names old.names names }
  pub is_draft : IsDraft new

-- a draft in which names are mentioned, and this is the number of one that no line drives so far
pub record MentionsFree (old : Draft) (names : List Name) (name : Name) (id : NameId)
    (new : Draft) : Type 0 where
  pub mentions : Mentions old names new
  pub number : IsNameAt new.names id.0 name
  pub free : has_name (driven_names old) name ≡ false

-- with these names there are too many nets, or memory ran out
abbrev pub RefusesMentions : Draft → List Name → AddError → Type 0
RefusesMentions old names error = (error ≡ NoMemory)
    ⊎ ((error ≡ Limit Nets) × (max_nets < length (with_names old.names names)))

-- an earlier line drives the net; or none does, and there is no room for its name; or memory ran out
abbrev pub RefusesDriver : Draft → Name → AddError → Type 0
RefusesDriver old name error = ((error ≡ SecondDriver name) × (has_name (driven_names old) name ≡ true))
    ⊎ (((has_name (driven_names old) name ≡ false) × RefusesMentions old (name ∷ []) error)
    ⊎ (error ≡ NoMemory))

-- the statement is accepted after those of the old draft, and the new draft has it too
abbrev pub Accepts : Draft → Statement → Draft → Type 0
Accepts old s new = (new ≡ with_line old s) × (draft_error old s ≡ None)

-- why a draft refuses a statement
abbrev pub RefusesStatement : Draft → Statement → AddError → Type 0
RefusesStatement old s error = IsAddError error (draft_error old s)

-- one argument for NOT and BUFF, at least one for the other gates, and no more than the limit
abbrev pub HasArguments : Statement → Type 0
HasArguments (gate_line out kind args) = HasArity kind (length args) × (length args ≤ max_arguments)
HasArguments _ = Unit {0}

-- a line adds what it states, or is refused
pub record AddsLine (old : Draft) (line : List ℕ) (new : Draft) : Type 0 where
  pub statement : Statement
  pub states : reading_of line ≡ stated statement
  pub accepts : Accepts old statement new

-- why a draft refuses a line, whatever statements came before
abbrev pub RefusesLine : Draft → List ℕ → AddError → Type 0
RefusesLine old line error = (before : List Statement) → IsDraftOf before old
    → IsAddError error (reading_error before (reading_of line))
