-- What lines state: readings determine the statements, and a gate has as many arguments as its kind may have.
use Rattle.std.proofs.Common.{◌≡◌, List, [], ◌∷◌, length, map, refl, ℕ, true}
use Rattle.ht_statement.specs.Statement.{Statement, gate_line}
use Rattle.ht_statement.specs.Reading.{stated, reading_of}
use Rattle.ht_statement.specs.StatementText.{has_its_count}
use Rattle.ht_statement.proofs.StatedLaws.{count_is_arity, stated_sound}
use Rattle.ht_bench.specs.Drafts.{HasArguments}

-- a reading states one statement only
pub states_one : (s t : Statement) → stated s ≡ stated t → s ≡ t
states_one s t e = cc

-- two lists of statements with the same readings are the same
pub same_statements : (some others : List Statement) → map stated some ≡ map stated others → some ≡ others
same_statements [] [] e = refl
same_statements [] (s ∷ others) e = absurd (cc)
same_statements (b ∷ some) [] e = absurd (cc)
same_statements (b ∷ some) (s ∷ others) e = let rest : some ≡ others = same_statements some others (cc) in cc

has_arguments : (s : Statement) → has_its_count s ≡ true → HasArguments s
has_arguments (gate_line out kind args) count = count_is_arity kind (length args) count
has_arguments _ count = tt

-- a gate that a line states has a number of arguments that its kind may have
pub stated_arguments : (line : List ℕ) (s : Statement) → reading_of line ≡ stated s → HasArguments s
stated_arguments line s e = has_arguments s (stated_sound line s e).count
