-- A text that is read line by line.
use Rattle.std.specs.Prelude.{◌≡◌, ℕ, List, map, flat_map, true}
use Rattle.ht_net.specs.Build.Named.{Name}
use Rattle.ht_net.specs.Build.Draft.{Draft}
use Rattle.ht_statement.specs.Statement.{Statement}
use Rattle.ht_statement.specs.Reading.{stated}
use Rattle.ht_bench.specs.Different.{has_name}
use Rattle.ht_bench.specs.Role.{nets_in, line_of}
use Rattle.ht_bench.specs.declared.find_line.Role.{Role}
use Rattle.ht_bench.specs.EndOfText.{undriven_refusal}
use Rattle.ht_bench.specs.Text.{readings_of, refusal_of}
use Rattle.ht_bench.specs.Drafts.{IsDraftOf}

-- all lines are read and accepted
pub record IsRead (text : List ℕ) (d : Draft) : Type 0 where
  pub statements : List Statement
  pub lines : readings_of text ≡ map stated statements
  pub refusal : refusal_of text ≡ undriven_refusal statements
  pub draft : IsDraftOf statements d

-- each line states something, and one has this net in this role
pub record HasNet (text : List ℕ) (role : Role) (name : Name) : Type 0 where
  pub statements : List Statement
  pub lines : readings_of text ≡ map stated statements
  pub has : has_name (flat_map (nets_in role) statements) name ≡ true

-- the number of the first line that has it
abbrev pub IsFirstLine : List ℕ → Role → Name → ℕ → Type 0
IsFirstLine text role name number = (statements : List Statement)
    → readings_of text ≡ map stated statements → number ≡ line_of role statements name
