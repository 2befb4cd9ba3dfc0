-- Finding the first line that has a net in a role.
use Rattle.std.proofs.Common.{◌≡◌, ℕ, ◌<◌, ◌≤◌, ◌+◌, List, [], ◌∷◌, true, false, length, map, refl, sym, ◌∙◌, ap, arith}
use Rattle.std.specs.List.{flat_map}
use Rattle.std.proofs.lemmas.List.Folds.{list_any-append}
use Rattle.ht_ports.specs.LineRule.{lines_of}
use Rattle.ht_net.specs.Build.Named.{Name}
use Rattle.ht_statement.specs.Statement.{Statement}
use Rattle.ht_statement.specs.Reading.{Reading, stated, reading_of}
use Rattle.ht_bench.specs.Different.{has_name}
use Rattle.ht_bench.specs.Text.{readings_of}
use Rattle.ht_bench.specs.Role.{nets_in, line_of}
use Rattle.ht_bench.specs.Progress.{HasNet, IsFirstLine}
use Rattle.ht_bench.specs.declared.find_line.Role.{Role}
use Rattle.ht_bench.proofs.StatedLaws.{states_one, same_statements}
use Rattle.ht_bench.proofs.ProgressLaws.{readings_from}

-- a line of the rest has the net in this role, and the first one is the first of the text
pub record HasLineAhead (text rest : List ℕ) (count : ℕ) (role : Role) (name : Name) : Type 0 where
  pub after : List Statement
  pub rest_lines : readings_of rest ≡ map stated after
  pub short : count + length rest ≤ length text
  pub has : has_name (flat_map (nets_in role) after) name ≡ true
  pub line : (statements : List Statement) → readings_of text ≡ map stated statements
      → line_of role statements name ≡ count + line_of role after name

-- the first of some lines that state something
abbrev FirstStated : Reading → List Reading → List Statement → Type 0
FirstStated reading readings statements =
    (s : Statement) × (rest : List Statement) × (statements ≡ s ∷ rest) × (reading ≡ stated s)
    × (readings ≡ map stated rest)

first_stated : (reading : Reading) (readings : List Reading) (statements : List Statement) → reading ∷ readings
    ≡ map stated statements → FirstStated reading readings statements
first_stated reading readings [] e = absurd (cc)
first_stated reading readings (s ∷ statements) e = (s, statements, refl, cc, cc)

-- before any line is passed, the line that is looked for lies ahead, if the text has one
pub nothing_before : (text : List ℕ) (role : Role) (name : Name) → HasNet text role name
    → HasLineAhead text text 0 role name
nothing_before text role name has = record {
  after = has.statements;
  rest_lines = has.lines;
  short = omega arith;
  has = has.has;
  line = λ statements lines.
      let same : line_of role statements name ≡ line_of role has.statements name = ap (λ l. line_of role l name)
      (same_statements statements has.statements (sym lines ∙ has.lines)) in
      omega (arith, same);
}

module _ {text rest : List ℕ} (line more : List ℕ) {count : ℕ} {role : Role} {name : Name}
    (is : HasLineAhead text rest count role name) (first : lines_of rest ≡ line ∷ lines_of more) where
  next_stated : FirstStated (reading_of line) (readings_of more) is.after
  next_stated = first_stated (reading_of line) (readings_of more) is.after
      (sym (readings_from rest line more first) ∙ is.rest_lines)

  -- the next line states something while the line that is looked for lies ahead
  pub line_states : (statement : Statement) × (reading_of line ≡ stated statement)
  line_states = (next_stated.0, next_stated.3)

  module _ (statement : Statement) (states : reading_of line ≡ stated statement) where
    after_is : is.after ≡ statement ∷ next_stated.1
    after_is = next_stated.2 ∙ ap (λ s. s ∷ next_stated.1) (states_one next_stated.0 statement
        (sym next_stated.3 ∙ states))

    -- the next line is the first one that has the net, if its statement has it
    pub line_found : has_name (nets_in role statement) name ≡ true → IsFirstLine text role name (count + 1)
    line_found has statements lines = sym (is.line statements lines ∙ rw (after_is, has) refl)

    -- the line that is looked for lies after the next one, if the statement of that one doesn't have the net
    pub line_passed : length more < length rest → has_name (nets_in role statement) name ≡ false
        → HasLineAhead text more (count + 1) role name
    line_passed shorter absent = record {
      after = next_stated.1;
      rest_lines = next_stated.4;
      short = omega (arith, is.short, shorter);
      has = rw (after_is, list_any-append, absent) at is.has;
      line = λ statements lines. is.line statements lines ∙ ap (λ l. count + line_of role l name) after_is
          ∙ rw absent (omega arith);
    }

-- the line comes before the text ends
pub not_at_end : {text rest : List ℕ} {count : ℕ} {role : Role} {name : Name} → HasLineAhead text rest count role name
    → rest ≡ [] → ⊥
not_at_end {text} {rest} {count} {role} {name} is none =
    ended is.after (ap readings_of (sym none) ∙ is.rest_lines) is.has
  where
    ended : (after : List Statement) → [] ≡ map stated after → has_name (flat_map (nets_in role) after) name ≡ true → ⊥
    ended [] e has = cc
    ended (s ∷ after) e has = absurd (omega (arith, ap length e))
