-- Reading a text line by line.
use Rattle.std.proofs.Common.{Bool, ◌≡◌, ℕ, ◌<◌, ◌≤◌, ◌+◌, List, [], ◌∷◌, ◌++◌, length, map, refl, sym, ◌∙◌, ap, append_assoc, append-nil, Result, Ok, Err, IfErr, arith, Option, None, find}
use Rattle.std.proofs.lemmas.List.Concat.{flat_map-append}
use Rattle.std.proofs.lemmas.List.{map-append, length-append}
use Rattle.std.proofs.lemmas.List.Sums.{fold-append}
use Rattle.ht_ports.specs.LineRule.{lines_of}
use Rattle.ht_net.specs.declared.error.Limit.{Limit as NetLimit}
use Rattle.ht_net.specs.Build.Named.{Name}
use Rattle.ht_net.specs.Build.Draft.{net_names, Draft, driven_names}
use Rattle.ht_statement.specs.Statement.{Statement}
use Rattle.ht_statement.specs.Reading.{stated, reading_of}
use Rattle.ht_bench.specs.Different.{has_name}
use Rattle.ht_bench.specs.Contents.{named_of_statements, driven_in, driven_by, stated_nets}
use Rattle.ht_bench.specs.Accepted.{second_driver, limit_passed, driver_or_limit, reading_error}
use Rattle.ht_bench.specs.Text.{readings_of, refusal_after, refusal_of}
use Rattle.ht_bench.specs.Drafts.{drafted, IsDraftOf, with_line, draft_limit, draft_error, Accepts, RefusesStatement, AddsLine, RefusesLine}
use Rattle.ht_bench.specs.declared.add_error.AddError.{AddError}
use Rattle.ht_bench.proofs.DriverLaws.{drivers_are}

-- some lines are read and the rest is not; the draft is that of the statements so far
pub record IsReading (text rest : List ℕ) (count : ℕ) (d : Draft) : Type 0 where
  pub before : List Statement
  pub lines : readings_of text ≡ map stated before ++ readings_of rest
  pub refusal : refusal_of text ≡ refusal_after before (readings_of rest)
  pub is_count : count ≡ length before
  pub short : count + length rest ≤ length text
  pub draft : IsDraftOf before d

-- what is read is within the limits
pub reading_within : {text rest : List ℕ} {count : ℕ} {d : Draft} → IsReading text rest count d → draft_limit d ≡ None
reading_within is = ap draft_limit is.draft.is ∙ is.draft.limits

-- before the first line nothing is read, and the draft is that of no statements
pub reading_none : (text : List ℕ) (d : Draft) → IsDraftOf [] d → IsReading text text 0 d
reading_none text d draft =
    record { before = []; lines = refl; refusal = refl; is_count = refl; short = omega arith; draft = draft }

-- the readings of a text from a line on
pub readings_from : (rest line more : List ℕ) → lines_of rest ≡ line ∷ lines_of more → readings_of rest
    ≡ reading_of line ∷ readings_of more
readings_from rest line more first = ap (map reading_of) first

-- ---- one more line

-- a statement that drives no net a second time and passes no limit is accepted
pub no_error : (before : List Statement) (s : Statement) → second_driver before s ≡ None
    → limit_passed (before ++ s ∷ []) ≡ None → reading_error before (stated s) ≡ None
no_error before s free limits = rw (free, limits) refl

find_agree : (p q : Name → Bool) → ((name : Name) → p name ≡ q name) → (names : List Name) → find p names ≡ find q names
find_agree p q same [] = refl
find_agree p q same (name ∷ names) = rw (same name, find_agree p q same names) refl

no_limit : (net : Option Name) (limit : Option NetLimit) → driver_or_limit net limit ≡ None → limit ≡ None
no_limit net limit e = grind arith

-- the draft of the statements and one more, and what is judged of that one
module _ (before : List Statement) (old : Draft) (is : IsDraftOf before old) (s : Statement) where
  with_one : with_line old s ≡ drafted (stated_nets (before ++ s ∷ [])) (named_of_statements (before ++ s ∷ []))
  with_one = ap (λ d. with_line d s) is.is ∙ simp (flat_map-append, fold-append, append-nil)

  -- a statement is judged by the statements before it as by their draft
  pub error_is : reading_error before (stated s) ≡ draft_error old s
  error_is =
      let driven : second_driver before s ≡ find (has_name (driven_names old)) (driven_in s) =
      find_agree (has_name (driven_by before)) (has_name (net_names (named_of_statements before)))
      (λ name. sym (drivers_are name before)) (driven_in s)
      ∙ ap (λ (d : Draft). find (has_name (driven_names d)) (driven_in s)) (sym is.is) in
      ap (λ net. driver_or_limit net (limit_passed (before ++ s ∷ []))) driven
      ∙ ap (λ d. driver_or_limit (find (has_name (driven_names old)) (driven_in s)) (draft_limit d)) (sym with_one)

  -- a draft that accepts one more statement gives the draft of all these statements
  pub draft_more : (new : Draft) → Accepts old s new → IsDraftOf (before ++ s ∷ []) new
  draft_more new accepts = record {
    is = accepts.0 ∙ with_one;
    limits = sym (ap draft_limit with_one) ∙ no_limit (find (has_name (driven_names old)) (driven_in s))
        (draft_limit (with_line old s)) accepts.1;
  }

-- what refuses a statement after those of a draft refuses each line that states it
pub line_refused : {A : Type 0} (r : Result A AddError) (old : Draft) (line : List ℕ) (s : Statement)
    → reading_of line ≡ stated s → IfErr r (RefusesStatement old s) → IfErr r (RefusesLine old line)
line_refused (Ok x) old line s e refused = tt
line_refused (Err error) old line s e refused = λ before is. rw (e, error_is before old is s) refused

-- after a line that the draft accepts, one line more is read
pub reading_more : {text rest : List ℕ} (line more : List ℕ) {count : ℕ} {old new : Draft}
    → IsReading text rest count old → lines_of rest ≡ line ∷ lines_of more → length more < length rest
    → AddsLine old line new → IsReading text more (count + 1) new
reading_more line more {count} {old} {new} is first shorter adds =
    let s = adds.statement in
    record {
      before = is.before ++ s ∷ [];
      lines = rw (is.lines, first, adds.states) (simp (map-append, append_assoc));
      refusal = rw (is.refusal, first, adds.states, error_is is.before old is.draft s, adds.accepts.1) refl;
      is_count = omega (arith, is.is_count, length-append is.before (s ∷ []));
      short = omega (arith, is.short, shorter);
      draft = draft_more is.before old is.draft s new adds.accepts;
    }
