-- What `next` leaves, by its answer.
use Rattle.std.proofs.Common.{◌≡◌, ℕ, List, Some, None, Ok, subst}
use Rattle.std.specs.Prelude.{IfOk, MatchOption, Result}
use Rattle.std.specs.Borrow.{Bor}
use Rattle.std.specs.declared.option.Option.{Option}
use Rattle.ht_ports.specs.Desk.{DeskView}
use Rattle.ht_ports.specs.Lines.{LinesView, Next, Gives, GivesNone}
use Rattle.ht_ports.specs.declared.lines.LineFault.{LineFault}

-- what an answer that isn't an error says
abbrev Answers : LinesView → LinesView → DeskView → DeskView → Option (Bor (List ℕ)) → Type 0
Answers old new a b o = MatchOption o (GivesNone old new a b) (λ line. Gives line.now old new a b)

next_ok : {old new : LinesView} {a b : DeskView} {result : Result (Option (Bor (List ℕ))) LineFault}
    {o : Option (Bor (List ℕ))}
    → Next old new a b result → result ≡ Ok o → Answers old new a b o
next_ok {old = old} {new = new} {a = a} {b = b} next is =
    subst (λ (r : Result (Option (Bor (List ℕ))) LineFault). IfOk r (Answers old new a b)) is next.answer

-- where `next` answers a line, it gives that line
pub next_some : {old new : LinesView} {a b : DeskView} {result : Result (Option (Bor (List ℕ))) LineFault}
    {o : Option (Bor (List ℕ))} {line : Bor (List ℕ)}
    → Next old new a b result → result ≡ Ok o → o ≡ Some line → Gives line.now old new a b
next_some {old = old} {new = new} {a = a} {b = b} next is some = subst (Answers old new a b) some (next_ok next is)

-- where `next` answers none, there is no further line
pub next_none : {old new : LinesView} {a b : DeskView} {result : Result (Option (Bor (List ℕ))) LineFault}
    {o : Option (Bor (List ℕ))}
    → Next old new a b result → result ≡ Ok o → o ≡ None → GivesNone old new a b
next_none {old = old} {new = new} {a = a} {b = b} next is none = subst (Answers old new a b) none (next_ok next is)
