use Rattle.std.proofs.Common.{◌≢◌, ◌⊎◌, ◌≤◌, [], inl, inr}
use Rattle.ht_entries.proofs.FromStateTextLaws.{no_second, no_rising_second}
use Rattle.ht_entries.proofs.ParsedLaws.{some_by}
use Rattle.ht_entries.proofs.from_state.parse_second.Goals.{then-not-is_empty-via-then-not-is_empty, then-not-is_empty-via-else-not-is_empty+then-second-first}
use Rattle.ht_entries.proofs.from_state.parse_second.Goals as goal

pub returns-in_err-second : goal.returns-in_err-second
returns-in_err-second c = rw c.from_residual-in_err-second.ensures (no_second c.args.text.now
    c.in_ok-literal.literal.now c.args.first c.in_ok-literal.ensures c.in_err-second.ensures)

pub returns-then-not-is_empty : goal.returns-then-not-is_empty
returns-then-not-is_empty c =
    let why : (c.in_ok-second.rest.now ≢ []) ⊎ (c.in_ok-second.second.dff ≤ c.args.first.dff) =
    elim c.then-not-is_empty.branch [
      | then-not-is_empty-via-then-not-is_empty w ↦ inl (some_by c.in_ok-second.rest.now w.if-not-is_empty.ensures)
      | then-not-is_empty-via-else-not-is_empty+then-second-first w ↦ inr w.if-second-first.true
    ] in
    no_rising_second c.args.text.now c.in_ok-literal.literal.now c.in_ok-second.rest.now c.args.first
    c.in_ok-second.second c.in_ok-literal.ensures c.in_ok-second.ensures.0 c.in_ok-second.ensures.1 why
