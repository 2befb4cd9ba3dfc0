use Rattle.std.proofs.Common.{◌≡◌, ◌<◌, ℕ, length, get_or, take, None}
use Rattle.ht_tree.specs.Window.Decisions.{decided_value}
use Rattle.ht_recompute.proofs.decisions.write_decisions.Given as goal

abbrev pub invariant-loop-decision : goal.invariant-loop-decision
invariant-loop-decision l = record {
  written : (var : ℕ) → var < length l.decisions → get_or l.decisions var None
      ≡ decided_value (take l.decision-index l.path) var;
  room : length l.decisions ≡ length l.fn.decisions;
}
