-- How long the lines of proofs are.
use Rattle.std.specs.Prelude.{◌≤◌, ℕ, List, length}
use Rattle.ht_entries.specs.declared.limits.TheConstants.{MAX_PROOF_LINE_BYTES}

-- the line, without its LF, has no more bytes than a line of a proofs text may have
abbrev pub IsShortProofLine : List ℕ → Type 0
IsShortProofLine line = length line ≤ MAX_PROOF_LINE_BYTES
