-- How long the lines of reports and of proofs are.
use Rattle.std.specs.Prelude.{◌≤◌, ℕ, List, length}
use Rattle.ht_texts.specs.declared.limits.TheConstants.{MAX_LINE_BYTES}

-- the line, without its LF, has no more bytes than a line of a report or of a proofs text may have
abbrev pub IsShortLine : List ℕ → Type 0
IsShortLine line = length line ≤ MAX_LINE_BYTES
