use Rattle.std.proofs.Common.{◌≡◌, ◌++◌, drop, map}
use Rattle.ht_texts.specs.Lines.{with_lfs}
use Rattle.ht_entries.specs.ProofLines.{token_text}
use Rattle.ht_uninit.specs.UninitTexts.{walk_text}
use Rattle.ht_uninit.proofs.record_lines.push_walk.Given as goal

abbrev pub invariant-loop-token : goal.invariant-loop-token
invariant-loop-token l =
    l.text.items ++ with_lfs (map token_text (drop l.token-index l.fn.tokens))
    ≡ l.fn.text.items ++ walk_text l.word l.index l.fn.tokens
