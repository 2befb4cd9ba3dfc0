use Rattle.std.proofs.Common.{◌≡◌, take}
use Rattle.ht_dictionary.specs.Responses.{response_text}
use Rattle.ht_dictionary.proofs.response_text.write_response_body.Given as goal

abbrev pub invariant-loop-t : goal.invariant-loop-t
invariant-loop-t l = l.body.items ≡ response_text (take l.t l.shown.rows)
