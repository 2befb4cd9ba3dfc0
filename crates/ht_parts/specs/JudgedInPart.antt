-- What judges of a part have taken.
use Rattle.ht_valid.specs.ValidFiles.{Content}
use Rattle.ht_judge.specs.declared.report_judge.Claims.{Claims}

-- the content with the budget and the verdicts of these claims
abbrev pub claimed_content : Content → Claims → Content
claimed_content content claims =
    record content { budget = claims.budget; saids = claims.saids.items }
