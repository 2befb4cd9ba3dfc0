use Rattle.std.proofs.lemmas.Result.{IfOk-weaker}
use Rattle.ht_sync.proofs.length.SyncSearchLengthSearch.search.Goals as goal

pub returns-clause-answer : goal.returns-clause-answer
returns-clause-answer c =
    IfOk-weaker c.search_trial-length.result _ _
    (λ length is. is c.args.self.now.bases.circuit c.args.frames c.in_ok-trial.ensures.window) c.search_trial-length.ensures
