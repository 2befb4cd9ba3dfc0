use Rattle.ht_net.proofs.ApartLaws.{allowed_is_state, unknown_allows}
use Rattle.ht_serial.proofs.theorems.all_unknown_is_one_start.Goals as goal

pub returns-clause-detects : goal.returns-clause-detects
returns-clause-detects c = λ n fault list t o. (λ d. d, λ d. d)

pub returns-clause-first : goal.returns-clause-first
returns-clause-first c = λ n fault list place. (λ d. d, λ d. d)

pub returns-clause-apart : goal.returns-clause-apart
returns-clause-apart c = λ n fault list t o. (
  λ apart state state' is is'. apart state state' (allowed_is_state n state is) (allowed_is_state n state' is'),
  λ apart state state' is is'. apart state state' (unknown_allows n state is) (unknown_allows n state' is'),
)

pub returns-clause-states : goal.returns-clause-states
returns-clause-states c = λ n state. (unknown_allows n state, allowed_is_state n state)
