use Rattle.ht_tree.proofs.NodeLaws.{window_kept, path_grows, node_kept}
use Rattle.ht_records.proofs.theorems.windows.decision_keeps_the_window.Goals as goal

pub returns : goal.returns
returns c = record { window = window_kept; path = path_grows; node = node_kept }
