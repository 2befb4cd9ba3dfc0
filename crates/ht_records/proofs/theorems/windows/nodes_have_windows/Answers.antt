use Rattle.ht_tree.proofs.NodeLaws.{node_window}
use Rattle.ht_records.proofs.theorems.windows.nodes_have_windows.Goals as goal

pub returns : goal.returns
returns c = node_window
