use Rattle.ht_tree.proofs.NodeLaws.{window_opened, path_opened, node_opened}
use Rattle.ht_records.proofs.theorems.windows.before_opens_the_window_below.Goals as goal

pub returns : goal.returns
returns c = record { window = window_opened; path = path_opened; node = node_opened }
