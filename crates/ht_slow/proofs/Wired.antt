-- What a run of a circuit stands on: what is read is there, and no gate feeds itself.
use Rattle.std.specs.Prelude.{◌<◌, ℕ, length, get_or}
use Rattle.ht_net.specs.Circuit.Netlist.{Netlist, net_count, no_net}
use Rattle.ht_net.proofs.Depth.{IsDepth}

-- a circuit whose nets have a depth, and whose data pins and outputs read nets that are there
pub record IsWired (c : Netlist) : Type 0 where
  pub depth : ℕ → ℕ
  pub deep : IsDepth c depth
  pub data_known : (j : ℕ) → j < length c.dffs → (get_or c.dffs j no_net).0 < net_count c
  pub outputs_known : (o : ℕ) → o < length c.outputs → (get_or c.outputs o no_net).0 < net_count c
