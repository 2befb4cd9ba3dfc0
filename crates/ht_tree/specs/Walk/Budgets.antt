-- Budgets that are enough, for n inputs and m flip-flops.
use Rattle.std.specs.Prelude.{◌+◌, ◌*◌, ◌^◌, ℕ, suc, zero, length}
use Rattle.ht_net.specs.Circuit.Netlist.{Netlist}

-- a budget for any search of a one-frame window: 2^(n + 2m + 1)
abbrev pub refutation_cost : Netlist → ℕ
refutation_cost c = 2 ^ (c.inputs + 2 * length c.dffs + 1)

-- a budget for the sweep of 1 to d frames: the sum of k * 2^(k * n + 1) over k from 1 to d
abbrev pub sweep_cost : ℕ → ℕ → ℕ
sweep_cost inputs zero = 0
sweep_cost inputs (suc d) = sweep_cost inputs d + suc d * 2 ^ (suc d * inputs + 1)
