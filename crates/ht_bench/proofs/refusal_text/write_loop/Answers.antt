use Rattle.std.proofs.Common.{◌++◌, codes, rules}
use Rattle.ht_ports.proofs.WroteLaws.{wrote_then, wrote_failed}
use Rattle.ht_bench.specs.RefusalText.{loop_text}
use Rattle.ht_bench.proofs.refusal_text.write_loop.Goals as goal

pub returns-in_err-write_line : goal.returns-in_err-write_line
returns-in_err-write_line g c =
    let wrote = wrote_failed (codes "loop" ++ loop_text c.args.names.now) c.in_err-write_line.ensures in
    search (rules, wrote)

pub returns-in_err-write_all : goal.returns-in_err-write_all
returns-in_err-write_all g c =
    let wrote = wrote_then c.in_ok-write_line.ensures
    (wrote_failed {xs = codes "loop"} (loop_text c.args.names.now) c.in_err-write_all.ensures) in
    search (rules, wrote)

pub returns : goal.returns
returns g c = wrote_then c.in_ok-write_line.ensures (wrote_then c.in_ok-write_all.ensures c.write_names.ensures)
