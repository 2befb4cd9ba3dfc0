use Rattle.std.proofs.Common.{◌++◌, rules}
use Rattle.ht_ports.proofs.WroteLaws.{wrote_then, wrote_failed}
use Rattle.ht_bench.proofs.refusal_text.write_named.Goals as goal

pub returns-in_err-write_line : goal.returns-in_err-write_line
returns-in_err-write_line g c =
    let wrote = wrote_failed (c.args.cause.now ++ c.args.name.now) c.in_err-write_line.ensures in
    search (rules, wrote)

pub returns : goal.returns
returns g c = wrote_then c.in_ok-write_line.ensures c.write_pair.ensures
