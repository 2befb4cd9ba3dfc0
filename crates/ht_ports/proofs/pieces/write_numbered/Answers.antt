use Rattle.std.proofs.Common.{◌++◌, ◌∙◌, List, ℕ, is_ok, subst}
use Rattle.ht_ports.specs.Desk.{Wrote}
use Rattle.ht_ports.proofs.WroteLaws.{wrote_then}
use Rattle.ht_ports.proofs.pieces.write_numbered.Goals as goal

pub returns : goal.returns
returns g c = subst
    (λ (digits : List ℕ). Wrote c.args.port (c.args.front.now ++ (digits ++ c.args.back.now))
    (is_ok c.write_pair.result)
    (g.D.Desk.view c.args.desk.now) (g.D.Desk.view c.write_pair.new.desk))
    (c.as_bytes.ensures.value ∙ c.format.ensures.text) (wrote_then c.in_ok-write_all.ensures c.write_pair.ensures)
