use Rattle.std.proofs.Common.{◌∙◌, ◌+◌, ℕ, List, length, ap, refl}
use Rattle.std.proofs.lemmas.List.{length_push}
use Rattle.ht_net.specs.declared.net.NetId.{NetId}
use Rattle.ht_uninit.specs.declared.record.Out3.{Out3}
use Rattle.ht_uninit.specs.Cones.{output_net}
use Rattle.ht_uninit.proofs.OutputLaws.{net_inside, output_here, output_more}
use Rattle.ht_uninit.proofs.ResultLaws.{value_after}
use Rattle.ht_uninit.proofs.work.search_output.Goals as goal

pub search_net-requires-clause-net : goal.search_net-requires-clause-net
search_net-requires-clause-net c =
    let n = c.args.circuit.now in
    net_inside n c.args.held c.requires.circuit c.output-net.result (output_net n c.args.o)
    (ap (λ (x : NetId). x.0) c.output-net.ensures) (c.nets.ensures.circuit.outputs_known c.args.o c.requires.inside)

pub returns-clause-circuit : goal.returns-clause-circuit
returns-clause-circuit c =
    value_after _ _ _ _ c.and.result c.and.ensures c.add.ensures
    (λ added. c.in_ok-searched.ensures.circuit ∙ c.requires.circuit)

pub returns-clause-members : goal.returns-clause-members
returns-clause-members c =
    value_after _ _ _ _ c.and.result c.and.ensures c.add.ensures (λ added. c.in_ok-searched.ensures.members)

pub returns-clause-path : goal.returns-clause-path
returns-clause-path c =
    value_after _ _ _ _ c.and.result c.and.ensures c.add.ensures (λ added. c.in_ok-searched.ensures.path)

pub returns-clause-long : goal.returns-clause-long
returns-clause-long c =
    value_after _ _ _ _ c.and.result c.and.ensures c.add.ensures
    (λ added. ap (λ (outs : List Out3). length outs) added
    ∙ (length_push c.args.outs.now.items c.in_ok-searched.searched.out ∙ ap (λ (k : ℕ). k + 1) c.requires.long))

pub returns-clause-outs : goal.returns-clause-outs
returns-clause-outs c =
    let n = c.args.circuit.now in
    let u = c.args.held.members in
    let o = c.args.o in
    value_after _ _ _ _ c.and.result c.and.ensures c.add.ensures
    (λ added. output_more n c.args.budget u o c.args.outs.now.items _ c.in_ok-searched.searched.out c.requires.long
    added
    (output_here n c.args.budget u c.args.held c.requires.circuit refl c.output-net.result (output_net n o)
    (ap (λ (x : NetId). x.0) c.output-net.ensures) c.in_ok-searched.searched.out c.in_ok-searched.ensures.out)
    c.requires.outs)
