use Rattle.std.proofs.Common.{◌≡◌, ◌∙◌, ◌<◌, ℕ, List, ap, arith}
use Rattle.std.proofs.lemmas.List.{with_items_is}
use Rattle.ht_tern.specs.declared.tern.Tern.{Tern}
use Rattle.ht_tern.specs.declared.tern.Tern.TheVariants as tern
use Rattle.ht_net.specs.Circuit.Netlist.{net_count}
use Rattle.ht_net.specs.Detect.Detection.{terns_of}
use Rattle.ht_net.specs.Frames.Faults.{tern_rules}
use Rattle.ht_net.specs.Frames.Frame.{data_values, net_value}
use Rattle.ht_frame.specs.Values.{env_of}
use Rattle.ht_dictionary.proofs.TraceLaws.{next_is}
use Rattle.ht_dictionary.proofs.frames.run_frame.Goals as goal

pub returns-clause-next : goal.returns-clause-next
returns-clause-next c =
    let n = c.args.circuit.now in
    let r = tern_rules c.args.fault in
    let vector = terns_of c.args.bits.now in
    let latches = c.args.latches.now in
    let values = with_items_is c.in_ok-values.values c.settle.new.values (omega arith) in
    let settled : (x : ℕ) → x < net_count n → env_of tern.Unk c.settle.new.values x ≡ net_value n r vector latches x =
    λ x inside. c.settle.ensures x inside
    ∙ ap (λ (v : List Tern). net_value n r v latches x) (c.deref.ensures.value ∙ c.in_ok-vector.ensures) in
    c.capture.ensures
    ∙ ap (λ (t : List Tern). data_values r (env_of tern.Unk t) 0 n.dffs) (c.deref-2.ensures.value ∙ values)
    ∙ next_is n c.args.fault vector latches c.settle.new.values c.nets.ensures.circuit settled
