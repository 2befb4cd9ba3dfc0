use Rattle.std.proofs.Common.{◌<◌, ◌≡◌, ℕ, List, [], ◌∷◌, Some, arith, ap, ◌∙◌}
use Rattle.std.proofs.lemmas.List.{with_items_is}
use Rattle.ht_tern.specs.declared.tern.Tern.TheVariants.{Unk}
use Rattle.ht_pairs.specs.Pairs.{Pair, pair}
use Rattle.ht_net.specs.Circuit.Netlist.{net_count}
use Rattle.ht_net.specs.Frames.Frame.{net_value, data_values}
use Rattle.ht_frame.specs.Values.{env_of}
use Rattle.ht_tree.specs.Window.Windows.{pair_set_rules}
use Rattle.ht_tree.specs.Record.ClosedFamilies.{any_vector, Family}
use Rattle.ht_families.specs.FamilyFrames.{FrameView, after_family}
use Rattle.ht_families.proofs.FamilyFrameLaws.{shown_by, taken_by}
use Rattle.ht_families.proofs.frame.FamilyFrame.run.Goals as goal

pub returns : goal.returns
returns c =
    let blank : List Pair = pair Unk Unk ∷ [] in
    let a = c.self.inside in
    let n = a.circuit.now in
    let r = pair_set_rules (Some a.fault) in
    let family : Family = c.args.family.now in
    let V : List (List Pair) = c.settle.new.values in
    let T : List (List Pair) = c.capture.new.latches in
    let values = with_items_is a.values V (omega arith) in
    let next_sets = with_items_is a.next_sets T (omega arith) in
    let settled : (x : ℕ) → x < net_count n → env_of blank V x ≡ net_value n r (any_vector n) family x =
    λ x inside. c.settle.ensures x inside
    ∙ ap (λ (t : List (List Pair)). net_value n r t family x) (c.deref.ensures.value ∙ c.self.invariant.vector) in
    let took : T ≡ data_values r (env_of blank V) 0 n.dffs =
    c.capture.ensures
    ∙ ap (λ (t : List (List Pair)). data_values r (env_of blank t) 0 n.dffs) (c.deref-2.ensures.value ∙ values) in
    let shown = shown_by n a.fault family _ c.self.invariant.circuit
    (λ x inside. ap (λ (t : List (List Pair)). env_of blank t x) values ∙ settled x inside) in
    let takes = next_sets ∙ (took ∙ taken_by n a.fault family V c.self.invariant.circuit settled) in
    (λ i. record { circuit = n; fault = a.fault; shown = shown i; next_sets = takes i })
    ∙ ap (λ (f : FrameView). after_family f family) c.self.view_is
