-- What a grader that went on from no vectors says.
use Rattle.std.proofs.Common.{◌≡◌, ◌≤◌, ◌∙◌, ℕ, List, Option, [], length, sym, subst}
use Rattle.ht_tern.specs.declared.tern.Tern.{Tern}
use Rattle.ht_net.specs.declared.place.Place.{Place}
use Rattle.ht_net.specs.Circuit.Netlist.{Netlist}
use Rattle.ht_net.specs.Frames.Rows.{Rows}
use Rattle.ht_proofs.specs.ClassGraderView.{ClassGraderStandsFor, ClassGraderView}
use Rattle.ht_proofs.specs.Detections.{AreFirstDetections, AreWithin}
use Rattle.ht_bred.specs.declared.bred.Bred.{Bred}
use Rattle.ht_bred.specs.Bred.{IsBred, detected_of}
use Rattle.ht_bred.specs.Extended.{AreExtended}

-- where a grader of no vectors went on to a list, its places are those of the list
pub bred_is : (g h : ClassGraderView) (c : Netlist) (representatives : List ℕ) (start : List Tern) (given : Rows)
    (most : ℕ) (bred : Bred) → g.machines.circuit ≡ c → g.representatives ≡ representatives → given.width ≡ c.inputs
    → ClassGraderStandsFor g start [] → AreExtended g h [] given bred.vectors bred.count → bred.places.items ≡ h.places
    → bred.count ≤ most → bred.detected ≡ length (detected_of representatives bred.places.items)
    → IsBred c representatives start given.list most bred
bred_is g h c representatives start given most bred circuit classes width none further places few detected =
    let stands = further.stands start none in
    let same : h.machines.circuit ≡ c = further.circuit ∙ circuit in
    let own : h.representatives ≡ representatives = further.classes ∙ classes in
    record {
      inputs = further.inputs ∙ width;
      more = further.more;
      added = further.added;
      counted = further.counted;
      few = few;
      first = subst (λ (l : List (Option Place)). AreFirstDetections c representatives start bred.vectors.list l)
          (sym places) (subst (λ (l : List ℕ). AreFirstDetections c l start bred.vectors.list h.places) own
          (subst (λ (n : Netlist). AreFirstDetections n h.representatives start bred.vectors.list h.places) same
          stands.first));
      within = subst (λ (l : List (Option Place)). AreWithin c bred.vectors.list l) (sym places)
          (subst (λ (n : Netlist). AreWithin n bred.vectors.list h.places) same stands.within);
      detected = detected;
    }
