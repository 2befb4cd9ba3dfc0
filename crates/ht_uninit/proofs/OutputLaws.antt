-- The outputs, one after the other, and the hidden faults.
use Rattle.std.proofs.Common.{◌≡◌, ◌<◌, ◌+◌, ℕ, suc, zero, List, [], ◌∷◌, ◌++◌, Bool, true, false, map, length, get_or, sym, ◌∙◌, ap, inl, inr, arith, subst}
use Rattle.std.specs.Prelude.{◌↔◌}
use Rattle.std.proofs.lemmas.Bool.Decides.{eqb_tells}
use Rattle.std.proofs.lemmas.List.{get_or_append_left, get_or_push, length-map}
use Rattle.std.proofs.lemmas.Bool.{not-true, not_from_false}
use Rattle.ht_net.specs.declared.fault.Fault.{Fault}
use Rattle.ht_net.specs.declared.net.NetId.{NetId}
use Rattle.ht_net.specs.Circuit.Netlist.{Netlist, net_count}
use Rattle.ht_faults.specs.FaultList.{no_fault}
use Rattle.ht_uninit.specs.declared.record.Out3.{Out3}
use Rattle.ht_uninit.specs.Cones.{IsHidden, output_net}
use Rattle.ht_uninit.specs.Exposed.{TellsHidden, begins_unmarked}
use Rattle.ht_uninit.specs.HeldStates.{HeldState}
use Rattle.ht_uninit.specs.Records.{IsUninit, UninitState, given_faults}
use Rattle.ht_uninit.specs.RoundStates.{AreOutputs, IsFinished}
use Rattle.ht_uninit.specs.Rounds.{IsOutput, mutes_of}

-- a net of the circuit is one of the window
pub net_inside : (c : Netlist) (held : HeldState) → held.circuit ≡ c → (net : NetId) (x : ℕ) → net.0 ≡ x
    → x < net_count c → net.0 < net_count held.circuit
net_inside c held circuit net x is l =
    subst (λ (n : Netlist). net.0 < net_count n) (sym circuit) (subst (λ (y : ℕ). y < net_count c) (sym is) l)

-- what a search says of the circuit and the set
pub output_here : (c : Netlist) (budget : ℕ) (u : List ℕ) (held : HeldState) → held.circuit ≡ c → held.members ≡ u
    → (net : NetId) (x : ℕ) → net.0 ≡ x → (out : Out3) → IsOutput held.circuit budget held.members net.0 out
    → IsOutput c budget u x out
output_here c budget u held circuit members net x is out h =
    subst (λ (n : Netlist). IsOutput n budget u x out) circuit
    (subst (λ (v : List ℕ). IsOutput held.circuit budget v x out) members
    (subst (λ (y : ℕ). IsOutput held.circuit budget held.members y out) is h))

-- one output more
pub output_more : (c : Netlist) (budget : ℕ) (u : List ℕ) (count : ℕ) (outs outs' : List Out3) (out : Out3)
    → length outs ≡ count → outs' ≡ outs ++ out ∷ [] → IsOutput c budget u (output_net c count) out
    → AreOutputs c budget u count outs → AreOutputs c budget u (count + 1) outs'
output_more c budget u count outs outs' out long push is all o x l at = elim (eqb_tells o count) [
  | inl e ↦
      let here : x ≡ out =
      at ∙ ((λ k. get_or (push k) (e.1 k) x) ∙ get_or_push outs out x count long) in
      subst (λ (n : ℕ). IsOutput c budget u (output_net c n) x) (sym e.1)
      (subst (λ (y : Out3). IsOutput c budget u (output_net c count) y) (sym here) is)
  | inr e ↦
      let other = e.1 in
      let below : o < count = omega (arith, l, other) in
      all o x below
      (at ∙ (ap (λ (ys : List Out3). get_or ys o x) push
      ∙ get_or_append_left outs (out ∷ []) x o (omega (arith, below, long))))
]

-- which faults are hidden, by the marks
hidden_at : (c : Netlist) (mute : ℕ → Bool) (marks : List Bool) → TellsHidden c mute marks → (faults : List Fault)
    (which : List ℕ) (i : ℕ) (fault : Fault) → i < length which
    → fault ≡ get_or (given_faults faults which) i fault
    → (get_or (map (begins_unmarked c faults marks) which) i false ≡ true)
    ↔ IsHidden c mute fault
hidden_at c mute marks tells faults [] i fault l is = absurd (omega arith)
hidden_at c mute marks tells faults (k ∷ which) zero fault l is = (
  λ e. subst (IsHidden c mute) (sym is) ((tells (get_or faults k no_fault)).0 (not-true _ e)),
  λ h. not_from_false _ ((tells (get_or faults k no_fault)).1 (subst (IsHidden c mute) is h)),
)
hidden_at c mute marks tells faults (k ∷ which) (suc i) fault l is =
    hidden_at c mute marks tells faults which i fault (omega (arith, l)) is

-- after the last round, what the outputs came to and the hidden faults are the record of the given faults
pub whole_record : (c : Netlist) (budget : ℕ) (faults : List Fault) (which : List ℕ) (r : UninitState) (marks : List Bool)
    → (held : HeldState) → IsFinished c budget held r.removed r.walks
    → length r.outs ≡ length c.outputs → AreOutputs c budget held.members (length c.outputs) r.outs
    → TellsHidden c (mutes_of r.outs) marks
    → r.hidden ≡ map (begins_unmarked c faults marks) which
    → IsUninit c budget (given_faults faults which) r
whole_record c budget faults which r marks held done every outs tells hidden =
    let given = length-map which (λ k. get_or faults k no_fault) in
    record {
      ends = done.ends;
      long = done.long;
      walks = done.each;
      every = every;
      outs = λ o out l is. subst (λ (u : List ℕ). IsOutput c budget u (output_net c o) out) done.members
          (outs o out l is);
      counted = ap (λ (bs : List Bool). length bs) hidden
          ∙ (length-map which (begins_unmarked c faults marks)
          ∙ sym given);
      hidden = λ i fault l is. subst (λ (bs : List Bool). (get_or bs i false ≡ true) ↔ IsHidden c (mutes_of r.outs) fault)
          (sym hidden) (hidden_at c (mutes_of r.outs) marks tells faults which i fault (omega (arith, l, given)) is);
    }
