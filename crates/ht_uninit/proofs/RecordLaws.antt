-- What the record of a run means.
use Rattle.std.specs.List.{All, list_all, list_any, range_with_len}
use Rattle.std.proofs.Common.{◌≡◌, ◌<◌, ◌≤◌, ℕ, suc, zero, List, [], ◌∷◌, ◌++◌, true, false, Option, Some, None, length, get_or, refl, sym, subst, ap, ◌∙◌, arith}
use Rattle.std.proofs.lemmas.Bool.{and_from, false≢true, or_from}
use Rattle.std.proofs.lemmas.List.Elements.{All-from_get_or}
use Rattle.std.proofs.lemmas.List.Folds.{list_all-append}
use Rattle.std.proofs.lemmas.List.FromFn.{fill_by_all, get_or-range_with_len, length-range_with_len}
use Rattle.ht_net.specs.declared.fault.Fault.{Fault}
use Rattle.ht_net.specs.Circuit.Netlist.{Netlist}
use Rattle.ht_tree.specs.declared.token.Token.{Token}
use Rattle.ht_tree.specs.Walk.Budgets.{refutation_cost}
use Rattle.ht_tree.specs.Walk.Searches.{node_at}
use Rattle.ht_tree.specs.Walk.Walks.{IsComplete}
use Rattle.ht_uninit.specs.declared.record.Removed.{Removed}
use Rattle.ht_uninit.specs.declared.record.Removed.TheVariants.{Free, Spent}
use Rattle.ht_uninit.specs.declared.record.Out3.{Out3}
use Rattle.ht_uninit.specs.declared.record.Out3.TheVariants.{Mute, Open, Seen}
use Rattle.ht_uninit.specs.ClosedSets.{IsClosedSet}
use Rattle.ht_faults.specs.FaultList.{no_fault}
use Rattle.ht_faults.specs.Sites.{data_net}
use Rattle.ht_uninit.specs.Cones.{output_net}
use Rattle.ht_uninit.specs.HeldWindows.{held_judge}
use Rattle.ht_uninit.specs.Records.{IsUninit, IsWalkOf, UninitHolds, UninitState, given_faults, held_in}
use Rattle.ht_uninit.specs.Rounds.{ComesTo, IsOutput, IsRemoval, again, begins, held_after, is_free, is_mute, is_open, is_removed, keeps, mutes_of, passes, removes}
use Rattle.ht_uninit.proofs.BudgetLaws.{held_unspent}
use Rattle.ht_uninit.proofs.ClosedLaws.{closed_stays, held_closed}
use Rattle.ht_uninit.proofs.FreeLaws.{in_left, left_contains}
use Rattle.ht_uninit.proofs.HiddenLaws.{hidden_undetected}

-- the walk of a member is complete
walk_of : (c : Netlist) (budget : ℕ) (removed : List Removed) (j : ℕ) (walk : Option (List Token))
    → IsWalkOf c budget removed j walk → is_removed removed j ≡ false
    → (tokens : List Token) × IsComplete (held_judge c (held_after c removed) (data_net c j)) tokens
walk_of c budget removed j None h out = absurd (false≢true (sym out ∙ h))
walk_of c budget removed j (Some tokens) h out = (tokens, h.1.walk)

-- the output at an index
at_output : (outs : List Out3) (o : ℕ) → o < length outs → (out : Out3) × (out ≡ get_or outs o out)
    × (mutes_of outs o ≡ is_mute out)
at_output [] o l = absurd (omega arith)
at_output (out ∷ outs) zero l = (out, refl, refl)
at_output (out ∷ outs) (suc o) l = at_output outs o (omega arith)

mute_walk : (c : Netlist) (budget : ℕ) (u : List ℕ) (x : ℕ) (out : Out3) → IsOutput c budget u x out
    → is_mute out ≡ true → (tokens : List Token) × IsComplete (held_judge c u x) tokens
mute_walk c budget u x (Mute tokens) h is = (tokens, h.walk)
mute_walk c budget u x (Seen sets) h is = cc
mute_walk c budget u x (Open tokens) h is = cc

-- with a budget that is enough, each removal is free
removal_free : (c : Netlist) (budget : ℕ) (u : List ℕ) (r : Removed) → refutation_cost c ≤ budget
    → IsRemoval c budget u r → is_free r ≡ true
removal_free c budget u (Free j sets) large h = refl
removal_free c budget u (Spent j tokens) large h =
    absurd (held_unspent c u (data_net c j) budget tokens (node_at h.0) large h.1)

free_push : (removed : List Removed) (r : Removed) → list_all is_free removed ≡ true → is_free r ≡ true
    → list_all is_free (removed ++ r ∷ []) ≡ true
free_push removed r h k =
    list_all-append is_free removed (r ∷ [])
    ∙ and_from (list_all is_free removed) (list_all is_free (r ∷ [])) h (and_from (is_free r) true k refl)

all_free : (c : Netlist) (budget : ℕ) → refutation_cost c ≤ budget → (removed : List Removed) (before j : ℕ)
    → ComesTo c budget removed before j → list_all is_free removed ≡ true
all_free c budget large removed before j (begins) = refl
all_free c budget large removed before j (passes r b i h m out) = all_free c budget large removed b i h
all_free c budget large removed before j (keeps r b i t h m out closes) = all_free c budget large removed b i h
all_free c budget large removed before j (removes old b i r h m out is why) =
    free_push old r (all_free c budget large old b i h) (removal_free c budget (held_after c old) r large why)
all_free c budget large removed before j (again r b h more) = all_free c budget large removed b (length c.dffs) h

not_open : (c : Netlist) (budget : ℕ) (u : List ℕ) (x : ℕ) (out : Out3) → refutation_cost c ≤ budget
    → IsOutput c budget u x out → is_open out ≡ false
not_open c budget u x (Mute tokens) large h = refl
not_open c budget u x (Seen sets) large h = refl
not_open c budget u x (Open tokens) large h = absurd (held_unspent c u x budget tokens (node_at h.0) large h.1)

none_open : (outs : List Out3) → ((o : ℕ) (out : Out3) → o < length outs → out ≡ get_or outs o out
    → is_open out ≡ false) → list_any is_open outs ≡ false
none_open [] h = refl
none_open (out ∷ outs) h =
    or_from (is_open out) (list_any is_open outs) (h 0 out (omega arith) refl)
    (none_open outs (λ o x l is. h (suc o) x (omega (arith, l)) is))

-- the record of a run means what it says
pub record_holds : (c : Netlist) (budget : ℕ) (faults : List Fault) (r : UninitState) → IsUninit c budget faults r
    → UninitHolds c budget r
record_holds c budget faults r h =
    let u = held_after c r.removed in
    let closed : IsClosedSet c (held_in c r) =
    held_closed c u (λ j l inside.
    walk_of c budget r.removed j (get_or r.walks j None) (h.walks j l) (in_left c r.removed j inside).1) in
    let every = h.every in
    record {
      closed = closed;
      unknown = closed_stays c (held_in c r) closed;
      greatest = λ free v is. left_contains c budget v is r.removed (length r.removed) (length c.dffs) h.ends free;
      undetected = λ fault hidden list t o.
          hidden_undetected c u (mutes_of r.outs) closed (λ o l mute.
          let at = at_output r.outs o (omega (arith, l, every)) in
          mute_walk c budget u (output_net c o) at.0 (h.outs o at.0 l at.1) (sym at.2 ∙ mute)) fault hidden list t o;
      free = λ large. all_free c budget large r.removed (length r.removed) (length c.dffs) h.ends;
      decided = λ large. none_open r.outs (λ o out l is.
          not_open c budget u (output_net c o) out large (h.outs o out (omega (arith, l, every)) is));
    }

-- ---- the whole fault list

-- all faults are given by their numbers
pub all_given : (faults : List Fault) (which : List ℕ) → which ≡ range_with_len 0 (length faults)
    → given_faults faults which ≡ faults
all_given faults which is = ap (given_faults faults) is
    ∙ sym (fill_by_all (λ k. get_or faults k no_fault) faults (length faults) no_fault refl (λ k inside. refl))

-- the numbers of a whole list are below its length
pub all_known : (n : ℕ) (which : List ℕ) → which ≡ range_with_len 0 n → All (λ k. k < n) which
all_known n which is = subst (All (λ k. k < n)) (sym is) (All-from_get_or (λ k. k < n) (range_with_len 0 n) 0 (λ i inside.
    let within : i < n = omega (arith, inside, length-range_with_len 0 n) in
    omega (arith, within, get_or-range_with_len 0 n i 0 within)))
