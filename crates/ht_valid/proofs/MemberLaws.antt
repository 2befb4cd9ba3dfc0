-- What entries that aren't abort records say of each fault of a class: what they mean of the representative, they mean of
-- its members, and no list of vectors detects these, from all-unknown or from a start that allows the entry.
use Rattle.std.proofs.Common.{◌≡◌, ◌∙◌, ℕ, List, [], ◌∷◌, Bool, get_or, None, ap, refl, subst}
use Rattle.std.specs.Prelude.{◌≢◌}
use Rattle.ht_tern.specs.declared.tern.Tern.{Tern}
use Rattle.ht_net.specs.declared.fault.Fault.{Fault}
use Rattle.ht_net.specs.Circuit.Netlist.{Netlist, IsCircuit}
use Rattle.ht_net.specs.Frames.Frame.{next_state}
use Rattle.ht_net.specs.Frames.Faults.{bool_rules}
use Rattle.ht_net.specs.Detect.Detection.{Detects, DetectsFrom, IsStart, unknown_state}
use Rattle.ht_net.specs.Detect.Silence.{AgreeOutside, Sealed}
use Rattle.ht_net.proofs.SilenceLaws.{sealed_undetected_from, silent_undetected_from}
use Rattle.ht_faults.specs.Classes.{SameClass}
use Rattle.ht_faults.proofs.RunLaws.{bool_members_alike, members_detected}
use Rattle.ht_tree.specs.declared.clause.Clause.{Clause}
use Rattle.ht_tree.specs.declared.clause.Literal.{Literal}
use Rattle.ht_tree.specs.declared.entry.Entry.{Entry}
use Rattle.ht_tree.specs.declared.entry.Entry.TheVariants as entries
use Rattle.ht_tree.specs.declared.kind.EntryKind.{EntryKind}
use Rattle.ht_tree.specs.declared.kind.EntryKind.TheVariants as kinds
use Rattle.ht_tree.specs.Clause.Clauses.{literals_of_each}
use Rattle.ht_tree.specs.Window.Decisions.{is_in}
use Rattle.ht_tree.specs.Record.Entries.{AllowsEntry, Means, kind_of}
use Rattle.ht_tree.specs.Record.Refutations.{IsUntestable}
use Rattle.ht_tree.specs.Record.RefutationsFrom.{IsUntestableFrom}
use Rattle.ht_tree.specs.Clause.SealedInClauses.{SealedIn}
use Rattle.ht_valid.specs.ValidFiles.{said_by_kind}

-- kinds of which entries say the same are the same
one_kind : (a b : EntryKind) → said_by_kind a ≡ said_by_kind b → a ≡ b
one_kind kinds.Untestable kinds.Untestable is = refl
one_kind kinds.Untestable kinds.Undetectable is = absurd cc
one_kind kinds.Untestable kinds.Aborted is = absurd cc
one_kind kinds.Undetectable kinds.Untestable is = absurd cc
one_kind kinds.Undetectable kinds.Undetectable is = refl
one_kind kinds.Undetectable kinds.Aborted is = absurd cc
one_kind kinds.Aborted kinds.Untestable is = absurd cc
one_kind kinds.Aborted kinds.Undetectable is = absurd cc
one_kind kinds.Aborted kinds.Aborted is = refl

-- an entry by which the same is said as by a kind is of this kind
pub kind_said : (kind : EntryKind) (e : Entry) → said_by_kind (kind_of e) ≡ said_by_kind kind → kind_of e ≡ kind
kind_said kind e = one_kind (kind_of e) kind

-- untestable isn't the kind of abort records
pub untestable_unspent : kinds.Untestable ≢ kinds.Aborted
untestable_unspent same = cc

-- undetectable isn't the kind of abort records
pub undetectable_unspent : kinds.Undetectable ≢ kinds.Aborted
undetectable_unspent same = cc

-- what an entry means that isn't an abort record: no list detects the fault
pub means_undetected : (c : Netlist) (start : List Tern) (fault : Fault) (e : Entry) → kind_of e ≢ kinds.Aborted
    → Means c start fault e → (list : List (List Bool)) (t o : ℕ) → ¬ Detects c fault list t o
means_undetected c start fault (entries.Untestable z tokens) refutes means = means.undetected
means_undetected c start fault (entries.UntestableFrom state clauses z tokens) refutes means = means.undetected
means_undetected c start fault (entries.UndetectableBySets rows) refutes means = means.from_unknown
means_undetected c start fault (entries.UndetectableByCubes cubes steps) refutes means = means.from_unknown
means_undetected c start fault (entries.Aborted told walk aim sweep) refutes means = absurd (refutes refl)

-- nor does one from a start that allows the state that the entry names
pub means_undetected_from : (c : Netlist) (start : List Tern) (fault : Fault) → IsStart c start → (e : Entry)
    → kind_of e ≢ kinds.Aborted → AllowsEntry start e → Means c start fault e → (list : List (List Bool)) (t o : ℕ)
    → ¬ DetectsFrom c fault start list t o
means_undetected_from c start fault latches (entries.Untestable z tokens) refutes allowed means =
    sealed_undetected_from c fault (is_in z) means.sealed start latches
means_undetected_from c start fault latches (entries.UntestableFrom state clauses z tokens) refutes allowed means =
    silent_undetected_from c fault start state allowed means.silent
means_undetected_from c start fault latches (entries.UndetectableBySets rows) refutes allowed means = means.from_start
means_undetected_from c start fault latches (entries.UndetectableByCubes cubes steps) refutes allowed means =
    means.from_start
means_undetected_from c start fault latches (entries.Aborted told walk aim sweep) refutes allowed means =
    absurd (refutes refl)

module _ (c : Netlist) (r f : Fault) (circuit : IsCircuit c) (same : SameClass c r f) where
  -- what no list detects of the representative, none detects of the member
  undetected_member_from : (start : List Tern)
      → ((list : List (List Bool)) (t o : ℕ) → ¬ DetectsFrom c r start list t o)
      → (list : List (List Bool)) (t o : ℕ) → ¬ DetectsFrom c f start list t o
  undetected_member_from start none list = (members_detected c r f start list None circuit same).0 (none list)

  undetected_member : ((list : List (List Bool)) (t o : ℕ) → ¬ Detects c r list t o)
      → (list : List (List Bool)) (t o : ℕ) → ¬ Detects c f list t o
  undetected_member = undetected_member_from (unknown_state c)

  -- one frame of the member's machine is one of the representative's
  sealed_member : (z : ℕ → Bool) → Sealed c r z → Sealed c f z
  sealed_member z seal =
      let alike = bool_members_alike c r f circuit same in
      record {
        outputs = λ vector state state' width is is' agree. seal.outputs vector state state' width is is' agree
            ∙ ap (λ (rows : List (List Bool)). get_or rows 0 []) (alike.outputs state' (vector ∷ []));
        stays = λ vector state state' width is is' agree.
            subst (AgreeOutside c z (next_state c (bool_rules None) vector state))
            (alike.states state' (vector ∷ [])) (seal.stays vector state state' width is is' agree);
      }

  sealed_in_member : (z : ℕ → Bool) (clauses : List (List Literal)) → SealedIn c r z clauses → SealedIn c f z clauses
  sealed_in_member z clauses seal =
      let alike = bool_members_alike c r f circuit same in
      record {
        outputs = λ vector state state' width is is' met agree.
            seal.outputs vector state state' width is is' met agree
            ∙ ap (λ (rows : List (List Bool)). get_or rows 0 []) (alike.outputs state' (vector ∷ []));
        stays = λ vector state state' width is is' met agree.
            subst (AgreeOutside c z (next_state c (bool_rules None) vector state))
            (alike.states state' (vector ∷ [])) (seal.stays vector state state' width is is' met agree);
      }

  untestable_member : (z : List ℕ) → IsUntestable c r z → IsUntestable c f z
  untestable_member z means =
      let alike = bool_members_alike c r f circuit same in
      record {
        sealed = sealed_member (is_in z) means.sealed;
        silent = λ state is list. means.silent state is list ∙ alike.outputs state list;
        undetected = undetected_member means.undetected;
      }

  untestable_from_member : (state : List Bool) (clauses : List Clause) (z : List ℕ)
      → IsUntestableFrom c r state clauses z → IsUntestableFrom c f state clauses z
  untestable_from_member state clauses z means =
      let alike = bool_members_alike c r f circuit same in
      record {
        kept = means.kept;
        sealed = sealed_in_member (is_in z) (literals_of_each clauses) means.sealed;
        silent = λ list. means.silent list ∙ alike.outputs state list;
        undetected = undetected_member means.undetected;
      }

  -- what an entry that is no abort record means of a fault, it means of each fault of the class
  pub member_means : (start : List Tern) (e : Entry) → kind_of e ≢ kinds.Aborted → Means c start r e
      → Means c start f e
  member_means start (entries.Untestable z tokens) refutes means = untestable_member z means
  member_means start (entries.UntestableFrom state clauses z tokens) refutes means =
      untestable_from_member state clauses z means
  member_means start (entries.UndetectableBySets rows) refutes means = record {
    from_start = undetected_member_from start means.from_start;
    from_unknown = undetected_member means.from_unknown;
  }
  member_means start (entries.UndetectableByCubes cubes steps) refutes means = record {
    from_start = undetected_member_from start means.from_start;
    from_unknown = undetected_member means.from_unknown;
  }
  member_means start (entries.Aborted told walk aim sweep) refutes means = absurd (refutes refl)
