-- The verdict of each listed fault is true in what is justified.
use Rattle.std.proofs.Common.{◌≡◌, ◌∙◌, ◌+◌, ℕ, List, get_or, Option, Some, None, sym}
use Rattle.std.specs.Prelude.{◌≢◌}
use Rattle.std.specs.List.{Contains}
use Rattle.ht_net.specs.declared.place.Place.{Place}
use Rattle.ht_net.specs.Circuit.Netlist.{Netlist, IsCircuit}
use Rattle.ht_net.specs.Detect.Detection.{IsFirstFrom, IsStart}
use Rattle.ht_net.proofs.ApartLaws.{detected_apart_from}
use Rattle.ht_faults.specs.Classes.{AreClasses, SameClass, fault_at}
use Rattle.ht_faults.proofs.RunLaws.{members_detected}
use Rattle.ht_tree.specs.declared.entry.Entry.{Entry}
use Rattle.ht_tree.specs.declared.entry.Entry.TheVariants as entries
use Rattle.ht_tree.specs.declared.kind.EntryKind.{EntryKind}
use Rattle.ht_tree.specs.declared.kind.EntryKind.TheVariants as kinds
use Rattle.ht_tree.specs.Record.AbortRecords.{AbortView}
use Rattle.ht_tree.specs.Record.Entries.{AllowsEntry, Passes, kind_of}
use Rattle.ht_records.proofs.AbortLaws.{abort_means, passing_means}
use Rattle.ht_texts.specs.declared.said.Said.{Said}
use Rattle.ht_texts.specs.declared.said.Said.TheVariants.{Detected, Untestable, Undetectable, Aborted, Undetected}
use Rattle.ht_texts.specs.Verdicts.{said_at}
use Rattle.ht_valid.specs.ValidFiles.{AgreesWithTests, Backs, Content, IsJustified}
use Rattle.ht_valid.specs.TrueVerdicts.{HasVerdict, HaveTrueVerdicts, IsAborted, IsDetected, IsProved}
use Rattle.ht_valid.proofs.BackedLaws.{IsBackedIfNeeded, justified_backs, representative_is_own}
use Rattle.ht_valid.proofs.MemberLaws.{kind_said, means_undetected, means_undetected_from, member_means, undetectable_unspent, untestable_unspent}

module _ (c : Netlist) (content : Content) (r i : ℕ) (circuit : IsCircuit c) (latches : IsStart c content.start)
    (same : SameClass c (fault_at c r) (fault_at c i)) where
  -- what the vectors detect first of the representative, they detect first of the member
  first_of_member : (place : Option Place) → IsFirstFrom c (fault_at c r) content.start content.list place
      → IsFirstFrom c (fault_at c i) content.start content.list place
  first_of_member place =
      (members_detected c (fault_at c r) (fault_at c i) content.start content.list place circuit same).0

  detected_of : (place : Place) → IsFirstFrom c (fault_at c r) content.start content.list (Some place)
      → IsDetected c content i place
  detected_of place first =
      let here = first_of_member (Some place) first in
      record {
        first = here;
        apart = detected_apart_from c (fault_at c i) content.start content.list place.vector place.output here.0;
      }

  -- an entry of a kind that isn't the abort records' proves this of the member
  proved_by : (kind : EntryKind) (e : Entry) → kind ≢ kinds.Aborted → kind_of e ≡ kind
      → Contains content.entries (record { number = r + 1; entry = e })
      → Passes c content.start (fault_at c r) content.budget e → AllowsEntry content.start e
      → IsProved kind c content r i
  proved_by kind e unspent is among passes allowed =
      let refutes : kind_of e ≢ kinds.Aborted = λ spent. unspent (sym is ∙ spent) in
      let means = member_means c (fault_at c r) (fault_at c i) circuit same content.start e refutes
      (passing_means c content.start (fault_at c r) content.budget e circuit latches passes) in
      record {
        entry = e;
        held = among;
        kind_is = is;
        passes = passes;
        allowed = allowed;
        means = means;
        undetected = means_undetected c content.start (fault_at c i) e refutes means;
        undetected_from = means_undetected_from c content.start (fault_at c i) latches e refutes allowed means;
      }

  aborted_by : (e : Entry) → Contains content.entries (record { number = r + 1; entry = e })
      → Backs c content.start content.budget r e Aborted → IsFirstFrom c (fault_at c r) content.start content.list None
      → IsAborted c content r i
  aborted_by (entries.Untestable z tokens) among backs none = let no = backs.0 in cc
  aborted_by (entries.UntestableFrom state clauses z tokens) among backs none = let no = backs.0 in cc
  aborted_by (entries.UndetectableBySets rows) among backs none = let no = backs.0 in cc
  aborted_by (entries.UndetectableByCubes cubes steps) among backs none = let no = backs.0 in cc
  aborted_by (entries.Aborted told walk aim sweep) among backs none =
      let spent : AbortView = record { told = told; walk = walk; aim = aim; sweep = sweep } in
      record {
        undetected = first_of_member None none;
        spent = spent;
        held = among;
        passes = backs.1;
        means = abort_means c (fault_at c r) content.budget spent circuit backs.1;
      }

  verdict_by : (said : Said) → AgreesWithTests c content.start content.list r said → IsBackedIfNeeded c content r said
      → HasVerdict c content r i said
  verdict_by (Detected place) agrees backed = detected_of place agrees
  verdict_by Untestable agrees backed =
      let by = backed tt in
      proved_by kinds.Untestable by.entry untestable_unspent (kind_said kinds.Untestable by.entry by.backs.0) by.among
      by.backs.1 by.backs.2
  verdict_by Undetectable agrees backed =
      let by = backed tt in
      proved_by kinds.Undetectable by.entry undetectable_unspent (kind_said kinds.Undetectable by.entry by.backs.0)
      by.among by.backs.1 by.backs.2
  verdict_by Aborted agrees backed =
      let by = backed tt in
      aborted_by by.entry by.among by.backs agrees
  verdict_by Undetected agrees backed = first_of_member None agrees

-- in what is justified, each listed fault has one verdict, and it is true
pub true_verdicts : (c : Netlist) (representatives : List ℕ) (content : Content) → IsCircuit c
    → AreClasses c representatives → IsStart c content.start → IsJustified c representatives content
    → HaveTrueVerdicts c representatives content
true_verdicts c representatives content circuit classes latches is i inside =
    let r = get_or representatives i 0 in
    let own = representative_is_own c representatives i classes inside in
    verdict_by c content r i circuit latches (classes.exact i inside).member (said_at content.saids r)
    (is.agrees r own) (justified_backs c representatives content r is own)
