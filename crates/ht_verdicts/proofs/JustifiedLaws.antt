-- Files that say what verdicts do are justified.
use Rattle.std.proofs.Common.{◌≡◌, ◌<◌, ◌-◌, ◌∙◌, ℕ, List, Bool, Option, Some, None, ap, refl, sym, subst}
use Rattle.std.proofs.lemmas.List.Elements.{All-weaker}
use Rattle.ht_tern.specs.declared.tern.Tern.{Tern}
use Rattle.ht_net.specs.declared.place.Place.{Place}
use Rattle.ht_net.specs.Circuit.Netlist.{Netlist}
use Rattle.ht_net.specs.Detect.Detection.{IsFirstFrom}
use Rattle.ht_faults.specs.Classes.{fault_at}
use Rattle.ht_proofs.specs.Detections.{AreFirstDetections, place_at}
use Rattle.ht_tree.specs.declared.entry.Entry as recorded
use Rattle.ht_tree.specs.declared.kind.EntryKind.{EntryKind}
use Rattle.ht_tree.specs.declared.kind.EntryKind.TheVariants as kinds
use Rattle.ht_tree.specs.Record.Entries.{AllowsEntry, Passes, kind_of}
use Rattle.ht_entries.specs.declared.numbered.Numbered.{Numbered}
use Rattle.ht_texts.specs.Verdicts.{said_at}
use Rattle.ht_valid.specs.ValidFiles.{AgreesWithTests, Backs, Content, HasEntry, IsBacking, IsJustified, IsOwn, NeedsEntry, said_by_kind}
use Rattle.ht_verdicts.specs.Standing.{AllDecide, Decides, VerdictsView, entry_at}
use Rattle.ht_verdicts.specs.Contents.{IsContentOf, IsKeptEntry, said_by_both, said_in}

-- ---- what is said agrees with the vectors

agrees_by_kind : (c : Netlist) (start : List Tern) (list : List (List Bool)) (i : ℕ) (kind : EntryKind)
    → IsFirstFrom c (fault_at c i) start list None → AgreesWithTests c start list i (said_by_kind kind)
agrees_by_kind c start list i kinds.Untestable first = first
agrees_by_kind c start list i kinds.Undetectable first = first
agrees_by_kind c start list i kinds.Aborted first = first

agrees_by : (c : Netlist) (start : List Tern) (list : List (List Bool)) (i : ℕ) (place : Option Place)
    (entry : Option recorded.Entry) → IsFirstFrom c (fault_at c i) start list place
    → AgreesWithTests c start list i (said_by_both place entry)
agrees_by c start list i (Some place) entry first = first
agrees_by c start list i None None first = first
agrees_by c start list i None (Some made) first = agrees_by_kind c start list i (kind_of made) first

-- ---- entries back what is said

backs_by_kind : (c : Netlist) (start : List Tern) (budget i : ℕ) (made : recorded.Entry) (kind : EntryKind)
    → kind_of made ≡ kind → Passes c start (fault_at c i) budget made → AllowsEntry start made
    → Backs c start budget i made (said_by_kind kind)
backs_by_kind c start budget i made kinds.Untestable is passes allowed = (ap said_by_kind is, passes, allowed)
backs_by_kind c start budget i made kinds.Undetectable is passes allowed = (ap said_by_kind is, passes, allowed)
backs_by_kind c start budget i made kinds.Aborted is passes allowed = (ap said_by_kind is, passes, allowed)

backs_by : (c : Netlist) (start : List Tern) (budget i : ℕ) (made : recorded.Entry) (place : Option Place)
    → Passes c start (fault_at c i) budget made → AllowsEntry start made
    → Backs c start budget i made (said_by_both place (Some made))
backs_by c start budget i made (Some place) passes allowed = tt
backs_by c start budget i made None passes allowed =
    backs_by_kind c start budget i made (kind_of made) refl passes allowed

-- ---- no entry that is needed is missing

needed_by : (P : Type 0) (place : Option Place) (entry : Option recorded.Entry)
    → (place ≡ None → (made : recorded.Entry) → entry ≡ Some made → P) → NeedsEntry (said_by_both place entry) → P
needed_by P (Some place) entry has needs = absurd needs
needed_by P None None has needs = absurd needs
needed_by P None (Some made) has needs = has refl made refl

-- ---- the three together

-- Files that say what verdicts do are justified, where each entry that is kept decides its fault.
pub justified : (v : VerdictsView) (content : Content) → v.grader.machines.circuit ≡ v.circuit
    → v.grader.representatives ≡ v.representatives → AllDecide v → IsContentOf v content
    → IsJustified v.circuit v.representatives content
justified v content circuit same decide files = record {
  agrees = agrees;
  backed = All-weaker (IsKeptEntry v) (IsBacking v.circuit v.representatives content) backing content.entries
      files.kept;
  complete = λ i own needs. needed_by (HasEntry content.entries i) (place_at v.grader.places i) (entry_at v i)
      (λ none made is. files.each i made none is) (subst NeedsEntry (files.says i own) needs);
}
  where
    first : AreFirstDetections v.circuit v.representatives v.start content.list v.grader.places
    first = subst (λ (r : List ℕ). AreFirstDetections v.circuit r v.start content.list v.grader.places) same
        (subst (λ (c : Netlist).
        AreFirstDetections c v.grader.representatives v.start content.list v.grader.places) circuit
        files.graded.first)

    agrees : (i : ℕ) → IsOwn v.circuit v.representatives i
        → AgreesWithTests v.circuit content.start content.list i (said_at content.saids i)
    agrees i own = subst (AgreesWithTests v.circuit content.start content.list i) (sym (files.says i own))
        (subst (λ (s : List Tern). AgreesWithTests v.circuit s content.list i (said_in v i)) (sym files.start)
        (agrees_by v.circuit v.start content.list i (place_at v.grader.places i) (entry_at v i)
        (first.first i own.listed own.own)))

    backing : (e : Numbered) → IsKeptEntry v e → IsBacking v.circuit v.representatives content e
    backing e kept =
        let i = e.number - 1 in
        let decides : Decides v.circuit v.representatives v.start i e.entry = decide i e.entry kept.kept in
        record {
          own = decides.own;
          counted = kept.counted;
          backs = subst (Backs v.circuit content.start content.budget i e.entry) (sym (files.says i decides.own))
              (subst (λ (s : List Tern). Backs v.circuit s content.budget i e.entry (said_in v i)) (sym files.start)
              (subst (λ (entry : Option recorded.Entry).
              Backs v.circuit v.start content.budget i e.entry (said_by_both (place_at v.grader.places i) entry))
              (sym kept.kept)
              (backs_by v.circuit v.start content.budget i e.entry (place_at v.grader.places i)
              (decides.passes content.budget) decides.allowed)));
        }
