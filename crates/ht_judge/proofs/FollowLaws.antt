-- What a judge of proofs owes whose claims follow them: before the first line, a line that is taken, one that isn't, and the
-- end.
use Rattle.std.proofs.Common.{◌≡◌, ◌∙◌, ◌<◌, ◌+◌, ◌-◌, ℕ, Bool, true, List, [], ◌∷◌, ◌++◌, Option, Some, None, Ok, Err, inl, inr, length, length-append, refl, sym, ap, subst, arith}
use Rattle.std.specs.List.{All, Contains}
use Rattle.std.proofs.Math.ListN.{get_or-map}
use Rattle.std.proofs.lemmas.List.{get_or_append_left, map-append}
use Rattle.std.proofs.lemmas.List.Elements.{All-cons, All-head, All-nil, All-push, All-tail, Contains-push}
use Rattle.ht_tern.specs.declared.tern.Tern.{Tern}
use Rattle.ht_net.specs.declared.place.Place.{Place}
use Rattle.ht_net.specs.Circuit.Netlist.{Netlist}
use Rattle.ht_net.specs.Detect.Detection.{IsFirstFrom}
use Rattle.ht_faults.specs.Sites.{faults_of}
use Rattle.ht_faults.specs.Classes.{fault_at}
use Rattle.ht_proofs.specs.Detections.{AreFirstDetections, place_at}
use Rattle.ht_tree.specs.declared.entry.Entry.{Entry}
use Rattle.ht_tree.specs.declared.kind.EntryKind.{EntryKind}
use Rattle.ht_tree.specs.declared.kind.EntryKind.TheVariants as kinds
use Rattle.ht_tree.specs.Record.Entries.{AllowsEntry, Passes, kind_of}
use Rattle.ht_tree.specs.Record.Rising.{Rises}
use Rattle.ht_texts.specs.declared.said.Said.{Said}
use Rattle.ht_texts.specs.declared.said.Said.TheVariants.{Detected, Untestable, Undetectable, Aborted, Undetected}
use Rattle.ht_texts.specs.Verdicts.{said_at, said_of, saids_of}
use Rattle.ht_entries.specs.declared.numbered.Numbered.{Numbered}
use Rattle.ht_entries.specs.declared.reader_state.Stand.{Stand}
use Rattle.ht_entries.specs.declared.reader_state.ReaderState.TheVariants.{AfterEnd}
use Rattle.ht_entries.specs.EntryTexts.{numbers_of}
use Rattle.ht_entries.specs.ProofReading.{ProofReading, before_first, after_first, within_entry, after_last, closed_of, AreProofLines, EndsEntry, IsProofReading, ProofReadsTo}
use Rattle.ht_entries.specs.ReaderStands.{ProofCalled, ProofReaderView, ProofStands, kept_of}
use Rattle.ht_entries.proofs.ReaderLaws.{whole_is_at_end}
use Rattle.ht_entries.proofs.RisesLaws.{rises_none}
use Rattle.ht_valid.specs.ValidFiles.{AgreesWithTests, Backs, Content, IsBacking, IsJustified, IsOwn, NeedsEntry, said_by_kind}
use Rattle.ht_valid.specs.FirstTrouble.{IsEvidence, IsEvidenceTrouble}
use Rattle.ht_judge.specs.declared.judge_error.JudgeError.{JudgeError}
use Rattle.ht_judge.specs.declared.proof_judge.ProofJudge.TheInside.{Inside}
use Rattle.ht_judge.specs.JudgingSteps.{DeniesDue, FollowsEnded, IsOwnNumber, JudgesEnded, TakesVerdict, due_by, said_with}
use Rattle.ht_judge.specs.ProofJudging.{AreJustifyingProofs, FollowsProofs, IsClaimed, ProofJudgeView, ProofJudged}
use Rattle.ht_judge.specs.ProofJudgeOf.{JudgesClaims}
use Rattle.ht_judge.proofs.ProofLaws.{Stops, all_below, as_claimed, as_content, due_denied, ended_denied, ends_wrong, entry_kept, equal_or_not, judge_before, judge_with, judging_with}

-- a content with these verdicts and entries
abbrev content_with : Content → List Said → List Numbered → Content
content_with content saids entries = record content { saids = saids; entries = entries }

-- ---- numbers of entries that are whole

rises_front : (xs ys : List ℕ) → Rises (xs ++ ys) → Rises xs
rises_front xs ys rises = record {
  next = λ i inside.
      let long = length-append xs ys in
      let less = rises.next i (omega (arith, inside, long)) in
      let here = get_or_append_left xs ys 0 i (omega (arith, inside)) in
      let next = get_or_append_left xs ys 0 (i + 1) inside in
      omega (arith, less, here, next);
}

closed_rises : (at : ProofReading) → IsProofReading at → Rises (numbers_of (closed_of at))
closed_rises before_first readable = rises_none
closed_rises (after_first format) readable = rises_none
closed_rises (within_entry format closed number p) readable =
    rises_front (numbers_of closed) (number ∷ []) readable.rises
closed_rises (after_last format closed) readable = readable.rises

-- the entry that ends has a number above all that ended before
ended_above : (old new : ProofReading) (e : Numbered) → IsProofReading new → EndsEntry old new (Some e)
    → All (λ (x : Numbered). x.number < e.number) (closed_of old)
ended_above old new e readable ends =
    all_below (closed_of old) e.number
    (subst Rises (map-append (λ (x : Numbered). x.number) (closed_of old) (e ∷ []))
    (subst (λ (l : List Numbered). Rises (numbers_of l)) ends (closed_rises new readable)))

-- ---- what is said with an entry

module _ (c : Netlist) (start : List Tern) (list : List (List Bool)) (budget i : ℕ) where
  by_kind_agrees : (kind : EntryKind) → IsFirstFrom c (fault_at c i) start list None
      → AgreesWithTests c start list i (said_by_kind kind)
  by_kind_agrees kinds.Untestable none = none
  by_kind_agrees kinds.Undetectable none = none
  by_kind_agrees kinds.Aborted none = none

  taken_agrees : (kind : EntryKind) (said : Said) → AgreesWithTests c start list i said
      → AgreesWithTests c start list i (said_with kind said)
  taken_agrees kind (Detected place) agrees = agrees
  taken_agrees kind Untestable agrees = by_kind_agrees kind agrees
  taken_agrees kind Undetectable agrees = by_kind_agrees kind agrees
  taken_agrees kind Aborted agrees = by_kind_agrees kind agrees
  taken_agrees kind Undetected agrees = by_kind_agrees kind agrees

  by_kind_backs : (e : Entry) (kind : EntryKind) → kind_of e ≡ kind
      → Passes c start (fault_at c i) budget e × AllowsEntry start e → Backs c start budget i e (said_by_kind kind)
  by_kind_backs e kinds.Untestable is passes = (ap said_by_kind is, passes.0, passes.1)
  by_kind_backs e kinds.Undetectable is passes = (ap said_by_kind is, passes.0, passes.1)
  by_kind_backs e kinds.Aborted is passes = (ap said_by_kind is, passes.0, passes.1)

  -- an entry that passes where the fault isn't detected backs what is said with it
  taken_backs : (e : Entry) (said : Said) → AgreesWithTests c start list i said
      → (IsFirstFrom c (fault_at c i) start list None
      → Passes c start (fault_at c i) budget e × AllowsEntry start e)
      → Backs c start budget i e (said_with (kind_of e) said)
  taken_backs e (Detected place) agrees passes = tt
  taken_backs e Untestable agrees passes = by_kind_backs e (kind_of e) refl (passes agrees)
  taken_backs e Undetectable agrees passes = by_kind_backs e (kind_of e) refl (passes agrees)
  taken_backs e Aborted agrees passes = by_kind_backs e (kind_of e) refl (passes agrees)
  taken_backs e Undetected agrees passes = by_kind_backs e (kind_of e) refl (passes agrees)

-- ---- the verdicts after an entry

module _ (c : Netlist) (representatives : List ℕ) (content : Content) (old new : List Said) (e : Numbered)
    (takes : TakesVerdict e old new) where
  -- the verdict of the entry's fault, by any number that is its own
  taken_at : (i : ℕ) → i + 1 ≡ e.number → said_at new i ≡ said_with (kind_of e.entry) (said_at old i)
  taken_at i same =
      subst (λ k. said_at new k ≡ said_with (kind_of e.entry) (said_at old k)) {x = e.number - 1} (omega (arith, same))
      takes.taken

  backing_kept : (x : Numbered) (entries more : List Numbered) → x.number < e.number
      → IsBacking c representatives (content_with content old entries) x
      → IsBacking c representatives (content_with content new more) x
  backing_kept x entries more below is =
      let counted = is.counted in
      record {
        own = is.own;
        counted = is.counted;
        backs = subst (Backs c content.start content.budget (x.number - 1) x.entry)
            (sym (takes.others (x.number - 1) (λ same. omega (arith, same, below, counted)))) is.backs;
      }

  backings_kept : (entries more all : List Numbered) → All (λ (x : Numbered). x.number < e.number) all
      → All (IsBacking c representatives (content_with content old entries)) all
      → All (IsBacking c representatives (content_with content new more)) all
  backings_kept entries more [] below backed = All-nil (IsBacking c representatives (content_with content new more))
  backings_kept entries more (x ∷ all) below backed =
      All-cons (IsBacking c representatives (content_with content new more)) x all
      (backing_kept x entries more (All-head (λ (y : Numbered). y.number < e.number) x all below)
      (All-head (IsBacking c representatives (content_with content old entries)) x all backed))
      (backings_kept entries more all (All-tail (λ (y : Numbered). y.number < e.number) x all below)
      (All-tail (IsBacking c representatives (content_with content old entries)) x all backed))

  -- what was justified is so with the entry, which backs what is said with it
  pub justified_on : (closed : List Numbered) → All (λ (x : Numbered). x.number < e.number) closed
      → IsJustified c representatives (content_with content old closed)
      → IsBacking c representatives (content_with content new (closed ++ e ∷ [])) e
      → IsJustified c representatives (content_with content new (closed ++ e ∷ []))
  justified_on closed below is backing = record {
    agrees = λ i own. elim (equal_or_not (i + 1) e.number) [
      | inl same ↦ subst (AgreesWithTests c content.start content.list i) (sym (taken_at i same))
          (taken_agrees c content.start content.list content.budget i (kind_of e.entry) (said_at old i)
          (is.agrees i own))
      | inr other ↦
          subst (AgreesWithTests c content.start content.list i) (sym (takes.others i other)) (is.agrees i own)
    ];
    backed = All-push (IsBacking c representatives (content_with content new (closed ++ e ∷ []))) closed e
        (backings_kept closed (closed ++ e ∷ []) closed below is.backed) backing;
    complete = λ i own needs. elim (equal_or_not (i + 1) e.number) [
      | inl same ↦ record {
        entry = e.entry;
        among = subst (λ (n : ℕ). Contains (closed ++ e ∷ []) (record { number = n; entry = e.entry })) (sym same)
            (Contains-push closed e);
      }
      | inr other ↦ entry_kept closed e i (is.complete i own (subst NeedsEntry (takes.others i other) needs))
    ];
  }

-- ---- a call with a line

module _ (a : Inside) (reader : ProofReaderView) (line : List ℕ) (ended : Option Numbered)
    (called : ProofCalled reader a.reader line (Ok ended)) (saids : List Said)
    (follows : a.follows ≡ true → FollowsEnded a.subject.classes.now ended a.claims.saids.items saids)
    (keeps : JudgesClaims a) where
  claims_now : (content : Content) (before : List (List ℕ)) (entries : List Numbered)
      → FollowsProofs (judge_before a reader) content before
      → IsClaimed (judging_with a saids) (content_with content saids entries)
  claims_now content before entries f = record { start = f.start; budget = f.budget; saids = refl }

  own_number : (e : Numbered) → IsOwn a.subject.circuit.now a.subject.classes.now (e.number - 1) → 0 < e.number
      → IsOwnNumber a.subject.classes.now e.number
  own_number e own counted = record {
    counted = (counted, omega (arith, own.listed, counted, keeps.subject.classes.every));
    own = own.own;
  }

  -- evidence backs what is said with it
  evidence_backs : (content : Content) (before : List (List ℕ)) (e : Numbered) (entries : List Numbered)
      → FollowsProofs (judge_before a reader) content before → ended ≡ Some e
      → IsEvidence a.subject.circuit.now a.subject.classes.now content.start content.list content.budget e
      → IsBacking a.subject.circuit.now a.subject.classes.now (content_with content saids entries) e
  evidence_backs content before e entries f same is =
      let takes = subst (λ (o : Option Numbered). FollowsEnded a.subject.classes.now o a.claims.saids.items saids) same
      (follows f.follows) (own_number e is.own is.counted) in
      record {
        own = is.own;
        counted = is.counted;
        backs = subst (Backs a.subject.circuit.now content.start content.budget (e.number - 1) e.entry)
            (sym takes.taken) (taken_backs a.subject.circuit.now content.start content.list content.budget (e.number - 1) e.entry
            (said_at a.claims.saids.items (e.number - 1)) (f.justified.agrees (e.number - 1) is.own) is.passes);
      }

  -- if the entry that a line ends is denied, a judge that follows the proofs stops for that cause
  pub ended_stops_following : (error : JudgeError) → JudgesEnded (judging_with a saids) ended (Err error)
      → Stops FollowsProofs IsEvidenceTrouble a reader line saids error
  ended_stops_following = ended_denied FollowsProofs IsEvidenceTrouble a reader line saids ended
      (λ e same none content before f few. ends_wrong a reader line ended called
      (IsEvidence a.subject.circuit.now a.subject.classes.now content.start content.list content.budget) before f.at
      f.stands few e same (λ is. none (as_claimed (judging_with a saids) (content_with content saids [])
      (claims_now content before [] f) e (evidence_backs content before e [] f same is))))

  -- no entry is due
  module _ (stand_is : Stand) (due : ℕ) (is_due : due ≡ due_by a.follows stand_is (length a.subject.classes.now)) where
    none_due : a.follows ≡ true → due ≡ 0
    none_due on = is_due ∙ ap (λ follows. due_by follows stand_is (length a.subject.classes.now)) on

    -- no entry is due to a judge that follows the proofs, so a denial of a due one owes no cause
    pub due_stops_following : (error : JudgeError) → DeniesDue (judging_with a saids) due error
        → Stops FollowsProofs IsEvidenceTrouble a reader line saids error
    due_stops_following = due_denied FollowsProofs IsEvidenceTrouble a reader line saids due
        (λ n counted first content before f few.
        let none = none_due f.follows in
        let inside = first.inside.1 in
        absurd (omega (arith, none, inside)))

  justified_with : (content : Content) (before : List (List ℕ)) (new : ProofReading) (found : Option Numbered)
      (u : Unit {0}) → (f : FollowsProofs (judge_before a reader) content before) → IsProofReading new
      → ended ≡ found → EndsEntry f.at new found → JudgesEnded (judging_with a saids) found (Ok u)
      → IsJustified a.subject.circuit.now a.subject.classes.now (content_with content saids (closed_of new))
  justified_with content before new None u f readable same ends judged =
      let kept = subst (λ (o : Option Numbered). FollowsEnded a.subject.classes.now o a.claims.saids.items saids) same
      (follows f.follows) in
      subst (λ (s : List Said). IsJustified a.subject.circuit.now a.subject.classes.now
      (content_with content s (closed_of new))) (sym kept)
      (subst (λ (l : List Numbered). IsJustified a.subject.circuit.now a.subject.classes.now
      (content_with content a.claims.saids.items l)) (sym ends) f.justified)
  justified_with content before new (Some e) u f readable same ends judged =
      let all = closed_of f.at ++ e ∷ [] in
      let backing = as_content (judging_with a saids) (content_with content saids all)
      (claims_now content before all f) e judged in
      let takes = subst (λ (o : Option Numbered). FollowsEnded a.subject.classes.now o a.claims.saids.items saids) same
      (follows f.follows) (own_number e backing.own backing.counted) in
      subst (λ (l : List Numbered). IsJustified a.subject.circuit.now a.subject.classes.now
      (content_with content saids l)) (sym ends)
      (justified_on a.subject.circuit.now a.subject.classes.now content a.claims.saids.items saids e takes
      (closed_of f.at) (ended_above f.at new e readable ends) f.justified backing)

  -- if the entry that a line ends, if any, is right, the judge follows the lines with this one
  pub line_followed : (u : Unit {0}) → JudgesEnded (judging_with a saids) ended (Ok u) → (begun : ℕ)
      → ProofJudged FollowsProofs IsEvidenceTrouble (judge_before a reader) (judge_with a saids begun true) line
      (Ok tt)
  line_followed u right begun = record {
    circuit = refl;
    representatives = refl;
    live = refl;
    taken = λ content before f few.
        let next = called.taken before f.at f.stands few in
        record {
          live = refl;
          follows = f.follows;
          start = f.start;
          budget = f.budget;
          at = next.at;
          stands = next.stands;
          justified = justified_with content before next.at ended u f next.stands.read.readable refl next.ends right;
        };
    cause = λ content before f few. tt;
  }

-- ---- before the first line

says_needed : (place : Option Place) → ¬ NeedsEntry (said_of place)
says_needed None needs = needs
says_needed (Some place) needs = needs

shown_agrees : (c : Netlist) (start : List Tern) (list : List (List Bool)) (i : ℕ) (place : Option Place)
    → IsFirstFrom c (fault_at c i) start list place → AgreesWithTests c start list i (said_of place)
shown_agrees c start list i None first = first
shown_agrees c start list i (Some place) first = first

-- what tests alone show is justified without entries
tests_justified : (c : Netlist) (representatives : List ℕ) (content : Content) (places : List (Option Place))
    → AreFirstDetections c representatives content.start content.list places
    → IsJustified c representatives (content_with content (saids_of places) [])
tests_justified c representatives content places first = record {
  agrees = λ i own. subst (AgreesWithTests c content.start content.list i)
      (sym (get_or-map said_of places i None))
      (shown_agrees c content.start content.list i (place_at places i) (first.first i own.listed own.own));
  backed = All-nil (IsBacking c representatives (content_with content (saids_of places) []));
  complete = λ i own needs. absurd (says_needed (place_at places i)
      (subst NeedsEntry (get_or-map said_of places i None) needs));
}

-- a new judge whose verdicts are the first detections of the vectors follows proofs of no lines
pub follows_tests : (v : ProofJudgeView) (c : Netlist) (representatives : List ℕ) (content : Content)
    (start : List Tern) (places : List (Option Place)) → v.live ≡ true → v.follows ≡ true → v.circuit ≡ c
    → v.representatives ≡ representatives → content.start ≡ start → v.start ≡ start → content.budget ≡ v.budget
    → v.saids ≡ saids_of places → ProofStands v.reader [] before_first
    → AreFirstDetections c representatives start content.list places → FollowsProofs v content []
follows_tests v c representatives content start places live follows circuit classes of_content of_judge budget saids
    stands first = record {
      live = live;
      follows = follows;
      start = of_content ∙ sym of_judge;
      budget = budget;
      at = before_first;
      stands = stands;
      justified = subst (λ (n : Netlist). IsJustified n v.representatives (content_with content v.saids [])) (sym circuit)
          (subst (λ (r : List ℕ). IsJustified c r (content_with content v.saids [])) (sym classes)
          (subst (λ (s : List Said). IsJustified c representatives (content_with content s [])) (sym saids)
          (tests_justified c representatives content places
          (subst (λ (s : List Tern). AreFirstDetections c representatives s content.list places) (sym of_content)
          first))));
    }

-- ---- the end

justifying_at : (c : Netlist) (representatives : List ℕ) (content : Content) (saids : List Said)
    (lines : List (List ℕ)) (at : ProofReading) → kept_of at ≡ AfterEnd → ProofReadsTo lines at
    → length saids ≡ length (faults_of c)
    → IsJustified c representatives (content_with content saids (closed_of at))
    → AreJustifyingProofs c representatives (record content { saids = saids }) lines
justifying_at c representatives content saids lines before_first end read each is = absurd cc
justifying_at c representatives content saids lines (after_first format) end read each is = absurd cc
justifying_at c representatives content saids lines (within_entry format closed number p) end read each is = absurd cc
justifying_at c representatives content saids lines (after_last format closed) end read each is = record {
  format = format;
  entries = closed;
  are = read.readable;
  lines_are = read.lines_are;
  each = each;
  justified = is;
}

-- whole proofs that a judge follows justify, with the vectors, the verdicts that it has by now
pub whole_justify : (v : ProofJudgeView) (content : Content) (lines : List (List ℕ))
    → length v.saids ≡ length (faults_of v.circuit) → FollowsProofs v content lines
    → ((lines : List (List ℕ)) (at : ProofReading) → ProofStands v.reader lines at → AreProofLines lines)
    → AreJustifyingProofs v.circuit v.representatives (record content { saids = v.saids }) lines
whole_justify v content lines each f whole =
    justifying_at v.circuit v.representatives content v.saids lines f.at
    (whole_is_at_end lines f.at f.stands.read (whole lines f.at f.stands)) f.stands.read each f.justified
