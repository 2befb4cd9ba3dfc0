-- What a window under clauses says of the node where its decisions stand.
use Rattle.std.proofs.Common.{◌≡◌, ◌∙◌, ℕ, List, [], ◌∷◌, Bool, true, false, IsTrue, refl, sym, ap, subst, if◌then◌else◌}
use Rattle.std.specs.List.{list_all, list_any}
use Rattle.ht_tern.specs.declared.tern.Tern.{Tern}
use Rattle.ht_net.specs.Circuit.Netlist.{Netlist}
use Rattle.ht_tree.specs.declared.token.Assign3.{Assign3}
use Rattle.ht_tree.specs.declared.token.Choice.{Choice}
use Rattle.ht_tree.specs.declared.token.Choice.TheVariants as choice
use Rattle.ht_tree.specs.declared.token.Status3.{Status3}
use Rattle.ht_tree.specs.declared.token.Status3.TheVariants as status3
use Rattle.ht_tree.specs.Walk.Walks.{Node, Fits, decides, path_of}
use Rattle.ht_tree.specs.Walk.Searches.{deciding_token, guide_of}
use Rattle.ht_tree.specs.Window.Windows.{one_frame, SearchWindow, IsWindow}
use Rattle.ht_tree.specs.Window.Variables.{IsLegalChoice, may_two, may_three}
use Rattle.ht_tree.specs.Walk.Counts.{seeks_difference}
use Rattle.ht_tree.proofs.DifferenceLaws.{window_stays}
use Rattle.ht_search.specs.Legal.{MayDecide}
use Rattle.ht_search.specs.WindowSteps.{node_of, steps_under}
use Rattle.ht_search.proofs.WindowStepLaws.{window_path}
use Rattle.ht_window.specs.States.{IsLegalDecision}
use Rattle.ht_window.proofs.TrialLaws as trial
use Rattle.ht_tree.specs.declared.clause.Clause.{Clause}
use Rattle.ht_tree.specs.Window.WindowStatus.{status_at, without_place}
use Rattle.ht_tree.specs.Clause.Clauses.{literals_of_each, path_breaks, path_meets, second_of}
use Rattle.ht_tree.specs.Clause.ClauseWindows.{ClauseWindow, IsClauseWindow, IsSought, is_one_frame, open_if_sure, status_under}
use Rattle.ht_tree.specs.Clause.ClauseSearches.{guide_under, pick_under}
use Rattle.ht_records.proofs.ChoiceLaws.{open_legal}
use Rattle.ht_records.proofs.CountLaws.{one_frame_seeks}
use Rattle.ht_invariant.specs.declared.sought.Sought.{Sought}
use Rattle.ht_invariant.specs.declared.sought.Sought.TheVariants.{Difference, Breach}
use Rattle.ht_invariant.specs.Trials.{clause_window, knows_each, knows_sought, sought_of}
use Rattle.ht_invariant.proofs.KnownLaws.{known_all, known_each}

sought_known : (c : Netlist) (sought : Sought) → knows_sought c sought ≡ true → IsSought c (sought_of sought)
sought_known c Difference h = tt
sought_known c (Breach first second) h = known_all c (first ∷ second_of second) h

module _ (w : SearchWindow) (sought : Sought) (clauses : List Clause) (ds : List Assign3)
    (one : is_one_frame w.start ≡ true) where
  abbrev here : Node
  here = node_of (steps_under [] ds)

  abbrev cw : ClauseWindow
  cw = clause_window w sought clauses

  path : path_of here ≡ ds
  path = window_path [] ds

  seeks : seeks_difference w.start ≡ true
  seeks = one_frame_seeks w.start one

  -- the status of the decisions under clauses is the status that the guide gives their node
  pub status_here : status_under cw ds ≡ (guide_under cw).judge.status here
  status_here = ap (status_under cw) (sym path)

  -- the variable that is picked under clauses is the one that the guide picks at the node
  pub choice_here : pick_under cw ds ≡ (guide_under cw).choice here
  choice_here = ap (pick_under cw) (sym path)

  same_may : (var : ℕ) (value : Tern) → MayDecide (guide_under cw).judge here var value
      → MayDecide (guide_of w).judge here var value
  same_may var value may = record { legal = may.legal; undecided = may.undecided }

  -- a variable that may be decided at the node isn't decided yet
  pub undecided_here : (var : ℕ) (value : Tern) → MayDecide (guide_under cw).judge here var value
      → decides ds var ≡ false
  undecided_here var value may = trial.undecided_here w ds seeks var value (same_may var value may)

  -- what may be decided at the node is a legal decision in the window
  pub legal_here : (var : ℕ) (value : Tern) → MayDecide (guide_under cw).judge here var value
      → IsLegalDecision w var value
  legal_here var value may = trial.legal_here w ds seeks var value (same_may var value may)

  fits_by : (chosen : Choice) → (guide_under cw).judge.status here ≡ status3.Open → IsLegalChoice w ds chosen
      → Fits (guide_under cw).judge here (deciding_token chosen)
  fits_by (choice.Two var first) opens h = (
    opens,
    subst IsTrue (ap (λ (v : SearchWindow). may_two v var) (sym (window_stays w here seeks))) h.0,
    ap (λ (p : List Assign3). decides p var) path ∙ h.1,
  )
  fits_by (choice.Three var) opens h = (
    opens,
    subst IsTrue (ap (λ (v : SearchWindow). may_three v var) (sym (window_stays w here seeks))) h.0,
    ap (λ (p : List Assign3). decides p var) path ∙ h.1,
  )

  -- at an open node the token of the variable that is picked under clauses fits
  pub choice_fits : IsWindow w → knows_sought w.circuit sought ≡ true → knows_each w.circuit clauses ≡ true
      → (guide_under cw).judge.status here ≡ status3.Open → (chosen : Choice) → chosen ≡ pick_under cw ds
      → Fits (guide_under cw).judge here (deciding_token chosen)
  choice_fits valid known_sought known_clauses opens chosen is =
      let all : IsClauseWindow cw = record {
        window = valid;
        one_frame = one;
        sought = sought_known w.circuit sought known_sought;
        known = known_each w.circuit clauses known_clauses;
      } in
      fits_by chosen opens
      (subst (IsLegalChoice w ds) (sym is) (open_legal cw ds all (status_here ∙ opens)))

-- a status that clauses leave sure is sure without them
left_sure : (broken met : Bool) (status : Status3)
    → (if broken then status3.Dead else if met then status else open_if_sure status) ≡ status3.Sure
    → status ≡ status3.Sure
left_sure true met status h = cc
left_sure false true status h = h
left_sure false false status3.Dead h = h
left_sure false false status3.Sure h = refl
left_sure false false status3.Open h = h

-- where a difference is sure under clauses, it is sure without them
pub sure_under : (w : SearchWindow) (clauses : List Clause) (path : List Assign3)
    → status_under (clause_window w Difference clauses) path ≡ status3.Sure
    → without_place (status_at w path) ≡ status3.Sure
sure_under w clauses path h =
    let literals = literals_of_each clauses in
    left_sure (list_any (path_breaks w.circuit path) literals) (list_all (path_meets w.circuit path) literals)
    (without_place (status_at w path)) h
