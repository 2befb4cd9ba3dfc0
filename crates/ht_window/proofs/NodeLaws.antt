-- What a window says of the node where its decisions stand.
use Rattle.std.proofs.Common.{◌≡◌, ◌≢◌, ◌||◌, ℕ, List, false, IsTrue, sym, ◌∙◌, ap, subst, inl, inr}
use Rattle.std.proofs.lemmas.Bool.{or_cases}
use Rattle.ht_tern.specs.declared.tern.Tern.{Tern}
use Rattle.ht_tern.specs.declared.tern.Tern.TheVariants.{Zero, One, Unk}
use Rattle.ht_tree.specs.declared.token.Assign3.{Assign3}
use Rattle.ht_tree.specs.declared.token.Choice.{Choice}
use Rattle.ht_tree.specs.declared.token.Choice.TheVariants as choice
use Rattle.ht_tree.specs.declared.token.Status3.TheVariants as status3
use Rattle.ht_tree.specs.declared.window.Status.TheVariants.{Open}
use Rattle.ht_tree.specs.Walk.Walks.{Node, Fits, decides, path_of}
use Rattle.ht_tree.specs.Walk.Searches.{guide_of, deciding_token}
use Rattle.ht_tree.specs.Window.Windows.{SearchWindow}
use Rattle.ht_tree.specs.Window.WindowStatus.{status_at, without_place}
use Rattle.ht_tree.specs.Window.Variables.{IsLegalChoice, may_two, may_three}
use Rattle.ht_tree.specs.Window.Nodes.{window_at, may_go_before}
use Rattle.ht_tree.specs.Window.WalkBack.{pick_of}
use Rattle.ht_search.specs.Legal.{MayDecide}
use Rattle.ht_window.specs.States.{IsLegalDecision}

-- a window with its decisions stands at a node of the first window
module _ (first w : SearchWindow) (n : Node) (ds : List Assign3) (at : window_at first n ≡ w) (is : path_of n ≡ ds)
  where
    -- the window's status is what the judge says of the node
    pub status_is : without_place (status_at w ds) ≡ (guide_of first).judge.status n
    status_is = λ k. without_place (status_at (sym at k) (sym is k))

    -- the window's choice is the guide's at the node
    pub choice_is : pick_of w ds ≡ (guide_of first).choice n
    choice_is = λ k. pick_of (sym at k) (sym is k)

    -- `Before` fits at the window's decisions just where the judge lets it at the node
    pub before_is : may_go_before w ds ≡ (guide_of first).judge.before n
    before_is = λ k. may_go_before (sym at k) (sym is k)

    two_is : (var : ℕ) → may_two w var ≡ (guide_of first).judge.two n var
    two_is var = λ k. may_two (sym at k) var

    three_is : (var : ℕ) → may_three w var ≡ (guide_of first).judge.three n var
    three_is var = λ k. may_three (sym at k) var

    -- where the status is open, the token of a legal choice fits at the node
    pub choice_fits : (chosen : Choice) → (guide_of first).judge.status n ≡ status3.Open → IsLegalChoice w ds chosen
        → Fits (guide_of first).judge n (deciding_token chosen)
    choice_fits (choice.Two var bit) opens h =
        (opens, subst IsTrue (two_is var) h.0, ap (λ (p : List Assign3). decides p var) is ∙ h.1)
    choice_fits (choice.Three var) opens h =
        (opens, subst IsTrue (three_is var) h.0, ap (λ (p : List Assign3). decides p var) is ∙ h.1)

    -- what may be decided at the node is undecided in the window
    pub decision_undecided : (var : ℕ) (value : Tern) → MayDecide (guide_of first).judge n var value
        → decides ds var ≡ false
    decision_undecided var value may = ap (λ (p : List Assign3). decides p var) (sym is) ∙ may.undecided

    legal_by : (var : ℕ) (value : Tern) → value ≢ Unk
        → IsTrue ((guide_of first).judge.two n var || (guide_of first).judge.three n var) → IsLegalDecision w var value
    legal_by var value known h =
        elim (or_cases ((guide_of first).judge.two n var) ((guide_of first).judge.three n var) h) [
          | inl two ↦ inl (subst IsTrue (sym (two_is var)) two, known)
          | inr three ↦ inr (subst IsTrue (sym (three_is var)) three)
        ]

    -- what may be decided at the node is a decision that the window allows
    pub decision_legal : (var : ℕ) (value : Tern) → MayDecide (guide_of first).judge n var value
        → IsLegalDecision w var value
    decision_legal var Zero may = legal_by var Zero (λ e. cc) may.legal
    decision_legal var One may = legal_by var One (λ e. cc) may.legal
    decision_legal var Unk may = inr (subst IsTrue (sym (three_is var)) may.legal)
