-- A search with one more token.
use Rattle.std.proofs.Common.{◌≡◌, ◌+◌, ℕ, List, [], ◌∷◌, ◌++◌, Bool, true, not, length, reverse, sym, ap, ◌∙◌, subst}
use Rattle.std.proofs.lemmas.List.{reverse-append, length_push}
use Rattle.ht_tern.specs.declared.tern.Tern.{Tern}
use Rattle.ht_tern.specs.declared.tern.Tern.TheVariants.{Zero, One, Unk}
use Rattle.ht_tern.specs.Gate.{tern_of}
use Rattle.ht_tree.specs.declared.token.Token.{Token}
use Rattle.ht_tree.specs.declared.token.Token.TheVariants as token
use Rattle.ht_tree.specs.declared.token.Choice.TheVariants as choice
use Rattle.ht_tree.specs.declared.token.Status3.TheVariants as status
use Rattle.ht_tree.specs.Walk.Walks.{Node, AllFit, Fits, decide, under, root_stack, next_stack, stack_after}
use Rattle.ht_tree.specs.Walk.Searches.{Guide, AllChosen, IsChosen}
use Rattle.ht_tree.proofs.WalkLaws.{stack_push, fit_push, chosen_push}
use Rattle.ht_search.specs.declared.problem.Point.{Point}
use Rattle.ht_search.specs.declared.progress.Untried.{Untried}
use Rattle.ht_search.specs.declared.progress.SearchProgress.{SearchProgress}
use Rattle.ht_search.specs.Legal.{MayDecide}
use Rattle.ht_search.specs.Routes.{Route, stops, back_to, Stands, MovesOn}
use Rattle.ht_search.specs.Progressed.{IsStack, IsWalked, IsPaid, GoesOn, IsFinished}
use Rattle.ht_search.proofs.RouteLaws.{back_moved, route_same}
use Rattle.ht_search.proofs.LegalLaws.{may_two, may_three}
use Rattle.ht_search.proofs.WaitLaws.{IsNext, top_is, start_stands, two_stack, three_stack, before_stack, next_is, last_is}

-- a search with one more token and a unit of the budget less has paid for the token
pub paid : (unit : ℕ) (old new : SearchProgress) (t : Token) → new.tokens.items ≡ old.tokens.items ++ t ∷ []
    → new.left + unit ≡ old.left → IsPaid unit old new
paid unit old new t longer left = record { tokens = ap length longer ∙ length_push old.tokens.items t; left = left }

-- the stack of a search, and the route at the start
module _ (g : Guide) (start : Point) (now : Route) (p : SearchProgress) (w : IsWalked g start now p) where
  abbrev pub nodes : List Node
  nodes = stack_after root_stack p.tokens.items

  -- the point where a search began stands on its route
  pub starts : Stands now start
  starts = start_stands g.judge start now (reverse p.untried.items) nodes w.stack

  top : (rest : List Node) × (nodes ≡ now.here.node ∷ rest)
  top = top_is g.judge start now (reverse p.untried.items) nodes w.stack

  fit_more : (q : SearchProgress) (t : Token) → q.tokens.items ≡ p.tokens.items ++ t ∷ [] → Fits g.judge now.here.node t
      → AllFit g.judge root_stack q.tokens.items
  fit_more q t longer fit =
      subst (AllFit g.judge root_stack) (sym longer)
      (fit_push g.judge now.here.node top.0 root_stack p.tokens.items t w.fit top.1 fit)

  chosen_more : (q : SearchProgress) (t : Token) → q.tokens.items ≡ p.tokens.items ++ t ∷ []
      → IsChosen g.choice now.here.node t → AllChosen g.choice root_stack q.tokens.items
  chosen_more q t longer chosen =
      subst (AllChosen g.choice root_stack) (sym longer)
      (chosen_push g.choice now.here.node top.0 root_stack p.tokens.items t w.chosen top.1 chosen)

  stack_more : (q : SearchProgress) (t : Token) → q.tokens.items ≡ p.tokens.items ++ t ∷ []
      → stack_after root_stack q.tokens.items ≡ next_stack nodes t
  stack_more q t longer = ap (stack_after root_stack) longer ∙ stack_push root_stack p.tokens.items t

  -- one more token, which leaves a stack
  goes : (unit : ℕ) (next : Route) (q : SearchProgress) (us : List Untried) (t : Token)
      → q.tokens.items ≡ p.tokens.items ++ t ∷ [] → q.left + unit ≡ p.left → reverse q.untried.items ≡ us
      → Fits g.judge now.here.node t → IsChosen g.choice now.here.node t
      → IsStack g.judge start next us (next_stack nodes t) → back_to (stops next) start ≡ back_to (stops now) start
      → GoesOn g start unit now next p q
  goes unit next q us t longer left untried fit chosen stack back = record {
    walked = record {
      fit = fit_more q t longer fit;
      chosen = chosen_more q t longer chosen;
      stack = subst (IsStack g.judge start next (reverse q.untried.items)) (sym (stack_more q t longer))
          (subst (λ (vs : List Untried). IsStack g.judge start next vs (next_stack nodes t)) (sym untried) stack);
    };
    back = back;
    paid = paid unit p q t longer left;
  }

  -- a search goes on that decides the chosen variable to a bit, writes `Two` and puts the other bit off
  pub goes_two : (unit : ℕ) (next : Route) (q : SearchProgress) (at : Point) (var : ℕ) (value v : Tern) (b : Bool)
      → g.choice now.here.node ≡ choice.Two var b → Fits g.judge now.here.node (token.Two var b)
      → at ≡ now.here.point → value ≡ tern_of (not b) → v ≡ tern_of b → MovesOn now next (decide now.here.node var v)
      → q.tokens.items ≡ p.tokens.items ++ token.Two var b ∷ [] → q.left + unit ≡ p.left
      → reverse q.untried.items ≡ record { point = at; var = var; value = value } ∷ reverse p.untried.items
      → GoesOn g start unit now next p q
  goes_two unit next q at var value v b chosen fit is other same m longer left untried =
      let moves = subst (λ (x : Tern). MovesOn now next (decide now.here.node var x)) same m in
      let may = subst (MayDecide g.judge now.here.node var) (sym other)
      (may_two g.judge now.here.node var b (not b) fit) in
      goes unit next q _ (token.Two var b) longer left untried fit chosen
      (two_stack g.judge start now next (reverse p.untried.items) at var value b nodes w.stack moves is other may)
      (back_moved now next (decide now.here.node var (tern_of b)) start moves starts)

  -- a search goes on that decides the chosen variable to 0, writes `Three` and puts 1 and X off
  pub goes_three : (unit : ℕ) (next : Route) (q : SearchProgress) (at : Point) (var : ℕ)
      → g.choice now.here.node ≡ choice.Three var → Fits g.judge now.here.node (token.Three var)
      → at ≡ now.here.point → MovesOn now next (decide now.here.node var Zero)
      → q.tokens.items ≡ p.tokens.items ++ token.Three var ∷ [] → q.left + unit ≡ p.left
      → reverse q.untried.items ≡ record { point = at; var = var; value = One }
      ∷ record { point = at; var = var; value = Unk } ∷ reverse p.untried.items
      → GoesOn g start unit now next p q
  goes_three unit next q at var chosen fit is m longer left untried =
      goes unit next q _ (token.Three var) longer left untried fit chosen
      (three_stack g.judge start now next (reverse p.untried.items) at var nodes w.stack m is
      (may_three g.judge now.here.node var One fit) (may_three g.judge now.here.node var Unk fit))
      (back_moved now next (decide now.here.node var Zero) start m starts)

  -- a search goes on that moves to the window under a sure node and writes `Before`
  pub goes_before : (unit : ℕ) (next : Route) (q : SearchProgress) → g.judge.status now.here.node ≡ status.Sure
      → g.judge.before now.here.node ≡ true → MovesOn now next (under now.here.node)
      → q.tokens.items ≡ p.tokens.items ++ token.Before ∷ [] → q.left + unit ≡ p.left → q.untried ≡ p.untried
      → GoesOn g start unit now next p q
  goes_before unit next q sure before m longer left untried =
      goes unit next q (reverse p.untried.items) token.Before longer left (ap (λ v. reverse v.items) untried)
      (sure, before) tt
      (before_stack g.judge start now next (reverse p.untried.items) nodes w.stack m)
      (back_moved now next (under now.here.node) start m starts)

  -- back to the value that waits next
  module _ (us : List Untried) (u : Untried) (is : p.untried.items ≡ us ++ u ∷ []) where
    waits_next : IsNext g.judge start now u (reverse us) (next_stack nodes token.Dead)
    waits_next =
        let e : reverse p.untried.items ≡ u ∷ reverse us = ap reverse is ∙ reverse-append us (u ∷ []) in
        next_is g.judge start now u (reverse us) nodes
        (subst (λ (vs : List Untried). IsStack g.judge start now vs nodes) e w.stack)

    at_next : (at : Route) → stops at ≡ back_to (stops now) u.point → at ≡ waits_next.at
    at_next at back = route_same at waits_next.at (back ∙ waits_next.back)

    -- the value that waits next may be decided once the route is back at its point
    pub next_may : (at : Route) → stops at ≡ back_to (stops now) u.point → MayDecide g.judge at.here.node u.var u.value
    next_may at back =
        subst (λ (t : Route). MayDecide g.judge t.here.node u.var u.value) (sym (at_next at back)) waits_next.may

    -- a search goes on that writes `Dead`, goes back to the point of the value that waits next and decides it there
    pub goes_back : (unit : ℕ) (at next : Route) (q : SearchProgress) → g.judge.status now.here.node ≡ status.Dead
        → stops at ≡ back_to (stops now) u.point → MovesOn at next (decide at.here.node u.var u.value)
        → q.tokens.items ≡ p.tokens.items ++ token.Dead ∷ [] → q.left + unit ≡ p.left → q.untried.items ≡ us
        → GoesOn g start unit now next p q
    goes_back unit at next q dead back m longer left untried =
        let n = waits_next in
        let moves = subst (λ (t : Route). MovesOn t next (decide t.here.node u.var u.value)) (at_next at back) m in
        let stands : Stands n.at start = λ none. starts (sym n.began ∙ none) in
        goes unit next q (reverse us) token.Dead longer left (ap reverse untried) dead tt (n.stack next moves)
        (back_moved n.at next (decide n.at.here.node u.var u.value) start moves stands ∙ n.began)

  -- with nothing left to try, no node is left
  pub finishes : (unit : ℕ) (q : SearchProgress) → p.untried.items ≡ [] → g.judge.status now.here.node ≡ status.Dead
      → q.tokens.items ≡ p.tokens.items ++ token.Dead ∷ [] → q.left + unit ≡ p.left → IsFinished g unit p q
  finishes unit q none dead longer left = record {
    fit = fit_more q token.Dead longer dead;
    chosen = chosen_more q token.Dead longer tt;
    finished = stack_more q token.Dead longer ∙ last_is g.judge start now nodes
        (subst (λ (us : List Untried). IsStack g.judge start now (reverse us) nodes) none w.stack);
    paid = paid unit p q token.Dead longer left;
  }
