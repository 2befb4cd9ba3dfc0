-- What waits to be tried, from token to token.
use Rattle.std.proofs.Common.{◌≡◌, ℕ, List, [], ◌∷◌, Bool, not, refl, sym, ap, ◌∙◌}
use Rattle.ht_tern.specs.declared.tern.Tern.{Tern}
use Rattle.ht_tern.specs.declared.tern.Tern.TheVariants.{Zero, One, Unk}
use Rattle.ht_tern.specs.Gate.{tern_of}
use Rattle.ht_tree.specs.declared.token.Token.TheVariants as token
use Rattle.ht_tree.specs.Walk.Walks.{Node, Judge, decide, under, next_stack}
use Rattle.ht_tree.specs.Walk.Searches.{IsOnTop}
use Rattle.ht_search.specs.declared.problem.Point.{Point}
use Rattle.ht_search.specs.declared.progress.Untried.{Untried}
use Rattle.ht_search.specs.Legal.{MayDecide}
use Rattle.ht_search.specs.Routes.{Route, stops, back_to, Stands, MovesOn}
use Rattle.ht_search.specs.Progressed.{WaitsAt, Waits, IsStack}
use Rattle.ht_search.proofs.RouteLaws.{back_here, back_moved, stands_moved, stands_by}

-- a value that is put off here
waits_here : (j : Judge) (start : Point) (now : Route) (at : Point) (var : ℕ) (value v : Tern) (n : Node)
    → at ≡ now.here.point → value ≡ v → n ≡ now.here.node → MayDecide j now.here.node var value
    → WaitsAt j start now now (record { point = at; var = var; value = value }) (decide n var v)
waits_here j start now at var value v n is same top may = record {
  back = ap (back_to (stops now)) is ∙ back_here now;
  began = refl;
  node = ap (λ (x : Node). decide x var v) top ∙ ap (decide now.here.node var) (sym same);
  may = may;
}

-- what waits does so after a step
module _ (j : Judge) (start : Point) (now next : Route) (n : Node) (m : MovesOn now next n) (s : Stands now start) where
  one_moved : (at : Route) (u : Untried) (x : Node) → WaitsAt j start now at u x → WaitsAt j start next at u x
  one_moved at u x w = record {
    back = back_moved now next n u.point m (stands_by now at u.point w.back) ∙ w.back;
    began = w.began ∙ sym (back_moved now next n start m s);
    node = w.node;
    may = w.may;
  }

  waits_moved : (us : List Untried) (nodes : List Node) → Waits j start now us nodes → Waits j start next us nodes
  waits_moved [] [] h = tt
  waits_moved [] (x ∷ nodes) h = absurd h
  waits_moved (u ∷ us) [] h = absurd h
  waits_moved (u ∷ us) (x ∷ nodes) h = (h.0, one_moved h.0 u x h.1, h.2)

  start_moved : Stands next start
  start_moved = stands_moved now next n start m s

-- the top of the stack is the node now, and the search's start stands
pub top_is : (j : Judge) (start : Point) (now : Route) (us : List Untried) (stack : List Node)
    → IsStack j start now us stack → (rest : List Node) × (stack ≡ now.here.node ∷ rest)
top_is j start now us [] h = absurd h
top_is j start now us (n ∷ rest) h = (rest, ap (λ (x : Node). x ∷ rest) h.0)

-- the node now is on top of a search's stack
pub is_on_top : (j : Judge) (start : Point) (now : Route) (us : List Untried) (stack : List Node)
    → IsStack j start now us stack → IsOnTop now.here.node stack
is_on_top j start now us [] h = absurd h
is_on_top j start now us (n ∷ rest) h = sym h.0

-- the point where a search began stands on the route of its stack
pub start_stands : (j : Judge) (start : Point) (now : Route) (us : List Untried) (stack : List Node)
    → IsStack j start now us stack → Stands now start
start_stands j start now us [] h = absurd h
start_stands j start now us (n ∷ rest) h = h.1

-- the stack after each token
module _ (j : Judge) (start : Point) (now next : Route) (us : List Untried) where
  -- after `Two` the decided node is on top of the stack, and the other bit is the next value that waits
  pub two_stack : (at : Point) (var : ℕ) (value : Tern) (b : Bool) (stack : List Node) → IsStack j start now us stack
      → MovesOn now next (decide now.here.node var (tern_of b)) → at ≡ now.here.point → value ≡ tern_of (not b)
      → MayDecide j now.here.node var value
      → IsStack j start next (record { point = at; var = var; value = value } ∷ us) (next_stack stack (token.Two var b))
  two_stack at var value b [] h m is same may = absurd h
  two_stack at var value b (n ∷ nodes) h m is same may =
      let x = decide now.here.node var (tern_of b) in
      let w = waits_here j start now at var value (tern_of (not b)) n is same h.0 may in (
        ap (λ (y : Node). decide y var (tern_of b)) h.0 ∙ sym m.node,
        start_moved j start now next x m h.1,
        (now, one_moved j start now next x m h.1 now _ _ w, h.2),
      )

  -- after `Three` the node with 0 is on top of the stack, and 1 and X are the next values that wait
  pub three_stack : (at : Point) (var : ℕ) (stack : List Node) → IsStack j start now us stack
      → MovesOn now next (decide now.here.node var Zero) → at ≡ now.here.point
      → MayDecide j now.here.node var One → MayDecide j now.here.node var Unk
      → IsStack j start next
      (record { point = at; var = var; value = One } ∷ record { point = at; var = var; value = Unk } ∷ us)
      (next_stack stack (token.Three var))
  three_stack at var [] h m is may may' = absurd h
  three_stack at var (n ∷ nodes) h m is may may' =
      let x = decide now.here.node var Zero in
      let one = waits_here j start now at var One One n is refl h.0 may in
      let unknown = waits_here j start now at var Unk Unk n is refl h.0 may' in (
        ap (λ (y : Node). decide y var Zero) h.0 ∙ sym m.node,
        start_moved j start now next x m h.1,
        (now, one_moved j start now next x m h.1 now _ _ one, (now, unknown, h.2)),
      )

  -- after `Before` the first node of the window under the node is on top of the stack, and the same values wait
  pub before_stack : (stack : List Node) → IsStack j start now us stack → MovesOn now next (under now.here.node)
      → IsStack j start next us (next_stack stack token.Before)
  before_stack [] h m = absurd h
  before_stack (n ∷ nodes) h m =
      let x = under now.here.node in (
        ap under h.0 ∙ sym m.node,
        start_moved j start now next x m h.1,
        waits_moved j start now next x m h.1 us nodes h.2,
      )

-- The stop of the value that waits next, and the stack once it is decided there.
pub record IsNext (j : Judge) (start : Point) (now : Route) (u : Untried) (us : List Untried) (nodes : List Node)
    : Type 0 where
  pub at : Route
  pub back : back_to (stops now) u.point ≡ stops at
  pub began : back_to (stops at) start ≡ back_to (stops now) start
  pub may : MayDecide j at.here.node u.var u.value
  pub stack : (next : Route) → MovesOn at next (decide at.here.node u.var u.value) → IsStack j start next us nodes

-- after `Dead` the stack goes on from the value that waits next, decided at its stop
pub next_is : (j : Judge) (start : Point) (now : Route) (u : Untried) (us : List Untried) (stack : List Node)
    → IsStack j start now (u ∷ us) stack → IsNext j start now u us (next_stack stack token.Dead)
next_is j start now u us [] h = absurd h
next_is j start now u us (n ∷ []) h = absurd h.2
next_is j start now u us (n ∷ x ∷ nodes) h =
    let at = h.2.0 in
    let w = h.2.1 in
    let stands : Stands at start = λ none. h.1 (sym w.began ∙ none) in
    record {
      at = at;
      back = w.back;
      began = w.began;
      may = w.may;
      stack = λ next m.
          let y = decide at.here.node u.var u.value in (
            w.node ∙ sym m.node,
            start_moved j start at next y m stands,
            waits_moved j start at next y m stands us nodes h.2.2,
          );
    }

-- where nothing waits, the stack ends with its top
pub last_is : (j : Judge) (start : Point) (now : Route) (stack : List Node) → IsStack j start now [] stack
    → next_stack stack token.Dead ≡ []
last_is j start now [] h = refl
last_is j start now (n ∷ []) h = refl
last_is j start now (n ∷ x ∷ nodes) h = absurd h.2
