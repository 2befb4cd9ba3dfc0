-- What the windows of a search back say of the node where the deepest of them stands.
use Rattle.std.proofs.Common.{◌≡◌, ◌<◌, ◌-◌, ◌++◌, ◌&&◌, ℕ, List, [], ◌∷◌, reverse, false, ltb, length, get_or, sym, ◌∙◌, ap, subst, arith}
use Rattle.std.proofs.lemmas.List.{reverse-append, length-map, length-reverse, get_or-map, get_or-reverse}
use Rattle.ht_tern.specs.declared.tern.Tern.{Tern}
use Rattle.ht_net.specs.Circuit.Netlist.{Netlist}
use Rattle.ht_tree.specs.declared.token.Assign3.{Assign3}
use Rattle.ht_tree.specs.declared.token.Choice.{Choice}
use Rattle.ht_tree.specs.declared.token.Status3.TheVariants as status3
use Rattle.ht_tree.specs.Walk.Walks.{Node, Fits, decides, path_of}
use Rattle.ht_tree.specs.Walk.Searches.{guide_of, deciding_token}
use Rattle.ht_tree.specs.Window.Windows.{SearchWindow, back_window}
use Rattle.ht_tree.specs.Window.WindowStatus.{status_at, without_place}
use Rattle.ht_tree.specs.Window.Variables.{IsLegalChoice}
use Rattle.ht_tree.specs.Window.Nodes.{cube_of, may_go_before, window_at}
use Rattle.ht_tree.specs.Window.WalkBack.{pick_of}
use Rattle.ht_tree.specs.Record.AimedAttempts.{is_wanting}
use Rattle.ht_search.specs.Legal.{MayDecide}
use Rattle.ht_search.proofs.WindowStepLaws.{window_path}
use Rattle.ht_window.specs.States.{WindowState, IsLegalDecision}
use Rattle.ht_window.proofs.NodeLaws.{status_is, choice_is, choice_fits, before_is, decision_undecided, decision_legal}
use Rattle.ht_justify.specs.declared.back_windows.BackWindows.TheInside.{Inside}
use Rattle.ht_justify.specs.BackStates.{BackState, IsStacked, node_here, back_state}
use Rattle.ht_justify.specs.Stacks.{AreUnder, decisions_of, window_under}
use Rattle.ht_justify.proofs.StackLaws.{IsBackOf, back_at, decisions_reverse, under_all}

module _ (a : Inside) (s : BackState) (is : back_state a ≡ s) (stacked : IsStacked a) where
  abbrev deepest : SearchWindow
  deepest = a.window.window

  abbrev path : List Assign3
  path = a.window.decisions

  abbrev pub here : Node
  here = node_here s

  stands_at : window_at s.first here ≡ deepest
  stands_at =
      let c = a.circuit.now in
      let above = decisions_of a.above.items in
      subst (λ (s : BackState). window_at s.first (node_here s) ≡ deepest) is
      ((under_all c a.cube.now a.limit above path).window
      ∙ (ap (window_under c a.cube.now a.limit) (sym (decisions_reverse a.above.items)) ∙ sym stacked.under.0))

  path_is : path_of here ≡ path
  path_is = window_path s.above s.decisions ∙ ap (λ (s : BackState). s.decisions) (sym is)

  -- the status of the deepest window is the status that the guide gives its node
  pub status_here : without_place (status_at deepest path) ≡ (guide_of s.first).judge.status here
  status_here = status_is s.first deepest here path stands_at path_is

  -- the variable that is picked in the deepest window is the one that the guide picks at its node
  pub choice_here : pick_of deepest path ≡ (guide_of s.first).choice here
  choice_here = choice_is s.first deepest here path stands_at path_is

  -- at an open node the token of a legal choice in the deepest window fits
  pub choice_fits_here : (chosen : Choice) → (guide_of s.first).judge.status here ≡ status3.Open
      → IsLegalChoice deepest path chosen → Fits (guide_of s.first).judge here (deciding_token chosen)
  choice_fits_here = choice_fits s.first deepest here path stands_at path_is

  -- a variable that may be decided at the node isn't decided in the deepest window
  pub undecided_here : (var : ℕ) (value : Tern) → MayDecide (guide_of s.first).judge here var value
      → decides path var ≡ false
  undecided_here = decision_undecided s.first deepest here path stands_at path_is

  -- what may be decided at the node is a legal decision in the deepest window
  pub legal_here : (var : ℕ) (value : Tern) → MayDecide (guide_of s.first).judge here var value
      → IsLegalDecision deepest var value
  legal_here = decision_legal s.first deepest here path stands_at path_is

  -- the deepest window is one of the circuit that is searched
  pub circuit_here : deepest.circuit ≡ a.circuit.now
  circuit_here = ap (λ (w : SearchWindow). w.circuit) stacked.under.0

  -- whether the cube that the deepest window decided wants something
  pub wanting_here : (cube : List Tern) → cube ≡ cube_of deepest.circuit path
      → is_wanting cube ≡ is_wanting (cube_of a.circuit.now path)
  wanting_here cube is = ap is_wanting (is ∙ ap (λ (n : Netlist). cube_of n path) circuit_here)

  -- as many windows stand above as have their decisions above
  above_count : length a.above.items ≡ length (decisions_of (reverse a.above.items))
  above_count =
      let above = a.above.items in
      sym (length-map (reverse above) (λ (s : WindowState). s.decisions) ∙ length-reverse above)

  -- `Before` fits where a frame is left and the window decided a latch to 0 or 1
  pub before_here : (ltb 0 (a.limit - length a.above.items) && is_wanting (cube_of a.circuit.now path))
      ≡ (guide_of s.first).judge.before here
  before_here =
      ap (λ (n : ℕ). ltb 0 (a.limit - n) && is_wanting (cube_of a.circuit.now path)) above_count
      ∙ (ap (λ (w : SearchWindow). may_go_before w path) (sym stacked.under.0)
      ∙ before_is s.first deepest here path stands_at path_is)

  -- a window above: it is of the first one's circuit, has one frame, and its decisions are in the state
  pub window_above : (k : ℕ) (x : WindowState) → x ≡ get_or a.above.items k x → k < length a.above.items
      → IsBackOf s.first.circuit x.window × (get_or s.above k [] ≡ x.decisions)
  window_above k x at l =
      let above = a.above.items in
      let n = length-reverse above in
      let last = length above - 1 - k in
      let same : length above - 1 - last ≡ k = omega (arith, l) in
      let back = back_at a.circuit.now a.cube.now a.limit (reverse above) stacked.under.1 last x
      (omega (arith, l, n)) in
      let here : get_or (reverse above) last x ≡ x =
      get_or-reverse above last x (omega (arith, l)) ∙ (ap (λ (i : ℕ). get_or above i x) same ∙ sym at) in (
        (
          (λ j. (sym here j).window.circuit) ∙ (back.0 ∙ ap (λ (s : BackState). s.first.circuit) is),
          (λ j. (sym here j).window.frames) ∙ back.1,
        ),
        ap (λ (s : BackState). get_or s.above k []) (sym is)
            ∙ (get_or-map (λ (s : WindowState). s.decisions) above k x [] l ∙ (λ j. (sym at j).decisions)),
      )
