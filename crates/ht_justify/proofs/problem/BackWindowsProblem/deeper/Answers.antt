use Rattle.std.proofs.Common.{◌≡◌, ◌∙◌, ◌++◌, ◌∷◌, ◌-◌, ◌&&◌, [], List, Bool, true, false, rules, ltb, length, refl, sym, ap, subst, arith}
use Rattle.std.proofs.lemmas.Bool.Decides.{nat_tests}
use Rattle.ht_net.specs.Circuit.Netlist.{Netlist}
use Rattle.ht_tree.specs.Walk.Walks.{under}
use Rattle.ht_tree.specs.Window.Nodes.{cube_of}
use Rattle.ht_tree.specs.Record.AimedAttempts.{is_wanting}
use Rattle.ht_search.specs.Routes.{MovesOn}
use Rattle.ht_search.specs.WindowSteps.{route_of, steps_under}
use Rattle.ht_search.proofs.WindowStepLaws.{window_enters}
use Rattle.ht_records.proofs.CubeLaws.{cube_held}
use Rattle.ht_window.specs.States.{WindowState}
use Rattle.ht_justify.specs.BackStates.{BackState, node_here}
use Rattle.ht_justify.specs.Stacks.{decisions_of}
use Rattle.ht_justify.proofs.StackLaws.{decisions_push}
use Rattle.ht_justify.proofs.ProblemLaws.{before_here, circuit_here, wanting_here}
use Rattle.ht_justify.proofs.problem.BackWindowsProblem.deeper.Goals as goal

and_false : (b : Bool) → false ≡ (b && false)
and_false true = refl
and_false false = refl

pub returns-then-left-eq0-clause-told : goal.returns-then-left-eq0-clause-told
returns-then-left-eq0-clause-told c =
    let a = c.self.inside in
    let v = a.above in
    let e = c.if-left-eq0.true in
    let none' : a.limit - length v.items ≡ 0 = omega (arith, e) in
    let none : ltb 0 (a.limit - length v.items) ≡ false = grind (arith, nat_tests) in
    ap (λ (b : Bool). b && is_wanting (cube_of a.circuit.now a.window.decisions)) (sym none)
    ∙ before_here a c.args.self.now c.self.view_is c.self.invariant

pub returns-then-not-is_wanting-clause-told : goal.returns-then-not-is_wanting-clause-told
returns-then-not-is_wanting-clause-told c =
    let a = c.self.inside in
    let s = c.args.self.now in
    let none = sym c.if-not-is_wanting.true
    ∙ (c.is_wanting.ensures
    ∙ wanting_here a s c.self.view_is c.self.invariant _ (c.as_slice.ensures ∙ c.in_ok-cube.ensures)) in
    let front = ltb 0 (a.limit - length a.above.items) in
    and_false front ∙ (ap (λ (b : Bool). front && b) none ∙ before_here a s c.self.view_is c.self.invariant)

pub back_window-requires : goal.back_window-requires
back_window-requires c =
    let a = c.self.inside in
    let w = a.window.window in
    ap length c.in_ok-cube.ensures
    ∙ (cube_held w.circuit a.window.decisions
    ∙ ap (λ (n : Netlist). length n.dffs) (circuit_here a c.args.self.now c.self.view_is c.self.invariant
    ∙ sym c.self.invariant.bases))

pub returns-clause-told : goal.returns-clause-told
returns-clause-told c =
    let a = c.self.inside in
    let s = c.args.self.now in
    let wants = sym c.if-not-is_wanting.false
    ∙ (c.is_wanting.ensures
    ∙ wanting_here a s c.self.view_is c.self.invariant _ (c.as_slice.ensures ∙ c.in_ok-cube.ensures)) in
    let v = a.above in
    let e = c.if-left-eq0.false in
    let some : ltb 0 (a.limit - length v.items) ≡ true = grind (arith, nat_tests) in
    (λ k. (sym some k) && (wants k)) ∙ before_here a s c.self.view_is c.self.invariant

pub returns-clause-more : goal.returns-clause-more
returns-clause-more c = λ e.
    let above = c.self.inside.above.items in
    let ds = c.self.inside.window.decisions in
    let last = c.replace-last.result in
    let all = c.push.new.self.items in
    let now = c.replace-last.new.dest.decisions in
    let pushed = c.in_ok-push.ensures.items
    ∙ ap (λ (xs : List WindowState). xs ++ last ∷ []) c.reserve.ensures.items in
    let each = decisions_push above all last pushed
    ∙ ap (λ (x : WindowState). decisions_of above ++ x.decisions ∷ []) c.replace-last.ensures.value in
    let none = ap (λ (x : WindowState). x.decisions) c.replace-last.ensures.after ∙ c.in_ok-window.ensures.decisions in
    subst (λ (s : BackState).
    MovesOn (route_of (steps_under s.above s.decisions)) (route_of (steps_under (decisions_of all) now))
    (under (node_here s))) c.self.view_is
    (window_enters (decisions_of above) (decisions_of all) ds now each none)

pub returns-in_err-reserve-clause-err : goal.returns-in_err-reserve-clause-err
returns-in_err-reserve-clause-err c =
    let same = ap (λ (xs : List WindowState). route_of (steps_under (decisions_of xs) c.self.inside.window.decisions))
    c.reserve.ensures.items
    ∙ ap (λ (s : BackState). route_of (steps_under s.above s.decisions)) c.self.view_is in
    search (rules, same)
