use Rattle.std.proofs.Common.{◌≡◌, ◌∙◌, ap, sym, refl, length, List, arith}
use Rattle.std.proofs.lemmas.List.{length_push, length-map}
use Rattle.ht_search.specs.Routes.{stops}
use Rattle.ht_search.proofs.WindowBackLaws.{window_leaves, window_back, stands_level, stands_mark}
use Rattle.ht_window.specs.States.{WindowState}
use Rattle.ht_justify.specs.Stacks.{decisions_of, route_at}
use Rattle.ht_justify.proofs.StackLaws.{decisions_push, under_last}
use Rattle.ht_justify.proofs.back_windows.go_back.Goals as goal

count : (states : List WindowState) → length (decisions_of states) ≡ length states
count states = length-map states (λ (s : WindowState). s.decisions)

pub loop-above-init : goal.loop-above-init
loop-above-init c =
    let a = c.args.above.now.items in
    record {
      back = refl;
      level =
          let h = stands_level (decisions_of a) c.args.window.now.decisions c.args.point c.requires in
          let n = count a in
          omega (arith, h, n);
      under = λ n cube limit h. h;
      few = omega arith;
    }

pub loop-above-preserved : goal.loop-above-preserved
loop-above-preserved c =
    let all = c.loop-above.above.items in
    let rest = c.pop.new.self.items in
    let last = c.in-Some.last in
    let n = count all in
    let k = ap length c.in-Some.ensures.items ∙ length_push rest last in
    let i = c.loop-above.invariant in
    let v = c.loop-above.above in
    let test = c.loop-above-test.true in
    rw c.replace.ensures.after (record {
      back =
          sym (window_leaves (decisions_of rest) (decisions_of all) last.decisions c.loop-above.window.decisions
          c.args.point (decisions_push rest all last c.in-Some.ensures.items) (omega (arith, n, test)))
          ∙ i.back;
      level = omega (arith, k, test);
      under = λ circuit cube limit h. under_last circuit cube limit rest all last c.loop-above.window
          c.in-Some.ensures.items (i.under circuit cube limit h);
      few = let f = i.few in omega (arith, k, f);
    })

pub undo_to-requires : goal.undo_to-requires
undo_to-requires c =
    let i = c.loop-above.invariant in
    let n = count c.loop-above.above.items in
    let v = c.loop-above.above in
    let test = c.loop-above-test.false in
    let l = i.level in
    stands_mark (decisions_of c.loop-above.above.items) c.loop-above.window.decisions c.args.point
    (λ none. c.requires (sym i.back ∙ none)) (omega (arith, n, test, l))

pub returns-clause-route : goal.returns-clause-route
returns-clause-route c =
    let all = decisions_of c.loop-above.above.items in
    let i = c.loop-above.invariant in
    let n = count c.loop-above.above.items in
    let v = c.loop-above.above in
    let test = c.loop-above-test.false in
    let l = i.level in
    ap (λ (s : WindowState). stops (route_at c.loop-above.above.items s)) c.undo_to.ensures
    ∙ (window_back all c.loop-above.window.decisions c.args.point (λ none. c.requires (sym i.back ∙ none))
    (omega (arith, n, test, l))
    ∙ i.back)

pub returns-clause-under : goal.returns-clause-under
returns-clause-under c = λ circuit cube limit h.
    let under = c.loop-above.invariant.under circuit cube limit h in
    (ap (λ (s : WindowState). s.window) c.undo_to.ensures ∙ under.0, under.1)
