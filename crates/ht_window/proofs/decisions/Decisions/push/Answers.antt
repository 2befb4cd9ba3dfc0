use Rattle.std.proofs.Common.{◌<◌, ◌∙◌, List, Some, None, ap, sym, get_or, arith, length, subst}
use Rattle.std.proofs.lemmas.List.{length-set, length_push}
use Rattle.ht_tree.specs.declared.token.Assign3.{Assign3}
use Rattle.ht_window.specs.Standing.{Standing, variable_room, IsValueHistory}
use Rattle.ht_window.proofs.ValueLaws.{value_push}
use Rattle.ht_window.proofs.decisions.Decisions.push.Goals as goal

pub invariant_of-self-in-Ok : goal.invariant_of-self-in-Ok
invariant_of-self-in-Ok c =
    let a = c.self.inside in
    let i = c.self.invariant in
    let d : Assign3 = record { var = c.args.var; value = c.args.value } in
    let bound = ap (λ (s : Standing). variable_room s.window) c.self.view_is in
    let r = c.requires in
    let n = i.room in
    let here : c.args.var < length a.values.values = omega (arith, bound, r, n) in
    let e = c.in-Ok.ensures in
    record {
      window = i.window;
      few_frames = i.few_frames;
      room = ap length e.values ∙ (length-set a.values.values c.args.var (Some c.args.value) ∙ n);
      history = subst (λ (p : List Assign3). IsValueHistory c.set.new.self p) (sym c.in_ok-push.ensures.items)
          (value_push a.values c.set.new.self a.path.items d here e.later e.values
          (ap length (e.trail None) ∙ length_push a.values.trail
          (record { index = c.args.var; value = get_or a.values.values c.args.var None })) i.history);
    }
