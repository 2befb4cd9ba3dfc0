use Rattle.std.proofs.Common.{[], ◌∷◌, ◌++◌, sym, subst}
use Rattle.std.proofs.lemmas.List.Elements.{All-same, All-push}
use Rattle.ht_window.specs.BaseStates.{BasesState, IsBase}
use Rattle.ht_window.proofs.bases.Bases.keep.Goals as goal

pub invariant_of-self : goal.invariant_of-self
invariant_of-self c = record {
  windows = All-same (IsBase c.self.inside.frame_plan.value.circuit) c.push.new.self.items c.self.inside.windows.items
      c.in_err-push.ensures.items c.self.invariant.windows;
}

pub invariant_of-self-2 : goal.invariant_of-self-2
invariant_of-self-2 c =
    let circuit = c.self.inside.frame_plan.value.circuit in
    let old = c.self.inside.windows.items in
    let base = c.args.base in
    record {
      windows = All-same (IsBase circuit) c.push.new.self.items (old ++ base ∷ []) c.in_ok-push.ensures.items
          (All-push (IsBase circuit) old base c.self.invariant.windows
          (subst (λ (s : BasesState). IsBase s.circuit base) (sym c.self.view_is) c.requires));
    }
