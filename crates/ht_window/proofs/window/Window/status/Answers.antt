use Rattle.std.proofs.Common.{◌∙◌, ap, sym, inl, inr}
use Rattle.ht_tree.specs.Window.WindowStatus.{status_from}
use Rattle.ht_window.specs.Starts.{start_of}
use Rattle.ht_window.proofs.window.Window.status.Goals as goal

pub returns-in-OneFrame : goal.returns-in-OneFrame
returns-in-OneFrame c =
    let s = c.args.self.now in
    elim c.in-OneFrame.is [
      | inl p ↦ c.difference_status.ensures ∙ ap (status_from s.window s.decisions) (sym (ap start_of p.1)
          ∙ c.start.ensures)
      | inr p ↦ elim p [
        | inl p ↦ c.difference_status.ensures ∙ ap (status_from s.window s.decisions) (sym (ap start_of p)
            ∙ c.start.ensures)
        | inr p ↦ c.difference_status.ensures ∙ ap (status_from s.window s.decisions) (sym (ap start_of p.1)
            ∙ c.start.ensures)
      ]
    ]
