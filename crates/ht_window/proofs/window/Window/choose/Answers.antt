use Rattle.std.proofs.Common.{◌≡◌, ◌∙◌, List, ap, sym, inl, inr}
use Rattle.ht_tern.specs.declared.tern.Tern.{Tern}
use Rattle.ht_tree.specs.declared.window.Status.TheVariants.{Open}
use Rattle.ht_tree.specs.Window.Windows.{back}
use Rattle.ht_tree.specs.Window.WindowStatus.{difference_status, status_from, cube_status, cube_latches}
use Rattle.ht_tree.proofs.BeginLaws.{found_place_walks, found_latch_walks}
use Rattle.ht_window.specs.Starts.{start_of}
use Rattle.ht_window.specs.Seen.{cube_seen_of}
use Rattle.ht_window.specs.declared.cube.CubeSeen.{CubeSeen}
use Rattle.ht_window.proofs.window.Window.choose.Goals as goal

pub from_latch-requires-clause-walks : goal.from_latch-requires-clause-walks
from_latch-requires-clause-walks c =
    let s = c.args.self.now in
    let valid = c.circuit.ensures.valid in
    let start : start_of c.start.result.now ≡ s.window.start = c.start.ensures in
    let back : back c.in-Back.cube c.in-Back.limit ≡ s.window.start = sym (ap start_of c.in-Back.is) ∙ start in
    let h : cube_status s.window s.decisions c.in-Back.cube c.in-Back.limit
    (cube_latches s.window.circuit c.in-Back.cube) ≡ Open =
    ap (status_from s.window s.decisions) back ∙ c.requires in
    let seen : c.see_cube.result ≡ cube_seen_of s.window s.decisions c.in-Back.cube
    (cube_latches s.window.circuit c.in-Back.cube) =
    c.see_cube.ensures ∙ ap
    (λ (cube : List Tern). cube_seen_of s.window s.decisions cube (cube_latches s.window.circuit cube))
    c.as_slice-in-Back.ensures in
    λ j is. found_latch_walks s.window s.decisions valid c.in-Back.cube c.in-Back.limit h j
    (sym (ap (λ (s : CubeSeen). s.undetermined_latch) seen) ∙ is)

pub from_place-requires-clause-walks : goal.from_place-requires-clause-walks
from_place-requires-clause-walks c =
    let s = c.args.self.now in
    let valid = c.circuit.ensures.valid in
    let start : start_of c.start.result.now ≡ s.window.start = c.start.ensures in
    let h : difference_status s.window s.decisions ≡ Open = elim c.in-OneFrame.is [
      | inl p ↦ ap (status_from s.window s.decisions) (sym (ap start_of p.1) ∙ start) ∙ c.requires
      | inr p ↦ elim p [
        | inl p ↦ ap (status_from s.window s.decisions) (sym (ap start_of p) ∙ start) ∙ c.requires
        | inr p ↦ ap (status_from s.window s.decisions) (sym (ap start_of p.1) ∙ start) ∙ c.requires
      ]
    ] in
    λ p is. found_place_walks s.window s.decisions valid h p (sym c.first_place.ensures.first ∙ is)
