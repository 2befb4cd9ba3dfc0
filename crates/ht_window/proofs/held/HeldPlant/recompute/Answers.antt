use Rattle.std.proofs.Common.{◌≡◌, ◌+◌, ◌∙◌, ℕ, ap, set, subst, sym}
use Rattle.std.proofs.lemmas.Bool.{false≢true}
use Rattle.ht_trail.specs.Trails.{IsLater}
use Rattle.ht_events.specs.Items.{driven_net, item_at}
use Rattle.ht_window.specs.Standing.{Standing}
use Rattle.ht_window.specs.Cells.{cell_index, env_at}
use Rattle.ht_window.specs.Holding.{HeldState, item_agrees}
use Rattle.ht_window.proofs.AgreeLaws.{IsRecomputed, recomputed}
use Rattle.ht_window.proofs.ItemNetLaws.{net_agrees}
use Rattle.ht_window.proofs.held.HeldPlant.recompute.Goals as goal

-- the net of the item with an index in a frame
net_is : (a b : Standing) (inputs l : ℕ) → inputs ≡ a.window.circuit.inputs → a ≡ b
    → inputs + l ≡ driven_net b.window.circuit l
net_is a b inputs l is same = ap (λ (i : ℕ). i + l) (is ∙ ap (λ (s : Standing). s.window.circuit.inputs) same)

-- the item has the value that its arguments give
done : (c : goal.In_ok-set) → IsRecomputed c.args.self.now c.set.new.self
    (item_at c.args.self.now.standing.window.circuit c.args.frame c.args.local)
done c =
    let b = c.set.new.self in
    let d = c.decisions.ensures in
    let f = c.args.frame in
    let x = c.inputs.result + c.args.local in
    let v = c.evaluate-value.result in
    let e = c.evaluate-value.ensures in
    let s = c.in_ok-set.ensures in
    recomputed c.args.self.now b d.window d.count f c.args.local x v c.requires.frame c.requires.local
    (net_is _ _ c.inputs.result c.args.local c.inputs.ensures d.standing) e.value
    (s.standing ∙ ap (λ (h : HeldState). h.standing) e.same) (s.relevant ∙ ap (λ (h : HeldState). h.relevant) e.same)
    (subst (λ (h : HeldState). b.cells.values ≡ set h.cells.values (cell_index h.standing.window f x) v) e.same
    s.values)
    (subst (λ (h : HeldState). IsLater h.cells b.cells) e.same s.later)

-- an item whose cell has the value agrees already
pub returns-then-eq-clause-agrees : goal.returns-then-eq-clause-agrees
returns-then-eq-clause-agrees c =
    let a = c.args.self.now in
    let f = c.args.frame in
    let l = c.args.local in
    let x = c.inputs.result + l in
    let e = c.evaluate-value.ensures in
    let held : env_at a.standing.window a.cells.values f x ≡ c.evaluate-value.result =
    subst (λ (h : HeldState). env_at h.standing.window h.cells.values f x ≡ c.evaluate-value.result) e.same
    (sym c.cell.ensures ∙ c.eq.ensures.same_members.0 c.if-eq.true) in
    subst (λ (h : HeldState). item_agrees h (item_at a.standing.window.circuit f l)) (sym e.same)
    (net_agrees a f l x c.requires.local
    (net_is _ _ c.inputs.result l c.inputs.ensures c.decisions.ensures.standing) (λ m. held ∙ e.value))

-- and so does one whose net doesn't matter
pub returns-then-not-matters-clause-agrees : goal.returns-then-not-matters-clause-agrees
returns-then-not-matters-clause-agrees c =
    let a = c.args.self.now in
    let l = c.args.local in
    let off = c.if-not-matters.true in
    let is = c.matters.ensures in
    net_agrees a c.args.frame l (c.inputs.result + l) c.requires.local
    (net_is _ _ c.inputs.result l c.inputs.ensures c.decisions.ensures.standing)
    (λ m. absurd (false≢true (sym off ∙ (is ∙ m))))

pub returns-clause-keeps : goal.returns-clause-keeps
returns-clause-keeps c = (done c).keeps

pub returns-clause-agrees : goal.returns-clause-agrees
returns-clause-agrees c = (done c).agrees

pub returns-clause-others : goal.returns-clause-others
returns-clause-others c = (done c).others
