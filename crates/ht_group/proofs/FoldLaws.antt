-- A fold over the values of nets.
use Rattle.std.proofs.Common.{◌≡◌, ◌<◌, ◌+◌, ◌-◌, ◌∙◌, ℕ, List, length, get_or, take, drop, ap, sym, arith}
use Rattle.std.proofs.lemmas.Grind.{get_or_after_one}
use Rattle.std.proofs.lemmas.List.{drop_more, get_or-take}
use Rattle.ht_tern.specs.Gate.{folded}
use Rattle.ht_net.specs.declared.net.NetId.{NetId}
use Rattle.ht_net.specs.Circuit.Netlist.{no_net}
use Rattle.ht_net.specs.Frames.Frame.{values_at}

-- one more net is folded in
pub fold_next : {V : Type 0} → (op : V → V → V) (env : ℕ → V) (items : List NetId) (i : ℕ) (value next : V)
    → i < length items → next ≡ op value (env (get_or items i no_net).0)
    → folded op next (values_at env (drop (i + 1) items)) ≡ folded op value (values_at env (drop i items))
fold_next op env items i value next inside is =
    let more = drop_more items i no_net inside in
    ap (λ v. folded op v (values_at env (drop (i + 1) items))) is
    ∙ ap (λ (l : List NetId). folded op value (values_at env l)) (sym more)

-- a net that a gate reads after its first
pub later_known : (args : List NetId) (count k net : ℕ)
    → ((i : ℕ) → i < length args → (get_or args i no_net).0 < count) → k < length args - 1
    → net ≡ (get_or (take (length args - 1) (drop 1 args)) k no_net).0 → net < count
later_known args count k net known below is =
    let same = ap (λ (x : NetId). x.0)
    (get_or-take (length args - 1) (drop 1 args) k no_net below ∙ get_or_after_one args k no_net) in
    let inside = known (1 + k) (omega (arith, below)) in
    omega (arith, is, same, inside)
