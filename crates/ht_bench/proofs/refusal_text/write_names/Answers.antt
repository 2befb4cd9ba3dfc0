use Rattle.std.proofs.Common.{◌≡◌, ◌++◌, ◌∷◌, ◌<◌, List, [], ℕ, zero, suc, length, take, drop, get_or, rules, arith, refl, sym, ◌∙◌, ap, codes, append_assoc}
use Rattle.ht_ports.proofs.WroteLaws.{wrote_then, wrote_failed}
use Rattle.ht_net.specs.Build.Named.{Name}
use Rattle.ht_bench.specs.RefusalText.{loop_text}
use Rattle.ht_bench.proofs.refusal_text.write_names.Goals as goal

-- the names up to one, that name, and the names after it
split : (names : List Name) (k : ℕ) (d : Name) → k < length names
    → loop_text names ≡ loop_text (take k names) ++ ((codes " " ++ get_or names k d) ++ loop_text (drop (suc k) names))
split [] k d lt = absurd (omega arith)
split (name ∷ names) zero d lt = refl
split (name ∷ names) (suc k) d lt =
    ap (λ l. (codes " " ++ name) ++ l) (split names k d (omega arith))
    ∙ sym (append_assoc (codes " " ++ name) (loop_text (take k names)) _)

pub returns-in_err-write_pair : goal.returns-in_err-write_pair
returns-in_err-write_pair g c =
    let names = c.args.names.now in
    let k = c.loop-name.name-index in
    let wrote = wrote_then c.loop-name.invariant
    (wrote_failed (loop_text (drop (suc k) names)) c.in_err-write_pair.ensures) in
    let named = rw (c.as_slice.ensures, c.name-item.is) at wrote in
    let whole = rw (← split names k c.name-item.result c.loop-name-test.true) at named in
    search (rules, whole)
