use Rattle.std.proofs.Common.{◌≡◌, ◌↔◌, ◌∙◌, ℕ, rules, ap, sym, get_or}
use Rattle.std.specs.Prelude.{IsTrue}
use Rattle.std.proofs.lemmas.List.{get_or_default}
use Rattle.ht_tern.specs.declared.tern.Tern.TheVariants.{Zero, Unk}
use Rattle.ht_stems.proofs.pass.has_net_value.Goals as goal

pub returns : goal.returns
returns c =
    let at : get_or c.args.values.now c.index.result Zero ≡ get_or c.args.values.now c.args.net.0 Unk =
    ap (λ (n : ℕ). get_or c.args.values.now n Zero) c.index.ensures
    ∙ get_or_default c.args.values.now c.args.net.0 Zero Unk c.requires in
    let told : IsTrue c.eq.result ↔ (get_or c.args.values.now c.index.result Zero ≡ c.args.value) = search rules in
    (λ yes. sym at ∙ told.0 yes, λ e. told.1 (at ∙ e))
