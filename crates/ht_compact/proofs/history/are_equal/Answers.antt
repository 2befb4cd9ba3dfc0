use Rattle.std.proofs.Common.{◌≡◌, length, arith}
use Rattle.std.proofs.lemmas.List.{ext_get_or}
use Rattle.ht_tern.specs.declared.tern.Tern.TheVariants.{Unk}
use Rattle.ht_compact.proofs.history.are_equal.Goals as goal

pub returns : goal.returns
returns c = λ is.
    let long : length c.args.some.now ≡ length c.args.others.now = omega (arith, c.if-some-others.false) in
    ext_get_or (record { latch = 0; value = Unk }) c.args.some.now c.args.others.now long (λ k less.
    c.loop-i.invariant k (record { latch = 0; value = Unk }) (omega (arith, less, c.loop-i-test.false)))
