use Rattle.std.proofs.Common.{ℕ, arith}
use Rattle.ht_words.proofs.NumberLaws.{read_is_in, unread_is_none}
use Rattle.ht_words.proofs.number.read_number.Goals as goal

pub returns-in_default : goal.returns-in_default
returns-in_default c =
    let plain = c.if-starts_with.ensures.byte (omega arith) (omega arith) (λ w o finds. finds) in
    let none = unread_is_none _ c.args.text.now plain c.args.least c.args.most c.in_default.field-0
    (omega (arith, c.ranges.most.fits)) c.in_default.ensures.value.0 in
    record { usage = λ _. none; ok = tt }

pub returns : goal.returns
returns c =
    let plain = c.if-starts_with.ensures.byte (omega arith) (omega arith) (λ w o finds. finds) in
    let is = read_is_in ℕ c.args.text.now plain c.args.least c.args.most c.in-Ok.number c.in-Ok.ensures.value.0
    c.if-number-least.false c.if-number-most.false in
    record { usage = λ e. cc; ok = is }
