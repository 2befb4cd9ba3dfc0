use Rattle.std.proofs.Common.{◌∙◌, sym, ◌≡◌, true, false}
use Rattle.ht_items.specs.Bits.{is_set}
use Rattle.ht_lanes.proofs.LaneLaws.{lane_told}
use Rattle.ht_lanes.proofs.word.Word.lane.Goals as goal

pub returns-then-has_bit : goal.returns-then-has_bit
returns-then-has_bit c =
    let z : is_set c.self.inside.zero c.args.k ≡ true = sym c.has_bit.ensures ∙ c.if-has_bit.true in
    lane_told c.args.self c.self.inside.zero c.self.inside.one c.args.k true (is_set c.self.inside.one c.args.k)
    c.requires c.self.view_is (sym z) (λ i. is_set c.self.inside.one c.args.k)

pub returns-then-has_bit-2 : goal.returns-then-has_bit-2
returns-then-has_bit-2 c =
    let z : is_set c.self.inside.zero c.args.k ≡ false = sym c.has_bit.ensures ∙ c.if-has_bit.false in
    let o : is_set c.self.inside.one c.args.k ≡ true = sym c.has_bit-else-has_bit.ensures ∙ c.if-has_bit-2.true in
    lane_told c.args.self c.self.inside.zero c.self.inside.one c.args.k false true c.requires c.self.view_is (sym z)
    (sym o)

pub returns-else-has_bit-2 : goal.returns-else-has_bit-2
returns-else-has_bit-2 c =
    let z : is_set c.self.inside.zero c.args.k ≡ false = sym c.has_bit.ensures ∙ c.if-has_bit.false in
    let o : is_set c.self.inside.one c.args.k ≡ false = sym c.has_bit-else-has_bit.ensures ∙ c.if-has_bit-2.false in
    lane_told c.args.self c.self.inside.zero c.self.inside.one c.args.k false false c.requires c.self.view_is (sym z)
    (sym o)
