-- Which block goes next.
use Rattle.std.specs.Prelude.{◌≡◌, ◌&&◌, ◌*◌, ◌-◌, ℕ, Bool, true, false, not, nat_lt, if◌then◌else◌, Option, Some, None, MatchOption}
use Rattle.ht_order.specs.declared.block.Block.{Block}
use Rattle.ht_order.specs.declared.block.Block.TheVariants.{Vectors, OneFrame, Targets, ShortRails, Rails, LongRails, Sets}
use Rattle.ht_order.specs.declared.order.Mark.{Mark}
use Rattle.ht_order.specs.declared.order.Order.{Order}
use Rattle.ht_order.specs.Rates.{is_higher}
use Rattle.ht_order.specs.Counts.{is_over, may_go, rate_of, tally_of}

-- the number of a block among all, which settles what counts leave even
abbrev pub block_number : Block → ℕ
block_number Vectors = 0
block_number OneFrame = 1
block_number Targets = 2
block_number ShortRails = 3
block_number Rails = 4
block_number LongRails = 5
block_number Sets = 6

-- the block is the one of sets
abbrev pub is_sets : Block → Bool
is_sets Sets = true
is_sets block = false

-- Of two blocks at the same rate the first goes before: the other one is that of sets; else it has less work so far, or the
-- same and stands before the other among all.
abbrev pub goes_first : Order → Block → Block → Bool
goes_first o a b = if is_sets a then false else if is_sets b then true
    else if nat_lt (tally_of o a).work (tally_of o b).work then true
    else if nat_lt (tally_of o b).work (tally_of o a).work then false
    else nat_lt (block_number a) (block_number b)

-- Block a goes before block b: it has the higher rate, or the same one and goes first.
abbrev pub goes_before : Order → Block → Block → Bool
goes_before o a b = if is_higher (rate_of o a) (rate_of o b) then true
    else if is_higher (rate_of o b) (rate_of o a) then false
    else goes_first o a b

-- Bred vectors had less than half of the work since a mark.
abbrev pub lacks_half : Order → Option Mark → Bool
lacks_half o None = false
lacks_half o (Some mark) = nat_lt (2 * (o.vectors.work - mark.vectors)) (o.all - mark.all)

-- The block that goes whatever the rates: bred vectors at the begin; then one frame, until it is over; and bred vectors
-- where nothing brings much and they had less than half of the work since.
abbrev pub forced_block : Order → Option Block
forced_block o = if not (is_over o Vectors) && not o.vectors.tried then Some Vectors
    else if not (is_over o OneFrame) then Some OneFrame
    else if not (is_over o Vectors) && lacks_half o o.mark then Some Vectors
    else None

-- the best of some blocks may go
abbrev pub Goes : Order → Option Block → Type 0
Goes o None = Unit {0}
Goes o (Some best) = may_go o best ≡ true

-- The best of some blocks covers a block: that one may not go, or doesn't go before it.
abbrev pub Covers : Order → Option Block → Block → Type 0
Covers o None block = may_go o block ≡ false
Covers o (Some best) block = may_go o block ≡ true → goes_before o block best ≡ false

-- By the rates: the block that may go, and that none goes before which may go; none where all are over.
abbrev pub IsBest : Order → Option Block → Type 0
IsBest o None = (block : Block) → is_over o block ≡ true
IsBest o (Some best) =
    (may_go o best ≡ true)
    × ((block : Block) → may_go o block ≡ true → goes_before o block best ≡ false)

-- The block that goes next: the one that goes whatever the rates, else the best by them; none where all are over.
abbrev pub IsNext : Order → Option Block → Type 0
IsNext o next = MatchOption (forced_block o) (IsBest o next) (λ block. next ≡ Some block)
