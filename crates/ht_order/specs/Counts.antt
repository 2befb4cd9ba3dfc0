-- What an order keeps of each block, and when a block may go.
use Rattle.std.specs.Prelude.{◌&&◌, ◌||◌, ℕ, Bool, true, not, if◌then◌else◌}
use Rattle.ht_order.specs.declared.block.Block.{Block}
use Rattle.ht_order.specs.declared.block.Block.TheVariants.{Vectors, OneFrame, Targets, ShortRails, Rails, LongRails, Sets}
use Rattle.ht_order.specs.declared.rate.Rate.{Rate}
use Rattle.ht_order.specs.declared.tally.Tally.{Tally}
use Rattle.ht_order.specs.declared.order.Order.{Order}
use Rattle.ht_order.specs.declared.order.TheConstants.{FED, LONG_RAILS_BELOW, RAILS_BELOW}
use Rattle.ht_order.specs.declared.order.TheConstants as prior
use Rattle.ht_order.specs.Rates.{is_higher, per_unit}
use Rattle.ht_order.specs.Tallies.{is_dry}

-- what is kept of a block
abbrev pub tally_of : Order → Block → Tally
tally_of o Vectors = o.vectors
tally_of o OneFrame = o.one_frame
tally_of o Targets = o.targets
tally_of o ShortRails = o.short_rails
tally_of o Rails = o.rails
tally_of o LongRails = o.long_rails
tally_of o Sets = o.sets

-- A block is over: it has nothing left to ask, or three chunks in a row decided nothing. Sets go on to their end.
abbrev pub is_over : Order → Block → Bool
is_over o Sets = o.sets.done
is_over o block = (tally_of o block).done || is_dry (tally_of o block)

-- what a block counts as before its first chunk, in classes for a unit of work
abbrev pub prior_of : Block → ℕ
prior_of Vectors = 0
prior_of OneFrame = 0
prior_of Targets = prior.TARGETS_PRIOR
prior_of ShortRails = prior.SHORT_RAILS_PRIOR
prior_of Rails = prior.RAILS_PRIOR
prior_of LongRails = prior.LONG_RAILS_PRIOR
prior_of Sets = prior.SETS_PRIOR

-- What a block brought of late, or counts as before its first chunk.
abbrev pub own_rate : Tally → ℕ → Rate
own_rate t classes = if t.tried then t.rate else per_unit classes

-- the higher of two rates
abbrev pub higher_of : Rate → Rate → Rate
higher_of a b = if is_higher b a then b else a

-- What a block brings: what it brought of late. Where other blocks found lists since, bred vectors count as bringing some.
abbrev pub rate_of : Order → Block → Rate
rate_of o Vectors =
    if o.fed then higher_of (own_rate o.vectors (prior_of Vectors)) (per_unit FED)
    else own_rate o.vectors (prior_of Vectors)
rate_of o block = own_rate (tally_of o block) (prior_of block)

-- a block brings fewer classes than these for a unit of work
abbrev pub is_below : Order → Block → ℕ → Bool
is_below o block classes = is_higher (per_unit classes) (rate_of o block)

-- A block takes part: rails with more work do once those with less bring little, or are over.
abbrev pub takes_part : Order → Block → Bool
takes_part o Rails = is_over o ShortRails || is_below o ShortRails RAILS_BELOW
takes_part o LongRails = is_over o Rails || is_below o Rails LONG_RAILS_BELOW
takes_part o block = true

-- a block may go: it isn't over, and takes part
abbrev pub may_go : Order → Block → Bool
may_go o block = not (is_over o block) && takes_part o block
