-- The block that none goes before.
use Rattle.std.proofs.Common.{◌≡◌, ◌≤◌, ◌∙◌, ◌&&◌, ◌||◌, ℕ, Bool, true, false, not, cond, ltb, ap, sym, refl, arith, Option, Some, None}
use Rattle.std.proofs.lemmas.Bool.{le-ltb, lt-ltb, ltb-false, ltb-true}
use Rattle.std.proofs.lemmas.Grind.{common_steps}
use Rattle.ht_order.specs.declared.block.Block.{Block}
use Rattle.ht_order.specs.declared.block.Block.TheVariants.{Vectors, OneFrame, Targets, ShortRails, Rails, LongRails, Sets}
use Rattle.ht_order.specs.declared.order.Order.{Order}
use Rattle.ht_order.specs.declared.order.TheConstants.{LONG_RAILS_BELOW, RAILS_BELOW}
use Rattle.ht_order.specs.Rates.{is_higher}
use Rattle.ht_order.specs.Counts.{is_below, is_over, may_go, rate_of, takes_part, tally_of}
use Rattle.ht_order.specs.NextBlocks.{Covers, Goes, IsBest, block_number, goes_before, goes_first, is_sets}
use Rattle.ht_order.proofs.RateLaws.{higher_one_way, not_higher_itself, not_higher_twice}

-- ---- one test, and then another where the first says nothing either way

never : true ≡ false → ⊥
never is = cc

-- by two tests: the first of a pair goes before, the second does, or the second test says so
abbrev by_tests : Bool → Bool → Bool → Bool
by_tests h g f = cond h true (cond g false f)

-- the second doesn't go before by the first test
not_after : (h g f : Bool) → by_tests h g f ≡ true → (h ≡ true → g ≡ false) → g ≡ false
not_after true g f goes one_way = one_way refl
not_after false true f goes one_way = absurd (never (sym goes))
not_after false false f goes one_way = refl

-- where the first test says nothing, the second does
by_second : (h g f : Bool) → by_tests h g f ≡ true → h ≡ false → f ≡ true
by_second true g f goes even = absurd (never even)
by_second false true f goes even = absurd (never (sym goes))
by_second false false f goes even = goes

-- a pair goes before by both tests
by_both : (h g f : Bool) → g ≡ false → (h ≡ false → f ≡ true) → by_tests h g f ≡ true
by_both true g f even second = refl
by_both false true f even second = absurd (never even)
by_both false false f even second = second refl

-- nothing goes before itself by two tests
not_itself : (h f : Bool) → h ≡ false → f ≡ false → by_tests h h f ≡ false
not_itself true f even second = absurd (never even)
not_itself false f even second = second

-- what isn't true is false
only_false : (b : Bool) → (b ≡ true → ⊥) → b ≡ false
only_false true wrong = absurd (wrong refl)
only_false false wrong = refl

-- ---- of two blocks at the same rate

-- less work, or the same and the lower number
numbers_twice : (u v w l m n : ℕ) → by_tests (ltb u v) (ltb v u) (ltb l m) ≡ true
    → by_tests (ltb v w) (ltb w v) (ltb m n) ≡ true → by_tests (ltb u w) (ltb w u) (ltb l n) ≡ true
numbers_twice u v w l m n first second =
    let not_vu = not_after (ltb u v) (ltb v u) (ltb l m) first (λ is. le-ltb v u (omega (arith, ltb-true u v is))) in
    let not_wv = not_after (ltb v w) (ltb w v) (ltb m n) second (λ is. le-ltb w v (omega (arith, ltb-true v w is))) in
    let u_v : u ≤ v = ltb-false v u not_vu in
    let v_w : v ≤ w = ltb-false w v not_wv in
    by_both (ltb u w) (ltb w u) (ltb l n) (le-ltb w u (omega (arith, u_v, v_w)))
    (λ even. lt-ltb l n (omega (
      arith,
      ltb-true l m (by_second (ltb u v) (ltb v u) (ltb l m) first
          (le-ltb u v (omega (arith, v_w, ltb-false u w even)))),
      ltb-true m n (by_second (ltb v w) (ltb w v) (ltb m n) second
          (le-ltb v w (omega (arith, u_v, ltb-false u w even)))),
    )))

-- sets last
sets_twice : (r s t ab bc ac : Bool) → cond r false (cond s true ab) ≡ true → cond s false (cond t true bc) ≡ true
    → (ab ≡ true → bc ≡ true → ac ≡ true) → cond r false (cond t true ac) ≡ true
sets_twice true s t ab bc ac first second both = absurd (never (sym first))
sets_twice false true t ab bc ac first second both = absurd (never (sym second))
sets_twice false false true ab bc ac first second both = refl
sets_twice false false false ab bc ac first second both = both first second

sets_itself : (s f : Bool) → f ≡ false → cond s false (cond s true f) ≡ false
sets_itself true f none = refl
sets_itself false f none = none

first_twice : (o : Order) (a b c : Block) → goes_first o a b ≡ true → goes_first o b c ≡ true
    → goes_first o a c ≡ true
first_twice o a b c first second =
    sets_twice (is_sets a) (is_sets b) (is_sets c)
    (by_tests (ltb (tally_of o a).work (tally_of o b).work) (ltb (tally_of o b).work (tally_of o a).work)
    (ltb (block_number a) (block_number b)))
    (by_tests (ltb (tally_of o b).work (tally_of o c).work) (ltb (tally_of o c).work (tally_of o b).work)
    (ltb (block_number b) (block_number c)))
    (by_tests (ltb (tally_of o a).work (tally_of o c).work) (ltb (tally_of o c).work (tally_of o a).work)
    (ltb (block_number a) (block_number c)))
    first second
    (numbers_twice (tally_of o a).work (tally_of o b).work (tally_of o c).work
    (block_number a) (block_number b) (block_number c))

not_first_itself : (o : Order) (a : Block) → goes_first o a a ≡ false
not_first_itself o a =
    let work = (tally_of o a).work in
    sets_itself (is_sets a) (by_tests (ltb work work) (ltb work work) (ltb (block_number a) (block_number a)))
    (not_itself (ltb work work) (ltb (block_number a) (block_number a)) (le-ltb work work (omega arith))
    (le-ltb (block_number a) (block_number a) (omega arith)))

-- ---- of any two

-- Where a goes before b, and b before c, a goes before c.
pub goes_before_twice : (o : Order) (a b c : Block) → goes_before o a b ≡ true → goes_before o b c ≡ true
    → goes_before o a c ≡ true
goes_before_twice o a b c first second =
    let ra = rate_of o a in
    let rb = rate_of o b in
    let rc = rate_of o c in
    let ba = not_after (is_higher ra rb) (is_higher rb ra) (goes_first o a b) first (higher_one_way ra rb) in
    let cb = not_after (is_higher rb rc) (is_higher rc rb) (goes_first o b c) second (higher_one_way rb rc) in
    by_both (is_higher ra rc) (is_higher rc ra) (goes_first o a c) (not_higher_twice ra rb rc ba cb)
    (λ even. first_twice o a b c
    (by_second (is_higher ra rb) (is_higher rb ra) (goes_first o a b) first (not_higher_twice rb rc ra cb even))
    (by_second (is_higher rb rc) (is_higher rc rb) (goes_first o b c) second (not_higher_twice rc ra rb even ba)))

-- No block goes before itself.
pub not_before_itself : (o : Order) (a : Block) → goes_before o a a ≡ false
not_before_itself o a =
    not_itself (is_higher (rate_of o a) (rate_of o a)) (goes_first o a a) (not_higher_itself (rate_of o a))
    (not_first_itself o a)

-- ---- the best so far

-- Where a block goes before the best so far, it covers what that one does.
pub covers_more : (o : Order) (best block : Block) → goes_before o block best ≡ true
    → (other : Block) → Covers o (Some best) other → Covers o (Some block) other
covers_more o best block goes other covered may =
    only_false (goes_before o other block)
    (λ is. never (sym (goes_before_twice o other block best is goes) ∙ covered may))

-- what may not go though it takes part is over
over_of : (over part : Bool) → (not over && part) ≡ false → part ≡ true → over ≡ true
over_of true part none takes = refl
over_of false part none takes = absurd (never (sym takes ∙ none))

-- no block may go
abbrev NoneMayGo : Order → Type 0
NoneMayGo o = (block : Block) → may_go o block ≡ false

short_over : (o : Order) → NoneMayGo o → is_over o ShortRails ≡ true
short_over o none = over_of (is_over o ShortRails) true (none ShortRails) refl

rails_over : (o : Order) → NoneMayGo o → is_over o Rails ≡ true
rails_over o none =
    over_of (is_over o Rails) (takes_part o Rails) (none Rails)
    (ap (λ over. over || is_below o ShortRails RAILS_BELOW) (short_over o none))

long_over : (o : Order) → NoneMayGo o → is_over o LongRails ≡ true
long_over o none =
    over_of (is_over o LongRails) (takes_part o LongRails) (none LongRails)
    (ap (λ over. over || is_below o Rails LONG_RAILS_BELOW) (rails_over o none))

-- Where no block may go, all are over.
all_over : (o : Order) → NoneMayGo o → (block : Block) → is_over o block ≡ true
all_over o none Vectors = over_of (is_over o Vectors) true (none Vectors) refl
all_over o none OneFrame = over_of (is_over o OneFrame) true (none OneFrame) refl
all_over o none Targets = over_of (is_over o Targets) true (none Targets) refl
all_over o none ShortRails = short_over o none
all_over o none Rails = rails_over o none
all_over o none LongRails = long_over o none
all_over o none Sets = over_of (is_over o Sets) true (none Sets) refl

-- What covers each block and may go is the best.
pub best_of : (o : Order) (best : Option Block) → Goes o best → ((block : Block) → Covers o best block)
    → IsBest o best
best_of o None goes covers = all_over o covers
best_of o (Some best) goes covers = (goes, covers)

-- What covers each of the seven covers all.
pub covers_all : (o : Order) (best : Option Block) → Covers o best Vectors → Covers o best OneFrame
    → Covers o best Targets → Covers o best ShortRails → Covers o best Rails → Covers o best LongRails
    → Covers o best Sets → (block : Block) → Covers o best block
covers_all o best a b c d e f g Vectors = a
covers_all o best a b c d e f g OneFrame = b
covers_all o best a b c d e f g Targets = c
covers_all o best a b c d e f g ShortRails = d
covers_all o best a b c d e f g Rails = e
covers_all o best a b c d e f g LongRails = f
covers_all o best a b c d e f g Sets = g

pub ruleset better_rules = (common_steps, covers_more, not_before_itself)

pub ruleset best_rules = (common_steps, best_of, covers_all)
