-- What is kept of a fault, output by output and flip-flop by flip-flop.
use Rattle.std.proofs.Common.{◌≡◌, ◌+◌, ◌∙◌, ◌||◌, ℕ, suc, Bool, true, false, Option, Some, None, refl, sym, ap, arith}
use Rattle.std.specs.Prelude.{if◌then◌else◌, is_some}
use Rattle.std.specs.Option.{option_map, option_or}
use Rattle.ht_tern.specs.declared.tern.Tern.{Tern}
use Rattle.ht_tern.specs.Opposite.{are_opposite}
use Rattle.ht_causes.specs.declared.sightings.Sightings.{Sightings}
use Rattle.ht_causes.specs.Firsts.{least_below}
use Rattle.ht_causes.specs.Compared.{are_unlike, are_unsure, latch_place, output_place}
use Rattle.ht_causes.specs.Kept.{AreLatchesCompared, AreOutputsCompared, or_here, with_latch_pair, with_output_pair}
use Rattle.ht_causes.proofs.LeastLaws.{map_or, or_assoc}

-- nothing more to choose from
pub or_nothing : {X : Type 0} → (a : Option X) → a ≡ option_or a None
or_nothing None = refl
or_nothing (Some x) = refl

map_if : {X : Type 0} → (f : ℕ → X) (b : Bool) (n : ℕ)
    → option_map f (if b then Some n else None) ≡ (if b then Some (f n) else None)
map_if f true n = refl
map_if f false n = refl

-- a bound one higher finds what the lower one does, or the last number
pub least_more : (holds : ℕ → Bool) (n : ℕ)
    → least_below holds (n + 1) ≡ option_or (least_below holds n) (if holds n then Some n else None)
least_more holds n = let e : n + 1 ≡ suc n = omega arith in ap (least_below holds) e

-- the first that was found, or else the first below n, and one number more
pub found_more : {X : Type 0} → (place : ℕ → X) (holds : ℕ → Bool) (n : ℕ) (old k : Option X) (b : Bool)
    → k ≡ option_or old (option_map place (least_below holds n)) → b ≡ holds n
    → or_here k b (place n) ≡ option_or old (option_map place (least_below holds (n + 1)))
found_more {X} place holds n old k b is test =
    let before = least_below holds n in
    let last : Option ℕ = if holds n then Some n else None in
    ap (λ (q : Option X). or_here q b (place n)) is
    ∙ (ap (λ (q : Bool). or_here (option_or old (option_map place before)) q (place n)) test
    ∙ (or_assoc old (option_map place before) (if holds n then Some (place n) else None)
    ∙ (ap (λ (q : Option X). option_or old (option_or (option_map place before) q)) (sym (map_if place (holds n) n))
    ∙ (ap (option_or old) (sym (map_or place before last))
    ∙ ap (λ (q : Option ℕ). option_or old (option_map place q)) (sym (least_more holds n))))))

-- the first number that was found, and one more
pub here_more : (holds : ℕ → Bool) (n : ℕ) (k : Option ℕ) (b : Bool) → k ≡ least_below holds n → b ≡ holds n
    → or_here k b n ≡ least_below holds (n + 1)
here_more holds n k b is test =
    ap (λ (q : Option ℕ). or_here q b n) is
    ∙ (ap (λ (q : Bool). or_here (least_below holds n) q n) test ∙ sym (least_more holds n))

some_or : (a : Option ℕ) (b : Bool) (n : ℕ)
    → is_some a || b ≡ is_some (option_or a (if b then Some n else None))
some_or None true n = refl
some_or None false n = refl
some_or (Some x) b n = refl

-- whether one was found, and one more
pub some_more : (holds : ℕ → Bool) (n : ℕ) (k b : Bool) → k ≡ is_some (least_below holds n) → b ≡ holds n
    → k || b ≡ is_some (least_below holds (n + 1))
some_more holds n k b is test =
    ap (λ (q : Bool). q || b) is
    ∙ (ap (λ (q : Bool). is_some (least_below holds n) || q) test
    ∙ (some_or (least_below holds n) (holds n) n
    ∙ ap (λ (q : Option ℕ). is_some q) (sym (least_more holds n))))

-- ---- outputs

pub no_outputs : (t : ℕ) (good faulty : ℕ → Tern) (kept : Sightings) → AreOutputsCompared t 0 good faulty kept kept
no_outputs t good faulty kept = record {
  detected = or_nothing kept.detected;
  possible = or_nothing kept.possible;
  stored = refl;
  excited = refl;
  told = refl;
}

pub output_more : (t n : ℕ) (good faulty : ℕ → Tern) (old kept new : Sightings) (g f : Tern)
    → AreOutputsCompared t n good faulty old kept → new ≡ with_output_pair (output_place t n) g f kept
    → g ≡ good n → f ≡ faulty n → AreOutputsCompared t (n + 1) good faulty old new
output_more t n good faulty old kept new g f before is at_good at_faulty = record {
  detected =
      ap (λ (k : Sightings). k.detected) is
      ∙ found_more (output_place t) (λ o. are_opposite (good o) (faulty o)) n old.detected kept.detected
      (are_opposite g f) before.detected
      (ap (λ (v : Tern). are_opposite v f) at_good ∙ ap (are_opposite (good n)) at_faulty);
  possible =
      ap (λ (k : Sightings). k.possible) is
      ∙ found_more (output_place t) (λ o. are_unsure (good o) (faulty o)) n old.possible kept.possible
      (are_unsure g f) before.possible
      (ap (λ (v : Tern). are_unsure v f) at_good ∙ ap (are_unsure (good n)) at_faulty);
  stored = ap (λ (k : Sightings). k.stored) is ∙ before.stored;
  excited = ap (λ (k : Sightings). k.excited) is ∙ before.excited;
  told = ap (λ (k : Sightings). k.told) is ∙ before.told;
}

-- ---- flip-flops

pub no_latches : (t : ℕ) (good faulty : ℕ → Tern) (kept : Sightings) → AreLatchesCompared t 0 good faulty kept kept
no_latches t good faulty kept = record {
  stored = or_nothing kept.stored;
  detected = refl;
  possible = refl;
  excited = refl;
  told = refl;
}

pub latch_more : (t n : ℕ) (good faulty : ℕ → Tern) (old kept new : Sightings) (g f : Tern)
    → AreLatchesCompared t n good faulty old kept → new ≡ with_latch_pair (latch_place t n) g f kept
    → g ≡ good n → f ≡ faulty n → AreLatchesCompared t (n + 1) good faulty old new
latch_more t n good faulty old kept new g f before is at_good at_faulty = record {
  stored =
      ap (λ (k : Sightings). k.stored) is
      ∙ found_more (latch_place t) (λ j. are_unlike (good j) (faulty j)) n old.stored kept.stored
      (are_unlike g f) before.stored
      (ap (λ (v : Tern). are_unlike v f) at_good ∙ ap (are_unlike (good n)) at_faulty);
  detected = ap (λ (k : Sightings). k.detected) is ∙ before.detected;
  possible = ap (λ (k : Sightings). k.possible) is ∙ before.possible;
  excited = ap (λ (k : Sightings). k.excited) is ∙ before.excited;
  told = ap (λ (k : Sightings). k.told) is ∙ before.told;
}
