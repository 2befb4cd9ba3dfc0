-- How an overlay's fields stand for it: a word that wasn't written has its good value in every lane.
use Rattle.std.specs.Prelude.{◌≡◌, ◌<◌, ◌^◌, ℕ, false, length, get_or}
use Rattle.ht_group.specs.Overlays.{IsGoodWord}
use Rattle.ht_group.specs.declared.overlay.Overlay.TheInside.{Inside}

-- Where no word was written, a net holds the good machine's value in each lane.
pub record IsOverlay (a : Inside) : Type 0 where
  pub few : length a.good.items < 2 ^ 32
  pub count : length a.words.items ≡ length a.good.items
  pub marks : length a.written ≡ length a.good.items
  pub rest : (x : ℕ) → x < length a.good.items → get_or a.written x false ≡ false
      → IsGoodWord a.good.items a.words.items x
