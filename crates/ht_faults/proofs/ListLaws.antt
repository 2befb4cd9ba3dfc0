-- The faults of a list of sites, by number.
use Rattle.std.proofs.Common.{◌≡◌, ◌<◌, ◌+◌, ◌*◌, ◌/◌, ◌%◌, ℕ, zero, suc, List, [], ◌∷◌, length, get_or, take, refl, sym, ◌∙◌, ap, arith}
use Rattle.std.specs.List.{flat_map}
use Rattle.std.proofs.lemmas.List.{length-take-le}
use Rattle.std.proofs.lemmas.List.Concat.{get_or-flat_map}
use Rattle.ht_net.specs.declared.fault.Site.{Site}
use Rattle.ht_net.specs.declared.fault.Fault.{Fault}
use Rattle.ht_faults.specs.Sites.{site_faults}

-- two faults for each site
pub faults_count : (sites : List Site) → length (flat_map site_faults sites) ≡ 2 * length sites
faults_count [] = refl
faults_count (s ∷ sites) = omega (arith, faults_count sites)

-- The fault at place 2 * k + j is the j-th at site k.
at_site : (sites : List Site) (k j : ℕ) (s : Site) (d : Fault) → k < length sites → j < 2
    → get_or (flat_map site_faults sites) (2 * k + j) d ≡ get_or (site_faults (get_or sites k s)) j d
at_site sites k j s d inside two =
    let before : length (flat_map site_faults (take k sites))
    ≡ 2 * k = omega (arith, faults_count (take k sites), length-take-le k sites (omega arith)) in
    ap (λ (n : ℕ). get_or (flat_map site_faults sites) (n + j) d) (sym before)
    ∙ get_or-flat_map site_faults sites k j s d inside two

-- The fault at a place stands on every second site.
pub fault_at : (sites : List Site) (i : ℕ) (s : Site) (d : Fault) → i < 2 * length sites
    → get_or (flat_map site_faults sites) i d ≡ get_or (site_faults (get_or sites (i / 2) s)) (i % 2) d
fault_at sites i s d inside =
    let place : i ≡ 2 * (i / 2) + i % 2 = omega arith in
    ap (λ (n : ℕ). get_or (flat_map site_faults sites) n d) place ∙ at_site sites (i / 2) (i % 2) s d (omega arith)
    (omega arith)

-- Both faults of a site stand on it.
pub fault_stands : (s : Site) (k : ℕ) (d : Fault) → k < 2 → (get_or (site_faults s) k d).site ≡ s
fault_stands s zero d h = refl
fault_stands s (suc zero) d h = refl
fault_stands s (suc (suc k)) d h = absurd (omega arith)
