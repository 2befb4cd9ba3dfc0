-- Names that are mentioned, one by one, and their numbers.
use Rattle.std.proofs.Common.{refl, All, map, get_or, ◌≡◌, ◌↔◌, ℕ, ◌<◌, List, [], ◌∷◌, ◌++◌, length, ◌∙◌, ap, arith, true, Contains}
use Rattle.std.proofs.lemmas.Grind.{common_steps}
use Rattle.std.proofs.lemmas.List.{get_or_append_left, length-append}
use Rattle.std.proofs.lemmas.List.Elements.{All-head, All-tail, All-weaker, All-contains}
use Rattle.ht_net.specs.declared.names.NameId.{NameId}
use Rattle.ht_net.specs.Build.Names.{IsNameAt}
use Rattle.ht_net.specs.Build.Named.{Name}
use Rattle.ht_net.specs.Build.Draft.{IsName, Draft, IsDraft, IsDriven, draft_name, driven_names}
use Rattle.ht_bench.specs.Different.{has_name}
use Rattle.ht_bench.specs.Drafts.{Mentions}
use Rattle.ht_bench.proofs.NameListLaws.{new_name, has_new_name, with_names-long, with_names-grow, has_name-Decides}

-- a net is driven where its name was driven before
pub driven_before : {old d : Draft} {names : List Name} (name : Name) (id : NameId) → Mentions old names d
    → draft_name d id ≡ name → (has_name (driven_names old) name ≡ true) ↔ IsDriven d id
driven_before {old} {d} name id m named = (
  λ has. rw (named, m.is) ((has_name-Decides (driven_names old) name).0 has),
  λ driven. (has_name-Decides (driven_names old) name).1 (rw (named, m.is) at driven),
)

-- a number keeps its name
pub name_stays : {b c : Draft} {names : List Name} → Mentions b names c → (k : ℕ) → k < length b.names
    → IsNameAt c.names k (get_or b.names k [])
name_stays {b} {c} {names} m k known =
    let more = with_names-grow b.names names in
    let all : c.names ≡ b.names ++ more.0 = ap (λ (x : Draft). x.names) m.is ∙ more.1 in
    rw all (omega (arith, length-append b.names more.0), get_or_append_left b.names more.0 [] k known)

-- numbers of nets stay known after more names are mentioned
pub names_known : {b c : Draft} {names : List Name} → Mentions b names c → (ids : List NameId) → All (IsName b) ids
    → All (IsName c) ids
names_known {b} {c} m ids known = All-weaker (IsName b) (IsName c) (λ id is. (name_stays m id.0 is).0) ids known

-- known numbers of nets keep their names after more names are mentioned
pub names_stay : {b c : Draft} {names : List Name} → Mentions b names c → (ids : List NameId) → All (IsName b) ids
    → map (draft_name c) ids ≡ map (draft_name b) ids
names_stay m [] known = refl
names_stay {b} m (id ∷ ids) known =
    let here = (name_stays m id.0 (All-head (IsName b) id ids known)).1 in
    let rest = names_stay m ids (All-tail (IsName b) id ids known) in
    cc

-- a driven name is there
pub driven_known : {d : Draft} (name : Name) → IsDraft d → has_name (driven_names d) name ≡ true
    → has_name d.names name ≡ true
driven_known {d} name is driven = (has_name-Decides d.names name).1
    (All-contains (Contains d.names) (driven_names d) name is.drivers_known
    ((has_name-Decides (driven_names d) name).0 driven))

pub ruleset mentioning = (common_steps, new_name, has_new_name, driven_before, driven_known, with_names-long)
