-- The cycle of a text, by the names of its nets, and the line that drives its first net.
use Rattle.std.proofs.Common.{◌≡◌, ℕ, ◌<◌, List, [], length, get_or, map, sym, ◌∙◌, ap, subst, arith}
use Rattle.std.proofs.lemmas.List.{length-map, get_or-map}
use Rattle.ht_net.specs.declared.names.NameId.{NameId}
use Rattle.ht_net.specs.Circuit.Lists.{AllDiffer}
use Rattle.ht_net.specs.Build.Named.{NamedNetlist}
use Rattle.ht_net.specs.Build.Draft.{Draft, IsName, draft_name}
use Rattle.ht_net.specs.Build.Built.{AllDriven}
use Rattle.ht_net.specs.Build.Finish.{IsNameCycle, IsDraftLoop, no_name}
use Rattle.ht_net.proofs.PlaceLaws.{place_in, place_at}
use Rattle.ht_bench.specs.Contents.{mention_rank, mentions_of}
use Rattle.ht_bench.specs.EndOfText.{IsNetCycle}
use Rattle.ht_bench.specs.Text.{IsLoop}
use Rattle.ht_bench.specs.Progress.{IsRead, HasNet, IsFirstLine}
use Rattle.ht_bench.specs.declared.find_line.Role.TheVariants.{Driven}
use Rattle.ht_bench.proofs.NameListLaws.{different_differ}
use Rattle.ht_bench.proofs.EndOfTextLaws.{net_is_driven, says_named, accepted_text}

module _ {text : List ℕ} {d : Draft} (is : IsRead text d) where
  -- names stand in the order of first mention
  rank_is : (id : NameId) → IsName d id → mention_rank is.statements (draft_name d id) ≡ id.0
  rank_is id known =
      let names = ap (λ (x : Draft). x.names) is.draft.is in
      ap (λ l. place_in l (draft_name d id)) (sym names)
      ∙ place_at d.names id.0 (subst AllDiffer (sym names) (different_differ (mentions_of is.statements))) known

  module _ (nets : List NameId) (loop : IsDraftLoop d nets) (all : AllDriven d) where
    count : length (map (draft_name d) nets) ≡ length nets
    count = length-map nets (draft_name d)

    -- a cycle of a draft has at least one net
    pub some_net : 0 < length nets
    some_net = omega (arith, loop.cycle.some, count)

    cycle_is : IsNetCycle is.statements (map (draft_name d) nets)
    cycle_is =
        let rank : (k : ℕ) → k < length nets → mention_rank is.statements (get_or (map (draft_name d) nets) k [])
        ≡ (get_or nets k no_name).0 = λ k lt. ap (mention_rank is.statements)
        (get_or-map (draft_name d) nets k no_name [] lt) ∙ rank_is (get_or nets k no_name) (loop.known k no_name lt) in
        record {
          is_cycle = subst (λ (n : NamedNetlist). IsNameCycle n.gates (map (draft_name d) nets)) (says_named is)
              loop.cycle;
          least = λ k lt.
              let inner : k < length nets = omega (arith, count, lt) in
              omega (arith, rank 0 some_net, rank k inner, loop.least k inner);
        }

    -- the first net of the cycle, which is looked for
    pub first_is_driven : HasNet text Driven (draft_name d (get_or nets 0 no_name))
    first_is_driven = net_is_driven is (get_or nets 0 no_name)
        (all (get_or nets 0 no_name) (loop.known 0 no_name some_net))

    -- a cycle of the draft, each net driven, is one of the text, at the first line that drives its first net
    pub loop_found : (number : ℕ) → IsFirstLine text Driven (draft_name d (get_or nets 0 no_name)) number
        → IsLoop text number (map (draft_name d) nets)
    loop_found number first = record {
      statements = is.statements;
      read = accepted_text is all;
      is_cycle = cycle_is;
      line = subst (λ n. IsFirstLine text Driven n number)
          (sym (get_or-map (draft_name d) nets 0 no_name [] some_net)) first is.statements is.lines;
    }
