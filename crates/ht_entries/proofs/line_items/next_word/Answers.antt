use Rattle.std.proofs.Common.{rules, ◌≡◌, ◌==◌, length}
use Rattle.std.specs.List.{position}
use Rattle.std.specs.Option.{unwrap_or}
use Rattle.ht_entries.proofs.ItemLaws.{first_word}
use Rattle.ht_entries.proofs.line_items.next_word.Goals as goal

pub returns : goal.returns
returns c =
    let rest = c.in_ok-rest.rest.now in
    let end : c.unwrap_or-end.result ≡ unwrap_or (position (λ byte. byte == 32) rest) (length rest) = search rules in
    first_word c.args.text.now rest c.unwrap_or-end.result c.in_ok-rest.ensures end
