-- The words ask for the same by `clap` and in plain steps.
use Rattle.std.proofs.Common.{◌≡◌, ◌∷◌, Bool, true, false, cond, List, [], Option, Some, refl, sym, ap, String, Global, string_bytes, arith}
use Rattle.std.specs.Prelude.{find, map, option_and_then}
use Rattle.std.specs.Str.{bytes_eq}
use Rattle.ht_asked.specs.Forms.{given}
use Rattle.ht_asked.specs.Asked.{Asked}
use Rattle.ht_asked.specs.Table.{Kind}
use Rattle.ht_asked.specs.Table.{sim}
use Rattle.ht_asked.specs.Commands.{Command, asked, command_of, words_of}
use Rattle.ht_asked.specs.Table.{kinds}
use Rattle.ht_asked.specs.ByClap.{app_with, asked_by_clap, given_by_clap}
use Rattle.ht_asked.proofs.Readable.{are_readable}
use Rattle.ht_asked.proofs.FormByClap.{IsSound, form_by_clap}

is_sound : (kind : Kind) → IsSound (command_of kind).form
is_sound sim = record { differ = refl; few = omega arith }
is_sound kind = record { differ = refl; few = omega arith }

-- two answers that are the same for each of the commands are so for the one that is found
same_found : (f g : Command → Option Asked) → ((kind : Kind) → f (command_of kind) ≡ g (command_of kind))
    → (test : Command → Bool) → (ks : List Kind)
    → option_and_then f (find test (map command_of ks)) ≡ option_and_then g (find test (map command_of ks))
same_found f g same test [] = refl
same_found f g same test (k ∷ ks) = go (test (command_of k)) (same_found f g same test ks)
  where
    go : (b : Bool)
        → option_and_then f (find test (map command_of ks)) ≡ option_and_then g (find test (map command_of ks))
        → option_and_then f (cond b (Some (command_of k)) (find test (map command_of ks)))
        ≡ option_and_then g (cond b (Some (command_of k)) (find test (map command_of ks)))
    go true e = same k
    go false e = e

-- the words ask for the same in plain steps and by `clap`
pub asked_is_by_clap : (ws : List (String Global)) → asked (words_of ws) ≡ asked_by_clap (words_of ws)
unfolding asked asked_by_clap
asked_is_by_clap [] = refl
asked_is_by_clap (w ∷ ws) = same_found
    (λ c. option_and_then c.asks (given c.form (words_of ws)))
    (λ c. option_and_then c.asks (given_by_clap (app_with c.name c.form) c.form (c.name ∷ words_of ws)))
    (λ kind. sym (ap (option_and_then (command_of kind).asks)
    (form_by_clap (command_of kind).name (command_of kind).form (is_sound kind) (command_of kind).name (words_of ws)
    (are_readable ws))))
    (λ c. bytes_eq (string_bytes w) c.name) kinds
