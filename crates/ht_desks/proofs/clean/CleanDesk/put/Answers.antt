use Rattle.std.proofs.Common.{◌≡◌, ◌++◌, List, [], ◌∷◌, ℕ, Some, drop, ◌∙◌, ap, refl, rules}
use Rattle.std.specs.Prelude.{string_bytes}
use Rattle.ht_desks.specs.declared.clean.NamedText.{NamedText}
use Rattle.ht_desks.specs.NamedTexts.{text_named, opened_in}
use Rattle.ht_ports.specs.PerPort.{at_in_port}
use Rattle.ht_desks.proofs.NamedTextLaws.{named_put, named_kept, opened_push}
use Rattle.ht_desks.proofs.clean.CleanDesk.put.Goals as goal

pub returns-clause-put : goal.returns-clause-put
returns-clause-put c =
    let desk = c.args.self.now in
    let texts = desk.texts.items in
    let new : NamedText = record { name = c.in_ok-from_str.field-0; bytes = c.in_ok-to_vec.field-0 } in
    let added : c.push.new.self.items ≡ texts ++ new ∷ [] = search rules in
    let name : string_bytes new.name ≡ c.args.name.now = search rules in
    let bytes : new.bytes.items ≡ c.args.bytes.now = search rules in
    let found : (n : List ℕ) → text_named c.push.new.self.items n ≡ text_named (texts ++ new ∷ []) n = λ n. ap
    (λ l. text_named l n) added in
    record {
      file = ap Some (found c.args.name.now ∙ named_put texts new c.args.name.now name ∙ ap Some bytes);
      others = λ n other. ap Some (found n ∙ named_kept texts new n (λ same. other (same ∙ name)));
      ports = record {
        left = λ i p. Some (drop (at_in_port desk.positions p)
            ((ap (λ l. opened_in l (at_in_port desk.opened p)) added ∙ opened_push texts new (at_in_port desk.opened p)
            (desk.opened_texts p)) i));
        written = refl;
        named = refl;
        is_open = refl;
        is_created = refl;
        in_faults = refl;
        out_faults = refl;
        steady = refl;
      };
    }
