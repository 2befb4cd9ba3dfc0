use Rattle.std.proofs.Common.{rules, ◌≡◌, ◌++◌, ◌∷◌, [], Some, sym, ap, ◌∙◌}
use Rattle.ht_entries.specs.FromState.{add_clause_token}
use Rattle.ht_entries.proofs.FromStateLaws.{add_clause_token_last}
use Rattle.ht_entries.proofs.from_state.with_clause_token.Goals as goal

pub returns : goal.returns
returns c =
    let front = c.pop.new.self.items in
    let last = c.in-Some.last in
    let old : c.args.clauses ≡ front ++ last ∷ [] = search rules in
    let grown : c.in_ok-last.last ≡ record last { tokens = last.tokens ++ c.args.token ∷ [] } = search rules in
    let new : c.from_vec.result ≡ front ++ c.in_ok-last.last ∷ [] = search rules in
    ap Some (new ∙ ap (λ x. front ++ x ∷ []) grown)
    ∙ (sym (add_clause_token_last front last c.args.token) ∙ ap (λ x. add_clause_token x c.args.token) (sym old))
