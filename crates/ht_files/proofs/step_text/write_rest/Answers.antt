use Rattle.std.proofs.Common.{◌≡◌, ◌≤◌, ◌<◌, ◌+◌, ◌++◌, ◌∙◌, ℕ, List, [], ◌∷◌, Bool, get_or, length, take, drop, sym, ap, subst, rules, arith, append-nil}
use Rattle.std.specs.List.{All}
use Rattle.std.proofs.lemmas.List.Elements.{All-push}
use Rattle.ht_texts.specs.Lines.{with_lf}
use Rattle.ht_texts.specs.Tests.{test_text, vector_text}
use Rattle.ht_files.proofs.StepTextLaws.{test_text-append}
use Rattle.ht_files.proofs.TakenLaws.{one_further}
use Rattle.ht_files.proofs.step_text.write_rest.Goals as goal

-- the text of the vectors so far, with that of one more
text_more : (list : List (List Bool)) (vector : List Bool) (text line : List ℕ) → text ≡ test_text list
    → line ≡ test_text (vector ∷ []) → text ++ line ≡ test_text (list ++ vector ∷ [])
text_more list vector text line is one =
    ap (λ (l : List ℕ). l ++ line) is ∙ ap (λ (l : List ℕ). test_text list ++ l) one
    ∙ sym (test_text-append list (vector ∷ []))

pub loop-t-preserved : goal.loop-t-preserved
loop-t-preserved c =
    let from = c.args.from in
    let list = c.args.list.now.list in
    let t = c.loop-t.t in
    let low : from ≤ t = search rules in
    let inside : t < length list = search rules in
    let vector = get_or list t [] in
    let more = sym (one_further from t list [] low inside) in
    let line_is = c.deref.ensures.value ∙ c.in_ok-line.ensures
    ∙ ap (λ (v : List Bool). with_lf (vector_text v)) c.get.ensures.row
    ∙ sym (append-nil (with_lf (vector_text vector))) in (
      c.in_ok-extend_from_slice.ensures.items
          ∙ text_more (drop from (take t list)) vector c.loop-t.text.items c.deref.result.now c.loop-t.invariant.0
          line_is
          ∙ ap test_text more,
      subst (All (λ (v : List Bool). length v ≡ c.args.list.now.width)) more
          (All-push (λ (v : List Bool). length v ≡ c.args.list.now.width) (drop from (take t list)) vector
          c.loop-t.invariant.1 (ap length (sym c.get.ensures.row) ∙ c.get.ensures.width)),
    )
