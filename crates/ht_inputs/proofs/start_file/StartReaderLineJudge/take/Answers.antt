use Rattle.std.proofs.Common.{◌≡◌, ◌≤◌, [], ◌∷◌, List, ℕ, length, subst, sym, arith}
use Rattle.std.proofs.lemmas.List.{length-append}
use Rattle.ht_texts.specs.StartTexts.{IsStartLine}
use Rattle.ht_inputs.proofs.StartFileLaws.{only_line}
use Rattle.ht_inputs.proofs.start_file.StartReaderLineJudge.take.Goals as goal

pub returns-clause-stands : goal.returns-clause-stands
returns-clause-stands c = λ basis before stands number within.
    let read : IsStartLine c.args.self.now.width c.args.line.now c.in-Some.start.items × (c.args.number ≤ 1) =
    rw c.in-Some.is at c.in_ok-start.ensures in
    let none : length before ≡ 0 = omega (arith, number, read.1) in (
      stands.0,
      record {
        line = subst (λ (l : List ℕ). IsStartLine (length basis.circuit.dffs) l c.in-Some.start.items)
            (sym (only_line before c.args.line.now none))
            (subst (λ (w : ℕ). IsStartLine w c.args.line.now c.in-Some.start.items) stands.0 read.0);
        only = omega (arith, none, length-append before (c.args.line.now ∷ []));
      },
    )
