use Rattle.std.proofs.Common.{arith, ◌≡◌, ◌++◌, ◌∷◌, [], ◌<◌, List, Bool, map, length, get_or, sym, ◌∙◌, ap}
use Rattle.std.specs.List.{filter}
use Rattle.std.proofs.lemmas.List.{take_all}
use Rattle.ht_tern.specs.Gate.{bool_xor}
use Rattle.ht_cubes.specs.declared.signed_var.SignedVar.{SignedVar}
use Rattle.ht_cubes.specs.Formula.{choices, parity_of, excluded, rail_of, needs}
use Rattle.ht_cubes.proofs.GateLaws.{choices_long}
use Rattle.ht_cubes.proofs.PieceLaws.{kept_on, left_on}
use Rattle.ht_cubes.proofs.gate_lines.GateLines.push_exclusions.Goals as goal
use Rattle.ht_cubes.proofs.gate_lines.GateLines.push_exclusions.Goals.{then-excludes+in_ok-push_exclusion, else-excludes}

pub push_exclusion-requires : goal.push_exclusion-requires
push_exclusion-requires c =
    let pins = c.args.self.now.pins.now in
    let all = c.in_ok-all.all in
    let e = c.len-i-end.ensures in
    let inside : c.loop-i.i < length all = omega (arith, e, c.loop-i-test.true) in
    let is : all ≡ choices (length pins) = c.in_ok-all.ensures in
    let long = choices_long (length pins) c.loop-i.i [] (let l = ap (λ (x : List (List Bool)). length x) is in
    omega (arith, l, inside)) in
    ap (λ (l : List Bool). length l) (c.row-bits.ensures ∙ ap (λ (x : List (List Bool)). get_or x c.loop-i.i []) is) ∙ long

pub loop-i-preserved : goal.loop-i-preserved
loop-i-preserved c =
    let bit = c.args.bit in
    let pins = c.args.self.now.pins.now in
    let all = choices (length pins) in
    let i = c.loop-i.i in
    let p = λ (bits : List Bool). bool_xor bit (parity_of bits) in
    let f = λ (bits : List Bool). needs (rail_of c.args.self.now.out bit) (excluded pins bits) in
    let e = c.len-i-end.ensures in
    let is = c.in_ok-all.ensures in
    let long = ap (λ (x : List (List Bool)). length x) is in
    let inside : i < length all = omega (arith, e, long, c.loop-i-test.true) in
    let read = c.row-bits.ensures ∙ ap (λ (x : List (List Bool)). get_or x i []) is in
    let says : c.has_other_parity-excludes.result ≡ p (get_or all i []) = c.has_other_parity-excludes.ensures ∙ ap p read in
    elim c.if-excludes.branch [
      | then-excludes+in_ok-push_exclusion w ↦ kept_on p f all i [] inside c.args.rows.now c.loop-i.rows
          c.if-excludes.rows c.loop-i.invariant (sym says ∙ w.if-excludes.true)
          (w.rows-is ∙ (w.in_ok-push_exclusion.ensures
          ∙ (ap (λ (l : SignedVar). c.loop-i.rows ++ needs l (excluded pins c.row-bits.result.now) ∷ []) w.rail.ensures
          ∙ ap (λ (b : List Bool). c.loop-i.rows ++ needs (rail_of c.args.self.now.out bit) (excluded pins b) ∷ []) read)))
      | else-excludes w ↦ left_on p f all i [] inside c.args.rows.now c.loop-i.rows c.if-excludes.rows
          c.loop-i.invariant (sym says ∙ w.if-excludes.false) w.rows-is
    ]

pub returns : goal.returns
returns c =
    let bit = c.args.bit in
    let pins = c.args.self.now.pins.now in
    let p = λ (bits : List Bool). bool_xor bit (parity_of bits) in
    let f = λ (bits : List Bool). needs (rail_of c.args.self.now.out bit) (excluded pins bits) in
    let e = c.len-i-end.ensures in
    let long = ap (λ (x : List (List Bool)). length x) c.in_ok-all.ensures in
    c.loop-i.invariant ∙ ap (λ (l : List (List Bool)). c.args.rows.now ++ map f (filter p l))
    (take_all c.loop-i.i (choices (length pins)) (omega (arith, e, long, c.loop-i-test.false)))
