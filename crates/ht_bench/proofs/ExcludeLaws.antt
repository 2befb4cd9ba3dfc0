-- What a refusal of a text excludes: a circuit, and another refusal.
use Rattle.std.proofs.Common.{subst, ◌≡◌, ℕ, List, sym, ◌∙◌, ap, Option, Some, None}
use Rattle.ht_net.specs.Build.Finish.{IsNameCycle}
use Rattle.ht_net.specs.Build.Named.{Name, NamedNetlist}
use Rattle.ht_net.specs.Circuit.Netlist.{Netlist}
use Rattle.ht_bench.specs.Contents.{named_of_statements}
use Rattle.ht_bench.specs.Text.{IsNetlistOf, IsLoop, Refuses, IsOfNoCircuit, refusal_of}
use Rattle.ht_bench.specs.TextRefusal.{text_refusal_of}
use Rattle.ht_bench.specs.declared.error.BenchError.{BenchError}
use Rattle.ht_bench.specs.declared.error.BenchError.TheVariants.{Loop, NoMemory}
use Rattle.ht_bench.proofs.StatedLaws.{same_statements}
use Rattle.ht_bench.proofs.CycleLaws.{no_circuit}

no_netlist : (text : List ℕ) (error : BenchError) → refusal_of text ≡ Some error → (circuit : Netlist)
    → ¬ IsNetlistOf text circuit
no_netlist text error refused circuit is = let e : Some error ≡ None = sym refused ∙ is.read.unrefused in cc

loop_is_no_netlist : (text : List ℕ) (number : ℕ) (cycle : List Name) → IsLoop text number cycle → (circuit : Netlist)
    → ¬ IsNetlistOf text circuit
loop_is_no_netlist text number cycle l circuit is =
    let same = same_statements l.statements is.statements (sym l.read.lines ∙ is.read.lines) in
    no_circuit circuit is.is_circuit cycle (subst (λ (n : NamedNetlist). IsNameCycle n.gates cycle)
    (ap named_of_statements same ∙ sym is.named) l.is_cycle.is_cycle)

-- a text that is refused for another cause than memory is no circuit's netlist
pub refused_is_of_no_circuit : (text : List ℕ) (error : BenchError) → Refuses text error → IsOfNoCircuit text error
refused_is_of_no_circuit text (Loop line names) refused = loop_is_no_netlist text line names refused
refused_is_of_no_circuit text NoMemory refused = tt
refused_is_of_no_circuit text error refused = no_netlist text error refused

-- what a refusal says of the text is the text's own
text_refusal_is : (text : List ℕ) (error : BenchError) (v : Option BenchError) → Refuses text error
    → text_refusal_of error ≡ Some v → refusal_of text ≡ v
text_refusal_is text (Loop line names) v refused e = let none : refusal_of text ≡ None = refused.read.unrefused in cc
text_refusal_is text _ v refused e = cc

-- two refusals of a text say the same of it, apart from the choice among cycles and from want of memory
pub one_refusal : (text : List ℕ) (error other : BenchError) (v w : Option BenchError) → Refuses text error
    → Refuses text other → text_refusal_of error ≡ Some v → text_refusal_of other ≡ Some w → v ≡ w
one_refusal text error other v w refused also e f =
    sym (text_refusal_is text error v refused e) ∙ text_refusal_is text other w also f
