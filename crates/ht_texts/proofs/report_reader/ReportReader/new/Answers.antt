use Rattle.std.proofs.Common.{ap, arith}
use Rattle.ht_texts.specs.declared.total.Sums.{Sums}
use Rattle.ht_texts.proofs.ReaderLaws.{lines_few}
use Rattle.ht_texts.proofs.report_reader.ReportReader.new.Goals as goal

pub invariant_of-result : goal.invariant_of-result
invariant_of-result c =
    let none = c.none.ensures in record {
      faults = c.requires.faults;
      classes = c.requires.classes;
      few_faults = lines_few c.args.circuit.now c.nets.ensures.circuit;
      few_lines = omega arith;
      class_count_is = ap (λ (s : Sums). s.classes) none;
      searched = ap (λ (s : Sums). s.search) none;
      few_detected = omega (arith, ap (λ (s : Sums). s.detected) none);
      few_untestable = omega (arith, ap (λ (s : Sums). s.untestable) none);
      few_aborted = omega (arith, ap (λ (s : Sums). s.aborted) none);
      few_undetectable = omega (arith, ap (λ (s : Sums). s.undetectable) none);
      few_undetected = omega (arith, ap (λ (s : Sums). s.undetected) none);
    }
