use Rattle.std.proofs.Common.{◌≡◌, true, false, rules, refl, sym, ◌∙◌}
use Rattle.ht_compact.proofs.runners.Runners.start_frame.Goals as goal

pub returns-clause-begun : goal.returns-clause-begun
returns-clause-begun c = record {
  same = refl;
  joined = λ yes. let bad : true ≡ false = sym yes ∙ c.if-self.false in cc;
  running = λ no. record {
    moment = record { latches = c.in_ok-latches.latches; values = c.in_ok-values.values };
    more = search rules;
    same = search rules;
    values = search rules;
  };
}
