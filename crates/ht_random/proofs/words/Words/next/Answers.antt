use Rattle.std.proofs.Common.{ℕ, ap, ◌∙◌}
use Rattle.rand_pcg.specs.Lcg.{Lcg}
use Rattle.rand_pcg.specs.Pcg.{pcg32}
use Rattle.ht_random.specs.Words.{next_word, after_word}
use Rattle.ht_random.proofs.words.Words.next.Goals as goal

pub returns-clause-word : goal.returns-clause-word
unfolding next_word
returns-clause-word c = ap (λ (p : ℕ × Lcg). p.0) c.next_word.ensures ∙ ap (λ (g : Lcg). (pcg32 g).0) c.self.view_is

pub returns-clause-after : goal.returns-clause-after
unfolding after_word
returns-clause-after c = ap (λ (p : ℕ × Lcg). p.1) c.next_word.ensures ∙ ap (λ (g : Lcg). (pcg32 g).1) c.self.view_is
