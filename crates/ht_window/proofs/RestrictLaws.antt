-- Which nets matter: the flip-flops whose latches may begin apart, those whose next states count, and windows in which all
-- nets do.
use Rattle.std.proofs.Common.{◌≡◌, ◌<◌, ◌+◌, ◌∙◌, ℕ, List, Bool, true, false, Option, None, not, get_or, refl, sym, ap, arith}
use Rattle.std.proofs.lemmas.Bool.{false≢true}
use Rattle.ht_tree.specs.Window.Decisions.{is_in}
use Rattle.ht_tree.specs.Window.Windows.{SearchWindow, Start, one_frame}
use Rattle.ht_relevant.specs.Near.{RelevantState}
use Rattle.ht_relevant.specs.Reached.{may_begin_apart}
use Rattle.ht_relevant.specs.Relevant.{IsRelevant, counts_state}
use Rattle.ht_window.specs.Matters.{is_relevant}
use Rattle.ht_window.specs.Starts.{marked}
use Rattle.ht_window.specs.States.{WindowState}
use Rattle.ht_window.proofs.StartLaws.{marked_is}

marked_here : (z : List Bool) (j : ℕ) → is_in (marked 0 z) j ≡ get_or z j false
marked_here z j = let at : 0 + j ≡ j = omega arith in ap (is_in (marked 0 z)) (sym at) ∙ marked_is 0 j z

-- the latches of a set may begin apart
pub set_apart : (s : Start) (z apart : List Bool) → one_frame (marked 0 z) ≡ s → apart ≡ z → (j : ℕ)
    → may_begin_apart s j ≡ true → get_or apart j false ≡ true
set_apart s z apart start same j h =
    ap (λ (l : List Bool). get_or l j false) same
    ∙ (sym (marked_here z j) ∙ (ap (λ (t : Start). may_begin_apart t j) start ∙ h))

-- the next states outside it count
pub set_counts : (s : Start) (z counted : List Bool) (n : ℕ) → one_frame (marked 0 z) ≡ s
    → ((j : ℕ) → j < n → get_or counted j false ≡ not (get_or z j false)) → (j : ℕ) → j < n → counts_state s j ≡ true
    → get_or counted j false ≡ true
set_counts s z counted n start is j js h =
    is j js ∙ (ap not (sym (marked_here z j)) ∙ (ap (λ (t : Start). counts_state t j) start ∙ h))

-- the next state of a flip-flop outside the set counts
pub outside_counts : (s : Start) (z : List Bool) → one_frame (marked 0 z) ≡ s → (j : ℕ) → false ≡ get_or z j false
    → counts_state s j ≡ true
outside_counts s z start j free =
    ap (λ (t : Start). counts_state t j) (sym start) ∙ ap not (marked_here z j ∙ sym free)

-- where all nets matter nothing else does
pub whole_relevant : (w : SearchWindow) → IsRelevant w (is_relevant None)
whole_relevant w = record {
  closed = record { gates = λ f g i fs gs l m. refl; dffs = λ f j fs js m. refl };
  outputs = λ f o fs os free path. absurd (false≢true (sym free));
  states = λ j js counts free path. absurd (false≢true (sym free));
}

-- each net of a window that leaves out none matters
pub whole_matters : (w : WindowState) → w.relevant ≡ None → (f x : ℕ) → is_relevant w.relevant f x ≡ true
whole_matters w whole f x = ap (λ (o : Option RelevantState). is_relevant o f x) whole
