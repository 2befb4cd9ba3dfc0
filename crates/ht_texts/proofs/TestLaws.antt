-- Each text is the test text of one list of vectors, or malformed at one line, and never both.
use Rattle.std.proofs.Common.{◌≡◌, ◌⊎◌, inl, inr, ℕ, ◌+◌, List, Bool, sym, ◌∙◌, arith}
use Rattle.ht_net.specs.Circuit.Netlist.{Netlist}
use Rattle.ht_ports.specs.LineRule.{lines_of}
use Rattle.ht_texts.specs.Tests.{vector_text, IsNoVector, IsTestText, IsTooLong, IsMalformedTest}
use Rattle.ht_texts.proofs.WrongLineLaws.{RightOrFirst, first_of_both, short_or_long, short_is_right}
use Rattle.ht_texts.proofs.StopLaws.{AreVectorLines, vectors_or_stop, no_wrong_line, no_wrong_before, wrong_at}
use Rattle.ht_texts.proofs.CodedLaws.{map_injective}
use Rattle.ht_texts.proofs.VectorLaws.{vector_text_injective}

-- a text is the test text of at most one list of vectors
pub one_list : (c : Netlist) (text : List ℕ) (a b : List (List Bool)) → IsTestText c text a → IsTestText c text b → a
    ≡ b
one_list c text a b is_a is_b = map_injective vector_text vector_text_injective a b (sym is_a.lines ∙ is_b.lines)

-- a test text is malformed at no line
pub never_both : (c : Netlist) (text : List ℕ) (list : List (List Bool)) (n : ℕ) → IsTestText c text list
    → ¬ IsMalformedTest c text n
never_both c text list n is malformed = elim malformed.wrong [
  | inl bad ↦ no_wrong_line c text list (record { texts = is.lines; widths = is.widths }) n bad
  | inr long ↦ omega (arith, is.short, long.long)
]

vectors_or_first : (c : Netlist) (text : List ℕ)
    → RightOrFirst ((list : List (List Bool)) × AreVectorLines c.inputs (lines_of text) list) (IsNoVector c text)
vectors_or_first c text = elim (vectors_or_stop c.inputs (lines_of text)) [
  | inl are ↦ inl are
  | inr stop ↦ inr (
    stop.0 + 1,
    record {
      wrong = wrong_at c text stop.0 stop.1;
      first = λ m below. no_wrong_before c text stop.0 m stop.1 (omega (arith, below));
    },
  )
]

-- each text is the test text of some list of vectors, or malformed at some line
pub list_or_line : (c : Netlist) (text : List ℕ) → ((list : List (List Bool)) × IsTestText c text list)
    ⊎ ((n : ℕ) × IsMalformedTest c text n)
list_or_line c text = elim (first_of_both (IsNoVector c text) (IsTooLong text)
    (λ are. no_wrong_line c text are.0 are.1) (short_is_right text) (vectors_or_first c text) (short_or_long text)) [
      | inl right ↦ inl (
        right.0.0,
        record { lines = right.0.1.texts; widths = right.0.1.widths; short = right.1 },
      )
      | inr first ↦ inr first
    ]
