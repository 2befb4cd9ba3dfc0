-- One line further.
use Rattle.std.proofs.Common.{◌≡◌, ◌≤◌, inl, inr, ℕ, List, [], take, drop, length, Some, None, take-append-drop, sym, ◌∙◌, ap, subst, arith}
use Rattle.std.proofs.lemmas.List.{drop_all, length-take-le}
use Rattle.std.specs.Prelude.{MatchOption}
use Rattle.std.specs.declared.option.Option.{Option}
use Rattle.std.specs.Io.KnownBytes.{prepend_known, IsAtEnd}
use Rattle.ht_ports.specs.declared.ports.InPort.{InPort}
use Rattle.ht_ports.specs.Desk.{DeskView}
use Rattle.ht_ports.specs.LineRule.{NextPiece, NextLine}
use Rattle.ht_ports.specs.Buffer.{KeepsRest, HasNone, IsFirstLf}
use Rattle.ht_ports.specs.LineEnd.{EndsLine, MayBeLine}
use Rattle.ht_ports.proofs.CallLaws.{prepend_known_more, prepend_known_nil}

-- what `gather` found
abbrev pub Found : InPort → ℕ → List ℕ → DeskView → Option ℕ → Type 0
Found port limit bytes desk found = MatchOption found (HasNone port limit bytes desk) (IsFirstLf bytes)

at_end_nil : (left : Option (List ℕ)) (bytes : List ℕ) → bytes ≡ [] → IsAtEnd left → IsAtEnd (prepend_known bytes left)
at_end_nil left bytes none e = subst (λ (l : List ℕ). IsAtEnd (prepend_known l left)) (sym none)
    (subst IsAtEnd (sym (prepend_known_nil left)) e)

-- a line that ends within the bytes that wait is the next line of the text still to come
pub gives_next : (port : InPort) (max_len bytes_read : ℕ) (first bytes : List ℕ) (a b : DeskView) (found : Option ℕ)
    (line taken limit : ℕ)
    → ((n : ℕ) → MayBeLine max_len bytes_read n → n ≤ limit)
    → KeepsRest port first bytes a b → Found port limit bytes b found
    → EndsLine max_len bytes_read bytes line taken found
    → NextLine (take line bytes) taken (prepend_known first (a.left port))
    (prepend_known (drop taken bytes) (b.left port))
gives_next port max_len bytes_read first bytes a b found line taken limit enough keeps lf line_end =
    record {
      piece = line_end.piece;
      taken = take taken bytes;
      next = next found lf line_end;
      is = line_end.is;
      size = sym (length-take-le taken bytes line_end.within);
    }
  where
    took : prepend_known first (a.left port)
        ≡ prepend_known (take taken bytes) (prepend_known (drop taken bytes) (b.left port))
    took = sym keeps.rest ∙ ap (λ l. prepend_known l (b.left port)) (sym (take-append-drop taken bytes)) ∙ sym
        (prepend_known_more (b.left port) (take taken bytes) (drop taken bytes))

    next : (found : Option ℕ) → Found port limit bytes b found
        → (c : EndsLine max_len bytes_read bytes line taken found)
        → NextPiece c.piece (take taken bytes) (prepend_known first (a.left port))
        (prepend_known (drop taken bytes) (b.left port))
    next (Some i) lf c = record { no_lf = c.no_lf; took = took; ends = inl c.ends }
    next None lf c = record {
      no_lf = c.no_lf;
      took = took;
      ends = inr (
        c.ends.0,
        c.ends.1,
        at_end_nil (b.left port) (drop taken bytes)
            (drop_all taken bytes (omega (arith, c.ends.2))) (lf.why (enough (length bytes) c.few)),
      );
    }
