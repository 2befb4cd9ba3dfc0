-- Texts by name and by index.
use Rattle.std.proofs.Common.{◌≡◌, ◌≢◌, ◌<◌, ◌≤◌, ◌+◌, ◌++◌, ℕ, zero, suc, List, [], ◌∷◌, length, get_or, take, true, false, Bool, Some, None, refl, sym, ◌∙◌, ap, arith}
use Rattle.std.specs.Prelude.{string_bytes, if◌then◌else◌}
use Rattle.std.specs.Str.{bytes_eq}
use Rattle.std.specs.declared.option.Option.{Option}
use Rattle.std.specs.Option.{ForSome, option_or}
use Rattle.std.proofs.lemmas.List.{take_more}
use Rattle.std.proofs.lemmas.Slice.Eq.{bytes_eq-Decides}
use Rattle.ht_desks.specs.NamedTexts.{text_named, bytes_at, opened_in}
use Rattle.ht_desks.specs.declared.clean.NamedText.{NamedText}

-- the bytes at an index are those of the text there
pub bytes_in : (texts : List NamedText) (k : ℕ) (d : NamedText) → k < length texts → bytes_at texts k
    ≡ (get_or texts k d).bytes.items
bytes_in [] k d lt = absurd (omega arith)
bytes_in (t ∷ texts) zero d lt = refl
bytes_in (t ∷ texts) (suc k) d lt = bytes_in texts k d (omega arith)

-- there are no bytes after the last text
pub bytes_past : (texts : List NamedText) (k : ℕ) → length texts ≤ k → bytes_at texts k ≡ []
bytes_past [] k le = refl
bytes_past (t ∷ texts) zero le = absurd (omega arith)
bytes_past (t ∷ texts) (suc k) le = bytes_past texts k (omega arith)

-- a new text takes the place of no other
pub bytes_push : (texts : List NamedText) (new : NamedText) (k : ℕ) → k < length texts → bytes_at (texts ++ new ∷ []) k
    ≡ bytes_at texts k
bytes_push [] new k lt = absurd (omega arith)
bytes_push (t ∷ texts) new zero lt = refl
bytes_push (t ∷ texts) new (suc k) lt = bytes_push texts new k (omega arith)

-- a new text leaves the bytes of a text that is open
pub opened_push : (texts : List NamedText) (new : NamedText) (opened : Option ℕ)
    → ForSome opened (λ k. k < length texts) → opened_in (texts ++ new ∷ []) opened ≡ opened_in texts opened
opened_push texts new None there = refl
opened_push texts new (Some k) there = bytes_push texts new k (there k refl)

or_if : (b : Bool) (x : List ℕ) (y z : Option (List ℕ)) → option_or (if b then Some x else y) z
    ≡ (if b then Some x else option_or y z)
or_if true x y z = refl
or_if false x y z = refl

-- a new text counts before all others
pub named_push : (texts : List NamedText) (new : NamedText) (name : List ℕ)
    → text_named (texts ++ new ∷ []) name
    ≡ (if bytes_eq (string_bytes new.name) name then Some new.bytes.items else text_named texts name)
named_push [] new name = refl
named_push (t ∷ texts) new name =
    let own : Option (List ℕ) = if bytes_eq (string_bytes t.name) name then Some t.bytes.items else None in
    ap (λ o. option_or o own) (named_push texts new name) ∙ or_if (bytes_eq (string_bytes new.name) name)
    new.bytes.items (text_named texts name) own

if_true : (b : Bool) (x y : Option (List ℕ)) → b ≡ true → (if b then x else y) ≡ x
if_true true x y e = refl
if_true false x y e = cc

if_false : (b : Bool) (x y : Option (List ℕ)) → b ≡ false → (if b then x else y) ≡ y
if_false false x y e = refl
if_false true x y e = cc

-- a new text is found under a name that equals its own by the test
pub named_new : (texts : List NamedText) (new : NamedText) (name : List ℕ)
    → bytes_eq (string_bytes new.name) name ≡ true → text_named (texts ++ new ∷ []) name ≡ Some new.bytes.items
named_new texts new name is = named_push texts new name ∙ if_true _ _ _ is

-- a new text leaves what is found under a name that differs from its own by the test
pub named_other : (texts : List NamedText) (new : NamedText) (name : List ℕ)
    → bytes_eq (string_bytes new.name) name ≡ false → text_named (texts ++ new ∷ []) name ≡ text_named texts name
named_other texts new name is = named_push texts new name ∙ if_false _ _ _ is

one_more : (texts : List NamedText) (name : List ℕ) (i : ℕ) (d : NamedText) → i < length texts
    → text_named (take (i + 1) texts) name ≡ text_named (take i texts ++ get_or texts i d ∷ []) name
one_more texts name i d lt = ap (λ (l : List NamedText). text_named l name) (take_more texts i d lt)

-- among the first texts, where the last of them has this name
pub named_here : (texts : List NamedText) (name : List ℕ) (i : ℕ) (d : NamedText) → i < length texts
    → bytes_eq (string_bytes (get_or texts i d).name) name ≡ true
    → text_named (take (i + 1) texts) name ≡ Some (bytes_at texts i)
named_here texts name i d lt is = one_more texts name i d lt ∙ named_new (take i texts) (get_or texts i d) name is ∙ ap
    Some (sym (bytes_in texts i d lt))

-- and where it has another
pub named_before : (texts : List NamedText) (name : List ℕ) (i : ℕ) (d : NamedText) → i < length texts
    → bytes_eq (string_bytes (get_or texts i d).name) name ≡ false
    → text_named (take (i + 1) texts) name ≡ text_named (take i texts) name
named_before texts name i d lt is = one_more texts name i d lt ∙ named_other (take i texts) (get_or texts i d) name is

-- a text that is put is found under its name
pub named_put : (texts : List NamedText) (new : NamedText) (name : List ℕ) → string_bytes new.name ≡ name
    → text_named (texts ++ new ∷ []) name ≡ Some new.bytes.items
named_put texts new name is = named_new texts new name (grind (arith, bytes_eq-Decides))

-- and changes what is found under no other
pub named_kept : (texts : List NamedText) (new : NamedText) (name : List ℕ) → name ≢ string_bytes new.name
    → text_named (texts ++ new ∷ []) name ≡ text_named texts name
named_kept texts new name other = named_other texts new name (grind (arith, bytes_eq-Decides))
