-- What a line states has names and a count of arguments that may be.
use Rattle.std.proofs.Common.{◌≡◌, ℕ, ◌≤◌, leb, Bool, true, false, cond, List, [], ◌∷◌, length, Option, Some, None, refl, subst, arith}
use Rattle.std.specs.List.{list_all}
use Rattle.std.proofs.lemmas.Bool.{and_parts, and_from, leb-true, le-leb}
use Rattle.std.proofs.lemmas.Bool.Decides.{nat_tests}
use Rattle.ht_tern.specs.Gate.{HasArity, has_arity}
use Rattle.ht_tern.specs.declared.gate.Kind.{Kind}
use Rattle.ht_net.specs.Build.Named.{Name}
use Rattle.ht_net.specs.Circuit.Netlist.{max_arguments}
use Rattle.ht_statement.specs.LineToken.{tokens_of}
use Rattle.ht_statement.specs.Name.{is_name}
use Rattle.ht_statement.specs.LineForm.{LineForm, blank_form, input_form, output_form, definition_form, form_of}
use Rattle.ht_statement.specs.Element.{Element, flip_flop, gate_of, element_named, has_count}
use Rattle.ht_statement.specs.Statement.{input_line, output_line}
use Rattle.ht_statement.specs.Reading.{Reading, stated, unreadable, defined, form_reading, definition_reading, tokens_reading}
use Rattle.ht_statement.specs.declared.error.LineRefusal.{LineRefusal}
use Rattle.ht_statement.specs.declared.error.LineRefusal.TheVariants.{BadName, BadCount}
use Rattle.ht_statement.specs.StatementText.{CanBeStated, StatedIsSound}

-- a reading that states nothing wrong
abbrev IsSound : Reading → Type 0
IsSound (stated statement) = CanBeStated statement
IsSound (unreadable refusal) = Unit {0}

tested : (test : Bool) (reading : Reading) (refusal : LineRefusal) → (test ≡ true → IsSound reading)
    → IsSound (cond test reading (unreadable refusal))
tested true reading refusal sound = sound refl
tested false reading refusal sound = tt

names_of_one : (name : Name) → is_name name ≡ true → list_all is_name (name ∷ []) ≡ true
names_of_one name is = and_from (is_name name) true is refl

element_sound : (out : Name) (args : List Name) (element : Element) → list_all is_name (out ∷ args) ≡ true
    → has_count element (length args) ≡ true
    → CanBeStated (defined out args element)
element_sound out [] flip_flop are count = absurd (grind (arith, nat_tests))
element_sound out (arg ∷ more) flip_flop are count =
    let parts = and_parts (is_name out) (list_all is_name (arg ∷ more)) are in
    let first = (and_parts (is_name arg) (list_all is_name more) parts.1).0 in
    record {
      names = and_from (is_name out) (list_all is_name (arg ∷ [])) parts.0 (names_of_one arg first);
      count = refl;
    }
element_sound out args (gate_of kind) are count = record { names = are; count = count }

definition_sound : (out : Name) (args : List Name) (found : Option Element) → list_all is_name (out ∷ args) ≡ true
    → IsSound (definition_reading out args found)
definition_sound out args None are = tt
definition_sound out args (Some element) are =
    tested (has_count element (length args)) (stated (defined out args element)) BadCount
    (λ count. element_sound out args element are count)

form_sound : (form : LineForm) → IsSound (form_reading form)
form_sound blank_form = record { names = refl; count = refl }
form_sound (input_form name) = tested (is_name name) (stated (input_line name)) BadName
    (λ is. record { names = names_of_one name is; count = refl })
form_sound (output_form name) = tested (is_name name) (stated (output_line name)) BadName
    (λ is. record { names = names_of_one name is; count = refl })
form_sound (definition_form out kind args) =
    tested (list_all is_name (out ∷ args)) (definition_reading out args (element_named kind)) BadName
    (λ are. definition_sound out args (element_named kind) are)

reading_sound : (form : Option LineForm) → IsSound (tokens_reading form)
reading_sound None = tt
reading_sound (Some form) = form_sound form

-- what a line states has names of the format, and a gate in it has a count of arguments that it may have
pub stated_sound : StatedIsSound
stated_sound line statement e = subst IsSound e (reading_sound (form_of (tokens_of line)))

-- a count that a gate may have is an arity of its kind, and within the limit
pub count_is_arity : (kind : Kind) (n : ℕ) → has_count (gate_of kind) n ≡ true → HasArity kind n × (n ≤ max_arguments)
count_is_arity kind n e =
    let parts = and_parts (has_arity kind n) (leb n max_arguments) e in
    (parts.0, leb-true n max_arguments parts.1)

-- an arity of a kind, within the limit, is a count that a gate of that kind may have
pub arity_is_count : (kind : Kind) (n : ℕ) → HasArity kind n → n ≤ max_arguments → has_count (gate_of kind) n ≡ true
arity_is_count kind n arity few = and_from (has_arity kind n) (leb n max_arguments) arity (le-leb n max_arguments few)
