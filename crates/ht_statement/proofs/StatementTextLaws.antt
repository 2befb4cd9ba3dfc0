-- The normal text of a statement, token by token.
use Rattle.std.proofs.Common.{◌≡◌, ℕ, true, List, [], ◌∷◌, ◌++◌, length, Some, option_map, refl, ◌∙◌, ap, append_assoc, codes}
use Rattle.std.proofs.lemmas.Bool.{cond-true}
use Rattle.std.specs.List.{list_all}
use Rattle.ht_tern.specs.declared.gate.Kind.{Kind}
use Rattle.ht_net.specs.Build.Named.{Name}
use Rattle.ht_statement.specs.LineToken.{LineToken, word_token, open_token, close_token, comma_token, equals_token, tokens_of}
use Rattle.ht_statement.specs.Name.{is_name}
use Rattle.ht_statement.specs.LineForm.{definition_form, form_of, arguments_of, further_arguments}
use Rattle.ht_statement.specs.Element.{Element, flip_flop, gate_of, element_named, has_count}
use Rattle.ht_statement.specs.Statement.{blank_line, input_line, output_line, dff_line, gate_line}
use Rattle.ht_statement.specs.Reading.{stated, unreadable, form_reading, definition_reading, tokens_reading, reading_of}
use Rattle.ht_statement.specs.declared.error.LineRefusal.TheVariants.{BadName, BadCount}
use Rattle.ht_statement.specs.StatementText.{kind_text, arguments_text, statement_text, NormalTextIsRead}
use Rattle.ht_statement.proofs.TokenLaws.{tokens_blank, tokens_mark}
use Rattle.ht_statement.proofs.NameLaws.{name_then, all_head, all_tail, kind_reads}

-- ---- arguments

abbrev further_tokens : List Name → List LineToken
further_tokens [] = close_token ∷ []
further_tokens (name ∷ names) = comma_token ∷ word_token name ∷ further_tokens names

abbrev argument_tokens : List Name → List LineToken
argument_tokens [] = close_token ∷ []
argument_tokens (name ∷ names) = word_token name ∷ further_tokens names

further_are : (names : List Name) → further_arguments (further_tokens names) ≡ Some names
further_are [] = refl
further_are (name ∷ names) = ap (option_map (λ args. name ∷ args)) (further_are names)

arguments_are : (names : List Name) → arguments_of (argument_tokens names) ≡ Some names
arguments_are [] = refl
arguments_are (name ∷ names) = ap (option_map (λ args. name ∷ args)) (further_are names)

arguments_tokens : (names : List Name) → list_all is_name names ≡ true → tokens_of (arguments_text names ++ 41 ∷ [])
    ≡ argument_tokens names
arguments_tokens [] are = refl
arguments_tokens (name ∷ []) are = name_then name (41 ∷ []) (all_head name [] are) refl
arguments_tokens (name ∷ next ∷ more) are =
    let rest = arguments_text (next ∷ more) ++ 41 ∷ [] in
    ap tokens_of (append_assoc name (44 ∷ 32 ∷ arguments_text (next ∷ more)) (41 ∷ []))
    ∙ name_then name (44 ∷ 32 ∷ rest) (all_head name (next ∷ more) are) refl
    ∙ ap (λ l. word_token name ∷ l) (tokens_mark 44 (32 ∷ rest) comma_token refl)
    ∙ ap (λ l. word_token name ∷ comma_token ∷ l)
    (tokens_blank 32 rest refl ∙ arguments_tokens (next ∷ more) (all_tail name (next ∷ more) are))

-- ---- lines

port_tokens : (keyword name : Name) → is_name keyword ≡ true → is_name name ≡ true
    → tokens_of (keyword ++ 40 ∷ (name ++ 41 ∷ [])) ≡ word_token keyword ∷ open_token ∷ word_token name ∷ close_token
    ∷ []
port_tokens keyword name is_keyword is =
    name_then keyword (40 ∷ (name ++ 41 ∷ [])) is_keyword refl
    ∙ ap (λ l. word_token keyword ∷ l) (tokens_mark 40 (name ++ 41 ∷ []) open_token refl)
    ∙ ap (λ l. word_token keyword ∷ open_token ∷ l) (name_then name (41 ∷ []) is refl)

definition_tokens : (out kind : Name) (inside : List ℕ) → is_name out ≡ true → is_name kind ≡ true
    → tokens_of (out ++ 32 ∷ 61 ∷ 32 ∷ (kind ++ 40 ∷ inside)) ≡ word_token out ∷ equals_token ∷ word_token kind
    ∷ open_token ∷ tokens_of inside
definition_tokens out kind inside is is_kind =
    name_then out (32 ∷ 61 ∷ 32 ∷ (kind ++ 40 ∷ inside)) is refl
    ∙ ap (λ l. word_token out ∷ l)
    (tokens_blank 32 (61 ∷ 32 ∷ (kind ++ 40 ∷ inside)) refl
    ∙ tokens_mark 61 (32 ∷ (kind ++ 40 ∷ inside)) equals_token refl)
    ∙ ap (λ l. word_token out ∷ equals_token ∷ l)
    (tokens_blank 32 (kind ++ 40 ∷ inside) refl ∙ name_then kind (40 ∷ inside) is_kind refl)
    ∙ ap (λ l. word_token out ∷ equals_token ∷ word_token kind ∷ l) (tokens_mark 40 inside open_token refl)

-- ---- readings

definition_read : (out : Name) (kind : List ℕ) (args : List Name) (element : Element) → list_all is_name (out ∷ args)
    ≡ true → element_named kind ≡ Some element
    → form_reading (definition_form out kind args) ≡ definition_reading out args (Some element)
definition_read out kind args element are named =
    cond-true (list_all is_name (out ∷ args)) (definition_reading out args (element_named kind)) (unreadable BadName)
    are
    ∙ ap (definition_reading out args) named

-- the line of a definition
definition_line : (out kind : Name) (args : List Name) (element : Element) → list_all is_name (out ∷ args) ≡ true
    → is_name kind ≡ true → element_named kind ≡ Some element
    → reading_of (out ++ 32 ∷ 61 ∷ 32 ∷ (kind ++ 40 ∷ (arguments_text args ++ 41 ∷ [])))
    ≡ definition_reading out args (Some element)
definition_line out kind args element are is_kind named =
    ap (λ t. tokens_reading (form_of t))
    (definition_tokens out kind (arguments_text args ++ 41 ∷ []) (all_head out args are) is_kind
    ∙ ap (λ l. word_token out ∷ equals_token ∷ word_token kind ∷ open_token ∷ l)
    (arguments_tokens args (all_tail out args are)))
    ∙ ap (λ a. tokens_reading (option_map (definition_form out kind) a)) (arguments_are args)
    ∙ definition_read out kind args element are named

-- the lines of a flip-flop and of a gate are a definition's
dff_text : (out data_pin : Name) → statement_text (dff_line out data_pin) ≡ out ++ 32 ∷ 61 ∷ 32
    ∷ (codes "DFF" ++ 40 ∷ (arguments_text (data_pin ∷ []) ++ 41 ∷ []))
dff_text out data_pin = simp append_assoc

gate_text : (out : Name) (kind : Kind) (args : List Name) → statement_text (gate_line out kind args) ≡ out ++ 32 ∷ 61
    ∷ 32
    ∷ (kind_text kind ++ 40 ∷ (arguments_text args ++ 41 ∷ []))
gate_text out kind args = simp append_assoc

-- the normal text of what a line can state is a line that states it
pub normal_reads : NormalTextIsRead
normal_reads blank_line can = refl
normal_reads (input_line name) can =
    ap (λ t. tokens_reading (form_of t))
    (port_tokens (codes "INPUT") name refl (all_head name [] can.names))
    ∙ cond-true (is_name name) (stated (input_line name)) (unreadable BadName) (all_head name [] can.names)
normal_reads (output_line name) can =
    ap (λ t. tokens_reading (form_of t))
    (port_tokens (codes "OUTPUT") name refl (all_head name [] can.names))
    ∙ cond-true (is_name name) (stated (output_line name)) (unreadable BadName) (all_head name [] can.names)
normal_reads (dff_line out data_pin) can =
    ap reading_of (dff_text out data_pin) ∙ definition_line out (codes "DFF") (data_pin ∷ []) flip_flop can.names
    refl refl
normal_reads (gate_line out kind args) can =
    ap reading_of (gate_text out kind args) ∙ definition_line out (kind_text kind) args (gate_of kind) can.names
    (kind_reads kind).0 (kind_reads kind).1
    ∙ cond-true (has_count (gate_of kind) (length args)) (stated (gate_line out kind args)) (unreadable BadCount)
    can.count
