-- All bytes of a normal text are printable or spaces.
use Rattle.std.proofs.Common.{◌≡◌, ℕ, true, List, [], ◌∷◌, ◌++◌, refl, ◌∙◌, arith, codes}
use Rattle.std.specs.List.{list_all}
use Rattle.std.proofs.lemmas.Bool.{and_parts, and_from}
use Rattle.std.proofs.lemmas.Bool.Decides.{nat_tests}
use Rattle.std.proofs.lemmas.List.Folds.{list_all-append}
use Rattle.ht_net.specs.Build.Named.{Name}
use Rattle.ht_statement.specs.Name.{is_name, is_name_byte}
use Rattle.ht_statement.specs.Statement.{blank_line, input_line, output_line, dff_line, gate_line}
use Rattle.ht_statement.specs.StatementText.{kind_text, arguments_text, is_printable, NormalTextIsOneLine}
use Rattle.ht_statement.proofs.NameLaws.{all_head, kind_reads}

abbrev ArePrintable : List ℕ → Type 0
ArePrintable text = list_all is_printable text ≡ true

both : (front rest : List ℕ) → ArePrintable front → ArePrintable rest → ArePrintable (front ++ rest)
both front rest are more =
    list_all-append is_printable front rest ∙ and_from (list_all is_printable front) (list_all is_printable rest) are
    more

byte_prints : (byte : ℕ) → is_name_byte byte ≡ true → is_printable byte ≡ true
byte_prints byte e = grind (arith, nat_tests)

bytes_print : (text : List ℕ) → list_all is_name_byte text ≡ true → ArePrintable text
bytes_print [] e = refl
bytes_print (byte ∷ text) e =
    let parts = and_parts (is_name_byte byte) (list_all is_name_byte text) e in
    and_from (is_printable byte) (list_all is_printable text) (byte_prints byte parts.0) (bytes_print text parts.1)

name_prints : (name : Name) → is_name name ≡ true → ArePrintable name
name_prints name e = bytes_print name (grind (arith, nat_tests))

arguments_print : (names : List Name) → list_all is_name names ≡ true → ArePrintable (arguments_text names)
arguments_print [] e = refl
arguments_print (name ∷ []) e = name_prints name (all_head name [] e)
arguments_print (name ∷ next ∷ more) e =
    let parts = and_parts (is_name name) (list_all is_name (next ∷ more)) e in
    both name (codes ", " ++ arguments_text (next ∷ more)) (name_prints name parts.0)
    (both (codes ", ") (arguments_text (next ∷ more)) refl (arguments_print (next ∷ more) parts.1))

-- the normal text of what a line can state has only printable bytes and blanks, so it is one line
pub normal_is_one_line : NormalTextIsOneLine
normal_is_one_line blank_line can = refl
normal_is_one_line (input_line name) can = both (codes "INPUT(" ++ name) (codes ")")
    (both (codes "INPUT(") name refl (name_prints name (all_head name [] can.names))) refl
normal_is_one_line (output_line name) can = both (codes "OUTPUT(" ++ name) (codes ")")
    (both (codes "OUTPUT(") name refl (name_prints name (all_head name [] can.names))) refl
normal_is_one_line (dff_line out data_pin) can =
    let parts = and_parts (is_name out) (list_all is_name (data_pin ∷ [])) can.names in
    let front = both out (codes " = DFF(") (name_prints out parts.0) refl in
    both (out ++ codes " = DFF(" ++ data_pin) (codes ")")
    (both (out ++ codes " = DFF(") data_pin front (name_prints data_pin (all_head data_pin [] parts.1))) refl
normal_is_one_line (gate_line out kind args) can =
    let parts = and_parts (is_name out) (list_all is_name args) can.names in
    let one = both out (codes " = ") (name_prints out parts.0) refl in
    let two = both (out ++ codes " = ") (kind_text kind) one (name_prints (kind_text kind) (kind_reads kind).0) in
    let three = both (out ++ codes " = " ++ kind_text kind) (codes "(") two refl in
    let four = both (out ++ codes " = " ++ kind_text kind ++ codes "(") (arguments_text args) three
    (arguments_print args parts.1) in
    both (out ++ codes " = " ++ kind_text kind ++ codes "(" ++ arguments_text args) (codes ")") four refl
