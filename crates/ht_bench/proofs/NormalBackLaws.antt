-- What is read has names of the format, so its normal text is read as the same circuit, and refused only where memory
-- runs out.
use Rattle.std.proofs.Common.{◌≡◌, ℕ, List, [], ◌∷◌, true, map, refl, sym, ap, ◌∙◌, All}
use Rattle.std.proofs.lemmas.List.Elements.{All-nil, All-cons, All-weaker, All-contains}
use Rattle.std.proofs.lemmas.List.Sums.{list_all-from_AllPass, AllPass-from_list_all}
use Rattle.ht_net.specs.Circuit.Netlist.{Netlist, IsCircuit}
use Rattle.ht_net.specs.Build.Named.{Name, named_of}
use Rattle.ht_ports.specs.LineRule.{lines_of}
use Rattle.ht_statement.specs.Name.{is_name}
use Rattle.ht_statement.specs.Statement.{Statement, output_line, dff_line, gate_line, names_in}
use Rattle.ht_statement.specs.Reading.{stated, reading_of}
use Rattle.ht_statement.specs.StatementText.{CanBeStated}
use Rattle.ht_statement.proofs.StatedLaws.{stated_sound}
use Rattle.ht_bench.specs.Different.{has_name}
use Rattle.ht_bench.specs.Contents.{driven_in, driven_by}
use Rattle.ht_bench.specs.Text.{IsNetlistOf, IsOfNoCircuit}
use Rattle.ht_bench.specs.Normal.{normal_text, HasFormatNames}
use Rattle.ht_bench.specs.declared.error.BenchError.{BenchError}
use Rattle.ht_bench.specs.declared.error.BenchError.TheVariants.{NoMemory}
use Rattle.ht_bench.proofs.AllLaws.{All-left, all_from, AreNames, All-flat_map}
use Rattle.ht_bench.proofs.NameListLaws.{has_name-Decides}
use Rattle.ht_bench.proofs.DriverLaws.{drivers_are}
use Rattle.ht_net.specs.Build.Draft.{net_names}
use Rattle.ht_bench.proofs.NormalRoundLaws.{normal_is_netlist}
use Rattle.ht_bench.proofs.NormalContentLaws.{driven_are}
use Rattle.ht_bench.proofs.NormalNameLaws.{driven_are_names}
use Rattle.ht_bench.proofs.OneLaws.{one_circuit}

-- ---- the names of a circuit that was read

abbrev IsGood : Name → Type 0
IsGood name = is_name name ≡ true

can_be_stated : (lines : List (List ℕ)) (statements : List Statement) → map reading_of lines ≡ map stated statements
    → All CanBeStated statements
can_be_stated lines [] read = All-nil CanBeStated
can_be_stated [] (s ∷ statements) read = absurd (cc)
can_be_stated (line ∷ lines) (s ∷ statements) read =
    All-cons CanBeStated s statements (stated_sound line s (cc)) (can_be_stated lines statements (cc))

-- what a statement drives is one of its names
drives_its_names : (s : Statement) → AreNames (names_in s) → AreNames (driven_in s)
drives_its_names (output_line name) are = All-nil IsGood
drives_its_names (dff_line out data_pin) are = All-left IsGood (out ∷ []) (data_pin ∷ []) are
drives_its_names (gate_line out kind args) are = All-left IsGood (out ∷ []) args are
drives_its_names _ are = are

-- each net of a circuit that was read has a name of the format
pub names_were_read : (text : List ℕ) (c : Netlist) → IsNetlistOf text c → HasFormatNames c
names_were_read text c is =
    let driven = driven_by is.statements in
    let good : AreNames driven = All-flat_map IsGood driven_in is.statements
    (All-weaker CanBeStated (λ s. AreNames (driven_in s)) (λ s stated. drives_its_names s
    (AllPass-from_list_all is_name (names_in s) stated.names)) is.statements
    (can_be_stated (lines_of text) is.statements is.read.lines)) in
    let names : net_names (named_of c) ≡ c.names = sym (driven_are (named_of c)) ∙ driven_are_names c is.is_circuit in
    list_all-from_AllPass is_name c.names (all_from IsGood c.names (λ name c_has.
    All-contains IsGood driven name good ((has_name-Decides driven name).0
    (sym (drivers_are name is.statements) ∙ ap (λ n. has_name (net_names n) name) (sym is.named)
    ∙ ap (λ l. has_name l name) names ∙ (has_name-Decides c.names name).1 c_has))))

-- ---- what is read from normal text

-- the normal text of a circuit with names of the format is the netlist of that circuit only
pub read_back : (c d : Netlist) → IsCircuit c → HasFormatNames c → IsNetlistOf (normal_text c) d → d ≡ c
read_back c d is good read = one_circuit (normal_text c) d c read (normal_is_netlist c is good)

-- the normal text of a circuit with names of the format is refused only where memory runs out
pub not_refused : (c : Netlist) (error : BenchError) → IsCircuit c → HasFormatNames c
    → IsOfNoCircuit (normal_text c) error → error ≡ NoMemory
not_refused c NoMemory is good refuses = refl
not_refused c _ is good refuses = absurd (refuses c (normal_is_netlist c is good))
