-- The nets that statements drive are those of what they say together.
use Rattle.std.proofs.Common.{arith, ◌≡◌, List, [], ◌∷◌, ◌||◌, sym, fold}
use Rattle.std.proofs.Math.Bool.{or-false}
use Rattle.std.proofs.lemmas.List.{map-append}
use Rattle.std.proofs.lemmas.List.Folds.{list_any-append}
use Rattle.ht_net.specs.Build.Named.{Name, NamedNetlist}
use Rattle.ht_statement.specs.Statement.{Statement, blank_line, input_line, output_line, dff_line, gate_line}
use Rattle.ht_bench.specs.Different.{has_name}
use Rattle.ht_bench.specs.Contents.{no_parts, with_statement, named_of_statements, driven_in, driven_by}
use Rattle.ht_net.specs.Build.Draft.{net_names}

module _ (name : Name) where
  driver_more : (n : NamedNetlist) (s : Statement) → has_name (net_names (with_statement n s)) name
      ≡ (has_name (net_names n) name || has_name (driven_in s) name)
  driver_more n blank_line = sym (or-false (has_name (net_names n) name))
  driver_more n (output_line net) = sym (or-false (has_name (net_names n) name))
  driver_more n (input_line net) = grind (arith, list_any-append)
  driver_more n (dff_line out data_pin) = grind (arith, list_any-append, map-append)
  driver_more n (gate_line out kind args) = grind (arith, list_any-append, map-append)

  drivers_from : (n : NamedNetlist) (statements : List Statement)
      → has_name (net_names (fold with_statement n statements)) name
      ≡ (has_name (net_names n) name || has_name (driven_by statements) name)
  drivers_from n [] = sym (or-false (has_name (net_names n) name))
  drivers_from n (s ∷ statements) =
      let more = driver_more n s in
      let rest = drivers_from (with_statement n s) statements in
      grind (arith, list_any-append)

  -- statements drive a net where it is an input, a flip-flop's net or a gate's net of what they say together
  pub drivers_are : (statements : List Statement) → has_name (net_names (named_of_statements statements)) name
      ≡ has_name (driven_by statements) name
  drivers_are statements = drivers_from no_parts statements
