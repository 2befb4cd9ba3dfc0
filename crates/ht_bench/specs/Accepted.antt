-- When a line is accepted after the statements before it, and why it isn't.
use Rattle.std.specs.Prelude.{ℕ, List, [], ◌∷◌, ◌++◌, length, cond, ltb, find, Option, Some, None, option_map}
use Rattle.ht_net.specs.declared.error.Limit.{Limit as NetLimit}
use Rattle.ht_net.specs.declared.error.Limit.TheVariants.{Nets, Pins, Inputs, Dffs}
use Rattle.ht_net.specs.Build.Named.{Name}
use Rattle.ht_net.specs.Circuit.Netlist.{max_nets, max_pins, max_inputs, max_dffs}
use Rattle.ht_statement.specs.Statement.{Statement}
use Rattle.ht_statement.specs.Reading.{Reading, stated, unreadable}
use Rattle.ht_bench.specs.Different.{has_name}
use Rattle.ht_bench.specs.Contents.{driven_in, driven_by, stated_nets, named_of_statements}
use Rattle.ht_net.specs.Build.Draft.{named_pins}
use Rattle.ht_bench.specs.declared.add_error.AddError.{AddError}
use Rattle.ht_bench.specs.declared.add_error.AddError.TheVariants.{Refused, SecondDriver, Limit}

-- the first limit that so many nets, pins, inputs and flip-flops pass
abbrev pub limit_passed_by : ℕ → ℕ → ℕ → ℕ → Option NetLimit
limit_passed_by nets pins inputs dffs = cond (ltb max_nets nets) (Some Nets)
    (cond (ltb max_pins pins) (Some Pins)
    (cond (ltb max_inputs inputs) (Some Inputs) (cond (ltb max_dffs dffs) (Some Dffs) None)))

-- the first limit that statements pass
abbrev pub limit_passed : List Statement → Option NetLimit
limit_passed s = limit_passed_by (length (stated_nets s)) (named_pins (named_of_statements s))
    (length (named_of_statements s).inputs) (length (named_of_statements s).dffs)

-- the net that a statement drives, where one before it drives that net
abbrev pub second_driver : List Statement → Statement → Option Name
second_driver before s = find (has_name (driven_by before)) (driven_in s)

-- a second driver is judged before the limits
abbrev pub driver_or_limit : Option Name → Option NetLimit → Option AddError
driver_or_limit (Some name) limit = Some (SecondDriver name)
driver_or_limit None limit = option_map Limit limit

-- why a line isn't accepted after these statements, if it isn't
abbrev pub reading_error : List Statement → Reading → Option AddError
reading_error before (unreadable refusal) = Some (Refused refusal)
reading_error before (stated s) = driver_or_limit (second_driver before s)
    (limit_passed (before ++ s ∷ []))
