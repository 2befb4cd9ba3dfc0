use Rattle.std.proofs.Common.{ℕ, List}
use Rattle.ht_entries.specs.declared.line_items.Machine.{Machine}
use Rattle.ht_entries.specs.ByCubes.{machine_word, IsAnyBit}
use Rattle.ht_entries.specs.ItemTexts.{spaced, IsNextItem}
use Rattle.ht_entries.proofs.CubesTextLaws.{bit_plain, machine_plain, no_bit_no_rail, no_machine_no_rail, no_number_no_rail, number_plain, rail_is_next}
use Rattle.ht_entries.proofs.line_items.RailItem.next.Goals as goal

-- a machine that a text begins with, by whether it is the faulty one
by_fault : (text rest : List ℕ) (machine : Machine) → IsNextItem (spaced (λ (m : Machine). machine_word m.faulty))
    (λ (m : Machine). IsAnyBit m.faulty) text machine rest
    → IsNextItem (spaced machine_word) IsAnyBit text machine.faulty rest
by_fault text rest machine next = record { parts = next.parts; has_text = next.has_text; ends = next.ends }

pub next_parsed-requires : goal.next_parsed-requires
next_parsed-requires c = λ machine. machine_plain machine.faulty

pub next_parsed-requires-2 : goal.next_parsed-requires-2
next_parsed-requires-2 c = number_plain

pub next_parsed-requires-3 : goal.next_parsed-requires-3
next_parsed-requires-3 c = bit_plain

pub returns-in_err-machine : goal.returns-in_err-machine
returns-in_err-machine c = rw c.from_residual.ensures (no_machine_no_rail c.args.text.now
    (λ faulty. c.in_err-machine.ensures (record { faulty = faulty })))

pub returns-in_err-number : goal.returns-in_err-number
returns-in_err-number c = rw c.from_residual-in_err-number.ensures (no_number_no_rail c.args.text.now
    c.in_ok-machine.rest.now c.in_ok-machine.machine.faulty
    (by_fault c.args.text.now c.in_ok-machine.rest.now c.in_ok-machine.machine c.in_ok-machine.ensures)
    c.in_err-number.ensures)

pub returns-in_err-value : goal.returns-in_err-value
returns-in_err-value c = rw c.from_residual-in_err-value.ensures (no_bit_no_rail c.args.text.now
    c.in_ok-machine.rest.now c.in_ok-number.rest.now c.in_ok-machine.machine.faulty c.in_ok-number.number
    (by_fault c.args.text.now c.in_ok-machine.rest.now c.in_ok-machine.machine c.in_ok-machine.ensures)
    c.in_ok-number.ensures c.in_err-value.ensures)

pub returns : goal.returns
returns c = rail_is_next c.args.text.now c.in_ok-machine.rest.now c.in_ok-number.rest.now c.in_ok-value.rest.now
    c.in_ok-machine.machine.faulty c.in_ok-number.number c.in_ok-value.value
    (by_fault c.args.text.now c.in_ok-machine.rest.now c.in_ok-machine.machine c.in_ok-machine.ensures)
    c.in_ok-number.ensures c.in_ok-value.ensures
