use Rattle.std.proofs.Common.{◌≡◌, false, true, rules}
use Rattle.ht_causes.specs.Seats.{alone, comes, dies, idle}
use Rattle.ht_causes.proofs.AssignLaws.{comes_to, dies_alike}
use Rattle.ht_causes.proofs.assign.find_seat.Goals as goal

pub returns-then-not-live-clause-seated : goal.returns-then-not-live-clause-seated
returns-then-not-live-clause-seated c = λ vector good values.
    let off : c.args.live ≡ false = search rules in
    idle off

pub returns-then-not-holds-clause-seated : goal.returns-then-not-holds-clause-seated
returns-then-not-holds-clause-seated c = λ vector good values. alone

pub returns-in-Dies-clause-seated : goal.returns-in-Dies-clause-seated
returns-in-Dies-clause-seated c = λ vector good values.
    let on : c.args.holds ≡ true = search rules in
    let empty = c.requires.holds on in
    dies (dies_alike c.args.arrivals.now.circuit vector good c.args.fault c.args.track.now c.fault.result empty
    (c.fault.ensures.shows vector good values) c.in-Dies.is) empty

pub returns-in-AtStem-clause-seated : goal.returns-in-AtStem-clause-seated
returns-in-AtStem-clause-seated c = λ vector good values.
    let on : c.args.holds ≡ true = search rules in
    comes c.in-AtStem.net.0 c.in-AtStem.value c.seat_at.result c.seat_at.new.firsts
    (comes_to c.args.arrivals.now.circuit vector good c.args.fault c.args.track.now c.fault.result
    (c.requires.holds on) (c.fault.ensures.shows vector good values) c.in-AtStem.net c.in-AtStem.value c.in-AtStem.is)
    c.seat_at.ensures

pub returns-in_default-clause-seated : goal.returns-in_default-clause-seated
returns-in_default-clause-seated c = λ vector good values. alone
