use Rattle.std.proofs.Common.{◌≡◌, Bool, sym, subst}
use Rattle.ht_app.proofs.Common.{DeskView, Err, RunError}
use Rattle.ht_ports.specs.Desk.{Wrote}
use Rattle.ht_app.specs.Run.{err_line}
use Rattle.ht_app.proofs.err_line.write_line.Goals as goal

-- the line of the error that the run ended by
written_as : {e kind : RunError} {ok : Bool} {a b : DeskView} → e ≡ kind → Wrote Err (err_line kind) ok a b
    → Wrote Err (err_line e) ok a b
written_as {ok = ok} {a = a} {b = b} is wrote =
    subst (λ (k : RunError). Wrote Err (err_line k) ok a b) (sym is) wrote

pub returns-in-Usage : goal.returns-in-Usage
returns-in-Usage g c = written_as c.in-Usage.is c.write_all.ensures

pub returns-in-TooLong : goal.returns-in-TooLong
returns-in-TooLong g c = written_as c.in-TooLong.is c.write_all-in-TooLong.ensures

pub returns-in-ReadFault : goal.returns-in-ReadFault
returns-in-ReadFault g c = written_as c.in-ReadFault.is c.write_all-in-ReadFault.ensures

pub returns-in-BadStart : goal.returns-in-BadStart
returns-in-BadStart g c = written_as c.in-BadStart.is c.write_numbered.ensures

pub returns-in-BadTests : goal.returns-in-BadTests
returns-in-BadTests g c = written_as c.in-BadTests.is c.write_numbered-in-BadTests.ensures

pub returns-in-TooManyVectors : goal.returns-in-TooManyVectors
returns-in-TooManyVectors g c = written_as c.in-TooManyVectors.is c.write_all-in-TooManyVectors.ensures

pub returns-in-BadResponses : goal.returns-in-BadResponses
returns-in-BadResponses g c = written_as c.in-BadResponses.is c.write_numbered-in-BadResponses.ensures

pub returns-in-NoSuchFault : goal.returns-in-NoSuchFault
returns-in-NoSuchFault g c = written_as c.in-NoSuchFault.is c.write_numbered-in-NoSuchFault.ensures

pub returns-in-BadFaults : goal.returns-in-BadFaults
returns-in-BadFaults g c = written_as c.in-BadFaults.is c.write_numbered-in-BadFaults.ensures
