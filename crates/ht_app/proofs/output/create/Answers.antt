use Rattle.std.proofs.Common.{refl}
use Rattle.ht_app.proofs.WritingLaws.{has_made, make_stops}
use Rattle.ht_app.proofs.output.create.Goals as goal

pub returns-in-Ok-clause-does : goal.returns-in-Ok-clause-does
returns-in-Ok-clause-does g c = record {
  tries = record {
    ends = λ ports before first h permits.
        has_made c.args.port h c.args.name.now permits c.in-Ok.ensures.frame c.in-Ok.ensures.created;
  };
  only = tt;
}

pub returns-in-Err-clause-does : goal.returns-in-Err-clause-does
returns-in-Err-clause-does g c = record {
  tries = record {
    ends = λ ports before first h permits.
        make_stops c.args.port h c.args.name.now permits c.in-Err.ensures.frame c.in-Err.ensures.failed;
  };
  only = refl;
}
