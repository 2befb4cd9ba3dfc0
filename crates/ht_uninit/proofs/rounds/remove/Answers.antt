use Rattle.std.proofs.Common.{refl}
use Rattle.ht_uninit.proofs.ResultLaws.{both_ok}
use Rattle.ht_uninit.proofs.rounds.remove.Goals as goal

pub returns : goal.returns
returns c =
    let both =
    both_ok c.note_removal-noted.result c.without.result c.and.result c.in_ok-held.held c.and.ensures c.in_ok-held.was in
    record {
      circuit = rw both.1 at c.without.ensures.circuit;
      members = rw both.1 at c.without.ensures.members;
      fresh = rw both.1 at c.without.ensures.path;
      removed = rw both.0.1 at c.note_removal-noted.ensures.removed;
      walks = rw both.0.1 at c.note_removal-noted.ensures.walks;
      before = refl;
    }
