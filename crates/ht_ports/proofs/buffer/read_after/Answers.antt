use Rattle.std.proofs.Common.{◌≤◌, ◌-◌, take, length, arith, rules}
use Rattle.std.proofs.lemmas.List.{length-take-le}
use Rattle.ht_ports.proofs.BufferLaws.{take-written}
use Rattle.ht_ports.proofs.buffer.read_after.Goals as goal

pub returns-clause-took : goal.returns-clause-took
returns-clause-took g c =
    let n = c.in_ok-count.count in
    let ys = c.read.new.buf in
    let few : n ≤ length ys = search rules in
    record {
      more = take n ys;
      bytes = take-written c.args.at (length c.args.buf.now - c.args.at) n c.args.buf.now ys (omega arith) few;
      count = length-take-le n ys few;
      took = record {
        took = c.in_ok-count.ensures.took.took;
        at_end = λ none some. c.in_ok-count.ensures.took.at_end
            none (search rules);
      };
    }
