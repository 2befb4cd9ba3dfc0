use Rattle.ht_bench.proofs.ProgressLaws.{reading_none, reading_within, reading_more}
use Rattle.ht_bench.proofs.reader.add_lines.Goals as goal

pub loop-line-init : goal.loop-line-init
loop-line-init c = reading_none c.args.text.now c.args.builder.now c.requires.new

pub add_line-requires : goal.add_line-requires
add_line-requires c = reading_within c.loop-line.invariant

pub loop-line-preserved : goal.loop-line-preserved
loop-line-preserved c =
    reading_more c.in-Some.line.now c.in-Some.more.now c.loop-line.invariant c.in-Some.ensures.first
    c.in-Some.ensures.shorter c.in_default-add_line.ensures.adds
