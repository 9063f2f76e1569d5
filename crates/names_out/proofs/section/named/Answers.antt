use Rattle.std.proofs.Common.{map, rules}
use Rattle.name_section.specs.Names.{named_seen}
use Rattle.names_out.proofs.Listed.{labels_more}
use Rattle.names_out.proofs.section.named.Goals as goal

pub loop-index-preserved : goal.loop-index-preserved
loop-index-preserved c =
    labels_more c.args.labels.now c.loop-index.index _ (search rules) (map named_seen c.loop-index.names) _ _ c.in_ok-push_named.ensures c.loop-index.invariant
