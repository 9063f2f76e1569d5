use Rattle.std.proofs.Common.{rules}
use Rattle.library_indexer.proofs.Names.{gives_on}
use Rattle.library_indexer.proofs.entries.give_names.Goals as goal

pub loop-at-preserved : goal.loop-at-preserved
loop-at-preserved c =
    gives_on c.args.object.now.symbols c.loop-at.at c.args.place c.loop-at.entries c.give_at.new.entries _ (search rules) c.in_ok-give_at.ensures c.loop-at.invariant
