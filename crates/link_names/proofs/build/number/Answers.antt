use Rattle.link_names.proofs.More.{takes}
use Rattle.link_names.proofs.build.number.Goals as goal

pub returns : goal.returns
returns c = takes c.args.table.now c.intern.new.self c.args.name.now c.intern.result c.intern.ensures c.requires
