use Rattle.std.proofs.Common.{map}
use Rattle.debug_out.specs.Refs.{debug_seen}
use Rattle.debug_out.proofs.Tail.{whole_of}
use Rattle.debug_out.proofs.joining.tail_of.Goals as goal

pub returns-clause-told : goal.returns-clause-told
returns-clause-told c = λ p. c.judged.ensures.told (map debug_seen c.args.all.now) p c.in_ok-names.ensures c.in_ok-groups.ensures c.requires

pub returns-clause-whole : goal.returns-clause-whole
returns-clause-whole c =
    whole_of c.in_ok-names.names.names c.in_ok-groups.groups (map debug_seen c.args.all.now) c.judged.result c.judged.ensures.whole c.in_ok-groups.ensures c.requires
