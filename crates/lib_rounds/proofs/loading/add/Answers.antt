use Rattle.std.proofs.Common.{sym}
use Rattle.lib_index.specs.Table.{shown}
use Rattle.lib_rounds.proofs.Adding.{lie_is, fails_same}
use Rattle.lib_rounds.proofs.loading.add.Goals as goal

pub returns-in-Some : goal.returns-in-Some
returns-in-Some g c =
    let l = c.in_ok-load.ensures in
    fails_same c.lies.result _ _
    (lie_is g.c l.0 c.args.wanted.now.names (shown c.args.definers.now) (shown c.load.new.definers) c.args.wanted.now.offer.input l.1 l.3
    c.requires.1.1.1 c.requires.0.input _ (sym c.in-Some.ensures))
    c.lies.ensures
