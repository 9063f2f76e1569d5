use Rattle.body_check.proofs.Doing.{does_tabled}
use Rattle.body_check.proofs.quick.local_next.Goals as goal

pub returns-in-Some : goal.returns-in-Some
returns-in-Some c = λ bytes e.
    does_tabled c.args._context.now c.args._kind.now c.args._locals.now c.args.end bytes c.args.opcode c.args.behind.now e c.in-Ok.local c.in-Some.of c.in-Ok.rest.now _ c.requires.class c.in-Ok.ensures
    (c.in-Some.ensures c.args._kind.now.params c.args._locals.now c.requires.table) c.local_effect.ensures
