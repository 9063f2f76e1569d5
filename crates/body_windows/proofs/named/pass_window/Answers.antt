use Rattle.std.proofs.Common.{rules}
use Rattle.body_windows.proofs.Passing.{passes_window}
use Rattle.body_windows.proofs.named.pass_window.Goals as goal

pub returns : goal.returns
returns c = λ nest some.
    let takes = rw c.if-not-take.false at c.take.ensures in
    let number = c.is_window.ensures (search rules) in
    passes_window c.args.from c.args.bytes.now c.args.merger.now c.take.new.self nest c.args.course c.args.mid c.clear.result c.args.kind
    c.requires.stands some c.requires.behind c.requires.named number c.requires.ends takes c.clear.ensures
