use Rattle.std.proofs.Common.{◌≡◌, subst, true, List, ℕ}
use Rattle.std.specs.Prelude.{IfSome}
use Rattle.link_core.specs.Whole.{told_calls}
use Rattle.link_command.specs.Command.{planned}
use Rattle.link_command.proofs.Would.{would_tell}
use Rattle.link_command.proofs.calls.tell_calls.Goals as goal

pub returns-clause-told : goal.returns-clause-told
returns-clause-told g c =
    would_tell (planned true true c.args.asked.now c.args.words.now) c.in-Ok.plan (g.F.Shelf.shown c.args.shelf.now) c.args.words.now c.in-Ok-files.files c.told_of.result c.in-Ok.ensures.plan c.in-Ok-files.ensures.files
    (subst (λ (fs : List (List ℕ)). IfSome c.told_of.result (λ told. told ≡ told_calls c.in-Ok.plan fs)) c.as_slice.ensures c.told_of.ensures)
