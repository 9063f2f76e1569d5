use Rattle.std.proofs.Common.{length, ap, ◌∙◌, []}
use Rattle.std.specs.Prelude.{unwrap_or}
use Rattle.std.proofs.lemmas.Option.{unwrap_or-slice_get}
use Rattle.name_tests.proofs.unresolved.count.Goals as goal

pub returns-in-None : goal.returns-in-None
returns-in-None c = ap length (ap (λ o. unwrap_or o []) c.in-None.ensures ∙ unwrap_or-slice_get c.args.rows.now c.args.input [])
