use Rattle.program_tables.proofs.Typing.{all_typed}
use Rattle.std.proofs.Common.{◌∙◌, sym, subst}
use Rattle.program_tables.specs.Types.{AreNumbered}
use Rattle.program_tables.proofs.types.all_types.Goals as goal

pub returns-clause-typed : goal.returns-clause-typed
returns-clause-typed c =
    all_typed c.new-table.result c.number_of.new.table c.numbers_of.new.table c.numbers_for.new.table c.in_ok-types.types c.in_ok-numbers.numbers c.args.objects.now c.new-table.ensures c.in_ok-number_of.ensures.types
    c.in_ok-numbers.ensures.keep c.in_ok-variants.ensures.keep c.in_ok-numbers.ensures.rows (c.in_ok-types.ensures ∙ c.types.ensures)

pub returns-clause-variants : goal.returns-clause-variants
returns-clause-variants c =
    subst (λ types. AreNumbered types c.in_ok-variants.variants c.args.variants.now) (sym (c.in_ok-types.ensures ∙ c.types.ensures)) c.in_ok-variants.ensures.numbers
