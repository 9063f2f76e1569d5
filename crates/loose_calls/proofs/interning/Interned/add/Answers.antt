use Rattle.std.proofs.Common.{ap, ◌∙◌, ◌++◌, ◌∷◌, [], Some}
use Rattle.program_tables.specs.link_program.declared.symbol.Lead.TheVariants.{Null}
use Rattle.loose_calls.proofs.interning.Interned.add.Goals as goal

pub returns : goal.returns
returns c = record {
  symbols = c.in_ok-push.ensures.ok ∙ ap (λ l. l ++ record { kind = c.args.variant.now.kind; name = Some c.args.number; lead = Null } ∷ []) c.in_ok-add_type.ensures.symbols;
  types = c.in_ok-add_type.ensures.types;
}
