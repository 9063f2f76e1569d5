use Rattle.std.proofs.Common.{ap, sym, ◌∙◌}
use Rattle.std.specs.Option.{option_map, option_copied}
use Rattle.object_file.specs.object_columns.Seen.{symbol_seen}
use Rattle.valid_objects.proofs.Named.{no_function, a_function_by}
use Rattle.valid_objects.proofs.meanings.function_by.Goals as goal

pub returns-in-None : goal.returns-in-None
returns-in-None c =
    let at = ap (option_map symbol_seen) (sym c.in-Some.is) ∙ c.get.ensures in
    let index = sym (ap option_copied (sym c.in-None.is) ∙ c.get-2.ensures) in
    no_function c.args.o.now c.args.names.now c.args.symbol (symbol_seen c.in-Some.symbol) c.requires at index

pub returns-in_ok-written_type-in-Some-get : goal.returns-in_ok-written_type-in-Some-get
returns-in_ok-written_type-in-Some-get c =
    let at = ap (option_map symbol_seen) (sym c.in-Some.is) ∙ c.get.ensures in
    let index = sym (ap option_copied (sym c.in-Some-get.is) ∙ c.get-2.ensures) in
    a_function_by c.args.o.now c.args.names.now c.args.symbol (symbol_seen c.in-Some.symbol) c.in-Some-get.index.now c.in_ok-written_type-in-Some-get.field-0 c.requires at index c.in_ok-written_type-in-Some-get.ensures
