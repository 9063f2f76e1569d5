use Rattle.std.proofs.Common.{fold, [], ap, ◌∙◌}
use Rattle.std.specs.List.{cons_option}
use Rattle.link_program.specs.declared.part.Part.{Part}
use Rattle.link_program.specs.Look.{part_at}
use Rattle.link_keys.specs.Types.{type_in, with_numbered}
use Rattle.link_keys.proofs.Steps.{items_more, items_folded, filters_more, folds_more}
use Rattle.link_keys.proofs.types.TypeNumbers.push_own.Goals as goal

pub loop-number-preserved : goal.loop-number-preserved
loop-number-preserved c =
    items_folded (λ n. type_in c.args.linkers c.args.tables.now.types (part_at c.args.tables.now n)) c.args.live.now c.loop-number.number-index 0 c.loop-number-test.true with_numbered _ _ _ c.loop-number.invariant
    (c.in_ok-push_part.ensures
    ∙ ap (λ ts. fold with_numbered c.loop-number.self (cons_option (type_in c.args.linkers ts c.part_at-part.result) [])) c.as_slice.ensures
    ∙ ap (λ (q : Part). fold with_numbered c.loop-number.self (cons_option (type_in c.args.linkers c.args.tables.now.types q) [])) c.part_at-part.ensures)
