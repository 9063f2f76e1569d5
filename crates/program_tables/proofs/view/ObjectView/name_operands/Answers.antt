use Rattle.std.proofs.Common.{arith, [], length, map, ap, sym, ◌∙◌, ◌≡◌, ◌≤◌, ◌<◌}
use Rattle.std.specs.Prelude.{filter_map}
use Rattle.std.proofs.lemmas.List.{length-map, take_all}
use Rattle.link_program.specs.body_windows.Operands.{operand_of}
use Rattle.program_tables.specs.Views.{view_seen}
use Rattle.program_tables.specs.Rows.{operand_named}
use Rattle.program_tables.proofs.Steps.{kept_more, mapped_item}
use Rattle.program_tables.proofs.Spread.{spread_named}
use Rattle.program_tables.proofs.view.ObjectView.name_operands.Goals as goal

pub loop-reference-preserved : goal.loop-reference-preserved
loop-reference-preserved c =
    let g = operand_named (view_seen c.args.self) in
    let refs = c.args.operands.references.now in
    let counted : length (map operand_of refs) ≡ length refs = length-map refs operand_of in
    let inside : c.loop-reference.reference-index < length refs = omega arith in
    kept_more g (map operand_of refs) c.loop-reference.reference-index [] c.loop-reference.row c.push_some.new.items c.operand_named.result (omega arith) c.loop-reference.invariant
    (λ x at. c.operand_named.ensures ∙ ap g (c.operand.ensures ∙ mapped_item operand_of refs c.loop-reference.reference-index _ x inside at)) c.in_ok-push_some.ensures

pub returns : goal.returns
returns c =
    let g = operand_named (view_seen c.args.self) in
    let refs = c.args.operands.references.now in
    let counted : length (map operand_of refs) ≡ length refs = length-map refs operand_of in
    let past : length (map operand_of refs) ≤ c.loop-reference.reference-index = omega arith in
    c.loop-reference.invariant ∙ ap (filter_map g) (take_all c.loop-reference.reference-index (map operand_of refs) past)
    ∙ sym (spread_named (view_seen c.args.self) refs c.args.operands.behind)
