use Rattle.std.proofs.Common.{ap, ◌∙◌}
use Rattle.driver_lines.specs.Members.{name_in, long_names, member_name, name_field, member_text}
use Rattle.driver_lines.proofs.Steps.{member_added}
use Rattle.driver_lines.proofs.inputs.add_members.Goals as goal

pub loop-k-preserved : goal.loop-k-preserved
loop-k-preserved c =
    let library = c.args.name.now in
    let bytes = c.args.bytes.now in
    let longs = c.long_names-longs.ensures in
    let field = c.name_field-field.ensures in
    let told = c.in_ok-member_text.ensures ∙ ap (member_text library) (c.member_name.ensures ∙ ap (λ l. member_name l c.name_field-field.result.now) longs
    ∙ ap (member_name (long_names bytes)) field) in
    member_added (name_in library bytes (long_names bytes)) c.args.library.now.members c.loop-k.k c.member.result c.loop-k.names c.push.new.self
    c.in_ok-member_text.field-0 _ c.member.ensures told c.in_ok-push.ensures.ok c.loop-k.invariant
