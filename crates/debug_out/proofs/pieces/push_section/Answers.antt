use Rattle.std.proofs.Common.{rules}
use Rattle.debug_out.proofs.Grouped.{section_pieces, section_fits}
use Rattle.debug_out.proofs.pieces.push_section.Goals as goal

pub returns-clause-bytes : goal.returns-clause-bytes
returns-clause-bytes c = λ ds p has stand.
    section_pieces c.args.names.now.names c.args.groups.now ds p c.args.n c.name-name.result.now c.in-Some.first.now.name c.length_at-len.result c.members_at-members.result.now
    c.args.out.now c.push_head.new.out c.push_members.new.out
    c.name-name.ensures.name c.name-name.ensures.own (search rules) (search rules) (search rules) (search rules) (search rules) has stand

pub returns-clause-fit : goal.returns-clause-fit
returns-clause-fit c = λ ds has stand fit.
    section_fits c.args.names.now.names c.args.groups.now ds c.args.n c.name-name.result.now c.in-Some.first.now.name _ _ c.members_at-members.result.now
    c.args.out.now c.push_head.new.out c.push_members.new.out
    c.name-name.ensures.own (search rules) c.in_ok-push_head.ensures c.in_ok-push_members.ensures has stand fit
