use Rattle.std.proofs.Common.{rules, ◌∙◌}
use Rattle.partial_bytes.proofs.Laid.{section_laid, section_fit}
use Rattle.partial_bytes.proofs.laying.push_section.Goals as goal

pub returns-clause-bytes : goal.returns-clause-bytes
returns-clause-bytes c =
    section_laid c.args.id c.args.kind c.args.parts.now c.args.out.now c.push.new.self c.push_parts.new.out c.in_ok-size.size c.in_ok-count.count (search rules)
    (c.in_ok-size.ensures ∙ c.requires) (c.in_ok-count.ensures) c.in_ok-push.ensures.ok c.in_ok-push_parts.ensures

pub returns-clause-fit : goal.returns-clause-fit
returns-clause-fit c =
    section_fit c.args.id c.args.kind c.args.parts.now c.args.out.now c.push.new.self c.push_parts.new.out c.in_ok-size.size c.in_ok-count.count
    c.in_ok-push.ensures.ok c.in_ok-push_parts.ensures
