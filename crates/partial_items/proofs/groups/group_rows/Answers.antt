use Rattle.std.proofs.Common.{ap, ◌∙◌, length}
use Rattle.partial_items.specs.Groups.{Won, rows_from, all_won}
use Rattle.partial_items.proofs.Winning.{groups_are}
use Rattle.partial_items.proofs.groups.group_rows.Goals as goal

pub returns : goal.returns
returns c = λ d p l is objects are chunks counted won.
    c.in_ok-rows.ensures
    ∙ ((λ i. rows_from c.args.objects.now (c.members.ensures i) 0 (c.groups.ensures i))
    ∙ ((λ i. rows_from (objects i) (won i).members 0 (won i).groups)
    ∙ ((λ i. rows_from (is.objects i) (all_won l (length d.names.now.names) d.names.now.groups (is.objects i)).members 0 (all_won l (length d.names.now.names) d.names.now.groups (is.objects i)).groups)
    ∙ groups_are d p is l are chunks counted)))
