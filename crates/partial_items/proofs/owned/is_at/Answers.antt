use Rattle.partial_items.proofs.Owners.{is_near}
use Rattle.partial_items.proofs.owned.is_at.Goals as goal

pub returns-in-Some : goal.returns-in-Some
returns-in-Some c = λ same. is_near c.args.objects.now c.args.place c.args.input c.in-Some.own c.requires c.in-Some.ensures same
