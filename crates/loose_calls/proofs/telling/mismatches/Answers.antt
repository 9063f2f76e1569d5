use Rattle.std.proofs.Common.{sym, ◌∙◌}
use Rattle.loose_calls.proofs.Listing.{all_are}
use Rattle.loose_calls.proofs.telling.mismatches.Goals as goal

pub returns : goal.returns
returns g c = λ p is are. c.in_ok-told.ensures ∙ sym (all_are c.args.mode g.allow c.args.entries.objects.now p is are)
