use Rattle.std.proofs.Common.{subst}
use Rattle.name_entries.specs.View.{entry_at}
use Rattle.name_entries.specs.Shown.{AreShown}
use Rattle.name_jobs.proofs.Asked.{shown_parts}
use Rattle.name_jobs.proofs.by_name.symbol_offer.Goals as goal

pub rank-rank-requires-clause-class : goal.rank-rank-requires-clause-class
rank-rank-requires-clause-class c =
    let es = c.args.entries.now in let names = es.names.now.names in let os = es.objects.now in
    (shown_parts names os c.in_ok-entry.entry c.args.object c.args.place c.requires.inputs
    (subst (λ r. AreShown names r (entry_at os c.args.object c.args.place)) c.in_ok-entry.was c.entry.ensures)).0

pub rank-rank-requires-clause-input : goal.rank-rank-requires-clause-input
rank-rank-requires-clause-input c =
    let es = c.args.entries.now in let names = es.names.now.names in let os = es.objects.now in
    (shown_parts names os c.in_ok-entry.entry c.args.object c.args.place c.requires.inputs
    (subst (λ r. AreShown names r (entry_at os c.args.object c.args.place)) c.in_ok-entry.was c.entry.ensures)).1
