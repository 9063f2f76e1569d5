use Rattle.std.proofs.Common.{◌∙◌}
use Rattle.name_entries.specs.made_symbols.declared.mode.Mode.TheVariants.{Plain}
use Rattle.name_jobs.proofs.Made.{name_words_at, name_ranks_at, few_names_at}
use Rattle.name_tests.proofs.asked.names_asked.Goals as goal

pub race-requires-clause-jobs : goal.race-requires-clause-jobs
race-requires-clause-jobs g c κs within =
    let es = c.args.entries in
    few_names_at es.names.now.names Plain es.objects.now c.in_ok-jobs.jobs.jobs (c.in_ok-jobs.ensures ∙ c.new.ensures) c.requires.objects.inputs

pub race-requires-clause-words : goal.race-requires-clause-words
race-requires-clause-words g c κs within =
    let es = c.args.entries in
    name_words_at es.names.now.names Plain es.objects.now c.in_ok-jobs.jobs.jobs c.count.result (c.in_ok-jobs.ensures ∙ c.new.ensures) c.count.ensures

pub race-requires-clause-ranks : goal.race-requires-clause-ranks
race-requires-clause-ranks g c κs within =
    let es = c.args.entries in
    name_ranks_at Plain es.objects.now es.names.now c.in_ok-jobs.jobs.jobs (c.in_ok-jobs.ensures ∙ c.new.ensures) c.requires.numbers c.requires.objects.inputs
