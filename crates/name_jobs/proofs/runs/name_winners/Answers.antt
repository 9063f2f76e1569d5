use Rattle.name_jobs.proofs.Made.{name_words_at, name_ranks_at, few_names_at}
use Rattle.name_jobs.proofs.Races.{winners_are, none_past}
use Rattle.name_jobs.proofs.runs.name_winners.Goals as goal

pub race-requires-clause-jobs : goal.race-requires-clause-jobs
race-requires-clause-jobs g c κs within =
    let es = c.args.entries in
    few_names_at es.names.now.names c.args.mode es.objects.now c.new-jobs.result c.new-jobs.ensures c.requires.objects.inputs

pub race-requires-clause-words : goal.race-requires-clause-words
race-requires-clause-words g c κs within =
    let es = c.args.entries in
    name_words_at es.names.now.names c.args.mode es.objects.now c.new-jobs.result c.count-names.result c.new-jobs.ensures c.count-names.ensures

pub race-requires-clause-ranks : goal.race-requires-clause-ranks
race-requires-clause-ranks g c κs within =
    let es = c.args.entries in
    name_ranks_at c.args.mode es.objects.now es.names.now c.new-jobs.result c.new-jobs.ensures c.requires.numbers c.requires.objects.inputs

pub returns-clause-won : goal.returns-clause-won
returns-clause-won g c =
    let es = c.args.entries in
    winners_are c.args.mode es.objects.now es.names.now c.new-jobs.result c.in_ok-winners.winners c.requires.numbers c.new-jobs.ensures c.in_ok-winners.ensures

pub returns-clause-past : goal.returns-clause-past
returns-clause-past g c =
    let es = c.args.entries in
    none_past c.args.mode es.objects.now es.names.now c.new-jobs.result c.in_ok-winners.winners c.new-jobs.ensures c.in_ok-winners.ensures
