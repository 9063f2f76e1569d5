use Rattle.std.proofs.Common.{Some, sym, ◌∙◌}
use Rattle.name_jobs.proofs.Asked.{made_answer}
use Rattle.name_jobs.proofs.by_name.made_offer.Goals as goal

pub returns : goal.returns
returns c =
    made_answer c.args.names.now.names c.args.mode c.args.names.now.made c.requires.numbers c.args.k (Some c.in_ok-word.word) (sym c.made.ensures
    ∙ c.in_ok-word.was)
    c.class.result c.rank-rank.result c.class.ensures c.rank-rank.ensures
