use Rattle.loose_calls.proofs.finding.calls_in.Goals as goal

pub all_calls-requires : goal.all_calls-requires
all_calls-requires g c = record { fits = c.requires.0; resolution = c.requires.1; judges = c.in_ok-judges.ensures; count = c.in_ok-count.ensures }

pub returns : goal.returns
returns g c = c.in_ok-calls.ensures
