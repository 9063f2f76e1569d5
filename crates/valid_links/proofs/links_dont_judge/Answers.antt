use Rattle.link_runs.specs.link_facts.Facts.{bytes_of}
use Rattle.link_runs.specs.link_facts.link_worlds.link_rules.LinkOf.{link_of}
use Rattle.valid_links.proofs.Candidates.{candidates_read}
use Rattle.valid_links.proofs.NoCheck.{link_free, not_check}
use Rattle.valid_links.proofs.links_dont_judge.Goals as goal

pub returns : goal.returns
returns c = λ plan files at is. not_check (link_of plan files) at (link_free plan files (λ all found c h. (bytes_of files c, candidates_read files plan all found c h))) is
