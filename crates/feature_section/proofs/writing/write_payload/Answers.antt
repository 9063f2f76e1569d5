use Rattle.std.proofs.Common.{rules}
use Rattle.feature_section.specs.Section.{features_payload}
use Rattle.feature_section.proofs.Written.{written_spells}
use Rattle.feature_section.proofs.writing.write_payload.Goals as goal

pub returns-clause-spells : goal.returns-clause-spells
unfolding features_payload
returns-clause-spells c = λ names. written_spells c.args.names.now _ (search rules) (record { count = c.in_ok-put_names.ensures.count; each = c.in_ok-put_names.ensures.each }) names
