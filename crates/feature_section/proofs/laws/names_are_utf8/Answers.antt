use Rattle.feature_section.proofs.Utf8.{read_utf8, union_utf8}
use Rattle.feature_section.proofs.laws.names_are_utf8.Goals as goal

pub returns-clause-read : goal.returns-clause-read
returns-clause-read c = read_utf8

pub returns-clause-union : goal.returns-clause-union
returns-clause-union c = union_utf8
