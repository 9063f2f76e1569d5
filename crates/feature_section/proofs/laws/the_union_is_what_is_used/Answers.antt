use Rattle.feature_section.proofs.UnionLaws.{union_used, union_sorted}
use Rattle.feature_section.proofs.laws.the_union_is_what_is_used.Goals as goal

pub returns-clause-used : goal.returns-clause-used
returns-clause-used c = union_used

pub returns-clause-sorted : goal.returns-clause-sorted
returns-clause-sorted c = union_sorted
