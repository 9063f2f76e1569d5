use Rattle.leb_codec.proofs.Ranges.{u32_range, s32_range, s33_range, s64_range}
use Rattle.leb_codec.proofs.number_laws.spelled_in_range.Goals as goal

pub returns-clause-of_u32 : goal.returns-clause-of_u32
returns-clause-of_u32 c = u32_range

pub returns-clause-of_s32 : goal.returns-clause-of_s32
returns-clause-of_s32 c = s32_range

pub returns-clause-of_s33 : goal.returns-clause-of_s33
returns-clause-of_s33 c = s33_range

pub returns-clause-of_s64 : goal.returns-clause-of_s64
returns-clause-of_s64 c = s64_range
