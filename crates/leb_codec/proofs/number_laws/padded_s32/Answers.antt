use Rattle.leb_codec.proofs.Computed.{s32_padded_spelled, s32_padded_length}
use Rattle.leb_codec.proofs.number_laws.padded_s32.Goals as goal

pub returns-clause-spells : goal.returns-clause-spells
returns-clause-spells c = s32_padded_spelled

pub returns-clause-five : goal.returns-clause-five
returns-clause-five c = s32_padded_length
