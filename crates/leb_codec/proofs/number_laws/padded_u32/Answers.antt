use Rattle.leb_codec.proofs.Computed.{u32_padded_spells, u32_padded_length}
use Rattle.leb_codec.proofs.number_laws.padded_u32.Goals as goal

pub returns-clause-spells : goal.returns-clause-spells
returns-clause-spells c = u32_padded_spells

pub returns-clause-five : goal.returns-clause-five
returns-clause-five c = u32_padded_length
