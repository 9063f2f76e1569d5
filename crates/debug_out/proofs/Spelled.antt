-- No bytes spell no relocations.
use Rattle.std.proofs.Common.{◌≡◌, List, [], refl}
use Rattle.leb_codec.specs.Reading.{number_at, end_of, end_within}
use Rattle.wasm_grammar.specs.Reading.{u32_at, whole}
use Rattle.reloc_section.specs.Relocs.{reloc_section_at}
use Rattle.debug_out.specs.Refs.{entries_of}

pub none_in_nothing : entries_of [] ≡ []
unfolding whole reloc_section_at u32_at number_at end_of end_within
none_in_nothing = refl
