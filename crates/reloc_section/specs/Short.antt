-- An entry of which all but the addend is read.
use Rattle.std.specs.Prelude.{ℕ, Ok}
use Rattle.wasm_grammar.specs.Reading.{Read, ◌>>=◌}
use Rattle.reloc_section.specs.declared.entry.Reloc.{Reloc}
use Rattle.reloc_section.specs.Relocs.{addend_at}

abbrev pub with_addend : ℕ → ℕ → ℕ → Read Reloc
with_addend kind offset index end bytes = do
  addend ← addend_at kind end bytes
  Ok (record { kind = kind; offset = offset; index = index; addend = addend.0 }, addend.1)
