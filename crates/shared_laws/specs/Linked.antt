-- What a link gives of the words of a shared output: the places that `__wasm_apply_data_relocs` stores into, and the cells that it reads.
use Rattle.std.specs.Prelude.{◌≡◌, ℕ, ◌≤◌, Bool, true, false, List, [], ◌∷◌, length, None, codes}
use Rattle.list_places.specs.Has.{Has, Apart}
use Rattle.linking_section.specs.declared.symbol.SymbolKind.TheVariants.{Datum}
use Rattle.wasm_types.specs.declared.value.ValType.TheVariants.{I32}
use Rattle.made_symbols.specs.declared.mode.Mode.TheVariants.{Shared}
use Rattle.mark_bits.specs.declared.kinds.TheConstants as chunks
use Rattle.name_rules.specs.Entries.{InputSymbol, ImportKey, of_global, entries, is_kind}
use Rattle.name_rules.specs.Meanings.{here}
use Rattle.dylink_out.specs.declared.word.WordReloc.{WordReloc}
use Rattle.dylink_out.specs.Loading.{AreLinked}
use Rattle.link_rules.specs.Program.{Program, Part, Ref, refs, chunk_at}
use Rattle.link_rules.specs.Marks.{live}
use Rattle.link_rules.specs.Keys.{global_imports_in}
use Rattle.link_rules.specs.Values.{Layout}
use Rattle.link_rules.specs.Loader.{words}
use Rattle.link_rules.specs.Output.{layout}
use Rattle.link_rules.specs.LinkOf.{memory_fault, table_fault}
use Rattle.link_facts.specs.link_worlds.Sound.{same_part}
use Rattle.program_build.specs.link_program.Stand.{PartsStand}

-- ---- the layout and the words of a shared link that exports these winners

abbrev pub shared_layout : Program → List InputSymbol → Layout
shared_layout p exports = layout Shared p (live p exports) exports

abbrev pub shared_words : Program → List InputSymbol → List WordReloc
shared_words p exports = words Shared p (live p exports) (shared_layout p exports)

-- How many globals it imports: their numbers come before those of its own.
abbrev pub import_count : Program → List InputSymbol → ℕ
import_count p exports = length (global_imports_in Shared p (live p exports))

-- The linker's three, which come first.
abbrev pub linkers : List ℕ → Bool → ImportKey
linkers name var = record { module_name = codes "env"; field = name; type = of_global (record { kind = I32; var = var }) }

abbrev pub the_linkers : List ImportKey
the_linkers = linkers (codes "__stack_pointer") true ∷ linkers (codes "__memory_base") false ∷ linkers (codes "__table_base") false ∷ []

-- ---- what holds of a program of loaded objects

-- A datum of an object lies in a segment that is a part.
pub record LiesInPart (p : Program) (e : InputSymbol) : Type 0 where
  pub part : Part
  pub there : Has p.parts part
  pub chunk : part.chunk ≡ chunk_at e.input chunks.SEGMENT e.index
  pub inside : e.symbol.offset ≤ part.source.span.len

-- The entries are those of a shared output, parts stand in their files, no two have one chunk, and the data that references mean lie in segments.
pub record SharedStands (p : Program) : Type 0 where
  pub entries_are : p.entries ≡ entries Shared p.objects
  pub stand : PartsStand p
  pub apart : Apart same_part p.parts
  pub datum : (part : Part) (ref : Ref) (e : InputSymbol) → Has p.parts part → Has (refs part) ref → ref.meaning ≡ here e → is_kind Datum e ≡ true → (e.input ≡ 0 → ⊥) → LiesInPart p e

-- Where neither the memory nor the table overflows, windows rise, lie apart and end within the data, own cells rise behind the imports, and
-- what is read is imported.
abbrev pub WordsAreLinked : Type 0
WordsAreLinked = (p : Program) (exports : List InputSymbol) → SharedStands p → memory_fault Shared p (live p exports) ≡ None → table_fault (shared_layout p exports) ≡ None
    → AreLinked (import_count p exports) (length (shared_layout p exports).numbers.globals) (shared_layout p exports).places.data_end (shared_words p exports)
