-- What parts are and name, as the data show it and as the definition has it.
use Rattle.std.specs.Prelude.{ℕ, ℤ, pos, ◌<◌, List, length, slice_index_or, None}
use Rattle.name_meanings.specs.name_entries.wl_base.declared.span.FileSpan.{FileSpan}
use Rattle.name_meanings.specs.name_entries.wasm_types.declared.function.FuncType.{FuncType}
use Rattle.name_meanings.specs.name_entries.wasm_types.declared.table.GlobalType.{GlobalType}
use Rattle.name_meanings.specs.name_entries.wasm_types.declared.const_expr.ConstExpr.{ConstExpr}
use Rattle.name_meanings.specs.name_entries.linking_section.declared.symbol.SymbolKind.TheVariants.{Function as FunctionKind}
use Rattle.name_meanings.specs.name_entries.object_file.Spaces.{no_type}
use Rattle.mark_bits.specs.declared.chunk.Chunk.{Chunk}
use Rattle.name_meanings.specs.name_entries.name_rules.Entries.{ImportKey}
use Rattle.link_rules.specs.Program as rules
use Rattle.link_rules.specs.Program.{Ref, a_symbol, a_type, function, segment, global, linker_made}
use Rattle.link_program.specs.declared.symbol.Symbol.{Symbol}
use Rattle.link_program.specs.declared.symbol.Lead.TheVariants.{Nothing}
use Rattle.link_program.specs.declared.named.Named.{Named}
use Rattle.link_program.specs.declared.named.Named.TheVariants as names
use Rattle.link_program.specs.declared.part.Content.{Content}
use Rattle.link_program.specs.declared.part.Content.TheVariants as contents
use Rattle.link_program.specs.declared.part.Part.{Part}
use Rattle.link_program.specs.Told.{told_symbol}

-- ---- what windows name

-- A reference: where it stands, the type of its relocation, its addend, and the symbol that it names.
pub record SeenRef : Type 0 where
  pub place : ℕ
  pub kind : ℕ
  pub addend : ℤ
  pub symbol : Symbol

pub data SeenNamed : Type 0 where
  seen_symbol : SeenRef → SeenNamed
  seen_type : ℕ → FuncType → SeenNamed

-- where no symbol is
abbrev pub no_symbol : Symbol
no_symbol = record { kind = FunctionKind; name = None; lead = Nothing }

-- What an item of the data shows, by the symbols and the types.
abbrev pub seen_named : List Symbol → List FuncType → Named → SeenNamed
seen_named symbols types (names.Symbol kind place addend symbol) =
    seen_symbol (record { place = place; kind = kind; addend = addend; symbol = slice_index_or symbols symbol no_symbol })
seen_named symbols types (names.Type place number) = seen_type place (slice_index_or types number no_type)

-- The symbol and the type that it names are there.
abbrev pub NamesOne : List Symbol → List FuncType → Named → Type 0
NamesOne symbols types (names.Symbol kind place addend symbol) = symbol < length symbols
NamesOne symbols types (names.Type place number) = number < length types

-- The same of what the definition has.
abbrev pub told_ref : List (List ℕ) → List ImportKey → Ref → SeenRef
told_ref names imports ref = record { place = ref.place; kind = ref.kind; addend = ref.addend; symbol = told_symbol names imports ref.entry ref.meaning }

abbrev pub told_named : List (List ℕ) → List ImportKey → rules.Named → SeenNamed
told_named names imports (a_symbol ref) = seen_symbol (told_ref names imports ref)
told_named names imports (a_type w) = seen_type w.place w.type

-- ---- parts

pub data SeenContent : Type 0 where
  a_function : FuncType → SeenContent
  a_segment : ℕ → ℕ → SeenContent  -- the exponent of its alignment, and its flags
  a_global : GlobalType → ConstExpr → SeenContent
  the_linkers : SeenContent

pub record SeenPart : Type 0 where
  pub chunk : Chunk
  pub content : SeenContent
  pub source : FileSpan

abbrev pub seen_content : List FuncType → Content → SeenContent
seen_content types (contents.Function number) = a_function (slice_index_or types number no_type)
seen_content types (contents.Segment align flags) = a_segment align flags
seen_content types (contents.Global kind value) = a_global kind value
seen_content types contents.Made = the_linkers

abbrev pub seen_part : List FuncType → Part → SeenPart
seen_part types part = record { chunk = part.chunk; content = seen_content types part.content; source = part.source }

-- The type of a function is there.
abbrev pub HasType : List FuncType → Content → Type 0
HasType types (contents.Function number) = number < length types
HasType types (contents.Segment align flags) = Unit {0}
HasType types (contents.Global kind value) = Unit {0}
HasType types contents.Made = Unit {0}

abbrev pub told_content : rules.Content → SeenContent
told_content (function t) = a_function t
told_content (segment info) = a_segment info.align info.flags
told_content (global g) = a_global g.kind g.value
told_content (linker_made m) = the_linkers

abbrev pub told_part : rules.Part → SeenPart
told_part part = record { chunk = part.chunk; content = told_content part.content; source = part.source }
