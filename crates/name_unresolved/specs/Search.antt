-- The least unresolved symbol, piece by piece, as the code finds it.
use Rattle.std.specs.Prelude.{◌≡◌, ℕ, ◌==◌, List, length, map, slice_get, if◌then◌else◌, Option, Some, None, option_and_then}
use Rattle.std.specs.List.Sorted.{IsStrictlyIncreasing}
use Rattle.name_meanings.specs.name_entries.linking_section.declared.init.InitFunc.{InitFunc}
use Rattle.name_meanings.specs.name_entries.body_windows.declared.operand.Operand.{Operand}
use Rattle.name_meanings.specs.name_entries.object_file.declared.object.Object.{Object}
use Rattle.name_meanings.specs.name_entries.name_rules.declared.meaning.Meaning.{Meaning}
use Rattle.name_meanings.specs.Means.{row_of}
use Rattle.mark_bits.specs.declared.chunk.Chunk.{Chunk}
use Rattle.mark_bits.specs.Words.{bit_of}
use Rattle.name_unresolved.specs.Refers.{SymbolAt, at, symbol_named, is_undefined_one, refers}
use Rattle.name_unresolved.specs.Least.{least_by}
use Rattle.name_unresolved.specs.Unresolved.{is_open, AreMeant}
use Rattle.name_unresolved.specs.declared.piece.Piece.{Piece}
use Rattle.name_unresolved.specs.declared.search.Search.{Search}

-- The symbol, where it is open.
abbrev pub opened : List (List Meaning) → SymbolAt → Option SymbolAt
opened rows s = if is_open rows s then Some s else None

-- The least open one of these.
abbrev pub least_open : List (List Meaning) → List SymbolAt → Option SymbolAt
least_open rows = least_by (opened rows)

-- ---- a piece

abbrev pub rows_in : Piece → List (List Meaning)
rows_in p = p.resolution.now.rows

abbrev pub IsMeant : Piece → Type 0
IsMeant p = length (row_of (rows_in p) p.object.now.input) ≡ length p.object.now.symbols

-- The least open one of these symbols of the object.
abbrev pub object_least : Piece → List ℕ → Option SymbolAt
object_least p symbols = least_open (rows_in p) (map (at p.object.now) symbols)

abbrev pub opened_in : Piece → ℕ → Option SymbolAt
opened_in p symbol = opened (rows_in p) (at p.object.now symbol)

abbrev pub opened_by : Piece → Operand → Option SymbolAt
opened_by p operand = option_and_then (opened_in p) (symbol_named operand)

abbrev pub opened_init : Piece → InitFunc → Option SymbolAt
opened_init p i = if is_undefined_one (slice_get p.object.now.symbols i.symbol) then opened_in p i.symbol else None

-- ---- all chunks

abbrev pub rows_of : Search → List (List Meaning)
rows_of s = s.resolution.now.rows

pub record IsReady (s : Search) : Type 0 where
  pub inputs : s.inputs.now ≡ map (λ (o : Object). o.input) s.objects.now
  pub rise : IsStrictlyIncreasing s.inputs.now
  pub meant : AreMeant (rows_of s) s.objects.now
  pub live : s.live.now.chunks ≡ length s.chunks.now

abbrev pub chunk_least : Search → Chunk → Option SymbolAt
chunk_least s c = least_open (rows_of s) (refers s.objects.now c)

-- What the chunk of a number gives, where it is live.
abbrev pub number_least : Search → ℕ → Option SymbolAt
number_least s number = if bit_of s.live.now.words number == 1 then option_and_then (chunk_least s) (slice_get s.chunks.now number) else None
