-- What is exported, what is live, and which names stay unresolved.
use Rattle.std.specs.Prelude.{ℕ, ◌+◌, ◌==◌, Bool, true, false, not, ◌&&◌, ◌||◌, List, [], ◌∷◌, ◌++◌, map, filter, filter_map, flat_map, find, length, position, slice_get, if◌then◌else◌, Option, Some, None, unwrap_or, option_map, option_and_then, option_to_list, bytes_eq, codes}
use Rattle.std.specs.List.{list_any}
use Rattle.name_rules.specs.object_file.wl_base.Choice.{first_some, given, has_name}
use Rattle.name_rules.specs.object_file.wl_base.declared.fault.Fault.{Fault}
use Rattle.name_rules.specs.object_file.wl_base.declared.fault.Fault.TheVariants.{Duplicate, NotPic, Unresolved, Uncalled}
use Rattle.name_rules.specs.object_file.linking_section.declared.symbol.SymbolKind.TheVariants.{Function, Datum, GlobalVar}
use Rattle.name_rules.specs.object_file.linking_section.Flags.{is_exported, is_hidden, is_no_strip, is_weak, has_bit}
use Rattle.name_rules.specs.object_file.object_columns.declared.functions.FunctionDef.{FunctionDef}
use Rattle.name_rules.specs.object_file.reloc_section.declared.kinds.TheConstants as relocs
use Rattle.made_symbols.specs.declared.mode.Mode.{Mode}
use Rattle.made_symbols.specs.declared.mode.Mode.TheVariants.{Plain, Shared}
use Rattle.made_symbols.specs.Made.{call_ctors, apply_data_relocs}
use Rattle.name_rules.specs.Entries.{InputSymbol, is_named, is_kind, name_of, same_entry}
use Rattle.name_rules.specs.Meanings.{is_nothing, Resolved}
use Rattle.name_rules.specs.Further.{is_here, is_foreign_symbol}
use Rattle.mark_bits.specs.declared.chunk.Chunk.{Chunk}
use Rattle.mark_bits.specs.declared.kinds.TheConstants as chunks
use Rattle.live_mark.specs.Live.{reached, is_among}
use Rattle.link_plan.specs.declared.plan.Plan.{Plan}
use Rattle.link_rules.specs.Program.{Program, Part, Content, segment, function, global, linker_made, Ref, refs, chunk_of, meant_chunk, same_chunk, init_calls, init_calls_in}

abbrev pub by_mode : {A : Type 0} → Mode → A → A → A
by_mode Plain a b = a
by_mode Shared a b = b

-- ---- exports

-- The names that must have a winner: the entry, then those of `--export` in their order.
abbrev pub demanded : Plan → List (List ℕ)
demanded plan = option_to_list plan.entry ++ plan.exports

-- A winner is exported where the words name it, where an object's symbol has EXPORTED, and with `--export-dynamic` where an object's
-- symbol isn't HIDDEN.
abbrev pub is_exported_by : Plan → InputSymbol → Bool
is_exported_by plan e =
    has_name (demanded plan ++ plan.exports_if) (name_of e)
    || (not (e.input == 0) && (is_exported e.symbol || (plan.export_dynamic && not (is_hidden e.symbol))))

abbrev pub asked_exports : Program → List InputSymbol
asked_exports p = filter (is_exported_by p.plan) p.winners

abbrev pub resolved_at : List Resolved → ℕ → Option Resolved
resolved_at all input = find (λ r. r.object.input == input) all

-- The name that a function's own object exports it under.
abbrev pub written_name : Resolved → InputSymbol → Option (List ℕ)
written_name r e = option_and_then (λ (f : FunctionDef). f.export_name) (slice_get r.object.functions e.index)

-- An export has the symbol's name, but a function that its own object exports has the name it has there.
abbrev pub export_name : Program → InputSymbol → List ℕ
export_name p e =
    if is_kind Function e then unwrap_or (option_and_then (λ r. written_name r e) (resolved_at p.resolved e.input)) (name_of e)
    else name_of e

-- An exported name and the input of what it names. The memory is the linker's.
pub record Given : Type 0 where
  pub name : List ℕ
  pub input : ℕ

abbrev pub memory_name : List ℕ
memory_name = 0x6D ∷ 0x65 ∷ 0x6D ∷ 0x6F ∷ 0x72 ∷ 0x79 ∷ []

-- A shared output always imports its memory.
abbrev pub imports_memory : Mode → Program → Bool
imports_memory mode p = by_mode mode p.plan.import_memory true

abbrev pub given_memory : Mode → Program → List Given
given_memory mode p = if imports_memory mode p then [] else record { name = memory_name; input = 0 } ∷ []

abbrev pub given_names : Mode → Program → List InputSymbol → List Given
given_names mode p exports = given_memory mode p ++ map (λ e. record { name = export_name p e; input = e.input }) exports

abbrev pub repeated_by : List Given → Given → Option Fault
repeated_by earlier g = option_map (λ f. Duplicate g.name f.input g.input) (find (λ f. bytes_eq f.name g.name) earlier)

abbrev pub first_repeat : List Given → List Given → Option Fault
first_repeat earlier [] = None
first_repeat earlier (g ∷ gs) = first_some (repeated_by earlier g ∷ first_repeat (earlier ++ g ∷ []) gs ∷ [])

-- The first export, in the output's order, whose name an earlier export has.
unfoldable pub repeated_export : Mode → Program → List InputSymbol → Option Fault
repeated_export mode p exports = first_repeat [] (given_names mode p exports)

-- ---- live chunks

-- A segment that has RETAIN.
abbrev pub is_retained : Content → Bool
is_retained (function t) = false
is_retained (segment info) = has_bit 0x04 info.flags
is_retained (global g) = false
is_retained (linker_made m) = false

abbrev pub is_object_part : Part → Bool
is_object_part part = not (part.chunk.input == 0)

abbrev pub is_no_strip_winner : InputSymbol → Bool
is_no_strip_winner e = not (e.input == 0) && is_no_strip e.symbol

-- The roots: what is exported, the winners that have NO_STRIP, the segments that have RETAIN, and with `--no-gc-sections` all kept
-- parts of objects. The entry is an export.
abbrev pub roots : Program → List InputSymbol → List Chunk
roots p exports =
    filter_map chunk_of exports
    ++ filter_map chunk_of (filter is_no_strip_winner p.winners)
    ++ map (λ part. part.chunk) (filter (λ part. is_retained part.content) p.parts)
    ++ (if p.plan.gc then [] else map (λ part. part.chunk) (filter is_object_part p.parts))

-- What a part refers to: the chunks that its references mean.
abbrev pub refers : Part → List Chunk
refers part = filter_map (λ ref. meant_chunk ref.meaning) (refs part)

-- The chunk table: a chunk's number is its place there.
abbrev pub table_of : Program → List Chunk
table_of p = map (λ part. part.chunk) p.parts

abbrev pub places_in : List Chunk → List Chunk → List ℕ
places_in table chunks = filter_map (λ c. position (same_chunk c) table) chunks

abbrev pub targets : Program → List (List ℕ)
targets p = map (λ part. places_in (table_of p) (refers part)) p.parts

abbrev pub root_places : Program → List InputSymbol → List ℕ
root_places p exports = places_in (table_of p) (roots p exports)

abbrev pub picked : List ℕ → ℕ → List Part → List Part
picked marked at [] = []
picked marked at (x ∷ xs) = if is_among marked at then x ∷ picked marked (at + 1) xs else picked marked (at + 1) xs

-- The live parts, in the order of the chunk table: those that the roots reach.
unfoldable pub live : Program → List InputSymbol → List Part
live p exports = picked (reached (targets p) (root_places p exports)) 0 p.parts

abbrev pub refs_of : List Part → List Ref
refs_of parts = flat_map refs parts

-- ---- what a shared output exports besides: `__wasm_call_ctors` where there are init functions, and the function that makes addresses
-- right where it has work

-- A window of GLOBAL_INDEX_LEB that takes the address of a function or datum from a cell.
abbrev pub reads_cell : Ref → Bool
reads_cell ref = (ref.kind == relocs.GLOBAL_INDEX_LEB) && not (is_kind GlobalVar ref.entry)

-- A segment with windows, or code that reads a cell of the link's own.
abbrev pub needs_work : Part → Bool
needs_work part =
    ((part.chunk.kind == chunks.SEGMENT) && not (length part.named == 0))
    || ((part.chunk.kind == chunks.FUNCTION) && list_any (λ ref. reads_cell ref && is_here ref.meaning) (refs part))

abbrev pub has_calls : Program → Bool
has_calls p = not (length (init_calls p.resolved) == 0)

-- the linker's own symbol of a number
abbrev pub is_made : ℕ → InputSymbol → Bool
is_made number e = (e.input == 0) && (e.place == number)

-- What is exported but for the function that makes addresses right: what the words and flags ask for, and `__wasm_call_ctors` where it
-- calls.
abbrev pub exports_without : Program → Bool → List InputSymbol
exports_without p calls = filter (λ e. is_exported_by p.plan e || (is_made call_ctors e && calls)) p.winners

-- Whether that function has work: whether some part that lives by these exports has some.
abbrev pub has_work : Program → List InputSymbol → Bool
has_work p exports = list_any needs_work (live p exports)

-- All that is exported, where it has work and where it hasn't.
abbrev pub exports_with : Program → Bool → Bool → List InputSymbol
exports_with p calls work =
    filter (λ e. is_exported_by p.plan e || (is_made call_ctors e && calls) || (is_made apply_data_relocs e && work)) p.winners

-- The exported winners, by input and place.
unfoldable pub exported : Mode → Program → List InputSymbol
exported Plain p = asked_exports p
exported Shared p = exports_with p (has_calls p) (has_work p (exports_without p (has_calls p)))

-- ---- code that isn't position-independent

-- In a shared output a function, datum or global that the link doesn't define is foreign.
abbrev pub is_foreign : Ref → Bool
is_foreign ref = is_foreign_symbol ref.entry ref.meaning

-- a slot or an address that counts from 0
abbrev pub is_absolute : ℕ → Bool
is_absolute kind = (kind == relocs.TABLE_INDEX_SLEB) || (kind == relocs.MEMORY_ADDR_LEB) || (kind == relocs.MEMORY_ADDR_SLEB)

-- one that counts from a base
abbrev pub is_relative : ℕ → Bool
is_relative kind = (kind == relocs.MEMORY_ADDR_REL_SLEB) || (kind == relocs.TABLE_INDEX_REL_SLEB)

-- Code of a shared output holds no absolute slot or address, and one that is relative to a base of no foreign symbol.
abbrev pub is_fixed : Ref → Bool
is_fixed ref = is_absolute ref.kind || (is_relative ref.kind && is_foreign ref)

abbrev pub fixed_fault : Ref → Fault
fixed_fault ref = NotPic ref.entry.input ref.entry.place ref.kind

-- The least relocation in live code that a shared output can't have.
unfoldable pub pic_fault : Mode → List Part → Option Fault
pic_fault Plain parts = None
pic_fault Shared parts = option_map fixed_fault (find is_fixed (refs_of (filter (λ part. part.chunk.kind == chunks.FUNCTION) parts)))

-- ---- unresolved

abbrev pub missing : Program → List ℕ → Option Fault
missing p name = given (not (list_any (is_named name) p.winners)) (Unresolved name 0)

abbrev pub is_open : List Ref → InputSymbol → Bool
is_open refs e = list_any (λ ref. is_nothing ref.meaning && same_entry ref.entry e) refs

abbrev pub all_symbols : Program → List InputSymbol
all_symbols p = flat_map (λ r. r.symbols) p.resolved

-- The first demanded name without a winner; then the least symbol, by input and place, that a live part refers to (`__wasm_call_ctors`
-- refers to the init functions) and that means nothing.
unfoldable pub unresolved : Program → List Part → Option Fault
unresolved p parts = first_some
    (first_some (map (missing p) (demanded p.plan))
    ∷ option_map (λ e. Unresolved (name_of e) e.input) (find (is_open (refs_of parts)) (all_symbols p))
    ∷ [])

-- ---- constructors that nothing calls, in a plain output that is like lld's: where no object names `__wasm_call_ctors`, lld wraps each exported
-- function in one that calls constructors and destructors. Where something would be lost without that, the link is refused.

abbrev pub ctors_name : List ℕ
ctors_name = codes "__wasm_call_ctors"

-- whether an object has an entry of the name, or the words name it as the entry or by `--export`
abbrev pub names_ctors : Program → Bool
names_ctors p = has_name (demanded p.plan) ctors_name || list_any (λ e. not (e.input == 0) && is_named ctors_name e) p.entries

abbrev pub is_in : ℕ → Part → Bool
is_in input part = part.chunk.input == input

abbrev pub is_at_chunk : Option Chunk → Part → Bool
is_at_chunk None part = false
is_at_chunk (Some c) part = same_chunk c part.chunk

-- whether an init function of an object isn't skipped, and a part of the object is live beside it
abbrev pub loses_inits : List Part → Resolved → Bool
loses_inits parts r =
    list_any (λ c. list_any (λ part. is_in r.object.input part && not (is_at_chunk (meant_chunk c.ref.meaning) part)) parts) (init_calls_in r)

-- The winner of a name, if it is strong.
abbrev pub strong_winner : Program → List ℕ → Option InputSymbol
strong_winner p name = find (λ e. is_named name e && not (is_weak e.symbol)) p.winners

-- whether there is such a winner, and a part of its input, or its own one, is live
abbrev pub lives_with : List Part → Option InputSymbol → Bool
lives_with parts None = false
lives_with parts (Some e) = list_any (is_in e.input) parts

abbrev pub lives_itself : List Part → Option InputSymbol → Bool
lives_itself parts None = false
lives_itself parts (Some e) = list_any (is_at_chunk (chunk_of e)) parts

-- What `__wasm_call_dtors` of wasi-libc does at exit: it calls what `atexit` was told, and writes what stdio holds back.
abbrev pub loses_exits : Program → List Part → Bool
loses_exits p parts = lives_with parts (strong_winner p (codes "__funcs_on_exit")) || lives_itself parts (strong_winner p (codes "__stdio_exit"))

unfoldable pub uncalled : Mode → Program → List Part → Option Fault
uncalled Plain p parts = given (p.plan.like_lld && not (names_ctors p) && (list_any (loses_inits parts) p.resolved || loses_exits p parts)) Uncalled
uncalled Shared p parts = None
