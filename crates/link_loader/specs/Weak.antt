-- The imports that may be absent, as the data tell them.
use Rattle.std.specs.Prelude.{ℕ, ◌==◌, Bool, true, false, ◌||◌, List, [], ◌∷◌, ◌++◌, map, flat_map, fold, length, replicate, slice_index_or, if◌then◌else◌, Option, Some, None}
use Rattle.link_program.specs.linking_section.declared.symbol.Symbol.{Symbol as Written}
use Rattle.link_program.specs.linking_section.Flags.{is_weak}
use Rattle.link_program.specs.reloc_section.declared.kinds.TheConstants as relocs
use Rattle.link_program.specs.object_file.declared.object.Object.{Object}
use Rattle.link_program.specs.declared.symbol.Lead.{Lead}
use Rattle.link_program.specs.declared.symbol.Lead.TheVariants as leads
use Rattle.link_program.specs.declared.symbol.Symbol.{Symbol}
use Rattle.link_program.specs.declared.named.Named.{Named}
use Rattle.link_program.specs.declared.named.Named.TheVariants as names
use Rattle.link_program.specs.declared.program.Program.{Program}
use Rattle.link_program.specs.declared.program.Tables.{Tables}
use Rattle.link_program.specs.Look.{row_at}
use Rattle.link_program.specs.Seen.{no_symbol}
use Rattle.link_layout.specs.link_numbers.link_keys.Noted.{flagged}
use Rattle.link_loader.specs.Cells.{is_addressed, is_global, cell_at}

abbrev pub flag_at : List Bool → ℕ → Bool
flag_at flags n = slice_index_or flags n false

-- ---- names of which some entry isn't WEAK, by their numbers

abbrev pub strong_of : Option ℕ → Written → Option ℕ
strong_of n s = if is_weak s then None else n

-- The symbols of an object, by the numbers of their names.
abbrev pub strong_row : List (Option ℕ) → List Written → List (Option ℕ)
strong_row [] ss = []
strong_row (n ∷ ns) [] = []
strong_row (n ∷ ns) (s ∷ ss) = strong_of n s ∷ strong_row ns ss

abbrev pub strong_rows : List (List (Option ℕ)) → List Object → List (Option ℕ)
strong_rows rows [] = []
strong_rows [] (o ∷ os) = []
strong_rows (row ∷ rows) (o ∷ os) = strong_row row o.symbols ++ strong_rows rows os

-- The flags with the name of a symbol, if there is the symbol.
abbrev pub noted_at : List Bool → Option ℕ → Option Written → List Bool
noted_at flags n None = flags
noted_at flags n (Some s) = flagged flags (strong_of n s)

-- Those of an object, if there is the object.
abbrev pub object_row : List (Option ℕ) → Option Object → List (Option ℕ)
object_row row None = []
object_row row (Some o) = strong_row row o.symbols

-- Of so many names, those of the linker's symbols, and of the objects' entries.
abbrev pub strong_names : ℕ → List ℕ → List (List (Option ℕ)) → List Object → List Bool
strong_names count made rows objects = fold flagged (fold flagged (replicate count false) (map Some made)) (strong_rows rows objects)

-- ---- imports that live parts use by other names

-- Of an imported symbol, by the type of a window's relocation: the import itself where it is called or a global, else the cell of its address.
abbrev pub taken : List (Option ℕ) → ℕ → ℕ → Symbol → ℕ → Option ℕ
taken cells kind at s n =
    if (kind == relocs.FUNCTION_INDEX_LEB) || is_global s then Some n
    else if is_addressed s then Some (cell_at cells at s) else None

-- The same, unless some entry of the name isn't WEAK.
abbrev pub weak_named : List Bool → List (Option ℕ) → ℕ → ℕ → Symbol → ℕ → Option ℕ → Option ℕ
weak_named strong cells kind at s n None = None
weak_named strong cells kind at s n (Some k) = if flag_at strong k then None else taken cells kind at s n

abbrev pub weak_by : List Bool → List (Option ℕ) → ℕ → ℕ → Symbol → Lead → Option ℕ → Option ℕ
weak_by strong cells kind at s (leads.Here d) name = None
weak_by strong cells kind at s (leads.Import n) name = weak_named strong cells kind at s n name
weak_by strong cells kind at s leads.Null name = None
weak_by strong cells kind at s leads.Nothing name = None

-- The import that a window uses by a name of which all entries are WEAK.
abbrev pub weak_use : List Bool → List (Option ℕ) → List Symbol → Named → Option ℕ
weak_use strong cells symbols (names.Symbol kind place addend symbol) =
    weak_by strong cells kind symbol (slice_index_or symbols symbol no_symbol) (slice_index_or symbols symbol no_symbol).lead (slice_index_or symbols symbol no_symbol).name
weak_use strong cells symbols (names.Type place number) = None

abbrev pub part_uses : List Bool → List (Option ℕ) → Tables → ℕ → List (Option ℕ)
part_uses strong cells t n = map (weak_use strong cells t.symbols) (row_at t n)

-- ---- symbols by which nothing is used so

abbrev pub is_strong_named : List Bool → Option ℕ → Bool
is_strong_named strong None = true
is_strong_named strong (Some k) = flag_at strong k

-- Whether a symbol isn't imported, or some entry of its name isn't WEAK.
abbrev pub is_strong : List Bool → Lead → Option ℕ → Bool
is_strong strong (leads.Here d) name = true
is_strong strong (leads.Import n) name = is_strong_named strong name
is_strong strong leads.Null name = true
is_strong strong leads.Nothing name = true

-- ---- all

abbrev pub weak_seen : Program → List ℕ → List Bool
weak_seen d live = fold flagged (replicate (length d.resolution.now.imports) false)
    (flat_map (part_uses (strong_names (length d.names.now.names) d.names.now.made d.names.now.symbols d.objects.now) d.resolution.now.cells d.tables.now) live)
