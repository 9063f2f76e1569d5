-- The section `dylink.0`, as the data tell it.
use Rattle.std.specs.Prelude.{ℕ, ◌==◌, Bool, List, [], ◌++◌, map, filter_map, length, slice_get, if◌then◌else◌, Option, None, option_map}
use Rattle.link_program.specs.mark_bits.declared.kinds.TheConstants as chunks
use Rattle.link_program.specs.name_rules.Entries.{ImportKey}
use Rattle.link_program.specs.link_rules.Loader.{greatest}
use Rattle.dylink_out.specs.declared.dylink.Dylink.{Dylink}
use Rattle.dylink_out.specs.declared.dylink.ImportInfo.{ImportInfo}
use Rattle.link_program.specs.declared.keys.FunctionKey.{FunctionKey}
use Rattle.link_program.specs.declared.keys.FunctionKey.TheVariants as functions
use Rattle.link_program.specs.declared.keys.GlobalKey.{GlobalKey}
use Rattle.link_program.specs.declared.keys.GlobalKey.TheVariants as globals
use Rattle.link_program.specs.declared.part.Content.{Content}
use Rattle.link_program.specs.declared.part.Content.TheVariants as contents
use Rattle.link_program.specs.declared.program.Tables.{Tables}
use Rattle.link_program.specs.Look.{part_at}
use Rattle.link_layout.specs.declared.values.Layout.{Layout}
use Rattle.link_loader.specs.Weak.{flag_at, weak_seen}

-- ---- the alignment of memory

abbrev pub content_align : Content → ℕ
content_align (contents.Function number) = 0
content_align (contents.Segment align flags) = align
content_align (contents.Global kind value) = 0
content_align contents.Made = 0

-- The exponent of the alignment of a part that is a segment; 0 of others.
abbrev pub align_at : Tables → ℕ → ℕ
align_at t n = if (part_at t n).chunk.kind == chunks.SEGMENT then content_align (part_at t n).content else 0

abbrev pub greatest_align : Tables → List ℕ → ℕ
greatest_align t live = greatest (map (align_at t) live)

-- ---- imports that may be absent

abbrev pub info_of : ImportKey → ImportInfo
info_of k = record { «module» = k.module_name; field = k.field; flags = 1 }

abbrev pub info_seen : List ImportKey → List Bool → ℕ → Option ImportInfo
info_seen imports weak n = if flag_at weak n then option_map info_of (slice_get imports n) else None

abbrev pub function_info : List ImportKey → List Bool → FunctionKey → Option ImportInfo
function_info imports weak (functions.Import n) = info_seen imports weak n
function_info imports weak (functions.Own input index) = None
function_info imports weak (functions.Stub n) = None

abbrev pub global_info : List ImportKey → List Bool → GlobalKey → Option ImportInfo
global_info imports weak (globals.Import n) = info_seen imports weak n
global_info imports weak (globals.Own input index) = None
global_info imports weak (globals.Got key) = None
global_info imports weak (globals.Datum d) = None

abbrev pub infos_seen : Layout → List ℕ → List ImportInfo
infos_seen d live =
    filter_map (function_info d.program.resolution.now.imports (weak_seen d.program live)) d.numbering.now.functions
    ++ filter_map (global_info d.program.resolution.now.imports (weak_seen d.program live)) d.numbering.now.globals

-- ---- the section

abbrev pub dylink_seen : Layout → List ℕ → Dylink
dylink_seen d live = record {
  memory_size = d.placed.now.places.data_end;
  memory_align = greatest_align d.program.tables.now live;
  table_size = length d.numbering.now.slots;
  table_align = 0;
  needed = [];
  exports = [];
  imports = infos_seen d live;
}
