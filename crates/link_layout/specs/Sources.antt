-- The sources of windows: parts, each at its place in the output.
use Rattle.std.specs.Prelude.{List, map, flat_map}
use Rattle.link_program.specs.made_symbols.declared.mode.Mode.{Mode}
use Rattle.link_program.specs.reloc_apply.declared.window.Window.{Window}
use Rattle.link_program.specs.declared.keys.FunctionKey.{FunctionKey}
use Rattle.link_program.specs.declared.keys.FunctionKey.TheVariants as functions
use Rattle.link_program.specs.Look.{row_at}
use Rattle.link_program.specs.Moved.{moved_window}
use Rattle.link_layout.specs.Seen.{Looked, window_of}
use Rattle.link_layout.specs.Rows.{window_by, shared_window}
use Rattle.link_layout.specs.declared.gathering.Source.{Source}

-- The windows of a source, by their places in the output, and those of all sources.
abbrev pub source_by : Mode → Looked → Source → List Window
source_by mode k s = map {A = Window} {B = Window} (moved_window s.place) (map (window_by mode k) (row_at k.tables s.number))

abbrev pub windows_by : Mode → Looked → List Source → List Window
windows_by mode k sources = flat_map (source_by mode k) sources

abbrev pub source_windows : Looked → Source → List Window
source_windows k s = source_by k.mode k s

abbrev pub windows_of : Looked → List Source → List Window
windows_of k sources = windows_by k.mode k sources

-- the windows of a source in an output of one mode
abbrev pub plain_windows : Looked → Source → List Window
plain_windows k s = map {A = Window} {B = Window} (moved_window s.place) (map (window_of k) (row_at k.tables s.number))

abbrev pub shared_windows : Looked → Source → List Window
shared_windows k s = map {A = Window} {B = Window} (moved_window s.place) (map (shared_window k) (row_at k.tables s.number))

-- what stands where no function is
abbrev pub no_key : FunctionKey
no_key = functions.Import 0
