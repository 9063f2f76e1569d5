-- What is written into windows that are judged by their values and may be written with others.
use Rattle.std.specs.Prelude.{List, map, option_map, Result}
use Rattle.wl_base.specs.Choice.{unless}
use Rattle.wl_base.specs.declared.fault.What.TheVariants.{Reference}
use Rattle.wl_base.specs.declared.layout_error.LayoutError.{LayoutError}
use Rattle.wl_base.specs.declared.layout_error.LayoutError.TheVariants.{Overflow}
use Rattle.reloc_apply.specs.declared.window.Window.{Window}
use Rattle.reloc_apply.specs.declared.window.Patches.{Patches}
use Rattle.reloc_apply.specs.Windows.{value_overflow, patch_of}

-- What is written into the windows of the second list, where all values of the first are in range; else the first value that isn't.
abbrev pub judged_patches : List Window → List Window → Result Patches LayoutError
judged_patches judged written = unless (option_map (Overflow Reference) (value_overflow judged)) (record { patches = map patch_of written })
