-- What is written into windows, one after another.
use Rattle.std.specs.Prelude.{List, [], ◌∷◌, ◌++◌, Result, Ok}
use Rattle.link_program.specs.wl_base.Choice.{◌>>=◌}
use Rattle.link_program.specs.wl_base.declared.layout_error.LayoutError.{LayoutError}
use Rattle.link_program.specs.reloc_apply.declared.window.Form.{Form}
use Rattle.link_program.specs.reloc_apply.declared.window.Form.TheVariants.{Unsigned5, Signed5, Word4}
use Rattle.link_program.specs.reloc_apply.declared.window.Window.{Window}
use Rattle.link_program.specs.reloc_apply.declared.window.Patch.{Patch}
use Rattle.link_program.specs.reloc_apply.declared.window.Patches.{Patches}
use Rattle.link_program.specs.reloc_apply.Windows.{patch_at, held_at}
use Rattle.link_program.specs.made_symbols.declared.mode.Mode.{Mode}
use Rattle.link_program.specs.made_symbols.declared.mode.Mode.TheVariants.{Plain, Shared}

-- In a shared output a window of data holds 0 until its value is stored, when the output is loaded.
abbrev pub shared_at : Form → Window → Result Patch LayoutError
shared_at Unsigned5 w = patch_at w
shared_at Signed5 w = patch_at w
shared_at Word4 w = held_at w

-- What is written into a window, or its value, if that is out of range.
abbrev pub written_at : Mode → Window → Result Patch LayoutError
written_at Plain w = patch_at w
written_at Shared w = shared_at w.form w

abbrev pub written_from : Mode → List Window → Result (List Patch) LayoutError
written_from mode [] = Ok []
written_from mode (w ∷ ws) = do
  first ← written_at mode w
  others ← written_from mode ws
  Ok (first ∷ others)

-- the same behind other patches
abbrev pub written_on : Mode → List Patch → List Window → Result (List Patch) LayoutError
written_on mode front ws = written_from mode ws >>= λ xs. Ok (front ++ xs)

-- What is written into all windows, or the first value that is out of range.
abbrev pub written_of : Mode → List Window → Result Patches LayoutError
written_of mode ws = written_from mode ws >>= λ xs. Ok (record { patches = xs })
