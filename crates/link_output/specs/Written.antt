-- What is answered where an image is measured and written.
use Rattle.std.specs.Prelude.{◌≡◌, ℕ, List, length, map, flat_map, None, Some, Result, Ok, Err, pos, ◌-◌, ◌<◌, ◌^◌, int_lt, Bool, true}
use Rattle.std.specs.List.{AllZip}
use Rattle.link_program.specs.wl_base.declared.fault.Fault.TheVariants as faults
use Rattle.link_program.specs.wl_base.declared.fault.What.TheVariants.{Reference}
use Rattle.link_program.specs.wl_base.declared.layout_error.LayoutError.{LayoutError}
use Rattle.link_program.specs.wl_base.declared.layout_error.LayoutError.TheVariants.{Overflow, OutOfMemory}
use Rattle.link_program.specs.reloc_apply.declared.window.Window.{Window}
use Rattle.link_program.specs.reloc_apply.Windows.{value_overflow, patch_of}
use Rattle.link_program.specs.reloc_apply.Apart.{AreApart}
use Rattle.link_program.specs.image_emit.declared.tree.Image.{Image}
use Rattle.link_program.specs.image_emit.declared.measuring.Measured.{Measured}
use Rattle.link_program.specs.image_emit.Bytes.{bytes_of, tree_of}
use Rattle.link_program.specs.image_emit.Filled.{tree_filled}
use Rattle.link_program.specs.image_emit.Measures.{image_measure}
use Rattle.link_program.specs.image_emit.Pieces.{code_place, source_places}
use Rattle.link_program.specs.link_rules.LinkOf.{length_fault}

-- how long the output is
abbrev pub output_len : List (List ℕ) → Image → ℕ
output_len files i = length (bytes_of (tree_of files i))

-- The measure is that of the output's bytes, which are fewer than 2^31, with the place of its code; or they are not, and their number
-- is told.
abbrev pub Measures : Result Measured LayoutError → List (List ℕ) → Image → Type 0
Measures (Ok m) files i = (image_measure i ≡ Ok m) × (m.places ≡ source_places (tree_of files i)) × (length_fault (output_len files i) ≡ None) × (m.len < 2 ^ 31)
    × (m.code ≡ code_place (tree_of files i))
Measures (Err (Overflow what needed)) files i = length_fault (output_len files i) ≡ Some (faults.Overflow what needed)
Measures (Err OutOfMemory) files i = Unit {0}

-- whether a length that is told isn't the greatest of an i64
abbrev pub is_exact : Result Measured LayoutError → Bool
is_exact (Ok m) = true
is_exact (Err (Overflow what needed)) = int_lt needed (pos (2 ^ 63 - 1))
is_exact (Err OutOfMemory) = true

-- The windows of each source rise, don't overlap and lie in it.
abbrev pub StandInSources : List (List Window) → List (List ℕ) → Type 0
StandInSources wss sources = AllZip (λ ws bytes. AreApart 0 (length bytes) (map patch_of ws)) wss sources

-- All values of the first windows are in range, and the bytes are those of the image with each of the second ones written; or the first
-- value that isn't in range is told.
abbrev pub Writes : Result (List ℕ) LayoutError → List (List Window) → List (List Window) → List (List ℕ) → Image → Type 0
Writes (Ok bytes) wss vss files i =
    (value_overflow (flat_map (λ ws. ws) wss) ≡ None) × (bytes ≡ bytes_of (tree_filled (map (map patch_of) vss) (tree_of files i)))
Writes (Err (Overflow what needed)) wss vss files i = (what ≡ Reference) × (value_overflow (flat_map (λ ws. ws) wss) ≡ Some needed)
Writes (Err OutOfMemory) wss vss files i = Unit {0}
