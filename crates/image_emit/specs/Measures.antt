-- How long an image is, and where its sources stand.
use Rattle.std.specs.Prelude.{ℕ, ◌+◌, ◌-◌, ◌^◌, ◌≤◌, nat_lt, nat_le, Bool, true, ◌&&◌, min, pos, All, List, [], length, map, replicate, slice_index_or, if◌then◌else◌, Option, Result, Ok, Err}
use Rattle.wasm_module.specs.wasm_instr.wl_base.declared.span.Span.{Span}
use Rattle.wasm_module.specs.wasm_instr.wl_base.declared.fault.What.TheVariants.{OutputLength}
use Rattle.wasm_module.specs.wasm_instr.wl_base.declared.layout_error.LayoutError.{LayoutError}
use Rattle.wasm_module.specs.wasm_instr.wl_base.declared.layout_error.LayoutError.TheVariants.{Overflow}
use Rattle.image_emit.specs.declared.tree.Image.{Image}
use Rattle.image_emit.specs.declared.tree.Source.{Source}
use Rattle.image_emit.specs.declared.tree.Source.TheVariants.{File, Own}
use Rattle.image_emit.specs.declared.tree.PlacedSource.{PlacedSource}
use Rattle.image_emit.specs.declared.measuring.Measured.{Measured}
use Rattle.image_emit.specs.Bytes.{Tree, tree_of, bytes_of}
use Rattle.image_emit.specs.Pieces.{code_place, source_places}

-- The tree of an image whose sources stand for these bytes.
abbrev pub tree_with : (Source → List ℕ) → Image → Tree
tree_with bytes i = record (tree_of [] i) {
  bodies = map bytes i.bodies;
  blocks = map (λ p. record { address = p.address; bytes = bytes p.source }) i.blocks;
}

-- As many zeros as a part of a file has bytes.
abbrev pub blank : Source → List ℕ
blank (File f) = replicate f.span.len 0
blank (Own bytes) = bytes

-- A part of a file lies in it.
abbrev pub Lies : List (List ℕ) → Source → Type 0
Lies files (File f) = f.span.start + f.span.len ≤ length (slice_index_or files f.file [])
Lies files (Own bytes) = Unit {0}

-- Whether it does.
abbrev pub lies : List (List ℕ) → Source → Bool
lies files (File f) =
    let len : ℕ = length (slice_index_or files f.file []) in
    nat_le f.span.start len && nat_le f.span.len (len - f.span.start)
lies files (Own bytes) = true

abbrev pub placed_lies : List (List ℕ) → PlacedSource → Bool
placed_lies files p = lies files p.source

-- All parts of files lie in them.
pub record LieIn (files : List (List ℕ)) (i : Image) : Type 0 where
  pub of_bodies : All (Lies files) i.bodies
  pub of_blocks : All (λ p. Lies files p.source) i.blocks

-- The length of a module, the place of its code section's payload and those of its sources, unless it has more than 2^31 - 1 bytes. The length that is told then
-- is the module's, or the greatest of an i64.
abbrev pub measured : ℕ → Option Span → List ℕ → Result Measured LayoutError
measured len code places = if nat_lt (2 ^ 31 - 1) len then Err (Overflow OutputLength (pos (min len (2 ^ 63 - 1)))) else Ok (record { len = len; code = code; places = places })

abbrev pub measure_of : Tree → Result Measured LayoutError
measure_of t = measured (length (bytes_of t)) (code_place t) (source_places t)

-- The same of an image, with as many zeros in the place of each part of a file.
abbrev pub image_measure : Image → Result Measured LayoutError
image_measure i = measure_of (tree_with blank i)
