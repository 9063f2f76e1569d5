-- What is asked of a shared output so that it can be written: its names are UTF-8, and the constants that objects give are in their ranges. That all other
-- numbers fit is for the bytes, which are few, and for the data.
use Rattle.std.specs.Prelude.{◌≡◌, ◌<◌, ◌^◌, List, length, IsUtf8, ℤ, pos, neg_ℤ, ◌≤ℤ◌, ◌<ℤ◌}
use Rattle.list_places.specs.Has.{Has, Apart}
use Rattle.name_rules.specs.Entries.{InputSymbol, ImportKey}
use Rattle.image_emit.specs.Bytes.{bytes_of}
use Rattle.image_emit.specs.Spelled.{IsConstant}
use Rattle.output_module.specs.link_worlds.link_rules.Program.{Program, Part, Content, function, segment, global, linker_made, Ref, refs}
use Rattle.output_module.specs.link_worlds.link_rules.Marks.{live, export_name}
use Rattle.output_module.specs.link_worlds.link_rules.Keys.{outside, outside_global}
use Rattle.output_module.specs.link_worlds.Sound.{same_part, IsGlobalPart}
use Rattle.output_module.specs.Outputs.{IsCoded}
use Rattle.shared_module.specs.Outputs.{shared_lay, shared_tree, IsSharedWritten}

abbrev pub IsNamed : ImportKey → Type 0
IsNamed k = IsUtf8 k.module_name × IsUtf8 k.field

abbrev pub HasConstant : Content → Type 0
HasConstant (function t) = Unit {0}
HasConstant (segment info) = Unit {0}
HasConstant (global g) = IsConstant g.value
HasConstant (linker_made m) = Unit {0}

-- an s32 (Core 5.2.2)
abbrev pub IsS32 : ℤ → Type 0
IsS32 z = (neg_ℤ (pos (2 ^ 31)) ≤ℤ z) × (z <ℤ pos (2 ^ 31))

pub record IsSharedFit (p : Program) (exports : List InputSymbol) : Type 0 where
  pub short : length (bytes_of (shared_tree p (live p exports) exports (shared_lay p exports))) < 2 ^ 32
  pub functions : (k : ImportKey) → Has (shared_lay p exports).numbers.functions (outside k) → IsNamed k
  pub globals : (k : ImportKey) → Has (shared_lay p exports).numbers.globals (outside_global k) → IsNamed k
  pub names : (e : InputSymbol) → Has exports e → IsUtf8 (export_name p e)
  -- globals of objects begin with constants
  pub constants : (part : Part) → Has (live p exports) part → part.chunk.kind ≡ 2 → (part.chunk.input ≡ 0 → ⊥) → IsGlobalPart part.content
  pub contents : (part : Part) → Has (live p exports) part → HasConstant part.content
  -- a chunk's kind is 1 for a segment
  pub addends : (part : Part) (ref : Ref) → Has (live p exports) part → part.chunk.kind ≡ 1 → Has (refs part) ref → IsS32 ref.addend
  pub ends : (shared_lay p exports).places.data_end < 2 ^ 32

-- So it can be written, where its functions are bodies with their references.
abbrev pub SharedOutputIsWritten : Type 0
SharedOutputIsWritten = (p : Program) (exports : List InputSymbol) → Apart same_part p.parts
    → ((part : Part) → Has (live p exports) part → part.chunk.kind ≡ 0 → (part.chunk.input ≡ 0 → ⊥) → IsCoded p part) → IsSharedFit p exports → IsSharedWritten p exports
