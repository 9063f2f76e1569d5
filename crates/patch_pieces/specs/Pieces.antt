-- Patches in pieces, one behind another.
use Rattle.std.specs.Prelude.{List, flat_map}
use Rattle.reloc_apply.specs.declared.window.Patch.{Patch}
use Rattle.reloc_apply.specs.declared.window.Patches.{Patches}

-- the patches of all pieces
abbrev pub all_patches : List Patches → List Patch
all_patches pieces = flat_map (λ (p : Patches). p.patches) pieces

abbrev pub joined : List Patches → Patches
joined pieces = record { patches = all_patches pieces }
