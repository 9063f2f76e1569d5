-- Bytes of a module whose sources have windows, as calls in bodies and addresses in data, into which values are written.
use Rattle.std.specs.Prelude.{◌≡◌, List, [], ◌∷◌, ◌++◌, ℕ, length, map, drop, All}
use Rattle.std.specs.List.{AllZip}
use Rattle.reloc_apply.specs.declared.window.Patch.{Patch}
use Rattle.reloc_apply.specs.Windows.{filled}
use Rattle.reloc_apply.specs.Apart.{LiesIn, moved}
use Rattle.image_emit.specs.Bytes.{Tree, Block, bytes_of}
use Rattle.image_emit.specs.Pieces.{source_places, sources}

-- Each list of bytes with its own windows written.
abbrev pub each_filled : List (List Patch) → List (List ℕ) → List (List ℕ)
each_filled pss [] = []
each_filled [] (bytes ∷ rest) = bytes ∷ rest
each_filled (ps ∷ pss) (bytes ∷ rest) = filled ps bytes ∷ each_filled pss rest

abbrev pub blocks_filled : List (List Patch) → List Block → List Block
blocks_filled pss [] = []
blocks_filled [] (b ∷ bs) = b ∷ bs
blocks_filled (ps ∷ pss) (b ∷ bs) = record { address = b.address; bytes = filled ps b.bytes } ∷ blocks_filled pss bs

-- The tree with the windows of each source written, the bodies' before the blocks'.
abbrev pub tree_filled : List (List Patch) → Tree → Tree
tree_filled pss t = record t { bodies = each_filled pss t.bodies; blocks = blocks_filled (drop (length t.bodies) pss) t.blocks }

-- The windows of the sources as windows of the whole: each as much later as its source stands.
abbrev pub all_moved : List ℕ → List (List Patch) → List Patch
all_moved [] pss = []
all_moved (k ∷ ks) [] = []
all_moved (k ∷ ks) (ps ∷ pss) = map {A = Patch} {B = Patch} (moved k) ps ++ all_moved ks pss

-- Each window lies in its source; there is a list of windows for each source.
abbrev pub AllLieIn : List (List Patch) → List (List ℕ) → Type 0
AllLieIn pss bss = AllZip (λ ps bytes. All (LiesIn (length bytes)) ps) pss bss

-- The windows may be written into the module's bytes, or into each source before the sources are joined.
abbrev pub FillLaw : Type 0
FillLaw = (pss : List (List Patch)) (t : Tree) → AllLieIn pss (sources t) → filled (all_moved (source_places t) pss) (bytes_of t) ≡ bytes_of (tree_filled pss t)
