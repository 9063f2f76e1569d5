-- Worked rows: an index as LLVM's `ranlib` 14 writes it.
use Rattle.std.specs.Prelude.{◌≡◌, [], ◌∷◌, ◌++◌, codes}
use Rattle.std.specs.Fmt.{digits}
use Rattle.std.proofs.Common.{refl}
use Rattle.library_indexer.specs.Index.{index_header, index_data}

-- The header of an index of 34 bytes.
header_34 : index_header 34 ≡ codes "/               0           0     0     0       34        `" ++ 0x0a ∷ []
unfolding index_header digits
header_34 = refl

-- g, w, k and d for the member whose header stands at 8, and u for that at 368: the index takes 94 bytes with its header, and 34 without.
two_members : index_data (8 ∷ 8 ∷ 8 ∷ 8 ∷ 368 ∷ []) (0x67 ∷ 0 ∷ 0x77 ∷ 0 ∷ 0x6b ∷ 0 ∷ 0x64 ∷ 0 ∷ 0x75 ∷ 0 ∷ [])
    ≡ 0 ∷ 0 ∷ 0 ∷ 5 ∷ 0 ∷ 0 ∷ 0 ∷ 0x66 ∷ 0 ∷ 0 ∷ 0 ∷ 0x66 ∷ 0 ∷ 0 ∷ 0 ∷ 0x66 ∷ 0 ∷ 0 ∷ 0 ∷ 0x66 ∷ 0 ∷ 0 ∷ 1 ∷ 0xce
    ∷ 0x67 ∷ 0 ∷ 0x77 ∷ 0 ∷ 0x6b ∷ 0 ∷ 0x64 ∷ 0 ∷ 0x75 ∷ 0 ∷ []
unfolding index_data
two_members = refl
