-- The names of functions that the linker makes (as wasm-ld 14 to 22 write them).
use Rattle.std.specs.Prelude.{ℕ, zero, suc, ◌==◌, Bool, false, List, [], ◌∷◌, ◌++◌, if◌then◌else◌, codes}
use Rattle.made_symbols.specs.declared.mode.Mode.{Mode}
use Rattle.made_symbols.specs.Made.{made_at}
use Rattle.link_rules.specs.Keys.{FunctionKey, outside, linker_function, stub, own}

-- ---- stubs: a null function that is called, and one that is called by another type than its definition has

-- The name of a variant is told by 0xFF, which stands in no UTF-8: there, between its types, and before the name that it stands for
-- (`variant_name` in link_rules).
abbrev pub begins_variant : List ℕ → Bool
begins_variant [] = false
begins_variant (b ∷ bs) = b == 0xFF

-- what stands behind so many of these bytes
abbrev pub behind_marks : ℕ → List ℕ → List ℕ
behind_marks zero name = name
behind_marks (suc n) [] = []
behind_marks (suc n) (b ∷ bs) = if b == 0xFF then behind_marks n bs else behind_marks (suc n) bs

abbrev pub mismatch_prefix : List ℕ
mismatch_prefix = codes "signature_mismatch:"

abbrev pub weak_prefix : List ℕ
weak_prefix = codes "undefined_weak:"

unfoldable pub stub_label : List ℕ → List ℕ
stub_label name = if begins_variant name then mismatch_prefix ++ behind_marks 3 name else weak_prefix ++ name

-- ---- all

-- The name that a function has by itself. Those of imports and of objects have the names of symbols.
abbrev pub key_label : Mode → FunctionKey → List ℕ
key_label mode (outside k) = []
key_label mode (linker_function n) = (made_at mode n).name
key_label mode (stub name) = stub_label name
key_label mode (own input index) = []
