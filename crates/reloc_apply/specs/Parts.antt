-- How the windows of an output are divided.
use Rattle.std.specs.Prelude.{ℕ, ◌+◌, ◌*◌, ◌/◌, ◌%◌, ◌==◌, min, List, [], ◌∷◌, length, drop, slice_range, if◌then◌else◌}
use Rattle.reloc_apply.specs.declared.window.Patch.{Patch}

-- Each part has as many of the `count` windows, and the first ones one more where they can't be divided evenly. This many
-- windows are in the first k of them
abbrev pub windows_before : ℕ → ℕ → ℕ → ℕ
windows_before count parts k = k * (count / parts) + min k (count % parts)

-- the number of the first window of a part
abbrev pub first_of : ℕ → ℕ → ℕ → ℕ
first_of count parts part = windows_before count parts (min part parts)

-- the windows of the parts from p on up to q
abbrev pub windows_in : List Patch → ℕ → ℕ → ℕ → List Patch
windows_in ps parts p q = slice_range ps (first_of (length ps) parts p) (first_of (length ps) parts q)

-- the place of the first window, or the end where there is none
abbrev pub place_or : ℕ → List Patch → ℕ
place_or end [] = end
place_or end (p ∷ ps) = p.place

-- a part begins at its first window, and the first one at 0
abbrev pub begins : List Patch → ℕ → ℕ → ℕ → ℕ
begins ps end parts part = if part == 0 then 0 else place_or end (drop (first_of (length ps) parts part) ps)
