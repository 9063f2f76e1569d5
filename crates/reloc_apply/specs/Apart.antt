-- Where windows lie.
use Rattle.std.specs.Prelude.{ℕ, ◌+◌, ◌-◌, ◌≤◌, ◌<◌, ◌⊎◌, List, [], ◌∷◌, map}
use Rattle.reloc_apply.specs.declared.window.Form.{Form}
use Rattle.reloc_apply.specs.declared.window.Form.TheVariants.{Unsigned5, Signed5, Word4}
use Rattle.reloc_apply.specs.declared.window.Patch.{Patch}

-- how many bytes a window has
abbrev pub size_of : Form → ℕ
size_of Unsigned5 = 5
size_of Signed5 = 5
size_of Word4 = 4

-- from `at` to `end` the windows rise and don't overlap
abbrev pub AreApart : ℕ → ℕ → List Patch → Type 0
AreApart at end [] = at ≤ end
AreApart at end (p ∷ ps) = (at ≤ p.place) × AreApart (p.place + size_of p.form) end ps

-- the window lies in so many bytes
abbrev pub LiesIn : ℕ → Patch → Type 0
LiesIn len p = p.place + size_of p.form ≤ len

-- the byte at this place isn't in the window
abbrev pub IsOutside : ℕ → Patch → Type 0
IsOutside i p = (i < p.place) ⊎ (p.place + size_of p.form ≤ i)

-- the window so many bytes later
abbrev pub moved : ℕ → Patch → Patch
moved n p = record p { place = n + p.place }

-- the windows by their places in bytes that begin at `start`
abbrev pub from_here : ℕ → List Patch → List Patch
from_here start ps = map {A = Patch} {B = Patch} (λ p. record p { place = p.place - start }) ps
