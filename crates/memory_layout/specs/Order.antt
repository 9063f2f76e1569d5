-- Addresses in the order of placing.
use Rattle.std.specs.Prelude.{ℕ, ◌+◌, ◌≤◌, Bool, not, List, [], ◌∷◌, ◌++◌, if◌then◌else◌}
use Rattle.memory_layout.specs.declared.rules.SegmentShape.{SegmentShape}
use Rattle.memory_layout.specs.Memory.{address_after, end_after}

-- The address of each of these, placed one behind the other.
abbrev pub starts : ℕ → List SegmentShape → List ℕ
starts at [] = []
starts at (s ∷ ss) = address_after at s ∷ starts (end_after at s) ss

-- Of the addresses of shapes, those of the shapes that pass the test.
abbrev pub of_those : (SegmentShape → Bool) → List SegmentShape → List ℕ → List ℕ
of_those test [] xs = []
of_those test (s ∷ ss) [] = []
of_those test (s ∷ ss) (x ∷ xs) = if test s then x ∷ of_those test ss xs else of_those test ss xs

-- The addresses of shapes, brought into the order of placing.
abbrev pub reordered : List SegmentShape → List ℕ → List ℕ
reordered shapes xs = of_those (λ s. not s.zero) shapes xs ++ of_those (λ s. s.zero) shapes xs

-- A segment at an address lies between two places.
abbrev pub LiesWithin : ℕ → ℕ → SegmentShape → ℕ → Type 0
LiesWithin low high s address = (low ≤ address) × (address + s.len ≤ high)
