-- Worked examples.
use Rattle.std.specs.Prelude.{◌≡◌, ℕ, pos, true, false, [], ◌∷◌, nat_eq, None, refl}
use Rattle.object_parts.specs.reloc_section.declared.entry.Reloc.{Reloc}
use Rattle.object_parts.specs.linking_section.declared.symbol.SymbolKind.TheVariants.{Function, Datum}
use Rattle.object_parts.specs.declared.parts.DataPart.{DataPart}
use Rattle.object_rules.specs.Differ.{all_differ}
use Rattle.object_rules.specs.Relocs.{lie_apart, may_name}
use Rattle.object_rules.specs.Windows.{data_windows_stand}

-- a relocation of this type at this place
abbrev at : ℕ → ℕ → Reloc
at kind place = record { kind = kind; offset = place; index = 0; addend = pos 0 }

-- a segment whose bytes begin at this place of the object
abbrev from : ℕ → ℕ → DataPart
from start len = record { memory = None; span = record { start = start; len = len } }

-- Windows of five bytes that touch, that overlap, that fall, and one that ends behind the payload.
touching : lie_apart 5 40 0 (at 0 2 ∷ at 0 7 ∷ []) ≡ true
touching = refl

overlapping : lie_apart 5 40 0 (at 0 2 ∷ at 0 6 ∷ []) ≡ false
overlapping = refl

falling : lie_apart 5 40 0 (at 0 7 ∷ at 0 2 ∷ []) ≡ false
falling = refl

at_the_end : lie_apart 5 40 0 (at 0 35 ∷ []) ≡ true
at_the_end = refl

behind_the_end : lie_apart 5 40 0 (at 0 36 ∷ []) ≡ false
behind_the_end = refl

-- A function's index in code is that of a function, and type 7 may name a function, a datum and a
-- global.
calls : may_name 0 Function ≡ true
calls = refl

calls_no_datum : may_name 0 Datum ≡ false
calls_no_datum = refl

cells : may_name 7 Datum ≡ true
cells = refl

-- The payload begins at 95, and two segments of 8 bytes each stand at 100 and 110: a window at the
-- end of the first, one that leaves it, one before it, and one in the second.
in_first : data_windows_stand 95 (at 5 9 ∷ []) (from 100 8 ∷ from 110 8 ∷ []) ≡ true
in_first = refl

leaves_first : data_windows_stand 95 (at 5 10 ∷ []) (from 100 8 ∷ from 110 8 ∷ []) ≡ false
leaves_first = refl

before_first : data_windows_stand 95 (at 5 4 ∷ []) (from 100 8 ∷ from 110 8 ∷ []) ≡ false
before_first = refl

in_both : data_windows_stand 95 (at 5 5 ∷ at 2 15 ∷ []) (from 100 8 ∷ from 110 8 ∷ []) ≡ true
in_both = refl

-- A type for code stands in no segment.
for_code : data_windows_stand 95 (at 3 5 ∷ []) (from 100 8 ∷ []) ≡ false
for_code = refl

twice : all_differ nat_eq (1 ∷ 2 ∷ 1 ∷ []) ≡ false
twice = refl

once : all_differ nat_eq (1 ∷ 2 ∷ 3 ∷ []) ≡ true
once = refl
