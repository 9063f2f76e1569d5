-- What a case tells.
use Rattle.std.specs.Prelude.{ℕ, ◌<◌, List, [], length, slice_index_or, Option, IfSome}
use Rattle.name_entries.specs.wl_base.declared.fault.Fault.{Fault}
use Rattle.name_entries.specs.wl_base.declared.fault.Fault.TheVariants.{Clash, Duplicate}
use Rattle.name_entries.specs.name_rules.declared.case.PairCase.{PairCase}

-- The name of a case, by its number.
abbrev pub name_in : List (List ℕ) → PairCase → List ℕ
name_in names c = slice_index_or names c.name []

abbrev pub clash_told : List (List ℕ) → PairCase → Fault
clash_told names c = Clash (name_in names c) c.first c.other

abbrev pub duplicate_told : List (List ℕ) → PairCase → Fault
duplicate_told names c = Duplicate (name_in names c) c.first c.other

-- The number of a case is that of a name. No two numbers have one name, so what a case tells leaves no other number.
abbrev pub IsNamed : List (List ℕ) → Option PairCase → Type 0
IsNamed names c = IfSome c (λ c. c.name < length names)
