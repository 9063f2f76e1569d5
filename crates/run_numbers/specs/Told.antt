-- How what the code answers stands to what the definitions compute.
use Rattle.std.specs.Prelude.{◌≡◌, ℕ, ◌<◌, ◌^◌, List, Bool, true, false, ◌==◌, ◌||◌}
use Rattle.wasm_types.specs.declared.value.ValType.{ValType}
use Rattle.wasm_types.specs.declared.value.ValType.TheVariants as types
use Rattle.run_rules.specs.declared.trace.TrapKind.{TrapKind}
use Rattle.run_rules.specs.declared.value.Class.{Class}
use Rattle.run_rules.specs.declared.value.Class.TheVariants.{Tests, Compares, Ones, Twos, Converts, Carries, Unknown}
use Rattle.run_rules.specs.Numbers.{Outcome, Gives, Breaks, Values, Left, Fails, Carried, NoRule}
use Rattle.run_numbers.specs.Layers.{Layers}
use Rattle.run_numbers.specs.declared.rows.Answered.{Answered}
use Rattle.run_numbers.specs.declared.rows.Answered.TheVariants.{Number, Trap}
use Rattle.run_numbers.specs.declared.computing.Went.{Went}
use Rattle.run_numbers.specs.declared.computing.Went.TheVariants as went

-- what a row of the table gives, within the width
abbrev pub Answers : Outcome → ℕ → Answered → Type 0
Answers o w (Number n) = (o ≡ Gives n) × (n < 2 ^ w)
Answers o w (Trap k) = o ≡ Breaks k

-- whether a conversion to a type gives a number within its width
abbrev pub narrow : ValType → ℕ → Bool
narrow types.I32 k = (k == 0) || (k == 3) || (k == 4)
narrow types.I64 k = true
narrow types.F32 k = false
narrow types.F64 k = false

abbrev pub IsNarrow : Class → Type 0
IsNarrow (Converts t u k) = narrow u k ≡ true
IsNarrow (Tests t) = Unit {0}
IsNarrow (Compares t k) = Unit {0}
IsNarrow (Ones t k) = Unit {0}
IsNarrow (Twos t k) = Unit {0}
IsNarrow Carries = Unit {0}
IsNarrow Unknown = Unit {0}

-- what became of the values
abbrev pub Does : Values → Went → Layers → Layers → Type 0
Does vs went.Well old new = (vs ≡ Left new.values) × (new.labels ≡ old.labels)
Does vs (went.Wrong k) old new = vs ≡ Fails k
Does vs went.Foreign old new = vs ≡ Carried
Does vs went.Nowhere old new = vs ≡ NoRule
