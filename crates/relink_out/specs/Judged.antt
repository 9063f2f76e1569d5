-- The object by its length.
use Rattle.std.specs.Prelude.{◌≡◌, ℕ, ◌<◌, ◌≤◌, ◌^◌, List, length}
use Rattle.relink_out.specs.declared.writing.Judged.{Judged}
use Rattle.relink_out.specs.declared.writing.Judged.TheVariants.{Bytes, TooLong}

-- The bytes, or how many there would be.
abbrev pub IsJudged : List ℕ → Judged → Type 0
IsJudged bytes (Bytes written) = (written ≡ bytes) × (length written ≤ 2 ^ 30)
IsJudged bytes (TooLong needed) = (needed ≡ length bytes) × (2 ^ 30 < needed)
