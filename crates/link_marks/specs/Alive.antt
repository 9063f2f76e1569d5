-- The live parts, as they are kept: a set, and their numbers.
use Rattle.std.specs.Prelude.{◌≡◌, ℕ, ◌==◌, List, filter, length}
use Rattle.std.specs.List.{range_with_len}
use Rattle.link_program.specs.mark_bits.Words.{bit_of}
use Rattle.link_program.specs.link_rules.Program.{Program, Part}
use Rattle.link_program.specs.Live.{AreLive}
use Rattle.link_marks.specs.declared.live.Live.{Live}

-- The numbers below a count whose bits are set.
abbrev pub numbers_set : List ℕ → ℕ → List ℕ
numbers_set words count = filter (λ n. bit_of words n == 1) (range_with_len 0 count)

-- The set has a bit for each part; the numbers are those of its bits, and the parts are those of the numbers.
pub record IsLive (p : Program) (live : Live) (parts : List Part) : Type 0 where
  pub count : live.set.chunks ≡ length p.parts
  pub numbers : live.numbers ≡ numbers_set live.set.words live.set.chunks
  pub are : AreLive p live.numbers parts
