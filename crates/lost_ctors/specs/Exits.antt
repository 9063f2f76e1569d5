-- What is to be done at exit, as the data tell it.
use Rattle.std.specs.Prelude.{ℕ, ◌==◌, ◌&&◌, ◌||◌, Bool, false, not, List, find, Option, Some, None, option_and_then, codes}
use Rattle.link_marks.specs.link_program.wl_base.Names.{number_of}
use Rattle.link_marks.specs.link_program.linking_section.Flags.{has_bit}
use Rattle.link_marks.specs.link_program.mark_bits.declared.chunk.Chunk.{Chunk}
use Rattle.std.specs.List.{list_any}
use Rattle.link_marks.specs.link_program.declared.symbol.Winner.{Winner}
use Rattle.link_marks.specs.Seen.{defined_chunk, number_in}
use Rattle.lost_ctors.specs.declared.alive.Alive.{Alive}
use Rattle.lost_ctors.specs.Alive.{lives, alive_of}

-- The winner of the name of a number, if it is strong.
abbrev pub strong_by : List Winner → ℕ → Option Winner
strong_by winners number = find (λ (w : Winner). (w.name == number) && not (has_bit 0x01 w.flags)) winners

abbrev pub strong_seen : List (List ℕ) → List Winner → List ℕ → Option Winner
strong_seen names winners name = option_and_then (strong_by winners) (number_of names name)

abbrev pub lives_with : List Alive → Option Winner → Bool
lives_with alive None = false
lives_with alive (Some w) = lives (alive_of alive w.definition.input)

abbrev pub is_live : List ℕ → Option ℕ → Bool
is_live live None = false
is_live live (Some number) = list_any (λ n. number == n) live

abbrev pub lives_itself : List Chunk → List ℕ → Option Winner → Bool
lives_itself chunks live None = false
lives_itself chunks live (Some w) = is_live live (number_in chunks (defined_chunk w.definition))

abbrev pub exits_lost : List (List ℕ) → List Winner → List Chunk → List Alive → List ℕ → Bool
exits_lost names winners chunks alive live =
    lives_with alive (strong_seen names winners (codes "__funcs_on_exit")) || lives_itself chunks live (strong_seen names winners (codes "__stdio_exit"))
