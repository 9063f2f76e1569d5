-- The parts of the later link are those of the whole one, moved: with the same bytes once windows are written, the same windows, types and init
-- functions.
use Rattle.std.specs.Prelude.{Bool, true, not, ◌&&◌, IsTrue, if◌then◌else◌, Option, Some, None}
use Rattle.std.specs.List.{list_any, AllZip}
use Rattle.mark_bits.specs.declared.chunk.Chunk.{Chunk}
use Rattle.name_rules.specs.Entries.{InputSymbol, same_entry}
use Rattle.link_rules.specs.Program.{Program, Ref, init_calls, chunk_of}
use Rattle.partial_rules.specs.Partial.{standing, is_open}
use Rattle.partial_rules.specs.Moving.{IsMoving, AlikeRef, AlikeParts}
use Rattle.partial_laws.specs.Inputs.{Run, Objects}
use Rattle.partial_laws.specs.Standing.{is_of_run, alone_symbol}
use Rattle.partial_parts_laws.specs.Linked.{Links, alone_program, whole_program, later_program}
use Rattle.partial_parts_laws.specs.Moves.{moving, is_part, StandsInLinks}

abbrev pub is_placed : Program → Option Chunk → Bool
is_placed p None = true
is_placed p (Some c) = is_part p c

module _ (run : Run) (os : Objects) (ls : Links) where
  -- A definition in a kept part of the whole link; one of the run stands in the run alone and isn't open there.
  abbrev pub is_definition : InputSymbol → Bool
  is_definition e =
      is_placed (whole_program run os ls) (chunk_of e)
      && (if is_of_run run os e then list_any (same_entry (alone_symbol run os e)) (standing (alone_program run os ls)) && not (is_open (alone_program run os ls) (alone_symbol run os e)) else true)

  abbrev pub HeldChunk : Chunk → Type 0
  HeldChunk c = IsTrue (is_part (whole_program run os ls) c)

  abbrev pub HeldSymbol : InputSymbol → Type 0
  HeldSymbol e = IsTrue (is_definition e)

  -- Chunks and definitions are moved.
  abbrev pub PartsMove : Type 0
  PartsMove = IsMoving (moving run os (alone_program run os ls)) HeldChunk HeldSymbol

  -- The parts are alike.
  abbrev pub PartsAlike : Type 0
  PartsAlike =
      AlikeParts (moving run os (alone_program run os ls)) HeldChunk HeldSymbol (whole_program run os ls) (later_program run os ls)
      (whole_program run os ls).parts (later_program run os ls).parts

  -- The init functions that are called are alike, in one order.
  abbrev pub CallsAlike : Type 0
  CallsAlike =
      AllZip (λ (a b : Ref). AlikeRef (moving run os (alone_program run os ls)) HeldChunk HeldSymbol a b)
      (init_calls (whole_program run os ls).resolved) (init_calls (later_program run os ls).resolved)

abbrev pub PartsAreMoved : Type 0
PartsAreMoved = (run : Run) (os : Objects) (ls : Links) → StandsInLinks run os ls → PartsMove run os ls

abbrev pub CallsAreAlike : Type 0
CallsAreAlike = (run : Run) (os : Objects) (ls : Links) → StandsInLinks run os ls → CallsAlike run os ls

abbrev pub PartsAreAlike : Type 0
PartsAreAlike = (run : Run) (os : Objects) (ls : Links) → StandsInLinks run os ls → PartsAlike run os ls
