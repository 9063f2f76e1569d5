-- Where the parts of the whole link stand where one object stands for a run, and what is asked for that.
use Rattle.std.specs.Prelude.{◌≡◌, ℕ, ◌+◌, ◌<◌, nat_lt, nat_le, Bool, false, ◌&&◌, map, IsTrue, All, if◌then◌else◌, None}
use Rattle.std.specs.List.{list_any}
use Rattle.name_rules.specs.object_file.declared.object.Object.{Object}
use Rattle.object_file.specs.Sound.{Sound}
use Rattle.mark_bits.specs.declared.chunk.Chunk.{Chunk}
use Rattle.link_rules.specs.Program.{Program, Part, chunk_at, same_chunk}
use Rattle.link_rules.specs.Marks.{table_of}
use Rattle.link_rules.specs.Keys.{parts_of_kind}
use Rattle.partial_rules.specs.Partial.{place_of, open_local}
use Rattle.partial_rules.specs.Moving.{Moving}
use Rattle.partial_laws.specs.Inputs.{Run, Objects, alone, later, whole_objects}
use Rattle.partial_laws.specs.Standing.{joining}
use Rattle.partial_laws.specs.Names.{StandsForRun}
use Rattle.partial_laws.specs.Premises.{inits_stand}
use Rattle.partial_parts_laws.specs.Linked.{Links, FilesAgree, alone_program, whole_program, later_program}
use Rattle.partial_parts_laws.specs.PartsRead.{PartsRead}

-- ---- the moving

module _ (run : Run) (os : Objects) (p : Program) where
  -- A chunk of the run stands in the one object, at its place among the kept parts of its kind; one behind the run is of another input.
  abbrev pub moved_chunk : Chunk → Chunk
  moved_chunk c =
      if nat_lt run.first c.input && nat_le c.input (run.first + run.many) then chunk_at os.joined.input c.kind (place_of p c.kind (chunk_at (alone run c.input) c.kind c.index))
      else (if nat_le c.input run.first then c else chunk_at (later run c.input) c.kind c.index)

  abbrev pub moving : Moving
  moving = record { chunk = moved_chunk; entry = (joining run os p).move }

-- Whether a kept part has this chunk.
abbrev pub is_part : Program → Chunk → Bool
is_part p c = list_any (same_chunk c) (table_of p)

-- ---- what is asked

-- One object stands for a run of the whole link, has the parts of the run alone as they are read of what is made of it, and no part of the run refers to
-- a local symbol of a part that isn't kept.
pub record StandsInLinks (run : Run) (os : Objects) (ls : Links) : Type 0 where
  pub names : StandsForRun run os (alone_program run os ls)
  pub sound : All (λ (o : Object). (size : ℕ) × Sound size o) (whole_objects os)
  pub files : FilesAgree run os ls
  pub read : PartsRead os.joined ls.after (alone_program run os ls)
  pub locals : open_local (alone_program run os ls) ≡ None
  pub inits : IsTrue (inits_stand (alone_program run os ls))
  pub strict_alone : ls.run_alone.plan.loose_calls ≡ false
  pub strict : ls.whole.plan.loose_calls ≡ false
  pub strict_after : ls.after.plan.loose_calls ≡ false
  pub allow : ls.after.plan.allow_undefined ≡ ls.whole.plan.allow_undefined

-- ---- the first law: the chunks of each kind are those of the whole link, moved, in one order

abbrev pub ChunksMove : Run → Objects → Links → Type 0
ChunksMove run os ls =
    (kind : ℕ) → kind < 3
    → map (λ (part : Part). part.chunk) (parts_of_kind kind (later_program run os ls).parts)
    ≡ map (λ (part : Part). moved_chunk run os (alone_program run os ls) part.chunk) (parts_of_kind kind (whole_program run os ls).parts)

abbrev pub ChunksAreMoved : Type 0
ChunksAreMoved = (run : Run) (os : Objects) (ls : Links) → StandsInLinks run os ls → ChunksMove run os ls
