-- What is proved of the two worlds. `LinkedBy` and `Holds` are premises here; the crates above prove them of a link that gives bytes.
use Rattle.std.specs.Prelude.{◌≡◌, ℕ, ◌<◌, ◌^◌, ◌*◌, List, ◌++◌, map, None}
use Rattle.list_places.specs.Has.{Has}
use Rattle.image_emit.specs.Stored.{Rise, first_address}
use Rattle.name_rules.specs.Entries.{InputSymbol}
use Rattle.run_rules.specs.declared.session.Session.{Session}
use Rattle.run_rules.specs.Modules.{module_world, module_start, module_trace}
use Rattle.sim_laws.specs.Pairs.{WorldPairs, Alike}
use Rattle.link_rules.specs.Program.{Program, Part, Ref, refs}
use Rattle.link_rules.specs.Marks.{live, unresolved}
use Rattle.link_rules.specs.Keys.{GlobalKey}
use Rattle.link_rules.specs.Values.{Layout, solid_segments}
use Rattle.link_worlds.specs.Names.{renaming}
use Rattle.link_worlds.specs.Worlds.{layout_of, world_by, start_by, plan_trace, linked_module, segment_block, zero_segments, pages_at_first}
use Rattle.link_worlds.specs.Sound.{Sound, SoundExports, IsShaped, IsGlobalPart, InRange, IsSmall, AllZero}

-- What an accepted link makes sure of, under a layout.
pub record LinkedBy (p : Program) (exports : List InputSymbol) (l : Layout) : Type 0 where
  pub sound : Sound p
  pub exported : SoundExports p exports
  -- the code of each live function of an object is a body, its references at instructions that take them
  pub shaped : (part : Part) → Has (live p exports) part → part.chunk.kind ≡ 0 → (part.chunk.input ≡ 0 → ⊥) → IsShaped p part
  -- the linker's functions call what they refer to
  pub calls : (part : Part) (ref : Ref) → Has (live p exports) part → part.chunk.input ≡ 0 → Has (refs part) ref → ref.kind ≡ 0
  -- globals of objects begin with constants, and hold them
  pub constants : (part : Part) → Has (live p exports) part → part.chunk.kind ≡ 2 → (part.chunk.input ≡ 0 → ⊥) → IsGlobalPart part.content
  -- nothing is unresolved, and each window holds its value
  pub resolved : unresolved p (live p exports) ≡ None
  pub in_range : InRange l (live p exports)
  -- numbers in cells fit 32 bits
  pub small : (k : GlobalKey) → Has l.numbers.globals k → IsSmall l k

-- What is asked of a session: the memory holds all segments.
pub record Holds (s : Session) (p : Program) (exports : List InputSymbol) (l : Layout) : Type 0 where
  pub rises : Rise 0 (65536 * pages_at_first s p l) (map (segment_block p l) (solid_segments p (live p exports)) ++ map (segment_block p l) (zero_segments p (live p exports)))
  pub low : first_address (map (segment_block p l) (solid_segments p (live p exports))) < 2 ^ 32
  pub zeros : AllZero (map (segment_block p l) (zero_segments p (live p exports)))

-- The output's module is the program before it is linked, renamed.
abbrev pub WorldsPair : Type 0
WorldsPair = (s : Session) (p : Program) (exports : List InputSymbol) → LinkedBy p exports (layout_of p exports)
    → WorldPairs (renaming p (layout_of p exports)) (world_by p (layout_of p exports) exports) (module_world s (linked_module p exports))

-- They begin alike.
abbrev pub StartsPair : Type 0
StartsPair = (s : Session) (p : Program) (exports : List InputSymbol) → LinkedBy p exports (layout_of p exports) → Holds s p exports (layout_of p exports)
    → Alike (renaming p (layout_of p exports)) (start_by s p (layout_of p exports) (live p exports)) (module_start s (linked_module p exports))

-- So each session has one trace.
abbrev pub RunsAgree : Type 0
RunsAgree = (s : Session) (p : Program) (exports : List InputSymbol) (n : ℕ) → LinkedBy p exports (layout_of p exports) → Holds s p exports (layout_of p exports)
    → plan_trace s p exports n ≡ module_trace s (linked_module p exports) n
