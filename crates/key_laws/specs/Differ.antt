-- The keys of each list differ. Functions, slots, globals and types of the output are numbered by the places of their keys in lists, and
-- segments are found by theirs; so where no two places of a list hold the same key, a key has one number, and no two keys share one.
use Rattle.std.specs.Prelude.{◌≡◌, ℕ, Bool, true, List, Some, slice_get}
use Rattle.wasm_types.specs.Same.{same_type}
use Rattle.object_file.specs.declared.object.Object.{Object}
use Rattle.name_entries.specs.View.{InputsRise}
use Rattle.made_symbols.specs.declared.mode.Mode.TheVariants.{Plain}
use Rattle.round_rules.specs.Rounds.{Candidate}
use Rattle.link_plan.specs.declared.plan.Plan.{Plan}
use Rattle.link_rules.specs.Program.{program_of, same_chunk}
use Rattle.link_rules.specs.Marks.{exported}
use Rattle.link_rules.specs.Keys.{same_function, same_global}
use Rattle.link_rules.specs.Values.{Layout}
use Rattle.link_worlds.specs.Worlds.{layout_of}

-- Two places that hold the same key are one place.
abbrev pub Differ : {X : Type 0} → (X → X → Bool) → List X → Type 0
Differ same keys = (i j : ℕ) (a b : _) → slice_get keys i ≡ Some a → slice_get keys j ≡ Some b → same a b ≡ true → i ≡ j

-- By the sameness that each list is numbered by.
pub record AllDiffer (l : Layout) : Type 0 where
  pub functions : Differ same_function l.numbers.functions
  pub slots : Differ same_function l.numbers.slots
  pub globals : Differ same_global l.numbers.globals
  pub types : Differ same_type l.numbers.types
  pub segments : Differ same_chunk l.segments

-- Of loaded objects, whatever the link finds at fault later.
abbrev pub KeysDiffer : Type 0
KeysDiffer = (plan : Plan) (files : List (List ℕ)) (all : List Candidate) (objects : List Object) → InputsRise 0 objects
    → AllDiffer (layout_of (program_of Plain plan files all objects) (exported Plain (program_of Plain plan files all objects)))
