-- Which parts are kept where one object stands for a run: those before and behind it as they were, and those of the run that are kept in the run
-- alone and that no group of an input before it takes away.
use Rattle.std.specs.Prelude.{◌≡◌, ℕ, ◌+◌, ◌<◌, ◌≤◌, Bool, not, ◌&&◌}
use Rattle.std.specs.List.{list_any}
use Rattle.name_rules.specs.object_file.declared.object.Object.{Object}
use Rattle.name_rules.specs.Entries.{has_group, has_member, is_kept}
use Rattle.partial_laws.specs.Inputs.{Run, as_input, alone, later, Objects, whole_objects, run_objects, later_objects, AreCut}

-- whether a group of the object has the part, and an input before the run that group too
abbrev pub is_taken_away : Objects → Object → ℕ → ℕ → Bool
is_taken_away os o kind index = list_any (λ g. has_member kind index g && list_any (has_group g.name) os.before) o.groups

pub record PartsKept (run : Run) (os : Objects) : Type 0 where
  pub before : (o : Object) (kind index : ℕ) → o.input ≤ run.first → is_kept (later_objects run os) o kind index ≡ is_kept (whole_objects os) o kind index
  pub behind : (o : Object) (kind index : ℕ) → run.first + run.many < o.input
      → is_kept (later_objects run os) (as_input (later run o.input) o) kind index ≡ is_kept (whole_objects os) o kind index
  pub of_run : (o : Object) (kind index : ℕ) → run.first < o.input → o.input ≤ run.first + run.many
      → is_kept (whole_objects os) o kind index ≡ (not (is_taken_away os o kind index) && is_kept (run_objects run os) (as_input (alone run o.input) o) kind index)
  pub joined : (kind index : ℕ) → is_kept (later_objects run os) os.joined kind index ≡ not (is_taken_away os os.joined kind index)

abbrev pub PartsAreKept : Type 0
PartsAreKept = (run : Run) (os : Objects) → AreCut run os → PartsKept run os
