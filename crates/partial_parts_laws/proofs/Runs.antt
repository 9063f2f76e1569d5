-- The kept parts of a run alone, and which of them are taken away in the whole link, where one object stands for the run.
use Rattle.std.proofs.Common.{◌≡◌, ℕ, ◌+◌, true, List, map, length}
use Rattle.std.specs.Prelude.{Some, slice_get, flat_map}
use Rattle.list_places.specs.Has.{Has}
use Rattle.name_rules.specs.object_file.linking_section.declared.member_kinds.TheConstants as members
use Rattle.name_rules.specs.object_file.object_parts.declared.parts.GlobalDef.{GlobalDef}
use Rattle.name_rules.specs.object_file.object_columns.declared.functions.FunctionDef.{FunctionDef}
use Rattle.name_rules.specs.object_file.object_columns.declared.segments.SegmentDef.{SegmentDef}
use Rattle.name_rules.specs.object_file.declared.object.Object.{Object}
use Rattle.name_rules.specs.object_file.Spaces.{function_imports}
use Rattle.name_rules.specs.Entries.{is_kept}
use Rattle.mark_bits.specs.declared.chunk.Chunk.{Chunk}
use Rattle.link_rules.specs.Program.{Program, Part, function_part, segment_part, global_part, chunk_at}
use Rattle.link_rules.specs.Keys.{parts_of_kind}
use Rattle.partial_rules.specs.Partial.{kept, place_of}
use Rattle.partial_laws.specs.Inputs.{Run, Objects, as_input, alone, run_objects}
use Rattle.partial_laws.specs.Kept.{is_taken_away}
use Rattle.partial_parts_laws.specs.Linked.{Links, alone_program}
use Rattle.partial_parts_laws.specs.Moves.{StandsInLinks}
use Rattle.partial_parts_laws.proofs.Parts.{res, object_parts}
use Rattle.partial_parts_laws.proofs.RunParts.{RunStands, kept_is as kept_are, function_there as function_is_there, segment_there as segment_is_there, global_there as global_is_there, function_taken as function_is_taken, segment_taken as segment_is_taken}

module _ (run : Run) (os : Objects) (ls : Links) (s : StandsInLinks run os ls) where
  abbrev p : Program
  p = alone_program run os ls

  abbrev RO : List Object
  RO = run_objects run os

  abbrev pub in_run : Object → Object
  in_run o = as_input (alone run o.input) o

  abbrev alone_parts : Object → List Part
  alone_parts o = object_parts ls.run_alone RO (in_run o)

  r : RunStands run os ls
  r = record { cut = s.names.cut; loaded = s.names.loaded; sound = s.sound; strict_alone = s.strict_alone; groups = s.read.groups; functions_imported = s.read.functions_imported }

  -- The kept parts of a kind are those of the run's objects.
  pub kept_is : (k : ℕ) → kept p k ≡ flat_map (λ o. parts_of_kind k (alone_parts o)) os.middle
  kept_is k = kept_are run os ls r k

  abbrev pub chunks_kept : ℕ → List Chunk
  chunks_kept k = map (λ (part : Part). part.chunk) (kept p k)

  pub function_there : (o : Object) → Has os.middle o → (n : ℕ) (f : FunctionDef) → slice_get o.functions n ≡ Some f → is_kept RO (in_run o) members.FUNCTION (n + length (function_imports o)) ≡ true
      → Has (kept p 0) (function_part ls.run_alone.all RO (res ls.run_alone RO (in_run o)) n f)
  function_there o ho n f is keeps = function_is_there run os ls r o ho n f is keeps

  pub segment_there : (o : Object) → Has os.middle o → (n : ℕ) (g : SegmentDef) → slice_get o.segments n ≡ Some g → is_kept RO (in_run o) members.DATA n ≡ true
      → Has (kept p 1) (segment_part ls.run_alone.all RO (res ls.run_alone RO (in_run o)) n g)
  segment_there o ho n g is keeps = segment_is_there run os ls r o ho n g is keeps

  pub global_there : (o : Object) → Has os.middle o → (n : ℕ) (g : GlobalDef) → slice_get o.globals n ≡ Some g → Has (kept p 2) (global_part ls.run_alone.all RO (res ls.run_alone RO (in_run o)) n g)
  global_there o ho n g is = global_is_there run os ls r o ho n g is

  pub function_taken : (o : Object) → Has os.middle o → (n : ℕ) (f : FunctionDef) → slice_get o.functions n ≡ Some f → is_kept RO (in_run o) members.FUNCTION (n + length (function_imports o)) ≡ true
      → is_taken_away os os.joined members.FUNCTION (place_of p 0 (chunk_at (alone run o.input) 0 n) + length (function_imports os.joined)) ≡ is_taken_away os o members.FUNCTION (n + length (function_imports o))
  function_taken o ho n f is keeps = function_is_taken run os ls r o ho n f is keeps

  pub segment_taken : (o : Object) → Has os.middle o → (n : ℕ) (g : SegmentDef) → slice_get o.segments n ≡ Some g → is_kept RO (in_run o) members.DATA n ≡ true
      → is_taken_away os os.joined members.DATA (place_of p 1 (chunk_at (alone run o.input) 1 n)) ≡ is_taken_away os o members.DATA n
  segment_taken o ho n g is keeps = segment_is_taken run os ls r o ho n g is keeps
