-- What is read of the bytes of a program's relocatable object, as far as it is the tree's own: types, imports, init functions, groups, and of
-- functions, segments and globals their types, infos and values.
use Rattle.std.specs.Prelude.{◌≡◌, ℕ, ◌==◌, false, List, [], map, flat_map, find, length, slice_index_or, All, Some, None}
use Rattle.std.specs.List.{AllZip}
use Rattle.list_places.specs.Has.{Has}
use Rattle.name_rules.specs.object_file.object_parts.declared.parts.GlobalDef.{GlobalDef}
use Rattle.name_rules.specs.object_file.object_columns.declared.functions.FunctionDef.{FunctionDef}
use Rattle.name_rules.specs.object_file.object_columns.declared.segments.SegmentDef.{SegmentDef}
use Rattle.name_rules.specs.object_file.declared.object.Object.{Object}
use Rattle.name_rules.specs.object_file.Spaces.{defined_type}
use Rattle.object_file.specs.Objects.{object_from}
use Rattle.round_rules.specs.Rounds.{Candidate}
use Rattle.name_rules.specs.Cases.{clash}
use Rattle.object_file.specs.Sound.{Sound}
use Rattle.link_rules.specs.Program.{Program, Part, init_calls_in, global}
use Rattle.link_rules.specs.Keys.{content_type}
use Rattle.link_rules.specs.Output.{content_global}
use Rattle.partial_rules.specs.Partial.{kept, content_info, types, imports, init_for, groups_in, relocatable}
use Rattle.partial_rules.specs.Relocatable.{Windowed, relocatable_bytes}
use Rattle.partial_rules.specs.WellFormed.{Coded, IsWritable}
use Rattle.partial_rules.specs.Sections.{sections_told}
use Rattle.partial_rules.specs.ReadAs.{parts_told}
use Rattle.partial_laws.specs.Loaded.{Rise}
use Rattle.partial_parts_laws.specs.Linked.{Linked, program, bytes_at}
use Rattle.partial_parts_laws.specs.PartsRead.{PartsRead}

pub record TreeRead (p : Program) (o : Object) : Type 0 where
  pub types_are : o.types ≡ types p
  pub imports_are : o.imports ≡ imports p
  pub inits : o.inits ≡ map (init_for p) (flat_map init_calls_in p.resolved)
  pub groups : o.groups ≡ flat_map (groups_in p) p.objects
  -- each function with the type of its part, and each segment with its info
  pub functions : AllZip (λ (part : Part) (f : FunctionDef). defined_type o f ≡ content_type part.content) (kept p 0) o.functions
  pub segments : AllZip (λ (part : Part) (g : SegmentDef). g.info ≡ content_info p part.content) (kept p 1) o.segments
  pub globals : AllZip (λ (part : Part) (g : GlobalDef). content_global (global g) ≡ content_global part.content) (kept p 2) o.globals

-- Whatever its bodies spell.
abbrev pub TreesAreRead : Type 0
TreesAreRead =
    (input : ℕ) (p : Program) (codes : List Coded) → ((part : Part) → Has (kept p 2) part → (g : GlobalDef) × (part.content ≡ global g))
    → (relocatable p).bodies ≡ map {A = Coded} {B = Windowed} (λ c. c.windowed) codes
    → TreeRead p (object_from input (sections_told (relocatable p)) (parts_told (relocatable p) codes))

-- ---- all parts

-- The functions and segments of objects lie in their files.
pub record LieInFiles (l : Linked) (objects : List Object) : Type 0 where
  pub functions : (o : Object) → Has objects o → (f : FunctionDef) → Has o.functions f → length (bytes_at l o.input f.span) ≡ f.span.len
  pub segments : (o : Object) → Has objects o → (g : SegmentDef) → Has o.segments g → length (bytes_at l o.input g.span) ≡ g.span.len

-- Sound objects of a link in which calls are as the objects have them and no names clash.
pub record AreLinked (l : Linked) (objects : List Object) : Type 0 where
  pub strict : l.plan.loose_calls ≡ false
  pub rise : Rise 0 objects
  pub sound : All (λ (o : Object). (size : ℕ) × Sound size o) objects
  pub lie : LieInFiles l objects
  pub no_clash : clash (program l objects).entries ≡ None

-- An input of a link is a file of these bytes.
pub record IsFile (l : Linked) (input : ℕ) (bytes : List ℕ) : Type 0 where
  pub candidate : Candidate
  pub found : find (λ (c : Candidate). c.input == input) l.all ≡ Some candidate
  pub start : candidate.start ≡ 0
  pub file : slice_index_or l.files candidate.file [] ≡ bytes

-- What another link reads of the relocatable object of these objects, where that is well formed, is the kept parts.
abbrev pub PartsAreRead : Type 0
PartsAreRead =
    (l : Linked) (objects : List Object) → AreLinked l objects
    → (codes : List Coded) → IsWritable (relocatable (program l objects)) codes
    → (other : Linked) (input : ℕ) → IsFile other input (relocatable_bytes (relocatable (program l objects)))
    → PartsRead (object_from input (sections_told (relocatable (program l objects))) (parts_told (relocatable (program l objects)) codes)) other (program l objects)
