-- The relocatable object of inputs that were read of their files is an object (Linking.md; Core 5.5).
use Rattle.std.specs.Prelude.{◌≡◌, ℕ, ◌+◌, ◌≤◌, ◌^◌, ◌==◌, false, List, [], map, find, length, take, drop, slice_index_or, All, Some, None}
use Rattle.list_places.specs.Has.{Has}
use Rattle.object_rules.specs.Rules.{broken_rule}
use Rattle.name_rules.specs.object_file.declared.object.Object.{Object}
use Rattle.object_file.specs.ObjectOf.{IsObject}
use Rattle.object_file.specs.Objects.{object_from}
use Rattle.object_file.specs.Spellable.{IsSpellable}
use Rattle.round_rules.specs.Rounds.{Candidate}
use Rattle.name_rules.specs.Cases.{clash}
use Rattle.partial_rules.specs.Relocatable.{Windowed, relocatable_bytes}
use Rattle.partial_rules.specs.Partial.{open_local, relocatable}
use Rattle.partial_rules.specs.WellFormed.{Coded, IsCoded, IsSpelledGlobal, IsWritable}
use Rattle.partial_rules.specs.Sections.{sections_told}
use Rattle.partial_rules.specs.ReadAs.{linking_for, parts_told}
use Rattle.partial_laws.specs.Loaded.{Rise}
use Rattle.partial_parts_laws.specs.Linked.{Linked, program}
use Rattle.partial_parts_laws.specs.ReadBack.{AreLinked}
use Rattle.partial_parts_laws.specs.SymbolsBack.{AreNamed}
use Rattle.partial_parts_laws.specs.RelocsFit.{HaveAddends}
use Rattle.partial_parts_laws.specs.RulesKept.{AddressesRead}

-- ---- what is asked of the inputs

-- the bytes of a candidate
abbrev pub bytes_of : Linked → Candidate → List ℕ
bytes_of l c = take c.len (drop c.start (slice_index_or l.files c.file []))

-- The object is what a file of its own is.
pub record IsReadFrom (l : Linked) (o : Object) : Type 0 where
  pub candidate : Candidate
  pub found : find (λ (c : Candidate). c.input == o.input) l.all ≡ Some candidate
  pub file : o.input ≡ candidate.file + 1
  pub start : candidate.start ≡ 0
  pub is : IsObject o.input (bytes_of l candidate) o

-- Objects that were read so, of a link in which calls are as the objects have them and no names clash.
pub record AreReadAlone (l : Linked) (objects : List Object) : Type 0 where
  pub strict : l.plan.loose_calls ≡ false
  pub rise : Rise 0 objects
  pub no_clash : clash (program l objects).entries ≡ None
  pub each : (o : Object) → Has objects o → IsReadFrom l o

-- ---- what holds then

-- They are sound, lie in their files and are named as they are read, and have spellings.
pub record AreReadWell (l : Linked) (objects : List Object) : Type 0 where
  pub linked : AreLinked l objects
  pub named : All AreNamed objects
  pub spellable : All IsSpellable objects
  pub addends : HaveAddends objects

abbrev pub ReadWell : Type 0
ReadWell = (l : Linked) (objects : List Object) → AreReadAlone l objects → AreReadWell l objects

-- Bodies with emptied windows spell code, and their relocations stand on its immediates.
pub record CodeOf (bodies : List Windowed) : Type 0 where
  pub codes : List Coded
  pub are : bodies ≡ map {A = Coded} {B = Windowed} (λ c. c.windowed) codes
  pub coded : All IsCoded codes

abbrev pub BodiesAreCoded : Type 0
BodiesAreCoded = (l : Linked) (objects : List Object) → AreReadAlone l objects → CodeOf (relocatable (program l objects)).bodies

-- The bytes of a global's first value spell it.
abbrev pub GlobalsAreSpelled : Type 0
GlobalsAreSpelled = (l : Linked) (objects : List Object) → AreReadAlone l objects → All IsSpelledGlobal (relocatable (program l objects)).globals

-- A window for the address of a function or datum is in what reads it, whatever the code is.
abbrev pub AddressesAreRead : Type 0
AddressesAreRead =
    (l : Linked) (objects : List Object) → AreReadAlone l objects → open_local (program l objects) ≡ None → (codes : List Coded)
    → AddressesRead (sections_told (relocatable (program l objects))) (relocatable_bytes (relocatable (program l objects))) (parts_told (relocatable (program l objects)) codes) (linking_for (relocatable (program l objects)))

-- ---- all together

-- The relocatable object is well formed and breaks no rule, and its bytes are the object that is read of them.
pub record IsAnObject (l : Linked) (objects : List Object) : Type 0 where
  pub codes : List Coded
  pub writable : IsWritable (relocatable (program l objects)) codes
  pub kept : broken_rule (sections_told (relocatable (program l objects))) (relocatable_bytes (relocatable (program l objects))) (parts_told (relocatable (program l objects)) codes) ≡ None
  pub is : (input : ℕ) → IsObject input (relocatable_bytes (relocatable (program l objects))) (object_from input (sections_told (relocatable (program l objects))) (parts_told (relocatable (program l objects)) codes))

-- It asks that no part refers to a local symbol of one that isn't kept, and that there are at most 2^30 bytes.
abbrev pub PartialsAreObjects : Type 0
PartialsAreObjects =
    (l : Linked) (objects : List Object) → AreReadAlone l objects → open_local (program l objects) ≡ None
    → length (relocatable_bytes (relocatable (program l objects))) ≤ 2 ^ 30 → IsAnObject l objects
