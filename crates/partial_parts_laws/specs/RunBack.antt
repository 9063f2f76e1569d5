-- What the later link reads of the partial link of a run: all that is asked of the one object that stands for it.
use Rattle.std.specs.Prelude.{◌≡◌, ℕ, ◌≤◌, ◌^◌, false, List, length, All, None}
use Rattle.std.specs.List.{list_any}
use Rattle.name_rules.specs.object_file.declared.object.Object.{Object}
use Rattle.object_file.specs.Sound.{Sound}
use Rattle.object_file.specs.Objects.{object_from}
use Rattle.name_rules.specs.Entries.{has_group}
use Rattle.name_rules.specs.Cases.{clash}
use Rattle.partial_rules.specs.Partial.{relocatable}
use Rattle.partial_rules.specs.Relocatable.{relocatable_bytes}
use Rattle.partial_rules.specs.WellFormed.{Coded, IsWritable}
use Rattle.partial_rules.specs.Sections.{sections_told}
use Rattle.partial_rules.specs.ReadAs.{parts_told}
use Rattle.partial_laws.specs.Inputs.{Run, Objects, whole_objects, run_objects, AreCut}
use Rattle.partial_laws.specs.Loaded.{Rise, AreLoaded}
use Rattle.partial_laws.specs.Names.{IsRead, Refer}
use Rattle.partial_parts_laws.specs.Linked.{Links, FilesAgree, alone_program}
use Rattle.partial_parts_laws.specs.PartsRead.{PartsRead}
use Rattle.partial_parts_laws.specs.ReadBack.{IsFile}
use Rattle.partial_parts_laws.specs.SymbolsBack.{AreNamed}

-- The run's objects are sound and named as they are read, and no names clash in the run alone.
pub record RunIsLinked (run : Run) (os : Objects) (ls : Links) : Type 0 where
  pub cut : AreCut run os
  pub loaded : AreLoaded (whole_objects os)
  pub sound : All (λ (o : Object). (size : ℕ) × Sound size o) (whole_objects os)
  pub named : All AreNamed os.middle
  pub files : FilesAgree run os ls
  pub strict : ls.run_alone.plan.loose_calls ≡ false
  pub no_clash : clash (alone_program run os ls).entries ≡ None

-- The one object is what is read of the relocatable object of the run, which is well formed and has at most 2^30 bytes.
pub record IsReadBack (run : Run) (os : Objects) (ls : Links) : Type 0 where
  pub codes : List Coded
  pub writable : IsWritable (relocatable (alone_program run os ls)) codes
  pub short : length (relocatable_bytes (relocatable (alone_program run os ls))) ≤ 2 ^ 30
  pub read : os.joined ≡ object_from os.joined.input (sections_told (relocatable (alone_program run os ls))) (parts_told (relocatable (alone_program run os ls)) codes)
  pub file : IsFile ls.after os.joined.input (relocatable_bytes (relocatable (alone_program run os ls)))

-- So it has the symbols and the parts of the run alone, as the law on the links asks.
abbrev pub RunsAreRead : Type 0
RunsAreRead =
    (run : Run) (os : Objects) (ls : Links) → RunIsLinked run os ls → IsReadBack run os ls
    → IsRead run os (alone_program run os ls) × PartsRead os.joined ls.after (alone_program run os ls)

-- References of sound objects that are named as they are read stand on imports, and those to data on none.
abbrev pub RunsRefer : Type 0
RunsRefer = (run : Run) (os : Objects) → All (λ (o : Object). (size : ℕ) × Sound size o) (whole_objects os) → All AreNamed os.middle → Refer run os

-- The one object has the run's groups.
abbrev pub RunsGroups : Type 0
RunsGroups =
    (run : Run) (os : Objects) (ls : Links) → Rise 0 (run_objects run os) → (codes : List Coded) (input : ℕ)
    → os.joined ≡ object_from input (sections_told (relocatable (alone_program run os ls))) (parts_told (relocatable (alone_program run os ls)) codes)
    → (name : List ℕ) → has_group name os.joined ≡ list_any (has_group name) os.middle
