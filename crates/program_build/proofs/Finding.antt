-- What is found is what the definition finds.
use Rattle.std.proofs.Common.{◌≡◌, ℕ, ◌<◌, ◌≤◌, ◌^◌, ◌∙◌, List, [], ◌∷◌, ◌++◌, length, false, refl, sym, ap, subst, Option, Some, None, Result, Ok, Err}
use Rattle.std.specs.Prelude.{map, flat_map, filter_map, bytes_eq, All, IsErr}
use Rattle.std.specs.List.{list_any}
use Rattle.std.proofs.lemmas.List.Elements.{All-cons, All-nil, All-head, All-tail}
use Rattle.std.specs.Result.{IsErrAnd}
use Rattle.loose_calls.specs.link_program.wl_base.Choice.{distinct, distinct_onto, unless, first_some}
use Rattle.loose_calls.specs.link_program.wl_base.declared.name_table.NameFault.{NameFault}
use Rattle.loose_calls.specs.link_program.wl_base.declared.name_table.NameFault.TheVariants.{TooMany}
use Rattle.loose_calls.specs.link_program.wl_base.declared.fault.Fault.{Fault}
use Rattle.loose_calls.specs.link_program.wl_base.declared.fault.Fault.TheVariants.{TooManyNames}
use Rattle.loose_calls.specs.link_program.object_file.declared.object.Object.{Object}
use Rattle.loose_calls.specs.link_program.made_symbols.declared.mode.Mode.{Mode}
use Rattle.loose_calls.specs.link_program.link_names.Numbered.{AreNumbers}
use Rattle.loose_calls.specs.link_program.name_entries.View.{WinnersAre}
use Rattle.loose_calls.specs.link_program.declared.program.Tables.{Tables}
use Rattle.loose_calls.specs.link_program.Program.{AreTables, variant_names}
use Rattle.loose_calls.specs.link_program.link_names.Numbered as names
use Rattle.loose_calls.specs.link_program.name_rules.Entries.{InputSymbol, entries, name_of, same_import}
use Rattle.loose_calls.specs.link_program.name_rules.Meanings.{Meaning, here, imported, null, nothing}
use Rattle.loose_calls.specs.link_program.name_rules.Further.{further_imports}
use Rattle.loose_calls.specs.link_program.name_entries.Fits.{IsTable}
use Rattle.loose_calls.specs.link_program.name_entries.declared.table.EntryTable.{EntryTable}
use Rattle.loose_calls.specs.link_program.name_meanings.Means.{Answers, IsResolution, import_meant, imports_meant}
use Rattle.loose_calls.specs.link_program.link_plan.declared.plan.Plan.{Plan}
use Rattle.loose_calls.specs.link_program.link_rules.Program.{Program, program_of}
use Rattle.loose_calls.specs.link_program.link_rules.Keys.{import_of, imports_in_order, all_imports}
use Rattle.loose_calls.specs.link_program.declared.home.Home.{Home}
use Rattle.loose_calls.specs.link_program.Loaded.{Origin, IsLoaded}
use Rattle.loose_calls.specs.link_program.declared.error.LinkError.{LinkError}
use Rattle.loose_calls.specs.link_program.declared.error.LinkError.TheVariants.{Refused, OutOfMemory}
use Rattle.program_build.specs.declared.found.Found.{Found}
use Rattle.program_build.specs.declared.meanings.Meanings.{Meanings}
use Rattle.loose_calls.specs.link_program.link_rules.LinkOf.{asked_names, too_many_names}
use Rattle.program_build.specs.Steps.{Numbered, names_of, case_of, AreMeant, MeansOrRefused}
use Rattle.program_build.specs.Found.{found_of, IsFound, Finds}
use Rattle.loose_calls.specs.program_tables.Loose.{variants_in}
use Rattle.loose_calls.specs.Interned.{Stays}
use Rattle.loose_calls.proofs.Behind.{IsNot, all_behind}
use Rattle.program_build.proofs.Grown.{numbers_grown, table_grown, winners_grown}
use Rattle.program_build.proofs.Names.{few, many}
use Rattle.program_build.proofs.Steps.{too_many, a_case}

-- ---- imports

import_is : (m : Meaning) → import_meant m ≡ import_of m
import_is (here e) = refl
import_is (imported key) = refl
import_is null = refl
import_is nothing = refl

imports_are : (p : Program) → imports_meant (flat_map (λ r. r.meanings) p.resolved) ≡ imports_in_order p
unfolding imports_in_order
imports_are p = λ i. distinct same_import (filter_map (λ m. import_is m i) (flat_map (λ r. r.meanings) p.resolved))

-- Behind them stands what may be imported besides, in the order of both.
all_imports_are : (mode : Mode) (p : Program) (r : Answers) → IsResolution mode p.entries r p.resolved → r.imports ≡ all_imports mode p
all_imports_are mode p r is = is.imports ∙ ap (λ keys. distinct_onto same_import keys (further_imports mode p.entries p.resolved)) (imports_are p)

-- ---- the whole

abbrev pub program : Mode → Origin → List Object → Program
program mode origin objects = program_of mode origin.plan origin.files origin.all objects

module _ (mode : Mode) (origin : Origin) (objects : List Object) where
  entries_are : (program mode origin objects).entries ≡ entries mode (program mode origin objects).objects
  unfolding program_of
  entries_are = refl

  names_few : (n : names.Numbered) → Numbered mode (Ok n) origin.plan objects → too_many_names (program mode origin objects) ≡ None
  unfolding program_of names_of
  names_few n numbered = few mode (program mode origin objects) entries_are (subst (λ (ns : List (List ℕ)). length ns ≤ 2 ^ 24) numbered.0 numbered.1)

  names_many : (fault : Fault) → Numbered mode (Err (Refused fault)) origin.plan objects → found_of (program mode origin objects) ≡ Err fault
  unfolding program_of names_of
  names_many fault numbered =
      too_many (program mode origin objects) fault (many mode (program mode origin objects) entries_are numbered.1 ∙ ap (λ x. Some x) (sym numbered.0))

  case_is : (n : names.Numbered) (o : Option Fault) → Numbered mode (Ok n) origin.plan objects → case_of origin.plan.loose_calls (entries mode objects) ≡ o
      → found_of (program mode origin objects) ≡ unless o (program mode origin objects)
  unfolding program_of
  case_is n o numbered is = a_case (program mode origin objects) o (names_few n numbered) is

  -- ---- by what the steps answered

  pub names_refused : (s : Result Found LinkError) (e : LinkError) (r : Result names.Numbered LinkError) → r ≡ Err e → Numbered mode r origin.plan objects → IsErr s × IsErrAnd s (λ b. b ≡ e)
      → Finds mode s origin.plan objects (program mode origin objects)
  names_refused (Ok f) e r is told was = let no = was.0 in absurd cc
  names_refused (Err OutOfMemory) e r is told was = tt
  names_refused (Err (Refused fault)) e r is told was =
      let error : e ≡ Refused fault = sym was.1 in
      names_many fault (subst (λ r. Numbered mode r origin.plan objects) (is ∙ ap (λ e. Err e) error) told)

  pub meanings_refused : (n : names.Numbered) (s : Result Found LinkError) (e : LinkError) (r : Result Meanings LinkError) → Numbered mode (Ok n) origin.plan objects
      → r ≡ Err e → MeansOrRefused mode r origin objects n.names → IsErr s × IsErrAnd s (λ b. b ≡ e) → Finds mode s origin.plan objects (program mode origin objects)
  meanings_refused n (Ok f) e r numbered is told was = let no = was.0 in absurd cc
  meanings_refused n (Err OutOfMemory) e r numbered is told was = tt
  meanings_refused n (Err (Refused fault)) e r numbered is told was =
      let error : e ≡ Refused fault = sym was.1 in
      case_is n (Some fault) numbered (subst (λ r. MeansOrRefused mode r origin objects n.names) (is ∙ ap (λ e. Err e) error) told)

  pub all_found : (n : names.Numbered) (m : Meanings) (f : Found) → Numbered mode (Ok n) origin.plan objects → MeansOrRefused mode (Ok m) origin objects n.names
      → IsFound mode origin.plan objects f (program mode origin objects) → Finds mode (Ok f) origin.plan objects (program mode origin objects)
  all_found n m f numbered told found = (case_is n None numbered told.0, found)

-- Of two faults neither is there where the first of them isn't.
pub first_none : (a : Option Fault) (rest : List (Option Fault)) → first_some (a ∷ rest) ≡ None → a ≡ None
first_none None rest e = refl
first_none (Some fault) rest e = absurd cc

all_mapped : {A B : Type 0} (P : B → Type 0) (f : A → B) (xs : List A) → All (λ x. P (f x)) xs → All P (map f xs)
all_mapped P f [] all = All-nil P
all_mapped P f (x ∷ xs) all = All-cons P (f x) (map f xs) (All-head (λ x. P (f x)) x xs all) (all_mapped P f xs (All-tail (λ x. P (f x)) x xs all))

module _ (mode : Mode) (origin : Origin) (objects : List Object) (n m : names.Numbered) (table : EntryTable) (ms : Meanings) (homes : List Home) (loaded : IsLoaded origin.files origin.all objects homes)
    (meant : AreMeant mode origin objects n table ms) (stays : Stays n m) (few : length m.names < 2 ^ 32) where
  abbrev variants : List InputSymbol
  variants = variants_in mode origin.plan.loose_calls origin.plan.allow_undefined objects

  module _ (behind : m.names ≡ n.names ++ variant_names variants) (apart : All (λ (v : InputSymbol). list_any (bytes_eq (name_of v)) n.names ≡ false) variants) where
    all_apart : All (IsNot n.names) (map name_of variants)
    all_apart = all_mapped (IsNot n.names) name_of variants apart

    pub numbers_are : AreNumbers mode objects m
    numbers_are = numbers_grown mode objects n m (map name_of variants) meant.numbered.2 (behind ∙ sym (all_behind n.names (map name_of variants) all_apart)) stays few

    pub table_is : IsTable objects m table
    table_is = table_grown objects n m table stays meant.looked_up

    pub ranks_are : WinnersAre m.names (entries mode objects) ms.ranks
    ranks_are = winners_grown mode objects n m (map name_of variants) ms.ranks meant.numbered.2 behind all_apart meant.meanings.past meant.meanings.ranked

    pub is_found : (t : Tables) → AreTables m.names ms.resolution.imports t (program mode origin objects)
        → IsFound mode origin.plan objects (record { names = m; entries = table; ranks = ms.ranks; resolution = ms.resolution; tables = t }) (program mode origin objects)
    unfolding program_of names_of
    is_found t tables = record {
      plan = refl;
      objects = refl;
      rise = loaded.rise;
      entries = refl;
      unclashed = meant.unclashed;
      winners_are = refl;
      resolved = refl;
      parts_are = (origin.all, refl);
      variants_are = refl;
      numbers = numbers_are;
      order = behind ∙ ap (λ l. l ++ variant_names variants) meant.numbered.0;
      apart = subst (λ ns. All (λ (v : InputSymbol). list_any (bytes_eq (name_of v)) ns ≡ false) variants) meant.numbered.0 apart;
      looked_up = table_is;
      ranks = ranks_are;
      resolution = meant.meanings.resolved;
      imports = all_imports_are mode (program mode origin objects) ms.resolution meant.meanings.resolved;
      tables = tables;
    }

-- ---- the same plan, and a view of the same objects

pub seen_meanings : (mode : Mode) (origin : Origin) (plan : Plan) (objects seen : List Object) (held shown : List (List ℕ)) (r : Result Meanings LinkError) → origin.plan ≡ plan → seen ≡ objects → shown ≡ held
    → MeansOrRefused mode r origin seen shown → MeansOrRefused mode r (record { plan = plan; files = origin.files; all = origin.all }) objects held
seen_meanings mode origin plan objects seen held shown r same of_objects of_names told =
    subst (λ os. MeansOrRefused mode r (record { plan = plan; files = origin.files; all = origin.all }) os held) of_objects
    (subst (λ ns. MeansOrRefused mode r (record { plan = plan; files = origin.files; all = origin.all }) seen ns) of_names
    (subst (λ (plan : Plan). MeansOrRefused mode r (record { plan = plan; files = origin.files; all = origin.all }) seen shown) same told))

-- ---- numbers

pub numbers_told : (mode : Mode) (n : names.Numbered) (words : List (List ℕ)) (plan : Plan) (objects : List Object) → words ≡ asked_names plan ++ plan.exports_if
    → names.Numbers (Ok n) 16777216 mode words objects → Numbered mode (Ok n) plan objects
unfolding names_of
numbers_told mode n words plan objects are told = subst (λ ws. names.Numbers (Ok n) 16777216 mode ws objects) are told

pub too_many_told : (mode : Mode) (e : NameFault) (words : List (List ℕ)) (plan : Plan) (objects : List Object) → e ≡ TooMany → words ≡ asked_names plan ++ plan.exports_if
    → names.Numbers (Err e) 16777216 mode words objects → Numbered mode (Err (Refused TooManyNames)) plan objects
unfolding names_of
too_many_told mode e words plan objects is are told =
    (refl, subst (λ ws. names.Numbers (Err TooMany) 16777216 mode ws objects) are (subst (λ e. names.Numbers (Err e) 16777216 mode words objects) is told))
