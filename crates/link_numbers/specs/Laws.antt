-- What the told numbers of keys are.
use Rattle.std.specs.Prelude.{◌≡◌, ℕ, true, List, map}
use Rattle.std.specs.List.{list_any, All}
use Rattle.link_keys.specs.link_program.index_layout.Numbers.{number_by}
use Rattle.link_keys.specs.link_program.made_symbols.declared.mode.Mode.{Mode}
use Rattle.link_keys.specs.link_program.made_symbols.declared.mode.Mode.TheVariants.{Plain, Shared}
use Rattle.link_keys.specs.link_program.name_rules.Entries.{ImportKey, same_import, is_entry}
use Rattle.link_keys.specs.link_program.name_rules.Meanings as Meanings
use Rattle.link_keys.specs.link_program.link_rules.Program as rules
use Rattle.link_keys.specs.link_program.link_rules.Program.{Ref}
use Rattle.link_keys.specs.link_program.link_rules.Keys as keys
use Rattle.link_keys.specs.link_program.link_rules.Keys.{same_function, same_global, ref_function, ref_global, is_null, global_imports_in}
use Rattle.link_keys.specs.link_program.Keys.{told_function, told_global, same_function_key, same_global_key}
use Rattle.link_numbers.specs.Knows.{KnowsFunction, KnowsGlobal}

-- The imported globals of a shared output are among the imports. Those of a plain one always are.
abbrev pub AreImported : Mode → List ImportKey → rules.Program → List rules.Part → Type 0
AreImported Plain imports p parts = Unit {0}
AreImported Shared imports p parts = All (λ k. list_any (same_import k) imports ≡ true) (global_imports_in Shared p parts)

-- The number of a known key, as it is told, is its number.
pub record TellsNumbers (names : List (List ℕ)) (imports : List ImportKey) (l : keys.Numbers) : Type 0 where
  pub functions : (f : keys.FunctionKey) → KnowsFunction names imports f
      → number_by same_function_key (map (told_function names imports) l.functions) (told_function names imports f) ≡ number_by same_function l.functions f
  pub slots : (f : keys.FunctionKey) → KnowsFunction names imports f
      → number_by same_function_key (map (told_function names imports) l.slots) (told_function names imports f) ≡ number_by same_function l.slots f
  pub globals : (g : keys.GlobalKey) → KnowsGlobal imports g
      → number_by same_global_key (map (told_global imports) l.globals) (told_global imports g) ≡ number_by same_global l.globals g

-- What a reference names is known.
pub record KnowsRef (names : List (List ℕ)) (imports : List ImportKey) (ref : Ref) : Type 0 where
  pub function : KnowsFunction names imports (ref_function ref)
  pub global : KnowsGlobal imports (ref_global Plain ref)
  pub named : is_null ref.meaning ≡ true → is_entry ref.entry ≡ true

-- What is known of a reference of a shared output. Its global is known where it isn't an import, and where the import is among the imports.
pub record KnowsSharedRef (names : List (List ℕ)) (imports : List ImportKey) (ref : Ref) : Type 0 where
  pub function : KnowsFunction names imports (ref_function ref)
  pub imported : (k : ImportKey) → ref.meaning ≡ Meanings.imported k → list_any (same_import k) imports ≡ true
  pub global : ((k : ImportKey) → ref_global Shared ref ≡ keys.outside_global k → list_any (same_import k) imports ≡ true) → KnowsGlobal imports (ref_global Shared ref)
  pub named : is_null ref.meaning ≡ true → is_entry ref.entry ≡ true

abbrev pub KnowsRefOf : Mode → List (List ℕ) → List ImportKey → Ref → Type 0
KnowsRefOf Plain names imports ref = KnowsRef names imports ref
KnowsRefOf Shared names imports ref = KnowsSharedRef names imports ref
