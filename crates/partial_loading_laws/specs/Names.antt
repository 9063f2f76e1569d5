-- When one object stands for several as far as loading sees it: by the names that it defines and asks for.
use Rattle.std.specs.Prelude.{◌≡◌, ℕ, false, List, [], ◌∷◌, map}
use Rattle.std.specs.List.{list_any}
use Rattle.name_rules.specs.object_file.wl_base.Choice.{has_name}
use Rattle.name_rules.specs.object_file.declared.object.Object.{Object}
use Rattle.made_symbols.specs.declared.mode.Mode.TheVariants.{Plain}
use Rattle.round_rules.specs.Rounds.{is_defined, strong_names}
use Rattle.link_rules.specs.Program.{Program}
use Rattle.partial_rules.specs.Partial.{standing, symbol_for}
use Rattle.partial_laws.specs.Inputs.{Run, Objects, whole_objects, run_objects, AreCut}
use Rattle.partial_laws.specs.Loaded.{AreLoaded}
use Rattle.partial_laws.specs.Names.{IsOf}

-- With the linker's own names it defines what they define; and of what they don't define it strongly refers to what they refer to.
pub record StandsForNames (objects : List Object) (one : Object) : Type 0 where
  pub defines : (name : List ℕ) → is_defined Plain (one ∷ []) name ≡ is_defined Plain objects name
  pub asks : (name : List ℕ) → is_defined Plain objects name ≡ false → has_name (strong_names one) name ≡ list_any (λ o. has_name (strong_names o) name) objects

-- So does the object that stands for a run, where it has the symbols that stand in the run alone.
abbrev pub RunsStandForNames : Type 0
RunsStandForNames =
    (run : Run) (os : Objects) (p : Program) → AreCut run os → AreLoaded (whole_objects os) → IsOf p (run_objects run os) → os.joined.symbols ≡ map (symbol_for p) (standing p)
    → StandsForNames os.middle os.joined
