-- What stands for the references of a run to a name that nothing defines.
use Rattle.std.specs.Prelude.{◌≡◌, ◌⊎◌, ℕ, true, List, [], ◌∷◌, ◌++◌, filter, All, None}
use Rattle.std.specs.List.{list_any, list_all}
use Rattle.name_rules.specs.object_file.wl_base.Choice.{first_some}
use Rattle.name_rules.specs.object_file.linking_section.Flags.{is_weak, is_explicit}
use Rattle.name_rules.specs.Entries.{InputSymbol, named}
use Rattle.name_rules.specs.Meanings.{least_import, winner}
use Rattle.partial_laws.specs.Joining.{Joining, explicit_of}

module _ (j : Joining) where
  -- The first of them is kept, and no other. It is WEAK where all are and has EXPLICIT_NAME where one has, and stands on the least import that EXPLICIT_NAME asks
  -- for, else on the least.
  pub record StandsFor (refs : List InputSymbol) (e : InputSymbol) : Type 0 where
    pub others : List InputSymbol
    pub first : refs ≡ e ∷ others
    pub only : filter j.keep refs ≡ e ∷ []
    pub weak : is_weak (j.move e).symbol ≡ list_all (λ r. is_weak r.symbol) refs
    pub explicit : is_explicit (j.move e).symbol ≡ list_any (λ r. is_explicit r.symbol) refs
    pub import : (j.move e).import ≡ first_some (least_import (explicit_of refs) ∷ least_import refs ∷ [])
    -- where one has EXPLICIT_NAME and none of these stands on an import, none does (they are data)
    pub grounded : list_any (λ r. is_explicit r.symbol) refs ≡ true → least_import (explicit_of refs) ≡ None → least_import refs ≡ None

  abbrev pub AreStoodFor : List InputSymbol → Type 0
  AreStoodFor refs = (refs ≡ []) ⊎ ((e : InputSymbol) × StandsFor refs e)

  -- An entry outside the run is kept, and says what it said.
  pub record Stays (e : InputSymbol) : Type 0 where
    pub kept : j.keep e ≡ true
    pub symbol : (j.move e).symbol ≡ e.symbol
    pub import : (j.move e).import ≡ e.import
    pub defines : (j.move e).defines ≡ e.defines

  -- Entries before the run, of the run, and behind it.
  pub record AreAround (front run back : List InputSymbol) : Type 0 where
    pub before : All Stays front
    pub behind : All Stays back
    pub stood : (name : List ℕ) → winner (front ++ (run ++ back)) name ≡ None → AreStoodFor (named run name)
