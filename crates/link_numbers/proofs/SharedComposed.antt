-- The numbers of a shared output are composed of what each step gives.
use Rattle.std.proofs.Common.{◌≡◌, ℕ, Bool, false, List, length, replicate, Some, option_map, Result, sym, ap, subst, ◌∙◌}
use Rattle.std.specs.Prelude.{IfOk}
use Rattle.link_keys.specs.link_program.wl_base.declared.layout_error.LayoutError.{LayoutError}
use Rattle.link_keys.specs.link_program.object_file.declared.object.Object.{Object}
use Rattle.link_keys.specs.link_program.table_layout.Slots.{table_overflow}
use Rattle.link_keys.specs.link_program.declared.symbol.Winner.{Winner}
use Rattle.link_keys.specs.link_program.declared.keys.FunctionKey.{FunctionKey}
use Rattle.link_keys.specs.link_program.declared.keys.GlobalKey.{GlobalKey}
use Rattle.link_keys.specs.link_program.declared.program.Program.{Program}
use Rattle.link_keys.specs.Noted.{Noted, noted_parts, nothing_noted}
use Rattle.link_keys.specs.Types.{TypeLists}
use Rattle.shared_keys.specs.Called.{flag_parts}
use Rattle.shared_keys.specs.Lists.{globals_listed}
use Rattle.link_numbers.specs.Numbered.{Numbered, TellsOverflow}
use Rattle.link_numbers.specs.SharedNumbered.{shared_noted, shared_slots, all_functions, all_slots, all_types, shared_with, shared_by, shared_numbered}

module _ (d : Program) (objects : List Object) (exports : List Winner) (live : List ℕ) (m : Noted) where
  pub composed : (fs ss : List FunctionKey) (gs : List GlobalKey) (ts : TypeLists) (n : Numbered) → fs ≡ all_functions d live m → ss ≡ shared_slots m fs
      → globals_listed d.names.now.names d.resolution.now.imports d.resolution.now.made d.tables.now live exports m ≡ Some gs → ts ≡ all_types d objects live m
      → n ≡ shared_with d fs ss ts gs → shared_by d objects exports live m ≡ Some n
  composed fs ss gs ts n functions slots globals types is =
      ap (option_map (shared_with d (all_functions d live m) (all_slots d live m) (all_types d objects live m))) globals
      ∙ ap Some (sym (is
      ∙ ap (λ (t : TypeLists). shared_with d fs ss t gs) types
      ∙ ap (λ (s : List FunctionKey). shared_with d fs s (all_types d objects live m) gs) slots
      ∙ ap (λ (f : List FunctionKey). shared_with d f (shared_slots m f) (all_types d objects live m) gs) functions))

  -- The end of the slots, by the functions.
  pub slots_tell : {A : Type 0} (r : Result A LayoutError) (fs : List FunctionKey) → fs ≡ all_functions d live m → TellsOverflow r (table_overflow 0 (length (shared_slots m fs)))
      → TellsOverflow r (table_overflow 0 (length (all_slots d live m)))
  slots_tell r fs functions tells = subst (λ (fs : List FunctionKey). TellsOverflow r (table_overflow 0 (length (shared_slots m fs)))) functions tells

module _ (d : Program) (live : List ℕ) where
  -- What is noted, with the imports that are called.
  pub noted_is : (old now : Noted) (flags : List Bool) → old ≡ noted_parts d.tables.now (nothing_noted (length d.resolution.now.imports) (length d.names.now.names)) live
      → now ≡ record old { imports = flags } → flags ≡ flag_parts d.tables.now (replicate (length d.resolution.now.imports) false) live → now ≡ shared_noted d live
  noted_is old now flags noted set called =
      set
      ∙ ap (λ (m : Noted). record m { imports = flags }) noted
      ∙ ap (λ (fs : List Bool). record (noted_parts d.tables.now (nothing_noted (length d.resolution.now.imports) (length d.names.now.names)) live) { imports = fs }) called

module _ (d : Program) (objects : List Object) (exports : List Winner) (live : List ℕ) where
  pub marked : (m : Noted) → m ≡ shared_noted d live → (r : Result Numbered LayoutError) → IfOk r (λ n. shared_by d objects exports live m ≡ Some n) → IfOk r (λ n. shared_numbered d objects exports live ≡ Some n)
  marked m noted r is = subst (λ (m : Noted). IfOk r (λ (n : Numbered). shared_by d objects exports live m ≡ Some n)) noted is

  pub marked_tell : (m : Noted) → m ≡ shared_noted d live → {A : Type 0} (r : Result A LayoutError) → TellsOverflow r (table_overflow 0 (length (all_slots d live m)))
      → TellsOverflow r (table_overflow 0 (length (all_slots d live (shared_noted d live))))
  marked_tell m noted r tells = subst (λ (m : Noted). TellsOverflow r (table_overflow 0 (length (all_slots d live m)))) noted tells
