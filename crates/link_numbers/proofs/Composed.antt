-- The numbers are composed of what each step gives.
use Rattle.std.proofs.Common.{◌≡◌, ℕ, List, map, length, replicate, Option, None, Result, ap, subst, ◌∙◌}
use Rattle.std.specs.Prelude.{IfOk}
use Rattle.link_keys.specs.link_program.wl_base.declared.layout_error.LayoutError.{LayoutError}
use Rattle.link_keys.specs.link_program.object_file.declared.object.Object.{Object}
use Rattle.link_keys.specs.link_program.name_rules.Entries.{ImportKey}
use Rattle.link_keys.specs.link_program.table_layout.Slots.{table_overflow}
use Rattle.link_keys.specs.link_program.declared.symbol.Winner.{Winner}
use Rattle.link_keys.specs.link_program.declared.keys.FunctionKey.{FunctionKey}
use Rattle.link_keys.specs.link_program.declared.keys.GlobalKey.{GlobalKey}
use Rattle.link_keys.specs.link_program.declared.program.Tables.{Tables}
use Rattle.link_keys.specs.Firsts.{firsts_rows}
use Rattle.link_keys.specs.Noted.{Noted, noted_parts, nothing_noted}
use Rattle.link_keys.specs.Lists.{functions_listed, slots_listed, globals_listed}
use Rattle.link_keys.specs.Types.{TypeLists, types_listed, type_number_in}
use Rattle.link_numbers.specs.Numbered.{Numbered, TellsOverflow, numbered, numbered_by}

module _ (imports : List ImportKey) (names : ℕ) (t : Tables) (objects : List Object) (symbols : List (List (Option ℕ))) (exports : List Winner) (live : List ℕ) (m : Noted) where
  abbrev pub of_lists : List FunctionKey → List FunctionKey → List GlobalKey → TypeLists → Numbered
  of_lists fs ss gs ts = record {
    functions = fs;
    slots = ss;
    first_slot = 1;
    globals = gs;
    types = ts.table;
    function_types = ts.numbers;
    type_numbers = map (type_number_in ts.table) t.types;
  }

  abbrev all_types : TypeLists
  all_types = types_listed imports names t objects (firsts_rows 0 (replicate names None) symbols) live m

  abbrev all_globals : List GlobalKey
  all_globals = globals_listed imports t live exports m

  pub composed : (fs ss : List FunctionKey) (gs : List GlobalKey) (ts : TypeLists) (n : Numbered) → fs ≡ functions_listed imports names t live m → ss ≡ slots_listed m.taken fs → gs ≡ globals_listed imports t live exports m
      → ts ≡ types_listed imports names t objects (firsts_rows 0 (replicate names None) symbols) live m → n ≡ of_lists fs ss gs ts → n ≡ numbered_by imports names t objects symbols exports live m
  composed fs ss gs ts n functions slots globals types is =
      is
      ∙ ap (of_lists fs ss gs) types
      ∙ ap (λ (g : List GlobalKey). of_lists fs ss g all_types) globals
      ∙ ap (λ (s : List FunctionKey). of_lists fs s all_globals all_types) slots
      ∙ ap (λ (f : List FunctionKey). of_lists f (slots_listed m.taken f) all_globals all_types) functions

  -- The end of the slots, by the functions.
  pub slots_tell : {A : Type 0} (r : Result A LayoutError) (fs : List FunctionKey) → fs ≡ functions_listed imports names t live m → TellsOverflow r (table_overflow 1 (length (slots_listed m.taken fs)))
      → TellsOverflow r (table_overflow 1 (length (numbered_by imports names t objects symbols exports live m).slots))
  slots_tell r fs functions tells = subst (λ (fs : List FunctionKey). TellsOverflow r (table_overflow 1 (length (slots_listed m.taken fs)))) functions tells

module _ (imports : List ImportKey) (names : ℕ) (t : Tables) (objects : List Object) (symbols : List (List (Option ℕ))) (exports : List Winner) (live : List ℕ) (m : Noted) (noted : m ≡ noted_parts t (nothing_noted (length imports) names) live) where
  pub marked : (r : Result Numbered LayoutError) → IfOk r (λ n. n ≡ numbered_by imports names t objects symbols exports live m) → IfOk r (λ n. n ≡ numbered imports names t objects symbols exports live)
  marked r is = subst (λ (m : Noted). IfOk r (λ (n : Numbered). n ≡ numbered_by imports names t objects symbols exports live m)) noted is

  pub marked_tell : {A : Type 0} (r : Result A LayoutError) → TellsOverflow r (table_overflow 1 (length (numbered_by imports names t objects symbols exports live m).slots))
      → TellsOverflow r (table_overflow 1 (length (numbered imports names t objects symbols exports live).slots))
  marked_tell r tells = subst (λ (m : Noted). TellsOverflow r (table_overflow 1 (length (numbered_by imports names t objects symbols exports live m).slots))) noted tells
