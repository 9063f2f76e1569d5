-- Functions that are called by another type than their definition has, by the numbers of their symbols.
use Rattle.std.specs.Prelude.{◌≡◌, ℕ, ◌+◌, ◌&&◌, Bool, true, false, List, map, flat_map, length, slice_get, slice_index_or, Some}
use Rattle.link_program.specs.object_file.declared.object.Object.{Object}
use Rattle.link_program.specs.made_symbols.declared.mode.Mode.{Mode}
use Rattle.link_program.specs.name_rules.Entries.{InputSymbol, ImportKey, entries, symbols_of}
use Rattle.link_program.specs.name_rules.Meanings.{meaning, uses_of, resolve}
use Rattle.link_program.specs.link_rules.Program.{is_mismatch, variant, loose_variants}
use Rattle.link_program.specs.declared.symbol.Symbol.{Symbol}
use Rattle.link_program.specs.Told.{told_variant}
use Rattle.link_program.specs.Program.{variant_names, variant_type}
use Rattle.program_tables.specs.declared.loose.Loose.{Loose}

-- The symbols of all objects, by number.
abbrev pub all_symbols : List Object → List InputSymbol
all_symbols objects = flat_map (symbols_of objects) objects

-- whether a call of the symbol names its variant, in a link of these objects that is like lld's or not
abbrev pub loosens : Mode → Bool → Bool → List Object → InputSymbol → Bool
loosens mode like allow objects e = like && is_mismatch (entries mode objects) e (meaning mode (uses_of mode objects) allow (entries mode objects) e)

abbrev pub variants_in : Mode → Bool → Bool → List Object → List InputSymbol
variants_in mode like allow objects = loose_variants like (entries mode objects) (resolve mode allow (entries mode objects) objects)

-- What a call of the symbol of a number names: its variant, which stands behind so many symbols, or the symbol itself.
abbrev pub IsCalled : Bool → Symbol → ℕ → List Symbol → ℕ → ℕ → Type 0
IsCalled true v count variants number called = (j : ℕ) × (called ≡ count + j) × (slice_get variants j ≡ Some v)
IsCalled false v count variants number called = called ≡ number

pub record IsLoose (mode : Mode) (like allow : Bool) (names : List (List ℕ)) (imports : List ImportKey) (objects : List Object) (l : Loose) : Type 0 where
  pub called : (n : ℕ) (e : InputSymbol) → slice_get (all_symbols objects) n ≡ Some e
      → IsCalled (loosens mode like allow objects e) (told_variant names imports (variant e)) (length (all_symbols objects)) l.symbols n (slice_index_or l.called n n)
  pub symbols : l.symbols ≡ map (told_variant names imports) (variants_in mode like allow objects)
  pub types : l.types ≡ map (variant_type (variants_in mode like allow objects)) (variant_names (variants_in mode like allow objects))
