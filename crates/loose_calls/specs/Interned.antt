-- The names of variants, with numbers behind all others.
use Rattle.std.specs.Prelude.{◌≡◌, ℕ, ◌-◌, ◌<◌, ◌^◌, ◌==◌, ◌∷◌, ◌++◌, false, List, [], All, map, find, length, if◌then◌else◌, Some, unwrap_or, option_map, bytes_eq}
use Rattle.std.specs.List.{list_any}
use Rattle.program_tables.specs.link_program.wl_base.Choice.{distinct}
use Rattle.program_tables.specs.link_program.wl_base.Names.{number_of}
use Rattle.program_tables.specs.link_program.wasm_types.declared.function.FuncType.{FuncType}
use Rattle.program_tables.specs.link_program.object_file.Spaces.{no_type}
use Rattle.program_tables.specs.link_program.link_names.Numbered.{Numbered}
use Rattle.program_tables.specs.link_program.declared.symbol.Symbol.{Symbol}
use Rattle.program_tables.specs.link_program.declared.symbol.Lead.TheVariants.{Null}
use Rattle.loose_calls.specs.declared.variant.Variant.{Variant}
use Rattle.loose_calls.specs.declared.interning.Interned.{Interned}

abbrev pub variant_row : List (List ℕ) → Variant → Symbol
variant_row names v = record { kind = v.kind; name = number_of names v.name; lead = Null }

-- the type of the first variant of a name
abbrev pub named_type : List Variant → List ℕ → FuncType
named_type vs name = unwrap_or (option_map (λ (v : Variant). v.of_type) (find (λ (v : Variant). bytes_eq v.name name) vs)) no_type

abbrev pub names_in : List Variant → List (List ℕ)
names_in vs = map (λ (v : Variant). v.name) vs

-- One variant more, whose name has this number, where so many names stand before those of variants.
pub record Adds (v : Variant) (number base : ℕ) (old new : Interned) : Type 0 where
  pub symbols : new.symbols ≡ old.symbols ++ record { kind = v.kind; name = Some number; lead = Null } ∷ []
  pub types : new.types ≡ (if number - base == length old.types then old.types ++ v.of_type ∷ [] else old.types)

-- All else of the numbers of names stays.
pub record Stays (old new : Numbered) : Type 0 where
  pub made : new.made ≡ old.made
  pub symbols : new.symbols ≡ old.symbols
  pub groups : new.groups ≡ old.groups

-- The names get those of the variants at the end, of which no other symbol has one.
pub record Interns (old new : Numbered) (vs : List Variant) (i : Interned) : Type 0 where
  pub names : new.names ≡ old.names ++ distinct bytes_eq (names_in vs)
  pub stays : Stays old new
  pub few : length new.names < 2 ^ 32
  pub apart : All (λ name. list_any (bytes_eq name) old.names ≡ false) (names_in vs)
  pub symbols : i.symbols ≡ map (variant_row new.names) vs
  pub types : i.types ≡ map (named_type vs) (distinct bytes_eq (names_in vs))
