-- What two entries of a name are compared by.
use Rattle.std.specs.Prelude.{◌≡◌, Bool, false, not, ◌&&◌, ◌||◌, ◌==◌, Option, Some, None, option_map, bytes_eq}
use Rattle.name_entries.specs.linking_section.declared.symbol.SymbolKind.TheVariants.{Function}
use Rattle.name_entries.specs.linking_section.Flags.{kind_code}
use Rattle.name_entries.specs.object_columns.declared.imports.ImportRef.{ImportRef}
use Rattle.name_entries.specs.object_columns.Seen.{import_seen}
use Rattle.name_entries.specs.name_rules.Entries.{InputSymbol, key_of, same_symbol_type}
use Rattle.name_entries.specs.name_rules.Cases.{explicit_import}
use Rattle.name_entries.specs.Shown.{type_seen}
use Rattle.name_cases.specs.declared.look.Look.{Look}

-- whether both imports are there and have different modules or fields
abbrev pub imports_differ : Option ImportRef → Option ImportRef → Bool
imports_differ None b = false
imports_differ (Some a) None = false
imports_differ (Some a) (Some b) = not (bytes_eq a.«module».now b.«module».now && bytes_eq a.field.now b.field.now)

abbrev pub looks_clash : Look → Look → Bool
looks_clash a b = not ((kind_code b.kind == kind_code a.kind) && same_symbol_type (type_seen a.of_type) (type_seen b.of_type)) || imports_differ a.explicit b.explicit

abbrev pub look_may_differ : Look → Look → Bool
look_may_differ a b = (kind_code b.kind == kind_code Function) && a.defines && not b.defines

abbrev pub looks_break : Look → Look → Bool
looks_break a b = not ((kind_code b.kind == kind_code a.kind) && (look_may_differ a b || same_symbol_type (type_seen a.of_type) (type_seen b.of_type)))

abbrev pub looks_mismatch : Look → Look → Bool
looks_mismatch a b = look_may_differ a b && not (same_symbol_type (type_seen a.of_type) (type_seen b.of_type))

-- This is what is compared of the entry.
pub record IsLook (l : Look) (e : InputSymbol) : Type 0 where
  pub kind : l.kind ≡ e.symbol.kind
  pub of_type : type_seen l.of_type ≡ e.type
  pub defines : l.defines ≡ e.defines
  pub explicit : option_map (λ i. key_of e.type (import_seen i)) l.explicit ≡ explicit_import e

abbrev pub AreLook : Option Look → Option InputSymbol → Type 0
AreLook (Some l) (Some e) = IsLook l e
AreLook None None = Unit {0}
AreLook (Some l) None = ⊥
AreLook None (Some e) = ⊥
