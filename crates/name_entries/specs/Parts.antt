-- What is looked up of an object: where its imports of each kind stand, and which of its parts aren't kept.
use Rattle.std.specs.Prelude.{◌≡◌, ℕ, Bool, true, false, not, List, length, slice_get, slice_index_or, Some}
use Rattle.name_rules.specs.object_file.linking_section.declared.symbol.SymbolKind.{SymbolKind}
use Rattle.name_rules.specs.object_file.linking_section.declared.symbol.SymbolKind.TheVariants.{Function, Datum, GlobalVar, Section, Table}
use Rattle.name_rules.specs.object_file.declared.object.Object.{Object}
use Rattle.name_rules.specs.object_file.object_rules.Spaces.{ArePlaces}
use Rattle.name_rules.specs.object_file.linking_section.declared.member_kinds.TheConstants as kinds
use Rattle.name_rules.specs.Entries.{is_kept}
use Rattle.name_entries.specs.declared.parts.ObjectParts.{ObjectParts}

-- whether the part of this index has a flag
abbrev pub has_flag : List Bool → ℕ → Bool
has_flag flags index = slice_index_or flags index false

-- The parts of a kind, 0 data segments or 1 functions by their indexes, are kept unless they have a flag.
abbrev pub AreDropped : List Object → Object → ℕ → List Bool → Type 0
AreDropped objects o kind flags = (index : ℕ) → is_kept objects o kind index ≡ not (has_flag flags index)

-- These are the places and the flags of an object.
pub record ArePartsOf (objects : List Object) (o : Object) (p : ObjectParts) : Type 0 where
  pub imports : ArePlaces o.imports p.imports
  pub functions : AreDropped objects o kinds.FUNCTION p.dropped_functions
  pub segments : AreDropped objects o kinds.DATA p.dropped_segments

-- One for each object, in the order of the objects.
pub record AreParts (objects : List Object) (parts : List ObjectParts) : Type 0 where
  pub count : length parts ≡ length objects
  pub each : (i : ℕ) (o : Object) (p : ObjectParts) → slice_get objects i ≡ Some o → slice_get parts i ≡ Some p → ArePartsOf objects o p

-- whether a symbol's part is kept
abbrev pub keeps : ObjectParts → SymbolKind → ℕ → Bool
keeps p Function index = not (has_flag p.dropped_functions index)
keeps p Datum index = not (has_flag p.dropped_segments index)
keeps p GlobalVar index = true
keeps p Section index = true
keeps p Table index = true
