-- Worked imports: one where module, field and type are equal.
use Rattle.std.specs.Prelude.{◌≡◌, [], ◌∷◌, refl, codes}
use Rattle.name_entries.specs.name_rules.Entries.{ImportKey, untyped}
use Rattle.name_entries.specs.name_rules.Meanings.{imported, null}
use Rattle.name_entries.specs.name_rules.Rows.{f, key}
use Rattle.name_meanings.specs.Means.{imports_meant}

abbrev other_module : ImportKey
other_module = record (key f) { module_name = codes "n" }

abbrev other_type : ImportKey
other_type = record (key f) { type = untyped }

equal_are_one : imports_meant (imported (key f) ∷ null ∷ imported (key f) ∷ []) ≡ key f ∷ []
equal_are_one = refl

others_are_others : imports_meant (imported (key f) ∷ imported other_module ∷ imported other_type ∷ []) ≡ key f ∷ other_module ∷ other_type ∷ []
others_are_others = refl
