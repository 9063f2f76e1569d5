-- Keys that a link knows: of them numbers as they are told are the numbers.
use Rattle.std.specs.Prelude.{◌≡◌, ℕ, ◌==◌, true, false, List, bytes_eq}
use Rattle.std.specs.List.{list_any}
use Rattle.link_keys.specs.link_program.name_rules.Entries.{ImportKey, same_import}
use Rattle.link_keys.specs.link_program.link_rules.Keys.{FunctionKey, outside, linker_function, stub, own, GotKey, got_entry, got_import, got_null, GlobalKey, outside_global, linker_global, own_global, got, exported_datum}

-- one of the imports that symbols mean
abbrev pub KnowsImport : List ImportKey → ImportKey → Type 0
KnowsImport imports k = list_any (same_import k) imports ≡ true

-- A stub's name has a number, and an object's input isn't 0.
abbrev pub KnowsFunction : List (List ℕ) → List ImportKey → FunctionKey → Type 0
KnowsFunction names imports (outside k) = KnowsImport imports k
KnowsFunction names imports (linker_function n) = Unit {0}
KnowsFunction names imports (stub name) = list_any (bytes_eq name) names ≡ true
KnowsFunction names imports (own input index) = (input == 0) ≡ false

abbrev pub KnowsGot : List ImportKey → GotKey → Type 0
KnowsGot imports (got_entry e) = Unit {0}
KnowsGot imports (got_import k) = KnowsImport imports k
KnowsGot imports (got_null kind) = Unit {0}

abbrev pub KnowsGlobal : List ImportKey → GlobalKey → Type 0
KnowsGlobal imports (outside_global k) = KnowsImport imports k
KnowsGlobal imports (linker_global n) = Unit {0}
KnowsGlobal imports (own_global input index) = (input == 0) ≡ false
KnowsGlobal imports (got key) = KnowsGot imports key
KnowsGlobal imports (exported_datum e) = Unit {0}
