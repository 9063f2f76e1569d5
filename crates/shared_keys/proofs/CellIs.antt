-- When an import is the cell of a name.
use Rattle.std.proofs.Common.{◌≡◌, ℕ, ◌&&◌, Bool, true, List, slice_get, Option, Some, None, option_map, unwrap_or, sym, ap, ◌∙◌}
use Rattle.std.specs.Prelude.{if◌then◌else◌, bytes_eq, codes}
use Rattle.std.specs.List.{list_any}
use Rattle.link_keys.specs.link_program.name_rules.Entries.{ImportKey, SymbolType, same_import}
use Rattle.link_keys.specs.link_program.name_meanings.Kept.{cell_key}
use Rattle.link_keys.specs.link_program.declared.symbol.Symbol.{Symbol}
use Rattle.link_keys.proofs.Equals.{holds_at}
use Rattle.link_keys.proofs.Imports.{import_equal, import_itself}
use Rattle.shared_keys.specs.Cells.{OneEach, is_function, is_cell_type, agrees, name_at, is_numbered, cell_named, IsCellAt, IsCellOf}

-- An import with the module, the name and the type of a cell.
pub the_cell : (o : Option ImportKey) (function : Bool) (module_name field name : List ℕ) (t : SymbolType)
    → option_map (λ k. k.module_name) o ≡ Some module_name → option_map (λ k. k.field) o ≡ Some field → option_map (λ k. k.type) o ≡ Some t
    → agrees function module_name field t name ≡ true → o ≡ Some (cell_key function name)
the_cell None function m f name t em ef et is = absurd cc
the_cell (Some k) function m f name t em ef et is =
    let one : k.module_name ≡ m = cc in
    let two : k.field ≡ f = cc in
    let three : k.type ≡ t = cc in
    ap Some (import_equal k (cell_key function name)
    (ap (λ x. bytes_eq x (if function then codes "GOT.func" else codes "GOT.mem") && bytes_eq k.field name && is_cell_type k.type) one
    ∙ ap (λ x. bytes_eq m (if function then codes "GOT.func" else codes "GOT.mem") && bytes_eq x name && is_cell_type k.type) two
    ∙ ap (λ x. bytes_eq m (if function then codes "GOT.func" else codes "GOT.mem") && bytes_eq f name && is_cell_type x) three
    ∙ is))

-- What is told of a symbol by its cell.
pub cell_is : (names : List (List ℕ)) (imports : List ImportKey) (s : Symbol) (name number : ℕ) → OneEach imports → s.name ≡ Some name
    → IsCellAt names imports (is_function s) name number → IsCellOf names imports s number
cell_is names imports s name number one named at =
    let key : cell_key (is_function s) (name_at names name) ≡ cell_named names s = ap (λ o. cell_key (is_function s) (name_at names (unwrap_or o 0))) (sym named) in
    let there : slice_get imports number ≡ Some (cell_named names s) = at.1 ∙ ap Some key in
    let held : list_any (same_import (cell_named names s)) imports ≡ true = holds_at same_import import_equal import_itself imports number (cell_named names s) there in
    let numbered : is_numbered names s.name ≡ true = ap (is_numbered names) named ∙ at.0 in
    (ap (λ b. b && list_any (same_import (cell_named names s)) imports) numbered ∙ held, sym (one number (cell_named names s) there))
