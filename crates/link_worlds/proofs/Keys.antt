-- The tests of sameness of keys are equivalences, and those of names, imports and functions are equality.
use Rattle.std.proofs.Common.{◌≡◌, ℕ, List, Bool, true, false, refl, ap, ◌∙◌, arith}
use Rattle.std.specs.Prelude.{◌==◌, ◌&&◌, bytes_eq}
use Rattle.std.proofs.lemmas.Bool.{and_parts, and_from, eqb-true, eq-eqb}
use Rattle.std.proofs.lemmas.Slice.Eq.{bytes_eq-Decides}
use Rattle.list_places.specs.Has.{Same}
use Rattle.wasm_types.specs.declared.function.FuncType.{FuncType}
use Rattle.wasm_types.specs.declared.table.GlobalType.{GlobalType}
use Rattle.wasm_types.specs.Same.{same_type, same_global_type}
use Rattle.wasm_types.specs.SameLaws.{same_type_is, same_global_type_is}
use Rattle.name_rules.specs.Entries.{InputSymbol, ImportKey, SymbolType, of_function, of_global, untyped, same_entry, same_import, same_symbol_type}
use Rattle.mark_bits.specs.declared.chunk.Chunk.{Chunk}
use Rattle.link_rules.specs.Program.{same_chunk, chunk_at}
use Rattle.link_rules.specs.Keys.{FunctionKey, GlobalKey, GotKey, outside, linker_function, stub, own, outside_global, linker_global, own_global, got, exported_datum, got_entry, got_import, got_null, same_function, same_global, same_got}

no : {P : Type 0} → false ≡ true → P
no h = absurd (grind arith)

both : (a b : Bool) → a ≡ true → b ≡ true → (a && b) ≡ true
both a b h k = and_from a b h k

pub bytes_itself : (a : List ℕ) → bytes_eq a a ≡ true
bytes_itself a = (bytes_eq-Decides a a).1 refl

pub bytes_equal : (a b : List ℕ) → bytes_eq a b ≡ true → a ≡ b
bytes_equal a b h = (bytes_eq-Decides a b).0 h

number_itself : (a : ℕ) → (a == a) ≡ true
number_itself a = eq-eqb a a refl

-- types
pub type_equal : (a b : FuncType) → same_type a b ≡ true → a ≡ b
type_equal a b h = (same_type_is a b).0 h

pub type_itself : (a : FuncType) → same_type a a ≡ true
type_itself a = (same_type_is a a).1 refl

pub global_type_equal : (a b : GlobalType) → same_global_type a b ≡ true → a ≡ b
global_type_equal a b h = (same_global_type_is a b).0 h

pub global_type_itself : (a : GlobalType) → same_global_type a a ≡ true
global_type_itself a = (same_global_type_is a a).1 refl

symbol_type_equal : (a b : SymbolType) → same_symbol_type a b ≡ true → a ≡ b
symbol_type_equal (of_function a) (of_function b) h = ap of_function (type_equal a b h)
symbol_type_equal (of_global a) (of_global b) h = ap of_global (global_type_equal a b h)
symbol_type_equal untyped untyped h = refl
symbol_type_equal _ _ h = no h

symbol_type_itself : (a : SymbolType) → same_symbol_type a a ≡ true
symbol_type_itself (of_function a) = type_itself a
symbol_type_itself (of_global a) = global_type_itself a
symbol_type_itself untyped = refl

-- imports
abbrev import_of : List ℕ → List ℕ → SymbolType → ImportKey
import_of place field type = record { module_name = place; field = field; type = type }

pub import_equal : (a b : ImportKey) → same_import a b ≡ true → a ≡ b
import_equal a b h =
    let r = and_parts (bytes_eq a.module_name b.module_name && bytes_eq a.field b.field) (same_symbol_type a.type b.type) h in
    let q = and_parts (bytes_eq a.module_name b.module_name) (bytes_eq a.field b.field) r.0 in
    ap (λ p. import_of p a.field a.type) (bytes_equal a.module_name b.module_name q.0)
    ∙ ap (λ f. import_of b.module_name f a.type) (bytes_equal a.field b.field q.1)
    ∙ ap (λ t. import_of b.module_name b.field t) (symbol_type_equal a.type b.type r.1)

pub import_itself : (a : ImportKey) → same_import a a ≡ true
import_itself a =
    both (bytes_eq a.module_name a.module_name && bytes_eq a.field a.field) (same_symbol_type a.type a.type)
    (both (bytes_eq a.module_name a.module_name) (bytes_eq a.field a.field) (bytes_itself a.module_name) (bytes_itself a.field)) (symbol_type_itself a.type)

-- entries
pub entry_itself : (a : InputSymbol) → same_entry a a ≡ true
entry_itself a = both (a.input == a.input) (a.place == a.place) (number_itself a.input) (number_itself a.place)

entry_carries : (a b : InputSymbol) → same_entry a b ≡ true → (z : InputSymbol) → same_entry a z ≡ same_entry b z
entry_carries a b h z =
    let r = and_parts (a.input == b.input) (a.place == b.place) h in
    ap (λ n. (n == z.input) && (a.place == z.place)) (eqb-true a.input b.input r.0)
    ∙ ap (λ n. (b.input == z.input) && (n == z.place)) (eqb-true a.place b.place r.1)

-- functions
pub function_equal : (a b : FunctionKey) → same_function a b ≡ true → a ≡ b
function_equal (outside a) (outside b) h = ap outside (import_equal a b h)
function_equal (linker_function a) (linker_function b) h = ap linker_function (eqb-true a b h)
function_equal (stub a) (stub b) h = ap stub (bytes_equal a b h)
function_equal (own a i) (own b j) h =
    let r = and_parts (a == b) (i == j) h in
    ap (λ n. own n i) (eqb-true a b r.0) ∙ ap (λ n. own b n) (eqb-true i j r.1)
function_equal _ _ h = no h

function_itself : (a : FunctionKey) → same_function a a ≡ true
function_itself (outside a) = import_itself a
function_itself (linker_function a) = number_itself a
function_itself (stub a) = bytes_itself a
function_itself (own a i) = both (a == a) (i == i) (number_itself a) (number_itself i)

pub functions_same : Same same_function
functions_same = record { itself = function_itself; carries = λ a b h z. ap (λ k. same_function k z) (function_equal a b h) }

pub imports_same : Same same_import
imports_same = record { itself = import_itself; carries = λ a b h z. ap (λ k. same_import k z) (import_equal a b h) }

pub types_same : Same same_type
types_same = record { itself = type_itself; carries = λ a b h z. ap (λ k. same_type k z) (type_equal a b h) }

-- globals
got_itself : (a : GotKey) → same_got a a ≡ true
got_itself (got_entry a) = entry_itself a
got_itself (got_import a) = import_itself a
got_itself (got_null a) = number_itself a

got_carries : (a b : GotKey) → same_got a b ≡ true → (z : GotKey) → same_got a z ≡ same_got b z
got_carries (got_entry a) (got_entry b) h (got_entry z) = entry_carries a b h z
got_carries (got_entry a) (got_entry b) h (got_import z) = refl
got_carries (got_entry a) (got_entry b) h (got_null z) = refl
got_carries (got_import a) (got_import b) h z = ap (λ k. same_got (got_import k) z) (import_equal a b h)
got_carries (got_null a) (got_null b) h z = ap (λ k. same_got (got_null k) z) (eqb-true a b h)
got_carries _ _ h z = no h

pub gots_same : Same same_got
gots_same = record { itself = got_itself; carries = got_carries }

global_itself : (a : GlobalKey) → same_global a a ≡ true
global_itself (outside_global a) = import_itself a
global_itself (linker_global a) = number_itself a
global_itself (own_global a i) = both (a == a) (i == i) (number_itself a) (number_itself i)
global_itself (got a) = got_itself a
global_itself (exported_datum a) = entry_itself a

global_carries : (a b : GlobalKey) → same_global a b ≡ true → (z : GlobalKey) → same_global a z ≡ same_global b z
global_carries (outside_global a) (outside_global b) h z = ap (λ k. same_global (outside_global k) z) (import_equal a b h)
global_carries (linker_global a) (linker_global b) h z = ap (λ k. same_global (linker_global k) z) (eqb-true a b h)
global_carries (own_global a i) (own_global b j) h z =
    let r = and_parts (a == b) (i == j) h in
    ap (λ n. same_global (own_global n i) z) (eqb-true a b r.0) ∙ ap (λ n. same_global (own_global b n) z) (eqb-true i j r.1)
global_carries (got a) (got b) h (got z) = got_carries a b h z
global_carries (got a) (got b) h (outside_global z) = refl
global_carries (got a) (got b) h (linker_global z) = refl
global_carries (got a) (got b) h (own_global z i) = refl
global_carries (got a) (got b) h (exported_datum z) = refl
global_carries (exported_datum a) (exported_datum b) h (exported_datum z) = entry_carries a b h z
global_carries (exported_datum a) (exported_datum b) h (outside_global z) = refl
global_carries (exported_datum a) (exported_datum b) h (linker_global z) = refl
global_carries (exported_datum a) (exported_datum b) h (own_global z i) = refl
global_carries (exported_datum a) (exported_datum b) h (got z) = refl
global_carries _ _ h z = no h

pub globals_same : Same same_global
globals_same = record { itself = global_itself; carries = global_carries }

-- chunks
pub chunk_equal : (a b : Chunk) → same_chunk a b ≡ true → a ≡ b
chunk_equal a b h =
    let r = and_parts ((a.input == b.input) && (a.kind == b.kind)) (a.index == b.index) h in
    let q = and_parts (a.input == b.input) (a.kind == b.kind) r.0 in
    ap (λ n. chunk_at n a.kind a.index) (eqb-true a.input b.input q.0)
    ∙ ap (λ n. chunk_at b.input n a.index) (eqb-true a.kind b.kind q.1)
    ∙ ap (λ n. chunk_at b.input b.kind n) (eqb-true a.index b.index r.1)

pub chunk_itself : (a : Chunk) → same_chunk a a ≡ true
chunk_itself a = both ((a.input == a.input) && (a.kind == a.kind)) (a.index == a.index) (both (a.input == a.input) (a.kind == a.kind) (number_itself a.input) (number_itself a.kind)) (number_itself a.index)
