-- The bytes of a tree spell its module.
use Rattle.std.proofs.Common.{◌≡◌, ℕ, zero, suc, ◌<◌, ◌≤◌, ◌^◌, List, [], ◌∷◌, ◌++◌, length, refl, sym, ap, subst, ◌∙◌, arith, inl, inr, append_assoc, Bool, true, false, eqb}
use Rattle.std.specs.Prelude.{⊤, Option, Some, None, Ok, IfSome, All, flat_map, IsUtf8, if◌then◌else◌}
use Rattle.std.specs.List.{AllZip}
use Rattle.std.proofs.lemmas.Bool.{cases_lt, lt-ltb, le-ltb, ne_eqb}
use Rattle.std.proofs.lemmas.List.{length-append, append-nil}
use Rattle.std.proofs.lemmas.List.Concat.{flat_map-cons}
use Rattle.std.proofs.lemmas.List.Elements.{All-head, All-tail}
use Rattle.std.proofs.lemmas.Slice.Zip.{AllZip-long}
use Rattle.wasm_module.specs.wasm_instr.leb_codec.Shortest.{shortest, u32, s32, s64}
use Rattle.wasm_module.proofs.wasm_instr_lemmas.leb_codec_lemmas.Computed.{u32_spells, s32_spelled, s64_spelled}
use Rattle.wasm_module.specs.wasm_instr.wasm_grammar.Grammar.{SpellsU32, SpellsName, SpellsBytes, SpellsSized, SpellsMany, SpellsVector, Then}
use Rattle.wasm_module.specs.wasm_instr.wasm_types.Types.{val_byte, ref_byte, var_byte, SpellsValType, SpellsFuncType, SpellsLimits, SpellsBounds, SpellsGlobalType, SpellsTableType, SpellsImport, SpellsImportKind, SpellsExpr}
use Rattle.wasm_module.specs.wasm_instr.wasm_types.declared.value.ValType.{ValType}
use Rattle.wasm_module.specs.wasm_instr.wasm_types.declared.function.FuncType.{FuncType}
use Rattle.wasm_module.specs.wasm_instr.wasm_types.declared.table.GlobalType.{GlobalType}
use Rattle.wasm_module.specs.wasm_instr.wasm_types.declared.table.Limits.{Limits}
use Rattle.wasm_module.specs.wasm_instr.wasm_types.declared.table.TableType.{TableType}
use Rattle.wasm_module.specs.wasm_instr.wasm_types.declared.import.Import.{Import}
use Rattle.wasm_module.specs.wasm_instr.wasm_types.declared.import.ImportKind.{ImportKind}
use Rattle.wasm_module.specs.wasm_instr.wasm_types.declared.import.ImportKind.TheVariants as kinds
use Rattle.wasm_module.specs.wasm_instr.wasm_types.declared.const_expr.ConstExpr.{ConstExpr}
use Rattle.wasm_module.specs.wasm_instr.wasm_types.declared.const_expr.ConstExpr.TheVariants as constants
use Rattle.wasm_module.specs.wasm_instr.declared.body.Body.{Body}
use Rattle.wasm_module.specs.wasm_instr.Bodies.{SpellsBody}
use Rattle.wasm_module.specs.declared.parts.Export.{Export}
use Rattle.wasm_module.specs.declared.parts.ModuleGlobal.{ModuleGlobal}
use Rattle.wasm_module.specs.declared.parts.Element.{Element}
use Rattle.wasm_module.specs.declared.structure.Module.{Module}
use Rattle.wasm_module.specs.Parts.{SpellsGlobal, SpellsExport, SpellsElement, SpellsFunctions, SpellsDataSegment}
use Rattle.wasm_module.specs.Sections.{BeginsWithName, AreCustoms, SpellsSection, SpellsGiven}
use Rattle.wasm_module.specs.wasm_instr.wasm_grammar.ReaderLaws.{ok_is}
use Rattle.wasm_module.specs.ModuleReading.{module_of}
use Rattle.wasm_module.proofs.ModuleLaws.{module_again}
use Rattle.wasm_module.specs.Modules.{IsModule}
use Rattle.image_emit.specs.Bytes.{Block, Tree, vector, sized, section, val_type, func_type, limits_to, limits, table, global_type, import_kind, import_entry, const_expr, global, export, element_head, element, data_bytes, data_section, custom_section, header, bytes_of}
use Rattle.image_emit.specs.Spelled.{segments, module_with, IsTree, IsU32, IsConstant, AreLimits, IsTable, IsImportKind, IsImport, IsGlobal, IsExport, IsElement, IsSpellable}

-- ---- sizes

-- so few bytes that their number is a u32
abbrev Fits : List ℕ → Type 0
Fits bytes = length bytes < 2 ^ 32

left_fits : (a b : List ℕ) → Fits (a ++ b) → Fits a
left_fits a b fits = omega (arith, length-append a b)

right_fits : (a b : List ℕ) → Fits (a ++ b) → Fits b
right_fits a b fits = omega (arith, length-append a b)

one_at_least : (k n : ℕ) → 1 ≤ length (shortest k n)
one_at_least zero n = omega arith
one_at_least (suc k) n = elim (cases_lt n 128) [
  | inl low ↦ rw (lt-ltb n 128 low) (omega arith)
  | inr high ↦ rw (le-ltb n 128 high) (omega arith)
]

some_u32 : (n : ℕ) → 1 ≤ length (u32 n)
unfolding u32
some_u32 n = one_at_least 4 n

some_before : (a b : List ℕ) → 1 ≤ length a → 1 ≤ length (a ++ b)
some_before a b some = omega (arith, length-append a b)

pub some_sized : (bytes : List ℕ) → 1 ≤ length (sized bytes)
some_sized bytes = some_before (u32 (length bytes)) bytes (some_u32 (length bytes))

-- ---- sized parts, vectors and sections

sized_of : {P : List ℕ → Type 0} (bytes : List ℕ) → Fits (sized bytes) → P bytes → SpellsSized P (sized bytes)
sized_of bytes fits p = (u32 (length bytes), bytes, u32_spells (length bytes) (right_fits (u32 (length bytes)) bytes fits), p, refl)

bytes_of_itself : (bytes : List ℕ) → Fits (sized bytes) → SpellsBytes bytes (sized bytes)
bytes_of_itself bytes fits = (u32 (length bytes), bytes, u32_spells (length bytes) (right_fits (u32 (length bytes)) bytes fits), refl, refl)

name_of : (name : List ℕ) → IsUtf8 name → Fits (sized name) → SpellsName name (sized name)
name_of name utf8 fits = (utf8, bytes_of_itself name fits)

many : {A B : Type 0} (Item : A → List ℕ → Type 0) (item : B → List ℕ) (xs : List A) (ys : List B) → AllZip (λ x y. Item x (item y)) xs ys → SpellsMany Item xs (flat_map item ys)
many Item item [] [] z = refl
many Item item [] (y ∷ ys) z = absurd z
many Item item (x ∷ xs) [] z = absurd z
many Item item (x ∷ xs) (y ∷ ys) z = (item y, flat_map item ys, z.0, many Item item xs ys z.1, flat_map-cons item y ys)

pub few : {B : Type 0} (item : B → List ℕ) → ((y : B) → 1 ≤ length (item y)) → (ys : List B) → length ys ≤ length (flat_map item ys)
few item some [] = omega arith
few item some (y ∷ ys) = omega (arith, ap length (flat_map-cons item y ys), length-append (item y) (flat_map item ys), some y, few item some ys)

vector_zip : {A B : Type 0} (Item : A → List ℕ → Type 0) (item : B → List ℕ) → ((y : B) → 1 ≤ length (item y)) → (xs : List A) (ys : List B) → AllZip (λ x y. Item x (item y)) xs ys → Fits (vector item ys)
    → SpellsVector Item xs (vector item ys)
vector_zip Item item some xs ys z fits =
    let count : IsU32 (length ys) = omega (arith, few item some ys, right_fits (u32 (length ys)) (flat_map item ys) fits) in
    let same : length ys ≡ length xs = AllZip-long (λ x y. Item x (item y)) xs ys z in
    (u32 (length ys), flat_map item ys, subst (λ (n : ℕ). SpellsU32 n (u32 (length ys))) same (u32_spells (length ys) count), many Item item xs ys z, refl)

pub not_left_out : {B : Type 0} (id : ℕ) (item : B → List ℕ) (y : B) (ys : List B) → section id item (y ∷ ys) ≡ id ∷ sized (vector item (y ∷ ys))
not_left_out id item y ys =
    let some : eqb (length (y ∷ ys)) 0 ≡ false = ne_eqb (length (y ∷ ys)) 0 (λ e. absurd (omega (arith, e))) in
    rw some refl

section_zip : {A B : Type 0} (id : ℕ) (Item : A → List ℕ → Type 0) (item : B → List ℕ) → ((y : B) → 1 ≤ length (item y)) → (xs : List A) (ys : List B) → AllZip (λ x y. Item x (item y)) xs ys → Fits (section id item ys)
    → SpellsSection id [] (SpellsVector Item) xs (section id item ys)
section_zip id Item item some [] [] z fits = inl (refl, refl)
section_zip id Item item some [] (y ∷ ys) z fits = absurd z
section_zip id Item item some (x ∷ xs) [] z fits = absurd z
section_zip id Item item some (x ∷ xs) (y ∷ ys) z fits =
    let inner : List ℕ = vector item (y ∷ ys) in
    let is = not_left_out id item y ys in
    let there : Fits (sized inner) = right_fits (id ∷ []) (sized inner) (subst Fits is fits) in
    let contents = vector_zip Item item some (x ∷ xs) (y ∷ ys) z (right_fits (u32 (length inner)) inner there) in
    inr (id ∷ [], sized inner, refl, sized_of inner there contents, is)

-- items that are spelled one by one
each : {A : Type 0} (Item : A → List ℕ → Type 0) (item : A → List ℕ) (Sound : A → Type 0) → ((x : A) → Sound x → Fits (item x) → Item x (item x)) → (xs : List A) → All Sound xs → Fits (flat_map item xs)
    → AllZip (λ x y. Item x (item y)) xs xs
each Item item Sound one [] all fits = tt
each Item item Sound one (x ∷ xs) all fits =
    let both : Fits (item x ++ flat_map item xs) = subst Fits (flat_map-cons item x xs) fits in
    (one x (All-head Sound x xs all) (left_fits (item x) (flat_map item xs) both), each Item item Sound one xs (All-tail Sound x xs all) (right_fits (item x) (flat_map item xs) both))

vector_of : {A : Type 0} (Item : A → List ℕ → Type 0) (item : A → List ℕ) (Sound : A → Type 0) → ((x : A) → 1 ≤ length (item x)) → ((x : A) → Sound x → Fits (item x) → Item x (item x)) → (xs : List A) → All Sound xs → Fits (vector item xs)
    → SpellsVector Item xs (vector item xs)
vector_of Item item Sound some one xs all fits =
    vector_zip Item item some xs xs (each Item item Sound one xs all (right_fits (u32 (length xs)) (flat_map item xs) fits)) fits

items_fit : {A : Type 0} (id : ℕ) (item : A → List ℕ) (xs : List A) → Fits (section id item xs) → Fits (flat_map item xs)
items_fit id item [] fits = omega arith
items_fit id item (x ∷ xs) fits =
    let inner : List ℕ = vector item (x ∷ xs) in
    let there : Fits inner = right_fits (u32 (length inner)) inner (right_fits (id ∷ []) (sized inner) (subst Fits (not_left_out id item x xs) fits)) in
    right_fits (u32 (length (x ∷ xs))) (flat_map item (x ∷ xs)) there

section_of : {A : Type 0} (id : ℕ) (Item : A → List ℕ → Type 0) (item : A → List ℕ) (Sound : A → Type 0) → ((x : A) → 1 ≤ length (item x)) → ((x : A) → Sound x → Fits (item x) → Item x (item x)) → (xs : List A) → All Sound xs → Fits (section id item xs)
    → SpellsSection id [] (SpellsVector Item) xs (section id item xs)
section_of id Item item Sound some one xs all fits = section_zip id Item item some xs xs (each Item item Sound one xs all (items_fit id item xs fits)) fits

-- ---- types

abbrev Always : {A : Type 0} → A → Type 0
Always x = ⊤

always : {A : Type 0} (xs : List A) → All Always xs
always xs = λ k d lt. tt

some_val : (t : ValType) → 1 ≤ length (val_type t)
some_val t = omega arith

val_of : (t : ValType) → Always t → Fits (val_type t) → SpellsValType t (val_type t)
val_of t sound fits = refl

pub some_func : (t : FuncType) → 1 ≤ length (func_type t)
some_func t = omega arith

func_of : (t : FuncType) → Always t → Fits (func_type t) → SpellsFuncType t (func_type t)
func_of t sound fits =
    let params : List ℕ = vector val_type t.params in
    let results : List ℕ = vector val_type t.results in
    let both : Fits (params ++ results) = right_fits (0x60 ∷ []) (params ++ results) fits in (
      0x60 ∷ [],
      params ++ results,
      refl,
      (params, results, vector_of SpellsValType val_type Always some_val val_of t.params (always t.params) (left_fits params results both), vector_of SpellsValType val_type Always some_val val_of t.results (always t.results) (right_fits params results both), refl),
      refl,
    )

bounds_of : (least : ℕ) (most : Option ℕ) → IsU32 least → IfSome most IsU32 → SpellsBounds least most (limits_to least most)
bounds_of least None low high = (0 ∷ [], u32 least, refl, u32_spells least low, refl)
bounds_of least (Some most) low high = (1 ∷ [], u32 least ++ u32 most, refl, (u32 least, u32 most, u32_spells least low, u32_spells most high, refl), refl)

some_bounds : (least : ℕ) (most : Option ℕ) → 1 ≤ length (limits_to least most)
some_bounds least None = omega arith
some_bounds least (Some most) = omega arith

pub some_limits : (l : Limits) → 1 ≤ length (limits l)
some_limits l = some_bounds l.min l.max

limits_of : (l : Limits) → AreLimits l → Fits (limits l) → SpellsLimits l (limits l)
limits_of l sound fits = bounds_of l.min l.max sound.least sound.most

pub some_table : (t : TableType) → 1 ≤ length (table t)
some_table t = omega arith

ref_is : (funcref : Bool) → (if funcref then 0x70 else 0x6F) ≡ ref_byte funcref
ref_is true = refl
ref_is false = refl

table_of : (t : TableType) → IsTable t → Fits (table t) → SpellsTableType t (table t)
table_of t sound fits =
    ((if t.funcref then 0x70 else 0x6F) ∷ [], limits t.limits, ap (λ (b : ℕ). b ∷ []) (ref_is t.funcref), bounds_of t.limits.min t.limits.max sound.least sound.most, refl)

var_is : (var : Bool) → (if var then 1 else 0) ≡ var_byte var
var_is true = refl
var_is false = refl

global_type_of : (g : GlobalType) → SpellsGlobalType g (global_type g)
global_type_of g = (val_byte g.kind ∷ [], (if g.var then 1 else 0) ∷ [], refl, ap (λ (b : ℕ). b ∷ []) (var_is g.var), refl)

-- ---- imports

import_kind_of : (k : ImportKind) → IsImportKind k → Fits (import_kind k) → SpellsImportKind k (import_kind k)
import_kind_of (kinds.Function t) sound fits = (0 ∷ [], u32 t, refl, u32_spells t sound, refl)
import_kind_of (kinds.Table t) sound fits = (1 ∷ [], table t, refl, table_of t sound (right_fits (1 ∷ []) (table t) fits), refl)
import_kind_of (kinds.Memory m) sound fits = (2 ∷ [], limits m, refl, limits_of m sound (right_fits (2 ∷ []) (limits m) fits), refl)
import_kind_of (kinds.GlobalVar g) sound fits = (3 ∷ [], global_type g, refl, global_type_of g, refl)

pub some_import : (i : Import) → 1 ≤ length (import_entry i)
some_import i =
    some_before (sized i.«module» ++ sized i.field) (import_kind i.kind) (some_before (sized i.«module») (sized i.field) (some_sized i.«module»))

import_of : (i : Import) → IsImport i → Fits (import_entry i) → SpellsImport i (import_entry i)
import_of i sound fits =
    let from : List ℕ = sized i.«module» in
    let field : List ℕ = sized i.field in
    let kind : List ℕ = import_kind i.kind in
    let names : Fits (from ++ field) = left_fits (from ++ field) kind fits in (
      from,
      field ++ kind,
      name_of i.«module» sound.from (left_fits from field names),
      (field, kind, name_of i.field sound.field (right_fits from field names), import_kind_of i.kind sound.kind (right_fits (from ++ field) kind fits), refl),
      append_assoc from field kind,
    )

-- ---- constants, globals and exports

const_of : (c : ConstExpr) → IsConstant c → SpellsExpr c (const_expr c)
const_of (constants.I32 z) sound = (0x41 ∷ [], s32 z ++ 0x0B ∷ [], refl, (s32 z, 0x0B ∷ [], s32_spelled z sound.0 sound.1, refl, refl), refl)
const_of (constants.I64 z) sound = (0x42 ∷ [], s64 z ++ 0x0B ∷ [], refl, (s64 z, 0x0B ∷ [], s64_spelled z sound.0 sound.1, refl, refl), refl)
const_of (constants.Get g) sound = (0x23 ∷ [], u32 g ++ 0x0B ∷ [], refl, (u32 g, 0x0B ∷ [], u32_spells g sound, refl, refl), refl)

pub some_global : (g : ModuleGlobal) → 1 ≤ length (global g)
some_global g = omega arith

global_of : (g : ModuleGlobal) → IsGlobal g → Fits (global g) → SpellsGlobal true g (global g)
global_of g sound fits = (global_type g.kind, const_expr g.value, global_type_of g.kind, const_of g.value sound, refl)

pub some_export : (e : Export) → 1 ≤ length (export e)
some_export e = some_before (sized e.name) (e.kind ∷ u32 e.index) (some_sized e.name)

export_of : (e : Export) → IsExport e → Fits (export e) → SpellsExport e (export e)
export_of e sound fits =
    (sized e.name, e.kind ∷ u32 e.index, name_of e.name sound.name (left_fits (sized e.name) (e.kind ∷ u32 e.index) fits), (e.kind ∷ [], u32 e.index, (sound.kind, refl), u32_spells e.index sound.index, refl), refl)

-- ---- element segments

pub some_number : (n : ℕ) → 1 ≤ length (u32 n)
some_number n = some_u32 n

number_of : (n : ℕ) → IsU32 n → Fits (u32 n) → SpellsU32 n (u32 n)
number_of n sound fits = u32_spells n sound

zero_of : SpellsU32 0 (0 ∷ [])
unfolding u32
zero_of = u32_spells 0 (omega arith)

one_of : SpellsU32 1 (1 ∷ [])
unfolding u32
one_of = u32_spells 1 (omega arith)

two_of : SpellsU32 2 (2 ∷ [])
unfolding u32
two_of = u32_spells 2 (omega arith)

functions_of : (t : Option ℕ) (offset : ConstExpr) (functions : List ℕ) → IfSome t IsU32 → IsConstant offset → All IsU32 functions → Fits (element_head t offset ++ vector u32 functions)
    → SpellsFunctions true t offset functions (element_head t offset ++ vector u32 functions)
functions_of None offset functions named sound all fits =
    let items : List ℕ = vector u32 functions in
    let there = vector_of SpellsU32 u32 IsU32 some_number number_of functions all (right_fits (element_head None offset) items fits) in
    (0 ∷ [], const_expr offset ++ items, zero_of, (const_expr offset, items, const_of offset sound, there, refl), refl)
functions_of (Some t) offset functions named sound all fits =
    let items : List ℕ = vector u32 functions in
    let place : List ℕ = const_expr offset in
    let there = vector_of SpellsU32 u32 IsU32 some_number number_of functions all (right_fits (element_head (Some t) offset) items fits) in (
      2 ∷ [],
      u32 t ++ (place ++ (0 ∷ items)),
      two_of,
      (u32 t, place ++ (0 ∷ items), u32_spells t named, (place, 0 ∷ items, const_of offset sound, (0 ∷ [], items, refl, there, refl), refl), refl),
      ap (λ (r : List ℕ). 2 ∷ r) (append_assoc (u32 t ++ place) (0 ∷ []) items ∙ append_assoc (u32 t) place (0 ∷ items)),
    )

some_head : (t : Option ℕ) (offset : ConstExpr) → 1 ≤ length (element_head t offset)
some_head None offset = omega arith
some_head (Some t) offset = some_before (2 ∷ u32 t ++ const_expr offset) (0 ∷ []) (some_before (2 ∷ u32 t) (const_expr offset) (omega arith))

pub some_element : (e : Element) → 1 ≤ length (element e)
some_element e = some_before (element_head e.table e.offset) (vector u32 e.functions) (some_head e.table e.offset)

element_of : (e : Element) → IsElement e → Fits (element e) → SpellsElement true e (element e)
element_of e sound fits = functions_of e.table e.offset e.functions sound.table sound.offset sound.functions fits

-- ---- bodies and data

codes_of : (bs : List Body) (ts : List (List ℕ)) → AllZip SpellsBody bs ts → Fits (flat_map sized ts) → AllZip (λ b t. SpellsSized (SpellsBody b) (sized t)) bs ts
codes_of [] [] z fits = tt
codes_of [] (t ∷ ts) z fits = absurd z
codes_of (b ∷ bs) [] z fits = absurd z
codes_of (b ∷ bs) (t ∷ ts) z fits =
    let both : Fits (sized t ++ flat_map sized ts) = subst Fits (flat_map-cons sized t ts) fits in
    (sized_of t (left_fits (sized t) (flat_map sized ts) both) z.0, codes_of bs ts z.1 (right_fits (sized t) (flat_map sized ts) both))

code_of : (bs : List Body) (ts : List (List ℕ)) → AllZip SpellsBody bs ts → Fits (section 10 sized ts) → SpellsSection 10 [] (SpellsVector (λ b. SpellsSized (SpellsBody b))) bs (section 10 sized ts)
code_of bs ts z fits = section_zip 10 (λ b. SpellsSized (SpellsBody b)) sized some_sized bs ts (codes_of bs ts z (items_fit 10 sized ts fits)) fits

segment_of : (offset : ConstExpr) (bytes : List ℕ) → IsConstant offset → Fits (sized bytes) → SpellsDataSegment true (record { memory = None; offset = offset; bytes = bytes }) (0 ∷ const_expr offset ++ sized bytes)
segment_of offset bytes sound fits = (0 ∷ [], const_expr offset ++ sized bytes, zero_of, (const_expr offset, sized bytes, const_of offset sound, bytes_of_itself bytes fits, refl), refl)

data_of : (offset : ConstExpr) (blocks : List Block) → IsConstant offset → Fits (data_section offset blocks) → SpellsSection 11 [] (SpellsVector (SpellsDataSegment true)) (segments offset blocks) (data_section offset blocks)
data_of offset [] sound fits = inl (refl, refl)
data_of offset (b ∷ bs) sound fits =
    let bytes : List ℕ = data_bytes (b ∷ bs) in
    let one : List ℕ = 0 ∷ const_expr offset ++ sized bytes in
    let there : Fits (sized (1 ∷ one)) = right_fits (11 ∷ []) (sized (1 ∷ one)) fits in
    let inside : Fits one = right_fits (1 ∷ []) one (right_fits (u32 (length (1 ∷ one))) (1 ∷ one) there) in
    let item = segment_of offset bytes sound (right_fits (0 ∷ const_expr offset) (sized bytes) inside) in
    inr (11 ∷ [], sized (1 ∷ one), refl, sized_of (1 ∷ one) there (1 ∷ [], one, one_of, (one, [], item, refl, sym (append-nil one)), refl), refl)

-- ---- custom sections

custom_of : (custom : Option (List ℕ)) → IfSome custom BeginsWithName → Fits (custom_section custom) → AreCustoms (custom_section custom)
custom_of None named fits = (0, refl)
custom_of (Some bytes) named fits =
    (1, (custom_section (Some bytes), [], (0 ∷ [], sized bytes, refl, sized_of bytes (right_fits (0 ∷ []) (sized bytes) fits) named, refl), refl, sym (append-nil (custom_section (Some bytes)))))

-- ---- one part behind another

-- what was put behind is spelled so
record Added (P : List ℕ → Type 0) (old new : List ℕ) : Type 0 where
  text : List ℕ
  spells : P text
  parts : new ≡ old ++ text

-- where all of it is short
abbrev Adds : (List ℕ → Type 0) → List ℕ → List ℕ → Type 0
Adds P old new = Fits new → Added P old new

adds : {P : List ℕ → Type 0} (old bytes : List ℕ) → (Fits bytes → P bytes) → Adds P old (old ++ bytes)
adds old bytes p = λ fits. record { text = bytes; spells = p (right_fits old bytes fits); parts = refl }

no_customs : (old : List ℕ) → Adds AreCustoms old old
no_customs old = λ fits. record { text = []; spells = (0, refl); parts = sym (append-nil old) }

no_count : (old : List ℕ) → Adds (SpellsSection 12 None SpellsGiven None) old old
no_count old = λ fits. record { text = []; spells = inl (refl, refl); parts = sym (append-nil old) }

Adds-then : {P Q : List ℕ → Type 0} {a b c : List ℕ} → Adds P a b → Adds Q b c → Adds (Then P Q) a c
Adds-then {P} {Q} {a} {b} {c} p q = λ fits.
    let second = q fits in
    let first = p (omega (arith, ap length second.parts, length-append b second.text)) in
    record {
      text = first.text ++ second.text;
      spells = (first.text, second.text, first.spells, second.spells, refl);
      parts = second.parts ∙ ap (λ (t : List ℕ). t ++ second.text) first.parts ∙ append_assoc a first.text second.text;
    }

-- the sections of a module in their order, custom sections anywhere between them, where this says which bytes spell the code
abbrev pub Chain : Module → (List ℕ → Type 0) → List ℕ → Type 0
Chain m Code =
    Then AreCustoms (Then (SpellsSection 1 [] (SpellsVector SpellsFuncType) m.types)
    (Then AreCustoms (Then (SpellsSection 2 [] (SpellsVector SpellsImport) m.imports)
    (Then AreCustoms (Then (SpellsSection 3 [] (SpellsVector SpellsU32) m.functions)
    (Then AreCustoms (Then (SpellsSection 4 [] (SpellsVector SpellsTableType) m.tables)
    (Then AreCustoms (Then (SpellsSection 5 [] (SpellsVector SpellsLimits) m.memories)
    (Then AreCustoms (Then (SpellsSection 6 [] (SpellsVector (SpellsGlobal true)) m.globals)
    (Then AreCustoms (Then (SpellsSection 7 [] (SpellsVector SpellsExport) m.exports)
    (Then AreCustoms (Then (SpellsSection 9 [] (SpellsVector (SpellsElement true)) m.elements)
    (Then AreCustoms (Then (SpellsSection 12 None SpellsGiven m.data_count)
    (Then AreCustoms (Then Code
    (Then AreCustoms (Then (SpellsSection 11 [] (SpellsVector (SpellsDataSegment true)) m.data_segments)
    AreCustoms)))))))))))))))))))))

sections_added : (m : Module) (Code : List ℕ → Type 0) (t0 t1 t2 t3 t4 t5 t6 t7 t8 t9 t10 t11 t12 : List ℕ)
    → Adds AreCustoms t0 t1
    → Adds (SpellsSection 1 [] (SpellsVector SpellsFuncType) m.types) t1 t2
    → Adds (SpellsSection 2 [] (SpellsVector SpellsImport) m.imports) t2 t3
    → Adds (SpellsSection 3 [] (SpellsVector SpellsU32) m.functions) t3 t4
    → Adds (SpellsSection 4 [] (SpellsVector SpellsTableType) m.tables) t4 t5
    → Adds (SpellsSection 5 [] (SpellsVector SpellsLimits) m.memories) t5 t6
    → Adds (SpellsSection 6 [] (SpellsVector (SpellsGlobal true)) m.globals) t6 t7
    → Adds (SpellsSection 7 [] (SpellsVector SpellsExport) m.exports) t7 t8
    → Adds (SpellsSection 9 [] (SpellsVector (SpellsElement true)) m.elements) t8 t9
    → Adds (SpellsSection 12 None SpellsGiven m.data_count) t9 t10
    → Adds Code t10 t11
    → Adds (SpellsSection 11 [] (SpellsVector (SpellsDataSegment true)) m.data_segments) t11 t12
    → Adds (Chain m Code) t0 t12
sections_added m Code t0 t1 t2 t3 t4 t5 t6 t7 t8 t9 t10 t11 t12 custom types imports functions tables memories globals exports elements data_count bodies data_segments =
    Adds-then custom (Adds-then types (
    Adds-then (no_customs t2) (Adds-then imports (
    Adds-then (no_customs t3) (Adds-then functions (
    Adds-then (no_customs t4) (Adds-then tables (
    Adds-then (no_customs t5) (Adds-then memories (
    Adds-then (no_customs t6) (Adds-then globals (
    Adds-then (no_customs t7) (Adds-then exports (
    Adds-then (no_customs t8) (Adds-then elements (
    Adds-then (no_customs t9) (Adds-then data_count (
    Adds-then (no_customs t10) (Adds-then bodies (
    Adds-then (no_customs t11) (Adds-then data_segments (no_customs t12))))))))))))))))))))))

-- ---- the whole

-- behind the header stand the tree's sections
abbrev Sections : Tree → List Body → (List ℕ → Type 0) → Type 0
Sections t bodies Code = (rest : List ℕ) × Chain (module_with bodies t) Code rest × (bytes_of t ≡ header ++ rest)

whole : (t : Tree) (bodies : List Body) (Code : List ℕ → Type 0) → IsSpellable t → (Fits (section 10 sized t.bodies) → Code (section 10 sized t.bodies)) → Sections t bodies Code
unfolding bytes_of
whole t bodies Code sound code =
    let m : Module = module_with bodies t in
    let a : List ℕ = header ++ custom_section t.custom in
    let b : List ℕ = a ++ section 1 func_type t.types in
    let c : List ℕ = b ++ section 2 import_entry t.imports in
    let d : List ℕ = c ++ section 3 u32 t.functions in
    let e : List ℕ = d ++ section 4 table t.tables in
    let f : List ℕ = e ++ section 5 limits t.memories in
    let g : List ℕ = f ++ section 6 global t.globals in
    let h : List ℕ = g ++ section 7 export t.exports in
    let i : List ℕ = h ++ section 9 element t.elements in
    let j : List ℕ = i ++ section 10 sized t.bodies in
    let k : List ℕ = j ++ data_section t.data_offset t.blocks in
    let all = sections_added m Code header a b c d e f g h i i j k
    (adds header (custom_section t.custom) (custom_of t.custom sound.custom))
    (adds a (section 1 func_type t.types) (section_of 1 SpellsFuncType func_type Always some_func func_of t.types (always t.types)))
    (adds b (section 2 import_entry t.imports) (section_of 2 SpellsImport import_entry IsImport some_import import_of t.imports sound.imports))
    (adds c (section 3 u32 t.functions) (section_of 3 SpellsU32 u32 IsU32 some_number number_of t.functions sound.functions))
    (adds d (section 4 table t.tables) (section_of 4 SpellsTableType table IsTable some_table table_of t.tables sound.tables))
    (adds e (section 5 limits t.memories) (section_of 5 SpellsLimits limits AreLimits some_limits limits_of t.memories sound.memories))
    (adds f (section 6 global t.globals) (section_of 6 (SpellsGlobal true) global IsGlobal some_global global_of t.globals sound.globals))
    (adds g (section 7 export t.exports) (section_of 7 SpellsExport export IsExport some_export export_of t.exports sound.exports))
    (adds h (section 9 element t.elements) (section_of 9 (SpellsElement true) element IsElement some_element element_of t.elements sound.elements))
    (no_count i)
    (adds i (section 10 sized t.bodies) code)
    (adds j (data_section t.data_offset t.blocks) (data_of t.data_offset t.blocks sound.offset))
    sound.short in
    (all.text, all.spells, all.parts)

module_spelled : (t : Tree) (bodies : List Body) → IsSpellable t → AllZip SpellsBody bodies t.bodies → IsModule (module_with bodies t) (bytes_of t)
module_spelled t bodies sound z =
    let all = whole t bodies (SpellsSection 10 [] (SpellsVector (λ b. SpellsSized (SpellsBody b))) bodies) sound (code_of bodies t.bodies z) in
    let code : length t.functions ≡ length bodies = sound.code ∙ AllZip-long SpellsBody bodies t.bodies z in
    (record { code = code; counted = tt }, (header, all.0, refl, all.1, all.2))

-- the same with the code as bytes, whatever these are
pub raw_sections : (t : Tree) → IsSpellable t → Sections t [] (SpellsSection 10 [] (SpellsVector SpellsBytes) t.bodies)
raw_sections t sound =
    whole t [] (SpellsSection 10 [] (SpellsVector SpellsBytes) t.bodies) sound (section_of 10 SpellsBytes sized Always some_sized (λ bytes yes fits. bytes_of_itself bytes fits) t.bodies (always t.bodies))

pub spelled : (t : Tree) (m : Module) → IsSpellable t → IsTree m t → IsModule m (bytes_of t)
spelled t m sound is = subst (λ (n : Module). IsModule n (bytes_of t)) (sym is.parts) (module_spelled t m.bodies sound is.bodies)

pub read_again : (t : Tree) (m : Module) → IsSpellable t → IsTree m t → module_of (bytes_of t) ≡ Ok m
read_again t m sound is = module_again (length (bytes_of t)) (bytes_of t) m (spelled t m sound is)

pub no_other : (t : Tree) (m other : Module) → IsSpellable t → IsTree m t → IsModule other (bytes_of t) → other ≡ m
no_other t m other sound is s = ok_is (sym (module_again 0 (bytes_of t) other s) ∙ module_again 0 (bytes_of t) m (spelled t m sound is))
