-- Types, imports, functions and exports of a relocatable object are spelled; of imports at most one is a memory, and at most one a table.
use Rattle.std.proofs.Common.{◌≡◌, ℕ, ◌≤◌, List, [], ◌∷◌, ◌++◌, length, refl, ap, subst, arith, append_assoc, Bool, true, false}
use Rattle.std.specs.Prelude.{⊤, Option, Some, None, IfSome, All, flat_map, if◌then◌else◌}
use Rattle.std.proofs.lemmas.List.{length-append}
use Rattle.std.proofs.lemmas.List.Concat.{flat_map-cons}
use Rattle.std.proofs.lemmas.List.Elements.{All-head, All-tail}
use Rattle.object_file.specs.leb_codec.Shortest.{u32}
use Rattle.wasm_instr.proofs.leb_codec_lemmas.Computed.{u32_spells}
use Rattle.wasm_instr.specs.wasm_grammar.Grammar.{SpellsU32, SpellsVector}
use Rattle.wasm_instr.specs.wasm_types.Types.{ref_byte, SpellsValType, SpellsFuncType, SpellsBounds, SpellsTableType, SpellsImport, SpellsImportKind}
use Rattle.wasm_instr.specs.wasm_types.declared.value.ValType.{ValType}
use Rattle.wasm_instr.specs.wasm_types.declared.function.FuncType.{FuncType}
use Rattle.wasm_instr.specs.wasm_types.declared.table.TableType.{TableType}
use Rattle.wasm_instr.specs.wasm_types.declared.import.Import.{Import}
use Rattle.wasm_instr.specs.wasm_types.declared.import.ImportKind.{ImportKind}
use Rattle.wasm_module.specs.declared.parts.Export.{Export}
use Rattle.wasm_module.specs.Parts.{SpellsExport}
use Rattle.object_parts.specs.declared.imports.Seen.{Seen}
use Rattle.object_parts.specs.Imports.{SpellsObjectImport, seen_import, none_seen}
use Rattle.object_parts.specs.Turns.{AreInTurn, AreEntries}
use Rattle.image_emit.specs.Bytes.{vector, sized, val_type, func_type, limits_to, limits, table, import_kind, import_entry, global_type, export}
use Rattle.image_emit.specs.Spelled.{IsTable, IsImportKind, IsImport, IsExport}
use Rattle.wasm_instr.specs.wasm_types.declared.import.ImportKind.TheVariants as kinds
use Rattle.partial_rules.specs.WellFormed.{IsU32, AreTaken}
use Rattle.partial_rules.proofs.Spelling.{Fits, left_fits, right_fits, few, some_sized, some_u32, name_of, own_vector}
use Rattle.partial_rules.proofs.Turns.{type_of}

-- ---- types

val_of : (t : ValType) → ⊤ → Fits (val_type t) → SpellsValType t (val_type t)
val_of t sound fits = refl

some_val : (t : ValType) → 1 ≤ length (val_type t)
some_val t = omega arith

always : {A : Type 0} (xs : List A) → All (λ (x : A). ⊤) xs
always xs = λ k d lt. tt

func_of : (t : FuncType) → ⊤ → Fits (func_type t) → SpellsFuncType t (func_type t)
func_of t sound fits =
    let params : List ℕ = vector val_type t.params in
    let results : List ℕ = vector val_type t.results in
    let both : Fits (params ++ results) = right_fits (0x60 ∷ []) (params ++ results) fits in (
      0x60 ∷ [],
      params ++ results,
      refl,
      (
        params,
        results,
        own_vector SpellsValType val_type (λ t. ⊤) some_val val_of t.params (always t.params) (left_fits params results both),
        own_vector SpellsValType val_type (λ t. ⊤) some_val val_of t.results (always t.results) (right_fits params results both),
        refl,
      ),
      refl,
    )

some_func : (t : FuncType) → 1 ≤ length (func_type t)
some_func t = omega arith

pub types_of : (ts : List FuncType) → Fits (vector func_type ts) → SpellsVector SpellsFuncType ts (vector func_type ts)
types_of ts fits = own_vector SpellsFuncType func_type (λ t. ⊤) some_func func_of ts (always ts) fits

-- ---- functions

pub functions_of : (ns : List ℕ) → All IsU32 ns → Fits (vector u32 ns) → SpellsVector SpellsU32 ns (vector u32 ns)
functions_of ns all fits = own_vector SpellsU32 u32 IsU32 some_u32 (λ n low fits. u32_spells n low) ns all fits

-- ---- exports

export_of : (e : Export) → IsExport e → Fits (export e) → SpellsExport e (export e)
export_of e sound fits =
    (sized e.name, e.kind ∷ u32 e.index, name_of e.name sound.name (left_fits (sized e.name) (e.kind ∷ u32 e.index) fits), (e.kind ∷ [], u32 e.index, (sound.kind, refl), u32_spells e.index sound.index, refl), refl)

some_export : (e : Export) → 1 ≤ length (export e)
some_export e = omega (arith, length-append (sized e.name) (e.kind ∷ u32 e.index))

pub exports_of : (es : List Export) → All IsExport es → Fits (vector export es) → SpellsVector SpellsExport es (vector export es)
exports_of es all fits = own_vector SpellsExport export IsExport some_export export_of es all fits

-- ---- imports

bounds_of : (least : ℕ) (most : Option ℕ) → IsU32 least → IfSome most IsU32 → SpellsBounds least most (limits_to least most)
bounds_of least None low high = (0 ∷ [], u32 least, refl, u32_spells least low, refl)
bounds_of least (Some most) low high = (1 ∷ [], u32 least ++ u32 most, refl, (u32 least, u32 most, u32_spells least low, u32_spells most high, refl), refl)

ref_is : (funcref : Bool) → (if funcref then 0x70 else 0x6F) ≡ ref_byte funcref
ref_is true = refl
ref_is false = refl

table_of : (t : TableType) → IsTable t → SpellsTableType t (table t)
table_of t sound =
    ((if t.funcref then 0x70 else 0x6F) ∷ [], limits t.limits, ap (λ (b : ℕ). b ∷ []) (ref_is t.funcref), bounds_of t.limits.min t.limits.max sound.least sound.most, refl)

kind_of : (k : ImportKind) → IsImportKind k → SpellsImportKind k (import_kind k)
kind_of (kinds.Function t) sound = (0 ∷ [], u32 t, refl, u32_spells t sound, refl)
kind_of (kinds.Table t) sound = (1 ∷ [], table t, refl, table_of t sound, refl)
kind_of (kinds.Memory m) sound = (2 ∷ [], limits m, refl, bounds_of m.min m.max sound.least sound.most, refl)
kind_of (kinds.GlobalVar g) sound = (3 ∷ [], global_type g, refl, type_of g, refl)

import_of : (i : Import) → IsImport i → Fits (import_entry i) → SpellsImport i (import_entry i)
import_of i sound fits =
    let from : List ℕ = sized i.«module» in
    let field : List ℕ = sized i.field in
    let kind : List ℕ = import_kind i.kind in
    let names : Fits (from ++ field) = left_fits (from ++ field) kind fits in (
      from,
      field ++ kind,
      name_of i.«module» sound.from (left_fits from field names),
      (field, kind, name_of i.field sound.field (right_fits from field names), kind_of i.kind sound.kind, refl),
      append_assoc from field kind,
    )

some_import : (i : Import) → 1 ≤ length (import_entry i)
some_import i = omega (arith, length-append (sized i.«module» ++ sized i.field) (import_kind i.kind), length-append (sized i.«module») (sized i.field), some_sized i.«module»)

in_turn : (seen : Seen) (end : ℕ) (is : List Import) → AreTaken seen is → All IsImport is → Fits (flat_map import_entry is) → AreInTurn SpellsObjectImport seen_import seen end is (flat_map import_entry is) []
in_turn seen end [] taken all fits = refl
in_turn seen end (i ∷ is) taken all fits =
    let both : Fits (import_entry i ++ flat_map import_entry is) = subst Fits (flat_map-cons import_entry i is) fits in (
      import_entry i,
      flat_map import_entry is,
      (import_of i (All-head IsImport i is all) (left_fits (import_entry i) (flat_map import_entry is) both), taken.0),
      in_turn (seen_import seen i) end is taken.1 (All-tail IsImport i is all) (right_fits (import_entry i) (flat_map import_entry is) both),
      flat_map-cons import_entry i is,
    )

pub imports_of : (end : ℕ) (is : List Import) → AreTaken none_seen is → All IsImport is → Fits (vector import_entry is) → AreEntries SpellsObjectImport seen_import none_seen end is (vector import_entry is)
imports_of end is taken all fits =
    let inner : Fits (flat_map import_entry is) = right_fits (u32 (length is)) (flat_map import_entry is) fits in
    let count : IsU32 (length is) = omega (arith, few import_entry some_import is, inner) in
    (u32 (length is), flat_map import_entry is, u32_spells (length is) count, in_turn none_seen end is taken all inner, refl)
