-- What is read is spelled so, and what is spelled so is read.
use Rattle.std.proofs.Common.{◌≡◌, ℕ, ◌-◌, Bool, true, false, eqb, List, [], ◌∷◌, ◌++◌, length, Result, Ok, Err, refl, ap, subst, ◌∙◌, ◌||◌, Some, None, Option}
use Rattle.std.proofs.lemmas.Bool.{eqb-true}
use Rattle.wasm_grammar.specs.wl_base.declared.item.Item.TheVariants as items
use Rattle.wasm_types.specs.declared.value.ValType.{ValType}
use Rattle.wasm_types.specs.declared.value.ValType.TheVariants.{I32, I64, F32, F64}
use Rattle.wasm_types.specs.declared.function.FuncType.{FuncType}
use Rattle.wasm_types.specs.declared.table.Limits.{Limits}
use Rattle.wasm_types.specs.declared.table.GlobalType.{GlobalType}
use Rattle.wasm_types.specs.declared.table.TableType.{TableType}
use Rattle.wasm_types.specs.declared.import.Import.{Import}
use Rattle.wasm_types.specs.declared.import.ImportKind.{ImportKind}
use Rattle.wasm_types.specs.declared.import.ImportKind.TheVariants as kinds
use Rattle.wasm_types.specs.declared.const_expr.ConstExpr.{ConstExpr}
use Rattle.wasm_types.specs.declared.const_expr.ConstExpr.TheVariants as exprs
use Rattle.wasm_grammar.specs.declared.fault.Stop.{Stop}
use Rattle.wasm_grammar.specs.declared.fault.Stop.TheVariants.{Broken, Foreign}
use Rattle.wasm_grammar.specs.declared.fault.ReadFault.{ReadFault}
use Rattle.wasm_grammar.specs.declared.fault.ReadFault.TheVariants.{Stopped, OutOfMemory}
use Rattle.wasm_grammar.specs.Fault.{Fails}
use Rattle.wasm_grammar.specs.Grammar.{SpellsByte, Then}
use Rattle.wasm_types.specs.Fault.{form_fault, GivesPlainly}
use Rattle.wasm_grammar.specs.Readers.{Takes, IsReader}
use Rattle.wasm_grammar.specs.Writers.{Appends, Writes}
use Rattle.wasm_grammar.specs.Reading.{Read, ◌>>=◌, byte_at, tag_at, u32_at, s32_at, s64_at, name_at, vector_at}
use Rattle.wasm_grammar.specs.ReaderLaws.{bind_ok, ok_is, byte_reader, u32_reader, s32_reader, s64_reader, name_reader, tag_found, tag_again, vector_reader, Takes-then, regrouped, branch, never, tagged}
use Rattle.wasm_types.specs.Types.{val_byte, var_byte, ref_byte, SpellsValType, SpellsFuncType, SpellsLimits, SpellsGlobalType, SpellsTableType, SpellsImportKind, SpellsImport, SpellsExpr, SpellsConstExpr, val_type_of, val_type_at, func_type_at, least_at, bounds_at, flagged_limits, limits_at, var_of, global_type_at, funcref_of, table_type_at, function_import_at, table_import_at, memory_import_at, global_import_at, tagged_import, import_kind_at, import_at, closed_at, i32_expr_at, i64_expr_at, opened_expr, const_expr_at}

-- ---- value types and function types

-- a type by its byte: the byte is the one that spells it
pub val_type_found : (place b : ℕ) (t : ValType) → val_type_of place b ≡ Ok t → b ≡ val_byte t
val_type_found place b t e =
    branch (eqb b 0x7f) (Ok I32) _ t (λ q f. eqb-true b 0x7f q ∙ ap val_byte (ok_is f)) (
    branch (eqb b 0x7e) (Ok I64) _ t (λ q f. eqb-true b 0x7e q ∙ ap val_byte (ok_is f)) (
    branch (eqb b 0x7d) (Ok F32) _ t (λ q f. eqb-true b 0x7d q ∙ ap val_byte (ok_is f)) (
    branch (eqb b 0x7c) (Ok F64) _ t (λ q f. eqb-true b 0x7c q ∙ ap val_byte (ok_is f)) (
    branch (eqb b 0x7b || eqb b 0x70 || eqb b 0x6f) (Err (Foreign (items.ValueType b))) (Err (Broken place)) t (λ q f. never _ t f) (never _ t))))) e

pub val_type_again : (place : ℕ) (t : ValType) → val_type_of place (val_byte t) ≡ Ok t
val_type_again place I32 = refl
val_type_again place I64 = refl
val_type_again place F32 = refl
val_type_again place F64 = refl

pub val_type_reader : IsReader SpellsValType val_type_at
unfolding val_type_at
val_type_reader = record {
  found = λ end bytes t rest e.
      let a = bind_ok (byte_at end bytes) (λ byte. val_type_of (end - length bytes) byte.0 >>= λ t. Ok (t, byte.1)) (t, rest) e in
      let b = bind_ok (val_type_of (end - length bytes) a.0.0) (λ t. Ok (t, a.0.1)) (t, rest) a.2 in
      let is : a.0.0 ≡ val_byte b.0 = val_type_found (end - length bytes) a.0.0 b.0 b.1 in
      subst (λ (p : ValType × List ℕ). Takes (SpellsValType p.0) bytes p.1) (ok_is b.2)
      (subst (λ (n : ℕ). Takes (SpellsByte n) bytes a.0.1) is (byte_reader.found end bytes a.0.0 a.0.1 a.1));
  again = λ end t text rest s. rw (s, val_type_again (end - length (val_byte t ∷ rest)) t) refl;
}

pub func_type_reader : IsReader SpellsFuncType func_type_at
unfolding func_type_at
func_type_reader = record {
  found = λ end bytes t rest e.
      let a = bind_ok (tag_at 0x60 end bytes) (λ r. vector_at val_type_at end r >>= λ params. vector_at val_type_at end params.1 >>= λ results. Ok (record { params = params.0; results = results.0 }, results.1)) (t, rest) e in
      let b = bind_ok (vector_at val_type_at end a.0) (λ params. vector_at val_type_at end params.1 >>= λ results. Ok (record { params = params.0; results = results.0 }, results.1)) (t, rest) a.2 in
      let c = bind_ok (vector_at val_type_at end b.0.1) (λ results. Ok (record { params = b.0.0; results = results.0 }, results.1)) (t, rest) b.2 in
      let vectors = vector_reader SpellsValType val_type_at val_type_reader in
      subst (λ (p : FuncType × List ℕ). Takes (SpellsFuncType p.0) bytes p.1) (ok_is c.2)
      (Takes-then (tag_found 0x60 end bytes a.0 a.1) (Takes-then (vectors.found end a.0 b.0.0 b.0.1 b.1) (vectors.found end b.0.1 c.0.0 c.0.1 c.1)));
  again = λ end t text rest s.
      let vectors = vector_reader SpellsValType val_type_at val_type_reader in
      let outer = regrouped s.0 s.1 text rest s.4 in
      let inner = regrouped s.3.0 s.3.1 s.1 rest s.3.4 in
      rw (outer, tag_again 0x60 end s.0 (s.1 ++ rest) s.2, inner, vectors.again end t.params s.3.0 (s.3.1 ++ rest) s.3.2, vectors.again end t.results s.3.1 rest s.3.3) refl;
}

-- ---- limits

limits_found : (end byte : ℕ) (bytes mid : List ℕ) (l : Limits) (rest : List ℕ) → Takes (SpellsByte byte) bytes mid → flagged_limits byte end mid ≡ Ok (l, rest) → Takes (SpellsLimits l) bytes rest
limits_found end byte bytes mid l rest front e =
    branch (eqb byte 0) (least_at end mid) _ (l, rest) (λ q f.
    let a = bind_ok (u32_at end mid) (λ min. Ok (record { min = min.0; max = None }, min.1)) (l, rest) f in
    subst (λ (p : Limits × List ℕ). Takes (SpellsLimits p.0) bytes p.1) (ok_is a.2) (tagged byte 0 bytes mid a.0.1 q front (u32_reader.found end mid a.0.0 a.0.1 a.1))) (
    branch (eqb byte 1) (bounds_at end mid) _ (l, rest) (λ q f.
    let a = bind_ok (u32_at end mid) (λ min. u32_at end min.1 >>= λ max. Ok (record { min = min.0; max = Some max.0 }, max.1)) (l, rest) f in
    let b = bind_ok (u32_at end a.0.1) (λ max. Ok (record { min = a.0.0; max = Some max.0 }, max.1)) (l, rest) a.2 in
    subst (λ (p : Limits × List ℕ). Takes (SpellsLimits p.0) bytes p.1) (ok_is b.2)
    (tagged byte 1 bytes mid b.0.1 q front (Takes-then (u32_reader.found end mid a.0.0 a.0.1 a.1) (u32_reader.found end a.0.1 b.0.0 b.0.1 b.1)))) (
    never _ (l, rest))) e

limits_again : (end min : ℕ) (max : Option ℕ) (text rest : List ℕ) → SpellsLimits (record { min = min; max = max }) text → limits_at end (text ++ rest) ≡ Ok (record { min = min; max = max }, rest)
unfolding limits_at
limits_again end min None text rest s =
    let outer = regrouped s.0 s.1 text rest s.4 in
    rw (outer, s.2, u32_reader.again end min s.1 rest s.3) refl
limits_again end min (Some max) text rest s =
    let outer = regrouped s.0 s.1 text rest s.4 in
    let inner = regrouped s.3.0 s.3.1 s.1 rest s.3.4 in
    rw (outer, s.2, inner, u32_reader.again end min s.3.0 (s.3.1 ++ rest) s.3.2, u32_reader.again end max s.3.1 rest s.3.3) refl

pub limits_reader : IsReader SpellsLimits limits_at
unfolding limits_at
limits_reader = record {
  found = λ end bytes l rest e.
      let a = bind_ok (byte_at end bytes) (λ flag. flagged_limits flag.0 end flag.1) (l, rest) e in
      limits_found end a.0.0 bytes a.0.1 l rest (byte_reader.found end bytes a.0.0 a.0.1 a.1) a.2;
  again = λ end l text rest s. limits_again end l.min l.max text rest s;
}

-- ---- types of globals and tables

var_found : (place b : ℕ) (v : Bool) → var_of place b ≡ Ok v → b ≡ var_byte v
var_found place b v e =
    branch (eqb b 0) (Ok false) _ v (λ q f. eqb-true b 0 q ∙ ap var_byte (ok_is f)) (
    branch (eqb b 1) (Ok true) _ v (λ q f. eqb-true b 1 q ∙ ap var_byte (ok_is f)) (never _ v)) e

pub var_again : (place : ℕ) (v : Bool) → var_of place (var_byte v) ≡ Ok v
var_again place true = refl
var_again place false = refl

pub global_type_reader : IsReader SpellsGlobalType global_type_at
unfolding global_type_at
global_type_reader = record {
  found = λ end bytes t rest e.
      let a = bind_ok (val_type_at end bytes) (λ kind. byte_at end kind.1 >>= λ byte. var_of (end - length kind.1) byte.0 >>= λ var. Ok (record { kind = kind.0; var = var }, byte.1)) (t, rest) e in
      let b = bind_ok (byte_at end a.0.1) (λ byte. var_of (end - length a.0.1) byte.0 >>= λ var. Ok (record { kind = a.0.0; var = var }, byte.1)) (t, rest) a.2 in
      let c = bind_ok (var_of (end - length a.0.1) b.0.0) (λ var. Ok (record { kind = a.0.0; var = var }, b.0.1)) (t, rest) b.2 in
      let is : b.0.0 ≡ var_byte c.0 = var_found (end - length a.0.1) b.0.0 c.0 c.1 in
      subst (λ (p : GlobalType × List ℕ). Takes (SpellsGlobalType p.0) bytes p.1) (ok_is c.2)
      (Takes-then (val_type_reader.found end bytes a.0.0 a.0.1 a.1) (subst (λ (n : ℕ). Takes (SpellsByte n) a.0.1 b.0.1) is (byte_reader.found end a.0.1 b.0.0 b.0.1 b.1)));
  again = λ end t text rest s.
      let outer = regrouped s.0 s.1 text rest s.4 in
      rw (outer, val_type_reader.again end t.kind s.0 (s.1 ++ rest) s.2, s.3, var_again (end - length (var_byte t.var ∷ rest)) t.var) refl;
}

funcref_found : (place b : ℕ) (v : Bool) → funcref_of place b ≡ Ok v → b ≡ ref_byte v
funcref_found place b v e =
    branch (eqb b 0x70) (Ok true) _ v (λ q f. eqb-true b 0x70 q ∙ ap ref_byte (ok_is f)) (
    branch (eqb b 0x6f) (Ok false) _ v (λ q f. eqb-true b 0x6f q ∙ ap ref_byte (ok_is f)) (never _ v)) e

funcref_again : (place : ℕ) (v : Bool) → funcref_of place (ref_byte v) ≡ Ok v
funcref_again place true = refl
funcref_again place false = refl

pub table_type_reader : IsReader SpellsTableType table_type_at
unfolding table_type_at
table_type_reader = record {
  found = λ end bytes t rest e.
      let a = bind_ok (byte_at end bytes) (λ byte. funcref_of (end - length bytes) byte.0 >>= λ funcref. limits_at end byte.1 >>= λ limits. Ok (record { funcref = funcref; limits = limits.0 }, limits.1)) (t, rest) e in
      let b = bind_ok (funcref_of (end - length bytes) a.0.0) (λ funcref. limits_at end a.0.1 >>= λ limits. Ok (record { funcref = funcref; limits = limits.0 }, limits.1)) (t, rest) a.2 in
      let c = bind_ok (limits_at end a.0.1) (λ limits. Ok (record { funcref = b.0; limits = limits.0 }, limits.1)) (t, rest) b.2 in
      let is : a.0.0 ≡ ref_byte b.0 = funcref_found (end - length bytes) a.0.0 b.0 b.1 in
      subst (λ (p : TableType × List ℕ). Takes (SpellsTableType p.0) bytes p.1) (ok_is c.2)
      (Takes-then (subst (λ (n : ℕ). Takes (SpellsByte n) bytes a.0.1) is (byte_reader.found end bytes a.0.0 a.0.1 a.1)) (limits_reader.found end a.0.1 c.0.0 c.0.1 c.1));
  again = λ end t text rest s.
      let outer = regrouped s.0 s.1 text rest s.4 in
      rw (outer, s.2, funcref_again (end - length (ref_byte t.funcref ∷ s.1 ++ rest)) t.funcref, limits_reader.again end t.limits s.1 rest s.3) refl;
}

-- ---- imports

-- a tag, and a reader whose value is made into another
made_found : {A : Type 0} (Item : A → List ℕ → Type 0) (read : Read A) (make : A → ImportKind) (tag : ℕ) → IsReader Item read → ((x : A) (text : List ℕ) → Then (SpellsByte tag) (Item x) text → SpellsImportKind (make x) text)
    → (end byte : ℕ) (bytes mid : List ℕ) (k : ImportKind) (rest : List ℕ) → Takes (SpellsByte byte) bytes mid → eqb byte tag ≡ true → (let f : A × List ℕ → Result (ImportKind × List ℕ) Stop = λ x. Ok (make x.0, x.1) in (read end mid >>= f) ≡ Ok (k, rest)) → Takes (SpellsImportKind k) bytes rest
made_found Item read make tag reader is end byte bytes mid k rest front q e =
    let a = bind_ok (read end mid) (λ x. Ok (make x.0, x.1)) (k, rest) e in
    let t = tagged byte tag bytes mid a.0.1 q front (reader.found end mid a.0.0 a.0.1 a.1) in
    subst (λ (p : ImportKind × List ℕ). Takes (SpellsImportKind p.0) bytes p.1) (ok_is a.2) (record { text = t.text; spells = is a.0.0 t.text t.spells; parts = t.parts })

import_kind_found : (place end byte : ℕ) (bytes mid : List ℕ) (k : ImportKind) (rest : List ℕ) → Takes (SpellsByte byte) bytes mid → tagged_import byte place end mid ≡ Ok (k, rest) → Takes (SpellsImportKind k) bytes rest
import_kind_found place end byte bytes mid k rest front e =
    branch (eqb byte 0) (function_import_at end mid) _ (k, rest) (λ q f. made_found _ u32_at kinds.Function 0 u32_reader (λ x t s. s) end byte bytes mid k rest front q f) (
    branch (eqb byte 1) (table_import_at end mid) _ (k, rest) (λ q f. made_found _ table_type_at kinds.Table 1 table_type_reader (λ x t s. s) end byte bytes mid k rest front q f) (
    branch (eqb byte 2) (memory_import_at end mid) _ (k, rest) (λ q f. made_found _ limits_at kinds.Memory 2 limits_reader (λ x t s. s) end byte bytes mid k rest front q f) (
    branch (eqb byte 3) (global_import_at end mid) _ (k, rest) (λ q f. made_found _ global_type_at kinds.GlobalVar 3 global_type_reader (λ x t s. s) end byte bytes mid k rest front q f) (
    branch (eqb byte 4) (Err (Foreign items.TagImport)) (Err (Broken place)) (k, rest) (λ q f. never _ (k, rest) f) (never _ (k, rest)))))) e

import_kind_again : (end : ℕ) (k : ImportKind) (text rest : List ℕ) → SpellsImportKind k text → import_kind_at end (text ++ rest) ≡ Ok (k, rest)
unfolding import_kind_at
import_kind_again end (kinds.Function index) text rest s = rw (regrouped s.0 s.1 text rest s.4, s.2, u32_reader.again end index s.1 rest s.3) refl
import_kind_again end (kinds.Table t) text rest s = rw (regrouped s.0 s.1 text rest s.4, s.2, table_type_reader.again end t s.1 rest s.3) refl
import_kind_again end (kinds.Memory l) text rest s = rw (regrouped s.0 s.1 text rest s.4, s.2, limits_reader.again end l s.1 rest s.3) refl
import_kind_again end (kinds.GlobalVar t) text rest s = rw (regrouped s.0 s.1 text rest s.4, s.2, global_type_reader.again end t s.1 rest s.3) refl

pub import_kind_reader : IsReader SpellsImportKind import_kind_at
unfolding import_kind_at
import_kind_reader = record {
  found = λ end bytes k rest e.
      let a = bind_ok (byte_at end bytes) (λ tag. tagged_import tag.0 (end - length bytes) end tag.1) (k, rest) e in
      import_kind_found (end - length bytes) end a.0.0 bytes a.0.1 k rest (byte_reader.found end bytes a.0.0 a.0.1 a.1) a.2;
  again = import_kind_again;
}

pub import_reader : IsReader SpellsImport import_at
unfolding import_at
import_reader = record {
  found = λ end bytes i rest e.
      let a = bind_ok (name_at end bytes) (λ m. name_at end m.1 >>= λ field. import_kind_at end field.1 >>= λ kind. Ok (record { «module» = m.0; field = field.0; kind = kind.0 }, kind.1)) (i, rest) e in
      let b = bind_ok (name_at end a.0.1) (λ field. import_kind_at end field.1 >>= λ kind. Ok (record { «module» = a.0.0; field = field.0; kind = kind.0 }, kind.1)) (i, rest) a.2 in
      let c = bind_ok (import_kind_at end b.0.1) (λ kind. Ok (record { «module» = a.0.0; field = b.0.0; kind = kind.0 }, kind.1)) (i, rest) b.2 in
      subst (λ (p : Import × List ℕ). Takes (SpellsImport p.0) bytes p.1) (ok_is c.2)
      (Takes-then (name_reader.found end bytes a.0.0 a.0.1 a.1) (Takes-then (name_reader.found end a.0.1 b.0.0 b.0.1 b.1) (import_kind_reader.found end b.0.1 c.0.0 c.0.1 c.1)));
  again = λ end i text rest s.
      let outer = regrouped s.0 s.1 text rest s.4 in
      let inner = regrouped s.3.0 s.3.1 s.1 rest s.3.4 in
      rw (outer, name_reader.again end i.«module» s.0 (s.1 ++ rest) s.2, inner, name_reader.again end i.field s.3.0 (s.3.1 ++ rest) s.3.2, import_kind_reader.again end i.kind s.3.1 rest s.3.3) refl;
}

-- ---- constant expressions

closed_found : (end : ℕ) (bytes rest : List ℕ) → closed_at end bytes ≡ Ok rest → Takes (SpellsByte 0x0b) bytes rest
closed_found end [] rest e = never _ rest e
closed_found end (b ∷ bytes) rest e =
    branch (eqb b 0x0b) (Ok bytes) _ rest (λ q f. record { text = 0x0b ∷ []; spells = refl; parts = rw (eqb-true b 0x0b q, ok_is f) refl }) (never _ rest) e

const_expr_found : (end byte : ℕ) (bytes mid : List ℕ) (x : ConstExpr) (rest : List ℕ) → Takes (SpellsByte byte) bytes mid → opened_expr byte end mid ≡ Ok (x, rest) → Takes (SpellsConstExpr x) bytes rest
const_expr_found end byte bytes mid x rest front e =
    branch (eqb byte 0x41) (i32_expr_at end mid) _ (x, rest) (λ q f.
    let a = bind_ok (s32_at end mid) (λ n. closed_at end n.1 >>= λ r. Ok (exprs.I32 n.0, r)) (x, rest) f in
    let b = bind_ok (closed_at end a.0.1) (λ r. Ok (exprs.I32 a.0.0, r)) (x, rest) a.2 in
    subst (λ (p : ConstExpr × List ℕ). Takes (SpellsConstExpr p.0) bytes p.1) (ok_is b.2)
    (tagged byte 0x41 bytes mid b.0 q front (Takes-then (s32_reader.found end mid a.0.0 a.0.1 a.1) (closed_found end a.0.1 b.0 b.1)))) (
    branch (eqb byte 0x42) (i64_expr_at end mid) _ (x, rest) (λ q f.
    let a = bind_ok (s64_at end mid) (λ n. closed_at end n.1 >>= λ r. Ok (exprs.I64 n.0, r)) (x, rest) f in
    let b = bind_ok (closed_at end a.0.1) (λ r. Ok (exprs.I64 a.0.0, r)) (x, rest) a.2 in
    subst (λ (p : ConstExpr × List ℕ). Takes (SpellsConstExpr p.0) bytes p.1) (ok_is b.2)
    (tagged byte 0x42 bytes mid b.0 q front (Takes-then (s64_reader.found end mid a.0.0 a.0.1 a.1) (closed_found end a.0.1 b.0 b.1)))) (
    never _ (x, rest))) e

const_expr_again : (end : ℕ) (x : ConstExpr) (text rest : List ℕ) → SpellsConstExpr x text → const_expr_at end (text ++ rest) ≡ Ok (x, rest)
unfolding const_expr_at
const_expr_again end (exprs.I32 n) text rest s =
    let inner = regrouped s.3.0 s.3.1 s.1 rest s.3.4 in
    rw (regrouped s.0 s.1 text rest s.4, s.2, inner, s32_reader.again end n s.3.0 (s.3.1 ++ rest) s.3.2, s.3.3) refl
const_expr_again end (exprs.I64 n) text rest s =
    let inner = regrouped s.3.0 s.3.1 s.1 rest s.3.4 in
    rw (regrouped s.0 s.1 text rest s.4, s.2, inner, s64_reader.again end n s.3.0 (s.3.1 ++ rest) s.3.2, s.3.3) refl
const_expr_again end (exprs.Get index) text rest s = absurd s

pub const_expr_reader : IsReader SpellsConstExpr const_expr_at
unfolding const_expr_at
const_expr_reader = record {
  found = λ end bytes x rest e.
      let a = bind_ok (byte_at end bytes) (λ opcode. opened_expr opcode.0 end opcode.1) (x, rest) e in
      const_expr_found end a.0.0 bytes a.0.1 x rest (byte_reader.found end bytes a.0.0 a.0.1 a.1) a.2;
  again = const_expr_again;
}

-- what is read of an expression is an expression
const_is_expr : (x : ConstExpr) (text : List ℕ) → SpellsConstExpr x text → SpellsExpr x text
const_is_expr (exprs.I32 n) text s = s
const_is_expr (exprs.I64 n) text s = s
const_is_expr (exprs.Get index) text s = absurd s

expr_is_const : (x : ConstExpr) (text other : List ℕ) → SpellsConstExpr x other → SpellsExpr x text → SpellsConstExpr x text
expr_is_const (exprs.I32 n) text other some s = s
expr_is_const (exprs.I64 n) text other some s = s
expr_is_const (exprs.Get index) text other some s = absurd some

-- an expression that is written is written so that it is read, where it can be read at all
pub const_expr_written : (x : ConstExpr) (old new : List ℕ) → Appends (SpellsExpr x) old new → Writes (SpellsConstExpr x) old new
const_expr_written x old new a = λ some s. record {
  text = a.text;
  spells = expr_is_const x a.text some s a.spells;
  parts = a.parts;
  least = λ other o. a.least other (const_is_expr x other o);
}

-- ---- faults

-- a fault with its place taken away
pub plainly_fails : {X Y : Type 0} (view : X → Y) (e : ReadFault) (read : Result Y Stop) → Fails e read → GivesPlainly view (Err (form_fault e)) read
plainly_fails view (Stopped (Broken place)) read f = (place, f)
plainly_fails view (Stopped (Foreign item)) read f = f
plainly_fails view OutOfMemory read f = tt
