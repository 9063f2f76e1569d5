-- What is read of the parts is spelled so, and what is spelled so is read.
use Rattle.std.proofs.Common.{◌≡◌, ℕ, ◌-◌, Bool, true, false, eqb, List, [], ◌∷◌, ◌++◌, length, Ok, Err, Option, Some, None, refl, sym, subst, ◌∙◌}
use Rattle.std.specs.Prelude.{nat_le}
use Rattle.std.proofs.lemmas.Bool.{eqb-true, leb-true, le-leb}
use Rattle.wasm_instr.specs.wl_base.declared.item.Item.TheVariants as items
use Rattle.wasm_instr.specs.wasm_grammar.declared.fault.Stop.TheVariants.{Broken, Foreign}
use Rattle.wasm_instr.specs.wasm_grammar.Grammar.{SpellsByte, SpellsU32, SpellsVector}
use Rattle.wasm_instr.specs.wasm_grammar.Readers.{Takes, IsReader}
use Rattle.wasm_instr.specs.wasm_grammar.Reading.{byte_at, tag_at, u32_at, name_at, bytes_at, vector_at}
use Rattle.wasm_instr.specs.wasm_grammar.ReaderLaws.{bind_ok, ok_is, cond_ok, byte_reader, u32_reader, name_reader, bytes_reader, vector_reader, tag_found, tag_again, Takes-then, regrouped, branch, never}
use Rattle.wasm_instr.specs.wasm_types.declared.const_expr.ConstExpr.{ConstExpr}
use Rattle.wasm_instr.specs.wasm_types.declared.const_expr.ConstExpr.TheVariants as exprs
use Rattle.wasm_instr.specs.wasm_types.Types.{SpellsExpr, SpellsConstExpr, closed_at, const_expr_at, global_type_at}
use Rattle.wasm_instr.specs.wasm_types.TypeLaws.{const_expr_reader, global_type_reader}
use Rattle.wasm_module.specs.declared.parts.ModuleGlobal.{ModuleGlobal}
use Rattle.wasm_module.specs.declared.parts.Export.{Export}
use Rattle.wasm_module.specs.declared.parts.Element.{Element}
use Rattle.wasm_module.specs.declared.parts.DataSegment.{DataSegment}
use Rattle.wasm_module.specs.Parts.{SpellsInit, SpellsGlobal, SpellsExportKind, SpellsExport, SpellsFunctions, SpellsElement, SpellsData, SpellsDataSegment}
use Rattle.wasm_module.specs.PartReading.{get_expr_at, init_at, global_at, export_kind, export_at, first_table_at, named_table_at, flagged_element, element_at, first_memory_at, named_memory_at, flagged_data, data_segment_at}

-- ---- constant expressions

closed_found : (end : ℕ) (bytes rest : List ℕ) → closed_at end bytes ≡ Ok rest → Takes (SpellsByte 0x0b) bytes rest
closed_found end [] rest e = never _ rest e
closed_found end (b ∷ bytes) rest e =
    branch (eqb b 0x0b) (Ok bytes) _ rest (λ q f. record { text = 0x0b ∷ []; spells = refl; parts = rw (eqb-true b 0x0b q, ok_is f) refl }) (never _ rest) e

get_found : (end : ℕ) (bytes : List ℕ) (x : ConstExpr) (rest : List ℕ) → get_expr_at end bytes ≡ Ok (x, rest) → Takes (SpellsExpr x) (0x23 ∷ bytes) rest
get_found end bytes x rest e =
    let a = bind_ok (u32_at end bytes) _ (x, rest) e in
    let b = bind_ok (closed_at end a.0.1) _ (x, rest) a.2 in
    subst (λ (p : ConstExpr × List ℕ). Takes (SpellsExpr p.0) (0x23 ∷ bytes) p.1) (ok_is b.2)
    (Takes-then (record { text = 0x23 ∷ []; spells = refl; parts = refl }) (Takes-then (u32_reader.found end bytes a.0.0 a.0.1 a.1) (closed_found end a.0.1 b.0 b.1)))

-- a number's expression is an expression
number_is_expr : (x : ConstExpr) (text : List ℕ) → SpellsConstExpr x text → SpellsExpr x text
number_is_expr (exprs.I32 n) text s = s
number_is_expr (exprs.I64 n) text s = s
number_is_expr (exprs.Get index) text s = absurd s

number_found : (end : ℕ) (bytes : List ℕ) (x : ConstExpr) (rest : List ℕ) → const_expr_at end bytes ≡ Ok (x, rest) → Takes (SpellsExpr x) bytes rest
number_found end bytes x rest e = let t = const_expr_reader.found end bytes x rest e in record { text = t.text; spells = number_is_expr x t.text t.spells; parts = t.parts }

-- where a global.get is foreign, the expressions are those of an object
pub no_get : (end : ℕ) (bytes : List ℕ) → init_at false end bytes ≡ const_expr_at end bytes
unfolding init_at
no_get end [] = refl
no_get end (b ∷ bytes) = refl

init_found : (get : Bool) (end : ℕ) (bytes : List ℕ) (x : ConstExpr) (rest : List ℕ) → init_at get end bytes ≡ Ok (x, rest) → Takes (SpellsInit get x) bytes rest
unfolding init_at
init_found false end bytes x rest e = const_expr_reader.found end bytes x rest (sym (no_get end bytes) ∙ e)
init_found true end [] x rest e = number_found end [] x rest e
init_found true end (b ∷ bytes) x rest e =
    branch (eqb b 0x23) (get_expr_at end bytes) (const_expr_at end (b ∷ bytes)) (x, rest) (λ q f.
    subst (λ (n : ℕ). Takes (SpellsExpr x) (n ∷ bytes) rest) (sym (eqb-true b 0x23 q)) (get_found end bytes x rest f)) (number_found end (b ∷ bytes) x rest) e

-- the first byte of a number's expression is no global.get
number_again : (end byte : ℕ) (x : ConstExpr) (rest more : List ℕ) → eqb byte 0x23 ≡ false → const_expr_at end (byte ∷ rest) ≡ Ok (x, more) → init_at true end (byte ∷ rest) ≡ Ok (x, more)
unfolding init_at
number_again end byte x rest more q e = rw q e

init_again : (get : Bool) (end : ℕ) (x : ConstExpr) (text rest : List ℕ) → SpellsInit get x text → init_at get end (text ++ rest) ≡ Ok (x, rest)
unfolding init_at
init_again false end x text rest s = no_get end (text ++ rest) ∙ const_expr_reader.again end x text rest s
init_again true end (exprs.I32 n) text rest s =
    let read : const_expr_at end (0x41 ∷ s.1 ++ rest) ≡ Ok (exprs.I32 n, rest) = const_expr_reader.again end (exprs.I32 n) (0x41 ∷ s.1) rest (0x41 ∷ [], s.1, refl, s.3, refl) in
    rw (s.4, s.2) (number_again end 0x41 (exprs.I32 n) (s.1 ++ rest) rest refl read)
init_again true end (exprs.I64 n) text rest s =
    let read : const_expr_at end (0x42 ∷ s.1 ++ rest) ≡ Ok (exprs.I64 n, rest) = const_expr_reader.again end (exprs.I64 n) (0x42 ∷ s.1) rest (0x42 ∷ [], s.1, refl, s.3, refl) in
    rw (s.4, s.2) (number_again end 0x42 (exprs.I64 n) (s.1 ++ rest) rest refl read)
init_again true end (exprs.Get index) text rest s =
    let inner = regrouped s.3.0 s.3.1 s.1 rest s.3.4 in
    rw (regrouped s.0 s.1 text rest s.4, s.2, inner, u32_reader.again end index s.3.0 (s.3.1 ++ rest) s.3.2, s.3.3) refl

pub init_reader : (get : Bool) → IsReader (SpellsInit get) (init_at get)
init_reader get = record { found = init_found get; again = init_again get }

-- ---- globals and exports

pub global_reader : (get : Bool) → IsReader (SpellsGlobal get) (global_at get)
unfolding global_at
global_reader get = record {
  found = λ end bytes g rest e.
      let a = bind_ok (global_type_at end bytes) _ (g, rest) e in
      let b = bind_ok (init_at get end a.0.1) _ (g, rest) a.2 in
      subst (λ (p : ModuleGlobal × List ℕ). Takes (SpellsGlobal get p.0) bytes p.1) (ok_is b.2)
      (Takes-then (global_type_reader.found end bytes a.0.0 a.0.1 a.1) (init_found get end a.0.1 b.0.0 b.0.1 b.1));
  again = λ end g text rest s.
      rw (regrouped s.0 s.1 text rest s.4, global_type_reader.again end g.kind s.0 (s.1 ++ rest) s.2, init_again get end g.value s.1 rest s.3) refl;
}

pub export_reader : IsReader SpellsExport export_at
unfolding export_at
export_reader = record {
  found = λ end bytes x rest e.
      let a = bind_ok (name_at end bytes) _ (x, rest) e in
      let b = bind_ok (byte_at end a.0.1) _ (x, rest) a.2 in
      let c = bind_ok (export_kind (end - length a.0.1) b.0.0) _ (x, rest) b.2 in
      let d = bind_ok (u32_at end b.0.1) _ (x, rest) c.2 in
      let both = cond_ok (nat_le b.0.0 3) (Broken (end - length a.0.1)) b.0.0 c.0 c.1 in
      let byte = byte_reader.found end a.0.1 b.0.0 b.0.1 b.1 in
      let kind : Takes (SpellsExportKind b.0.0) a.0.1 b.0.1 = record { text = byte.text; spells = (leb-true b.0.0 3 both.0, byte.spells); parts = byte.parts } in
      subst (λ (p : Export × List ℕ). Takes (SpellsExport p.0) bytes p.1) (ok_is d.2)
      (Takes-then (name_reader.found end bytes a.0.0 a.0.1 a.1)
      (Takes-then (subst (λ (k : ℕ). Takes (SpellsExportKind k) a.0.1 b.0.1) both.1 kind) (u32_reader.found end b.0.1 d.0.0 d.0.1 d.1)));
  again = λ end x text rest s.
      let inner = s.3 in
      rw (regrouped s.0 s.1 text rest s.4, name_reader.again end x.name s.0 (s.1 ++ rest) s.2, regrouped inner.0 inner.1 s.1 rest inner.4, inner.2.1, le-leb x.kind 3 inner.2.0, u32_reader.again end x.index inner.1 rest inner.3) refl;
}

-- ---- element segments

-- the flag is this number
is_flag : (flag n : ℕ) (bytes mid : List ℕ) → eqb flag n ≡ true → Takes (SpellsU32 flag) bytes mid → Takes (SpellsU32 n) bytes mid
is_flag flag n bytes mid q front = subst (λ (k : ℕ). Takes (SpellsU32 k) bytes mid) (eqb-true flag n q) front

functions_reader : IsReader (SpellsVector SpellsU32) (vector_at u32_at)
functions_reader = vector_reader SpellsU32 u32_at u32_reader

element_found : (get : Bool) (end flag : ℕ) (bytes mid : List ℕ) (x : Element) (rest : List ℕ) → Takes (SpellsU32 flag) bytes mid → flagged_element get flag end mid ≡ Ok (x, rest) → Takes (SpellsElement get x) bytes rest
element_found get end flag bytes mid x rest front e =
    branch (eqb flag 0) (first_table_at get end mid) _ (x, rest) (λ q f.
    let a = bind_ok (init_at get end mid) _ (x, rest) f in
    let b = bind_ok (vector_at u32_at end a.0.1) _ (x, rest) a.2 in
    subst (λ (p : Element × List ℕ). Takes (SpellsElement get p.0) bytes p.1) (ok_is b.2)
    (Takes-then (is_flag flag 0 bytes mid q front) (Takes-then (init_found get end mid a.0.0 a.0.1 a.1) (functions_reader.found end a.0.1 b.0.0 b.0.1 b.1)))) (
    branch (eqb flag 2) (named_table_at get end mid) _ (x, rest) (λ q f.
    let a = bind_ok (u32_at end mid) _ (x, rest) f in
    let b = bind_ok (init_at get end a.0.1) _ (x, rest) a.2 in
    let c = bind_ok (tag_at 0 end b.0.1) _ (x, rest) b.2 in
    let d = bind_ok (vector_at u32_at end c.0) _ (x, rest) c.2 in
    subst (λ (p : Element × List ℕ). Takes (SpellsElement get p.0) bytes p.1) (ok_is d.2)
    (Takes-then (is_flag flag 2 bytes mid q front) (Takes-then (u32_reader.found end mid a.0.0 a.0.1 a.1) (Takes-then (init_found get end a.0.1 b.0.0 b.0.1 b.1)
    (Takes-then (tag_found 0 end b.0.1 c.0 c.1) (functions_reader.found end c.0 d.0.0 d.0.1 d.1)))))) (
    never _ (x, rest))) e

functions_again : (get : Bool) (end : ℕ) (table : Option ℕ) (offset : ConstExpr) (functions text rest : List ℕ) → SpellsFunctions get table offset functions text
    → element_at get end (text ++ rest) ≡ Ok (record { table = table; offset = offset; functions = functions }, rest)
unfolding element_at
functions_again get end None offset functions text rest s =
    let inner = s.3 in
    rw (regrouped s.0 s.1 text rest s.4, u32_reader.again end 0 s.0 (s.1 ++ rest) s.2, regrouped inner.0 inner.1 s.1 rest inner.4, init_again get end offset inner.0 (inner.1 ++ rest) inner.2, functions_reader.again end functions inner.1 rest inner.3) refl
functions_again get end (Some table) offset functions text rest s =
    let a = s.3 in
    let b = a.3 in
    let c = b.3 in
    rw (
      regrouped s.0 s.1 text rest s.4,
      u32_reader.again end 2 s.0 (s.1 ++ rest) s.2,
      regrouped a.0 a.1 s.1 rest a.4,
      u32_reader.again end table a.0 (a.1 ++ rest) a.2,
      regrouped b.0 b.1 a.1 rest b.4,
      init_again get end offset b.0 (b.1 ++ rest) b.2,
      regrouped c.0 c.1 b.1 rest c.4,
      tag_again 0 end c.0 (c.1 ++ rest) c.2,
      functions_reader.again end functions c.1 rest c.3,
    ) refl

pub element_reader : (get : Bool) → IsReader (SpellsElement get) (element_at get)
unfolding element_at
element_reader get = record {
  found = λ end bytes x rest e.
      let a = bind_ok (u32_at end bytes) _ (x, rest) e in
      element_found get end a.0.0 bytes a.0.1 x rest (u32_reader.found end bytes a.0.0 a.0.1 a.1) a.2;
  again = λ end x text rest s. functions_again get end x.table x.offset x.functions text rest s;
}

-- ---- data segments

data_found : (get : Bool) (end flag : ℕ) (bytes mid : List ℕ) (x : DataSegment) (rest : List ℕ) → Takes (SpellsU32 flag) bytes mid → flagged_data get flag end mid ≡ Ok (x, rest) → Takes (SpellsDataSegment get x) bytes rest
data_found get end flag bytes mid x rest front e =
    branch (eqb flag 0) (first_memory_at get end mid) _ (x, rest) (λ q f.
    let a = bind_ok (init_at get end mid) _ (x, rest) f in
    let b = bind_ok (bytes_at end a.0.1) _ (x, rest) a.2 in
    subst (λ (p : DataSegment × List ℕ). Takes (SpellsDataSegment get p.0) bytes p.1) (ok_is b.2)
    (Takes-then (is_flag flag 0 bytes mid q front) (Takes-then (init_found get end mid a.0.0 a.0.1 a.1) (bytes_reader.found end a.0.1 b.0.0 b.0.1 b.1)))) (
    branch (eqb flag 2) (named_memory_at get end mid) _ (x, rest) (λ q f.
    let a = bind_ok (u32_at end mid) _ (x, rest) f in
    let b = bind_ok (init_at get end a.0.1) _ (x, rest) a.2 in
    let c = bind_ok (bytes_at end b.0.1) _ (x, rest) b.2 in
    subst (λ (p : DataSegment × List ℕ). Takes (SpellsDataSegment get p.0) bytes p.1) (ok_is c.2)
    (Takes-then (is_flag flag 2 bytes mid q front) (Takes-then (u32_reader.found end mid a.0.0 a.0.1 a.1) (Takes-then (init_found get end a.0.1 b.0.0 b.0.1 b.1) (bytes_reader.found end b.0.1 c.0.0 c.0.1 c.1))))) (
    branch (eqb flag 1) (Err (Foreign items.PassiveSegment)) (Err (Foreign (items.SegmentForm flag))) (x, rest) (λ q f. never _ (x, rest) f) (never _ (x, rest)))) e

data_again : (get : Bool) (end : ℕ) (memory : Option ℕ) (offset : ConstExpr) (content text rest : List ℕ) → SpellsData get memory offset content text
    → data_segment_at get end (text ++ rest) ≡ Ok (record { memory = memory; offset = offset; bytes = content }, rest)
unfolding data_segment_at
data_again get end None offset content text rest s =
    let inner = s.3 in
    rw (regrouped s.0 s.1 text rest s.4, u32_reader.again end 0 s.0 (s.1 ++ rest) s.2, regrouped inner.0 inner.1 s.1 rest inner.4, init_again get end offset inner.0 (inner.1 ++ rest) inner.2, bytes_reader.again end content inner.1 rest inner.3) refl
data_again get end (Some memory) offset content text rest s =
    let a = s.3 in
    let b = a.3 in
    rw (
      regrouped s.0 s.1 text rest s.4,
      u32_reader.again end 2 s.0 (s.1 ++ rest) s.2,
      regrouped a.0 a.1 s.1 rest a.4,
      u32_reader.again end memory a.0 (a.1 ++ rest) a.2,
      regrouped b.0 b.1 a.1 rest b.4,
      init_again get end offset b.0 (b.1 ++ rest) b.2,
      bytes_reader.again end content b.1 rest b.3,
    ) refl

pub data_segment_reader : (get : Bool) → IsReader (SpellsDataSegment get) (data_segment_at get)
unfolding data_segment_at
data_segment_reader get = record {
  found = λ end bytes x rest e.
      let a = bind_ok (u32_at end bytes) _ (x, rest) e in
      data_found get end a.0.0 bytes a.0.1 x rest (u32_reader.found end bytes a.0.0 a.0.1 a.1) a.2;
  again = λ end x text rest s. data_again get end x.memory x.offset x.bytes text rest s;
}
