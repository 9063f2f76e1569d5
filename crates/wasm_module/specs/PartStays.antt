-- A foreign item in a part of a module stays the answer, whatever bytes follow.
use Rattle.std.proofs.Common.{◌≡◌, ℕ, ◌-◌, Bool, true, false, cond, eqb, List, [], ◌∷◌, ◌++◌, length, Result, Ok, Err, refl}
use Rattle.std.specs.Prelude.{nat_le}
use Rattle.wasm_instr.specs.wl_base.declared.item.Item.TheVariants as items
use Rattle.wasm_instr.specs.wasm_grammar.declared.fault.Stop.{Stop}
use Rattle.wasm_instr.specs.wasm_grammar.declared.fault.Stop.TheVariants.{Broken, Foreign}
use Rattle.wasm_instr.specs.wasm_grammar.Grammar.{SpellsByte, SpellsU32, SpellsName, SpellsBytes, SpellsVector}
use Rattle.wasm_instr.specs.wasm_grammar.Reading.{◌>>=◌, byte_at, u32_at, name_at, bytes_at, vector_at}
use Rattle.wasm_instr.specs.wasm_grammar.ReaderLaws.{byte_reader, u32_reader, name_reader, bytes_reader, vector_reader}
use Rattle.wasm_instr.specs.wasm_grammar.Stays.{Stays, IsSteady, bind_stays, step_stays, cond_stays, tag_stays, never_stays, byte_stays, u32_stays, bytes_stay, name_stays, vector_stays}
use Rattle.wasm_instr.specs.wasm_types.Types.{SpellsGlobalType, closed_at, const_expr_at, global_type_at}
use Rattle.wasm_instr.specs.wasm_types.TypeLaws.{global_type_reader}
use Rattle.wasm_instr.specs.wasm_types.Stays.{const_expr_stays, global_type_stays}
use Rattle.wasm_module.specs.Parts.{SpellsInit}
use Rattle.wasm_module.specs.PartReading.{get_expr_at, init_at, global_at, export_kind, export_at, first_table_at, named_table_at, element_at, first_memory_at, named_memory_at, data_segment_at}
use Rattle.wasm_module.specs.PartLaws.{no_get, init_reader}

-- ---- constant expressions

closed_stays : {B : Type 0} (end other : ℕ) (bytes more : List ℕ) (f g : List ℕ → Result B Stop) → ((rest : List ℕ) → Stays (f rest) (g (rest ++ more))) → Stays (closed_at end bytes >>= f) (closed_at other (bytes ++ more) >>= g)
closed_stays end other [] more f g second = tt
closed_stays {B} end other (b ∷ bytes) more f g second = by_case (eqb b 0x0b)
  where
    by_case : (q : Bool) → Stays (cond q (Ok bytes) (Err (Foreign (items.ConstExpr b))) >>= f) (cond q (Ok (bytes ++ more)) (Err (Foreign (items.ConstExpr b))) >>= g)
    by_case true = second bytes
    by_case false = refl

pub init_stays : (get : Bool) → IsSteady (init_at get)
unfolding init_at const_expr_at
init_stays false end other bytes more = rw (no_get end bytes, no_get other (bytes ++ more)) (const_expr_stays end other bytes more)
init_stays true end other [] more = tt
init_stays true end other (b ∷ bytes) more =
    cond_stays (eqb b 0x23) (get_expr_at end bytes) (const_expr_at end (b ∷ bytes)) (get_expr_at other (bytes ++ more)) (const_expr_at other (b ∷ bytes ++ more))
    (bind_stays _ u32_at u32_reader u32_stays end other bytes more _ _ (λ index r. closed_stays end other r more _ _ (λ s. tt)))
    (const_expr_stays end other (b ∷ bytes) more)

-- ---- globals and exports

pub global_stays : (get : Bool) → IsSteady (global_at get)
unfolding global_at
global_stays get end other bytes more =
    bind_stays SpellsGlobalType global_type_at global_type_reader global_type_stays end other bytes more _ _ (λ kind r.
    bind_stays (SpellsInit get) (init_at get) (init_reader get) (init_stays get) end other r more _ _ (λ value s. tt))

kind_same : (place other byte kind : ℕ) → export_kind place byte ≡ Ok kind → export_kind other byte ≡ Ok kind
kind_same place other byte kind = by_case (nat_le byte 3)
  where
    by_case : (q : Bool) → (let r : Result ℕ Stop = cond q (Ok byte) (Err (Broken place)) in let s : Result ℕ Stop = cond q (Ok byte) (Err (Broken other)) in r ≡ Ok kind → s ≡ Ok kind)
    by_case true e = e
    by_case false e = absurd cc

pub export_stays : IsSteady export_at
unfolding export_at
export_stays end other bytes more =
    bind_stays SpellsName name_at name_reader name_stays end other bytes more _ _ (λ name r.
    bind_stays SpellsByte byte_at byte_reader byte_stays end other r more _ _ (λ byte s.
    step_stays (export_kind (end - length r) byte) (export_kind (other - length (r ++ more)) byte) _ _ (never_stays (nat_le byte 3) byte (end - length r) (export_kind (other - length (r ++ more)) byte)) (kind_same (end - length r) (other - length (r ++ more)) byte) (λ kind.
    bind_stays _ u32_at u32_reader u32_stays end other s more _ _ (λ index t. tt))))

-- ---- segments

functions_stay : IsSteady (vector_at u32_at)
functions_stay = vector_stays SpellsU32 u32_at u32_reader u32_stays

first_table_stays : (get : Bool) → IsSteady (first_table_at get)
first_table_stays get end other bytes more =
    bind_stays (SpellsInit get) (init_at get) (init_reader get) (init_stays get) end other bytes more _ _ (λ offset r.
    bind_stays (SpellsVector SpellsU32) (vector_at u32_at) (vector_reader SpellsU32 u32_at u32_reader) functions_stay end other r more _ _ (λ functions s. tt))

named_table_stays : (get : Bool) → IsSteady (named_table_at get)
named_table_stays get end other bytes more =
    bind_stays _ u32_at u32_reader u32_stays end other bytes more _ _ (λ table q.
    bind_stays (SpellsInit get) (init_at get) (init_reader get) (init_stays get) end other q more _ _ (λ offset r.
    tag_stays 0 end other r more _ _ (λ s.
    bind_stays (SpellsVector SpellsU32) (vector_at u32_at) (vector_reader SpellsU32 u32_at u32_reader) functions_stay end other s more _ _ (λ functions t. tt))))

pub element_stays : (get : Bool) → IsSteady (element_at get)
unfolding element_at
element_stays get end other bytes more =
    bind_stays _ u32_at u32_reader u32_stays end other bytes more _ _ (λ flag r.
    cond_stays (eqb flag 0) (first_table_at get end r) _ (first_table_at get other (r ++ more)) _ (first_table_stays get end other r more) (
    cond_stays (eqb flag 2) (named_table_at get end r) (Err (Foreign (items.SegmentForm flag))) (named_table_at get other (r ++ more)) (Err (Foreign (items.SegmentForm flag))) (named_table_stays get end other r more) refl))

first_memory_stays : (get : Bool) → IsSteady (first_memory_at get)
first_memory_stays get end other bytes more =
    bind_stays (SpellsInit get) (init_at get) (init_reader get) (init_stays get) end other bytes more _ _ (λ offset r.
    bind_stays SpellsBytes bytes_at bytes_reader bytes_stay end other r more _ _ (λ content s. tt))

named_memory_stays : (get : Bool) → IsSteady (named_memory_at get)
named_memory_stays get end other bytes more =
    bind_stays _ u32_at u32_reader u32_stays end other bytes more _ _ (λ memory q.
    bind_stays (SpellsInit get) (init_at get) (init_reader get) (init_stays get) end other q more _ _ (λ offset r.
    bind_stays SpellsBytes bytes_at bytes_reader bytes_stay end other r more _ _ (λ content s. tt)))

pub data_segment_stays : (get : Bool) → IsSteady (data_segment_at get)
unfolding data_segment_at
data_segment_stays get end other bytes more =
    bind_stays _ u32_at u32_reader u32_stays end other bytes more _ _ (λ flag r.
    cond_stays (eqb flag 0) (first_memory_at get end r) _ (first_memory_at get other (r ++ more)) _ (first_memory_stays get end other r more) (
    cond_stays (eqb flag 2) (named_memory_at get end r) _ (named_memory_at get other (r ++ more)) _ (named_memory_stays get end other r more) (
    cond_stays (eqb flag 1) (Err (Foreign items.PassiveSegment)) (Err (Foreign (items.SegmentForm flag))) (Err (Foreign items.PassiveSegment)) (Err (Foreign (items.SegmentForm flag))) refl refl)))
