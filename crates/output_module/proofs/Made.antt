-- The bodies that the linker makes.
use Rattle.std.proofs.Common.{◌≡◌, ℕ, ◌<◌, false, List, [], ◌∷◌, ◌++◌, length, map, Some, refl, sym, ap, ◌∙◌, subst, arith, append_assoc}
use Rattle.std.specs.Prelude.{◌^◌, flat_map, position}
use Rattle.leb_codec.specs.Shortest.{u32_padded}
use Rattle.leb_codec.proofs.Computed.{u32_padded_spells}
use Rattle.list_places.specs.Has.{Has}
use Rattle.list_places.proofs.Lists.{has_map, position_below}
use Rattle.wasm_instr.specs.declared.instr.Instr.{Instr}
use Rattle.wasm_instr.specs.declared.instr.Instr.TheVariants as instrs
use Rattle.wasm_instr.specs.declared.body.Placed.{Placed}
use Rattle.wasm_instr.specs.declared.body.Body.{Body}
use Rattle.wasm_instr.specs.Classes.{class_of}
use Rattle.wasm_instr.specs.Placeless.{instrs_of}
use Rattle.wasm_instr.specs.Bodies.{SpellsLocals, SpellsBody, IsCode, placed}
use Rattle.wasm_module.specs.Modules.{placeless}
use Rattle.ctor_call.specs.Body.{call, ctor_body}
use Rattle.link_worlds.specs.link_rules.Program.{Program, Part, Ref, refs}
use Rattle.link_worlds.specs.link_rules.Keys.{function_number, ref_function, same_function}
use Rattle.link_worlds.specs.link_rules.Values.{Layout}
use Rattle.link_worlds.specs.Bodies.{linked_calls, unplaced}
use Rattle.std.proofs.Common.{inl, inr}

abbrev calls : List ℕ → List Instr
calls fs = map (λ f. instrs.Call f) fs ++ instrs.Plain 0x0B ∷ []

-- ---- code

pub ends : (end : ℕ) → (code : List Placed) × (instrs_of code ≡ instrs.Plain 0x0B ∷ []) × IsCode end (false ∷ []) code (0x0B ∷ [])
unfolding class_of
ends end = (placed end (instrs.Plain 0x0B) (0x0B ∷ []) [] [] ∷ [], refl, (0x0B ∷ [], [], [], [], refl, refl, refl, refl, refl, refl, (refl, refl)))

pub calls_code : (end : ℕ) (fs : List ℕ) → ((f : ℕ) → Has fs f → f < 2 ^ 32) → (code : List Placed) × (instrs_of code ≡ calls fs) × IsCode end (false ∷ []) code (flat_map call fs ++ 0x0B ∷ [])
calls_code end [] h = ends end
calls_code end (f ∷ fs) h =
    let r = calls_code end fs (λ g k. h g (inr k)) in
    let rest : List ℕ = flat_map call fs ++ 0x0B ∷ [] in
    let bytes : List ℕ = flat_map call (f ∷ fs) ++ 0x0B ∷ [] in
    let whole : bytes ≡ (0x10 ∷ []) ++ (u32_padded f ++ rest) = append_assoc (call f) (flat_map call fs) (0x0B ∷ []) in (
      placed end (instrs.Call f) bytes (u32_padded f ++ rest) rest ∷ r.0,
      ap (λ xs. instrs.Call f ∷ xs) r.1,
      (0x10 ∷ [], u32_padded f, rest, false ∷ [], whole, tt, refl, u32_padded_spells f (h f (inl refl)), refl, refl, r.2),
    )

-- ---- bodies

pub no_locals : SpellsLocals [] (0 ∷ [])
no_locals = (omega arith, (0 ∷ [], [], record { spelled = record { within = omega arith; ends = omega arith; tail = λ e. absurd (omega (arith, e)) }; value_is = refl }, refl, refl))

pub ctor_is : (fs : List ℕ) → ((f : ℕ) → Has fs f → f < 2 ^ 32) → (b : Body) × SpellsBody b (ctor_body fs) × (placeless b ≡ ([], calls fs))
unfolding ctor_body
ctor_is fs h =
    let r = calls_code (length (ctor_body fs)) fs h in
    (record { locals = []; code = r.0 }, (0 ∷ [], flat_map call fs ++ 0x0B ∷ [], refl, no_locals, r.2), ap (λ is. ([], is)) r.1)

pub stub_is : (b : Body) × SpellsBody b (0 ∷ 0 ∷ 0x0B ∷ []) × (placeless b ≡ ([], instrs.Plain 0x00 ∷ instrs.Plain 0x0B ∷ []))
unfolding class_of
stub_is =
    let r = ends 3 in (
      record { locals = []; code = placed 3 (instrs.Plain 0x00) (0x00 ∷ 0x0B ∷ []) (0x0B ∷ []) (0x0B ∷ []) ∷ r.0 },
      (0 ∷ [], 0x00 ∷ 0x0B ∷ [], refl, no_locals, (0x00 ∷ [], [], 0x0B ∷ [], false ∷ [], refl, refl, refl, refl, refl, refl, r.2)),
      ap (λ is. ([], instrs.Plain 0x00 ∷ is)) r.1,
    )

-- the body that calls what references name
calls_same : (p : Program) (l : Layout) (rs : List Ref) → instrs_of (map (λ ref. unplaced p l (instrs.Call (function_number l.numbers (ref_function ref)))) rs ++ unplaced p l (instrs.Plain 0x0B) ∷ [])
    ≡ calls (map (λ ref. function_number l.numbers (ref_function ref)) rs)
calls_same p l [] = refl
calls_same p l (r ∷ rs) = ap (λ is. instrs.Call (function_number l.numbers (ref_function r)) ∷ is) (calls_same p l rs)

pub calls_are : (p : Program) (l : Layout) (part : Part) → length l.numbers.functions < 2 ^ 32
    → (b : Body) × SpellsBody b (ctor_body (map (λ ref. function_number l.numbers (ref_function ref)) (refs part))) × (placeless b ≡ placeless (linked_calls p l (Some part)))
calls_are p l part few =
    let number = λ (ref : Ref). function_number l.numbers (ref_function ref) in
    let small = λ (ref : Ref). position_below (same_function (ref_function ref)) l.numbers.functions (position (same_function (ref_function ref)) l.numbers.functions) refl (2 ^ 32) few in
    let r = ctor_is (map number (refs part)) (λ f h. let m = has_map number (refs part) f h in subst (λ n. n < 2 ^ 32) m.2 (small m.0)) in
    (r.0, r.1, r.2 ∙ ap (λ is. ([], is)) (sym (calls_same p l (refs part))))
