-- The bytes of the function that makes addresses right spell its body.
use Rattle.std.proofs.Common.{◌≡◌, ℕ, false, List, [], ◌∷◌, ◌++◌, length, map, Some, refl, sym, ap, ◌∙◌, subst, inl, inr, arith, append_assoc}
use Rattle.std.specs.Prelude.{flat_map}
use Rattle.leb_codec.specs.Shortest.{u32_padded, s32_padded}
use Rattle.leb_codec.proofs.Computed.{u32_padded_spells, s32_padded_spelled}
use Rattle.list_places.specs.Has.{Has}
use Rattle.wasm_instr.specs.declared.instr.Instr.{Instr}
use Rattle.wasm_instr.specs.declared.instr.Instr.TheVariants as instrs
use Rattle.wasm_instr.specs.declared.body.Placed.{Placed}
use Rattle.wasm_instr.specs.declared.body.Body.{Body}
use Rattle.wasm_instr.specs.Classes.{class_of}
use Rattle.wasm_instr.specs.Instrs.{SpellsHead, SpellsLast, IsInProfile}
use Rattle.wasm_instr.specs.Placeless.{instrs_of}
use Rattle.wasm_instr.specs.Bodies.{SpellsBody, IsCode, placed, step_of}
use Rattle.wasm_module.specs.Modules.{placeless}
use Rattle.wasm_grammar.specs.Grammar.{SpellsU32}
use Rattle.dylink_out.specs.declared.word.WordReloc.{WordReloc}
use Rattle.dylink_out.specs.Loading.{Step, get_global, constant, add, store, set_global, step_bytes}
use Rattle.dylink_out.specs.Shared.{apply_body}
use Rattle.dylink_out.proofs.Loading.{body_is}
use Rattle.output_module.specs.link_worlds.Bodies.{bare}
use Rattle.output_module.proofs.Made.{ends, no_locals}
use Rattle.shared_module.specs.Applied.{step_instr, steps_of, applied, StepFits}

-- code without places, and bytes that spell it
abbrev IsCoded : ℕ → List Instr → List ℕ → Type 0
IsCoded end is bytes = (code : List Placed) × (instrs_of code ≡ is) × IsCode end (false ∷ []) code bytes

-- one instruction more, that opens and closes no block
more : (end : ℕ) (i : Instr) (head last bytes : List ℕ) (is : List Instr) → IsInProfile i → SpellsHead i head → SpellsLast i last → step_of (false ∷ []) i ≡ Some (false ∷ []) → IsCoded end is bytes
    → IsCoded end (i ∷ is) ((head ++ last) ++ bytes)
more end i head last bytes is f h t s r =
    (placed end i ((head ++ last) ++ bytes) (last ++ bytes) bytes ∷ r.0, ap (λ xs. i ∷ xs) r.1, (head, last, bytes, false ∷ [], append_assoc head last bytes, f, h, t, refl, s, r.2))

-- numbers of one byte
two : SpellsU32 2 (2 ∷ [])
two = record { spelled = record { within = omega arith; ends = omega arith; tail = λ e. absurd (omega (arith, e)) }; value_is = refl }

zero_is : SpellsU32 0 (0 ∷ [])
zero_is = record { spelled = record { within = omega arith; ends = omega arith; tail = λ e. absurd (omega (arith, e)) }; value_is = refl }

step_more : (end : ℕ) (x : Step) (bytes : List ℕ) (is : List Instr) → StepFits x → IsCoded end is bytes → IsCoded end (step_instr x ∷ is) (step_bytes x ++ bytes)
unfolding class_of
step_more end (get_global g) bytes is f r = more end (instrs.GlobalAt 0x23 g) (0x23 ∷ []) (u32_padded g) bytes is refl refl (u32_padded_spells g f) refl r
step_more end (constant z) bytes is f r = more end (instrs.I32Const z) (0x41 ∷ []) (s32_padded z) bytes is tt refl (s32_padded_spelled z f.0 f.1) refl r
step_more end add bytes is f r = more end (instrs.Plain 0x6A) (0x6A ∷ []) [] bytes is refl refl refl refl r
step_more end store bytes is f r = more end (instrs.Access 0x36 2 0) (0x36 ∷ 2 ∷ []) (0 ∷ []) bytes is refl (0x36 ∷ [], 2 ∷ [], refl, two, refl) zero_is refl r
step_more end (set_global g) bytes is f r = more end (instrs.GlobalAt 0x24 g) (0x24 ∷ []) (u32_padded g) bytes is refl refl (u32_padded_spells g f) refl r

steps_code : (end : ℕ) (xs : List Step) → ((x : Step) → Has xs x → StepFits x) → IsCoded end (map step_instr xs ++ instrs.Plain 0x0B ∷ []) (flat_map step_bytes xs ++ 0x0B ∷ [])
steps_code end [] f = ends end
steps_code end (x ∷ xs) f =
    subst (IsCoded end (step_instr x ∷ (map step_instr xs ++ instrs.Plain 0x0B ∷ []))) (sym (append_assoc (step_bytes x) (flat_map step_bytes xs) (0x0B ∷ [])))
    (step_more end x (flat_map step_bytes xs ++ 0x0B ∷ []) (map step_instr xs ++ instrs.Plain 0x0B ∷ []) (f x (inl refl)) (steps_code end xs (λ y h. f y (inr h))))

instrs_same : (xs : List Step) → instrs_of (map (λ x. bare (step_instr x)) xs ++ bare (instrs.Plain 0x0B) ∷ []) ≡ map step_instr xs ++ instrs.Plain 0x0B ∷ []
instrs_same [] = refl
instrs_same (x ∷ xs) = ap (λ is. step_instr x ∷ is) (instrs_same xs)

pub applied_is : (ws : List WordReloc) → ((x : Step) → Has (steps_of ws) x → StepFits x) → (b : Body) × SpellsBody b (apply_body ws) × (placeless b ≡ placeless (applied ws))
applied_is ws f =
    let r = steps_code (length (apply_body ws)) (steps_of ws) f in (
      record { locals = []; code = r.0 },
      (0 ∷ [], flat_map step_bytes (steps_of ws) ++ 0x0B ∷ [], body_is ws, no_locals, r.2),
      ap (λ is. ([], is)) (r.1 ∙ sym (instrs_same (steps_of ws))),
    )
