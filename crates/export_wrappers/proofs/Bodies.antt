-- The bytes of a wrapper spell its body, with the places that its instructions have.
use Rattle.std.proofs.Common.{◌≡◌, ℕ, zero, suc, ◌+◌, ◌-◌, ◌<◌, ◌≤◌, ◌^◌, false, List, [], ◌∷◌, ◌++◌, length, refl, sym, ap, subst, ◌∙◌, append_assoc, arith, Option, Some}
use Rattle.std.specs.Prelude.{map, flat_map, option_to_list}
use Rattle.std.proofs.lemmas.List.{length-append}
use Rattle.wasm_module.specs.wasm_instr.leb_codec.Shortest.{u32}
use Rattle.wasm_module.proofs.wasm_instr_lemmas.leb_codec_lemmas.Computed.{u32_spells}
use Rattle.wasm_module.specs.wasm_instr.wasm_grammar.Grammar.{SpellsU32, SpellsBytes}
use Rattle.wasm_module.specs.wasm_instr.wasm_grammar.Writers.{Appends}
use Rattle.wasm_module.specs.wasm_instr.Classes.{class_of}
use Rattle.wasm_module.specs.wasm_instr.Instrs.{SpellsHead, SpellsLast, IsInProfile}
use Rattle.wasm_module.specs.wasm_instr.Bodies.{step_of, IsCode, SpellsBody}
use Rattle.wasm_module.specs.wasm_instr.declared.instr.Instr.{Instr}
use Rattle.wasm_module.specs.wasm_instr.declared.instr.Instr.TheVariants as instrs
use Rattle.wasm_module.specs.wasm_instr.declared.body.Placed.{Placed}
use Rattle.export_wrappers.specs.declared.wrapper.Wrapper.{Wrapper}
use Rattle.export_wrappers.specs.Wrapped.{Step, call, argument, arguments, steps, step_bytes, placed_at, code_from, body_of, body_bytes}
use Rattle.export_wrappers.specs.Written.{Puts, SpellsCode, FitSteps}

-- ---- numbers that fit

arguments_fit : (at n : ℕ) → at + n ≤ 2 ^ 32 → FitSteps (arguments at n)
arguments_fit at zero le = tt
arguments_fit at (suc n) le = (omega (arith, le), arguments_fit (at + 1) n (omega (arith, le)))

both_fit : (xs ys : List Step) → FitSteps xs → FitSteps ys → FitSteps (xs ++ ys)
both_fit [] ys f g = g
both_fit (x ∷ xs) ys f g = (f.0, both_fit xs ys f.1 g)

pub steps_fit : (ctors : ℕ) (dtors : Option ℕ) (w : Wrapper) → ctors < 2 ^ 32 → w.parameters < 2 ^ 32 → w.function < 2 ^ 32 → FitSteps (map call (option_to_list dtors)) → FitSteps (steps ctors dtors w)
steps_fit ctors dtors w c p f d = (c, both_fit (arguments 0 w.parameters) (call w.function ∷ map call (option_to_list dtors)) (arguments_fit 0 w.parameters (omega (arith, p))) (f, d))

-- ---- bytes put behind others

flat_more : (xs ys : List Step) → flat_map step_bytes (xs ++ ys) ≡ flat_map step_bytes xs ++ flat_map step_bytes ys
flat_more [] ys = refl
flat_more (x ∷ xs) ys = ap (λ (t : List ℕ). step_bytes x ++ t) (flat_more xs ys) ∙ sym (append_assoc (step_bytes x) (flat_map step_bytes xs) (flat_map step_bytes ys))

-- the byte 0, the constructors' call, the arguments, the function's call, that of the destructors, and the byte 0B
pub body_put : (ctors : ℕ) (dtors : Option ℕ) (w : Wrapper) (a b c d e f g : List ℕ)
    → b ≡ a ++ 0 ∷ [] → c ≡ b ++ step_bytes (call ctors) → d ≡ c ++ flat_map step_bytes (arguments 0 w.parameters) → e ≡ d ++ step_bytes (call w.function)
    → f ≡ e ++ flat_map step_bytes (map call (option_to_list dtors)) → g ≡ f ++ 0x0B ∷ []
    → g ≡ a ++ body_bytes ctors dtors w
body_put ctors dtors w a b c d e f g p q r s t u =
    let x = step_bytes (call ctors) in
    let y = flat_map step_bytes (arguments 0 w.parameters) in
    let z = step_bytes (call w.function) in
    let k = flat_map step_bytes (map call (option_to_list dtors)) in
    let all : flat_map step_bytes (steps ctors dtors w) ≡ x ++ (y ++ (z ++ k)) = ap (λ (v : List ℕ). x ++ v) (flat_more (arguments 0 w.parameters) (call w.function ∷ map call (option_to_list dtors))) in
    let five : f ≡ a ++ (0 ∷ (x ++ (y ++ (z ++ k)))) =
    t ∙ ap (λ (v : List ℕ). v ++ k) (s ∙ ap (λ (v : List ℕ). v ++ z) (r ∙ ap (λ (v : List ℕ). v ++ y) (q ∙ ap (λ (v : List ℕ). v ++ x) p)))
    ∙ append_assoc ((((a ++ 0 ∷ []) ++ x) ++ y)) z k
    ∙ append_assoc ((a ++ 0 ∷ []) ++ x) y (z ++ k)
    ∙ append_assoc (a ++ 0 ∷ []) x (y ++ (z ++ k))
    ∙ append_assoc a (0 ∷ []) (x ++ (y ++ (z ++ k))) in
    u ∙ ap (λ (v : List ℕ). v ++ 0x0B ∷ []) five ∙ append_assoc a (0 ∷ (x ++ (y ++ (z ++ k)))) (0x0B ∷ [])
    ∙ ap (λ (v : List ℕ). a ++ (0 ∷ (v ++ 0x0B ∷ []))) (sym all)

-- ---- instructions and their places

same_placed : (x : Instr) (a b c d e f : ℕ) → a ≡ b → c ≡ d → e ≡ f → ◌≡◌ {A = Placed} (record { instr = x; at = a; mid = c; end = e }) (record { instr = x; at = b; mid = d; end = f })
same_placed x a b c d e f p q r = rw (p, q, r) refl

one_step : (end at : ℕ) (x : Instr) (op : ℕ) (last rest : List ℕ) (code : List Placed) → at + length (op ∷ (last ++ rest)) ≡ end
    → IsInProfile x → SpellsHead x (op ∷ []) → SpellsLast x last → step_of (false ∷ []) x ≡ Some (false ∷ []) → IsCode end (false ∷ []) code rest
    → IsCode end (false ∷ []) (placed_at at x (length (op ∷ last)) ∷ code) (op ∷ (last ++ rest))
one_step end at x op last rest code e profile head spelled stays more =
    let both = length-append last rest in (
      op ∷ [],
      last,
      rest,
      false ∷ [],
      refl,
      profile,
      head,
      spelled,
      same_placed x at (end - length (op ∷ (last ++ rest))) (at + 1) (end - length (last ++ rest)) (at + length (op ∷ last)) (end - length rest) (omega (arith, e)) (omega (arith, e)) (omega (arith, e, both)),
      stays,
      more,
    )

last_step : (end at : ℕ) → at + 1 ≡ end → IsCode end (false ∷ []) (placed_at at (instrs.Plain 0x0B) 1 ∷ []) (0x0B ∷ [])
unfolding class_of
last_step end at e = (
  0x0B ∷ [],
  [],
  [],
  [],
  refl,
  refl,
  refl,
  refl,
  same_placed (instrs.Plain 0x0B) at (end - 1) (at + 1) (end - 0) (at + 1) (end - 0) (omega (arith, e)) (omega (arith, e)) (omega (arith, e)),
  refl,
  (refl, refl),
)

abbrev text_of : List Step → List ℕ
text_of ss = flat_map step_bytes ss ++ (0x0B ∷ [])

next_at : (end at : ℕ) (front rest : List ℕ) → at + length (front ++ rest) ≡ end → (at + length front) + length rest ≡ end
next_at end at front rest e = omega (arith, e, length-append front rest)

code_spells : (end at : ℕ) (ss : List Step) → FitSteps ss → at + length (text_of ss) ≡ end → IsCode end (false ∷ []) (code_from at ss) (text_of ss)
unfolding class_of
code_spells end at [] fits e = last_step end at e
code_spells end at (call f ∷ ss) fits e =
    let grouped : text_of (call f ∷ ss) ≡ step_bytes (call f) ++ text_of ss = append_assoc (step_bytes (call f)) (flat_map step_bytes ss) (0x0B ∷ []) in
    let long : at + length (step_bytes (call f) ++ text_of ss) ≡ end = ap (λ (t : List ℕ). at + length t) (sym grouped) ∙ e in
    subst (IsCode end (false ∷ []) (code_from at (call f ∷ ss))) (sym grouped)
    (one_step end at (instrs.Call f) 0x10 (u32 f) (text_of ss) (code_from (at + length (step_bytes (call f))) ss) long tt refl (u32_spells f fits.0) refl
    (code_spells end (at + length (step_bytes (call f))) ss fits.1 (next_at end at (step_bytes (call f)) (text_of ss) long)))
code_spells end at (argument n ∷ ss) fits e =
    let grouped : text_of (argument n ∷ ss) ≡ step_bytes (argument n) ++ text_of ss = append_assoc (step_bytes (argument n)) (flat_map step_bytes ss) (0x0B ∷ []) in
    let long : at + length (step_bytes (argument n) ++ text_of ss) ≡ end = ap (λ (t : List ℕ). at + length t) (sym grouped) ∙ e in
    subst (IsCode end (false ∷ []) (code_from at (argument n ∷ ss))) (sym grouped)
    (one_step end at (instrs.Local 0x20 n) 0x20 (u32 n) (text_of ss) (code_from (at + length (step_bytes (argument n))) ss) long refl refl (u32_spells n fits.0) refl
    (code_spells end (at + length (step_bytes (argument n))) ss fits.1 (next_at end at (step_bytes (argument n)) (text_of ss) long)))

zero_spelled : SpellsU32 0 (0 ∷ [])
unfolding u32
zero_spelled = u32_spells 0 (omega arith)

pub body_spells : (ctors : ℕ) (dtors : Option ℕ) (w : Wrapper) → FitSteps (steps ctors dtors w) → SpellsBody (body_of ctors dtors w) (body_bytes ctors dtors w)
body_spells ctors dtors w fits =
    let ss = steps ctors dtors w in
    (0 ∷ [], text_of ss, refl, (omega arith, (0 ∷ [], [], zero_spelled, refl, refl)), code_spells (length (0 ∷ text_of ss)) 1 ss fits (omega arith))

-- bytes that were put as those of a part are its code
pub code_put : (ctors : ℕ) (dtors : Option ℕ) (w : Wrapper) (part old new : List ℕ) → part ≡ body_bytes ctors dtors w → FitSteps (steps ctors dtors w) → Appends (SpellsBytes part) old new → Puts (SpellsCode (body_of ctors dtors w)) old new
code_put ctors dtors w part old new is fits a =
    let s = a.spells in
    record {
      text = a.text;
      spells = (s.0, part, s.2, subst (SpellsBody (body_of ctors dtors w)) (sym is) (body_spells ctors dtors w fits), s.4 ∙ ap (λ (t : List ℕ). s.0 ++ t) s.3);
      parts = a.parts;
    }
