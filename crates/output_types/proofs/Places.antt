-- Validity looks at no place.
use Rattle.std.proofs.Common.{◌≡◌, ◌<◌, List, [], ◌∷◌, length, map, Option, Some, None, refl, sym, ap, ◌∙◌, subst, arith}
use Rattle.std.specs.Prelude.{slice_get, option_map, option_and_then}
use Rattle.std.proofs.lemmas.Option.{slice_get-map}
use Rattle.std.proofs.lemmas.List.{length-map}
use Rattle.link_worlds.specs.link_rules.object_file.wasm_types.declared.function.FuncType.{FuncType}
use Rattle.link_worlds.specs.link_rules.object_file.wasm_module.wasm_instr.declared.instr.Instr.{Instr}
use Rattle.link_worlds.specs.link_rules.object_file.wasm_module.wasm_instr.declared.body.LocalRun.{LocalRun}
use Rattle.link_worlds.specs.link_rules.object_file.wasm_module.wasm_instr.declared.body.Placed.{Placed}
use Rattle.link_worlds.specs.link_rules.object_file.wasm_module.wasm_instr.declared.body.Body.{Body}
use Rattle.link_worlds.specs.link_rules.object_file.wasm_module.wasm_instr.Placeless.{instrs_of}
use Rattle.link_worlds.specs.link_rules.object_file.wasm_module.declared.structure.Module.{Module}
use Rattle.link_worlds.specs.link_rules.object_file.wasm_module.Modules.{placeless, SameButPlaces}
use Rattle.valid_rules.specs.Leads.{IsTyped}
use Rattle.valid_bodies.specs.declared.types.Context.{Context}
use Rattle.valid_bodies.specs.Shapes.{shape, shapes_in}
use Rattle.valid_bodies.specs.First.{HasTyping}
use Rattle.wasm_valid.specs.Spaces.{context_of}
use Rattle.wasm_valid.specs.Rules.{stands}
use Rattle.wasm_valid.specs.Valid.{IsValid}

seen : (c : Context) (t : FuncType) (ls : List LocalRun) (code : List Placed) → map (λ q. shape c t ls q.instr) code ≡ map (shape c t ls) (instrs_of code)
seen c t ls [] = refl
seen c t ls (x ∷ xs) = ap (λ ss. shape c t ls x.instr ∷ ss) (seen c t ls xs)

-- bodies that are the same but for places are seen alike
same_shapes : (c : Context) (t : FuncType) (a b : Body) → placeless a ≡ placeless b → shapes_in c t a ≡ shapes_in c t b
same_shapes c t a b e =
    seen c t a.locals a.code
    ∙ ap (λ (x : List LocalRun × List Instr). map (shape c t x.0) x.1) e
    ∙ sym (seen c t b.locals b.code)

same_typing : (c : Context) (o : Option FuncType) (x y : Option Body) → option_map placeless x ≡ option_map placeless y → HasTyping c o x → HasTyping c o y
same_typing c None x y e h = absurd h
same_typing c (Some t) None y e h = absurd h
same_typing c (Some t) (Some a) None e h = absurd (grind arith)
same_typing c (Some t) (Some a) (Some b) e h = subst (IsTyped t.results) (same_shapes c t a b (inner e)) h
  where
    inner : Some (placeless a) ≡ Some (placeless b) → placeless a ≡ placeless b
    inner q = grind arith

-- a module with other bodies
with_bodies : (m : Module) (bs : List Body) → map placeless bs ≡ map placeless m.bodies → IsValid m → IsValid (record m { bodies = bs })
unfolding stands
with_bodies m bs e v = record {
  rules = v.rules;
  bodies = λ k h.
      let long : k < length m.bodies = omega (arith, h, length-map bs placeless, length-map m.bodies placeless, ap length e) in
      same_typing (context_of m) (option_and_then (slice_get m.types) (slice_get m.functions k)) (slice_get m.bodies k) (slice_get bs k)
      (sym (slice_get-map placeless m.bodies k) ∙ ap (λ ps. slice_get ps k) (sym e) ∙ slice_get-map placeless bs k) (v.bodies k long);
}

pub places : (m other : Module) → SameButPlaces m other → IsValid m → IsValid other
places m other same v = subst IsValid (sym same.rest) (with_bodies m other.bodies same.bodies v)
