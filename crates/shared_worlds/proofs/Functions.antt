-- The functions of the program pair with those of the output's module, by their keys.
use Rattle.std.proofs.Common.{◌≡◌, ℕ, List, [], ◌∷◌, ◌++◌, map, Option, Some, None, Bool, true, false, refl, sym, ap, ◌∙◌, subst, inl, inr, arith}
use Rattle.std.specs.Prelude.{◌⊎◌, ◌==◌, ◌&&◌, slice_get, find, position, option_map, option_and_then, if◌then◌else◌}
use Rattle.std.proofs.lemmas.Option.{option_and_then_some, slice_get-map}
use Rattle.std.proofs.lemmas.Bool.{and_parts, eqb-true}
use Rattle.list_places.specs.Has.{Has, Apart}
use Rattle.list_places.proofs.Lists.{has_at, has_right, stands, pick_has, flat_has}
use Rattle.wasm_instr.specs.declared.instr.Instr.TheVariants as instrs
use Rattle.run_rules.specs.declared.op.Op.TheVariants.{Own, CallTo}
use Rattle.run_rules.specs.declared.world.Source.{Source}
use Rattle.run_rules.specs.declared.world.Source.TheVariants.{Host, Code}
use Rattle.run_rules.specs.declared.world.Function.{Function as Runs}
use Rattle.run_rules.specs.Ops.{op_of}
use Rattle.run_rules.specs.Steps.{joined}
use Rattle.run_rules.specs.Modules.{coded}
use Rattle.sim_laws.specs.Pairs.{Renaming, Calls, Both, OpPairs, SourcePairs, FunctionPairs}
use Rattle.linking_section.specs.declared.symbol.SymbolKind.TheVariants.{Function, Datum, GlobalVar}
use Rattle.made_symbols.specs.declared.mode.Mode.TheVariants.{Shared}
use Rattle.made_symbols.specs.Made.{call_ctors}
use Rattle.name_rules.specs.Entries.{InputSymbol}
use Rattle.link_rules.specs.Program.{Program, Part, Ref, refs, TypeWindow, a_symbol, a_type, named_type, types_named}
use Rattle.link_rules.specs.Marks.{live}
use Rattle.link_rules.specs.Keys.{FunctionKey, outside, linker_function, stub, own, same_function, functions, types, type_of, type_place, window_types, part_type, is_function_at, ref_function, function_number}
use Rattle.link_rules.specs.Values.{Layout}
use Rattle.link_rules.specs.Loader.{words}
use Rattle.link_rules.specs.Output.{layout}
use Rattle.link_worlds.specs.Names.{all_functions, callee, number_in, FunctionGets}
use Rattle.link_worlds.specs.Bodies.{to_name, bare, call_of, plan_calls, part_in, linked_calls}
use Rattle.link_worlds.specs.Sound.{same_part, IsShaped}
use Rattle.link_worlds.proofs.Keys.{function_equal}
use Rattle.link_worlds.proofs.Live.{live_part}
use Rattle.link_worlds.proofs.Functions.{type_found, find_part, picks_apart, Stood, stood}
use Rattle.shared_module.specs.Applied.{applied}
use Rattle.shared_module.specs.Outputs.{shared_source}
use Rattle.shared_types.specs.Linked.{SharedLinkedBy}
use Rattle.shared_worlds.specs.Names.{renaming}
use Rattle.shared_worlds.specs.Bodies.{objects_part, objects_source, stores_all}
use Rattle.shared_worlds.specs.Worlds.{objects_function}
use Rattle.shared_worlds.proofs.Gets.{RefGets}
use Rattle.shared_worlds.proofs.Instrs.{body_pairs}
use Rattle.shared_worlds.proofs.Included.{plain_function}

-- what a part is known by
is_own : (part : Part) (input index : ℕ) → is_function_at input index part ≡ true → (part.chunk.kind ≡ 0) × (part.chunk.input ≡ input)
is_own part input index t =
    let p = and_parts ((part.chunk.kind == 0) && (part.chunk.input == input)) (part.chunk.index == index) t in
    let q = and_parts (part.chunk.kind == 0) (part.chunk.input == input) p.0 in
    (eqb-true part.chunk.kind 0 q.0, eqb-true part.chunk.input input q.1)

module _ (p : Program) (exports : List InputSymbol) (lk : SharedLinkedBy p exports) (cell : ℕ → ℕ) (straight : (n : ℕ) → cell n ≡ n) where
  abbrev parts : List Part
  parts = live p exports

  abbrev lay : Layout
  lay = layout Shared p (live p exports) exports

  abbrev ren : Renaming
  ren = renaming p (layout Shared p (live p exports) exports)

  -- a function of the output's module
  abbrev pub mod_source : FunctionKey → Source
  mod_source (outside k) = Host k.module_name k.field
  mod_source (linker_function n) = coded (op_of lay.numbers.types cell) (shared_source p lay parts (linker_function n))
  mod_source (stub name) = coded (op_of lay.numbers.types cell) (shared_source p lay parts (stub name))
  mod_source (own i x) = coded (op_of lay.numbers.types cell) (shared_source p lay parts (own i x))

  abbrev pub mod_function : FunctionKey → Option Runs
  mod_function k = Some (record { kind = type_of p parts k; source = mod_source k })

  apart : Apart same_part parts
  apart = picks_apart p exports lk.sound.apart

  module _ (gets : (part : Part) (ref : Ref) → Has parts part → part.chunk.kind ≡ 0 → (part.chunk.input ≡ 0 → ⊥) → Has part.named (a_symbol ref) → RefGets p lay ref)
      (called : (part : Part) (ref : Ref) → Has parts part → part.chunk.input ≡ 0 → Has (refs part) ref → FunctionGets ren (callee p ref) (function_number lay.numbers (ref_function ref)))
      (numbered : (part : Part) (w : TypeWindow) → Has parts part → part.chunk.kind ≡ 0 → (part.chunk.input ≡ 0 → ⊥) → Has part.named (a_type w) → number_in Shared lay (a_type w) ≡ type_place lay.numbers w.type)
      (applies : SourcePairs ren (Code [] (stores_all p lay parts ++ Own (instrs.Plain 0x0B) ∷ [])) (coded (op_of lay.numbers.types cell) (applied (words Shared p parts lay)))) where
    typed : (part : Part) → Has parts part → part.chunk.kind ≡ 0 → (part.chunk.input ≡ 0 → ⊥) → (w : TypeWindow) → Has part.named (a_type w) → slice_get lay.numbers.types (number_in Shared lay (a_type w)) ≡ Some w.type
    unfolding layout types
    typed part h k z w m =
        ap (slice_get lay.numbers.types) (numbered part w h k z m)
        ∙ type_found (map (type_of p parts) (functions Shared p parts) ++ window_types parts) w.type
        (has_right (map (type_of p parts) (functions Shared p parts)) (window_types parts) w.type
        (flat_has types_named parts part w.type h (pick_has named_type part.named (a_type w) w.type m refl)))

    part_pairs : (part : Part) → Has parts part → part.chunk.kind ≡ 0 → (part.chunk.input ≡ 0 → ⊥) → IsShaped p part → SourcePairs ren (objects_part p lay (Some part)) (coded (op_of lay.numbers.types cell) (part_in Shared lay p (Some part)))
    part_pairs part h k z s = body_pairs p lay part.named lay.numbers.types cell straight (λ ref m. gets part ref h k z m) (λ w m. typed part h k z w m) _ s

    calls_pair : (part : Part) → (rs : List Ref) → ((ref : Ref) → Has rs ref → FunctionGets ren (callee p ref) (function_number lay.numbers (ref_function ref)))
        → SourcePairs ren (Code [] (map (call_of p lay) rs ++ Own (instrs.Plain 0x0B) ∷ [])) (coded (op_of lay.numbers.types cell) (record { locals = []; code = map (λ ref. bare (instrs.Call (function_number lay.numbers (ref_function ref)))) rs ++ bare (instrs.Plain 0x0B) ∷ [] }))
    calls_pair part [] f = (refl, (refl, tt))
    calls_pair part (ref ∷ rs) f = (refl, (to_call (callee p ref) (function_number lay.numbers (ref_function ref)) (f ref (inl refl)), (calls_pair part rs (λ q h. f q (inr h))).1))
      where
        to_call : (o : Option ℕ) (g : ℕ) → FunctionGets ren o g → OpPairs ren (to_name CallTo o) (CallTo g)
        to_call None g h = absurd h
        to_call (Some k) g h = h

    found_pairs : (i x : ℕ) (part : Part) → Has parts part → is_function_at i x part ≡ true → (i ≡ 0 → ⊥)
        → SourcePairs ren (objects_part p lay (find (is_function_at i x) p.parts)) (coded (op_of lay.numbers.types cell) (part_in Shared lay p (find (is_function_at i x) parts)))
    found_pairs i x part h t z =
        let a = find_part p.parts i x part lk.sound.apart (live_part p exports part h) t in
        let b = find_part parts i x part apart h t in
        let o = is_own part i x t in
        subst (λ q. SourcePairs ren (objects_part p lay q) (coded (op_of lay.numbers.types cell) (part_in Shared lay p (find (is_function_at i x) parts)))) (sym a)
        (subst (λ q. SourcePairs ren (objects_part p lay (Some part)) (coded (op_of lay.numbers.types cell) (part_in Shared lay p q))) (sym b)
        (part_pairs part h o.0 (λ e. z (sym o.1 ∙ e)) (lk.shaped part h o.0 (λ e. z (sym o.1 ∙ e)))))

    ctors_pair : (n : ℕ) (part : Part) → Has parts part → is_function_at 0 n part ≡ true
        → SourcePairs ren (plan_calls p lay (find (is_function_at 0 n) p.parts)) (coded (op_of lay.numbers.types cell) (linked_calls p lay (find (is_function_at 0 n) parts)))
    ctors_pair n part h t =
        let a = find_part p.parts 0 n part lk.sound.apart (live_part p exports part h) t in
        let b = find_part parts 0 n part apart h t in
        let o = is_own part 0 n t in
        subst (λ q. SourcePairs ren (plan_calls p lay q) (coded (op_of lay.numbers.types cell) (linked_calls p lay (find (is_function_at 0 n) parts)))) (sym a)
        (subst (λ q. SourcePairs ren (plan_calls p lay (Some part)) (coded (op_of lay.numbers.types cell) (linked_calls p lay q))) (sym b)
        (calls_pair part (refs part) (λ ref m. called part ref h o.1 m)))

    -- the linker's functions: the one that calls the init functions, and the one that makes addresses right
    made_pairs : (n : ℕ) → SourcePairs ren (plan_calls p lay (find (is_function_at 0 n) p.parts)) (coded (op_of lay.numbers.types cell) (linked_calls p lay (find (is_function_at 0 n) parts))) → (b : Bool)
        → SourcePairs ren (if b then plan_calls p lay (find (is_function_at 0 n) p.parts) else Code [] (stores_all p lay parts ++ Own (instrs.Plain 0x0B) ∷ []))
        (coded (op_of lay.numbers.types cell) (if b then linked_calls p lay (find (is_function_at 0 n) parts) else applied (words Shared p parts lay)))
    made_pairs n c true = c
    made_pairs n c false = applies

    key_pairs : (k : FunctionKey) → Stood parts k → Both (FunctionPairs ren) (objects_function p lay parts k) (mod_function k)
    key_pairs (outside k) s = record { kind = refl; source = (refl, refl) }
    key_pairs (linker_function n) s = record { kind = refl; source = made_pairs n (ctors_pair n s.0 s.1 s.2) (n == call_ctors) }
    key_pairs (stub name) s = record { kind = refl; source = (refl, (refl, (refl, tt))) }
    key_pairs (own i x) s = record {
      kind =
          let a = find_part p.parts i x s.0 lk.sound.apart (live_part p exports s.0 s.1) s.2 in
          let b = find_part parts i x s.0 apart s.1 s.2 in
          ap part_type a ∙ sym (ap part_type b);
      source = found_pairs i x s.0 s.1 s.2 s.3;
    }

    -- each function that is called pairs with the one at its number
    pub functions_pair : (f g : ℕ) → Calls ren f g → Both (FunctionPairs ren) (joined (slice_get (map (objects_function p lay parts) (all_functions p)) f)) (joined (slice_get (map mod_function (functions Shared p parts)) g))
    unfolding layout
    functions_pair f g h =
        option_and_then_some (λ k. position (same_function k) (functions Shared p parts)) (slice_get (all_functions p) f) g h
        (λ k at there.
        let s = stands (same_function k) (functions Shared p parts) g there in
        let e = function_equal k s.item s.passes in
        let m : slice_get (functions Shared p parts) g ≡ Some k = s.there ∙ ap Some (sym e) in
        let a = slice_get-map (objects_function p lay parts) (all_functions p) f ∙ ap (option_map (objects_function p lay parts)) at in
        let b = slice_get-map mod_function (functions Shared p parts) g ∙ ap (option_map mod_function) m in
        let q = key_pairs k (stood parts p k (plain_function p exports lk k (has_at (functions Shared p parts) g k m))) in
        subst (λ o. Both (FunctionPairs ren) (joined o) (joined (slice_get (map mod_function (functions Shared p parts)) g))) (sym a)
        (subst (λ o. Both (FunctionPairs ren) (objects_function p lay parts k) (joined o)) (sym b) q))
