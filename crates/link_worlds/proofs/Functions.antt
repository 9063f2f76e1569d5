-- The functions of both worlds pair.
use Rattle.std.proofs.Common.{◌≡◌, ℕ, ◌+◌, List, [], ◌∷◌, ◌++◌, map, Option, Some, None, Bool, true, false, refl, sym, ap, ◌∙◌, subst, inl, inr, ⊎_elim}
use Rattle.std.specs.Prelude.{◌==◌, ◌&&◌, not, slice_get, filter, filter_map, find, position, option_map, unwrap_or, cond}
use Rattle.std.proofs.lemmas.Option.{option_and_then_some, slice_get-map}
use Rattle.std.proofs.lemmas.Bool.{and_from, and_parts, eqb-true, eq-eqb}
use Rattle.list_places.specs.Has.{Has, Apart}
use Rattle.list_places.proofs.Lists.{by_test, has_at, has_right, has_either, placed, stands, has_pick, has_map, has_filter, pick_has, flat_has, given_some, not_both}
use Rattle.wl_base.specs.Choice.{distinct}
use Rattle.wasm_types.specs.declared.function.FuncType.{FuncType}
use Rattle.wasm_types.specs.Same.{same_type}
use Rattle.wasm_instr.specs.declared.instr.Instr.TheVariants as instrs
use Rattle.run_rules.specs.declared.op.Op.TheVariants.{Own, CallTo}
use Rattle.run_rules.specs.declared.world.Function.{Function as Runs}
use Rattle.run_rules.specs.declared.world.Source.{Source}
use Rattle.run_rules.specs.declared.world.Source.TheVariants.{Host, Code}
use Rattle.run_rules.specs.Ops.{op_of}
use Rattle.run_rules.specs.Modules.{coded}
use Rattle.run_rules.specs.Steps.{joined}
use Rattle.sim_laws.specs.Pairs.{Renaming, Calls, Both, OpPairs, FunctionPairs, SourcePairs}
use Rattle.made_symbols.specs.declared.mode.Mode.TheVariants.{Plain}
use Rattle.name_rules.specs.Entries.{InputSymbol, ImportKey}
use Rattle.live_mark.specs.Live.{is_among, reached}
use Rattle.link_rules.specs.Program.{Program, Part, Ref, TypeWindow, a_symbol, a_type, refs, types_named, named_type, same_chunk}
use Rattle.link_rules.specs.Marks.{live, refs_of, picked, targets, root_places}
use Rattle.link_rules.specs.Keys.{FunctionKey, outside, linker_function, stub, own, same_function, functions, function_imports_of, made_function_key, own_function_key, stub_names, is_function_at, type_of, type_place, types, window_types, part_type, is_function_type, has_import, used_imports, imports_by, imports_in_order, function_number, ref_function}
use Rattle.link_rules.specs.Values.{Layout}
use Rattle.link_rules.specs.Output.{layout}
use Rattle.link_worlds.specs.Names.{all_functions, renaming, callee, number_at, FunctionGets, RefGets}
use Rattle.link_worlds.specs.Bodies.{to_name, call_of, plan_calls, plan_part, linked_calls, linked_part, linked_source}
use Rattle.link_worlds.specs.Worlds.{plan_function}
use Rattle.link_worlds.specs.Sound.{Sound, same_part, IsShaped}
use Rattle.link_worlds.proofs.Keys.{function_equal, types_same, type_equal}
use Rattle.link_worlds.proofs.Live.{live_part}
use Rattle.link_worlds.proofs.Refs.{distinct_has}
use Rattle.link_worlds.proofs.Instrs.{body_pairs}

-- the place of a type in the merged list
pub type_found : (all : List FuncType) (t : FuncType) → Has all t → slice_get (distinct same_type all) (unwrap_or (position (same_type t) (distinct same_type all)) 0) ≡ Some t
type_found all t h =
    let d = distinct_has same_type types_same all t h in
    let n = placed (same_type t) (distinct same_type all) d.0 d.1 d.2 in
    let s = stands (same_type t) (distinct same_type all) n.0 n.1 in
    ap (λ o. slice_get (distinct same_type all) (unwrap_or o 0)) n.1 ∙ s.there ∙ ap Some (sym (type_equal t s.item s.passes))

-- a part that is found is the part
pub find_part : (xs : List Part) (input index : ℕ) (part : Part) → Apart same_part xs → Has xs part → is_function_at input index part ≡ true → find (is_function_at input index) xs ≡ Some part
find_part [] input index part a h t = absurd h
find_part (x ∷ xs) input index part a (inl e) t = ap (λ b. cond b (Some x) (find (is_function_at input index) xs)) (ap (is_function_at input index) e ∙ t) ∙ ap Some e
find_part (x ∷ xs) input index part a (inr h) t =
    by_test (is_function_at input index x)
    (λ k. absurd (a.0 part h (both_there x part k t)))
    (λ k. ap (λ b. cond b (Some x) (find (is_function_at input index) xs)) k ∙ find_part xs input index part a.1 h t)
  where
    both_there : (a b : Part) → is_function_at input index a ≡ true → is_function_at input index b ≡ true → same_chunk a.chunk b.chunk ≡ true
    both_there a b k t =
        let p = and_parts ((a.chunk.kind == 0) && (a.chunk.input == input)) (a.chunk.index == index) k in
        let q = and_parts ((b.chunk.kind == 0) && (b.chunk.input == input)) (b.chunk.index == index) t in
        let p' = and_parts (a.chunk.kind == 0) (a.chunk.input == input) p.0 in
        let q' = and_parts (b.chunk.kind == 0) (b.chunk.input == input) q.0 in
        and_from ((a.chunk.input == b.chunk.input) && (a.chunk.kind == b.chunk.kind)) (a.chunk.index == b.chunk.index)
        (and_from (a.chunk.input == b.chunk.input) (a.chunk.kind == b.chunk.kind)
        (eq-eqb a.chunk.input b.chunk.input (eqb-true a.chunk.input input p'.1 ∙ sym (eqb-true b.chunk.input input q'.1)))
        (eq-eqb a.chunk.kind b.chunk.kind (eqb-true a.chunk.kind 0 p'.0 ∙ sym (eqb-true b.chunk.kind 0 q'.0))))
        (eq-eqb a.chunk.index b.chunk.index (eqb-true a.chunk.index index p.1 ∙ sym (eqb-true b.chunk.index index q.1)))

-- picked parts keep apart
has_picked : (marked : List ℕ) (at : ℕ) (xs : List Part) (x : Part) → Has (picked marked at xs) x → Has xs x
has_picked marked at [] x h = h
has_picked marked at (y ∷ ys) x h = onto (is_among marked at) h (has_picked marked (at + 1) ys x)
  where
    onto : (b : Bool) → Has (cond b (y ∷ picked marked (at + 1) ys) (picked marked (at + 1) ys)) x → (Has (picked marked (at + 1) ys) x → Has ys x) → Has (y ∷ ys) x
    onto true (inl e) f = inl e
    onto true (inr h) f = inr (f h)
    onto false h f = inr (f h)

apart_picked : (marked : List ℕ) (at : ℕ) (xs : List Part) → Apart same_part xs → Apart same_part (picked marked at xs)
apart_picked marked at [] a = tt
apart_picked marked at (x ∷ xs) a = onto (is_among marked at) (apart_picked marked (at + 1) xs a.1) (λ y h. a.0 y (has_picked marked (at + 1) xs y h))
  where
    onto : (b : Bool) → Apart same_part (picked marked (at + 1) xs) → ((y : Part) → Has (picked marked (at + 1) xs) y → same_chunk x.chunk y.chunk ≡ true → ⊥)
        → Apart same_part (cond b (x ∷ picked marked (at + 1) xs) (picked marked (at + 1) xs))
    onto true r f = (f, r)
    onto false r f = r

pub picks_apart : (p : Program) (exports : List InputSymbol) → Apart same_part p.parts → Apart same_part (live p exports)
unfolding live
picks_apart p exports apart = apart_picked (reached (targets p) (root_places p exports)) 0 p.parts apart

pub live_apart : (p : Program) (exports : List InputSymbol) → Sound p → Apart same_part (live p exports)
live_apart p exports sound = picks_apart p exports sound.apart

module _ (parts : List Part) where
  abbrev pub Stood : FunctionKey → Type 0
  Stood (outside k) = is_function_type k.type ≡ true
  Stood (linker_function n) = (part : Part) × Has parts part × (is_function_at 0 n part ≡ true)
  Stood (stub name) = Unit {0}
  Stood (own i x) = (part : Part) × Has parts part × (is_function_at i x part ≡ true) × (i ≡ 0 → ⊥)

  made_stood : (k : FunctionKey) → Has (filter_map made_function_key parts) k → Stood k
  made_stood k h =
      let r = has_pick made_function_key parts k h in
      let c = r.0.chunk in
      let g = given_some ((c.input == 0) && (c.kind == 0)) (linker_function c.index) k r.2 in
      let q = and_parts (c.input == 0) (c.kind == 0) g.0 in
      subst Stood g.1 (r.0, r.1, and_from ((c.kind == 0) && (c.input == 0)) (c.index == c.index) (and_from (c.kind == 0) (c.input == 0) q.1 q.0) (eq-eqb c.index c.index refl))

  own_stood : (k : FunctionKey) → Has (filter_map own_function_key parts) k → Stood k
  own_stood k h =
      let r = has_pick own_function_key parts k h in
      let c = r.0.chunk in
      let g = given_some (not (c.input == 0) && (c.kind == 0)) (own c.input c.index) k r.2 in
      let q = and_parts (not (c.input == 0)) (c.kind == 0) g.0 in
      subst Stood g.1 (r.0, r.1, and_from ((c.kind == 0) && (c.input == c.input)) (c.index == c.index) (and_from (c.kind == 0) (c.input == c.input) q.1 (eq-eqb c.input c.input refl)) (eq-eqb c.index c.index refl), λ z. not_both (c.input == 0) q.0 (eq-eqb c.input 0 z))

  out_stood : (p : Program) (k : FunctionKey) → Has (map outside (function_imports_of Plain p (refs_of parts))) k → Stood k
  out_stood p k h =
      let r = has_map outside (function_imports_of Plain p (refs_of parts)) k h in
      let test = λ (k : ImportKey). is_function_type k.type && has_import (used_imports (filter (imports_by Plain) (refs_of parts))) k in
      let f = has_filter test (imports_in_order p) r.0 r.1 in
      subst Stood r.2 (and_parts (is_function_type r.0.type) (has_import (used_imports (filter (imports_by Plain) (refs_of parts))) r.0) f.1).0

  pub stood : (p : Program) (k : FunctionKey) → Has (functions Plain p parts) k → Stood k
  unfolding functions
  stood p k h =
      let outs = map outside (function_imports_of Plain p (refs_of parts)) in
      let mades = filter_map made_function_key parts in
      let stubs = map stub (stub_names p (refs_of parts)) in
      let owns = filter_map own_function_key parts in
      ⊎_elim (out_stood p k)
      (λ g. ⊎_elim
      (λ g. ⊎_elim (made_stood k) (λ a. let r = has_map stub (stub_names p (refs_of parts)) k a in subst Stood r.2 tt) (has_either mades stubs k g))
      (own_stood k) (has_either (mades ++ stubs) owns k g))
      (has_either outs (mades ++ stubs ++ owns) k h)

-- what a part of the output is known by
is_own : (part : Part) (input index : ℕ) → is_function_at input index part ≡ true → (part.chunk.kind ≡ 0) × (part.chunk.input ≡ input) × (part.chunk.index ≡ index)
is_own part input index t =
    let p = and_parts ((part.chunk.kind == 0) && (part.chunk.input == input)) (part.chunk.index == index) t in
    let q = and_parts (part.chunk.kind == 0) (part.chunk.input == input) p.0 in
    (eqb-true part.chunk.kind 0 q.0, eqb-true part.chunk.input input q.1, eqb-true part.chunk.index index p.1)

module _ (p : Program) (exports : List InputSymbol) (sound : Sound p) (cell : ℕ → ℕ) (straight : (n : ℕ) → cell n ≡ n) where
  abbrev parts : List Part
  parts = live p exports

  abbrev lay : Layout
  lay = layout Plain p (live p exports) exports

  abbrev ren : Renaming
  ren = renaming p (layout Plain p (live p exports) exports)

  -- a function of the output's module
  abbrev pub mod_source : FunctionKey → Source
  mod_source (outside k) = Host k.module_name k.field
  mod_source (linker_function n) = coded (op_of lay.numbers.types cell) (linked_source p lay parts (linker_function n))
  mod_source (stub name) = coded (op_of lay.numbers.types cell) (linked_source p lay parts (stub name))
  mod_source (own i x) = coded (op_of lay.numbers.types cell) (linked_source p lay parts (own i x))

  abbrev pub mod_function : FunctionKey → Option Runs
  mod_function k = Some (record { kind = type_of p parts k; source = mod_source k })

  module _ (gets : (part : Part) (ref : Ref) → Has parts part → part.chunk.kind ≡ 0 → (part.chunk.input ≡ 0 → ⊥) → Has part.named (a_symbol ref) → RefGets p lay ref)
      (called : (part : Part) (ref : Ref) → Has parts part → part.chunk.input ≡ 0 → Has (refs part) ref → FunctionGets ren (callee p ref) (function_number lay.numbers (ref_function ref)))
      (numbered : (part : Part) (w : TypeWindow) → Has parts part → part.chunk.kind ≡ 0 → (part.chunk.input ≡ 0 → ⊥) → Has part.named (a_type w) → number_at lay (a_type w) ≡ type_place lay.numbers w.type)
      (shaped : (part : Part) → Has parts part → part.chunk.kind ≡ 0 → (part.chunk.input ≡ 0 → ⊥) → IsShaped p part) where
    typed : (part : Part) → Has parts part → part.chunk.kind ≡ 0 → (part.chunk.input ≡ 0 → ⊥) → (w : TypeWindow) → Has part.named (a_type w) → slice_get lay.numbers.types (number_at lay (a_type w)) ≡ Some w.type
    unfolding layout types
    typed part h k z w m =
        ap (slice_get lay.numbers.types) (numbered part w h k z m)
        ∙ type_found (map (type_of p parts) (functions Plain p parts) ++ window_types parts) w.type
        (has_right (map (type_of p parts) (functions Plain p parts)) (window_types parts) w.type
        (flat_has types_named parts part w.type h (pick_has named_type part.named (a_type w) w.type m refl)))

    part_pairs : (part : Part) → Has parts part → part.chunk.kind ≡ 0 → (part.chunk.input ≡ 0 → ⊥) → IsShaped p part → SourcePairs ren (plan_part p lay (Some part)) (coded (op_of lay.numbers.types cell) (linked_part p lay (Some part)))
    part_pairs part h k z s = body_pairs p lay part.named lay.numbers.types cell straight (λ ref m. gets part ref h k z m) (λ w m. typed part h k z w m) _ s

    calls_pair : (part : Part) → (rs : List Ref) → ((ref : Ref) → Has rs ref → FunctionGets ren (callee p ref) (function_number lay.numbers (ref_function ref)))
        → SourcePairs ren (Code [] (map (call_of p lay) rs ++ Own (instrs.Plain 0x0B) ∷ [])) (coded (op_of lay.numbers.types cell) (record { locals = []; code = map (λ ref. record { instr = instrs.Call (function_number lay.numbers (ref_function ref)); at = 0; mid = 0; end = 0 }) rs ++ record { instr = instrs.Plain 0x0B; at = 0; mid = 0; end = 0 } ∷ [] }))
    calls_pair part [] f = (refl, (refl, tt))
    calls_pair part (ref ∷ rs) f = (refl, (to_call (callee p ref) (function_number lay.numbers (ref_function ref)) (f ref (inl refl)), (calls_pair part rs (λ q h. f q (inr h))).1))
      where
        to_call : (o : Option ℕ) (g : ℕ) → FunctionGets ren o g → OpPairs ren (to_name CallTo o) (CallTo g)
        to_call None g h = absurd h
        to_call (Some k) g h = h

    found_pairs : (i x : ℕ) (part : Part) → Has parts part → is_function_at i x part ≡ true → (i ≡ 0 → ⊥)
        → SourcePairs ren (plan_part p lay (find (is_function_at i x) p.parts)) (coded (op_of lay.numbers.types cell) (linked_part p lay (find (is_function_at i x) parts)))
    found_pairs i x part h t z =
        let a = find_part p.parts i x part sound.apart (live_part p exports part h) t in
        let b = find_part parts i x part (live_apart p exports sound) h t in
        let o = is_own part i x t in
        subst (λ q. SourcePairs ren (plan_part p lay q) (coded (op_of lay.numbers.types cell) (linked_part p lay (find (is_function_at i x) parts)))) (sym a)
        (subst (λ q. SourcePairs ren (plan_part p lay (Some part)) (coded (op_of lay.numbers.types cell) (linked_part p lay q))) (sym b)
        (part_pairs part h o.0 (λ e. z (sym o.1 ∙ e)) (shaped part h o.0 (λ e. z (sym o.1 ∙ e)))))

    made_pairs : (n : ℕ) (part : Part) → Has parts part → is_function_at 0 n part ≡ true
        → SourcePairs ren (plan_calls p lay (find (is_function_at 0 n) p.parts)) (coded (op_of lay.numbers.types cell) (linked_calls p lay (find (is_function_at 0 n) parts)))
    made_pairs n part h t =
        let a = find_part p.parts 0 n part sound.apart (live_part p exports part h) t in
        let b = find_part parts 0 n part (live_apart p exports sound) h t in
        let o = is_own part 0 n t in
        subst (λ q. SourcePairs ren (plan_calls p lay q) (coded (op_of lay.numbers.types cell) (linked_calls p lay (find (is_function_at 0 n) parts)))) (sym a)
        (subst (λ q. SourcePairs ren (plan_calls p lay (Some part)) (coded (op_of lay.numbers.types cell) (linked_calls p lay q))) (sym b)
        (calls_pair part (refs part) (λ ref m. called part ref h o.1 m)))

    key_pairs : (k : FunctionKey) → Stood parts k → Both (FunctionPairs ren) (plan_function p lay k) (mod_function k)
    key_pairs (outside k) s = record { kind = refl; source = (refl, refl) }
    key_pairs (linker_function n) s = record { kind = refl; source = made_pairs n s.0 s.1 s.2 }
    key_pairs (stub name) s = record { kind = refl; source = (refl, (refl, (refl, tt))) }
    key_pairs (own i x) s = record {
      kind =
          let a = find_part p.parts i x s.0 sound.apart (live_part p exports s.0 s.1) s.2 in
          let b = find_part parts i x s.0 (live_apart p exports sound) s.1 s.2 in
          ap part_type a ∙ sym (ap part_type b);
      source = found_pairs i x s.0 s.1 s.2 s.3;
    }

    -- each function that is called pairs with the one at its number
    pub functions_pair : (f g : ℕ) → Calls ren f g → Both (FunctionPairs ren) (joined (slice_get (map (plan_function p lay) (all_functions p)) f)) (joined (slice_get (map mod_function (functions Plain p parts)) g))
    unfolding layout
    functions_pair f g h =
        option_and_then_some (λ k. position (same_function k) (functions Plain p parts)) (slice_get (all_functions p) f) g h
        (λ k at there.
        let s = stands (same_function k) (functions Plain p parts) g there in
        let e = function_equal k s.item s.passes in
        let m : slice_get (functions Plain p parts) g ≡ Some k = s.there ∙ ap Some (sym e) in
        let a = slice_get-map (plan_function p lay) (all_functions p) f ∙ ap (option_map (plan_function p lay)) at in
        let b = slice_get-map mod_function (functions Plain p parts) g ∙ ap (option_map mod_function) m in
        let q = key_pairs k (stood parts p k (has_at (functions Plain p parts) g k m)) in
        subst (λ o. Both (FunctionPairs ren) (joined o) (joined (slice_get (map mod_function (functions Plain p parts)) g))) (sym a)
        (subst (λ o. Both (FunctionPairs ren) (plan_function p lay k) (joined o)) (sym b) q))
