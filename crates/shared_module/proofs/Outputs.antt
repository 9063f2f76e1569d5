-- The bytes of a shared output are read as its module.
use Rattle.std.proofs.Common.{◌≡◌, List, [], ◌∷◌, ◌++◌, map, Option, Some, None, Bool, true, false, refl, sym, ap, ◌∙◌, subst, inl, inr, arith}
use Rattle.std.specs.Prelude.{◌==◌, ◌&&◌, find, cond}
use Rattle.std.specs.List.{AllZip}
use Rattle.std.proofs.lemmas.Bool.{and_parts, eqb-true}
use Rattle.list_places.specs.Has.{Has, Apart}
use Rattle.list_places.proofs.Lists.{has_right}
use Rattle.wasm_instr.specs.declared.body.Body.{Body}
use Rattle.wasm_instr.specs.Bodies.{SpellsBody}
use Rattle.wasm_instr.specs.BodyLaws.{body_again}
use Rattle.wasm_module.specs.Modules.{placeless}
use Rattle.ctor_call.specs.Body.{ctor_body}
use Rattle.dylink_out.specs.Shared.{apply_body}
use Rattle.made_symbols.specs.declared.mode.Mode.TheVariants.{Shared}
use Rattle.made_symbols.specs.Made.{call_ctors}
use Rattle.name_rules.specs.Entries.{InputSymbol}
use Rattle.reloc_apply.specs.declared.window.Patch.{Patch}
use Rattle.reloc_apply.specs.declared.window.Window.{Window}
use Rattle.reloc_apply.specs.Windows.{filled, patch_of}
use Rattle.image_emit.specs.Bytes.{source_bytes}
use Rattle.image_emit.specs.Filled.{each_filled}
use Rattle.image_emit.specs.Spelled.{module_with, IsTree}
use Rattle.output_module.specs.link_worlds.link_rules.Program.{Program, Part}
use Rattle.output_module.specs.link_worlds.link_rules.Marks.{live}
use Rattle.output_module.specs.link_worlds.link_rules.Keys.{FunctionKey, outside, linker_function, stub, own, functions, defined_functions, is_function_at}
use Rattle.output_module.specs.link_worlds.link_rules.Loader.{words}
use Rattle.output_module.specs.link_worlds.link_rules.Values.{Layout, part_bytes, windows, named_window, solid_segments}
use Rattle.output_module.specs.link_worlds.link_rules.Output.{layout, image, source_windows, held_as, body_of, body_windows, windows_in, source_of, calls_of, defined, is_import}
use Rattle.output_module.specs.link_worlds.link_rules.LinkOf.{output_bytes}
use Rattle.output_module.specs.link_worlds.Bodies.{body_in, part_in, linked_calls}
use Rattle.output_module.specs.link_worlds.Sound.{same_part}
use Rattle.link_worlds.proofs.Functions.{stood, Stood, find_part, picks_apart}
use Rattle.output_module.specs.Filled.{names_in, numbered_with, FilledBodies}
use Rattle.output_module.specs.Outputs.{IsCoded}
use Rattle.output_module.proofs.Outputs.{AreSpelled}
use Rattle.output_module.proofs.Placeless.{same_trace}
use Rattle.output_module.proofs.Made.{calls_are, stub_is}
use Rattle.shared_module.specs.Applied.{applied}
use Rattle.shared_module.specs.Outputs.{shared_source, shared_bodies, shared_tree, shared_by, IsSharedWritten, IsSharedRead, SharedOutputIsRead}
use Rattle.shared_module.proofs.Applied.{applied_is}
use Rattle.shared_module.proofs.Keys.{inner, defined_is}
use Rattle.shared_module.proofs.Held.{held_patches}

module _ (filled_bodies : FilledBodies) (p : Program) (exports : List InputSymbol) (w : IsSharedWritten p exports) where
  abbrev parts : List Part
  parts = live p exports

  abbrev lay : Layout
  lay = layout Shared p (live p exports) exports

  -- what is written into windows
  abbrev written : List Window → List Patch
  written ws = map patch_of (map (λ w. held_as w.form w) ws)

  -- the body of a function of the output
  record Spelled (k : FunctionKey) : Type 0 where
    body : Body
    spells : SpellsBody body (filled (written (body_windows Shared p parts exports lay k)) (source_bytes p.files (body_of Shared p parts exports lay k)))
    same : placeless body ≡ placeless (shared_source p lay parts k)

  coded_body : (part : Part) → IsCoded p part → (b : Body) × SpellsBody b (filled (written (windows Shared lay part)) (part_bytes p part)) × (b ≡ part_in Shared lay p (Some part))
  unfolding windows
  coded_body part c = (
    numbered_with Shared lay (names_in c.stands) c.body,
    subst (λ ps. SpellsBody (numbered_with Shared lay (names_in c.stands) c.body) (filled ps (part_bytes p part)))
        (sym (ap (λ ns. written (map (named_window Shared lay) ns)) c.named ∙ held_patches lay _ c.stands c.on))
        (filled_bodies Shared lay c.body c.stands (part_bytes p part) c.spelled c.on),
    sym (ap (body_in Shared lay part.named) (body_again (part_bytes p part) c.body c.spelled) ∙ ap (λ ns. numbered_with Shared lay ns c.body) c.named),
  )

  calls_body : (o : Option Part) (part : Part) → o ≡ Some part → (b : Body) × SpellsBody b (ctor_body (calls_of Shared p parts exports lay o)) × (placeless b ≡ placeless (linked_calls p lay o))
  calls_body None part e = absurd (grind arith)
  calls_body (Some q) part e = calls_are p lay q w.few

  -- the linker's functions
  made_body : (o : Option Part) (part : Part) → o ≡ Some part → (first : Bool)
      → (b : Body) × SpellsBody b (cond first (ctor_body (calls_of Shared p parts exports lay o)) (apply_body (words Shared p parts lay)))
      × (placeless b ≡ placeless (cond first (linked_calls p lay o) (applied (words Shared p parts lay))))
  made_body o part e true = calls_body o part e
  made_body o part e false = applied_is (words Shared p parts lay) w.stored

  own_body : (o : Option Part) (part : Part) → o ≡ Some part → IsCoded p part
      → (b : Body) × SpellsBody b (filled (written (windows_in Shared p parts exports lay o)) (source_bytes p.files (source_of Shared p parts exports lay o))) × (placeless b ≡ placeless (part_in Shared lay p o))
  own_body None part e c = absurd (grind arith)
  own_body (Some q) part e c =
      let z : part ≡ q = grind arith in
      let r = coded_body q (subst (IsCoded p) z c) in
      (r.0, r.1, ap placeless r.2)

  apart : Apart same_part parts
  apart = picks_apart p exports w.apart

  key_spelled : (k : FunctionKey) → is_import Shared p parts exports lay k ≡ false → Stood parts k → Spelled k
  key_spelled (outside k) o s = absurd (grind arith)
  key_spelled (linker_function n) o s =
      let r = made_body (find (is_function_at 0 n) parts) s.0 (find_part parts 0 n s.0 apart s.1 s.2) (n == call_ctors) in
      record { body = r.0; spells = r.1; same = r.2 }
  key_spelled (stub name) o s = record { body = stub_is.0; spells = stub_is.1; same = stub_is.2 }
  key_spelled (own i x) o s =
      let f = find_part parts i x s.0 apart s.1 s.2 in
      let q = and_parts ((s.0.chunk.kind == 0) && (s.0.chunk.input == i)) (s.0.chunk.index == x) s.2 in
      let q' = and_parts (s.0.chunk.kind == 0) (s.0.chunk.input == i) q.0 in
      let c = w.coded s.0 s.1 (eqb-true s.0.chunk.kind 0 q'.0) (λ z. s.3 (sym (eqb-true s.0.chunk.input i q'.1) ∙ z)) in
      let r = own_body (find (is_function_at i x) parts) s.0 f c in
      record { body = r.0; spells = r.1; same = r.2 }

  record Bodies (ks : List FunctionKey) (ws : List (List Window)) : Type 0 where
    list : List Body
    spell : AllZip SpellsBody list (each_filled (map (map patch_of) (map (map (λ w. held_as w.form w)) (map (body_windows Shared p parts exports lay) ks ++ ws))) (map (source_bytes p.files) (map (body_of Shared p parts exports lay) ks)))
    alike : map placeless list ≡ map placeless (map (shared_source p lay parts) ks)

  none_filled : (pss : List (List Patch)) → each_filled pss [] ≡ []
  none_filled [] = refl
  none_filled (ps ∷ pss) = refl

  all_spelled : (ks : List FunctionKey) (ws : List (List Window)) → ((k : FunctionKey) → Has ks k → (is_import Shared p parts exports lay k ≡ false) × Stood parts k) → Bodies ks ws
  all_spelled [] ws f = record { list = []; spell = subst (AllZip SpellsBody []) (sym (none_filled (map (map patch_of) (map (map (λ w. held_as w.form w)) ws)))) tt; alike = refl }
  all_spelled (k ∷ ks) ws f =
      let q = f k (inl refl) in
      let one = key_spelled k q.0 q.1 in
      let r = all_spelled ks ws (λ j h. f j (inr h)) in
      record {
        list = one.body ∷ r.list;
        spell = (one.spells, r.spell);
        alike = ap (λ x. x ∷ map placeless r.list) one.same ∙ ap (λ xs. placeless (shared_source p lay parts k) ∷ xs) r.alike;
      }

  in_functions : (k : FunctionKey) → Has (defined_functions p parts) k → (is_import Shared p parts exports lay k ≡ false) × Stood parts k
  unfolding functions
  in_functions k h = (inner p parts exports k h, stood parts p k (has_right _ (defined_functions p parts) k h))

  bodies_of : Bodies (defined Shared p parts exports lay) (map (windows Shared lay) (solid_segments p parts))
  bodies_of = subst (λ ks. Bodies ks (map (windows Shared lay) (solid_segments p parts))) (sym (defined_is p parts exports)) (all_spelled (defined_functions p parts) (map (windows Shared lay) (solid_segments p parts)) in_functions)

  is_tree : IsTree (module_with bodies_of.list (shared_tree p parts exports lay)) (shared_tree p parts exports lay)
  unfolding image source_windows
  is_tree = record { parts = refl; bodies = bodies_of.spell }

  pub read_back : AreSpelled → IsSharedRead p exports (output_bytes Shared p (image Shared p parts exports lay) (source_windows Shared p parts exports lay))
  unfolding output_bytes shared_by
  read_back law = record {
    is = module_with bodies_of.list (shared_tree p parts exports lay);
    read = law.read (shared_tree p parts exports lay) (module_with bodies_of.list (shared_tree p parts exports lay)) w.spellable is_tree;
    spelled = (law.spelled (shared_tree p parts exports lay) (module_with bodies_of.list (shared_tree p parts exports lay)) w.spellable).1 is_tree;
    only = λ other s. law.only (shared_tree p parts exports lay) (module_with bodies_of.list (shared_tree p parts exports lay)) other w.spellable is_tree s;
    linked = record { rest = refl; bodies = bodies_of.alike };
    runs = λ s n. same_trace s (shared_tree p parts exports lay) bodies_of.list (shared_bodies p parts exports lay) n bodies_of.alike;
  }

pub output_is_read : FilledBodies → AreSpelled → SharedOutputIsRead
output_is_read filled_bodies law p exports w = read_back filled_bodies p exports w law
