-- The output's bytes are read as its module.
use Rattle.std.proofs.Common.{◌≡◌, ◌<◌, List, [], ◌∷◌, ◌++◌, map, Option, Some, None, true, false, refl, sym, ap, ◌∙◌, subst, inl, inr, arith}
use Rattle.std.specs.Prelude.{◌^◌, ◌==◌, ◌&&◌, ◌↔◌, find, cond, Ok}
use Rattle.std.specs.List.{AllZip}
use Rattle.std.proofs.lemmas.Bool.{and_parts, eqb-true}
use Rattle.list_places.specs.Has.{Has}
use Rattle.list_places.proofs.Lists.{has_right}
use Rattle.wasm_instr.specs.declared.body.Body.{Body}
use Rattle.wasm_instr.specs.Bodies.{SpellsBody}
use Rattle.wasm_instr.specs.BodyLaws.{body_again}
use Rattle.wasm_module.specs.declared.structure.Module.{Module}
use Rattle.wasm_module.specs.Modules.{IsModule, placeless}
use Rattle.wasm_module.specs.ModuleReading.{module_of}
use Rattle.ctor_call.specs.Body.{ctor_body}
use Rattle.made_symbols.specs.declared.mode.Mode.TheVariants.{Plain}
use Rattle.name_rules.specs.Entries.{InputSymbol}
use Rattle.reloc_apply.specs.declared.window.Patch.{Patch}
use Rattle.reloc_apply.specs.declared.window.Window.{Window}
use Rattle.reloc_apply.specs.Windows.{filled, patch_of}
use Rattle.image_emit.specs.Bytes.{Tree, source_bytes, bytes_of}
use Rattle.image_emit.specs.Filled.{each_filled}
use Rattle.image_emit.specs.Spelled.{module_with, IsTree, IsSpellable}
use Rattle.link_worlds.specs.link_rules.Program.{Program, Part}
use Rattle.link_worlds.specs.link_rules.Marks.{live, refs_of}
use Rattle.link_worlds.specs.link_rules.Keys.{FunctionKey, outside, linker_function, stub, own, functions, defined_functions, function_imports_of, is_function_at}
use Rattle.dylink_out.specs.Shared.{apply_body}
use Rattle.link_worlds.specs.link_rules.Loader.{words}
use Rattle.link_worlds.specs.link_rules.Values.{Layout, part_bytes, windows, named_window, solid_segments}
use Rattle.link_worlds.specs.link_rules.Output.{layout, image, source_windows, body_of, body_windows, windows_in, source_of, calls_of, defined}
use Rattle.link_worlds.specs.link_rules.LinkOf.{output_bytes}
use Rattle.link_worlds.specs.Bodies.{linked_source, linked_part, linked_body, linked_calls}
use Rattle.link_worlds.specs.Worlds.{layout_of, linked_tree, linked_bodies, module_by}
use Rattle.link_worlds.proofs.Functions.{stood, Stood, find_part, live_apart}
use Rattle.link_worlds.proofs.Spaces.{outer, outer_defined, kept_defined}
use Rattle.output_module.specs.Filled.{names_in, linked_with, FilledBody}
use Rattle.output_module.specs.Outputs.{IsCoded, IsWritten, IsRead, OutputIsRead}
use Rattle.output_module.proofs.Placeless.{same_trace}
use Rattle.output_module.proofs.Made.{calls_are, stub_is}

-- what the bytes of a tree spell
pub record AreSpelled : Type 0 where
  pub spelled : (t : Tree) (m : Module) → IsSpellable t → IsModule m (bytes_of t) ↔ IsTree m t
  pub read : (t : Tree) (m : Module) → IsSpellable t → IsTree m t → module_of (bytes_of t) ≡ Ok m
  pub only : (t : Tree) (m other : Module) → IsSpellable t → IsTree m t → IsModule other (bytes_of t) → other ≡ m

map_twice : {A B C : Type 0} (f : B → C) (g : A → B) (xs : List A) → map f (map g xs) ≡ map (λ x. f (g x)) xs
map_twice f g [] = refl
map_twice f g (x ∷ xs) = ap (λ ys. f (g x) ∷ ys) (map_twice f g xs)

module _ (filled_body : FilledBody) (p : Program) (exports : List InputSymbol) (w : IsWritten p exports (layout_of p exports)) where
  abbrev parts : List Part
  parts = live p exports

  abbrev lay : Layout
  lay = layout Plain p (live p exports) exports

  -- the body of a function of the output
  record Spelled (k : FunctionKey) : Type 0 where
    body : Body
    spells : SpellsBody body (filled (map patch_of (body_windows Plain p parts exports lay k)) (source_bytes p.files (body_of Plain p parts exports lay k)))
    same : placeless body ≡ placeless (linked_source p lay parts k)

  coded_body : (part : Part) → IsCoded p part → (b : Body) × SpellsBody b (filled (map patch_of (windows Plain lay part)) (part_bytes p part)) × (b ≡ linked_part p lay (Some part))
  unfolding windows
  coded_body part c = (
    linked_with p lay (names_in c.stands) c.body,
    subst (λ ps. SpellsBody (linked_with p lay (names_in c.stands) c.body) (filled ps (part_bytes p part)))
        (sym (ap (λ ns. map patch_of (map (named_window Plain lay) ns)) c.named ∙ map_twice patch_of (named_window Plain lay) (names_in c.stands)))
        (filled_body p lay c.body c.stands (part_bytes p part) c.spelled c.on),
    sym (ap (linked_body p lay part.named) (body_again (part_bytes p part) c.body c.spelled) ∙ ap (λ ns. linked_with p lay ns c.body) c.named),
  )

  made_body : (o : Option Part) (part : Part) → o ≡ Some part → (b : Body) × SpellsBody b (ctor_body (calls_of Plain p parts exports lay o)) × (placeless b ≡ placeless (linked_calls p lay o))
  made_body None part e = absurd (grind arith)
  made_body (Some q) part e = calls_are p lay q w.few

  own_body : (o : Option Part) (part : Part) → o ≡ Some part → IsCoded p part
      → (b : Body) × SpellsBody b (filled (map patch_of (windows_in Plain p parts exports lay o)) (source_bytes p.files (source_of Plain p parts exports lay o))) × (placeless b ≡ placeless (linked_part p lay o))
  own_body None part e c = absurd (grind arith)
  own_body (Some q) part e c =
      let z : part ≡ q = grind arith in
      let r = coded_body q (subst (IsCoded p) z c) in
      (r.0, r.1, ap placeless r.2)

  key_spelled : (k : FunctionKey) → outer p exports w.sound k ≡ false → Stood parts k → Spelled k
  key_spelled (outside k) o s = absurd (grind arith)
  key_spelled (linker_function n) o s =
      let z = w.made s.0 n s.1 s.2 in
      let f = find_part parts 0 n s.0 (live_apart p exports w.sound) s.1 s.2 in
      let r = made_body (find (is_function_at 0 n) parts) s.0 f in
      let t : (n == 0) ≡ true = ap (λ m. m == 0) z in
      record {
        body = r.0;
        spells = subst (λ c. SpellsBody r.0 (cond c (ctor_body (calls_of Plain p parts exports lay (find (is_function_at 0 n) parts))) (apply_body (words Plain p parts lay)))) (sym t) r.1;
        same = r.2;
      }
  key_spelled (stub name) o s = record { body = stub_is.0; spells = stub_is.1; same = stub_is.2 }
  key_spelled (own i x) o s =
      let f = find_part parts i x s.0 (live_apart p exports w.sound) s.1 s.2 in
      let q = and_parts ((s.0.chunk.kind == 0) && (s.0.chunk.input == i)) (s.0.chunk.index == x) s.2 in
      let q' = and_parts (s.0.chunk.kind == 0) (s.0.chunk.input == i) q.0 in
      let c = w.coded s.0 s.1 (eqb-true s.0.chunk.kind 0 q'.0) (λ z. s.3 (sym (eqb-true s.0.chunk.input i q'.1) ∙ z)) in
      let r = own_body (find (is_function_at i x) parts) s.0 f c in
      record { body = r.0; spells = r.1; same = r.2 }

  record Bodies (ks : List FunctionKey) (ws : List (List Window)) : Type 0 where
    list : List Body
    spell : AllZip SpellsBody list (each_filled (map (map patch_of) (map (body_windows Plain p parts exports lay) ks ++ ws)) (map (source_bytes p.files) (map (body_of Plain p parts exports lay) ks)))
    alike : map placeless list ≡ map placeless (map (linked_source p lay parts) ks)

  none_filled : (pss : List (List Patch)) → each_filled pss [] ≡ []
  none_filled [] = refl
  none_filled (ps ∷ pss) = refl

  all_spelled : (ks : List FunctionKey) (ws : List (List Window)) → ((k : FunctionKey) → Has ks k → (outer p exports w.sound k ≡ false) × Stood parts k) → Bodies ks ws
  all_spelled [] ws f = record { list = []; spell = subst (AllZip SpellsBody []) (sym (none_filled (map (map patch_of) ws))) tt; alike = refl }
  all_spelled (k ∷ ks) ws f =
      let q = f k (inl refl) in
      let one = key_spelled k q.0 q.1 in
      let r = all_spelled ks ws (λ j h. f j (inr h)) in
      record {
        list = one.body ∷ r.list;
        spell = (one.spells, r.spell);
        alike = ap (λ x. x ∷ map placeless r.list) one.same ∙ ap (λ xs. placeless (linked_source p lay parts k) ∷ xs) r.alike;
      }

  defined_is : defined Plain p parts exports lay ≡ defined_functions p parts
  unfolding layout functions
  defined_is = kept_defined p exports w.sound (function_imports_of Plain p (refs_of parts)) (defined_functions p parts) (outer_defined p exports w.sound)

  in_functions : (k : FunctionKey) → Has (defined_functions p parts) k → (outer p exports w.sound k ≡ false) × Stood parts k
  unfolding functions
  in_functions k h = (outer_defined p exports w.sound k h, stood parts p k (has_right (map outside (function_imports_of Plain p (refs_of parts))) (defined_functions p parts) k h))

  bodies_of : Bodies (defined Plain p parts exports lay) (map (windows Plain lay) (solid_segments p parts))
  bodies_of = subst (λ ks. Bodies ks (map (windows Plain lay) (solid_segments p parts))) (sym defined_is) (all_spelled (defined_functions p parts) (map (windows Plain lay) (solid_segments p parts)) in_functions)

  is_tree : IsTree (module_with bodies_of.list (linked_tree p parts exports lay)) (linked_tree p parts exports lay)
  unfolding image source_windows
  is_tree = record { parts = refl; bodies = bodies_of.spell }

  pub read_back : AreSpelled → IsRead p exports (output_bytes Plain p (image Plain p parts exports lay) (source_windows Plain p parts exports lay))
  unfolding output_bytes module_by
  read_back law = record {
    is = module_with bodies_of.list (linked_tree p parts exports lay);
    read = law.read (linked_tree p parts exports lay) (module_with bodies_of.list (linked_tree p parts exports lay)) w.spellable is_tree;
    spelled = (law.spelled (linked_tree p parts exports lay) (module_with bodies_of.list (linked_tree p parts exports lay)) w.spellable).1 is_tree;
    only = λ other s. law.only (linked_tree p parts exports lay) (module_with bodies_of.list (linked_tree p parts exports lay)) other w.spellable is_tree s;
    linked = record { rest = refl; bodies = bodies_of.alike };
    runs = λ s n. same_trace s (linked_tree p parts exports lay) bodies_of.list (linked_bodies p parts exports lay) n bodies_of.alike;
  }

pub output_is_read : FilledBody → AreSpelled → OutputIsRead
output_is_read filled_body law p exports w = read_back filled_body p exports w law
