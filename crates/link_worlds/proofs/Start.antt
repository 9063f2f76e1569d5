-- The cells of both worlds are alike at first.
use Rattle.std.proofs.Common.{◌≡◌, ℕ, List, [], ◌∷◌, ◌++◌, map, Option, Some, None, Bool, true, false, refl, sym, ap, ◌∙◌, subst, inl, inr, ⊎_elim, arith}
use Rattle.std.specs.Prelude.{◌==◌, ◌&&◌, not, slice_get, find, filter_map, position, option_map, option_and_then, cond, ◌<◌, ◌^◌, ◌-◌, nat_lt, pos, negsuc}
use Rattle.std.specs.List.{cons_option}
use Rattle.std.specs.Int.{cast_unsigned, w32}
use Rattle.std.proofs.lemmas.Option.{option_and_then_some, slice_get-map}
use Rattle.std.proofs.lemmas.Bool.{and_from, and_parts, eqb-true, eq-eqb}
use Rattle.list_places.specs.Has.{Has, Apart}
use Rattle.list_places.proofs.Lists.{by_test, has_at, has_either, has_map, has_pick, stands, not_both}
use Rattle.wl_base.specs.Choice.{given}
use Rattle.wasm_types.specs.declared.const_expr.ConstExpr.{ConstExpr}
use Rattle.wasm_types.specs.declared.const_expr.ConstExpr.TheVariants as exprs
use Rattle.wasm_module.specs.declared.parts.ModuleGlobal.{ModuleGlobal}
use Rattle.run_rules.specs.declared.value.Value.{Value}
use Rattle.run_rules.specs.declared.value.Value.TheVariants as values
use Rattle.run_rules.specs.declared.session.Session.{Session}
use Rattle.run_rules.specs.Modules.{first_value, first_values, expr_value}
use Rattle.sim_laws.specs.Pairs.{CellsPair}
use Rattle.linking_section.specs.declared.symbol.SymbolKind.TheVariants.{Datum}
use Rattle.made_symbols.specs.declared.mode.Mode.TheVariants.{Plain}
use Rattle.name_rules.specs.Entries.{InputSymbol, ImportKey, SymbolType, of_function, of_global, untyped, is_kind}
use Rattle.reloc_apply.specs.Windows.{signed32}
use Rattle.link_rules.specs.Program.{Program, Part, Content, function, segment, global, linker_made, same_chunk}
use Rattle.link_rules.specs.Marks.{live, refs_of}
use Rattle.link_rules.specs.Keys.{GlobalKey, outside_global, linker_global, own_global, got, exported_datum, same_global, globals, used_globals, made_global_key, own_global_key, got_entries, datum_key}
use Rattle.link_rules.specs.Values.{Layout, made_global_value, got_value, address_of}
use Rattle.link_rules.specs.Output.{layout, global_for, global_content, content_global}
use Rattle.link_worlds.specs.Names.{all_cells, constant_of, renaming}
use Rattle.link_worlds.specs.Worlds.{cell_value, part_value, content_value, global_kind}
use Rattle.link_worlds.specs.Sound.{Sound, same_part, IsGlobalPart, IsConstant, IsSmall}
use Rattle.link_worlds.proofs.Keys.{import_equal}
use Rattle.link_worlds.proofs.Live.{live_part}
use Rattle.link_worlds.proofs.Functions.{live_apart}
use Rattle.link_worlds.proofs.Cells.{IsPlain, plain_cell}
use Rattle.link_worlds.proofs.Imports.{cell_import, imported_key}

abbrev pub is_global_at : ℕ → ℕ → Part → Bool
is_global_at input index part = (part.chunk.kind == 2) && (part.chunk.input == input) && (part.chunk.index == index)

find_global : (xs : List Part) (input index : ℕ) (part : Part) → Apart same_part xs → Has xs part → is_global_at input index part ≡ true → find (is_global_at input index) xs ≡ Some part
find_global [] input index part a h t = absurd h
find_global (x ∷ xs) input index part a (inl e) t = ap (λ b. cond b (Some x) (find (is_global_at input index) xs)) (ap (is_global_at input index) e ∙ t) ∙ ap Some e
find_global (x ∷ xs) input index part a (inr h) t =
    by_test (is_global_at input index x)
    (λ k. absurd (a.0 part h (both_there x part k t)))
    (λ k. ap (λ b. cond b (Some x) (find (is_global_at input index) xs)) k ∙ find_global xs input index part a.1 h t)
  where
    both_there : (a b : Part) → is_global_at input index a ≡ true → is_global_at input index b ≡ true → same_chunk a.chunk b.chunk ≡ true
    both_there a b k t =
        let p = and_parts ((a.chunk.kind == 2) && (a.chunk.input == input)) (a.chunk.index == index) k in
        let q = and_parts ((b.chunk.kind == 2) && (b.chunk.input == input)) (b.chunk.index == index) t in
        let p' = and_parts (a.chunk.kind == 2) (a.chunk.input == input) p.0 in
        let q' = and_parts (b.chunk.kind == 2) (b.chunk.input == input) q.0 in
        and_from ((a.chunk.input == b.chunk.input) && (a.chunk.kind == b.chunk.kind)) (a.chunk.index == b.chunk.index)
        (and_from (a.chunk.input == b.chunk.input) (a.chunk.kind == b.chunk.kind)
        (eq-eqb a.chunk.input b.chunk.input (eqb-true a.chunk.input input p'.1 ∙ sym (eqb-true b.chunk.input input q'.1)))
        (eq-eqb a.chunk.kind b.chunk.kind (eqb-true a.chunk.kind 2 p'.0 ∙ sym (eqb-true b.chunk.kind 2 q'.0))))
        (eq-eqb a.chunk.index b.chunk.index (eqb-true a.chunk.index index p.1 ∙ sym (eqb-true b.chunk.index index q.1)))

-- an object's global of the output stands in a live part
abbrev pub IfOwn : List Part → GlobalKey → Type 0
IfOwn parts (outside_global k) = Unit {0}
IfOwn parts (linker_global k) = Unit {0}
IfOwn parts (own_global i x) = (part : Part) × Has parts part × (is_global_at i x part ≡ true) × (i ≡ 0 → ⊥)
IfOwn parts (got k) = Unit {0}
IfOwn parts (exported_datum e) = Unit {0}

given_own : (parts : List Part) (t : Bool) (x k : GlobalKey) → given t x ≡ Some k → (t ≡ true → IfOwn parts x) → IfOwn parts k
given_own parts true x k h p = subst (IfOwn parts) (grind arith) (p refl)
given_own parts false x k h p = absurd (grind arith)

pub own_among : (p : Program) (parts : List Part) (exports : List InputSymbol) (k : GlobalKey) → Has (globals Plain p parts exports) k → IfOwn parts k
unfolding globals
own_among p parts exports k h =
    let P = IfOwn parts in
    let outs = map outside_global (used_globals Plain p (refs_of parts)) in
    let mades = filter_map made_global_key parts in
    let owns = filter_map own_global_key parts in
    let gots = map got (got_entries Plain parts) in
    let dates = filter_map datum_key exports in
    ⊎_elim
    (λ a. let r = has_map outside_global (used_globals Plain p (refs_of parts)) k a in subst P r.2 tt)
    (λ g. ⊎_elim
    (λ g. ⊎_elim
    (λ g. ⊎_elim
    (λ a. let r = has_pick made_global_key parts k a in given_own parts ((r.0.chunk.input == 0) && (r.0.chunk.kind == 2)) (linker_global r.0.chunk.index) k r.2 (λ _. tt))
    (λ a. let r = has_pick own_global_key parts k a in
    given_own parts (not (r.0.chunk.input == 0) && (r.0.chunk.kind == 2)) (own_global r.0.chunk.input r.0.chunk.index) k r.2
    (λ t. let c = r.0.chunk in let q = and_parts (not (c.input == 0)) (c.kind == 2) t in
    (r.0, r.1, and_from ((c.kind == 2) && (c.input == c.input)) (c.index == c.index) (and_from (c.kind == 2) (c.input == c.input) q.1 (eq-eqb c.input c.input refl)) (eq-eqb c.index c.index refl), λ z. not_both (c.input == 0) q.0 (eq-eqb c.input 0 z))))
    (has_either mades owns k g))
    (λ a. let r = has_map got (got_entries Plain parts) k a in subst P r.2 tt)
    (has_either (mades ++ owns) gots k g))
    (λ a. let r = has_pick datum_key exports k a in given_own parts (is_kind Datum r.0) (exported_datum r.0) k r.2 (λ _. tt))
    (has_either (mades ++ owns ++ gots) dates k g))
    (has_either outs (mades ++ owns ++ gots ++ dates) k h)

-- whether a global is defined in the output
abbrev pub inner : GlobalKey → Bool
inner (outside_global k) = false
inner (linker_global n) = true
inner (own_global i x) = true
inner (got k) = true
inner (exported_datum e) = true

-- 32 bits with a sign, and back
pub unsigned_again : (n : ℕ) → n < 2 ^ 32 → cast_unsigned w32 (signed32 n) ≡ n
unsigned_again n h = onto (nat_lt n (2 ^ 31)) refl
  where
    onto : (b : Bool) → nat_lt n (2 ^ 31) ≡ b → cast_unsigned w32 (cond b (pos n) (negsuc (2 ^ 32 - 1 - n))) ≡ n
    onto true e = refl
    onto false e = omega arith

module _ (s : Session) (p : Program) (exports : List InputSymbol) (sound : Sound p) (l : Layout) where
  abbrev parts : List Part
  parts = live p exports

  one_value : (k d : GlobalKey) → IsPlain k → same_global k d ≡ true → IfOwn parts d → cell_value s p.parts l k ≡ cell_value s parts l d
  one_value (outside_global a) (outside_global b) h e o = ap (λ k. cell_value s parts l (outside_global k)) (import_equal a b e)
  one_value (linker_global a) (linker_global b) h e o = ap (λ n. cell_value s parts l (linker_global n)) (eqb-true a b e)
  one_value (own_global a i) (own_global b j) h e o =
      let r = and_parts (a == b) (i == j) e in
      ap (λ n. cell_value s p.parts l (own_global n i)) (eqb-true a b r.0)
      ∙ ap (λ n. cell_value s p.parts l (own_global b n)) (eqb-true i j r.1)
      ∙ ap part_value (find_global p.parts b j o.0 sound.apart (live_part p exports o.0 o.1) o.2)
      ∙ sym (ap part_value (find_global parts b j o.0 (live_apart p exports sound) o.1 o.2))
  one_value (got a) d h e o = absurd h
  one_value (exported_datum a) d h e o = absurd h
  one_value _ _ h e o = absurd (grind arith)

  held_value : (d : GlobalKey) (n : ℕ) → constant_of l d ≡ Some n → cell_value s parts l d ≡ Some (values.I32 n)
  held_value (outside_global k) n h = absurd (grind arith)
  held_value (linker_global k) n h = absurd (grind arith)
  held_value (own_global i k) n h = absurd (grind arith)
  held_value (got k) n h = ap (λ o. as_value o) h
    where
      as_value : Option ℕ → Option Value
      as_value None = None
      as_value (Some n) = Some (values.I32 n)
  held_value (exported_datum e) n h = ap (λ o. as_value o) h
    where
      as_value : Option ℕ → Option Value
      as_value None = None
      as_value (Some n) = Some (values.I32 n)

module _ (s : Session) (p : Program) (exports : List InputSymbol) (sound : Sound p) where
  abbrev parts' : List Part
  parts' = live p exports

  abbrev lay : Layout
  lay = layout Plain p (live p exports) exports

  abbrev gs : List GlobalKey
  gs = globals Plain p (live p exports) exports

  by_place : (d n : ℕ) → option_and_then (constant_of lay) (slice_get gs d) ≡ Some n → (o : Option GlobalKey) → slice_get gs d ≡ o
      → slice_get (map (cell_value s parts' lay) gs) d ≡ Some (Some (values.I32 n))
  by_place d n h None e = absurd (let q = ap (option_and_then (constant_of lay)) (sym e) ∙ h in grind arith)
  by_place d n h (Some k) e =
      slice_get-map (cell_value s parts' lay) gs d ∙ ap (option_map (cell_value s parts' lay)) e
      ∙ ap Some (held_value s p exports sound lay k n (ap (option_and_then (constant_of lay)) (sym e) ∙ h))

  -- the cells of the program, and those of the output by their keys
  pub cells_pair : CellsPair (renaming p lay) (map (cell_value s p.parts lay) (all_cells p)) (map (cell_value s parts' lay) gs)
  unfolding layout
  cells_pair = record {
    renamed = λ c d h. option_and_then_some (λ k. position (same_global k) gs) (slice_get (all_cells p) c) d h
        (λ k at place.
        let t = stands (same_global k) gs d place in
        slice_get-map (cell_value s p.parts lay) (all_cells p) c ∙ ap (option_map (cell_value s p.parts lay)) at
        ∙ ap Some (one_value s p exports sound lay k t.item (plain_cell p k (has_at (all_cells p) c k at)) t.passes (own_among p parts' exports t.item (has_at gs d t.item t.there)))
        ∙ sym (slice_get-map (cell_value s parts' lay) gs d ∙ ap (option_map (cell_value s parts' lay)) t.there));
    constant = λ d n h. by_place d n h (slice_get gs d) refl;
  }

  -- ---- the output's globals as cells

  number_value : (firsts : List Value) (n : ℕ) → n < 2 ^ 32 → expr_value firsts (exprs.I32 (signed32 n)) ≡ Some (values.I32 n)
  number_value firsts n h = ap (λ k. Some (values.I32 k)) (unsigned_again n h)

  constant_value : (firsts : List Value) (x : ConstExpr) → IsConstant x → expr_value firsts x ≡ expr_value [] x
  constant_value firsts (exprs.I32 n) h = refl
  constant_value firsts (exprs.I64 n) h = refl
  constant_value firsts (exprs.Get g) h = absurd h

  abbrev values_in : List Value → Option ModuleGlobal → List (Option Value) → List (Option Value)
  values_in firsts None vs = vs
  values_in firsts (Some g) vs = expr_value firsts g.value ∷ vs

  content_is : (firsts : List Value) (c : Content) → IsGlobalPart c → (vs : List (Option Value)) → values_in firsts (content_global c) vs ≡ content_value c ∷ vs
  content_is firsts (function t) h vs = absurd h
  content_is firsts (segment i) h vs = absurd h
  content_is firsts (global g) h vs = ap (λ v. v ∷ vs) (constant_value firsts g.value h)
  content_is firsts (linker_made m) h vs = absurd h

  module _ (firsts : List Value)
      (constants : (part : Part) → Has parts' part → part.chunk.kind ≡ 2 → (part.chunk.input ≡ 0 → ⊥) → IsGlobalPart part.content)
      (small : (k : GlobalKey) → Has gs k → IsSmall lay k) where
    global_is : (k : GlobalKey) → inner k ≡ true → Has gs k → (vs : List (Option Value)) → values_in firsts (global_for Plain p parts' exports lay k) vs ≡ cell_value s parts' lay k ∷ vs
    global_is (outside_global k) i h vs = absurd (grind arith)
    global_is (linker_global n) i h vs = ap (λ v. v ∷ vs) (number_value firsts (made_global_value lay n) (small (linker_global n) h))
    global_is (own_global a x) i h vs =
        let o = own_among p parts' exports (own_global a x) h in
        let f = find_global parts' a x o.0 (live_apart p exports sound) o.1 o.2 in
        let q = and_parts ((o.0.chunk.kind == 2) && (o.0.chunk.input == a)) (o.0.chunk.index == x) o.2 in
        let r = and_parts (o.0.chunk.kind == 2) (o.0.chunk.input == a) q.0 in
        let c = constants o.0 o.1 (eqb-true o.0.chunk.kind 2 r.0) (λ z. o.3 (sym (eqb-true o.0.chunk.input a r.1) ∙ z)) in
        ap (λ t. values_in firsts (global_content Plain p parts' exports lay t) vs) f ∙ content_is firsts o.0.content c vs ∙ ap (λ t. part_value t ∷ vs) (sym f)
    global_is (got k) i h vs = ap (λ v. v ∷ vs) (number_value firsts (got_value Plain lay k) (small (got k) h))
    global_is (exported_datum e) i h vs = ap (λ v. v ∷ vs) (number_value firsts (address_of Plain lay e) (small (exported_datum e) h))

    mapped_in : (o : Option ModuleGlobal) (rest : List ModuleGlobal) → map (λ (g : ModuleGlobal). expr_value firsts g.value) (cons_option o rest) ≡ values_in firsts o (map (λ (g : ModuleGlobal). expr_value firsts g.value) rest)
    mapped_in None rest = refl
    mapped_in (Some g) rest = refl

    pub defined_are : (ks : List GlobalKey) → ((k : GlobalKey) → Has ks k → (inner k ≡ true) × Has gs k)
        → map (λ (g : ModuleGlobal). expr_value firsts g.value) (filter_map (global_for Plain p parts' exports lay) ks) ≡ map (cell_value s parts' lay) ks
    defined_are [] f = refl
    defined_are (k ∷ ks) f =
        let q = f k (inl refl) in
        mapped_in (global_for Plain p parts' exports lay k) (filter_map (global_for Plain p parts' exports lay) ks)
        ∙ global_is k q.0 q.1 (map (λ (g : ModuleGlobal). expr_value firsts g.value) (filter_map (global_for Plain p parts' exports lay) ks))
        ∙ ap (λ vs. cell_value s parts' lay k ∷ vs) (defined_are ks (λ j h. f j (inr h)))

    pub outer_none : (ks : List ImportKey) (ds : List GlobalKey) → filter_map (global_for Plain p parts' exports lay) (map outside_global ks ++ ds) ≡ filter_map (global_for Plain p parts' exports lay) ds
    outer_none [] ds = refl
    outer_none (k ∷ ks) ds = outer_none ks ds

    pub imports_first : (ks : List ImportKey) (ds : List GlobalKey) → ((k : GlobalKey) → Has ds k → inner k ≡ true)
        → map Some (first_values s (filter_map (imported_key p parts' exports lay) (map outside_global ks ++ ds))) ≡ map (cell_value s parts' lay) (map outside_global ks)
    imports_first [] [] g = refl
    imports_first [] (outside_global k ∷ ds) g = absurd (let e = g (outside_global k) (inl refl) in grind arith)
    imports_first [] (linker_global n ∷ ds) g = imports_first [] ds (λ k h. g k (inr h))
    imports_first [] (own_global i x ∷ ds) g = imports_first [] ds (λ k h. g k (inr h))
    imports_first [] (got k ∷ ds) g = imports_first [] ds (λ k h. g k (inr h))
    imports_first [] (exported_datum e ∷ ds) g = imports_first [] ds (λ k h. g k (inr h))
    imports_first (k ∷ ks) ds g = ap (λ v. v ∷ map Some (first_values s (filter_map (imported_key p parts' exports lay) (map outside_global ks ++ ds)))) (one k.type k.module_name k.field)
        ∙ ap (λ vs. cell_value s parts' lay (outside_global k) ∷ vs) (imports_first ks ds g)
      where
        one : (t : SymbolType) (place field : List ℕ) → Some (first_value s place field (cell_import p parts' exports lay (record { module_name = place; field = field; type = t })).kind.kind) ≡ Some (first_value s place field (global_kind t))
        one (of_function t) place field = refl
        one (of_global t) place field = refl
        one untyped place field = refl
