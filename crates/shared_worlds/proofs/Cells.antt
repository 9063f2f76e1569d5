-- Cells keep apart, and none that is written is a constant.
use Rattle.std.proofs.Common.{◌≡◌, ℕ, List, [], ◌∷◌, ◌++◌, map, Some, None, Bool, true, false, refl, sym, ap, ◌∙◌, subst, ⊎_elim, arith}
use Rattle.std.specs.Prelude.{◌==◌, ◌&&◌, not, slice_get, filter, filter_map, position, option_and_then}
use Rattle.std.proofs.lemmas.Option.{option_and_then_some}
use Rattle.std.proofs.lemmas.Bool.{and_parts, and_from, eqb-true, eq-eqb}
use Rattle.list_places.specs.Has.{Has, Apart}
use Rattle.list_places.proofs.Lists.{has_at, has_either, has_map, has_pick, stands, turned, one_place, apart_append, apart_map, apart_pick, apart_distinct, apart_place, given_some}
use Rattle.made_symbols.specs.declared.mode.Mode.TheVariants.{Shared}
use Rattle.name_rules.specs.Entries.{ImportKey, same_import}
use Rattle.name_rules.specs.Further.{made_global_import}
use Rattle.link_rules.specs.Program.{Program, Part, same_chunk}
use Rattle.link_rules.specs.Marks.{refs_of}
use Rattle.link_rules.specs.Keys.{GlobalKey, outside_global, linker_global, own_global, got, exported_datum, same_global, same_got, globals, global_imports_in, foreign_cells, used_globals, own_global_key, got_entries, needs_got, ref_got, parts_of_kind}
use Rattle.link_rules.specs.Values.{Layout}
use Rattle.link_worlds.specs.Sound.{Sound}
use Rattle.link_worlds.proofs.Keys.{globals_same, imports_same, gots_same}
use Rattle.shared_module.proofs.Keys.{by_global}
use Rattle.shared_worlds.specs.Names.{all_cells, constant_of, renaming}

-- a cell, and not the address of an exported datum
abbrev pub IsCell : GlobalKey → Type 0
IsCell (outside_global k) = Unit {0}
IsCell (linker_global n) = ⊥
IsCell (own_global i k) = Unit {0}
IsCell (got k) = Unit {0}
IsCell (exported_datum e) = ⊥

pub is_cell : (p : Program) (k : GlobalKey) → Has (all_cells p) k → IsCell k
is_cell p k h = by_global p p.parts [] IsCell (λ j m. tt) (λ x m a b. tt) (λ g m. tt) (λ e m t. absurd m) k h

no_constant : (l : Layout) (k d : GlobalKey) → IsCell k → same_global k d ≡ true → constant_of l d ≡ None
no_constant l (outside_global a) (outside_global b) h e = refl
no_constant l (own_global a i) (own_global b j) h e = refl
no_constant l (got a) (got b) h e = refl
no_constant l (linker_global a) d h e = absurd h
no_constant l (exported_datum a) d h e = absurd h
no_constant l _ _ h e = absurd (grind arith)

pub cells_free : (p : Program) (l : Layout) (c d : ℕ) → (renaming p l).cell c ≡ Some d → (renaming p l).constant d ≡ None
cells_free p l c d h =
    option_and_then_some (λ k. position (same_global k) l.numbers.globals) (slice_get (all_cells p) c) d h
    (λ k at place.
    let s = stands (same_global k) l.numbers.globals d place in
    ap (option_and_then (constant_of l)) s.there
    ∙ no_constant l k s.item (is_cell p k (has_at (all_cells p) c k at)) s.passes)

-- ---- no two cells become one

own_apart : (a b : Part) (u v : GlobalKey) → own_global_key a ≡ Some u → own_global_key b ≡ Some v → same_global u v ≡ true → same_chunk a.chunk b.chunk ≡ true
own_apart a b u v h k e =
    let r = given_some (not (a.chunk.input == 0) && (a.chunk.kind == 2)) (own_global a.chunk.input a.chunk.index) u h in
    let s = given_some (not (b.chunk.input == 0) && (b.chunk.kind == 2)) (own_global b.chunk.input b.chunk.index) v k in
    let ra = and_parts (not (a.chunk.input == 0)) (a.chunk.kind == 2) r.0 in
    let sb = and_parts (not (b.chunk.input == 0)) (b.chunk.kind == 2) s.0 in
    let j : a.chunk.kind ≡ b.chunk.kind = eqb-true a.chunk.kind 2 ra.1 ∙ sym (eqb-true b.chunk.kind 2 sb.1) in
    let same : same_global (own_global a.chunk.input a.chunk.index) (own_global b.chunk.input b.chunk.index) ≡ true =
    ap (λ x. same_global x (own_global b.chunk.input b.chunk.index)) r.1 ∙ ap (same_global u) s.1 ∙ e in
    let q = and_parts (a.chunk.input == b.chunk.input) (a.chunk.index == b.chunk.index) same in
    and_from ((a.chunk.input == b.chunk.input) && (a.chunk.kind == b.chunk.kind)) (a.chunk.index == b.chunk.index)
    (and_from (a.chunk.input == b.chunk.input) (a.chunk.kind == b.chunk.kind) q.0 (eq-eqb a.chunk.kind b.chunk.kind j)) q.1

-- what kind of key it is
abbrev sort_of : GlobalKey → ℕ
sort_of (outside_global k) = 0
sort_of (linker_global n) = 1
sort_of (own_global i n) = 2
sort_of (got k) = 3
sort_of (exported_datum e) = 4

one_sort : (u v : GlobalKey) → same_global u v ≡ true → sort_of u ≡ sort_of v
one_sort (outside_global a) (outside_global b) h = refl
one_sort (linker_global a) (linker_global b) h = refl
one_sort (own_global a i) (own_global b j) h = refl
one_sort (got a) (got b) h = refl
one_sort (exported_datum a) (exported_datum b) h = refl
one_sort _ _ h = absurd (grind arith)

module _ (p : Program) where
  outs : List GlobalKey
  outs = map outside_global (global_imports_in Shared p p.parts)

  owns : List GlobalKey
  owns = filter_map own_global_key p.parts

  gots : List GlobalKey
  gots = map got (got_entries Shared p.parts)

  out_sort : (k : GlobalKey) → Has outs k → sort_of k ≡ 0
  unfolding outs
  out_sort k h = let r = has_map outside_global (global_imports_in Shared p p.parts) k h in ap sort_of (sym r.2)

  own_sort : (k : GlobalKey) → Has owns k → sort_of k ≡ 2
  unfolding owns
  own_sort k h = let r = has_pick own_global_key p.parts k h in ap sort_of (sym (given_some (not (r.0.chunk.input == 0) && (r.0.chunk.kind == 2)) (own_global r.0.chunk.input r.0.chunk.index) k r.2).1)

  got_sort : (k : GlobalKey) → Has gots k → sort_of k ≡ 3
  unfolding gots
  got_sort k h = let r = has_map got (got_entries Shared p.parts) k h in ap sort_of (sym r.2)

  outs_apart : Apart same_global outs
  unfolding outs
  outs_apart =
      apart_map same_import same_global outside_global (λ x y h. h) (global_imports_in Shared p p.parts)
      (apart_distinct same_import (turned same_import imports_same) [] (filter_map made_global_import p.entries ++ foreign_cells p.parts ++ used_globals Shared p (refs_of p.parts)) tt)

  owns_apart : Sound p → Apart same_global owns
  unfolding owns
  owns_apart sound = apart_pick (λ (a b : Part). same_chunk a.chunk b.chunk) same_global own_global_key own_apart p.parts sound.apart

  gots_apart : Apart same_global gots
  unfolding gots
  gots_apart =
      apart_map same_got same_global got (λ x y h. h) (got_entries Shared p.parts)
      (apart_distinct same_got (turned same_got gots_same) [] (map ref_got (filter (needs_got Shared) (refs_of (parts_of_kind 0 p.parts)))) tt)

  pub all_apart : Sound p → Apart same_global (all_cells p)
  unfolding globals outs owns gots
  all_apart sound =
      apart_append same_global outs (owns ++ gots ++ []) outs_apart
      (apart_append same_global (owns ++ gots) []
      (apart_append same_global owns gots (owns_apart sound) gots_apart (λ x y h k e. let a = own_sort x h in let b = got_sort y k in let c = one_sort x y e in omega arith))
      tt (λ x y h k e. k))
      (λ x y h k e. let a = out_sort x h in let c = one_sort x y e in
      ⊎_elim (λ g. ⊎_elim (λ g. let b = own_sort y g in omega arith) (λ g. let b = got_sort y g in omega arith) (has_either owns gots y g)) (λ g. g) (has_either (owns ++ gots) [] y k))

pub cells_apart : (p : Program) (l : Layout) → Sound p → (c d e : ℕ) → (renaming p l).cell c ≡ Some e → (renaming p l).cell d ≡ Some e → c ≡ d
cells_apart p l sound c d e h k =
    let place = λ (g : GlobalKey). position (same_global g) l.numbers.globals in
    option_and_then_some place (slice_get (all_cells p) c) e h (λ x at there.
    option_and_then_some place (slice_get (all_cells p) d) e k (λ y at' there'.
    apart_place same_global (turned same_global globals_same) (all_cells p) (all_apart p sound) c d x y at at' (one_place same_global globals_same x y l.numbers.globals e there there')))
