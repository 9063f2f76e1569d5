-- No two cells become one.
use Rattle.std.proofs.Common.{◌≡◌, ℕ, List, [], ◌++◌, map, Option, Some, None, true, refl, sym, ap, ◌∙◌, ⊎_elim, arith}
use Rattle.std.specs.Prelude.{◌==◌, ◌&&◌, not, slice_get, filter, filter_map, flat_map, position}
use Rattle.std.proofs.lemmas.Option.{option_and_then_some}
use Rattle.std.proofs.lemmas.Bool.{and_parts, and_from, eqb-true, eq-eqb}
use Rattle.list_places.specs.Has.{Has, Apart}
use Rattle.list_places.proofs.Lists.{has_either, has_map, has_pick, turned, one_place, apart_append, apart_map, apart_pick, apart_filter, apart_distinct, apart_place, given_some}
use Rattle.name_rules.specs.Entries.{ImportKey, same_import}
use Rattle.link_rules.specs.Program.{Program, Part, same_chunk}
use Rattle.link_rules.specs.Keys.{GlobalKey, outside_global, linker_global, own_global, got, exported_datum, same_global, made_global_key, own_global_key, imports_in_order, is_global_type, import_of}
use Rattle.link_rules.specs.Values.{Layout}
use Rattle.link_worlds.specs.Names.{all_cells, renaming}
use Rattle.link_worlds.specs.Sound.{Sound}
use Rattle.link_worlds.proofs.Keys.{globals_same, imports_same}

pub imports_apart : (p : Program) → Apart same_import (imports_in_order p)
unfolding imports_in_order
imports_apart p = apart_distinct same_import (turned same_import imports_same) [] (filter_map import_of (flat_map (λ r. r.meanings) p.resolved)) tt

-- the number of a linker-made cell, and the input and index of an object's
abbrev made_as : GlobalKey → Option ℕ
made_as (outside_global k) = None
made_as (linker_global n) = Some n
made_as (own_global i n) = None
made_as (got k) = None
made_as (exported_datum e) = None

made_apart : (a b : Part) (u v : GlobalKey) → made_global_key a ≡ Some u → made_global_key b ≡ Some v → same_global u v ≡ true → same_chunk a.chunk b.chunk ≡ true
made_apart a b u v h k e =
    let r = given_some ((a.chunk.input == 0) && (a.chunk.kind == 2)) (linker_global a.chunk.index) u h in
    let s = given_some ((b.chunk.input == 0) && (b.chunk.kind == 2)) (linker_global b.chunk.index) v k in
    let ra = and_parts (a.chunk.input == 0) (a.chunk.kind == 2) r.0 in
    let sb = and_parts (b.chunk.input == 0) (b.chunk.kind == 2) s.0 in
    let i : a.chunk.input ≡ b.chunk.input = eqb-true a.chunk.input 0 ra.0 ∙ sym (eqb-true b.chunk.input 0 sb.0) in
    let j : a.chunk.kind ≡ b.chunk.kind = eqb-true a.chunk.kind 2 ra.1 ∙ sym (eqb-true b.chunk.kind 2 sb.1) in
    let same : same_global (linker_global a.chunk.index) (linker_global b.chunk.index) ≡ true =
    ap (λ x. same_global x (linker_global b.chunk.index)) r.1 ∙ ap (same_global u) s.1 ∙ e in
    and_from ((a.chunk.input == b.chunk.input) && (a.chunk.kind == b.chunk.kind)) (a.chunk.index == b.chunk.index)
    (and_from (a.chunk.input == b.chunk.input) (a.chunk.kind == b.chunk.kind) (eq-eqb a.chunk.input b.chunk.input i) (eq-eqb a.chunk.kind b.chunk.kind j)) same

own_apart : (a b : Part) (u v : GlobalKey) → own_global_key a ≡ Some u → own_global_key b ≡ Some v → same_global u v ≡ true → same_chunk a.chunk b.chunk ≡ true
own_apart a b u v h k e =
    let r = given_some (not (a.chunk.input == 0) && (a.chunk.kind == 2)) (own_global a.chunk.input a.chunk.index) u h in
    let s = given_some (not (b.chunk.input == 0) && (b.chunk.kind == 2)) (own_global b.chunk.input b.chunk.index) v k in
    let ra = and_parts (not (a.chunk.input == 0)) (a.chunk.kind == 2) r.0 in
    let sb = and_parts (not (b.chunk.input == 0)) (b.chunk.kind == 2) s.0 in
    let j : a.chunk.kind ≡ b.chunk.kind = eqb-true a.chunk.kind 2 ra.1 ∙ sym (eqb-true b.chunk.kind 2 sb.1) in
    let same : same_global (own_global a.chunk.input a.chunk.index) (own_global b.chunk.input b.chunk.index) ≡ true =
    ap (λ x. same_global x (own_global b.chunk.input b.chunk.index)) r.1 ∙ ap (same_global u) s.1 ∙ e in
    let q = and_parts (a.chunk.input == b.chunk.input) (a.chunk.index == b.chunk.index) same in
    and_from ((a.chunk.input == b.chunk.input) && (a.chunk.kind == b.chunk.kind)) (a.chunk.index == b.chunk.index)
    (and_from (a.chunk.input == b.chunk.input) (a.chunk.kind == b.chunk.kind) q.0 (eq-eqb a.chunk.kind b.chunk.kind j)) q.1

-- what kind of key it is
abbrev sort_of : GlobalKey → ℕ
sort_of (outside_global k) = 0
sort_of (linker_global n) = 1
sort_of (own_global i n) = 2
sort_of (got k) = 3
sort_of (exported_datum e) = 4

one_sort : (u v : GlobalKey) → same_global u v ≡ true → sort_of u ≡ sort_of v
one_sort (outside_global a) (outside_global b) h = refl
one_sort (linker_global a) (linker_global b) h = refl
one_sort (own_global a i) (own_global b j) h = refl
one_sort (got a) (got b) h = refl
one_sort (exported_datum a) (exported_datum b) h = refl
one_sort _ _ h = absurd (grind arith)

module _ (p : Program) where
  outs : List GlobalKey
  outs = map outside_global (filter (λ (k : ImportKey). is_global_type k.type) (imports_in_order p))

  mades : List GlobalKey
  mades = filter_map made_global_key p.parts

  owns : List GlobalKey
  owns = filter_map own_global_key p.parts

  out_sort : (k : GlobalKey) → Has outs k → sort_of k ≡ 0
  unfolding outs
  out_sort k h = let r = has_map outside_global (filter (λ (k : ImportKey). is_global_type k.type) (imports_in_order p)) k h in ap sort_of (sym r.2)

  made_sort : (k : GlobalKey) → Has mades k → sort_of k ≡ 1
  unfolding mades
  made_sort k h = let r = has_pick made_global_key p.parts k h in ap sort_of (sym (given_some ((r.0.chunk.input == 0) && (r.0.chunk.kind == 2)) (linker_global r.0.chunk.index) k r.2).1)

  own_sort : (k : GlobalKey) → Has owns k → sort_of k ≡ 2
  unfolding owns
  own_sort k h = let r = has_pick own_global_key p.parts k h in ap sort_of (sym (given_some (not (r.0.chunk.input == 0) && (r.0.chunk.kind == 2)) (own_global r.0.chunk.input r.0.chunk.index) k r.2).1)

  pub all_apart : Sound p → Apart same_global (all_cells p)
  unfolding outs mades owns
  all_apart sound =
      let part_same = λ (a b : Part). same_chunk a.chunk b.chunk in
      apart_append same_global (outs ++ mades) owns
      (apart_append same_global outs mades
      (apart_map same_import same_global outside_global (λ x y h. h) (filter (λ (k : ImportKey). is_global_type k.type) (imports_in_order p)) (apart_filter same_import (λ (k : ImportKey). is_global_type k.type) (imports_in_order p) (imports_apart p)))
      (apart_pick part_same same_global made_global_key made_apart p.parts sound.apart)
      (λ x y h k e. let a = out_sort x h in let b = made_sort y k in let c = one_sort x y e in omega arith))
      (apart_pick part_same same_global own_global_key own_apart p.parts sound.apart)
      (λ x y h k e. let b = own_sort y k in let c = one_sort x y e in
      ⊎_elim (λ g. let a = out_sort x g in omega arith) (λ g. let a = made_sort x g in omega arith) (has_either outs mades x h))

pub cells_apart : (p : Program) (l : Layout) → Sound p → (c d e : ℕ) → (renaming p l).cell c ≡ Some e → (renaming p l).cell d ≡ Some e → c ≡ d
cells_apart p l sound c d e h k =
    let place = λ (g : GlobalKey). position (same_global g) l.numbers.globals in
    option_and_then_some place (slice_get (all_cells p) c) e h (λ x at there.
    option_and_then_some place (slice_get (all_cells p) d) e k (λ y at' there'.
    apart_place same_global (turned same_global globals_same) (all_cells p) (all_apart p sound) c d x y at at' (one_place same_global globals_same x y l.numbers.globals e there there')))
