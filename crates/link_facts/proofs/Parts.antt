-- The parts of loaded objects and of the linker: no two have one chunk, and each kept definition has one.
use Rattle.std.proofs.Common.{◌≡◌, ℕ, zero, suc, ◌+◌, ◌-◌, ◌<◌, ◌≤◌, List, [], ◌∷◌, ◌++◌, length, map, Option, Some, None, Bool, true, false, refl, sym, ap, ◌∙◌, subst, inl, inr, ⊎_elim, arith}
use Rattle.std.specs.Prelude.{◌⊎◌, ◌==◌, ◌&&◌, not, nat_lt, slice_get, flat_map, cond, option_map}
use Rattle.std.proofs.lemmas.Bool.{and_parts}
use Rattle.list_places.specs.Has.{Has, Apart}
use Rattle.list_places.proofs.Lists.{has_at, has_either, has_left, has_right, has_filter, filter_has, has_flat, flat_has, map_has, has_map, apart_append, apart_filter, some_is, all_has}
use Rattle.linking_section.specs.declared.symbol.Symbol.{Symbol}
use Rattle.linking_section.specs.declared.symbol.SymbolKind.{SymbolKind}
use Rattle.linking_section.specs.declared.symbol.SymbolKind.TheVariants.{Function, Datum, GlobalVar, Section, Table}
use Rattle.linking_section.specs.Flags.{is_undefined}
use Rattle.object_parts.specs.declared.parts.GlobalDef.{GlobalDef}
use Rattle.object_columns.specs.declared.functions.FunctionDef.{FunctionDef}
use Rattle.object_columns.specs.declared.segments.SegmentDef.{SegmentDef}
use Rattle.made_symbols.specs.Made.{MadeSymbol, made}
use Rattle.made_symbols.specs.declared.mode.Mode.TheVariants.{Plain}
use Rattle.object_file.specs.declared.object.Object.{Object}
use Rattle.object_file.specs.Spaces.{function_imports, global_imports, function_place, global_place}
use Rattle.object_file.specs.Sound.{Sound as ObjectSound, NamesInRange}
use Rattle.round_rules.specs.Rounds.{Candidate}
use Rattle.program_build.specs.name_entries.View.{InputsRise}
use Rattle.name_rules.specs.Entries.{InputSymbol, entry_in, made_entry, is_kept, in_kept_part, index_in}
use Rattle.name_rules.specs.Meanings.{Resolved}
use Rattle.mark_bits.specs.declared.chunk.Chunk.{Chunk}
use Rattle.output_module.specs.link_rules.Program.{Part, Ref, a_symbol, linker_made, no_source, indexed, option_onto, function_part, segment_part, global_part, is_part_kept, parts_in, made_kind, made_part, made_parts_from, chunk_at, chunk_of, chunk_by}
use Rattle.output_module.specs.link_worlds.Sound.{PartOf, same_part}
use Rattle.output_module.proofs.link_worlds_lemmas.Keys.{chunk_equal}
use Rattle.link_facts.proofs.Symbols.{above, one_object, positive, Known}

-- ---- lists with their places

pub there_is : {A : Type 0} (xs : List A) (k : ℕ) → k < length xs → (x : A) × (slice_get xs k ≡ Some x)
there_is [] k h = absurd (omega (arith, h))
there_is (x ∷ xs) zero h = (x, refl)
there_is (x ∷ xs) (suc k) h = there_is xs k (omega (arith, h))

indexed_has : {A B : Type 0} (f : ℕ → A → B) (at : ℕ) (xs : List A) (k : ℕ) (x : A) → slice_get xs k ≡ Some x → Has (indexed f at xs) (f (at + k) x)
indexed_has f at [] k x h = absurd (grind arith)
indexed_has f at (y ∷ ys) zero x h = let z : at ≡ at + 0 = omega arith in inl (ap (f at) (some_is y x h) ∙ ap (λ n. f n x) z)
indexed_has f at (y ∷ ys) (suc k) x h = let z : at + 1 + k ≡ at + suc k = omega arith in inr (subst (λ n. Has (indexed f (at + 1) ys) (f n x)) z (indexed_has f (at + 1) ys k x h))

from_zero : {A B : Type 0} (f : ℕ → A → B) (xs : List A) (k : ℕ) (x : A) → slice_get xs k ≡ Some x → Has (indexed f 0 xs) (f k x)
from_zero f xs k x h = let z : 0 + k ≡ k = omega arith in subst (λ n. Has (indexed f 0 xs) (f n x)) z (indexed_has f 0 xs k x h)

pub has_indexed : {A B : Type 0} (f : ℕ → A → B) (at : ℕ) (xs : List A) (y : B) → Has (indexed f at xs) y → (k : ℕ) × (x : A) × (slice_get xs k ≡ Some x) × (y ≡ f (at + k) x)
has_indexed f at [] y h = absurd h
has_indexed f at (x ∷ xs) y (inl e) = let z : at ≡ at + 0 = omega arith in (0, x, refl, sym e ∙ ap (λ n. f n x) z)
has_indexed f at (x ∷ xs) y (inr h) =
    let r = has_indexed f (at + 1) xs y h in
    let z : at + 1 + r.0 ≡ at + suc r.0 = omega arith in
    (suc r.0, r.1, r.2, r.3 ∙ ap (λ n. f n r.1) z)

apart_indexed : {A : Type 0} (f : ℕ → A → Part) → ((n : ℕ) (x : A) → (f n x).chunk.index ≡ n) → (at : ℕ) (xs : List A) → Apart same_part (indexed f at xs)
apart_indexed f g at [] = tt
apart_indexed f g at (x ∷ xs) = (λ y h t. differs y h (chunk_equal (f at x).chunk y.chunk t), apart_indexed f g (at + 1) xs)
  where
    differs : (y : Part) → Has (indexed f (at + 1) xs) y → (f at x).chunk ≡ y.chunk → ⊥
    differs y h c =
        let r = has_indexed f (at + 1) xs y h in
        let q : at ≡ at + 1 + r.0 = sym (g at x) ∙ ap (λ (z : Chunk). z.index) c ∙ ap (λ (z : Part). z.chunk.index) r.3 ∙ g (at + 1 + r.0) r.1 in
        omega (arith, q)

-- ---- the parts of an object

module _ (all : List Candidate) (objects : List Object) (r : Resolved) where
  abbrev fs : List Part
  fs = indexed (function_part all objects r) 0 r.object.functions

  abbrev gs : List Part
  gs = indexed (segment_part all objects r) 0 r.object.segments

  abbrev vs : List Part
  vs = indexed (global_part all objects r) 0 r.object.globals

  -- where it stands
  pub data Stood (x : Part) : Type 0 where
    as_function : (k : ℕ) (f : FunctionDef) → slice_get r.object.functions k ≡ Some f → x ≡ function_part all objects r k f → Stood x
    as_segment : (k : ℕ) (g : SegmentDef) → slice_get r.object.segments k ≡ Some g → x ≡ segment_part all objects r k g → Stood x
    as_global : (k : ℕ) (g : GlobalDef) → slice_get r.object.globals k ≡ Some g → x ≡ global_part all objects r k g → Stood x

  in_fs : (x : Part) → Has fs x → Stood x
  in_fs x h = let q = has_indexed (function_part all objects r) 0 r.object.functions x h in let z : 0 + q.0 ≡ q.0 = omega arith in as_function q.0 q.1 q.2 (q.3 ∙ ap (λ n. function_part all objects r n q.1) z)

  in_gs : (x : Part) → Has gs x → Stood x
  in_gs x h = let q = has_indexed (segment_part all objects r) 0 r.object.segments x h in let z : 0 + q.0 ≡ q.0 = omega arith in as_segment q.0 q.1 q.2 (q.3 ∙ ap (λ n. segment_part all objects r n q.1) z)

  in_vs : (x : Part) → Has vs x → Stood x
  in_vs x h = let q = has_indexed (global_part all objects r) 0 r.object.globals x h in let z : 0 + q.0 ≡ q.0 = omega arith in as_global q.0 q.1 q.2 (q.3 ∙ ap (λ n. global_part all objects r n q.1) z)

  pub stood : (x : Part) → Has (parts_in all objects r) x → Stood x
  stood x h =
      ⊎_elim (λ b. ⊎_elim (in_fs x) (in_gs x) (has_either fs gs x b)) (in_vs x)
      (has_either (fs ++ gs) vs x (has_filter (is_part_kept all objects r) (fs ++ gs ++ vs) x h).0)

  by_place : (x : Part) → Stood x → x.chunk.input ≡ r.object.input
  by_place x (as_function k f h e) = ap (λ (z : Part). z.chunk.input) e
  by_place x (as_segment k g h e) = ap (λ (z : Part). z.chunk.input) e
  by_place x (as_global k g h e) = ap (λ (z : Part). z.chunk.input) e

  pub of_its_object : (x : Part) → Has (parts_in all objects r) x → x.chunk.input ≡ r.object.input
  of_its_object x h = by_place x (stood x h)

  kind_fs : (x : Part) → Has fs x → x.chunk.kind ≡ 0
  kind_fs x h = ap (λ (z : Part). z.chunk.kind) (has_indexed (function_part all objects r) 0 r.object.functions x h).3

  kind_gs : (x : Part) → Has gs x → x.chunk.kind ≡ 1
  kind_gs x h = ap (λ (z : Part). z.chunk.kind) (has_indexed (segment_part all objects r) 0 r.object.segments x h).3

  kind_vs : (x : Part) → Has vs x → x.chunk.kind ≡ 2
  kind_vs x h = ap (λ (z : Part). z.chunk.kind) (has_indexed (global_part all objects r) 0 r.object.globals x h).3

  kind_same : (x y : Part) → same_part x y ≡ true → x.chunk.kind ≡ y.chunk.kind
  kind_same x y t = ap (λ (z : Chunk). z.kind) (chunk_equal x.chunk y.chunk t)

  pub own_apart : Apart same_part (parts_in all objects r)
  own_apart =
      apart_filter same_part (is_part_kept all objects r) (fs ++ gs ++ vs)
      (apart_append same_part (fs ++ gs) vs
      (apart_append same_part fs gs (apart_indexed (function_part all objects r) (λ n x. refl) 0 r.object.functions) (apart_indexed (segment_part all objects r) (λ n x. refl) 0 r.object.segments)
      (λ x y h k t. let a = kind_fs x h in let b = kind_gs y k in let c = kind_same x y t in omega (arith, a, b, c)))
      (apart_indexed (global_part all objects r) (λ n x. refl) 0 r.object.globals)
      (λ x y h k t. let b = kind_vs y k in let c = kind_same x y t in
      ⊎_elim (λ h. let a = kind_fs x h in omega (arith, a, b, c)) (λ h. let a = kind_gs x h in omega (arith, a, b, c)) (has_either fs gs x h)))

  pub function_kept : (k : ℕ) (f : FunctionDef) → slice_get r.object.functions k ≡ Some f → is_kept objects r.object 1 (k + length (function_imports r.object)) ≡ true
      → Has (parts_in all objects r) (function_part all objects r k f)
  function_kept k f h t = filter_has (is_part_kept all objects r) (fs ++ gs ++ vs) (function_part all objects r k f) (has_left (fs ++ gs) vs (function_part all objects r k f) (has_left fs gs (function_part all objects r k f) (from_zero (function_part all objects r) r.object.functions k f h))) t

  pub segment_kept : (k : ℕ) (g : SegmentDef) → slice_get r.object.segments k ≡ Some g → is_kept objects r.object 0 k ≡ true → Has (parts_in all objects r) (segment_part all objects r k g)
  segment_kept k g h t = filter_has (is_part_kept all objects r) (fs ++ gs ++ vs) (segment_part all objects r k g)
      (has_left (fs ++ gs) vs (segment_part all objects r k g) (has_right fs gs (segment_part all objects r k g) (from_zero (segment_part all objects r) r.object.segments k g h))) t

  pub global_kept : (k : ℕ) (g : GlobalDef) → slice_get r.object.globals k ≡ Some g → Has (parts_in all objects r) (global_part all objects r k g)
  global_kept k g h = filter_has (is_part_kept all objects r) (fs ++ gs ++ vs) (global_part all objects r k g)
      (has_right (fs ++ gs) vs (global_part all objects r k g) (from_zero (global_part all objects r) r.object.globals k g h)) refl

-- ---- the linker's parts

-- as in `made_part`
abbrev pub made_as : List Ref → ℕ → MadeSymbol → ℕ → Part
made_as calls n m kind = record {
  chunk = record { input = 0; kind = kind; index = n };
  content = linker_made m;
  source = no_source;
  named = cond ((kind == 0) && (n == 0)) (map a_symbol calls) [];
}

-- a part that the linker makes
pub record MadeAs (calls : List Ref) (x : Part) : Type 0 where
  pub place : ℕ
  pub symbol : MadeSymbol
  pub kind : ℕ
  pub is : x ≡ made_as calls place symbol kind

made_is : (calls : List Ref) (n : ℕ) (m : MadeSymbol) (x : Part) (o : Option ℕ) → option_map (made_as calls n m) o ≡ Some x → (kind : ℕ) × (x ≡ made_as calls n m kind)
made_is calls n m x None h = absurd (grind arith)
made_is calls n m x (Some kind) h = (kind, sym (some_is (made_as calls n m kind) x h))

onto_has : {A : Type 0} (o : Option A) (xs : List A) (x : A) → Has (option_onto o xs) x → (o ≡ Some x) ⊎ Has xs x
onto_has None xs x h = inr h
onto_has (Some y) xs x (inl e) = inl (ap Some e)
onto_has (Some y) xs x (inr h) = inr h

onto_first : {A : Type 0} (o : Option A) (xs : List A) (x : A) → o ≡ Some x → Has (option_onto o xs) x
onto_first None xs x h = absurd (grind arith)
onto_first (Some y) xs x h = inl (some_is y x h)

onto_later : {A : Type 0} (o : Option A) (xs : List A) (x : A) → Has xs x → Has (option_onto o xs) x
onto_later None xs x h = h
onto_later (Some y) xs x h = inr h

-- each has a place at or behind the first
pub made_behind : (calls : List Ref) (place : ℕ) (ms : List MadeSymbol) (x : Part) → Has (made_parts_from calls place ms) x → MadeAs calls x × (place ≤ x.chunk.index) × (x.chunk.input ≡ 0)
made_behind calls place [] x h = absurd h
made_behind calls place (m ∷ ms) x h =
    ⊎_elim
    (λ e. let q = made_is calls place m x (made_kind m.kind) e in
    let z : x.chunk.index ≡ place = ap (λ (y : Part). y.chunk.index) q.1 in
    (record { place = place; symbol = m; kind = q.0; is = q.1 }, omega (arith, z), ap (λ (y : Part). y.chunk.input) q.1))
    (λ k. let q = made_behind calls (place + 1) ms x k in let l : place + 1 ≤ x.chunk.index = q.1 in (q.0, omega (arith, l), q.2))
    (onto_has (made_part calls (made_entry place m) m) (made_parts_from calls (place + 1) ms) x h)

made_apart : (calls : List Ref) (place : ℕ) (ms : List MadeSymbol) → Apart same_part (made_parts_from calls place ms)
made_apart calls place [] = tt
made_apart calls place (m ∷ ms) = onto (made_kind m.kind) (made_apart calls (place + 1) ms)
  where
    onto : (o : Option ℕ) → Apart same_part (made_parts_from calls (place + 1) ms) → Apart same_part (option_onto (option_map (made_as calls place m) o) (made_parts_from calls (place + 1) ms))
    onto None a = a
    onto (Some kind) a = (
      λ y h t.
          let q : place + 1 ≤ y.chunk.index = (made_behind calls (place + 1) ms y h).1 in
          let z : place ≡ y.chunk.index = ap (λ (z : Chunk). z.index) (chunk_equal (made_as calls place m kind).chunk y.chunk t) in
          omega (arith, q, z),
      a,
    )

-- the part of a symbol that has a chunk
made_has : (calls : List Ref) (place : ℕ) (ms : List MadeSymbol) (k : ℕ) (m : MadeSymbol) (kind : ℕ) → slice_get ms k ≡ Some m → made_kind m.kind ≡ Some kind → Has (made_parts_from calls place ms) (made_as calls (place + k) m kind)
made_has calls place [] k m kind h e = absurd (grind arith)
made_has calls place (y ∷ ys) zero m kind h e =
    let z : place ≡ place + 0 = omega arith in
    let s = some_is y m h in
    onto_first (made_part calls (made_entry place y) y) (made_parts_from calls (place + 1) ys) (made_as calls (place + 0) m kind)
    (ap (λ w. option_map (made_as calls place w) (made_kind w.kind)) s ∙ ap (option_map (made_as calls place m)) e ∙ ap (λ n. Some (made_as calls n m kind)) z)
made_has calls place (y ∷ ys) (suc k) m kind h e =
    let z : place + 1 + k ≡ place + suc k = omega arith in
    onto_later (made_part calls (made_entry place y) y) (made_parts_from calls (place + 1) ys) (made_as calls (place + suc k) m kind)
    (subst (λ n. Has (made_parts_from calls (place + 1) ys) (made_as calls n m kind)) z (made_has calls (place + 1) ys k m kind h e))

-- ---- all parts

module _ (all : List Candidate) (objects : List Object) (res : Object → Resolved) (same : (o : Object) → (res o).object ≡ o) (calls : List Ref) where
  abbrev pub object_parts : List Object → List Part
  object_parts os = flat_map (parts_in all objects) (map res os)

  abbrev pub all_parts : List Part
  all_parts = made_parts_from calls 0 (made Plain) ++ object_parts objects

  pub of_some_object : (os : List Object) (x : Part) → Has (object_parts os) x → (o : Object) × Has os o × Has (parts_in all objects (res o)) x
  of_some_object os x h =
      let f = has_flat (parts_in all objects) (map res os) x h in
      let m = has_map res os f.0 f.1 in
      (m.0, m.1, subst (λ r. Has (parts_in all objects r) x) (sym m.2) f.2)

  pub input_of : (o : Object) (x : Part) → Has (parts_in all objects (res o)) x → x.chunk.input ≡ o.input
  input_of o x h = of_its_object all objects (res o) x h ∙ ap (λ (w : Object). w.input) (same o)

  objects_apart : (last : ℕ) (os : List Object) → InputsRise last os → Apart same_part (object_parts os)
  objects_apart last [] rise = tt
  objects_apart last (o ∷ os) rise =
      apart_append same_part (parts_in all objects (res o)) (object_parts os) (own_apart all objects (res o)) (objects_apart o.input os rise.2)
      (λ x y h k t.
      let a = input_of o x h in
      let j = of_some_object os y k in
      let b = input_of j.0 y j.2 in
      let c : x.chunk.input ≡ y.chunk.input = ap (λ (z : Chunk). z.input) (chunk_equal x.chunk y.chunk t) in
      let q : o.input < j.0.input = above o.input os rise.2 j.0 j.1 in
      omega (arith, a, b, c, q))

  pub parts_apart : InputsRise 0 objects → Apart same_part all_parts
  parts_apart rise =
      apart_append same_part (made_parts_from calls 0 (made Plain)) (object_parts objects) (made_apart calls 0 (made Plain)) (objects_apart 0 objects rise)
      (λ x y h k t.
      let a = (made_behind calls 0 (made Plain) x h).2 in
      let j = of_some_object objects y k in
      let b = input_of j.0 y j.2 in
      let c : x.chunk.input ≡ y.chunk.input = ap (λ (z : Chunk). z.input) (chunk_equal x.chunk y.chunk t) in
      positive objects rise j.0 j.1 (sym b ∙ sym c ∙ a))

  -- a part of no object is the linker's
  pub made_by_input : InputsRise 0 objects → (x : Part) → Has all_parts x → x.chunk.input ≡ 0 → Has (made_parts_from calls 0 (made Plain)) x
  made_by_input rise x h z =
      ⊎_elim (λ a. a) (λ b. let j = of_some_object objects x b in absurd (positive objects rise j.0 j.1 (sym (input_of j.0 x j.2) ∙ z)))
      (has_either (made_parts_from calls 0 (made Plain)) (object_parts objects) x h)

  -- and a part of an object is in it
  pub object_by_input : InputsRise 0 objects → (o : Object) → Has objects o → (x : Part) → Has all_parts x → x.chunk.input ≡ o.input → Has (parts_in all objects (res o)) x
  object_by_input rise o ho x h z =
      ⊎_elim (λ a. absurd (positive objects rise o ho (sym z ∙ (made_behind calls 0 (made Plain) x a).2)))
      (λ b. let j = of_some_object objects x b in
      let same : j.0 ≡ o = one_object 0 objects rise j.0 o j.1 ho (sym (input_of j.0 x j.2) ∙ z) in
      subst (λ w. Has (parts_in all objects (res w)) x) same j.2)
      (has_either (made_parts_from calls 0 (made Plain)) (object_parts objects) x h)

  pub made_or_object : (x : Part) → Has all_parts x → MadeAs calls x ⊎ ((o : Object) × Has objects o × Has (parts_in all objects (res o)) x)
  made_or_object x h =
      ⊎_elim (λ a. inl (made_behind calls 0 (made Plain) x a).0) (λ b. inr (of_some_object objects x b))
      (has_either (made_parts_from calls 0 (made Plain)) (object_parts objects) x h)

  -- ---- a kept definition has a part

  given_made : (m : MadeSymbol) (k n : ℕ) → slice_get (made Plain) k ≡ Some m → made_kind m.kind ≡ Some n → PartOf all_parts (chunk_at 0 n k)
  given_made m k n h e = record {
    part = made_as calls k m n;
    there = has_left (made_parts_from calls 0 (made Plain)) (object_parts objects) (made_as calls k m n) (let z : 0 + k ≡ k = omega arith in subst (λ i. Has (made_parts_from calls 0 (made Plain)) (made_as calls i m n)) z (made_has calls 0 (made Plain) k m n h e));
    chunk = refl;
  }

  made_kept : (m : MadeSymbol) (k : ℕ) (c : Chunk) (kind : SymbolKind) → m.kind ≡ kind → slice_get (made Plain) k ≡ Some m → chunk_by (made_entry k m) kind ≡ Some c → PartOf all_parts c
  made_kept m k c Function e h t = subst (PartOf all_parts) (some_is (chunk_at 0 0 k) c t) (given_made m k 0 h (ap made_kind e))
  made_kept m k c Datum e h t = absurd (grind arith)
  made_kept m k c GlobalVar e h t = subst (PartOf all_parts) (some_is (chunk_at 0 2 k) c t) (given_made m k 2 h (ap made_kind e))
  made_kept m k c Section e h t = absurd (grind arith)
  made_kept m k c Table e h t = absurd (grind arith)

  of_object : (o : Object) → Has objects o → (x : Part) (c : Chunk) → Has (parts_in all objects (res o)) x → x.chunk ≡ c → PartOf all_parts c
  of_object o ho x c h e = record {
    part = x;
    there = has_right (made_parts_from calls 0 (made Plain)) (object_parts objects) x (flat_has (parts_in all objects) (map res objects) (res o) x (map_has res objects o ho) h);
    chunk = e;
  }

  -- a definition is no import
  behind : (imports n index : ℕ) (u : Bool) → index < imports + n → u ≡ nat_lt index imports → u ≡ false → (index - imports < n) × (index - imports + imports ≡ index)
  behind imports n index u l q z =
      let b : imports ≤ index = not_less index imports (sym q ∙ z) in
      (omega (arith, l, b), omega (arith, b))
    where
      not_less : (a b : ℕ) → nat_lt a b ≡ false → b ≤ a
      not_less a b h = grind arith

  symbol_kept : (o : Object) → Has objects o → (s : Symbol) (place : ℕ) (c : Chunk) (kind : SymbolKind) → NamesInRange o s kind → is_undefined s ≡ false → in_kept_part objects o s kind ≡ true
      → (i : ℕ) → ((kind ≡ Function → i ≡ function_place o s.index) × (kind ≡ Datum → i ≡ s.index) × (kind ≡ GlobalVar → i ≡ global_place o s.index))
      → (e : InputSymbol) → e.input ≡ o.input → e.index ≡ i → chunk_by e kind ≡ Some c → PartOf all_parts c
  symbol_kept o ho s place c Function n u t i is e ei ej h =
      let b = behind (length (function_imports o)) (length o.functions) s.index (is_undefined s) n.0 n.1 u in
      let f = there_is o.functions (function_place o s.index) b.0 in
      let k = subst (λ w. (slice_get w.functions (function_place o s.index) ≡ Some f.0) × (is_kept objects w 1 (function_place o s.index + length (function_imports w)) ≡ true)) (sym (same o))
      (f.1, ap (is_kept objects o 1) b.1 ∙ t) in
      of_object o ho (function_part all objects (res o) (function_place o s.index) f.0) c (function_kept all objects (res o) (function_place o s.index) f.0 k.0 k.1)
      (ap (λ (w : Object). chunk_at w.input 0 (function_place o s.index)) (same o) ∙ ap (λ w. chunk_at w 0 (function_place o s.index)) (sym ei)
      ∙ ap (chunk_at e.input 0) (sym (ej ∙ is.0 refl)) ∙ some_is (chunk_at e.input 0 e.index) c h)
  symbol_kept o ho s place c Datum n u t i is e ei ej h =
      let b = n u in
      let g = there_is o.segments s.index b.0 in
      let k = subst (λ w. (slice_get w.segments s.index ≡ Some g.0) × (is_kept objects w 0 s.index ≡ true)) (sym (same o)) (g.1, t) in
      of_object o ho (segment_part all objects (res o) s.index g.0) c (segment_kept all objects (res o) s.index g.0 k.0 k.1)
      (ap (λ (w : Object). chunk_at w.input 1 s.index) (same o) ∙ ap (λ w. chunk_at w 1 s.index) (sym ei) ∙ ap (chunk_at e.input 1) (sym (ej ∙ is.1 refl)) ∙ by_input (e.input == 0) h)
    where
      by_input : (b : Bool) → cond b None (Some (chunk_at e.input 1 e.index)) ≡ Some c → chunk_at e.input 1 e.index ≡ c
      by_input true h = absurd (grind arith)
      by_input false h = some_is (chunk_at e.input 1 e.index) c h
  symbol_kept o ho s place c GlobalVar n u t i is e ei ej h =
      let b = behind (length (global_imports o)) (length o.globals) s.index (is_undefined s) n.0 n.1 u in
      let g = there_is o.globals (global_place o s.index) b.0 in
      let k = subst (λ w. slice_get w.globals (global_place o s.index) ≡ Some g.0) (sym (same o)) g.1 in
      of_object o ho (global_part all objects (res o) (global_place o s.index) g.0) c (global_kept all objects (res o) (global_place o s.index) g.0 k)
      (ap (λ (w : Object). chunk_at w.input 2 (global_place o s.index)) (same o) ∙ ap (λ w. chunk_at w 2 (global_place o s.index)) (sym ei)
      ∙ ap (chunk_at e.input 2) (sym (ej ∙ is.2 refl)) ∙ some_is (chunk_at e.input 2 e.index) c h)
  symbol_kept o ho s place c Section n u t i is e ei ej h = absurd (grind arith)
  symbol_kept o ho s place c Table n u t i is e ei ej h = absurd (grind arith)

  pub known_kept : InputsRise 0 objects → ((o : Object) → Has objects o → (size : ℕ) × ObjectSound size o) → (e : InputSymbol) → Known objects e → e.defines ≡ true → (c : Chunk) → chunk_of e ≡ Some c → PartOf all_parts c
  known_kept rise sound e (inl x) d c h = made_kept x.symbol x.place c x.symbol.kind refl x.there (ap chunk_of (sym x.is) ∙ h)
  known_kept rise sound e (inr x) d c h =
      let o = x.object in
      let s = x.symbol.symbol in
      let q = and_parts (not (is_undefined s)) (in_kept_part objects o s s.kind) (ap (λ (y : InputSymbol). y.defines) (sym x.symbol.is) ∙ d) in
      symbol_kept o x.there s x.symbol.place c s.kind
      (all_has (λ w. NamesInRange o w w.kind) o.symbols (sound o x.there).1.symbols s (has_at o.symbols x.symbol.place s x.symbol.there))
      (is_not (is_undefined s) q.0) q.1 (entry_in objects o x.symbol.place s).index (λ k. ap (index_in o s) k, λ k. ap (index_in o s) k, λ k. ap (index_in o s) k)
      (entry_in objects o x.symbol.place s) refl refl (ap chunk_of (sym x.symbol.is) ∙ h)
    where
      is_not : (b : Bool) → not b ≡ true → b ≡ false
      is_not true h = absurd (grind arith)
      is_not false h = refl

-- the linker has one function in a plain output
pub one_function : (calls : List Ref) (x : Part) → Has (made_parts_from calls 0 (made Plain)) x → x.chunk.kind ≡ 0 → x.chunk.index ≡ 0
one_function calls x (inl e) z = sym (ap (λ (y : Part). y.chunk.index) e)
one_function calls x (inr (inl e)) z = absurd (let q : 2 ≡ x.chunk.kind = ap (λ (y : Part). y.chunk.kind) e in omega (arith, q, z))
one_function calls x (inr (inr (inl e))) z = absurd (let q : 2 ≡ x.chunk.kind = ap (λ (y : Part). y.chunk.kind) e in omega (arith, q, z))
one_function calls x (inr (inr (inr (inl e)))) z = absurd (let q : 2 ≡ x.chunk.kind = ap (λ (y : Part). y.chunk.kind) e in omega (arith, q, z))
one_function calls x (inr (inr (inr (inr h)))) z = absurd h
