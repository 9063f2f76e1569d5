-- The kept parts of a run alone, and which of them are taken away in the whole link: those that are in the later one; from what that rests on.
use Rattle.std.proofs.Common.{◌≡◌, ℕ, ◌+◌, ◌-◌, ◌<◌, ◌≤◌, ◌==◌, Bool, true, false, not, ◌&&◌, List, [], ◌∷◌, ◌++◌, map, filter, length, inl, inr, ⊎_elim, refl, sym, ap, ◌∙◌, subst, arith}
use Rattle.std.specs.Prelude.{if◌then◌else◌, Option, Some, None, slice_get, option_map, flat_map, All}
use Rattle.std.specs.List.{list_any}
use Rattle.std.proofs.lemmas.Bool.{eq-eqb, ne_eqb, eqb-true}
use Rattle.std.proofs.lemmas.Bool.Decides.{eqb_tells}
use Rattle.std.proofs.lemmas.List.Concat.{flat_map-cons}
use Rattle.std.proofs.lemmas.Option.{slice_get_cases}
use Rattle.list_places.specs.Has.{Has}
use Rattle.list_places.proofs.Lists.{has_left, has_right, filter_has, map_has, flat_has, all_has}
use Rattle.name_rules.specs.object_file.linking_section.declared.symbol.SymbolKind.TheVariants.{Function}
use Rattle.name_rules.specs.object_file.linking_section.declared.member_kinds.TheConstants as members
use Rattle.name_rules.specs.object_file.linking_section.declared.group.Member.{Member}
use Rattle.name_rules.specs.object_file.linking_section.declared.group.Group.{Group}
use Rattle.name_rules.specs.object_file.object_parts.declared.parts.GlobalDef.{GlobalDef}
use Rattle.name_rules.specs.object_file.object_columns.declared.functions.FunctionDef.{FunctionDef}
use Rattle.name_rules.specs.object_file.object_columns.declared.segments.SegmentDef.{SegmentDef}
use Rattle.name_rules.specs.object_file.declared.object.Object.{Object}
use Rattle.name_rules.specs.object_file.Spaces.{function_imports}
use Rattle.object_file.specs.Sound.{Sound, MemberStands}
use Rattle.name_rules.specs.Entries.{InputSymbol, is_kept, has_member, has_group, group_winner, is_input, made_entry}
use Rattle.made_symbols.specs.declared.mode.Mode.TheVariants.{Plain}
use Rattle.made_symbols.specs.Made.{MadeSymbol, made, call_ctors}
use Rattle.mark_bits.specs.declared.chunk.Chunk.{Chunk}
use Rattle.mark_bits.specs.declared.kinds.TheConstants as chunks
use Rattle.link_rules.specs.Program.{Program, Part, Ref, linker_made, a_symbol, no_source, option_onto, made_kind, made_parts_from, init_calls, function_part, segment_part, global_part, kept_in, chunk_at}
use Rattle.link_rules.specs.Marks.{is_object_part}
use Rattle.link_rules.specs.Keys.{parts_of_kind}
use Rattle.partial_rules.specs.Partial.{kept, place_of, function_number, open_of, member_for, group_for, groups_in}
use Rattle.partial_laws.specs.Inputs.{Run, Objects, as_input, alone, whole_objects, run_objects, AreCut}
use Rattle.partial_laws.specs.Kept.{is_taken_away}
use Rattle.partial_laws.proofs.Symbols.{flat_of_map}
use Rattle.partial_laws.proofs.Groups.{lowered}
use Rattle.partial_laws.proofs.Members.{numbers_tell, groups_won, opt_any, one_input, taken_alike}
use Rattle.partial_parts_laws.specs.Linked.{Links, alone_program}
use Rattle.partial_laws.specs.Loaded.{AreLoaded}
use Rattle.partial_parts_laws.proofs.Parts.{make_function, make_segment, make_global, res, own_parts, object_parts, parts_by, objects_are, function_parts, segment_parts, global_parts, functions_in, segments_in, globals_in, object_input}
use Rattle.partial_parts_laws.proofs.Zips.{filter_none, filter_alike, item_has}

-- ---- inputs of parts

-- a part that the linker makes of a kind
abbrev pub own_part : List Ref → InputSymbol → MadeSymbol → ℕ → Part
own_part calls e m kind = record {
  chunk = record { input = 0; kind = kind; index = e.place };
  content = linker_made m;
  source = no_source;
  named = if (kind == chunks.FUNCTION) && (e.place == call_ctors) then map a_symbol calls else [];
}

pub made_input : (calls : List Ref) (at : ℕ) (ms : List MadeSymbol) (x : Part) → Has (made_parts_from calls at ms) x → x.chunk.input ≡ 0
made_input calls at [] x has = absurd has
made_input calls at (m ∷ ms) x has = by_kind (made_kind m.kind) has (made_input calls (at + 1) ms x)
  where
    by_kind : (k : Option ℕ) → Has (option_onto (option_map (own_part calls (made_entry at m) m) k) (made_parts_from calls (at + 1) ms)) x → (Has (made_parts_from calls (at + 1) ms) x → x.chunk.input ≡ 0) → x.chunk.input ≡ 0
    by_kind None h rest = rest h
    by_kind (Some k) (inl e) rest = ap (λ (z : Part). z.chunk.input) (sym e)
    by_kind (Some k) (inr h) rest = rest h

-- ---- the run

-- What it rests on: of the one object its groups alone, and how many functions it imports.
pub record RunStands (run : Run) (os : Objects) (ls : Links) : Type 0 where
  pub cut : AreCut run os
  pub loaded : AreLoaded (whole_objects os)
  pub sound : All (λ (o : Object). (size : ℕ) × Sound size o) (whole_objects os)
  pub strict_alone : ls.run_alone.plan.loose_calls ≡ false
  pub groups : os.joined.groups ≡ flat_map (groups_in (alone_program run os ls)) (alone_program run os ls).objects
  pub functions_imported : length (function_imports os.joined) ≡ length (open_of (alone_program run os ls) Function)

module _ (run : Run) (os : Objects) (ls : Links) (s : RunStands run os ls) where
  abbrev cut : AreCut run os
  cut = s.cut

  abbrev p : Program
  p = alone_program run os ls

  abbrev RO : List Object
  RO = run_objects run os

  abbrev pub in_run : Object → Object
  in_run o = as_input (alone run o.input) o

  abbrev alone_parts : Object → List Part
  alone_parts o = object_parts ls.run_alone RO (in_run o)

  input_is : (o : Object) (x : Part) → Has (object_parts ls.run_alone RO o) x → x.chunk.input ≡ o.input
  input_is o x has = object_input ls.run_alone RO o x has

  abbrev of_kind : ℕ → Part → Bool
  of_kind k = λ (part : Part). is_object_part part && (part.chunk.kind == k)

  -- The kept parts of a kind are those of the run's objects.
  pub kept_is : (k : ℕ) → kept p k ≡ flat_map (λ o. parts_of_kind k (alone_parts o)) os.middle
  kept_is k =
      parts_by ls.run_alone RO s.strict_alone (of_kind k)
      ∙ (ap (λ xs. xs ++ flat_map (λ o. filter (of_kind k) (object_parts ls.run_alone RO o)) RO) (filter_none (of_kind k) (own_parts ls.run_alone RO)
      (λ x has. ap (λ (n : ℕ). not (n == 0) && (x.chunk.kind == k)) (made_input (init_calls p.resolved) 0 (made Plain) x has)))
      ∙ (flat_of_map in_run (λ o. filter (of_kind k) (object_parts ls.run_alone RO o)) os.middle ∙ each os.middle (λ o has. has)))
    where
      each : (xs : List Object) → ((o : Object) → Has xs o → Has os.middle o) → flat_map (λ o. filter (of_kind k) (alone_parts o)) xs ≡ flat_map (λ o. parts_of_kind k (alone_parts o)) xs
      each [] within = refl
      each (o ∷ xs) within =
          let above = all_has (λ (x : Object). run.first < x.input) os.middle cut.from o (within o (inl refl)) in
          flat_map-cons (λ o. filter (of_kind k) (alone_parts o)) o xs
          ∙ (ap (λ ys. ys ++ flat_map (λ o. filter (of_kind k) (alone_parts o)) xs) (filter_alike (of_kind k) (λ part. part.chunk.kind == k) (alone_parts o)
          (λ x has. ap (λ (b : Bool). not b && (x.chunk.kind == k)) (ne_eqb x.chunk.input 0 (λ e. omega (arith, above, e, input_is (in_run o) x has)))))
          ∙ (ap (λ ys. parts_of_kind k (alone_parts o) ++ ys) (each xs (λ y h. within y (inr h))) ∙ sym (flat_map-cons (λ o. parts_of_kind k (alone_parts o)) o xs)))

  abbrev pub chunks_kept : ℕ → List Chunk
  chunks_kept k = map (λ (part : Part). part.chunk) (kept p k)

  -- ---- parts of the run that are kept have places

  pub function_there : (o : Object) → Has os.middle o → (n : ℕ) (f : FunctionDef) → slice_get o.functions n ≡ Some f → is_kept RO (in_run o) members.FUNCTION (n + length (function_imports o)) ≡ true
      → Has (kept p 0) (function_part ls.run_alone.all RO (res ls.run_alone RO (in_run o)) n f)
  function_there o ho n f is keeps =
      subst (λ xs. Has xs it) (sym (kept_is 0))
      (flat_has (λ x. parts_of_kind 0 (alone_parts x)) os.middle o it ho
      (subst (λ xs. Has xs it) (sym (functions_in ls.run_alone RO (in_run o)))
      (filter_has (λ (x : Part). kept_in RO (in_run o) x.chunk) (function_parts ls.run_alone RO (in_run o)) it
      (item_has (make_function ls.run_alone RO (in_run o)) o.functions n f is) keeps)))
    where
      it : Part
      it = function_part ls.run_alone.all RO (res ls.run_alone RO (in_run o)) n f

  pub segment_there : (o : Object) → Has os.middle o → (n : ℕ) (g : SegmentDef) → slice_get o.segments n ≡ Some g → is_kept RO (in_run o) members.DATA n ≡ true
      → Has (kept p 1) (segment_part ls.run_alone.all RO (res ls.run_alone RO (in_run o)) n g)
  segment_there o ho n g is keeps =
      subst (λ xs. Has xs it) (sym (kept_is 1))
      (flat_has (λ x. parts_of_kind 1 (alone_parts x)) os.middle o it ho
      (subst (λ xs. Has xs it) (sym (segments_in ls.run_alone RO (in_run o)))
      (filter_has (λ (x : Part). kept_in RO (in_run o) x.chunk) (segment_parts ls.run_alone RO (in_run o)) it
      (item_has (make_segment ls.run_alone RO (in_run o)) o.segments n g is) keeps)))
    where
      it : Part
      it = segment_part ls.run_alone.all RO (res ls.run_alone RO (in_run o)) n g

  pub global_there : (o : Object) → Has os.middle o → (n : ℕ) (g : GlobalDef) → slice_get o.globals n ≡ Some g → Has (kept p 2) (global_part ls.run_alone.all RO (res ls.run_alone RO (in_run o)) n g)
  global_there o ho n g is =
      subst (λ xs. Has xs it) (sym (kept_is 2))
      (flat_has (λ x. parts_of_kind 2 (alone_parts x)) os.middle o it ho
      (subst (λ xs. Has xs it) (sym (globals_in ls.run_alone RO (in_run o)))
      (filter_has (λ (x : Part). kept_in RO (in_run o) x.chunk) (global_parts ls.run_alone RO (in_run o)) it
      (item_has (make_global ls.run_alone RO (in_run o)) o.globals n g is) refl)))
    where
      it : Part
      it = global_part ls.run_alone.all RO (res ls.run_alone RO (in_run o)) n g

  sound_members : (o : Object) → Has os.middle o → (g : Group) → Has o.groups g → (m : Member) → Has g.members m → MemberStands o m
  sound_members o ho g hg m hm =
      let so = all_has (λ (x : Object). (size : ℕ) × Sound size x) (whole_objects os) s.sound o (has_right os.before (os.middle ++ os.behind) o (has_left os.middle os.behind o ho)) in
      let sound : Sound so.0 o = so.1 in
      all_has (MemberStands o) g.members (all_has (λ (x : Group). All (MemberStands o) x.members) o.groups sound.members g hg) m hm

  -- ---- functions

  abbrev function_at : Object → ℕ → Chunk
  function_at o i = chunk_at (alone run o.input) 0 (i - length (function_imports o))

  abbrev T : Object → ℕ → ℕ
  T o i = function_number p (function_at o i)

  record IsFunctionAt (o : Object) (i : ℕ) : Type 0 where
    place : ℕ
    definition : FunctionDef
    there : slice_get o.functions place ≡ Some definition
    index : i ≡ place + length (function_imports o)

  function_valid : (o : Object) → Has os.middle o → (g : Group) → Has o.groups g → (m : Member) → Has g.members m → (m.kind == members.FUNCTION) ≡ true → IsFunctionAt o m.index
  function_valid o ho g hg m hm is =
      let b = (sound_members o ho g hg m hm).2 (eqb-true m.kind members.FUNCTION is) in
      let imports : ℕ = length (function_imports o) in
      let within : m.index - imports < length o.functions = omega (arith, b.0, b.1) in
      ⊎_elim (λ f. record { place = m.index - imports; definition = f.0; there = f.2; index = omega (arith, b.0) }) (λ past. absurd (omega (arith, within, past.0))) (slice_get_cases o.functions (m.index - imports)).1

  member_function : (o : Object) (m : Member) (n : ℕ) → opt_any (λ (x : Member). (x.kind == members.FUNCTION) && (x.index == n)) (member_for p (in_run o) m) ≡ ((m.kind == members.FUNCTION) && (T o m.index == n))
  member_function o m n = choose (m.kind == 0) (m.kind == 1) refl refl
    where
      choose : (a b : Bool) → (m.kind == 0) ≡ a → (m.kind == 1) ≡ b
          → opt_any (λ (x : Member). (x.kind == members.FUNCTION) && (x.index == n))
          (if a then Some (record { kind = 0; index = place_of p 1 (chunk_at (alone run o.input) 1 m.index) }) else if b then Some (record { kind = 1; index = T o m.index }) else None)
          ≡ (b && (T o m.index == n))
      choose true true x y = absurd (omega (arith, eqb-true m.kind 0 x, eqb-true m.kind 1 y))
      choose true false x y = refl
      choose false true x y = refl
      choose false false x y = refl

  function_has : (o : Object) → Has os.middle o → (i : ℕ) → IsFunctionAt o i → is_kept RO (in_run o) members.FUNCTION i ≡ true → Has (chunks_kept 0) (function_at o i)
  function_has o ho i v keeps =
      let here : i - length (function_imports o) ≡ v.place = omega (arith, v.index) in
      subst (λ n. Has (chunks_kept 0) (chunk_at (alone run o.input) 0 n)) (sym here)
      (map_has (λ (part : Part). part.chunk) (kept p 0) (function_part ls.run_alone.all RO (res ls.run_alone RO (in_run o)) v.place v.definition)
      (function_there o ho v.place v.definition v.there (ap (is_kept RO (in_run o) members.FUNCTION) (sym v.index) ∙ keeps)))

  added : (n a b : ℕ) → ((n + a) == (n + b)) ≡ (a == b)
  added n a b = ⊎_elim
      (λ same. eq-eqb (n + a) (n + b) (ap (λ k. n + k) same.1) ∙ sym same.0)
      (λ other. ne_eqb (n + a) (n + b) (λ e. other.1 (omega (arith, e))) ∙ sym other.0)
      (eqb_tells a b)

  function_tells : (o x : Object) → Has os.middle o → Has os.middle x → (i n : ℕ) → IsFunctionAt o i → IsFunctionAt x n → is_kept RO (in_run o) members.FUNCTION i ≡ true → is_kept RO (in_run x) members.FUNCTION n ≡ true
      → (T x n == T o i) ≡ ((x.input == o.input) && (n == i))
  function_tells o x ho hx i n vo vx ko kx =
      added (length (open_of p Function)) (place_of p 0 (function_at x n)) (place_of p 0 (function_at o i))
      ∙ (numbers_tell (chunks_kept 0) (function_at x n) (function_at o i) (function_has x hx n vx kx) (function_has o ho i vo ko)
      ∙ (ap (λ (b : Bool). (b && true) && ((n - length (function_imports x)) == (i - length (function_imports o))))
      (lowered run.first x.input o.input (low x hx) (low o ho)) ∙ by_input (x.input == o.input) refl))
    where
      low : (y : Object) → Has os.middle y → run.first ≤ y.input
      low y hy = let lt = all_has (λ (z : Object). run.first < z.input) os.middle cut.from y hy in omega (arith, lt)

      by_input : (b : Bool) → (x.input == o.input) ≡ b → ((b && true) && ((n - length (function_imports x)) == (i - length (function_imports o)))) ≡ (b && (n == i))
      by_input false e = refl
      by_input true e =
          let it : x ≡ o = one_input run os p cut s.loaded o x ho hx e in
          ap (λ (y : Object). (n - length (function_imports y)) == (i - length (function_imports o))) it
          ∙ lowered (length (function_imports o)) n i (subst (λ (y : Object). length (function_imports y) ≤ n) it (omega (arith, vx.index))) (omega (arith, vo.index))

  -- ---- segments

  abbrev D : Object → ℕ → ℕ
  D o i = place_of p 1 (chunk_at (alone run o.input) 1 i)

  record IsSegmentAt (o : Object) (i : ℕ) : Type 0 where
    definition : SegmentDef
    there : slice_get o.segments i ≡ Some definition

  segment_valid : (o : Object) → Has os.middle o → (g : Group) → Has o.groups g → (m : Member) → Has g.members m → (m.kind == members.DATA) ≡ true → IsSegmentAt o m.index
  segment_valid o ho g hg m hm is =
      let within = (sound_members o ho g hg m hm).1 (eqb-true m.kind members.DATA is) in
      ⊎_elim (λ f. record { definition = f.0; there = f.2 }) (λ past. absurd (omega (arith, within, past.0))) (slice_get_cases o.segments m.index).1

  member_segment : (o : Object) (m : Member) (n : ℕ) → opt_any (λ (x : Member). (x.kind == members.DATA) && (x.index == n)) (member_for p (in_run o) m) ≡ ((m.kind == members.DATA) && (D o m.index == n))
  member_segment o m n = choose (m.kind == 0) (m.kind == 1) refl
    where
      choose : (a b : Bool) → (m.kind == 0) ≡ a
          → opt_any (λ (x : Member). (x.kind == members.DATA) && (x.index == n))
          (if a then Some (record { kind = 0; index = D o m.index }) else if b then Some (record { kind = 1; index = T o m.index }) else None)
          ≡ (a && (D o m.index == n))
      choose true b x = refl
      choose false true x = refl
      choose false false x = refl

  segment_has : (o : Object) → Has os.middle o → (i : ℕ) → IsSegmentAt o i → is_kept RO (in_run o) members.DATA i ≡ true → Has (chunks_kept 1) (chunk_at (alone run o.input) 1 i)
  segment_has o ho i v keeps =
      map_has (λ (part : Part). part.chunk) (kept p 1) (segment_part ls.run_alone.all RO (res ls.run_alone RO (in_run o)) i v.definition) (segment_there o ho i v.definition v.there keeps)

  segment_tells : (o x : Object) → Has os.middle o → Has os.middle x → (i n : ℕ) → IsSegmentAt o i → IsSegmentAt x n → is_kept RO (in_run o) members.DATA i ≡ true → is_kept RO (in_run x) members.DATA n ≡ true
      → (D x n == D o i) ≡ ((x.input == o.input) && (n == i))
  segment_tells o x ho hx i n vo vx ko kx =
      numbers_tell (chunks_kept 1) (chunk_at (alone run x.input) 1 n) (chunk_at (alone run o.input) 1 i) (segment_has x hx n vx kx) (segment_has o ho i vo ko)
      ∙ (ap (λ (b : Bool). (b && true) && (n == i)) (lowered run.first x.input o.input (low x hx) (low o ho)) ∙ by_input (x.input == o.input))
    where
      low : (y : Object) → Has os.middle y → run.first ≤ y.input
      low y hy = let lt = all_has (λ (z : Object). run.first < z.input) os.middle cut.from y hy in omega (arith, lt)

      by_input : (b : Bool) → ((b && true) && (n == i)) ≡ (b && (n == i))
      by_input false = refl
      by_input true = refl

  -- ---- what is taken away

  groups_are : os.joined.groups ≡ flat_map (groups_won run os p cut s.loaded) os.middle
  groups_are = s.groups ∙ (ap (λ xs. flat_map (groups_in p) xs) (objects_are ls.run_alone RO) ∙ won)
    where
      won : flat_map (groups_in p) RO ≡ flat_map (groups_won run os p cut s.loaded) os.middle
      won = flat_of_map in_run (groups_in p) os.middle ∙ each os.middle
        where
          each : (xs : List Object) → flat_map (λ o. groups_in p (in_run o)) xs ≡ flat_map (groups_won run os p cut s.loaded) xs
          each [] = refl
          each (o ∷ xs) =
              flat_map-cons (λ o. groups_in p (in_run o)) o xs
              ∙ (ap (λ ys. ys ++ flat_map (λ o. groups_in p (in_run o)) xs) (one o)
              ∙ (ap (λ ys. groups_won run os p cut s.loaded o ++ ys) (each xs) ∙ sym (flat_map-cons (groups_won run os p cut s.loaded) o xs)))
            where
              one : (x : Object) → groups_in p (in_run x) ≡ groups_won run os p cut s.loaded x
              one x = ap (λ ys. map (group_for p (in_run x)) (filter (λ (g : Group). is_input (alone run x.input) (group_winner ys g.name)) x.groups)) (objects_are ls.run_alone RO)

  pub function_taken : (o : Object) → Has os.middle o → (n : ℕ) (f : FunctionDef) → slice_get o.functions n ≡ Some f → is_kept RO (in_run o) members.FUNCTION (n + length (function_imports o)) ≡ true
      → is_taken_away os os.joined members.FUNCTION (place_of p 0 (chunk_at (alone run o.input) 0 n) + length (function_imports os.joined)) ≡ is_taken_away os o members.FUNCTION (n + length (function_imports o))
  function_taken o ho n f is keeps =
      ap (λ k. is_taken_away os os.joined members.FUNCTION k) number
      ∙ (ap (λ gs. list_any (λ (g : Group). has_member members.FUNCTION (T o i) g && list_any (has_group g.name) os.before) gs) groups_are
      ∙ taken_alike run os p cut s.loaded members.FUNCTION T IsFunctionAt member_function function_valid function_tells o ho i valid keeps)
    where
      i : ℕ
      i = n + length (function_imports o)

      valid : IsFunctionAt o i
      valid = record { place = n; definition = f; there = is; index = refl }

      number : place_of p 0 (chunk_at (alone run o.input) 0 n) + length (function_imports os.joined) ≡ T o i
      number =
          let here : n ≡ i - length (function_imports o) = omega arith in
          ap (λ k. place_of p 0 (chunk_at (alone run o.input) 0 k) + length (function_imports os.joined)) here
          ∙ (ap (λ k. place_of p 0 (function_at o i) + k) s.functions_imported ∙ turned (place_of p 0 (function_at o i)) (length (open_of p Function)))
        where
          turned : (a b : ℕ) → a + b ≡ b + a
          turned a b = omega arith

  pub segment_taken : (o : Object) → Has os.middle o → (n : ℕ) (g : SegmentDef) → slice_get o.segments n ≡ Some g → is_kept RO (in_run o) members.DATA n ≡ true
      → is_taken_away os os.joined members.DATA (place_of p 1 (chunk_at (alone run o.input) 1 n)) ≡ is_taken_away os o members.DATA n
  segment_taken o ho n g is keeps =
      ap (λ gs. list_any (λ (x : Group). has_member members.DATA (D o n) x && list_any (has_group x.name) os.before) gs) groups_are
      ∙ taken_alike run os p cut s.loaded members.DATA D IsSegmentAt member_segment segment_valid segment_tells o ho n (record { definition = g; there = is }) keeps
