-- The groups of a program's relocatable object: each is one of its objects', with that object's parts, and no part stands in two places.
use Rattle.std.proofs.Common.{◌≡◌, ℕ, suc, ◌+◌, ◌-◌, ◌*◌, ◌^◌, ◌<◌, ◌≤◌, ◌==◌, Bool, true, false, not, ◌&&◌, List, [], ◌∷◌, ◌++◌, map, filter, length, inl, inr, ⊎_elim, refl, sym, ap, ◌∙◌, subst, arith}
use Rattle.std.specs.Prelude.{◌⊎◌, cond, nat_lt, nat_le, nat_eq, Option, Some, None, option_map, filter_map, flat_map, slice_get, bytes_eq, All, if◌then◌else◌}
use Rattle.std.specs.List.{list_any, list_all, cons_option}
use Rattle.std.proofs.lemmas.Bool.{and_parts, and_from, eqb-true, eq-eqb, lt-ltb, false_from_ne_true}
use Rattle.std.proofs.lemmas.Bool.Decides.{nat_tests}
use Rattle.std.proofs.lemmas.List.Concat.{flat_map-cons, flat_map-append}
use Rattle.std.proofs.lemmas.Option.{slice_get_cases}
use Rattle.list_places.specs.Has.{Has, Apart}
use Rattle.list_places.proofs.Lists.{some_is, all_has, apart_append, apart_filter, apart_map, at_has, by_test, has_any, has_filter, has_flat, has_map, has_pick, map_has}
use Rattle.object_rules.specs.declared.spaces.Counts.{Counts}
use Rattle.object_rules.specs.Differ.{all_differ}
use Rattle.object_rules.specs.Metadata.{member_stands, member_key, groups_stand}
use Rattle.name_rules.specs.object_file.linking_section.declared.group.Member.{Member}
use Rattle.name_rules.specs.object_file.linking_section.declared.group.Group.{Group}
use Rattle.name_rules.specs.object_file.linking_section.declared.member_kinds.TheConstants as members
use Rattle.name_rules.specs.object_file.declared.object.Object.{Object}
use Rattle.name_rules.specs.object_file.Spaces.{function_imports}
use Rattle.object_file.specs.Sound.{Sound, MemberStands, MembersDiffer, function_count}
use Rattle.name_rules.specs.Entries.{group_winner, is_input, has_member, is_kept}
use Rattle.mark_bits.specs.declared.chunk.Chunk.{Chunk}
use Rattle.link_rules.specs.Program.{Program, Part, chunk_at}
use Rattle.partial_rules.specs.Relocatable.{Relocatable, Windowed}
use Rattle.partial_rules.specs.Partial.{kept, place_of, function_number, member_for, group_for, groups_in, relocatable}
use Rattle.partial_rules.specs.WellFormed.{Coded}
use Rattle.partial_rules.specs.ReadAs.{linking_for}
use Rattle.partial_laws.specs.Loaded.{Rise}
use Rattle.partial_laws.proofs.Loading.{rise_above}
use Rattle.partial_laws.proofs.Members.{chunk_equal, numbers_tell}
use Rattle.partial_laws.proofs.Same.{name_equal}
use Rattle.partial_laws.proofs.Symbols.{flat_of_map, map_of_flat}
use Rattle.partial_parts_laws.specs.Linked.{Linked, program}
use Rattle.partial_parts_laws.specs.ReadBack.{AreLinked}
use Rattle.partial_parts_laws.specs.SymbolsBack.{AreNamed}
use Rattle.partial_parts_laws.proofs.Parts.{make_function, make_segment, objects_are}
use Rattle.partial_parts_laws.proofs.KeptParts.{function_there, segment_there}
use Rattle.partial_parts_laws.proofs.RulesKept.{all_from, counts, place_low, functions_are, imported_functions, segments_long}

no_true : false ≡ true → ⊥
no_true e = absurd cc

-- ---- lists

differ_of : {K : Type 0} (equal : K → K → Bool) (ks : List K) → Apart equal ks → all_differ equal ks ≡ true
differ_of equal [] a = refl
differ_of equal (k ∷ ks) a =
    and_from (not (list_any (equal k) ks)) (all_differ equal ks)
    (by_test (list_any (equal k) ks) (λ t. let h = has_any (equal k) ks t in absurd (a.0 h.0 h.1 h.2)) (λ f. ap not f)) (differ_of equal ks a.1)

apart_by_places : {X : Type 0} (same : X → X → Bool) (xs : List X) → ((j k : ℕ) (a b : X) → slice_get xs j ≡ Some a → slice_get xs k ≡ Some b → same a b ≡ true → j ≡ k) → Apart same xs
apart_by_places same [] each = tt
apart_by_places same (x ∷ xs) each = (
  λ y hy e. let at = at_has xs y hy in omega (arith, each 0 (suc at.0) x y refl at.1 e),
  apart_by_places same xs (λ j k a b ja kb e. omega (arith, each (suc j) (suc k) a b ja kb e)),
)

flat_flat : {A B C : Type 0} (f : A → List B) (g : B → List C) (xs : List A) → flat_map g (flat_map f xs) ≡ flat_map (λ x. flat_map g (f x)) xs
flat_flat f g [] = refl
flat_flat f g (x ∷ xs) =
    ap (flat_map g) (flat_map-cons f x xs) ∙ (flat_map-append g (f x) (flat_map f xs) ∙ (ap (λ ys. flat_map g (f x) ++ ys) (flat_flat f g xs) ∙ sym (flat_map-cons (λ y. flat_map g (f y)) x xs)))

pick_append : {A B : Type 0} (f : A → Option B) (xs ys : List A) → filter_map f (xs ++ ys) ≡ filter_map f xs ++ filter_map f ys
pick_append f [] ys = refl
pick_append {A} {B} f (x ∷ xs) ys = ap (cons_option (f x)) (pick_append f xs ys) ∙ by_option (f x)
  where
    by_option : (o : Option B) → cons_option o (filter_map f xs ++ filter_map f ys) ≡ cons_option o (filter_map f xs) ++ filter_map f ys
    by_option None = refl
    by_option (Some b) = refl

pick_flat : {A B C : Type 0} (f : B → Option C) (g : A → List B) (xs : List A) → filter_map f (flat_map g xs) ≡ flat_map (λ x. filter_map f (g x)) xs
pick_flat f g [] = refl
pick_flat f g (x ∷ xs) =
    ap (filter_map f) (flat_map-cons g x xs) ∙ (pick_append f (g x) (flat_map g xs) ∙ (ap (λ ys. filter_map f (g x) ++ ys) (pick_flat f g xs) ∙ sym (flat_map-cons (λ y. filter_map f (g y)) x xs)))

pick_map : {A B C : Type 0} (f : B → Option C) (h : A → B) (xs : List A) → filter_map f (map h xs) ≡ filter_map (λ x. f (h x)) xs
pick_map f h [] = refl
pick_map f h (x ∷ xs) = ap (cons_option (f (h x))) (pick_map f h xs)

map_picked : {A B C : Type 0} (g : B → C) (f : A → Option B) (xs : List A) → map g (filter_map f xs) ≡ filter_map (λ x. option_map g (f x)) xs
map_picked g f [] = refl
map_picked {A} {B} {C} g f (x ∷ xs) = by_option (f x) ∙ ap (cons_option (option_map g (f x))) (map_picked g f xs)
  where
    by_option : (o : Option B) → map g (cons_option o (filter_map f xs)) ≡ cons_option (option_map g o) (map g (filter_map f xs))
    by_option None = refl
    by_option (Some b) = refl

map_twice : {A B C : Type 0} (f : A → B) (g : B → C) (xs : List A) → map g (map f xs) ≡ map (λ x. g (f x)) xs
map_twice f g [] = refl
map_twice f g (x ∷ xs) = ap (λ ys. g (f x) ∷ ys) (map_twice f g xs)

flat_all : {A B : Type 0} (f g : A → List B) (xs : List A) → ((x : A) → f x ≡ g x) → flat_map f xs ≡ flat_map g xs
flat_all f g [] each = refl
flat_all f g (x ∷ xs) each = flat_map-cons f x xs ∙ ((λ i. each x i ++ flat_all f g xs each i) ∙ sym (flat_map-cons g x xs))

-- keys of items that are told apart
keys_apart : {A K : Type 0} (same : A → A → Bool) (equal : K → K → Bool) (key : A → Option K) (xs : List A) → Apart same xs
    → ((x y : A) (u v : K) → Has xs x → Has xs y → key x ≡ Some u → key y ≡ Some v → equal u v ≡ true → same x y ≡ true) → Apart equal (filter_map key xs)
keys_apart same equal key [] differ tells = tt
keys_apart {A} {K} same equal key (x ∷ xs) differ tells = choose (key x) refl (keys_apart same equal key xs differ.1 (λ a b u v ha hb. tells a b u v (inr ha) (inr hb)))
  where
    choose : (o : Option K) → key x ≡ o → Apart equal (filter_map key xs) → Apart equal (cons_option o (filter_map key xs))
    choose None e rest = rest
    choose (Some u) e rest = ((λ v hv s. let y = has_pick key xs v hv in differ.0 y.0 y.1 (tells x y.0 u v (inl refl) (inr y.1) e y.2 s)), rest)

-- of objects whose inputs rise
apart_objects : {X : Type 0} (same : X → X → Bool) (f : Object → List X) (objects : List Object) → ((o : Object) → Has objects o → Apart same (f o))
    → ((o z : Object) → Has objects o → Has objects z → (x y : X) → Has (f o) x → Has (f z) y → same x y ≡ true → o.input ≡ z.input)
    → (last : ℕ) (os : List Object) → Rise last os → ((o : Object) → Has os o → Has objects o) → Apart same (flat_map f os)
apart_objects same f objects own across last [] r within = tt
apart_objects same f objects own across last (o ∷ os) r within =
    subst (Apart same) (sym (flat_map-cons f o os))
    (apart_append same (f o) (flat_map f os) (own o (within o (inl refl))) (apart_objects same f objects own across o.input os r.1 (λ z h. within z (inr h)))
    (λ x y hx hy e.
    let z = has_flat f os y hy in
    let lt : o.input < z.0.input = all_has (λ (w : Object). o.input < w.input) os (rise_above o.input os r.1) z.0 z.1 in
    let same_input = across o z.0 (within o (inl refl)) (within z.0 (inr z.1)) x y hx z.2 e in
    omega (arith, lt, same_input)))

one_winner : (a b : ℕ) (w : Option ℕ) → is_input a w ≡ true → is_input b w ≡ true → a ≡ b
one_winner a b None ha hb = absurd (no_true ha)
one_winner a b (Some w) ha hb = eqb-true a w ha ∙ sym (eqb-true b w hb)

module _ (l : Linked) (objects : List Object) (is : AreLinked l objects) (names : All AreNamed objects) (codes : List Coded)
    (bodies : (relocatable (program l objects)).bodies ≡ map {A = Coded} {B = Windowed} (λ c. c.windowed) codes) where
  abbrev p : Program
  p = program l objects

  abbrev r : Relocatable
  r = relocatable p

  abbrev cs : Counts
  cs = counts l objects is names codes bodies

  above : All (λ (y : Object). 0 < y.input) objects
  above = rise_above 0 objects is.rise

  -- whether the object's group is the one of its name that is kept
  abbrev won : Object → Group → Bool
  won o = λ (g : Group). is_input o.input (group_winner p.objects g.name)

  abbrev groups_won : Object → List Group
  groups_won o = filter (won o) o.groups

  record IsWonIn (o : Object) (g : Group) : Type 0 where
    one_of : Has o.groups g
    wins : is_input o.input (group_winner p.objects g.name) ≡ true

  won_in : (o : Object) (g : Group) → Has (groups_won o) g → IsWonIn o g
  won_in o g has = let f = has_filter (won o) o.groups g has in record { one_of = f.0; wins = f.1 }

  one_object : (o z : Object) → Has objects o → Has objects z → o.input ≡ z.input → o ≡ z
  one_object o z ho hz same = by_rise 0 objects is.rise ho hz
    where
      by_rise : (last : ℕ) (os : List Object) → Rise last os → Has os o → Has os z → o ≡ z
      by_rise last [] rise a b = absurd a
      by_rise last (x ∷ os) rise (inl a) (inl b) = sym a ∙ b
      by_rise last (x ∷ os) rise (inl a) (inr b) = let lt = all_has (λ (w : Object). x.input < w.input) os (rise_above x.input os rise.1) z b in absurd (omega (arith, lt, same, ap (λ (w : Object). w.input) a))
      by_rise last (x ∷ os) rise (inr a) (inl b) = let lt = all_has (λ (w : Object). x.input < w.input) os (rise_above x.input os rise.1) o a in absurd (omega (arith, lt, same, ap (λ (w : Object). w.input) b))
      by_rise last (x ∷ os) rise (inr a) (inr b) = by_rise x.input os rise.1 a b

  sound_of : (o : Object) → Has objects o → (size : ℕ) × Sound size o
  sound_of o ho = all_has (λ (y : Object). (size : ℕ) × Sound size y) objects is.sound o ho

  -- ---- their names

  abbrev group_names : Object → List (List ℕ)
  group_names o = map (λ (g : Group). g.name) (groups_in p o)

  names_own : (o : Object) → Has objects o → Apart bytes_eq (group_names o)
  names_own o ho =
      let so = sound_of o ho in
      let sound : Sound so.0 o = so.1 in
      subst (Apart bytes_eq) (sym (map_twice (group_for p o) (λ (g : Group). g.name) (groups_won o)))
      (apart_map (λ (g h : Group). bytes_eq g.name h.name) bytes_eq (λ (g : Group). g.name) (λ g h e. e) (groups_won o)
      (apart_filter (λ (g h : Group). bytes_eq g.name h.name) (won o) o.groups
      (apart_by_places (λ (g h : Group). bytes_eq g.name h.name) o.groups (λ j k a b ja kb e. sound.groups_differ j k a b ja kb (name_equal a.name b.name e)))))

  name_of_won : (o : Object) (u : List ℕ) → Has (group_names o) u → is_input o.input (group_winner p.objects u) ≡ true
  name_of_won o u has =
      let m = has_map (λ (g : Group). g.name) (groups_in p o) u has in
      let n = has_map (group_for p o) (groups_won o) m.0 m.1 in
      let named_so : n.0.name ≡ u = ap (λ (g : Group). g.name) n.2 ∙ m.2 in
      ap (λ x. is_input o.input (group_winner p.objects x)) (sym named_so) ∙ (won_in o n.0 n.1).wins

  pub names_differ_too : all_differ bytes_eq (map (λ (g : Group). g.name) (flat_map (groups_in p) p.objects)) ≡ true
  names_differ_too =
      differ_of bytes_eq (map (λ (g : Group). g.name) (flat_map (groups_in p) p.objects))
      (subst (Apart bytes_eq) (sym (map_of_flat (λ (g : Group). g.name) (groups_in p) p.objects))
      (subst (λ os. Apart bytes_eq (flat_map group_names os)) (sym (objects_are l objects))
      (apart_objects bytes_eq group_names objects names_own
      (λ o z ho hz u v hu hv e. one_winner o.input z.input (group_winner p.objects v) (ap (λ x. is_input o.input (group_winner p.objects x)) (sym (name_equal u v e)) ∙ name_of_won o u hu) (name_of_won z v hv))
      0 objects is.rise (λ o h. h))))

  -- ---- members

  -- a member of a group that is kept
  record MemberOf (o : Object) (m : Member) : Type 0 where
    object : Has objects o
    group : Group
    wins : IsWonIn o group
    one_of : Has group.members m

  abbrev same_member : Member → Member → Bool
  same_member a b = (a.kind == b.kind) && (a.index == b.index)

  member_equal : (a b : Member) → (a.kind == b.kind) ≡ true → (a.index == b.index) ≡ true → a ≡ b
  member_equal a b kind index = λ i. record { kind = eqb-true a.kind b.kind kind i; index = eqb-true a.index b.index index i }

  stands_there : (o : Object) (m : Member) → MemberOf o m → MemberStands o m
  stands_there o m x =
      let so = sound_of o x.object in
      let sound : Sound so.0 o = so.1 in
      all_has (MemberStands o) x.group.members (all_has (λ (g : Group). All (MemberStands o) g.members) o.groups sound.members x.group x.wins.one_of) m x.one_of

  -- its part is kept, since it is in no other group
  member_kept : (o : Object) (m : Member) → MemberOf o m → is_kept p.objects o m.kind m.index ≡ true
  member_kept o m x = ap not (false_from_ne_true (list_any (λ (g : Group). has_member m.kind m.index g && not (is_input o.input (group_winner p.objects g.name))) o.groups) none)
    where
      none : list_any (λ (g : Group). has_member m.kind m.index g && not (is_input o.input (group_winner p.objects g.name))) o.groups ≡ true → ⊥
      none t =
          let so = sound_of o x.object in
          let sound : Sound so.0 o = so.1 in
          let h = has_any (λ (g : Group). has_member m.kind m.index g && not (is_input o.input (group_winner p.objects g.name))) o.groups t in
          let both = and_parts (has_member m.kind m.index h.0) (not (is_input o.input (group_winner p.objects h.0.name))) h.2 in
          let n = has_any (λ (y : Member). (y.kind == m.kind) && (y.index == m.index)) h.0.members both.0 in
          let tests = and_parts (n.0.kind == m.kind) (n.0.index == m.index) n.2 in
          let same : n.0 ≡ m = member_equal n.0 m tests.0 tests.1 in
          let a = at_has o.groups x.group x.wins.one_of in
          let b = at_has o.groups h.0 h.1 in
          let i = at_has x.group.members m x.one_of in
          let j = at_has h.0.members n.0 n.1 in
          let places = sound.members_differ a.0 b.0 i.0 j.0 x.group h.0 m a.1 b.1 i.1 (j.1 ∙ ap (λ (y : Member). Some y) same) in
          let one : Some x.group ≡ Some h.0 = sym a.1 ∙ (ap (slice_get o.groups) places.0 ∙ b.1) in
          let group : x.group ≡ h.0 = some_is x.group h.0 one in
          no_true (ap not (sym (ap (λ (g : Group). is_input o.input (group_winner p.objects g.name)) (sym group) ∙ x.wins.wins)) ∙ both.1)

  kept_there : (o : Object) (m : Member) (kind : ℕ) → MemberOf o m → m.kind ≡ kind → is_kept objects o kind m.index ≡ true
  kept_there o m kind x same = ap (λ os. is_kept os o kind m.index) (sym (objects_are l objects)) ∙ (ap (λ k. is_kept p.objects o k m.index) (sym same) ∙ member_kept o m x)

  -- a data segment's chunk
  abbrev segment_chunk : Object → Member → Chunk
  segment_chunk o m = chunk_at o.input 1 m.index

  abbrev function_chunk : Object → Member → Chunk
  function_chunk o m = chunk_at o.input 0 (m.index - length (function_imports o))

  segment_part_of : (o : Object) (m : Member) → MemberOf o m → m.kind ≡ 0 → (part : Part) × Has (kept p 1) part × (part.chunk ≡ segment_chunk o m)
  segment_part_of o m x kind =
      let low = (stands_there o m x).1 kind in
      ⊎_elim (λ g. (make_segment l objects o m.index g.0, segment_there l objects is.strict above o x.object m.index g.0 g.2 (kept_there o m members.DATA x kind), refl)) (λ past. absurd (omega (arith, low, past.0))) (slice_get_cases o.segments m.index).1

  function_part_of : (o : Object) (m : Member) → MemberOf o m → m.kind ≡ 1 → (part : Part) × Has (kept p 0) part × (part.chunk ≡ function_chunk o m)
  function_part_of o m x kind =
      let b = (stands_there o m x).2 kind in
      let n : ℕ = m.index - length (function_imports o) in
      let low : m.index < function_count o = b.1 in
      let small : n < length o.functions = omega (arith, b.0, low) in
      let again : n + length (function_imports o) ≡ m.index = omega (arith, b.0) in
      ⊎_elim (λ f. (make_function l objects o n f.0, function_there l objects is.strict above o x.object n f.0 f.2 (ap (is_kept objects o members.FUNCTION) again ∙ kept_there o m members.FUNCTION x kind), refl)) (λ past. absurd (omega (arith, small, past.0))) (slice_get_cases o.functions n).1

  -- what a member is, in the one object
  by_kind : (P : Option Member → Type 0) (o : Object) (m : Member) → (m.kind ≡ 0 → P (Some (record { kind = 0; index = place_of p 1 (segment_chunk o m) }))) → (m.kind ≡ 1 → P (Some (record { kind = 1; index = function_number p (function_chunk o m) }))) → P None
      → P (member_for p o m)
  by_kind P o m segment function other = choose (m.kind == 0) (m.kind == 1) refl refl
    where
      choose : (a b : Bool) → (m.kind == 0) ≡ a → (m.kind == 1) ≡ b → P (if a then Some (record { kind = 0; index = place_of p 1 (segment_chunk o m) }) else if b then Some (record { kind = 1; index = function_number p (function_chunk o m) }) else None)
      choose true b x y = segment (eqb-true m.kind 0 x)
      choose false true x y = function (eqb-true m.kind 1 y)
      choose false false x y = other

  segment_low : (o : Object) (m : Member) → MemberOf o m → m.kind ≡ 0 → place_of p 1 (segment_chunk o m) < length (kept p 1)
  segment_low o m x kind = let part = segment_part_of o m x kind in subst (λ c. place_of p 1 c < length (kept p 1)) part.2 (place_low l objects is names codes bodies 1 part.0 part.1)

  function_low : (o : Object) (m : Member) → MemberOf o m → m.kind ≡ 1 → place_of p 0 (function_chunk o m) < length (kept p 0)
  function_low o m x kind = let part = function_part_of o m x kind in subst (λ c. place_of p 0 c < length (kept p 0)) part.2 (place_low l objects is names codes bodies 0 part.0 part.1)

  member_there : (o : Object) (m : Member) → MemberOf o m → (n : Member) → member_for p o m ≡ Some n → member_stands cs n ≡ true
  member_there o m x =
      by_kind (λ out. (n : Member) → out ≡ Some n → member_stands cs n ≡ true) o m
      (λ kind n e. subst (λ (y : Member). member_stands cs y ≡ true) (some_is (record { kind = 0; index = place_of p 1 (segment_chunk o m) }) n e)
      (lt-ltb (place_of p 1 (segment_chunk o m)) cs.segments (omega (arith, segment_low o m x kind, segments_long l objects is names codes bodies))))
      (λ kind n e. subst (λ (y : Member). member_stands cs y ≡ true) (some_is (record { kind = 1; index = function_number p (function_chunk o m) }) n e)
      (let low : cs.imported_functions ≤ function_number p (function_chunk o m) = omega (arith, imported_functions l objects is names codes bodies) in
      and_from (nat_le cs.imported_functions (function_number p (function_chunk o m))) (nat_lt (function_number p (function_chunk o m)) cs.functions) (grind (arith, nat_tests, low))
      (lt-ltb (function_number p (function_chunk o m)) cs.functions (omega (arith, function_low o m x kind, functions_are l objects is names codes bodies)))))
      (λ n e. absurd (none_some n e))
    where
      none_some : (n : Member) → None ≡ Some n → ⊥
      none_some n e = absurd cc

  pub members_there : list_all (λ (g : Group). list_all (member_stands cs) g.members) (flat_map (groups_in p) p.objects) ≡ true
  members_there =
      all_from (λ (g : Group). list_all (member_stands cs) g.members) (flat_map (groups_in p) p.objects)
      (λ g hg.
      let f = has_flat (groups_in p) p.objects g hg in
      let m = has_map (group_for p f.0) (groups_won f.0) g f.2 in
      let ho : Has objects f.0 = subst (λ os. Has os f.0) (objects_are l objects) f.1 in
      subst (λ (h : Group). list_all (member_stands cs) h.members ≡ true) m.2
      (all_from (member_stands cs) (filter_map (member_for p f.0) m.0.members)
      (λ n hn.
      let k = has_pick (member_for p f.0) m.0.members n hn in
      member_there f.0 k.0 (record { object = ho; group = m.0; wins = won_in f.0 m.0 m.1; one_of = k.1 }) n k.2)))

  -- ---- no member stands twice

  abbrev Item : Type 0
  Item = Object × Member

  abbrev items : Object → List Item
  items o = flat_map (λ (g : Group). map (λ m. (o, m)) g.members) (groups_won o)

  abbrev same_item : Item → Item → Bool
  same_item x y = (x.0.input == y.0.input) && same_member x.1 y.1

  abbrev key : Item → Option ℕ
  key x = option_map member_key (member_for p x.0 x.1)

  item_of : (o : Object) → Has objects o → (x : Item) → Has (items o) x → (x.0 ≡ o) × MemberOf o x.1
  item_of o ho x has =
      let f = has_flat (λ (g : Group). map (λ m. (o, m)) g.members) (groups_won o) x has in
      let m = has_map (λ m. (o, m)) f.0.members x f.2 in
      (ap (λ (y : Item). y.0) (sym m.2), record { object = ho; group = f.0; wins = won_in o f.0 f.1; one_of = subst (λ (y : Item). Has f.0.members y.1) m.2 m.1 })

  -- members of different places differ
  apart_won : (t : Group → Bool) (gs : List Group) → MembersDiffer gs → Apart same_member (flat_map (λ (g : Group). g.members) (filter t gs))
  apart_won t [] differ = tt
  apart_won t (g ∷ gs) differ = choose (t g) (apart_won t gs (λ h k i j a b m ga hb ia jb. let d = differ (suc h) (suc k) i j a b m ga hb ia jb in (omega (arith, d.0), d.1)))
    where
      own : Apart same_member g.members
      own = apart_by_places same_member g.members (λ j k a b ja kb e.
          let tests = and_parts (a.kind == b.kind) (a.index == b.index) e in
          (differ 0 0 j k g g a refl refl ja (kb ∙ ap (λ (m : Member). Some m) (sym (member_equal a b tests.0 tests.1)))).1)

      across : (x y : Member) → Has g.members x → Has (flat_map (λ (h : Group). h.members) (filter t gs)) y → same_member x y ≡ true → ⊥
      across x y hx hy e =
          let f = has_flat (λ (h : Group). h.members) (filter t gs) y hy in
          let n = at_has gs f.0 (has_filter t gs f.0 f.1).0 in
          let i = at_has g.members x hx in
          let j = at_has f.0.members y f.2 in
          let tests = and_parts (x.kind == y.kind) (x.index == y.index) e in
          let d = differ 0 (suc n.0) i.0 j.0 g f.0 x refl n.1 i.1 (j.1 ∙ ap (λ (m : Member). Some m) (sym (member_equal x y tests.0 tests.1))) in
          omega (arith, d.0)

      choose : (b : Bool) → Apart same_member (flat_map (λ (h : Group). h.members) (filter t gs)) → Apart same_member (flat_map (λ (h : Group). h.members) (cond b (g ∷ filter t gs) (filter t gs)))
      choose false rest = rest
      choose true rest =
          subst (Apart same_member) (sym (flat_map-cons (λ (h : Group). h.members) g (filter t gs))) (apart_append same_member g.members (flat_map (λ (h : Group). h.members) (filter t gs)) own rest across)

  items_own : (o : Object) → Has objects o → Apart same_item (items o)
  items_own o ho =
      let so = sound_of o ho in
      let sound : Sound so.0 o = so.1 in
      subst (Apart same_item) (map_of_flat (λ m. (o, m)) (λ (g : Group). g.members) (groups_won o))
      (apart_map same_member same_item (λ m. (o, m)) (λ a b e. (and_parts (o.input == o.input) (same_member a b) e).1) (flat_map (λ (g : Group). g.members) (groups_won o)) (apart_won (won o) o.groups sound.members_differ))

  items_apart : Apart same_item (flat_map items objects)
  items_apart =
      apart_objects same_item items objects items_own
      (λ o z ho hz x y hx hy e.
      let a = item_of o ho x hx in
      let b = item_of z hz y hy in
      ap (λ (w : Object). w.input) (sym a.0) ∙ (eqb-true x.0.input y.0.input (and_parts (x.0.input == y.0.input) (same_member x.1 y.1) e).0 ∙ ap (λ (w : Object). w.input) b.0))
      0 objects is.rise (λ o h. h)

  keys_are : flat_map (λ (g : Group). map member_key g.members) (flat_map (groups_in p) p.objects) ≡ filter_map key (flat_map items objects)
  keys_are =
      ap (λ os. flat_map (λ (g : Group). map member_key g.members) (flat_map (groups_in p) os)) (objects_are l objects)
      ∙ (flat_flat (groups_in p) (λ (g : Group). map member_key g.members) objects
      ∙ (flat_all (λ o. flat_map (λ (g : Group). map member_key g.members) (groups_in p o)) (λ o. filter_map key (items o)) objects each
      ∙ sym (pick_flat key items objects)))
    where
      one : (o : Object) (g : Group) → map member_key (filter_map (member_for p o) g.members) ≡ filter_map key (map (λ m. (o, m)) g.members)
      one o g = map_picked member_key (member_for p o) g.members ∙ sym (pick_map key (λ m. (o, m)) g.members)

      each : (o : Object) → flat_map (λ (g : Group). map member_key g.members) (groups_in p o) ≡ filter_map key (items o)
      each o =
          flat_of_map (group_for p o) (λ (g : Group). map member_key g.members) (groups_won o)
          ∙ (flat_all (λ (g : Group). map member_key (filter_map (member_for p o) g.members)) (λ (g : Group). filter_map key (map (λ m. (o, m)) g.members)) (groups_won o) (one o)
          ∙ sym (pick_flat key (λ (g : Group). map (λ m. (o, m)) g.members) (groups_won o)))

  -- a member's key
  abbrev KeyOf : Object → Member → ℕ → Type 0
  KeyOf o m u = ((m.kind ≡ 0) × (u ≡ place_of p 1 (segment_chunk o m))) ⊎ ((m.kind ≡ 1) × (u ≡ 2 ^ 32 + function_number p (function_chunk o m)))

  keyed : (o : Object) (m : Member) (u : ℕ) → key (o, m) ≡ Some u → KeyOf o m u
  keyed o m u e =
      by_kind (λ out. option_map member_key out ≡ Some u → ((m.kind ≡ 0) × (u ≡ place_of p 1 (segment_chunk o m))) ⊎ ((m.kind ≡ 1) × (u ≡ 2 ^ 32 + function_number p (function_chunk o m)))) o m
      (λ kind x. let same = some_is (0 * 2 ^ 32 + place_of p 1 (segment_chunk o m)) u x in inl (kind, omega (arith, same)))
      (λ kind x. let same = some_is (1 * 2 ^ 32 + function_number p (function_chunk o m)) u x in inr (kind, omega (arith, same)))
      (λ x. absurd (none_some x)) e
    where
      none_some : None ≡ Some u → ⊥
      none_some x = absurd cc

  chunks_tell : (k : ℕ) (a b : Part) → Has (kept p k) a → Has (kept p k) b → place_of p k a.chunk ≡ place_of p k b.chunk → a.chunk ≡ b.chunk
  chunks_tell k a b ha hb same =
      let chunks : List Chunk = map (λ (part : Part). part.chunk) (kept p k) in
      chunk_equal a.chunk b.chunk
      (sym (numbers_tell chunks a.chunk b.chunk (map_has (λ (part : Part). part.chunk) (kept p k) a ha) (map_has (λ (part : Part). part.chunk) (kept p k) b hb)) ∙ eq-eqb (place_of p k a.chunk) (place_of p k b.chunk) same)

  module _ (few : length (kept p 1) < 2 ^ 32) where
    key_tells : (o z : Object) (m n : Member) (u v : ℕ) → MemberOf o m → MemberOf z n → KeyOf o m u → KeyOf z n v → u ≡ v → same_item (o, m) (z, n) ≡ true
    key_tells o z m n u v x y (inl a) (inl b) same =
        let part = segment_part_of o m x a.0 in
        let other = segment_part_of z n y b.0 in
        let places : place_of p 1 part.0.chunk ≡ place_of p 1 other.0.chunk = ap (place_of p 1) part.2 ∙ (sym a.1 ∙ (same ∙ (b.1 ∙ sym (ap (place_of p 1) other.2)))) in
        let chunk : segment_chunk o m ≡ segment_chunk z n = sym part.2 ∙ (chunks_tell 1 part.0 other.0 part.1 other.1 places ∙ other.2) in
        and_from (o.input == z.input) ((m.kind == n.kind) && (m.index == n.index)) (eq-eqb o.input z.input (ap (λ (c : Chunk). c.input) chunk))
        (and_from (m.kind == n.kind) (m.index == n.index) (eq-eqb m.kind n.kind (a.0 ∙ sym b.0)) (eq-eqb m.index n.index (ap (λ (c : Chunk). c.index) chunk)))
    key_tells o z m n u v x y (inl a) (inr b) same = absurd (omega (arith, a.1, b.1, same, few, segment_low o m x a.0))
    key_tells o z m n u v x y (inr a) (inl b) same = absurd (omega (arith, a.1, b.1, same, few, segment_low z n y b.0))
    key_tells o z m n u v x y (inr a) (inr b) same =
        let part = function_part_of o m x a.0 in
        let other = function_part_of z n y b.0 in
        let numbers : place_of p 0 (function_chunk o m) ≡ place_of p 0 (function_chunk z n) = omega (arith, a.1, b.1, same) in
        let places : place_of p 0 part.0.chunk ≡ place_of p 0 other.0.chunk = ap (place_of p 0) part.2 ∙ (numbers ∙ sym (ap (place_of p 0) other.2)) in
        let chunk : function_chunk o m ≡ function_chunk z n = sym part.2 ∙ (chunks_tell 0 part.0 other.0 part.1 other.1 places ∙ other.2) in
        let input : o.input ≡ z.input = ap (λ (c : Chunk). c.input) chunk in
        let it : o ≡ z = one_object o z x.object y.object input in
        let imports : length (function_imports o) ≡ length (function_imports z) = ap (λ (w : Object). length (function_imports w)) it in
        let low = ((stands_there o m x).2 a.0).0 in
        let low_too = ((stands_there z n y).2 b.0).0 in
        let index : m.index ≡ n.index = omega (arith, ap (λ (c : Chunk). c.index) chunk, imports, low, low_too) in
        and_from (o.input == z.input) ((m.kind == n.kind) && (m.index == n.index)) (eq-eqb o.input z.input input)
        (and_from (m.kind == n.kind) (m.index == n.index) (eq-eqb m.kind n.kind (a.0 ∙ sym b.0)) (eq-eqb m.index n.index index))

    item_told : (x : Item) → Has (flat_map items objects) x → MemberOf x.0 x.1
    item_told x has =
        let f = has_flat items objects x has in
        let i = item_of f.0 f.1 x f.2 in
        subst (λ (o : Object). MemberOf o x.1) (sym i.0) i.1

    keys_differ : all_differ nat_eq (flat_map (λ (g : Group). map member_key g.members) (flat_map (groups_in p) p.objects)) ≡ true
    keys_differ =
        ap (all_differ nat_eq) keys_are
        ∙ differ_of nat_eq (filter_map key (flat_map items objects))
        (keys_apart same_item nat_eq key (flat_map items objects) items_apart
        (λ x y u v hx hy ex ey e. key_tells x.0 y.0 x.1 y.1 u v (item_told x hx) (item_told y hy) (keyed x.0 x.1 u ex) (keyed y.0 y.1 v ey) (eqb-true u v e)))

    -- So they stand.
    pub groups_there : groups_stand cs (linking_for r).groups ≡ true
    unfolding relocatable
    groups_there =
        and_from (all_differ bytes_eq (map (λ (g : Group). g.name) (flat_map (groups_in p) p.objects)) && list_all (λ (g : Group). list_all (member_stands cs) g.members) (flat_map (groups_in p) p.objects))
        (all_differ nat_eq (flat_map (λ (g : Group). map member_key g.members) (flat_map (groups_in p) p.objects)))
        (and_from (all_differ bytes_eq (map (λ (g : Group). g.name) (flat_map (groups_in p) p.objects))) (list_all (λ (g : Group). list_all (member_stands cs) g.members) (flat_map (groups_in p) p.objects)) names_differ_too members_there) keys_differ
