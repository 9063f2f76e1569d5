-- A symbol of the run that stands and isn't open defines in the one object what it defines in the whole link: the one object's groups have the
-- same parts.
use Rattle.std.proofs.Common.{◌≡◌, ℕ, ◌==◌, Bool, true, false, not, ◌||◌, ◌&&◌, cond, List, [], ◌∷◌, ◌++◌, map, filter, inl, inr, refl, sym, ap, ◌∙◌}
use Rattle.std.specs.Prelude.{Option, Some, None, slice_get, find, filter_map, flat_map, unwrap_or}
use Rattle.std.specs.List.{list_any, cons_option}
use Rattle.std.proofs.lemmas.Bool.{and_parts, and_from, eq-eqb, ne_eqb, eqb-true}
use Rattle.std.proofs.lemmas.List.Concat.{flat_map-cons}
use Rattle.std.proofs.lemmas.List.Folds.{list_any-append}
use Rattle.list_places.specs.Has.{Has}
use Rattle.list_places.proofs.Lists.{has_left, has_right, any_has, has_filter, placed, stands as stands_at, some_is}
use Rattle.mark_bits.specs.declared.chunk.Chunk.{Chunk}
use Rattle.index_layout.specs.Numbers.{number_by}
use Rattle.name_rules.specs.object_file.linking_section.declared.group.Member.{Member}
use Rattle.name_rules.specs.object_file.linking_section.declared.group.Group.{Group}
use Rattle.name_rules.specs.object_file.declared.object.Object.{Object}
use Rattle.name_rules.specs.Entries.{group_winner, is_input, has_member, is_kept}
use Rattle.link_rules.specs.Program.{Program, chunk_at, same_chunk}
use Rattle.partial_rules.specs.Partial.{member_for, group_for}
use Rattle.partial_laws.specs.Inputs.{Run, as_input, alone, Objects, whole_objects, run_objects, AreCut}
use Rattle.partial_laws.specs.Loaded.{AreLoaded}
use Rattle.partial_laws.proofs.Lists.{any_of_map}
use Rattle.partial_laws.proofs.Groups.{is_taken, is_taken_away}
use Rattle.partial_laws.proofs.Loading.{is_in}
use Rattle.partial_laws.proofs.Taken.{none_of}

no_true : false ≡ true → ⊥
no_true e = absurd cc

-- ---- numbers of chunks

pub chunk_itself : (c : Chunk) → same_chunk c c ≡ true
chunk_itself c =
    and_from ((c.input == c.input) && (c.kind == c.kind)) (c.index == c.index)
    (and_from (c.input == c.input) (c.kind == c.kind) (eq-eqb c.input c.input refl) (eq-eqb c.kind c.kind refl)) (eq-eqb c.index c.index refl)

record Agree (c d : Chunk) : Type 0 where
  input : c.input ≡ d.input
  kind : c.kind ≡ d.kind
  index : c.index ≡ d.index

chunk_parts : (c d : Chunk) → same_chunk c d ≡ true → Agree c d
chunk_parts c d e =
    let a = and_parts ((c.input == d.input) && (c.kind == d.kind)) (c.index == d.index) e in
    let b = and_parts (c.input == d.input) (c.kind == d.kind) a.0 in
    record { input = eqb-true c.input d.input b.0; kind = eqb-true c.kind d.kind b.1; index = eqb-true c.index d.index a.1 }

pub chunk_equal : (c d : Chunk) → same_chunk c d ≡ true → c ≡ d
chunk_equal c d e =
    let a = chunk_parts c d e in
    ap (λ n. chunk_at n c.kind c.index) a.input ∙ (ap (λ n. chunk_at d.input n c.index) a.kind ∙ ap (λ n. chunk_at d.input d.kind n) a.index)

chunk_follow : (c d e : Chunk) → same_chunk c d ≡ true → same_chunk e d ≡ true → same_chunk c e ≡ true
chunk_follow c d e x y = ap (λ z. same_chunk z e) (chunk_equal c d x ∙ sym (chunk_equal e d y)) ∙ chunk_itself e

-- Chunks of a list are told by their numbers there.
pub numbers_tell : (cs : List Chunk) (c d : Chunk) → Has cs c → Has cs d → (number_by same_chunk cs c == number_by same_chunk cs d) ≡ same_chunk c d
numbers_tell cs c d hc hd = choose (same_chunk c d) refl
  where
    choose : (b : Bool) → same_chunk c d ≡ b → (number_by same_chunk cs c == number_by same_chunk cs d) ≡ b
    choose true same = eq-eqb (number_by same_chunk cs c) (number_by same_chunk cs d) (ap (number_by same_chunk cs) (chunk_equal c d same))
    choose false other =
        let pc = placed (same_chunk c) cs c hc (chunk_itself c) in
        let pd = placed (same_chunk d) cs d hd (chunk_itself d) in
        ne_eqb (number_by same_chunk cs c) (number_by same_chunk cs d) (λ e.
        let ks : pc.0 ≡ pd.0 = sym (ap (λ o. unwrap_or o 0) pc.1) ∙ (e ∙ ap (λ o. unwrap_or o 0) pd.1) in
        let sc = stands_at (same_chunk c) cs pc.0 pc.1 in
        let sd = stands_at (same_chunk d) cs pd.0 pd.1 in
        let it : sc.item ≡ sd.item = some_is sc.item sd.item (sym sc.there ∙ (ap (slice_get cs) ks ∙ sd.there)) in
        no_true (sym other ∙ chunk_follow c sc.item d sc.passes (ap (same_chunk d) it ∙ sd.passes)))

-- ---- lists

any_flat : {A C : Type 0} (t : C → Bool) (f : A → List C) (xs : List A) → list_any t (flat_map f xs) ≡ list_any (λ x. list_any t (f x)) xs
any_flat t f [] = refl
any_flat t f (x ∷ xs) = ap (list_any t) (flat_map-cons f x xs) ∙ (list_any-append t (f x) (flat_map f xs) ∙ ap (λ b. list_any t (f x) || b) (any_flat t f xs))

abbrev pub opt_any : {A : Type 0} → (A → Bool) → Option A → Bool
opt_any t None = false
opt_any t (Some x) = t x

any_picked : {A B : Type 0} (t : B → Bool) (f : A → Option B) (xs : List A) → list_any t (filter_map f xs) ≡ list_any (λ x. opt_any t (f x)) xs
any_picked t f [] = refl
any_picked {A} {B} t f (x ∷ xs) = by_head (f x) (any_picked t f xs)
  where
    by_head : (o : Option B) → list_any t (filter_map f xs) ≡ list_any (λ y. opt_any t (f y)) xs → list_any t (cons_option o (filter_map f xs)) ≡ (opt_any t o || list_any (λ y. opt_any t (f y)) xs)
    by_head None rest = rest
    by_head (Some b) rest = ap (λ c. t b || c) rest

any_has_same : {A : Type 0} (t u : A → Bool) (xs : List A) → ((x : A) → Has xs x → t x ≡ u x) → list_any t xs ≡ list_any u xs
any_has_same t u [] same = refl
any_has_same t u (x ∷ xs) same = rw (same x (inl refl), any_has_same t u xs (λ y has. same y (inr has))) refl

any_factor : {A : Type 0} (b : Bool) (t : A → Bool) (xs : List A) → list_any (λ x. b && t x) xs ≡ (b && list_any t xs)
any_factor true t xs = refl
any_factor {A} false t xs = nothing_of xs
  where
    nothing_of : (ys : List A) → list_any (λ y. false && t y) ys ≡ false
    nothing_of [] = refl
    nothing_of (y ∷ ys) = nothing_of ys

any_filtered : {A : Type 0} (t w : A → Bool) (xs : List A) → ((x : A) → Has xs x → w x ≡ false → t x ≡ false) → list_any t (filter w xs) ≡ list_any t xs
any_filtered t w [] each = refl
any_filtered {A} t w (x ∷ xs) each = by_test (w x) refl (any_filtered t w xs (λ y has. each y (inr has)))
  where
    by_test : (b : Bool) → w x ≡ b → list_any t (filter w xs) ≡ list_any t xs → list_any t (cond b (x ∷ filter w xs) (filter w xs)) ≡ (t x || list_any t xs)
    by_test true is rest = ap (λ c. t x || c) rest
    by_test false is rest = rest ∙ sym (ap (λ (c : Bool). c || list_any t xs) (each x (inl refl) is))

-- where one item alone passes
any_one : {A : Type 0} (t u : A → Bool) (xs : List A) (o : A) → Has xs o → t o ≡ true → ((x : A) → Has xs x → t x ≡ true → x ≡ o) → list_any (λ x. t x && u x) xs ≡ u o
any_one {A} t u xs o has passes one = choose (u o) refl
  where
    fails : u o ≡ false → (x : A) → Has xs x → (b : Bool) → t x ≡ b → (b && u x) ≡ false
    fails is x hx true tx = ap u (one x hx tx) ∙ is
    fails is x hx false tx = refl

    choose : (b : Bool) → u o ≡ b → list_any (λ x. t x && u x) xs ≡ b
    choose true is = any_has (λ x. t x && u x) xs o has (and_from (t o) (u o) passes is)
    choose false is = none_of (λ x. t x && u x) xs (λ x hx. fails is x hx (t x) refl)

-- ---- the groups of the one object

module _ (run : Run) (os : Objects) (p : Program) (cut : AreCut run os) (loaded : AreLoaded (whole_objects os)) where
  abbrev W : List Object
  W = whole_objects os

  abbrev RO : List Object
  RO = run_objects run os

  abbrev in_run : Object → Object
  in_run o = as_input (alone run o.input) o

  abbrev won : Object → Group → Bool
  won o g = is_input (alone run o.input) (group_winner RO g.name)

  -- the groups that an object wins in the run alone, as the one object has them
  abbrev pub groups_won : Object → List Group
  groups_won o = map (group_for p (in_run o)) (filter (won o) o.groups)

  in_whole : (o : Object) → Has os.middle o → Has W o
  in_whole o has = has_right os.before (os.middle ++ os.behind) o (has_left os.middle os.behind o has)

  pub one_input : (o x : Object) → Has os.middle o → Has os.middle x → (x.input == o.input) ≡ true → x ≡ o
  one_input o x ho hx same =
      let fx = (is_in run os cut loaded.rise x hx).found in
      let fo = (is_in run os cut loaded.rise o ho).found in
      some_is x o (sym fx ∙ (ap (λ n. find (λ (y : Object). y.input == n) os.middle) (eqb-true x.input o.input same) ∙ fo))

  -- a member of a group that is won is kept in the run alone
  won_kept : (o : Object) (g : Group) (kind index : ℕ) → Has os.middle o → Has o.groups g → won o g ≡ true → has_member kind index g ≡ true → is_kept RO (in_run o) kind index ≡ true
  won_kept o g kind index ho hg wins member = ap not (none_of (λ x. has_member kind index x && not (won o x)) o.groups (λ x hx. each x hx (has_member kind index x) refl))
    where
      each : (x : Group) → Has o.groups x → (b : Bool) → has_member kind index x ≡ b → (b && not (won o x)) ≡ false
      each x hx false is = refl
      each x hx true is = ap (λ n. not (is_input (alone run o.input) (group_winner RO n))) (loaded.once o (in_whole o ho) x g hx hg kind index is member) ∙ ap not wins

  -- a group that isn't won has no part that is kept
  lost_none : (o : Object) (kind index : ℕ) → is_kept RO (in_run o) kind index ≡ true → (g : Group) → Has o.groups g → won o g ≡ false → has_member kind index g ≡ false
  lost_none o kind index kept g hg loses = choose (has_member kind index g) refl
    where
      not_false : (b : Bool) → not b ≡ true → b ≡ true → ⊥
      not_false true h k = no_true h
      not_false false h k = no_true k

      choose : (b : Bool) → has_member kind index g ≡ b → b ≡ false
      choose false is = refl
      choose true is =
          absurd (not_false (list_any (λ x. has_member kind index x && not (won o x)) o.groups) kept
          (any_has (λ x. has_member kind index x && not (won o x)) o.groups g hg (and_from (has_member kind index g) (not (won o g)) is (ap not loses))))

  -- Parts of one kind of members: which indexes are theirs, and their numbers in the one object.
  module _ (k : ℕ) (T : Object → ℕ → ℕ) (Valid : Object → ℕ → Type 0)
      (member_is : (o : Object) (m : Member) (n : ℕ) → opt_any (λ x. (x.kind == k) && (x.index == n)) (member_for p (in_run o) m) ≡ ((m.kind == k) && (T o m.index == n)))
      (member_valid : (o : Object) → Has os.middle o → (g : Group) → Has o.groups g → (m : Member) → Has g.members m → (m.kind == k) ≡ true → Valid o m.index)
      (tells : (o x : Object) → Has os.middle o → Has os.middle x → (i n : ℕ) → Valid o i → Valid x n → is_kept RO (in_run o) k i ≡ true → is_kept RO (in_run x) k n ≡ true
      → (T x n == T o i) ≡ ((x.input == o.input) && (n == i))) where
    module _ (o : Object) (ho : Has os.middle o) (i : ℕ) (valid : Valid o i) (kept : is_kept RO (in_run o) k i ≡ true) where
      group_members : (x : Object) → Has os.middle x → (g : Group) → Has x.groups g → won x g ≡ true → has_member k (T o i) (group_for p (in_run x) g) ≡ ((x.input == o.input) && has_member k i g)
      group_members x hx g hg wins =
          any_picked (λ m. (m.kind == k) && (m.index == T o i)) (member_for p (in_run x)) g.members
          ∙ (any_has_same (λ m. opt_any (λ y. (y.kind == k) && (y.index == T o i)) (member_for p (in_run x) m)) (λ m. (x.input == o.input) && ((m.kind == k) && (m.index == i))) g.members each
          ∙ any_factor (x.input == o.input) (λ m. (m.kind == k) && (m.index == i)) g.members)
        where
          swap : (b c : Bool) → (b && c) ≡ (c && b)
          swap true true = refl
          swap true false = refl
          swap false true = refl
          swap false false = refl

          by_kind : (m : Member) → Has g.members m → (b : Bool) → (m.kind == k) ≡ b → (b && (T x m.index == T o i)) ≡ ((x.input == o.input) && (b && (m.index == i)))
          by_kind m hm false is = swap false (x.input == o.input)
          by_kind m hm true is =
              tells o x ho hx i m.index valid (member_valid x hx g hg m hm is) kept
              (won_kept x g k m.index hx hg wins (any_has (λ y. (y.kind == k) && (y.index == m.index)) g.members m hm (and_from (m.kind == k) (m.index == m.index) is (eq-eqb m.index m.index refl))))

          each : (m : Member) → Has g.members m → opt_any (λ y. (y.kind == k) && (y.index == T o i)) (member_for p (in_run x) m) ≡ ((x.input == o.input) && ((m.kind == k) && (m.index == i)))
          each m hm = member_is x m (T o i) ∙ by_kind m hm (m.kind == k) refl

      -- The one object's part is taken away where the run's is.
      pub taken_alike : list_any (λ g. has_member k (T o i) g && is_taken run os cut g.name) (flat_map groups_won os.middle) ≡ is_taken_away run os cut o k i
      taken_alike =
          any_flat (λ g. has_member k (T o i) g && is_taken run os cut g.name) groups_won os.middle
          ∙ (any_has_same (λ x. list_any (λ g. has_member k (T o i) g && is_taken run os cut g.name) (groups_won x))
          (λ x. (x.input == o.input) && list_any (λ g. has_member k i g && is_taken run os cut g.name) (filter (won x) x.groups)) os.middle of_object
          ∙ (any_one (λ x. x.input == o.input) (λ x. list_any (λ g. has_member k i g && is_taken run os cut g.name) (filter (won x) x.groups)) os.middle o ho (eq-eqb o.input o.input refl) (λ x hx. one_input o x ho hx)
          ∙ any_filtered (λ g. has_member k i g && is_taken run os cut g.name) (won o) o.groups
          (λ g hg loses. ap (λ (b : Bool). b && is_taken run os cut g.name) (lost_none o k i kept g hg loses))))
        where
          and_assoc : (a b c : Bool) → ((a && b) && c) ≡ (a && (b && c))
          and_assoc true b c = refl
          and_assoc false b c = refl

          of_object : (x : Object) → Has os.middle x → list_any (λ g. has_member k (T o i) g && is_taken run os cut g.name) (groups_won x)
              ≡ ((x.input == o.input) && list_any (λ g. has_member k i g && is_taken run os cut g.name) (filter (won x) x.groups))
          of_object x hx =
              any_of_map (group_for p (in_run x)) (λ g. has_member k (T o i) g && is_taken run os cut g.name) (filter (won x) x.groups)
              ∙ (any_has_same (λ g. has_member k (T o i) (group_for p (in_run x) g) && is_taken run os cut g.name) (λ g. (x.input == o.input) && (has_member k i g && is_taken run os cut g.name)) (filter (won x) x.groups)
              (λ g hg. let f = has_filter (won x) x.groups g hg in
              ap (λ (b : Bool). b && is_taken run os cut g.name) (group_members x hx g f.0 f.1) ∙ and_assoc (x.input == o.input) (has_member k i g) (is_taken run os cut g.name))
              ∙ any_factor (x.input == o.input) (λ g. has_member k i g && is_taken run os cut g.name) (filter (won x) x.groups))
