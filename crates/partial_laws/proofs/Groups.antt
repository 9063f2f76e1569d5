-- Which groups are won where one object stands for a run, and which parts are kept.
use Rattle.std.proofs.Common.{◌≡◌, ℕ, ◌+◌, ◌-◌, ◌<◌, ◌≤◌, ◌==◌, Bool, true, false, not, ◌||◌, ◌&&◌, List, [], ◌∷◌, ◌++◌, map, inl, inr, ⊎_elim, refl, sym, ap, subst, ◌∙◌, arith}
use Rattle.std.specs.Prelude.{if◌then◌else◌, Option, Some, None, option_map, find, bytes_eq, All}
use Rattle.std.specs.List.{list_any}
use Rattle.std.proofs.lemmas.Bool.{eq-eqb, ne_eqb}
use Rattle.std.proofs.lemmas.Bool.Decides.{eqb_tells}
use Rattle.std.proofs.lemmas.List.Elements.{All-head, All-tail, All-cons, All-append}
use Rattle.list_places.specs.Has.{Has}
use Rattle.list_places.proofs.Lists.{any_has}
use Rattle.name_rules.specs.object_file.wl_base.Choice.{first_some}
use Rattle.name_rules.specs.object_file.linking_section.declared.group.Group.{Group}
use Rattle.name_rules.specs.object_file.declared.object.Object.{Object}
use Rattle.name_rules.specs.Entries.{has_group, group_winner, is_input, has_member, is_kept}
use Rattle.partial_laws.specs.Inputs.{Run, as_input, alone, later, Objects, whole_objects, run_objects, later_objects, AreCut}
use Rattle.partial_laws.proofs.Lists.{none_asked, all_map}
use Rattle.partial_laws.proofs.Same.{name_itself}

-- ---- finding

only : {A : Type 0} (o : Option A) → first_some (None ∷ o ∷ []) ≡ o
only None = refl
only (Some x) = refl

pub find_append : {A : Type 0} (t : A → Bool) (xs ys : List A) → find t (xs ++ ys) ≡ first_some (find t xs ∷ find t ys ∷ [])
find_append t [] ys = sym (only (find t ys))
find_append {A} t (x ∷ xs) ys = by_test (t x) (find_append t xs ys)
  where
    by_test : (b : Bool) → find t (xs ++ ys) ≡ first_some (find t xs ∷ find t ys ∷ []) → (if b then Some x else find t (xs ++ ys)) ≡ first_some ((if b then Some x else find t xs) ∷ find t ys ∷ [])
    by_test true rest = refl
    by_test false rest = rest

pub any_everywhere : {A : Type 0} (t u : A → Bool) → ((x : A) → t x ≡ u x) → (xs : List A) → list_any t xs ≡ list_any u xs
any_everywhere t u same [] = refl
any_everywhere t u same (x ∷ xs) = rw (same x, any_everywhere t u same xs) refl

-- whether something is found
found : {A : Type 0} (t : A → Bool) (xs : List A) (x : A) → find t xs ≡ Some x → list_any t xs ≡ true
found t [] x e = absurd cc
found {A} t (y ∷ ys) x e = by_test (t y) e (found t ys x)
  where
    by_test : (b : Bool) → (if b then Some y else find t ys) ≡ Some x → (find t ys ≡ Some x → list_any t ys ≡ true) → (b || list_any t ys) ≡ true
    by_test true e rest = refl
    by_test false e rest = rest e

not_found : {A : Type 0} (t : A → Bool) (xs : List A) → find t xs ≡ None → list_any t xs ≡ false
not_found t [] e = refl
not_found {A} t (y ∷ ys) e = by_test (t y) e (not_found t ys)
  where
    by_test : (b : Bool) → (if b then Some y else find t ys) ≡ None → (find t ys ≡ None → list_any t ys ≡ false) → (b || list_any t ys) ≡ false
    by_test true e rest = absurd cc
    by_test false e rest = rest e

-- what is found is asked what all are
found_all : {A : Type 0} (P : A → Type 0) (t : A → Bool) (xs : List A) (x : A) → All P xs → find t xs ≡ Some x → P x
found_all P t [] x all e = absurd cc
found_all {A} P t (y ∷ ys) x all e = by_test (t y) e (found_all P t ys x (All-tail P y ys all))
  where
    by_test : (b : Bool) → (if b then Some y else find t ys) ≡ Some x → (find t ys ≡ Some x → P x) → P x
    by_test true e rest = subst P (some_same y x e) (All-head P y ys all)
      where
        some_same : (a b : A) → Some a ≡ Some b → a ≡ b
        some_same a b e = cc
    by_test false e rest = rest e

found_moved : (f : Object → Object) (t : Object → Bool) → ((o : Object) → t (f o) ≡ t o) → (xs : List Object) → find t (map f xs) ≡ option_map f (find t xs)
found_moved f t same [] = refl
found_moved f t same (x ∷ xs) = ap (λ (b : Bool). if b then Some (f x) else find t (map f xs)) (same x) ∙ by_test (t x) (found_moved f t same xs)
  where
    by_test : (b : Bool) → find t (map f xs) ≡ option_map f (find t xs) → (if b then Some (f x) else find t (map f xs)) ≡ option_map f (if b then Some x else find t xs)
    by_test true rest = refl
    by_test false rest = rest

-- ---- winners of groups

abbrev input_found : Option Object → Option ℕ
input_found o = option_map (λ (o : Object). o.input) o

apart : (a b : ℕ) → a < b → (a == b) ≡ false
apart a b lt = ne_eqb a b (λ e. omega (arith, lt, e))

apart_too : (a b : ℕ) → b < a → (a == b) ≡ false
apart_too a b lt = ne_eqb a b (λ e. omega (arith, lt, e))

-- an input that none of these is doesn't win
misses : (i : ℕ) (name : List ℕ) (os : List Object) → All (λ (o : Object). (i == o.input) ≡ false) os → is_input i (input_found (find (has_group name) os)) ≡ false
misses i name os all = by_found (find (has_group name) os) refl
  where
    by_found : (o : Option Object) → find (has_group name) os ≡ o → is_input i (input_found o) ≡ false
    by_found None none = refl
    by_found (Some w) some = found_all (λ (o : Object). (i == o.input) ≡ false) (has_group name) os w all some

-- numbers that were equal are so where both are lowered
pub lowered : (n a b : ℕ) → n ≤ a → n ≤ b → ((a - n) == (b - n)) ≡ (a == b)
lowered n a b low low_too = ⊎_elim
    (λ same. eq-eqb (a - n) (b - n) (ap (λ k. k - n) same.1) ∙ sym same.0)
    (λ other. ne_eqb (a - n) (b - n) (λ e. other.1 (omega (arith, low, low_too, e))) ∙ sym other.0)
    (eqb_tells a b)

module _ (run : Run) (os : Objects) (cut : AreCut run os) where
  abbrev low : Object → Type 0
  low o = o.input ≤ run.first

  abbrev moved_object : Object → Object
  moved_object o = as_input (later run o.input) o

  abbrev alone_object : Object → Object
  alone_object o = as_input (alone run o.input) o

  abbrev rest_whole : List Object
  rest_whole = os.middle ++ os.behind

  abbrev rest_later : List Object
  rest_later = os.joined ∷ map moved_object os.behind

  above : (i n : ℕ) → i ≤ n → (xs : List Object) → All (λ (o : Object). n < o.input) xs → All (λ (o : Object). (i == o.input) ≡ false) xs
  above i n le xs all = all_map (λ (o : Object). n < o.input) (λ (o : Object). (i == o.input) ≡ false) (λ o lt. apart i o.input (omega (arith, le, lt))) xs all

  behind_moved : (xs : List Object) → All (λ (o : Object). run.first + run.many < o.input) xs → All (λ (o : Object). run.first + 1 < o.input) (map moved_object xs)
  behind_moved [] all = none_asked (λ (o : Object). run.first + 1 < o.input)
  behind_moved (x ∷ xs) all =
      All-cons (λ (o : Object). run.first + 1 < o.input) (moved_object x) (map moved_object xs)
      (omega (arith, cut.some, All-head (λ (o : Object). run.first + run.many < o.input) x xs all))
      (behind_moved xs (All-tail (λ (o : Object). run.first + run.many < o.input) x xs all))

  -- ---- of an input before the run

  pub before_wins : (i : ℕ) (name : List ℕ) → i ≤ run.first → is_input i (group_winner (later_objects run os) name) ≡ is_input i (group_winner (whole_objects os) name)
  before_wins i name le =
      ap (λ o. is_input i (input_found o)) (find_append (has_group name) os.before rest_later)
      ∙ (by_before (find (has_group name) os.before)
      ∙ sym (ap (λ o. is_input i (input_found o)) (find_append (has_group name) os.before rest_whole)))
    where
      not_run : All (λ (o : Object). (i == o.input) ≡ false) rest_whole
      not_run =
          All-append (λ (o : Object). (i == o.input) ≡ false) os.middle os.behind (above i run.first le os.middle cut.from)
          (above i (run.first + run.many) (omega (arith, le)) os.behind cut.behind)

      not_later : All (λ (o : Object). (i == o.input) ≡ false) rest_later
      not_later =
          All-cons (λ (o : Object). (i == o.input) ≡ false) os.joined (map moved_object os.behind) (apart i os.joined.input (omega (arith, le, cut.place)))
          (above i (run.first + 1) (omega (arith, le)) (map moved_object os.behind) (behind_moved os.behind cut.behind))

      by_before : (o : Option Object) → is_input i (input_found (first_some (o ∷ find (has_group name) rest_later ∷ []))) ≡ is_input i (input_found (first_some (o ∷ find (has_group name) rest_whole ∷ [])))
      by_before (Some w) = refl
      by_before None =
          ap (λ o. is_input i (input_found o)) (only (find (has_group name) rest_later))
          ∙ (misses i name rest_later not_later ∙ (sym (misses i name rest_whole not_run) ∙ sym (ap (λ o. is_input i (input_found o)) (only (find (has_group name) rest_whole)))))

  -- ---- of one behind it

  pub behind_wins : (i : ℕ) (name : List ℕ) → run.first + run.many < i
      → is_input (later run i) (group_winner (later_objects run os) name) ≡ is_input i (group_winner (whole_objects os) name)
  behind_wins i name lt =
      ap (λ o. is_input (later run i) (input_found o)) (find_append (has_group name) os.before rest_later)
      ∙ (by_before (find (has_group name) os.before) refl
      ∙ sym (ap (λ o. is_input i (input_found o)) (find_append (has_group name) os.before rest_whole)))
    where
      by_behind : (o : Option Object) → find (has_group name) os.behind ≡ o → is_input (later run i) (input_found (option_map moved_object o)) ≡ is_input i (input_found o)
      by_behind None none = refl
      by_behind (Some w) some =
          lowered run.many (i + 1) (w.input + 1) (omega (arith, lt)) (omega (arith, found_all (λ (o : Object). run.first + run.many < o.input) (has_group name) os.behind w cut.behind some))
          ∙ added_one i w.input
        where
          added_one : (a b : ℕ) → ((a + 1) == (b + 1)) ≡ (a == b)
          added_one a b = ⊎_elim
              (λ same. eq-eqb (a + 1) (b + 1) (ap (λ k. k + 1) same.1) ∙ sym same.0)
              (λ other. ne_eqb (a + 1) (b + 1) (λ e. other.1 (omega (arith, e))) ∙ sym other.0)
              (eqb_tells a b)

      by_middle : (o : Option Object) → find (has_group name) os.middle ≡ o → is_input (later run i) (input_found (find (has_group name) rest_later)) ≡ is_input i (input_found (first_some (o ∷ find (has_group name) os.behind ∷ [])))
      by_middle (Some w) some =
          ap (λ (b : Bool). is_input (later run i) (input_found (if b then Some os.joined else find (has_group name) (map moved_object os.behind)))) (cut.groups name ∙ found (has_group name) os.middle w some)
          ∙ (apart_too (later run i) os.joined.input (omega (arith, lt, cut.place, cut.some))
          ∙ sym (apart_too i w.input (omega (arith, lt, found_all (λ (o : Object). o.input ≤ run.first + run.many) (has_group name) os.middle w cut.to some))))
      by_middle None none =
          ap (λ (b : Bool). is_input (later run i) (input_found (if b then Some os.joined else find (has_group name) (map moved_object os.behind)))) (cut.groups name ∙ not_found (has_group name) os.middle none)
          ∙ (ap (λ o. is_input (later run i) (input_found o)) (found_moved moved_object (has_group name) (λ o. refl) os.behind)
          ∙ (by_behind (find (has_group name) os.behind) refl
          ∙ sym (ap (λ o. is_input i (input_found o)) (only (find (has_group name) os.behind)))))

      by_before : (o : Option Object) → find (has_group name) os.before ≡ o
          → is_input (later run i) (input_found (first_some (o ∷ find (has_group name) rest_later ∷ []))) ≡ is_input i (input_found (first_some (o ∷ find (has_group name) rest_whole ∷ [])))
      by_before (Some w) some =
          let below : w.input ≤ run.first = found_all low (has_group name) os.before w cut.before some in
          apart_too (later run i) w.input (omega (arith, lt, below)) ∙ sym (apart_too i w.input (omega (arith, lt, below)))
      by_before None none =
          ap (λ o. is_input (later run i) (input_found o)) (only (find (has_group name) rest_later))
          ∙ (by_middle (find (has_group name) os.middle) refl
          ∙ sym (ap (λ o. is_input i (input_found o)) (only (find (has_group name) rest_whole) ∙ find_append (has_group name) os.middle os.behind)))

  -- ---- of one of the run: it wins where it wins in the run alone, and none before the run has the group

  abbrev pub is_taken : List ℕ → Bool
  is_taken name = list_any (has_group name) os.before

  pub run_wins : (i : ℕ) (name : List ℕ) → run.first < i → i ≤ run.first + run.many
      → is_input i (group_winner (whole_objects os) name) ≡ (not (is_taken name) && is_input (alone run i) (group_winner (run_objects run os) name))
  run_wins i name gt le =
      ap (λ o. is_input i (input_found o)) (find_append (has_group name) os.before rest_whole)
      ∙ by_before (find (has_group name) os.before) refl
    where
      by_middle : (o : Option Object) → find (has_group name) os.middle ≡ o → is_input i (input_found (first_some (o ∷ find (has_group name) os.behind ∷ []))) ≡ is_input (alone run i) (input_found (option_map alone_object o))
      by_middle None none =
          ap (λ o. is_input i (input_found o)) (only (find (has_group name) os.behind)) ∙ misses i name os.behind (above i (run.first + run.many) le os.behind cut.behind)
      by_middle (Some w) some =
          sym (lowered run.first i w.input (omega (arith, gt)) (omega (arith, found_all (λ (o : Object). run.first < o.input) (has_group name) os.middle w cut.from some)))

      by_before : (o : Option Object) → find (has_group name) os.before ≡ o
          → is_input i (input_found (first_some (o ∷ find (has_group name) rest_whole ∷ []))) ≡ (not (is_taken name) && is_input (alone run i) (group_winner (run_objects run os) name))
      by_before (Some w) some =
          apart_too i w.input (omega (arith, gt, found_all low (has_group name) os.before w cut.before some))
          ∙ sym (ap (λ (b : Bool). not b && is_input (alone run i) (group_winner (run_objects run os) name)) (found (has_group name) os.before w some))
      by_before None none =
          ap (λ o. is_input i (input_found o)) (only (find (has_group name) rest_whole) ∙ find_append (has_group name) os.middle os.behind)
          ∙ (by_middle (find (has_group name) os.middle) refl
          ∙ (ap (λ o. is_input (alone run i) (input_found o)) (sym (found_moved alone_object (has_group name) (λ o. refl) os.middle))
          ∙ sym (ap (λ (b : Bool). not b && is_input (alone run i) (group_winner (run_objects run os) name)) (not_found (has_group name) os.before none))))

  -- ---- of the one object: it wins its groups but for those that an input before it has

  pub joined_wins : (name : List ℕ) → has_group name os.joined ≡ true → is_input os.joined.input (group_winner (later_objects run os) name) ≡ not (is_taken name)
  joined_wins name has =
      ap (λ o. is_input os.joined.input (input_found o)) (find_append (has_group name) os.before rest_later)
      ∙ by_before (find (has_group name) os.before) refl
    where
      by_before : (o : Option Object) → find (has_group name) os.before ≡ o → is_input os.joined.input (input_found (first_some (o ∷ find (has_group name) rest_later ∷ []))) ≡ not (is_taken name)
      by_before (Some w) some =
          apart_too os.joined.input w.input (omega (arith, cut.place, found_all low (has_group name) os.before w cut.before some))
          ∙ sym (ap not (found (has_group name) os.before w some))
      by_before None none =
          ap (λ o. is_input os.joined.input (input_found o)) (only (find (has_group name) rest_later))
          ∙ (ap (λ (b : Bool). is_input os.joined.input (input_found (if b then Some os.joined else find (has_group name) (map moved_object os.behind)))) has
          ∙ (eq-eqb os.joined.input os.joined.input refl ∙ sym (ap not (not_found (has_group name) os.before none))))

  -- ---- kept parts

  abbrev lost : List Object → Object → ℕ → ℕ → Group → Bool
  lost objects o kind index g = has_member kind index g && not (is_input o.input (group_winner objects g.name))

  -- A part of an input before the run, and one of an input behind it, is kept where it was.
  pub before_kept : (o : Object) (kind index : ℕ) → o.input ≤ run.first → is_kept (later_objects run os) o kind index ≡ is_kept (whole_objects os) o kind index
  before_kept o kind index le =
      ap not (any_everywhere (lost (later_objects run os) o kind index) (lost (whole_objects os) o kind index)
      (λ g. ap (λ (b : Bool). has_member kind index g && not b) (before_wins o.input g.name le)) o.groups)

  pub behind_kept : (o : Object) (kind index : ℕ) → run.first + run.many < o.input
      → is_kept (later_objects run os) (as_input (later run o.input) o) kind index ≡ is_kept (whole_objects os) o kind index
  behind_kept o kind index lt =
      ap not (any_everywhere (lost (later_objects run os) (as_input (later run o.input) o) kind index) (lost (whole_objects os) o kind index)
      (λ g. ap (λ (b : Bool). has_member kind index g && not b) (behind_wins o.input g.name lt)) o.groups)

  -- The groups of an object that have a part and that an input before the run has too take it away.
  abbrev pub is_taken_away : Object → ℕ → ℕ → Bool
  is_taken_away o kind index = list_any (λ g. has_member kind index g && is_taken g.name) o.groups

  -- A part of the run is kept where it is kept in the run alone and isn't taken away.
  pub run_kept : (o : Object) (kind index : ℕ) → run.first < o.input → o.input ≤ run.first + run.many
      → is_kept (whole_objects os) o kind index ≡ (not (is_taken_away o kind index) && is_kept (run_objects run os) (as_input (alone run o.input) o) kind index)
  run_kept o kind index gt le = split o.groups
    where
      tests : (m t w : Bool) → (m && not (not t && w)) ≡ ((m && t) || (m && not w))
      tests true true w = refl
      tests true false w = refl
      tests false t w = refl

      split : (gs : List Group) → not (list_any (lost (whole_objects os) o kind index) gs)
          ≡ (not (list_any (λ g. has_member kind index g && is_taken g.name) gs) && not (list_any (lost (run_objects run os) (as_input (alone run o.input) o) kind index) gs))
      split gs = ap not (either gs) ∙ both (list_any (λ g. has_member kind index g && is_taken g.name) gs) (list_any (lost (run_objects run os) (as_input (alone run o.input) o) kind index) gs)
        where
          both : (a b : Bool) → not (a || b) ≡ (not a && not b)
          both true b = refl
          both false b = refl

          or_swap : (a b x y : Bool) → ((a || b) || (x || y)) ≡ ((a || x) || (b || y))
          or_swap true b x y = refl
          or_swap false true true y = refl
          or_swap false true false y = refl
          or_swap false false x y = refl

          either : (hs : List Group) → list_any (lost (whole_objects os) o kind index) hs
              ≡ (list_any (λ g. has_member kind index g && is_taken g.name) hs || list_any (lost (run_objects run os) (as_input (alone run o.input) o) kind index) hs)
          either [] = refl
          either (h ∷ hs) =
              rw (
                ap (λ (b : Bool). has_member kind index h && not b) (run_wins o.input h.name gt le)
                    ∙ tests (has_member kind index h) (is_taken h.name) (is_input (alone run o.input) (group_winner (run_objects run os) h.name)),
                either hs,
              )
              (or_swap (has_member kind index h && is_taken h.name) (has_member kind index h && not (is_input (alone run o.input) (group_winner (run_objects run os) h.name)))
              (list_any (λ g. has_member kind index g && is_taken g.name) hs) (list_any (lost (run_objects run os) (as_input (alone run o.input) o) kind index) hs))

  -- A part of the one object is kept where it isn't taken away.
  pub joined_kept : (kind index : ℕ) → is_kept (later_objects run os) os.joined kind index ≡ not (is_taken_away os.joined kind index)
  joined_kept kind index = ap not (among os.joined.groups (λ g has. has))
    where
      own : (g : Group) → Has os.joined.groups g → has_group g.name os.joined ≡ true
      own g has = any_has (λ h. bytes_eq h.name g.name) os.joined.groups g has (name_itself g.name)

      twice : (b : Bool) → not (not b) ≡ b
      twice true = refl
      twice false = refl

      among : (gs : List Group) → ((g : Group) → Has gs g → Has os.joined.groups g)
          → list_any (lost (later_objects run os) os.joined kind index) gs ≡ list_any (λ g. has_member kind index g && is_taken g.name) gs
      among [] inside = refl
      among (g ∷ gs) inside =
          rw (
            ap (λ (b : Bool). has_member kind index g && not b) (joined_wins g.name (own g (inside g (inl refl)))) ∙ ap (λ (b : Bool). has_member kind index g && b) (twice (is_taken g.name)),
            among gs (λ h there. inside h (inr there)),
          ) refl
