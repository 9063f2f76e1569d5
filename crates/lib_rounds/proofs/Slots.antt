-- The slots of candidates, as candidates are loaded.
use Rattle.std.proofs.Common.{◌≡◌, ◌≢◌, ℕ, zero, suc, ◌<◌, Bool, true, false, not, ◌||◌, List, [], ◌∷◌, ◌++◌, Some, None, Result, Ok, Err, set, refl, sym, ap, ◌∙◌, arith, inl, inr}
use Rattle.std.specs.Prelude.{Contains, map, filter, filter_map, slice_get, option_map, ◌==◌}
use Rattle.std.specs.List.{list_any}
use Rattle.std.proofs.lemmas.Bool.{cases_Bool, eq-eqb, ne_eqb}
use Rattle.std.proofs.lemmas.List.Folds.{list_any-append}
use Rattle.std.proofs.lemmas.Option.{slice_get-map}
use Rattle.object_file.specs.wl_base.declared.fault.Fault.{Fault}
use Rattle.object_file.specs.declared.object.Object.{Object}
use Rattle.round_rules.specs.Rounds.{Candidate, object_in, is_loaded, objects_of, at_once}
use Rattle.round_rules.specs.RoundLaws.{inputs_in, Rise}
use Rattle.lib_rounds.specs.Held.{Held, absent, waiting, loaded, loaded_in, loaded_objects, held_as, held_by, is_loaded_slot}
use Rattle.lib_rounds.proofs.Kept.{contains_head, contains_tail, pairs_later}
use Rattle.lib_rounds.proofs.Picked.{picked}
use Rattle.lib_rounds.proofs.Rising.{below, at_place}

-- ---- the loaded objects

loaded_as : (m : Bool) (r : Result Object Fault) → loaded_in (held_as true m r) ≡ object_in r
loaded_as m (Ok o) = refl
loaded_as m (Err fault) = refl

not_loaded : (m : Bool) (r : Result Object Fault) → loaded_in (held_as false m r) ≡ None
not_loaded true (Ok o) = refl
not_loaded false (Ok o) = refl
not_loaded m (Err fault) = refl

objects_held : (q : Candidate → Bool) (cs : List Candidate) → filter_map (λ c. object_in c.object) (filter q cs) ≡ loaded_objects (map (held_by q) cs)
objects_held q [] = refl
objects_held q (c ∷ cs) =
    let others = objects_held q cs in
    elim (cases_Bool (q c)) [
      | inl is ↦ rw (is, loaded_as c.is_member c.object, others) refl
      | inr not_so ↦ rw (not_so, not_loaded c.is_member c.object) others
    ]

pub loaded_are : (all : List Candidate) (inputs : List ℕ) → objects_of all inputs ≡ loaded_objects (map (held_by (is_loaded inputs)) all)
loaded_are all inputs = objects_held (is_loaded inputs) all

-- ---- one slot is set

map_same : {Y : Type 0} (f g : Candidate → Y) (cs : List Candidate) → ((d : Candidate) → Contains cs d → g d ≡ f d) → map g cs ≡ map f cs
map_same f g [] h = refl
map_same {Y} f g (c ∷ cs) h = ap (λ (y : Y). y ∷ map g cs) (h c (contains_head c cs))
    ∙ ap (λ (ys : List Y). f c ∷ ys) (map_same f g cs (λ d m. h d (contains_tail c cs d m)))

pub map_but_one : {Y : Type 0} (f g : Candidate → Y) (cs : List Candidate) (i : ℕ) (c : Candidate) → Rise (inputs_in cs) → slice_get cs i ≡ Some c
    → ((d : Candidate) → Contains cs d → d.input ≢ c.input → g d ≡ f d)
    → map g cs ≡ set (map f cs) i (g c)
map_but_one f g [] i c rise e h = absurd cc
map_but_one {Y} f g (x ∷ xs) zero c rise e h =
    let one : x ≡ c = cc in
    let n : x.input ≡ c.input = ap (λ (d : Candidate). d.input) one in
    ap (λ (d : Candidate). g d ∷ map g xs) one
    ∙ ap (λ (ys : List Y). g c ∷ ys)
    (map_same f g xs
    (λ d m. h d (contains_tail x xs d m) (λ same. let lt = below (λ (z : Candidate). z.input) x xs rise d m in omega (arith, lt, same, n))))
map_but_one {Y} f g (x ∷ xs) (suc i) c rise e h =
    let lt = below (λ (z : Candidate). z.input) x xs rise c (at_place xs i c e) in
    let first : g x ≡ f x = h x (contains_head x xs) (λ same. omega (arith, lt, same)) in
    ap (λ (y : Y). y ∷ map g xs) first
    ∙ ap (λ (ys : List Y). f x ∷ ys)
    (map_but_one f g xs i c (pairs_later (λ (a b : ℕ). a < b) x.input (inputs_in xs) rise) e (λ d m. h d (contains_tail x xs d m)))

or_last : (a b c : Bool) → (a || (b || c)) ≡ ((a || b) || c)
or_last true b c = refl
or_last false b c = refl

or_swap : (a b : Bool) → (a || b) ≡ (b || a)
or_swap true true = refl
or_swap true false = refl
or_swap false true = refl
or_swap false false = refl

-- a test of the loaded objects, where one more is loaded
pub any_set : (test : Object → Bool) (slots : List Held) (i : ℕ) (h : Held) (o : Object) → slice_get slots i ≡ Some h → is_loaded_slot h ≡ false
    → list_any test (loaded_objects (set slots i (loaded o))) ≡ (list_any test (loaded_objects slots) || test o)
any_set test [] i h o e n = absurd cc
any_set test (loaded p ∷ slots) zero h o e n = let one : loaded p ≡ h = cc in let t : is_loaded_slot h ≡ true = ap is_loaded_slot
    (sym one) in absurd cc
any_set test (absent ∷ slots) zero h o e n = or_swap (test o) (list_any test (loaded_objects slots))
any_set test (waiting p ∷ slots) zero h o e n = or_swap (test o) (list_any test (loaded_objects slots))
any_set test (loaded p ∷ slots) (suc i) h o e n = ap (λ (b : Bool). test p || b) (any_set test slots i h o e n)
    ∙ or_last (test p) (list_any test (loaded_objects slots)) (test o)
any_set test (absent ∷ slots) (suc i) h o e n = any_set test slots i h o e n
any_set test (waiting p ∷ slots) (suc i) h o e n = any_set test slots i h o e n

-- ---- one more input is loaded

or_none : (b : Bool) → (b || false) ≡ b
or_none true = refl
or_none false = refl

more_other : (inputs : List ℕ) (k : ℕ) (d : Candidate) → d.input ≢ k → is_loaded (inputs ++ k ∷ []) d ≡ is_loaded inputs d
more_other inputs k d other =
    list_any-append (λ n. n == d.input) inputs (k ∷ [])
    ∙ ap (λ (b : Bool). is_loaded inputs d || (b || false)) (ne_eqb k d.input (λ same. other (sym same))) ∙ or_none (is_loaded inputs d)

more_this : (inputs : List ℕ) (d : Candidate) → is_loaded (inputs ++ d.input ∷ []) d ≡ true
more_this inputs d =
    list_any-append (λ n. n == d.input) inputs (d.input ∷ []) ∙ ap (λ (b : Bool). is_loaded inputs d || (b || false)) (eq-eqb d.input d.input refl)
    ∙ or_true (is_loaded inputs d)
  where
    or_true : (b : Bool) → (b || true) ≡ true
    or_true true = refl
    or_true false = refl

held_loaded : (b m : Bool) (r : Result Object Fault) (o : Object) → b ≡ true → r ≡ Ok o → held_as b m r ≡ loaded o
held_loaded b m r o is read = rw (is, read) refl

-- the slots, once the candidate at this place is loaded
pub slots_more : (all : List Candidate) (inputs : List ℕ) (i : ℕ) (c : Candidate) (o : Object) → Rise (inputs_in all) → slice_get all i ≡ Some c
    → c.object ≡ Ok o
    → map (held_by (is_loaded (inputs ++ c.input ∷ []))) all ≡ set (map (held_by (is_loaded inputs)) all) i (loaded o)
slots_more all inputs i c o rise e read =
    map_but_one (held_by (is_loaded inputs)) (held_by (is_loaded (inputs ++ c.input ∷ []))) all i c rise e
    (λ d m other. ap (λ (b : Bool). held_as b d.is_member d.object) (more_other inputs c.input d other))
    ∙ ap (set (map (held_by (is_loaded inputs)) all) i)
    (held_loaded (is_loaded (inputs ++ c.input ∷ []) c) c.is_member c.object o (more_this inputs c) read)

-- the slots of what is loaded at once
pub slots_at_once : (all : List Candidate) → Rise (inputs_in all)
    → map (held_by (is_loaded (at_once all))) all ≡ map (held_by (λ c. not c.by_need)) all
slots_at_once all rise = map_same (held_by (λ c. not c.by_need)) (held_by (is_loaded (at_once all))) all
    (λ d m. ap (λ (b : Bool). held_as b d.is_member d.object) (picked all rise (λ c. not c.by_need) d m))

-- a slot is that of its candidate
pub slot_at : (q : Candidate → Bool) (all : List Candidate) (i : ℕ) (c : Candidate) → slice_get all i ≡ Some c
    → slice_get (map (held_by q) all) i ≡ Some (held_by q c)
slot_at q all i c e = slice_get-map (held_by q) all i ∙ ap (option_map (held_by q)) e
