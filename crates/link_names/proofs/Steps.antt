-- One item after another: what the names, their table and their numbers are behind one more.
use Rattle.std.proofs.Common.{◌≡◌, ℕ, ◌≤◌, ◌<◌, ◌+◌, List, [], ◌∷◌, ◌++◌, refl, sym, ap, ◌∙◌, arith, length, map, take, drop, get_or, subst, Result, Ok, Err, append-nil, take_all, zero, suc, None}
use Rattle.std.specs.Prelude.{flat_map, IsErr, OnOk, slice_get, Some}
use Rattle.std.proofs.lemmas.Option.{slice_get_within, get_or_from_slice_get, slice_get-get_or}
use Rattle.object_file.specs.wl_base.declared.memory.OutOfMemory.{OutOfMemory}
use Rattle.std.specs.Result.{IsErrAnd}
use Rattle.std.proofs.Math.Seq.{take-suc}
use Rattle.std.proofs.lemmas.Grind.{flat_map-append}
use Rattle.std.proofs.lemmas.List.{map-append, take-append-drop, length-map}
use Rattle.object_file.specs.wl_base.Names.{Names}
use Rattle.object_file.specs.wl_base.declared.name_table.NameFault.{NameFault}
use Rattle.object_file.specs.wl_base.declared.name_table.NameFault.TheVariants as faults
use Rattle.link_names.specs.Interning.{more, Room, Gains, Takes, TellsAll, Tells, Keeps}
use Rattle.link_names.proofs.More.{more_append, longer}

-- The item at a place.
abbrev pub IsAt : {A : Type 0} → List A → ℕ → A → Type 0
IsAt xs i x = (i < length xs) × (get_or xs i x ≡ x)

one_more : {A : Type 0} (xs : List A) (i : ℕ) (x : A) → IsAt xs i x → take (i + 1) xs ≡ take i xs ++ x ∷ []
one_more xs i x at = ap (λ n. take n xs) (let e : i + 1 ≡ suc i = omega arith in e) ∙ take-suc xs i x at.0 ∙ ap (λ y. take i xs ++ y ∷ []) at.1

names_more : {A : Type 0} (f : A → List (List ℕ)) (xs : List A) (i : ℕ) (x : A) → IsAt xs i x → flat_map f (take (i + 1) xs) ≡ flat_map f (take i xs) ++ f x
names_more f xs i x at = ap (flat_map f) (one_more xs i x at) ∙ flat_map-append f (take i xs) (x ∷ []) ∙ ap (λ (ys : List (List ℕ)). flat_map f (take i xs) ++ ys) (append-nil (f x))

pub gains_more : {A : Type 0} (f : A → List (List ℕ)) (xs : List A) (i : ℕ) (x : A) (old now new : Names) → IsAt xs i x
    → Gains old now (flat_map f (take i xs)) → Gains now new (f x) → Gains old new (flat_map f (take (i + 1) xs))
gains_more f xs i x old now new at before step =
    let names : more now.names (f x) ≡ more old.names (flat_map f (take (i + 1) xs)) =
    ap (λ (t : Names). more t.names (f x)) before.0 ∙ sym (more_append old.names (flat_map f (take i xs)) (f x)) ∙ ap (more old.names) (sym (names_more f xs i x at)) in
    (step.0 ∙ (λ j. record { limit = ap (λ (t : Names). t.limit) before.0 j; names = names j }), step.1)

pub tells_more : {A B C : Type 0} (number : List (List ℕ) → A → B) (seen : C → B) (list : List A) (f : A → List (List ℕ)) (i : ℕ) (x : A) (n : C) (now new : Names) (numbers : List C) → IsAt list i x
    → TellsAll number seen (take i list) now.names numbers → Gains now new (f x) → Tells number seen x new.names n → TellsAll number seen (take (i + 1) list) new.names (numbers ++ n ∷ [])
tells_more number seen list f i x n now new numbers at before step told xs =
    let names : more now.names (f x ++ xs) ≡ more new.names xs = more_append now.names (f x) xs ∙ ap (λ (t : Names). more t.names xs) (sym step.0) in
    map-append seen numbers (n ∷ [])
    ∙ (λ j. (before (f x ++ xs) ∙ ap (λ ns. map (number ns) (take i list)) names) j ++ told xs j ∷ [])
    ∙ sym (map-append (number (more new.names xs)) (take i list) (x ∷ []))
    ∙ ap (map (number (more new.names xs))) (sym (one_more list i x at))

all_more : {A : Type 0} (f : A → List (List ℕ)) (xs : List A) (i : ℕ) (x : A) → IsAt xs i x → flat_map f xs ≡ (flat_map f (take i xs) ++ f x) ++ flat_map f (drop (i + 1) xs)
all_more f xs i x at =
    ap (flat_map f) (sym (take-append-drop (i + 1) xs)) ∙ flat_map-append f (take (i + 1) xs) (drop (i + 1) xs) ∙ ap (λ (ys : List (List ℕ)). ys ++ flat_map f (drop (i + 1) xs)) (names_more f xs i x at)

-- too many at an item are too many in all
full_all : {A : Type 0} (f : A → List (List ℕ)) (xs : List A) (i : ℕ) (x : A) (old now : Names) → IsAt xs i x
    → Gains old now (flat_map f (take i xs)) → now.limit < length (more now.names (f x)) → old.limit < length (more old.names (flat_map f xs))
full_all f xs i x old now at before full =
    let all : more old.names (flat_map f xs) ≡ more (more now.names (f x)) (flat_map f (drop (i + 1) xs)) =
    ap (more old.names) (all_more f xs i x at) ∙ more_append old.names (flat_map f (take i xs) ++ f x) (flat_map f (drop (i + 1) xs))
    ∙ ap (λ ns. more ns (flat_map f (drop (i + 1) xs))) (more_append old.names (flat_map f (take i xs)) (f x) ∙ ap (λ (t : Names). more t.names (f x)) (sym before.0)) in
    omega (arith, ap (λ (ns : List (List ℕ)). length ns) all, longer (more now.names (f x)) (flat_map f (drop (i + 1) xs)), full, ap (λ (t : Names). t.limit) before.0)

-- a fault at an item is the fault of all
pub stops : {A B C : Type 0} (P : List (List ℕ) → B → Type 0) (Q : List (List ℕ) → C → Type 0) (f : A → List (List ℕ)) (xs : List A) (i : ℕ) (x : A) (old now new last : Names) (e : NameFault) → IsAt xs i x
    → Gains old now (flat_map f (take i xs)) → Takes P (let r : Result B NameFault = Err e in r) now new (f x) → Takes Q (let r : Result C NameFault = Err e in r) old last (flat_map f xs)
stops P Q f xs i x old now new last faults.TooMany at before full = full_all f xs i x old now at before full
stops P Q f xs i x old now new last faults.OutOfMemory at before full = tt

-- nothing is gained yet
pub gains_none : {A : Type 0} (f : A → List (List ℕ)) (xs : List A) (old : Names) → Room old → Gains old old (flat_map f (take 0 xs))
gains_none f xs old room = (refl, room)

-- all is gained
pub gains_all : {A : Type 0} (f : A → List (List ℕ)) (xs : List A) (i : ℕ) (old now : Names) → length xs ≤ i → Gains old now (flat_map f (take i xs)) → Gains old now (flat_map f xs)
gains_all f xs i old now end before = subst (λ ys. Gains old now (flat_map f ys)) (take_all i xs end) before

pub tells_all : {A B C : Type 0} (number : List (List ℕ) → A → B) (seen : C → B) (list : List A) (i : ℕ) (names : List (List ℕ)) (numbers : List C) → length list ≤ i
    → TellsAll number seen (take i list) names numbers → TellsAll number seen list names numbers
tells_all number seen list i names numbers end before = subst (λ ys. TellsAll number seen ys names numbers) (take_all i list end) before

-- as many numbers as items
pub short_numbers : {A B C : Type 0} (number : List (List ℕ) → A → B) (seen : C → B) (list : List A) (names : List (List ℕ)) (numbers : List C)
    → TellsAll number seen list names numbers → length list < 4294967296 → length numbers < 4294967296
short_numbers number seen list names numbers told few =
    omega (arith, few, sym (length-map numbers seen) ∙ ap (λ ys. length ys) (told []) ∙ length-map list (number (more names [])))

-- ---- by what a call answered

pub taken : {B : Type 0} (P : List (List ℕ) → B → Type 0) (r : Result B NameFault) (now new : Names) (ys : List (List ℕ)) (n : B) → r ≡ Ok n → Takes P r now new ys → Gains now new ys × P new.names n
taken P r now new ys n is told = subst (λ r. Takes P r now new ys) is told

at_error : {C : Type 0} (Q : List (List ℕ) → C → Type 0) (s : Result C NameFault) (e : NameFault) (old last : Names) (ys : List (List ℕ)) → IsErr s → IsErrAnd s (λ b. b ≡ e)
    → Takes Q (let r : Result C NameFault = Err e in r) old last ys → Takes Q s old last ys
at_error Q (Ok a) e old last ys err and_is told = absurd cc
at_error {C = C} Q (Err b) e old last ys err and_is told = subst (λ e. Takes Q (let r : Result C NameFault = Err e in r) old last ys) (sym and_is) told

pub refused : {A B C : Type 0} (P : List (List ℕ) → B → Type 0) (Q : List (List ℕ) → C → Type 0) (f : A → List (List ℕ)) (xs : List A) (i : ℕ) (x : A) (old now new last : Names) (r : Result B NameFault) (s : Result C NameFault) (e : NameFault)
    → IsAt xs i x → Gains old now (flat_map f (take i xs)) → r ≡ Err e → IsErr s × IsErrAnd s (λ b. b ≡ e) → Takes P r now new (f x) → Takes Q s old last (flat_map f xs)
refused P Q f xs i x old now new last r s e at before is is' told =
    at_error Q s e old last (flat_map f xs) is'.0 is'.1 (stops P Q f xs i x old now new last e at before (subst (λ r. Takes P r now new (f x)) is told))

-- ---- items at places

pub at_get : {A : Type 0} (xs : List A) (i : ℕ) (x : A) → slice_get xs i ≡ Some x → IsAt xs i x
at_get xs i x e = (slice_get_within xs i x e, get_or_from_slice_get xs i x x e)

pub at_default : {A : Type 0} (xs : List A) (i : ℕ) (d : A) → i < length xs → IsAt xs i (get_or xs i d)
at_default xs i d less = at_get xs i (get_or xs i d) (slice_get-get_or xs i d less)

-- what was pushed, where memory was there
pub pushed : {A B : Type 0} (p : Result A OutOfMemory) (s : Result B NameFault) (u : B) (P : Type 0) → Keeps p s → s ≡ Ok u → OnOk p P → P
pushed (Ok a) s u P keeps is ok = ok
pushed (Err e) s u P keeps is ok = absurd cc

pub not_none : {A : Type 0} (xs : List A) (i : ℕ) → slice_get xs i ≡ None → i < length xs → ⊥
not_none [] i none less = omega (arith, less)
not_none (x ∷ xs) zero none less = absurd cc
not_none (x ∷ xs) (suc i) none less = not_none xs i none (omega (arith, less))
