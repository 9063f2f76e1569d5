-- What holds of each item of the lists that parts are made of.
use Rattle.std.proofs.Common.{◌≡◌, ℕ, zero, suc, ◌+◌, ◌<◌, List, [], ◌∷◌, ◌++◌, length, sym, subst, Option, Some, None, All, get_or, map, Bool, true, false}
use Rattle.std.specs.Prelude.{IfSome, slice_get, flat_map, filter_map, if◌then◌else◌, nat_le}
use Rattle.std.specs.List.{cons_option}
use Rattle.std.proofs.lemmas.List.Elements.{All-append, All-cons, All-nil, All-head, All-tail}
use Rattle.std.proofs.lemmas.Option.{slice_get-get_or}
use Rattle.loose_calls.specs.link_program.link_rules.Program.{indexed, InitCall, insert_call, by_priority}

pub each_there : {A : Type 0} (P : A → Type 0) (xs : List A) → ((i : ℕ) (x : A) → slice_get xs i ≡ Some x → P x) → All P xs
each_there P xs h = λ k d within. h k (get_or xs k d) (slice_get-get_or xs k d within)

pub there : {A : Type 0} (P : A → Type 0) (xs : List A) → All P xs → (i : ℕ) (x : A) → slice_get xs i ≡ Some x → P x
there P [] all i x at = absurd (none_some at)
  where
    none_some : {A : Type 0} {x : A} → (let o : Option A = None in o ≡ Some x) → ⊥
    none_some e = cc
there P (y ∷ ys) all zero x at = subst (λ o. IfSome o P) at (All-head P y ys all)
there P (y ∷ ys) all (suc i) x at = there P ys (All-tail P y ys all) i x at

pub all_flat_map : {A B : Type 0} (P : B → Type 0) (f : A → List B) (xs : List A) → All (λ x. All P (f x)) xs → All P (flat_map f xs)
all_flat_map P f [] all = All-nil P
all_flat_map P f (x ∷ xs) all =
    All-append P (f x) (flat_map f xs) (All-head (λ x. All P (f x)) x xs all) (all_flat_map P f xs (All-tail (λ x. All P (f x)) x xs all))

pub all_onto : {B : Type 0} (P : B → Type 0) (o : Option B) (ys : List B) → IfSome o P → All P ys → All P (cons_option o ys)
all_onto P None ys is all = all
all_onto P (Some y) ys is all = All-cons P y ys is all

pub all_filter_map : {A B : Type 0} (P : B → Type 0) (f : A → Option B) → ((x : A) → IfSome (f x) P) → (xs : List A) → All P (filter_map f xs)
all_filter_map P f each [] = All-nil P
all_filter_map P f each (x ∷ xs) = all_onto P (f x) (filter_map f xs) (each x) (all_filter_map P f each xs)

pub all_indexed : {A B : Type 0} (P : A → Type 0) (Q : B → Type 0) (f : ℕ → A → B) → ((at : ℕ) (x : A) → P x → Q (f at x))
    → (at : ℕ) (xs : List A) → All P xs → All Q (indexed f at xs)
all_indexed P Q f each at [] all = All-nil Q
all_indexed P Q f each at (x ∷ xs) all =
    All-cons Q (f at x) (indexed f (at + 1) xs) (each at x (All-head P x xs all)) (all_indexed P Q f each (at + 1) xs (All-tail P x xs all))

-- ---- in order of priority

all_inserted : (P : InitCall → Type 0) (c : InitCall) (cs : List InitCall) → P c → All P cs → All P (insert_call c cs)
all_inserted P c [] one all = All-cons P c [] one all
all_inserted P c (d ∷ ds) one all =
    by_order (nat_le c.priority d.priority) (all_inserted P c ds one (All-tail P d ds all))
  where
    by_order : (first : Bool) → All P (insert_call c ds) → All P (if first then c ∷ d ∷ ds else d ∷ insert_call c ds)
    by_order true rest = All-cons P c (d ∷ ds) one all
    by_order false rest = All-cons P d (insert_call c ds) (All-head P d ds all) rest

pub all_by_priority : (P : InitCall → Type 0) (cs : List InitCall) → All P cs → All P (by_priority cs)
all_by_priority P [] all = All-nil P
all_by_priority P (c ∷ cs) all =
    all_inserted P c (by_priority cs) (All-head P c cs all) (all_by_priority P cs (All-tail P c cs all))
