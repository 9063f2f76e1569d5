-- Lists: what each item is, places, rows one behind another, and what passes a test.
use Rattle.std.proofs.Common.{◌≡◌, ℕ, zero, suc, ◌+◌, ◌<◌, Bool, true, false, cond, List, [], ◌∷◌, ◌++◌, length, get_or, take, refl, sym, ap, subst, ◌∙◌, arith, Some, None, Option, length-append}
use Rattle.std.specs.Prelude.{slice_get, flat_map, map, filter, filter_map}
use Rattle.std.specs.List.{AllZip, All, cons_option}
use Rattle.std.proofs.lemmas.List.{take_more}
use Rattle.std.proofs.lemmas.List.Elements.{All-cons, All-nil}
use Rattle.std.proofs.lemmas.Option.{slice_get_within, get_or_from_slice_get}
use Rattle.link_program.specs.wl_base.Choice.{given}
use Rattle.link_program.specs.link_rules.Program.{indexed}
use Rattle.program_tables.specs.Symbols.{starts}

-- ---- each item

abbrev pub Each : {A : Type 0} → (A → Type 0) → List A → Type 0
Each P [] = Unit {0}
Each P (x ∷ xs) = P x × Each P xs

pub each_append : {A : Type 0} (P : A → Type 0) (xs ys : List A) → Each P xs → Each P ys → Each P (xs ++ ys)
each_append P [] ys first second = second
each_append P (x ∷ xs) ys first second = (first.0, each_append P xs ys first.1 second)

each_kept : {A : Type 0} (P : A → Type 0) (kept : Bool) (x : A) (rest : List A) → P x → Each P rest → Each P (cond kept (x ∷ rest) rest)
each_kept P true x rest first second = (first, second)
each_kept P false x rest first second = second

pub each_filter : {A : Type 0} (P : A → Type 0) (q : A → Bool) (xs : List A) → Each P xs → Each P (filter q xs)
each_filter P q [] all = tt
each_filter P q (x ∷ xs) all = each_kept P (q x) x (filter q xs) all.0 (each_filter P q xs all.1)

pub each_weaker : {A : Type 0} (P Q : A → Type 0) → ((x : A) → P x → Q x) → (xs : List A) → Each P xs → Each Q xs
each_weaker P Q weaker [] all = tt
each_weaker P Q weaker (x ∷ xs) all = (weaker x all.0, each_weaker P Q weaker xs all.1)

pub each_both : {A : Type 0} (P Q : A → Type 0) (xs : List A) → Each P xs → Each Q xs → Each (λ x. P x × Q x) xs
each_both P Q [] first second = tt
each_both P Q (x ∷ xs) first second = ((first.0, second.0), each_both P Q xs first.1 second.1)

pub each_from : {A : Type 0} (P : A → Type 0) (xs : List A) → ((k : ℕ) (x : A) → slice_get xs k ≡ Some x → P x) → Each P xs
each_from P [] at = tt
each_from P (x ∷ xs) at = (at zero x refl, each_from P xs (λ k y e. at (suc k) y e))

pub each_at : {A : Type 0} (P : A → Type 0) (xs : List A) (k : ℕ) (x : A) → Each P xs → slice_get xs k ≡ Some x → P x
each_at {A = A} P xs k x all at = by_place xs k all (slice_get_within xs k x at) (get_or_from_slice_get xs k x x at)
  where
    by_place : (ys : List A) (i : ℕ) → Each P ys → i < length ys → get_or ys i x ≡ x → P x
    by_place [] i all within is = absurd (omega arith)
    by_place (y ∷ ys) zero all within is = subst P is all.0
    by_place (y ∷ ys) (suc i) all within is = by_place ys i all.1 (omega arith) is

pub all_from_each : {A : Type 0} (P : A → Type 0) (xs : List A) → Each P xs → All P xs
all_from_each P [] all = All-nil P
all_from_each P (x ∷ xs) all = All-cons P x xs all.0 (all_from_each P xs all.1)

-- ---- places

pub at_take : {A : Type 0} (xs : List A) (i : ℕ) (x : A) → slice_get xs i ≡ Some x → take (i + 1) xs ≡ take i xs ++ x ∷ []
at_take xs i x at = take_more xs i x (slice_get_within xs i x at) ∙ ap (λ y. take i xs ++ y ∷ []) (get_or_from_slice_get xs i x x at)

pub front : {A : Type 0} (xs ys : List A) (k : ℕ) (x : A) → slice_get xs k ≡ Some x → slice_get (xs ++ ys) k ≡ Some x
front [] ys k x at = let n = slice_get_within [] k x at in absurd (omega arith)
front (y ∷ xs) ys zero x at = at
front (y ∷ xs) ys (suc k) x at = front xs ys k x at

pub behind : {A : Type 0} (xs ys : List A) (k : ℕ) → slice_get (xs ++ ys) (length xs + k) ≡ slice_get ys k
behind [] ys k = let e : 0 + k ≡ k = omega arith in ap (slice_get ys) e
behind (x ∷ xs) ys k = let e : length (x ∷ xs) + k ≡ suc (length xs + k) = omega arith in ap (slice_get (x ∷ (xs ++ ys))) e ∙ behind xs ys k

-- ---- rows one behind another

assoc : {A : Type 0} (xs ys zs : List A) → xs ++ (ys ++ zs) ≡ (xs ++ ys) ++ zs
assoc [] ys zs = refl
assoc (x ∷ xs) ys zs = ap (λ l. x ∷ l) (assoc xs ys zs)

pub starts_more : {A : Type 0} (at : ℕ) (rows : List (List A)) (row : List A) → starts at (rows ++ row ∷ []) ≡ starts at rows ++ (at + length (flat_map (λ r. r) rows)) ∷ []
starts_more at [] row = let e : at ≡ at + 0 = omega arith in ap (λ n. n ∷ []) e
starts_more at (r ∷ rows) row =
    let e : at + length r + length (flat_map (λ x. x) rows) ≡ at + length (flat_map (λ x. x) (r ∷ rows)) = omega (arith, length-append r (flat_map (λ x. x) rows)) in
    ap (λ l. at ∷ l) (starts_more (at + length r) rows row ∙ ap (λ n. starts (at + length r) rows ++ n ∷ []) e)

-- an item of a row, among the items of all rows
pub in_rows : {A : Type 0} (rows : List (List A)) (i k : ℕ) (row : List A) (x : A) → slice_get rows i ≡ Some row → slice_get row k ≡ Some x
    → slice_get (flat_map (λ r. r) rows) (get_or (starts 0 rows) i 0 + k) ≡ Some x
in_rows {A = A} rows i k row x at there = from 0 [] rows i refl at
  where
    from : (n : ℕ) (before : List A) (rs : List (List A)) (j : ℕ) → length before ≡ n → slice_get rs j ≡ Some row
        → slice_get (before ++ flat_map (λ r. r) rs) (get_or (starts n rs) j 0 + k) ≡ Some x
    from n before [] j e at = let lt = slice_get_within [] j row at in absurd (omega arith)
    from n before (r ∷ rs) zero e at =
        let same : r ≡ row = get_or_from_slice_get (r ∷ rs) zero row row at in
        let place : n + k ≡ length before + k = omega arith in
        ap (slice_get (before ++ (r ++ flat_map (λ r. r) rs))) place ∙ behind before (r ++ flat_map (λ r. r) rs) k
        ∙ front r (flat_map (λ r. r) rs) k x (ap (λ l. slice_get l k) same ∙ there)
    from n before (r ∷ rs) (suc j) e at =
        let more : length (before ++ r) ≡ n + length r = omega (arith, length-append before r) in
        ap (λ l. slice_get l (get_or (starts (n + length r) rs) j 0 + k)) (assoc before r (flat_map (λ r. r) rs)) ∙ from (n + length r) (before ++ r) rs j more at

-- ---- items with their places

pub indexed_append : {A B : Type 0} (f : ℕ → A → B) (at : ℕ) (xs ys : List A) → indexed f at (xs ++ ys) ≡ indexed f at xs ++ indexed f (at + length xs) ys
indexed_append f at [] ys = let e : at ≡ at + 0 = omega arith in ap (λ n. indexed f n ys) e
indexed_append f at (x ∷ xs) ys =
    let e : at + 1 + length xs ≡ at + length (x ∷ xs) = omega arith in
    ap (λ l. f at x ∷ l) (indexed_append f (at + 1) xs ys ∙ ap (λ n. indexed f (at + 1) xs ++ indexed f n ys) e)

-- ---- what passes a test

pub kept_map : {A B : Type 0} (g : A → Option B) (p : A → Bool) (h : A → B) (xs : List A) → Each (λ x. g x ≡ given (p x) (h x)) xs → filter_map g xs ≡ map h (filter p xs)
kept_map g p h [] all = refl
kept_map {B = B} g p h (x ∷ xs) all = ap (λ o. cons_option o (filter_map g xs)) all.0 ∙ by (p x) (kept_map g p h xs all.1)
  where
    by : (b : Bool) → filter_map g xs ≡ map h (filter p xs) → cons_option (given b (h x)) (filter_map g xs) ≡ map h (cond b (x ∷ filter p xs) (filter p xs))
    by true rest = ap (λ l. h x ∷ l) rest
    by false rest = rest

-- what fails a test gives nothing
pub kept_only : {A B : Type 0} (g : A → Option B) (p : A → Bool) (xs : List A) → Each (λ x. p x ≡ false → g x ≡ None) xs → filter_map g (filter p xs) ≡ filter_map g xs
kept_only g p [] all = refl
kept_only g p (x ∷ xs) all = by (p x) refl (kept_only g p xs all.1)
  where
    by : (b : Bool) → p x ≡ b → filter_map g (filter p xs) ≡ filter_map g xs → filter_map g (cond b (x ∷ filter p xs) (filter p xs)) ≡ cons_option (g x) (filter_map g xs)
    by true e rest = ap (cons_option (g x)) rest
    by false e rest = rest ∙ ap (λ o. cons_option o (filter_map g xs)) (sym (all.0 e))

-- ---- two lists

pub zip_append : {A B : Type 0} (R : A → B → Type 0) (xs zs : List A) (ys ws : List B) → AllZip R xs ys → AllZip R zs ws → AllZip R (xs ++ zs) (ys ++ ws)
zip_append R [] zs [] ws first second = second
zip_append R [] zs (y ∷ ys) ws first second = absurd first
zip_append R (x ∷ xs) zs [] ws first second = absurd first
zip_append R (x ∷ xs) zs (y ∷ ys) ws first second = (first.0, zip_append R xs zs ys ws first.1 second)

pub zip_at : {A B : Type 0} (R : A → B → Type 0) (xs : List A) (ys : List B) (k : ℕ) (y : B) → AllZip R xs ys → slice_get ys k ≡ Some y
    → (x : A) × (slice_get xs k ≡ Some x) × R x y
zip_at R [] [] k y all at = let lt = slice_get_within [] k y at in absurd (omega arith)
zip_at R [] (z ∷ ys) k y all at = absurd all
zip_at R (x ∷ xs) [] k y all at = absurd all
zip_at R (x ∷ xs) (z ∷ ys) zero y all at = (x, refl, subst (R x) (get_or_from_slice_get (z ∷ ys) zero y y at) all.0)
zip_at R (x ∷ xs) (z ∷ ys) (suc k) y all at = zip_at R xs ys k y all.1 at

zip_kept : {A B : Type 0} (R : A → B → Type 0) (b c : Bool) (x : A) (y : B) (xs : List A) (ys : List B) → b ≡ c → R x y → AllZip R xs ys
    → AllZip R (cond b (x ∷ xs) xs) (cond c (y ∷ ys) ys)
zip_kept R true true x y xs ys e first rest = (first, rest)
zip_kept R false false x y xs ys e first rest = rest
zip_kept R true false x y xs ys e first rest = absurd cc
zip_kept R false true x y xs ys e first rest = absurd cc

pub zip_filter : {A B : Type 0} (R : A → B → Type 0) (p : A → Bool) (q : B → Bool) → ((x : A) (y : B) → R x y → p x ≡ q y) → (xs : List A) (ys : List B)
    → AllZip R xs ys → AllZip R (filter p xs) (filter q ys)
zip_filter R p q same [] [] all = tt
zip_filter R p q same [] (y ∷ ys) all = absurd all
zip_filter R p q same (x ∷ xs) [] all = absurd all
zip_filter R p q same (x ∷ xs) (y ∷ ys) all = zip_kept R (p x) (q y) x y (filter p xs) (filter q ys) (same x y all.0) all.0 (zip_filter R p q same xs ys all.1)

pub zip_indexed : {A B C : Type 0} (R : B → C → Type 0) (f : ℕ → A → B) (g : ℕ → A → C) → ((i : ℕ) (x : A) → R (f i x) (g i x)) → (at : ℕ) (xs : List A)
    → AllZip R (indexed f at xs) (indexed g at xs)
zip_indexed R f g each at [] = tt
zip_indexed R f g each at (x ∷ xs) = (each at x, zip_indexed R f g each (at + 1) xs)

pub zip_maps : {A B C : Type 0} (R : A → B → Type 0) (f : A → C) (g : B → C) → ((x : A) (y : B) → R x y → f x ≡ g y) → (xs : List A) (ys : List B) → AllZip R xs ys → map f xs ≡ map g ys
zip_maps R f g same [] [] all = refl
zip_maps R f g same [] (y ∷ ys) all = absurd all
zip_maps R f g same (x ∷ xs) [] all = absurd all
zip_maps R f g same (x ∷ xs) (y ∷ ys) all = rw (same x y all.0, zip_maps R f g same xs ys all.1) refl

pub zip_left : {A B : Type 0} (R : A → B → Type 0) (P : A → Type 0) → ((x : A) (y : B) → R x y → P x) → (xs : List A) (ys : List B) → AllZip R xs ys → Each P xs
zip_left R P each [] [] all = tt
zip_left R P each [] (y ∷ ys) all = absurd all
zip_left R P each (x ∷ xs) [] all = absurd all
zip_left R P each (x ∷ xs) (y ∷ ys) all = (each x y all.0, zip_left R P each xs ys all.1)
