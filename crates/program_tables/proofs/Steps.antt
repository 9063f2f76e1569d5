-- Loops that put something at the end for each item.
use Rattle.std.proofs.Common.{◌≡◌, ℕ, zero, suc, ◌+◌, ◌<◌, ◌∙◌, List, [], ◌∷◌, ◌++◌, refl, ap, sym, arith, Option, Some, length, get_or, take, length-append}
use Rattle.std.specs.Prelude.{slice_get, map, filter_map, flat_map, is_some, IsSome, option_map}
use Rattle.std.specs.List.{cons_option}
use Rattle.std.proofs.lemmas.Grind.{flat_map-append}
use Rattle.std.proofs.lemmas.List.{map-append, append-nil, length-map}
use Rattle.std.proofs.lemmas.List.Elements.{filter_map-append}
use Rattle.std.proofs.lemmas.Option.{same_Some, slice_get_read, slice_get-get_or, slice_get-map, get_or_from_slice_get}
use Rattle.program_tables.specs.Symbols.{starts}
use Rattle.program_tables.proofs.Lists.{at_take, starts_more}

pub item_at : {A : Type 0} (xs : List A) (k : ℕ) → k < length xs → (x : A) × (slice_get xs k ≡ Some x)
item_at [] k lt = absurd (omega arith)
item_at (x ∷ xs) zero lt = (x, refl)
item_at (x ∷ xs) (suc k) lt = item_at xs k (omega arith)

pub some_at : {A : Type 0} (xs : List A) (k : ℕ) → k < length xs → IsSome (slice_get xs k)
some_at xs k lt = let found = item_at xs k lt in ap is_some found.1

pub read_at : {A : Type 0} (xs : List A) (k : ℕ) (x : A) → k < length xs → x ≡ get_or xs k x → slice_get xs k ≡ Some x
read_at xs k x lt is = slice_get_read xs (length xs) k x refl lt is

assoc : {A : Type 0} (xs ys zs : List A) → (xs ++ ys) ++ zs ≡ xs ++ (ys ++ zs)
assoc [] ys zs = refl
assoc (x ∷ xs) ys zs = ap (λ l. x ∷ l) (assoc xs ys zs)

pub kept_more : {A B : Type 0} (g : A → Option B) (row : List A) (k : ℕ) (first old new : List B) (item : Option B) → k < length row → old ≡ first ++ filter_map g (take k row)
    → ((x : A) → slice_get row k ≡ Some x → item ≡ g x) → new ≡ old ++ cons_option item [] → new ≡ first ++ filter_map g (take (k + 1) row)
kept_more g row k first old new item lt before is pushed =
    let (x, at) = item_at row k lt in
    pushed ∙ ap (λ l. l ++ cons_option item []) before ∙ ap (λ o. (first ++ filter_map g (take k row)) ++ cons_option o []) (is x at)
    ∙ assoc first (filter_map g (take k row)) (cons_option (g x) [])
    ∙ ap (λ l. first ++ l) (sym (filter_map-append g (take k row) (x ∷ [])) ∙ ap (filter_map g) (sym (at_take row k x at)))

pub mapped_more : {A B : Type 0} (f : A → B) (row : List A) (k : ℕ) (first old new : List B) (item : B) → k < length row → old ≡ first ++ map f (take k row)
    → ((x : A) → slice_get row k ≡ Some x → item ≡ f x) → new ≡ old ++ item ∷ [] → new ≡ first ++ map f (take (k + 1) row)
mapped_more f row k first old new item lt before is pushed =
    let (x, at) = item_at row k lt in
    pushed ∙ ap (λ l. l ++ item ∷ []) before ∙ ap (λ o. (first ++ map f (take k row)) ++ o ∷ []) (is x at)
    ∙ assoc first (map f (take k row)) (f x ∷ [])
    ∙ ap (λ l. first ++ l) (sym (map-append f (take k row) (x ∷ [])) ∙ ap (map f) (sym (at_take row k x at)))

pub flat_more : {A B : Type 0} (f : A → List B) (rows : List A) (k : ℕ) (x : A) (first old new : List B) → slice_get rows k ≡ Some x → old ≡ first ++ flat_map f (take k rows)
    → new ≡ old ++ f x → new ≡ first ++ flat_map f (take (k + 1) rows)
flat_more f rows k x first old new at before pushed =
    pushed ∙ ap (λ l. l ++ f x) before ∙ assoc first (flat_map f (take k rows)) (f x)
    ∙ ap (λ l. first ++ l)
    (ap (λ l. flat_map f (take k rows) ++ l) (sym (append-nil (f x))) ∙ sym (flat_map-append f (take k rows) (x ∷ [])) ∙ ap (flat_map f) (sym (at_take rows k x at)))

pub starts_step : {A : Type 0} (rows : List (List A)) (k n : ℕ) (row : List A) (old new : List ℕ) → slice_get rows k ≡ Some row → old ≡ starts 0 (take k rows)
    → n ≡ length (flat_map (λ r. r) (take k rows)) → new ≡ old ++ n ∷ [] → new ≡ starts 0 (take (k + 1) rows)
starts_step rows k n row old new at before counted pushed =
    pushed ∙ ap (λ l. l ++ n ∷ []) before
    ∙ ap (λ m. starts 0 (take k rows) ++ m ∷ []) (counted ∙ (let z : length (flat_map (λ r. r) (take k rows)) ≡ 0 + length (flat_map (λ r. r) (take k rows)) = omega arith in z))
    ∙ sym (starts_more 0 (take k rows) row) ∙ ap (starts 0) (sym (at_take rows k row at))

pub flat_length : {A B : Type 0} (f : A → B) (rows : List (List A)) → length (flat_map (λ row. map f row) rows) ≡ length (flat_map (λ r. r) rows)
flat_length f [] = refl
flat_length f (row ∷ rows) =
    let rest = flat_length f rows in
    let a = length-append (map f row) (flat_map (λ r. map f r) rows) in
    let b = length-append row (flat_map (λ r. r) rows) in
    let c = length-map row f in
    omega arith

pub row_of : {A B : Type 0} (f : List A → List B) (rows : List (List A)) (k : ℕ) (row : List A) (old new : List B) → slice_get rows k ≡ Some row → new ≡ old ++ f (get_or rows k [])
    → new ≡ old ++ f row
row_of f rows k row old new at pushed = pushed ∙ ap (λ r. old ++ f r) (get_or_from_slice_get rows k row [] at)

pub mapped_item : {A B : Type 0} (f : A → B) (xs : List A) (k : ℕ) (d : A) (y : B) → k < length xs → slice_get (map f xs) k ≡ Some y → f (get_or xs k d) ≡ y
mapped_item f xs k d y lt at =
    same_Some (f (get_or xs k d)) y (sym (ap (option_map f) (slice_get-get_or xs k d lt)) ∙ sym (slice_get-map f xs k) ∙ at)
