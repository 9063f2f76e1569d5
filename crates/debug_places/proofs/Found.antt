-- Lists that are filled.
use Rattle.std.proofs.Common.{◌≡◌, ℕ, ◌+◌, ◌-◌, ◌==◌, ◌<◌, ◌≤◌, Bool, true, false, List, [], ◌∷◌, ◌++◌, map, length, take, drop, get_or, slice_get, Option, Some, refl, sym, ap, ◌∙◌, arith, append_assoc}
use Rattle.std.specs.Prelude.{◌||◌, slice_index_or}
use Rattle.std.specs.List.{list_any}
use Rattle.std.proofs.lemmas.List.{take_all, take_more, at_drop_more}
use Rattle.std.proofs.lemmas.Option.{slice_get-get_or}
use Rattle.std.proofs.Math.ListN.{drop_of_length-le}
use Rattle.link_program.specs.made_symbols.Made.{made}
use Rattle.link_program.specs.made_symbols.declared.mode.Mode.TheVariants.{Plain}
use Rattle.link_program.specs.memory_layout.declared.rules.Places.{Places}
use Rattle.link_program.specs.link_rules.Values.{made_data}
use Rattle.debug_places.specs.Found.{AreMade}

-- ---- lists that are filled

-- one more of what is mapped, by its place
pub mapped_more : {A B : Type 0} (f : A → B) (g : Option A → B) → ((a : A) → g (Some a) ≡ f a) → (xs : List A) (i : ℕ) → i < length xs → (row new whole : List B)
    → new ≡ row ++ g (slice_get xs i) ∷ [] → row ++ map f (drop i xs) ≡ whole → new ++ map f (drop (i + 1) xs) ≡ whole
mapped_more f g each [] i lt row new whole pushed so_far = absurd (omega (arith, lt))
mapped_more {A} f g each (x ∷ xs) i lt row new whole pushed so_far =
    let all : List A = x ∷ xs in
    let one : g (slice_get all i) ≡ f (get_or all i x) = ap g (slice_get-get_or all i x lt) ∙ each (get_or all i x) in
    ap (λ ys. ys ++ map f (drop (i + 1) all)) (pushed ∙ ap (λ y. row ++ y ∷ []) one)
    ∙ (append_assoc row (f (get_or all i x) ∷ []) (map f (drop (i + 1) all))
    ∙ (sym (at_drop_more (λ (ys : List A). row ++ map f ys) all i x lt) ∙ so_far))

pub mapped_all : {A B : Type 0} (f : A → B) (xs : List A) (i : ℕ) → length xs ≤ i → (row whole : List B) → row ++ map f (drop i xs) ≡ whole → row ≡ whole
mapped_all {A} {B} f xs i le row whole so_far = sym (append_none row) ∙ (ap (λ (ys : List A). row ++ map f ys) (sym (drop_of_length-le xs le)) ∙ so_far)
  where
    append_none : (ys : List B) → ys ++ [] ≡ ys
    append_none [] = refl
    append_none (y ∷ ys) = ap (λ zs. y ∷ zs) (append_none ys)

-- ---- flags

or_false : (b : Bool) → b ≡ (b || false)
or_false true = refl
or_false false = refl

regrouped : (a b c : Bool) → ((a || b) || c) ≡ (a || (b || c))
regrouped true b c = refl
regrouped false b c = refl

pub marked_more : (ns : List ℕ) (i d : ℕ) → i < length ns → (old new : List Bool)
    → ((k : ℕ) → slice_index_or new k false ≡ (slice_index_or old k false || (k == get_or ns i d)))
    → ((k : ℕ) → (slice_index_or old k false || list_any (λ n. k == n) (drop i ns)) ≡ list_any (λ n. k == n) ns)
    → (k : ℕ) → (slice_index_or new k false || list_any (λ n. k == n) (drop (i + 1) ns)) ≡ list_any (λ n. k == n) ns
marked_more ns i d lt old new put so_far k =
    let rest = list_any (λ n. k == n) (drop (i + 1) ns) in
    ap (λ b. b || rest) (put k)
    ∙ (regrouped (slice_index_or old k false) (k == get_or ns i d) rest
    ∙ (sym (at_drop_more (λ (ms : List ℕ). slice_index_or old k false || list_any (λ n. k == n) ms) ns i d lt) ∙ so_far k))

pub all_marked : (ns : List ℕ) (i : ℕ) → length ns ≤ i → (table : List Bool)
    → ((k : ℕ) → (slice_index_or table k false || list_any (λ n. k == n) (drop i ns)) ≡ list_any (λ n. k == n) ns)
    → (k : ℕ) → slice_index_or table k false ≡ list_any (λ n. k == n) ns
all_marked ns i le table so_far k =
    or_false (slice_index_or table k false)
    ∙ (ap (λ (ms : List ℕ). slice_index_or table k false || list_any (λ n. k == n) ms) (sym (drop_of_length-le ns le)) ∙ so_far k)

-- ---- the linker's own data

pub made_more : (at : Places) (n : ℕ) (old new : List ℕ) (x : ℕ) → n < length (made Plain) → old ≡ take n (made_data at) → x ≡ slice_index_or (made_data at) n 0
    → new ≡ old ++ x ∷ [] → new ≡ take (n + 1) (made_data at)
made_more at n old new x lt so_far is pushed =
    let few : n < length (made_data at) = lt in
    pushed ∙ (ap (λ ys. ys ++ x ∷ []) so_far ∙ (ap (λ y. take n (made_data at) ++ y ∷ []) is ∙ sym (take_more (made_data at) n 0 few)))

pub made_all : (at : Places) (n : ℕ) (table : List ℕ) → length (made Plain) ≤ n → table ≡ take n (made_data at) → AreMade Plain table at
made_all at n table le so_far k = ap (λ ys. slice_index_or ys k 0) (so_far ∙ take_all n (made_data at) le)
