-- Steps of loops over lists of which each item may give something.
use Rattle.std.proofs.Common.{◌≡◌, ℕ, ◌+◌, ◌<◌, List, [], ◌∷◌, ◌++◌, map, filter_map, take, drop, get_or, length, Option, Some, None, refl, sym, ap, ◌∙◌, append_assoc}
use Rattle.std.specs.Prelude.{option_and_then}
use Rattle.std.specs.List.{cons_option}
use Rattle.std.proofs.lemmas.List.{map-append, take_more, drop_more}
use Rattle.link_program.specs.reloc_apply.Windows.{over, little}
use Rattle.link_program.specs.declared.named.Named.{Named}
use Rattle.sym_parts.specs.Sought.{Known, named_place}
use Rattle.sym_parts.specs.Data.{word_named, words_on}

-- One item more, of those that were taken.
pub gives_more : {A B : Type 0} (f : A → Option B) (xs : List A) (i : ℕ) (d : A) → i < length xs → (done now : List B) (y : B) → map f (take i xs) ≡ map Some done → f (get_or xs i d) ≡ Some y → now ≡ done ++ y ∷ []
    → map f (take (i + 1) xs) ≡ map Some now
gives_more f xs i d below done now y held gives is =
    ap (map f) (take_more xs i d below)
    ∙ map-append f (take i xs) (get_or xs i d ∷ [])
    ∙ ap (λ ys. ys ++ map f (get_or xs i d ∷ [])) held
    ∙ ap (λ o. map Some done ++ o ∷ []) gives
    ∙ sym (map-append Some done (y ∷ []))
    ∙ ap (map Some) (sym is)

-- One item more, of those that are left.
pub gives_next : {A B : Type 0} (f : A → Option B) (x : A) (left whole : List A) (before : List A) (done now : List B) (y : B) → map Some done ++ map f before ≡ map f whole → before ≡ x ∷ left → f x ≡ Some y → now ≡ done ++ y ∷ []
    → map Some now ++ map f left ≡ map f whole
gives_next f x left whole before done now y held split gives is =
    ap (λ ys. map Some ys ++ map f left) is
    ∙ ap (λ ys. ys ++ map f left) (map-append Some done (y ∷ []))
    ∙ append_assoc (map Some done) (Some y ∷ []) (map f left)
    ∙ ap (λ o. map Some done ++ o ∷ map f left) (sym gives)
    ∙ ap (λ xs. map Some done ++ map f xs) (sym split)
    ∙ held

-- One item more, where some give nothing.
pub some_more : {A B : Type 0} (h : A → Option B) (xs : List A) (i : ℕ) (d : A) → i < length xs → (done now whole : List B) → done ++ filter_map h (drop i xs) ≡ whole
    → now ≡ done ++ filter_map h (get_or xs i d ∷ []) → now ++ filter_map h (drop (i + 1) xs) ≡ whole
some_more {A} {B} h xs i d below done now whole held is =
    ap (λ ys. ys ++ filter_map h (drop (i + 1) xs)) is
    ∙ append_assoc done (filter_map h (get_or xs i d ∷ [])) (filter_map h (drop (i + 1) xs))
    ∙ ap (λ ys. done ++ ys) (joined (h (get_or xs i d)))
    ∙ ap (λ ys. done ++ filter_map h ys) (sym (drop_more xs i d below))
    ∙ held
  where
    joined : (o : Option B) → cons_option o [] ++ filter_map h (drop (i + 1) xs) ≡ cons_option o (filter_map h (drop (i + 1) xs))
    joined None = refl
    joined (Some y) = refl

-- One word more.
pub words_more : (k : Known) (row : List Named) (i : ℕ) (d : Named) → i < length row → (bytes now : List ℕ) (n : ℕ) (whole : Option (List ℕ)) → words_on k (drop i row) bytes ≡ whole → word_named k (get_or row i d) ≡ Some n
    → now ≡ over (named_place (get_or row i d)) (little n) bytes → words_on k (drop (i + 1) row) now ≡ whole
words_more k row i d below bytes now n whole held word is =
    ap (words_on k (drop (i + 1) row)) is
    ∙ ap (option_and_then (λ n. words_on k (drop (i + 1) row) (over (named_place (get_or row i d)) (little n) bytes))) (sym word)
    ∙ ap (λ xs. words_on k xs bytes) (sym (drop_more row i d below))
    ∙ held
