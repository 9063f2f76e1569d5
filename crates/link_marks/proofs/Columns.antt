-- The column of the names that are asked for.
use Rattle.std.proofs.Common.{◌≡◌, ℕ, ◌<◌, Bool, true, false, ◌||◌, List, [], ◌∷◌, ◌++◌, length, get_or, set, replicate, take, ◌+◌, append_assoc, slice_get, Some, None, refl, sym, ap, ◌∙◌, inl, inr}
use Rattle.std.specs.List.{list_any}
use Rattle.std.specs.Str.{bytes_eq}
use Rattle.std.proofs.lemmas.Bool.{cases_eq, false_from_ne_true}
use Rattle.std.proofs.lemmas.List.{take_more, get_or-set_same, get_or-set_other, get_or-replicate}
use Rattle.std.proofs.lemmas.List.Folds.{list_any-append}
use Rattle.std.proofs.lemmas.List.Quantifiers.{position-Some}
use Rattle.std.proofs.lemmas.Option.{slice_get-get_or, same_Some, none-some}
use Rattle.std.proofs.lemmas.Slice.Eq.{bytes_eq-Decides}
use Rattle.link_program.specs.wl_base.Names.{number_of}
use Rattle.link_marks.specs.Asked.{IsAsked}

-- the name of a number
pub name_at : (names : List (List ℕ)) (name : List ℕ) (n : ℕ) → number_of names name ≡ Some n → slice_get names n ≡ Some name
name_at names name n numbered =
    let at = position-Some (bytes_eq name) names n [] numbered in
    slice_get-get_or names n [] at.0 ∙ ap (λ x. Some x) (sym ((bytes_eq-Decides name (get_or names n [])).0 at.1))

pub number_within : (names : List (List ℕ)) (name : List ℕ) (n : ℕ) → number_of names name ≡ Some n → n < length names
number_within names name n numbered = (position-Some (bytes_eq name) names n [] numbered).0

pub same_name : (a b : List ℕ) → bytes_eq a b ≡ true → a ≡ b
same_name a b h = (bytes_eq-Decides a b).0 h

pub name_itself : (a : List ℕ) → bytes_eq a a ≡ true
name_itself a = (bytes_eq-Decides a a).1 refl

one_word : (a b : List ℕ) → list_any (bytes_eq a) (b ∷ []) ≡ bytes_eq a b
one_word a b = by (bytes_eq a b)
  where
    by : (t : Bool) → (t || false) ≡ t
    by true = refl
    by false = refl

or_true : (a : Bool) → (a || true) ≡ true
or_true true = refl
or_true false = refl

or_false : (a : Bool) → (a || false) ≡ a
or_false true = refl
or_false false = refl

module _ (names words : List (List ℕ)) (word : List ℕ) where
  more_words : (name : List ℕ) (t : Bool) → bytes_eq name word ≡ t → list_any (bytes_eq name) (words ++ word ∷ []) ≡ (list_any (bytes_eq name) words || t)
  more_words name t is = list_any-append (bytes_eq name) words (word ∷ []) ∙ ap (λ b. list_any (bytes_eq name) words || b) (one_word name word ∙ is)

  pub one_more : (asked : List Bool) (n : ℕ) → n < length asked → number_of names word ≡ Some n → IsAsked names words asked → IsAsked names (words ++ word ∷ []) (set asked n true)
  one_more asked n inside is was name number at = elim (cases_eq number n) as (λ _. get_or (set asked n true) number false ≡ list_any (bytes_eq name) (words ++ word ∷ [])) [
    | inl same ↦
        let word_is : name ≡ word = same_Some name word (sym (name_at names name number at) ∙ ap (slice_get names) same ∙ name_at names word n is) in
        let eq : bytes_eq name word ≡ true = ap (bytes_eq name) (sym word_is) ∙ name_itself name in
        ap (λ k. get_or (set asked n true) k false) same ∙ get_or-set_same asked n true false inside ∙ sym (more_words name true eq ∙ or_true (list_any (bytes_eq name) words))
    | inr differ ↦
        let eq : bytes_eq name word ≡ false = false_from_ne_true (bytes_eq name word) (λ h.
        let same : name ≡ word = same_name name word h in
        differ (same_Some number n (sym at ∙ ap (number_of names) same ∙ is))) in
        get_or-set_other asked n number true false differ ∙ was name number at ∙ sym (more_words name false eq ∙ or_false (list_any (bytes_eq name) words))
  ]

  pub no_more : (asked : List Bool) → number_of names word ≡ None → IsAsked names words asked → IsAsked names (words ++ word ∷ []) asked
  no_more asked is was name number at =
      let eq : bytes_eq name word ≡ false = false_from_ne_true (bytes_eq name word) (λ h. none-some number (sym is ∙ ap (number_of names) (sym (same_name name word h)) ∙ at)) in
      was name number at ∙ sym (more_words name false eq ∙ or_false (list_any (bytes_eq name) words))

-- one word more of a list
pub word_more : (words more : List (List ℕ)) (i : ℕ) (x item : List ℕ) → i < length more → x ≡ item → item ≡ get_or more i item → (words ++ take i more) ++ x ∷ [] ≡ words ++ take (i + 1) more
word_more words more i x item below same is =
    append_assoc words (take i more) (x ∷ []) ∙ ap (λ (y : List ℕ). words ++ (take i more ++ y ∷ [])) (same ∙ is) ∙ ap (λ l. words ++ l) (sym (take_more more i item below))

pub none_asked : (names : List (List ℕ)) → IsAsked names [] (replicate (length names) false)
none_asked names name number at = get_or-replicate (length names) number false false (number_within names name number at)
