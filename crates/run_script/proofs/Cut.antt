-- A text is cut at its first byte of a value, and then behind it.
use Rattle.std.proofs.Common.{◌≡◌, ℕ, ◌+◌, ◌==◌, Bool, true, false, not, cond, List, [], ◌∷◌, length, take, drop, nat_lt, Some, None, suc, arith, refl, ap, sym, subst, map, ◌++◌, ◌∙◌}
use Rattle.std.proofs.lemmas.Bool.Decides.{nat_tests}
use Rattle.std.specs.List.{prefix_len}
use Rattle.std.specs.Prelude.{unwrap_or}
use Rattle.std.proofs.lemmas.List.{append_assoc, map-append}
use Rattle.run_script.specs.Cut.{cut, onto_first, place_of}

-- how many bytes stand before the first of this value
abbrev before : ℕ → List ℕ → ℕ
before at text = prefix_len (λ b. not (b == at)) text

shift_false : (a n : ℕ) → nat_lt (1 + a) (suc n) ≡ false → nat_lt a n ≡ false
shift_false a n e = grind (arith, nat_tests)

shift_true : (a n : ℕ) → nat_lt (1 + a) (suc n) ≡ true → nat_lt a n ≡ true
shift_true a n e = grind (arith, nat_tests)

zero_not : (n : ℕ) → nat_lt 0 (suc n) ≡ false → ⊥
zero_not n e = grind (arith, nat_tests)

whole : (at : ℕ) (text : List ℕ) → nat_lt (before at text) (length text) ≡ false → cut at text ≡ text ∷ []
whole at [] e = refl
whole at (b ∷ bs) e = by (b == at) (whole at bs) e
  where
    by : (t : Bool) → (nat_lt (before at bs) (length bs) ≡ false → cut at bs ≡ bs ∷ []) → nat_lt (cond (not t) (1 + before at bs) 0) (suc (length bs)) ≡ false
        → cond t ([] ∷ cut at bs) (onto_first b (cut at bs)) ≡ (b ∷ bs) ∷ []
    by true more e = absurd (zero_not (length bs) e)
    by false more e = ap (onto_first b) (more (shift_false (before at bs) (length bs) e))

one_later : (at b k n m : ℕ) (bs : List ℕ) → n ≡ suc k → m ≡ suc (k + 1) → (b ∷ take k bs) ∷ cut at (drop (k + 1) bs) ≡ take n (b ∷ bs) ∷ cut at (drop m (b ∷ bs))
one_later at b k n m bs e d = (λ j. take (sym e j) (b ∷ bs) ∷ cut at (drop (sym d j) (b ∷ bs)))

parted : (at : ℕ) (text : List ℕ) → nat_lt (before at text) (length text) ≡ true → cut at text ≡ take (before at text) text ∷ cut at (drop (before at text + 1) text)
parted at [] e = cc
parted at (b ∷ bs) e = by (b == at) (parted at bs) e
  where
    by : (t : Bool) → (nat_lt (before at bs) (length bs) ≡ true → cut at bs ≡ take (before at bs) bs ∷ cut at (drop (before at bs + 1) bs))
        → nat_lt (cond (not t) (1 + before at bs) 0) (suc (length bs)) ≡ true
        → cond t ([] ∷ cut at bs) (onto_first b (cut at bs))
        ≡ take (cond (not t) (1 + before at bs) 0) (b ∷ bs) ∷ cut at (drop (cond (not t) (1 + before at bs) 0 + 1) (b ∷ bs))
    by true more e = refl
    by false more e = ap (onto_first b) (more (shift_true (before at bs) (length bs) e)) ∙ one_later at b (before at bs) (1 + before at bs) (1 + before at bs + 1) bs (omega arith) (omega arith)

pub at_end : (at : ℕ) (text : List ℕ) → place_of at text ≡ None → cut at text ≡ text ∷ []
at_end at text e = by (nat_lt (before at text) (length text)) (whole at text) e
  where
    by : (t : Bool) → (t ≡ false → cut at text ≡ text ∷ []) → cond t (Some (before at text)) None ≡ None → cut at text ≡ text ∷ []
    by true h e = cc
    by false h e = h refl

pub at_byte : (at : ℕ) (text : List ℕ) (k : ℕ) → place_of at text ≡ Some k → cut at text ≡ take k text ∷ cut at (drop (k + 1) text)
at_byte at text k e = by (nat_lt (before at text) (length text)) (parted at text) e
  where
    by : (t : Bool) → (t ≡ true → cut at text ≡ take (before at text) text ∷ cut at (drop (before at text + 1) text)) → cond t (Some (before at text)) None ≡ Some k
        → cut at text ≡ take k text ∷ cut at (drop (k + 1) text)
    by true h is = subst (λ n. cut at text ≡ take n text ∷ cut at (drop (n + 1) text)) (ap (λ o. unwrap_or o 0) is) (h refl)
    by false h e = cc

module _ {A : Type 0} (f : A → List ℕ) (pieces : List A) (piece : A) (at : ℕ) (text all : List ℕ) (so_far : map f pieces ++ cut at text ≡ cut at all) where
  -- one piece more
  pub pushed : (rest : List ℕ) → cut at text ≡ f piece ∷ cut at rest → map f (pieces ++ piece ∷ []) ++ cut at rest ≡ cut at all
  pushed rest is =
      ap (λ xs. xs ++ cut at rest) (map-append f pieces (piece ∷ []))
      ∙ append_assoc (map f pieces) (f piece ∷ []) (cut at rest)
      ∙ ap (λ xs. map f pieces ++ xs) (sym is)
      ∙ so_far

  -- the last piece
  pub ended : cut at text ≡ text ∷ [] → f piece ≡ text → map f (pieces ++ piece ∷ []) ≡ cut at all
  ended last is =
      map-append f pieces (piece ∷ [])
      ∙ ap (λ p. map f pieces ++ p ∷ []) is
      ∙ ap (λ xs. map f pieces ++ xs) (sym last)
      ∙ so_far
