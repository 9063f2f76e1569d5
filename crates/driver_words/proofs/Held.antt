-- What is held alike gives alike, and who is blamed behind other loads is blamed.
use Rattle.std.proofs.Common.{◌≡◌, ◌<◌, ◌+◌, ◌-◌, ℕ, zero, suc, IsTrue, List, Option, Some, None, Ok, Err, IsSome, IsUtf8, slice_get, inl, inr, sym, ap, subst, ◌∙◌, arith}
use Rattle.std.specs.Prelude.{IsSomeAnd}
use Rattle.wl_outside.specs.Shelf.{Shown, Same, Grows}
use Rattle.driver_words.specs.declared.stop.Stop.{Stop}
use Rattle.driver_words.specs.declared.stop.Stop.TheVariants.{Unreadable, NotText, OutOfMemory}
use Rattle.driver_texts.specs.Thin.{members_of}
use Rattle.driver_texts.specs.Tokens.{tokens_of}
use Rattle.driver_words.specs.Expand.{expanded, expanded_word, expanded_to, first_there, unless_there, Blames, Others, HasOther, IsNoText}

pub held_same : (old new : Shown) → Same old new → IsTrue old.tells → new.held ≡ old.held
held_same old new same tells = λ i n. same tells n i

pub word_same : (old new : Shown) (word : List ℕ) → Same old new → IsTrue old.tells → expanded_word new.held word ≡ expanded_word old.held word
word_same old new word same tells = ap (λ (held : List ℕ → Option (List ℕ)). expanded_word held word) (held_same old new same tells)

pub expanded_same : (old new : Shown) (words : List (List ℕ)) → Same old new → IsTrue old.tells → expanded new.held words ≡ expanded old.held words
expanded_same old new words same tells = ap (λ (held : List ℕ → Option (List ℕ)). expanded held words) (held_same old new same tells)

pub still_tells : (old new : Shown) → Grows old new → IsTrue old.tells → IsTrue new.tells
still_tells old new grows tells = subst IsTrue (sym grows.tells) tells

pub same_all : (old mid new : Shown) → Grows old mid → Same old mid → Same mid new → Same old new
same_all old mid new grows first second = λ tells n. second (still_tells old mid grows tells) n ∙ first tells n

pub grows_all : (old mid new : Shown) → Grows old mid → Grows mid new → Grows old new
grows_all old mid new first second = record {
  tells = second.tells ∙ first.tells;
  loads = λ name. let a = first.loads name in let b = second.loads name in omega (arith, a, b);
  saves = λ name. let a = first.saves name in let b = second.saves name in omega (arith, a, b);
}

-- the same is blamed from the start
pub blamed_before : (old mid new : Shown) (e : Stop) → Grows old mid → Same old mid → Blames e mid new → Blames e old new
blamed_before old mid new (Unreadable name) grows same h =
    (let l = grows.loads name in let f = h.0 in omega (arith, l, f), λ tells. subst IsSome (same tells name) (h.1 (still_tells old mid grows tells)))
blamed_before old mid new (NotText name) grows same h =
    λ tells. subst (λ o. IsSomeAnd o IsNoText) (same tells name) (h (still_tells old mid grows tells))
blamed_before old mid new OutOfMemory grows same h = h

no_text : (old new : Shown) (name text : List ℕ) → (IsTrue old.tells → old.held name ≡ Some text) → IsNoText text → IsTrue old.tells → IsSomeAnd (old.held name) IsNoText
no_text old new name text held h tells = subst (λ o. IsSomeAnd o IsNoText) (sym (held tells)) h

-- words of a file that aren't text are blamed on the file
pub words_blamed : (old new : Shown) (e : Stop) (name text : List ℕ) → (IsTrue old.tells → old.held name ≡ Some text) → Others e name (tokens_of text) → Blames e old new
words_blamed old new (Unreadable file) name text held h = absurd h
words_blamed old new (NotText file) name text held h = subst (λ n. IsTrue old.tells → IsSomeAnd (old.held n) IsNoText) (sym h.0) (no_text old new name text held (inl h.1))
words_blamed old new OutOfMemory name text held h = h

-- so are names of a thin library's members
pub names_blamed : (old new : Shown) (e : Stop) (name text : List ℕ) → (IsTrue old.tells → old.held name ≡ Some text) → Others e name (members_of text) → Blames e old new
names_blamed old new (Unreadable file) name text held h = absurd h
names_blamed old new (NotText file) name text held h = subst (λ n. IsTrue old.tells → IsSomeAnd (old.held n) IsNoText) (sym h.0) (no_text old new name text held (inr h.1))
names_blamed old new OutOfMemory name text held h = h

-- a word at a place that isn't UTF-8
pub has_other : (words : List (List ℕ)) (at : ℕ) (word : List ℕ) → slice_get words at ≡ Some word → ¬ (IsUtf8 word) → HasOther words
has_other words at word is other = (at, word, is, other)

-- ---- response files, a level at a time

pub none_there : (depth : ℕ) (held : List ℕ → Option (List ℕ)) (words : List (List ℕ)) → first_there held words ≡ None → expanded_to depth held words ≡ Ok words
none_there zero held words e = ap (λ o. unless_there words o (λ name. Err name)) e
none_there (suc depth) held words e = ap (λ o. unless_there words o (λ _. expanded_to depth held (expanded held words))) e

pub too_deep : (held : List ℕ → Option (List ℕ)) (words : List (List ℕ)) (name : List ℕ) → first_there held words ≡ Some name → expanded_to 0 held words ≡ Err name
too_deep held words name e = ap (λ o. unless_there words o (λ name. Err name)) e

one_level : (depth : ℕ) (held : List ℕ → Option (List ℕ)) (words : List (List ℕ)) (name : List ℕ) → first_there held words ≡ Some name → expanded_to (suc depth) held words ≡ expanded_to depth held (expanded held words)
one_level depth held words name e = ap (λ o. unless_there words o (λ _. expanded_to depth held (expanded held words))) e

pub one_deeper : (k : ℕ) (held : List ℕ → Option (List ℕ)) (words : List (List ℕ)) (name : List ℕ) → k < 20 → first_there held words ≡ Some name
    → expanded_to (20 - (k + 1)) held (expanded held words) ≡ expanded_to (20 - k) held words
one_deeper k held words name below e =
    let d : 20 - k ≡ suc (20 - (k + 1)) = omega (arith, below) in
    sym (ap (λ (n : ℕ). expanded_to n held words) d ∙ one_level (20 - (k + 1)) held words name e)
