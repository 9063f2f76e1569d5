-- What is read is an index, and an index is read.
use Rattle.std.proofs.Common.{◌≡◌, ℕ, zero, suc, ◌+◌, ◌*◌, ◌≤◌, ◌<◌, Bool, true, false, cond, ltb, eqb, List, [], ◌∷◌, ◌++◌, length, take, drop, Option, Some, None, Result, Ok, Err, refl, sym, ap, subst, ◌∙◌, append_assoc, arith, length-take, inl, inr, add-one, ◌≢◌}
use Rattle.std.specs.Prelude.{All, map, position, slice_get, option_map}
use Rattle.std.specs.Ordering.{nat_cmp}
use Rattle.std.specs.Result.{result_ok}
use Rattle.std.proofs.lemmas.Grind.{get_or_default_zero}
use Rattle.std.specs.List.{position_or_len}
use Rattle.std.specs.List.Sorted.{IsStrictlyIncreasing, IsBinarySearchResult}
use Rattle.std.proofs.lemmas.Bool.{lt-ltb, le-ltb, cases_lt, eqb-true, eq-eqb, ne_eqb}
use Rattle.std.proofs.lemmas.List.{take-append-drop, take_at, drop_at, length-append, get_or-take}
use Rattle.std.proofs.lemmas.List.Elements.{All-nil, All-cons, All-head, All-tail}
use Rattle.std.proofs.lemmas.List.Kept.{AllPairs-from_increasing}
use Rattle.std.proofs.lemmas.List.Sums.{position_or_len_is}
use Rattle.std.proofs.lemmas.List.Sorted.{searched}
use Rattle.std.proofs.lemmas.List.Quantifiers.{position-Some}
use Rattle.std.proofs.lemmas.Option.{slice_get_past, slice_get-get_or, slice_get_within, get_or_from_slice_get}
use Rattle.std.proofs.Math.Seq.{drop-cons}
use Rattle.std.proofs.Math.ListN.{get_or}
use Rattle.wl_base.specs.declared.fault.LibFault.{LibFault}
use Rattle.wl_base.specs.declared.fault.LibFault.TheVariants.{BadIndex}
use Rattle.lib_index.specs.Library.{SpellsWord, AreWords, AreNames, SpellsIndex}
use Rattle.lib_index.specs.Reading.{◌>>=◌, or_fault, word_at, number_at, numbers_at, name_at, entries_at, counted_index, index_at}
use Rattle.lib_index.proofs.LeastLaws.{Entry}
use Rattle.lib_index.proofs.MemberSteps.{bind_ok, ok_is, some_is, or_fault_ok}

guard_ok : {A : Type 0} (b : Bool) (d : LibFault) (r : Result A LibFault) (y : A) → cond b (Err d) r ≡ Ok y → (b ≡ false) × (r ≡ Ok y)
guard_ok true d r y e = absurd cc
guard_ok false d r y e = (refl, e)

-- ---- places that rise

abbrev here : ℕ → ℕ → Bool
here place p = eqb p place

rises : (xs : List ℕ) → IsStrictlyIncreasing xs → (i j : ℕ) → i < j → j < length xs → get_or xs i 0 < get_or xs j 0
rises xs rise i j lt within = AllPairs-from_increasing xs rise i j 0 lt within

not_falling : (xs : List ℕ) → IsStrictlyIncreasing xs → (i j : ℕ) → i ≤ j → j < length xs → get_or xs i 0 ≤ get_or xs j 0
not_falling xs rise i j le within =
    elim (cases_lt i j) [
      | inl lt ↦ omega (arith, rises xs rise i j lt within)
      | inr ge ↦ let same : i ≡ j = omega (arith, le, ge) in subst (λ k. get_or xs i 0 ≤ get_or xs k 0) same (omega arith)
    ]

-- the place of a number that is in the list
position_at : (xs : List ℕ) (x i : ℕ) → IsStrictlyIncreasing xs → i < length xs → get_or xs i 0 ≡ x → position (here x) xs ≡ Some i
position_at xs x i rise lt is =
    let n : position_or_len (here x) xs ≡ i
    = position_or_len_is (here x) xs i 0 (omega (arith, lt))
    (λ k below. ne_eqb (get_or xs k 0) x (omega (arith, rises xs rise k i below lt, is)))
    (λ within. eq-eqb (get_or xs i 0) x is) in
    rw (n, lt-ltb i (length xs) lt) refl

-- the same, as a list is asked
pub found_at : (xs : List ℕ) (x i : ℕ) → IsStrictlyIncreasing xs → slice_get xs i ≡ Some x → Some i ≡ position (here x) xs
found_at xs x i rise at = sym (position_at xs x i rise (slice_get_within xs i x at) (get_or_from_slice_get xs i x 0 at))

position_none : (xs : List ℕ) (x : ℕ) → ((k : ℕ) → k < length xs → get_or xs k 0 ≢ x) → position (here x) xs ≡ None
position_none xs x other =
    let n : position_or_len (here x) xs ≡ length xs
    = position_or_len_is (here x) xs (length xs) 0 (omega arith) (λ k below. ne_eqb (get_or xs k 0) x (other k below)) (λ within. absurd (omega (arith, within))) in
    rw (n, le-ltb (length xs) (length xs) (omega arith)) refl

-- what a search of rising places finds
pub search_finds : (xs : List ℕ) (x : ℕ) (r : Result ℕ ℕ) → IsStrictlyIncreasing xs → IsBinarySearchResult (λ y. nat_cmp y x) xs r → result_ok r ≡ position (here x) xs
search_finds xs x (Ok i) rise found =
    let p = searched xs x (Ok i) found (not_falling xs rise) in
    sym (position_at xs x i rise p.0 p.1)
search_finds xs x (Err i) rise found =
    let p = searched xs x (Err i) found (not_falling xs rise) in
    sym (position_none xs x (λ k below same. elim (cases_lt k i) [ inl lt ↦ absurd (omega (arith, p.1 k lt, same)) | inr ge ↦ absurd (omega (arith, p.2 k ge below, same)) ]))

position_of : (xs : List ℕ) (x i : ℕ) → IsStrictlyIncreasing xs → slice_get xs i ≡ Some x → position (here x) xs ≡ Some i
position_of xs x i rise got =
    elim (cases_lt i (length xs)) [
      | inl lt ↦ position_at xs x i rise lt (get_or_from_slice_get xs i x 0 got)
      | inr past ↦ let none = slice_get_past xs i past in absurd cc
    ]

got_at : (xs : List ℕ) (x i : ℕ) → position (here x) xs ≡ Some i → slice_get xs i ≡ Some x
got_at xs x i e =
    let p = position-Some (here x) xs i 0 e in
    slice_get-get_or xs i 0 p.0 ∙ ap Some (eqb-true (get_or xs i 0) x p.1)

got_below : (xs : List ℕ) (x i : ℕ) → slice_get xs i ≡ Some x → i < length xs
got_below xs x i got =
    elim (cases_lt i (length xs)) [
      | inl lt ↦ lt
      | inr past ↦ let none = slice_get_past xs i past in absurd cc
    ]

-- ---- words

word_found : (bytes : List ℕ) (n : ℕ) (rest : List ℕ) → word_at bytes ≡ Some (n, rest) → (word : List ℕ) × (bytes ≡ word ++ rest) × SpellsWord n word
word_found [] n rest e = absurd cc
word_found (a ∷ []) n rest e = absurd cc
word_found (a ∷ b ∷ []) n rest e = absurd cc
word_found (a ∷ b ∷ c ∷ []) n rest e = absurd cc
word_found (a ∷ b ∷ c ∷ d ∷ bytes) n rest e =
    let word : List ℕ = a ∷ b ∷ c ∷ d ∷ [] in
    let same = some_is e in
    subst (λ (p : ℕ × List ℕ). (w : List ℕ) × (a ∷ b ∷ c ∷ d ∷ bytes ≡ w ++ p.1) × SpellsWord p.0 w) same (word, refl, (refl, refl))

word_again : (word rest : List ℕ) (n : ℕ) → SpellsWord n word → word_at (word ++ rest) ≡ Some (n, rest)
word_again [] rest n s = absurd (omega (arith, s.0))
word_again (a ∷ []) rest n s = absurd (omega (arith, s.0))
word_again (a ∷ b ∷ []) rest n s = absurd (omega (arith, s.0))
word_again (a ∷ b ∷ c ∷ []) rest n s = absurd (omega (arith, s.0))
word_again (a ∷ b ∷ c ∷ d ∷ []) rest n s = ap (λ k. Some (k, rest)) (sym s.1)
word_again (a ∷ b ∷ c ∷ d ∷ e ∷ word) rest n s = absurd (omega (arith, s.0))

-- ---- the members' numbers

record NumberRead (places bytes : List ℕ) (k : ℕ) (rest : List ℕ) : Type 0 where
  place : ℕ
  word : List ℕ
  parts : bytes ≡ word ++ rest
  spelled : SpellsWord place word
  found : slice_get places k ≡ Some place

number_found : (places bytes : List ℕ) (k : ℕ) (rest : List ℕ) → number_at places bytes ≡ Ok (k, rest) → NumberRead places bytes k rest
unfolding number_at
number_found places bytes k rest e =
    let a = bind_ok (or_fault (BadIndex 1) (word_at bytes)) (λ word. or_fault (BadIndex 2) (position (here word.0) places) >>= λ number. Ok (number, word.1)) (k, rest) e in
    let b = bind_ok (or_fault (BadIndex 2) (position (here a.0.0) places)) (λ number. Ok (number, a.0.1)) (k, rest) a.2 in
    let w = word_found bytes a.0.0 a.0.1 (or_fault_ok (BadIndex 1) (word_at bytes) a.0 a.1) in
    let found = got_at places a.0.0 b.0 (or_fault_ok (BadIndex 2) (position (here a.0.0) places) b.0 b.1) in
    subst (λ (p : ℕ × List ℕ). NumberRead places bytes p.0 p.1) (ok_is b.2) (record { place = a.0.0; word = w.0; parts = w.1; spelled = w.2; found = found })

number_again : (places : List ℕ) (k p : ℕ) (word rest : List ℕ) → IsStrictlyIncreasing places → SpellsWord p word → slice_get places k ≡ Some p → number_at places (word ++ rest) ≡ Ok (k, rest)
unfolding number_at
number_again places k p word rest rise s got = rw (word_again word rest p s, position_of places p k rise got) refl

pub record NumbersRead (places : List ℕ) (n : ℕ) (bytes ks : List ℕ) : Type 0 where
  pub at : List ℕ
  pub words : List ℕ
  pub rest : List ℕ
  pub parts : bytes ≡ words ++ rest
  pub placed : AreWords at words
  pub many : length at ≡ n
  pub long : length words ≡ 4 * n
  pub found : map Some at ≡ map (slice_get places) ks

numbers_found : (places : List ℕ) (n : ℕ) (bytes ks : List ℕ) → numbers_at places n bytes ≡ Ok ks → NumbersRead places n bytes ks
unfolding numbers_at
numbers_found places zero bytes ks e =
    subst (λ (x : List ℕ). NumbersRead places 0 bytes x) (ok_is e) (record { at = []; words = []; rest = bytes; parts = refl; placed = refl; many = refl; long = refl; found = refl })
numbers_found places (suc n) bytes ks e =
    let a = bind_ok (number_at places bytes) (λ first. numbers_at places n first.1 >>= λ others. Ok (first.0 ∷ others)) ks e in
    let b = bind_ok (numbers_at places n a.0.1) (λ others. Ok (a.0.0 ∷ others)) ks a.2 in
    let f = number_found places bytes a.0.0 a.0.1 a.1 in
    let o = numbers_found places n a.0.1 b.0 b.1 in
    subst (λ (x : List ℕ). NumbersRead places (suc n) bytes x) (ok_is b.2) (record {
      at = f.place ∷ o.at;
      words = f.word ++ o.words;
      rest = o.rest;
      parts = f.parts ∙ ap (λ (x : List ℕ). f.word ++ x) o.parts ∙ sym (append_assoc f.word o.words o.rest);
      placed = (f.word, o.words, refl, f.spelled, o.placed);
      many = ap suc o.many;
      long = omega (arith, length-append f.word o.words, f.spelled.0, o.long);
      found = rw (f.found, o.found) refl;
    })

numbers_again : (places at ks words rest : List ℕ) → IsStrictlyIncreasing places → AreWords at words → map Some at ≡ map (slice_get places) ks → numbers_at places (length at) (words ++ rest) ≡ Ok ks
unfolding numbers_at
numbers_again places [] [] words rest rise placed found = refl
numbers_again places [] (k ∷ ks) words rest rise placed found = absurd cc
numbers_again places (p ∷ at) [] words rest rise placed found = absurd cc
numbers_again places (p ∷ at) (k ∷ ks) words rest rise placed found =
    let first : slice_get places k ≡ Some p = cc in
    let later : map Some at ≡ map (slice_get places) ks = cc in
    let parts : words ++ rest ≡ placed.0 ++ (placed.1 ++ rest) = ap (λ (x : List ℕ). x ++ rest) placed.2 ∙ append_assoc placed.0 placed.1 rest in
    rw (parts, number_again places k p placed.0 (placed.1 ++ rest) rise placed.3 first, numbers_again places at ks placed.1 rest rise placed.4 later) refl

words_long : (at words : List ℕ) → AreWords at words → length words ≡ 4 * length at
words_long [] words placed = omega (arith, ap length placed)
words_long (p ∷ at) words placed = omega (arith, ap length placed.2, length-append placed.0 placed.1, placed.3.0, words_long at placed.1 placed.4)

abbrev pub Below : ℕ → ℕ → Type 0
Below n k = k < n

pub numbers_below : (places at ks : List ℕ) → map Some at ≡ map (slice_get places) ks → All (Below (length places)) ks
numbers_below places at [] found = All-nil (Below (length places))
numbers_below places [] (k ∷ ks) found = absurd cc
numbers_below places (p ∷ at) (k ∷ ks) found =
    let first : slice_get places k ≡ Some p = cc in
    let later : map Some at ≡ map (slice_get places) ks = cc in
    All-cons (Below (length places)) k ks (got_below places p k first) (numbers_below places at ks later)

-- ---- names

abbrev IsZero : ℕ → Bool
IsZero b = eqb b 0

abbrev IsPart : ℕ → Type 0
IsPart b = 0 < b

cut_at_zero : (bytes : List ℕ) (o : Option ℕ) (name rest : List ℕ) → position IsZero bytes ≡ o → option_map {U = List ℕ × List ℕ} (λ k. (take k bytes, drop (k + 1) bytes)) o ≡ Some (name, rest) → (bytes ≡ name ++ 0 ∷ rest) × All IsPart name
cut_at_zero bytes None name rest at e = absurd cc
cut_at_zero bytes (Some k) name rest at e =
    let p = position-Some IsZero bytes k 0 at in
    let zero_is : get_or bytes k 0 ≡ 0 = eqb-true (get_or bytes k 0) 0 p.1 in
    let behind : drop k bytes ≡ 0 ∷ drop (k + 1) bytes = drop-cons bytes k 0 p.0 ∙ rw (zero_is, add-one) refl in
    let parts : bytes ≡ take k bytes ++ 0 ∷ drop (k + 1) bytes = sym (take-append-drop k bytes) ∙ ap (λ (x : List ℕ). take k bytes ++ x) behind in
    let whole : All IsPart (take k bytes) = λ i d lt.
    let below : i < k = omega (arith, lt, length-take k bytes) in
    let within : i < length bytes = omega (arith, below, p.0) in
    subst IsPart (sym (get_or-take k bytes i d below)) (some_part (get_or bytes i d) (same_default bytes i d within (p.2 i below))) in
    let same = some_is e in
    subst (λ (x : List ℕ × List ℕ). (bytes ≡ x.0 ++ 0 ∷ x.1) × All IsPart x.0) same (parts, whole)
  where
    some_part : (b : ℕ) → IsZero b ≡ false → 0 < b
    some_part zero e = absurd cc
    some_part (suc b) e = omega arith

    same_default : (xs : List ℕ) (i d : ℕ) → i < length xs → IsZero (get_or xs i 0) ≡ false → IsZero (get_or xs i d) ≡ false
    same_default xs i d lt e = subst (λ b. IsZero b ≡ false) (sym (get_or_default_zero xs i d lt)) e

name_found : (bytes name rest : List ℕ) → name_at bytes ≡ Some (name, rest) → (bytes ≡ name ++ 0 ∷ rest) × All IsPart name
name_found bytes name rest e = cut_at_zero bytes (position IsZero bytes) name rest refl e

zero_counted : (name rest : List ℕ) → All IsPart name → position_or_len IsZero (name ++ 0 ∷ rest) ≡ length name
zero_counted [] rest all = refl
zero_counted (b ∷ name) rest all =
    let first : 0 < b = All-head IsPart b name all in
    let other : eqb b 0 ≡ false = ne_eqb b 0 (λ same. absurd (omega (arith, first, same))) in
    rw (other, zero_counted name rest (All-tail IsPart b name all)) (omega arith)

name_again : (name rest : List ℕ) → All IsPart name → name_at (name ++ 0 ∷ rest) ≡ Some (name, rest)
name_again name rest all =
    let n = zero_counted name rest all in
    let lt : length name < length (name ++ 0 ∷ rest) = omega (arith, length-append name (0 ∷ rest)) in
    let grouped : name ++ 0 ∷ rest ≡ (name ++ 0 ∷ []) ++ rest = sym (append_assoc name (0 ∷ []) rest) in
    let size : length (name ++ 0 ∷ []) ≡ length name + 1 = length-append name (0 ∷ []) in
    let behind : drop (length name + 1) (name ++ 0 ∷ rest) ≡ rest = ap (drop (length name + 1)) grouped ∙ drop_at (name ++ 0 ∷ []) rest (length name + 1) size in
    rw (n, lt-ltb (length name) (length (name ++ 0 ∷ rest)) lt, take_at name (0 ∷ rest) (length name) refl, behind) refl

pub record EntriesRead (ks bytes : List ℕ) (es : List Entry) : Type 0 where
  pub text : List ℕ
  pub more : List ℕ
  pub parts : bytes ≡ text ++ more
  pub named : AreNames (map (λ (e : Entry). e.0) es) text
  pub numbered : map (λ (e : Entry). e.1) es ≡ ks

entries_found : (ks bytes : List ℕ) (es : List Entry) → entries_at ks bytes ≡ Ok es → EntriesRead ks bytes es
unfolding entries_at
entries_found [] bytes es e =
    subst (λ (x : List Entry). EntriesRead [] bytes x) (ok_is e) (record { text = []; more = bytes; parts = refl; named = refl; numbered = refl })
entries_found (k ∷ ks) bytes es e =
    let a = bind_ok (or_fault (BadIndex 3) (name_at bytes)) (λ name. entries_at ks name.1 >>= λ others. Ok ((name.0, k) ∷ others)) es e in
    let b = bind_ok (entries_at ks a.0.1) (λ others. Ok ((a.0.0, k) ∷ others)) es a.2 in
    let f = name_found bytes a.0.0 a.0.1 (or_fault_ok (BadIndex 3) (name_at bytes) a.0 a.1) in
    let o = entries_found ks a.0.1 b.0 b.1 in
    subst (λ (x : List Entry). EntriesRead (k ∷ ks) bytes x) (ok_is b.2) (record {
      text = a.0.0 ++ 0 ∷ o.text;
      more = o.more;
      parts = f.0 ∙ ap (λ (x : List ℕ). a.0.0 ++ 0 ∷ x) o.parts ∙ sym (append_assoc a.0.0 (0 ∷ o.text) o.more);
      named = (o.text, refl, f.1, o.named);
      numbered = ap (λ (x : List ℕ). k ∷ x) o.numbered;
    })

entries_again : (es : List Entry) (text more : List ℕ) → AreNames (map (λ (e : Entry). e.0) es) text → entries_at (map (λ (e : Entry). e.1) es) (text ++ more) ≡ Ok es
unfolding entries_at
entries_again [] text more named = refl
entries_again (e ∷ es) text more named =
    let parts : text ++ more ≡ e.0 ++ 0 ∷ (named.0 ++ more) = ap (λ (x : List ℕ). x ++ more) named.1 ∙ append_assoc e.0 (0 ∷ named.0) more in
    rw (parts, name_again e.0 (named.0 ++ more) named.2, entries_again es named.0 more named.3) refl

-- ---- the whole index

pub record IndexRead (places content : List ℕ) (es : List Entry) : Type 0 where
  pub at : List ℕ
  pub spelled : SpellsIndex at (map (λ (e : Entry). e.0) es) content
  pub found : map Some at ≡ map (slice_get places) (map (λ (e : Entry). e.1) es)

pub index_found : (places content : List ℕ) (es : List Entry) → index_at places content ≡ Ok es → IndexRead places content es
unfolding index_at counted_index
index_found places content es e =
    let a = bind_ok (or_fault (BadIndex 1) (word_at content)) (λ count. counted_index places count.0 count.1) es e in
    let n : ℕ = a.0.0 in
    let rest : List ℕ = a.0.1 in
    let g = guard_ok (ltb (length rest) (4 * n)) (BadIndex 1) (numbers_at places n rest >>= λ numbers. entries_at numbers (drop (4 * n) rest)) es a.2 in
    let b = bind_ok (numbers_at places n rest) (λ numbers. entries_at numbers (drop (4 * n) rest)) es g.1 in
    let w = word_found content n rest (or_fault_ok (BadIndex 1) (word_at content) a.0 a.1) in
    let k = numbers_found places n rest b.0 b.1 in
    let behind : drop (4 * n) rest ≡ k.rest = ap (drop (4 * n)) k.parts ∙ drop_at k.words k.rest (4 * n) k.long in
    let o = entries_found b.0 (drop (4 * n) rest) es b.2 in
    let parts : content ≡ w.0 ++ (k.words ++ (o.text ++ o.more)) = w.1 ∙ ap (λ (x : List ℕ). w.0 ++ x) (k.parts ∙ ap (λ (x : List ℕ). k.words ++ x) (sym behind ∙ o.parts)) in
    record {
      at = k.at;
      spelled = record { count = w.0; words = k.words; text = o.text; more = o.more; parts = parts; counted = subst (λ m. SpellsWord m w.0) (sym k.many) w.2; placed = k.placed; named = o.named };
      found = k.found ∙ ap (map (slice_get places)) (sym o.numbered);
    }

pub index_again : (places at content : List ℕ) (es : List Entry) → IsStrictlyIncreasing places → SpellsIndex at (map (λ (e : Entry). e.0) es) content → map Some at ≡ map (slice_get places) (map (λ (e : Entry). e.1) es) → index_at places content ≡ Ok es
unfolding index_at counted_index
index_again places at content es rise s found =
    let rest : List ℕ = s.words ++ (s.text ++ s.more) in
    let n : ℕ = length at in
    let long : length s.words ≡ 4 * n = words_long at s.words s.placed in
    let held : ltb (length rest) (4 * n) ≡ false = le-ltb (length rest) (4 * n) (omega (arith, long, length-append s.words (s.text ++ s.more))) in
    let numbers = numbers_again places at (map (λ (e : Entry). e.1) es) s.words (s.text ++ s.more) rise s.placed found in
    let behind : drop (4 * n) rest ≡ s.text ++ s.more = drop_at s.words (s.text ++ s.more) (4 * n) long in
    rw (s.parts, word_again s.count rest n s.counted, held, numbers, behind, entries_again es s.text s.more s.named) refl
