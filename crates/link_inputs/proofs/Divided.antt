-- Objects that are read part by part.
use Rattle.std.proofs.Common.{◌≡◌, ◌∙◌, ◌+◌, ◌-◌, ◌<◌, ◌≤◌, ℕ, zero, suc, List, [], ◌∷◌, ◌++◌, length, take, drop, Some, Result, refl, sym, ap, subst, arith}
use Rattle.std.specs.Prelude.{slice_get, slice_set, slice_range}
use Rattle.std.proofs.Math.Seq.{take-add, take-length}
use Rattle.std.proofs.lemmas.List.{drop-drop, take_more_set}
use Rattle.link_program.specs.wl_fan.Slices.{Works}
use Rattle.link_program.proofs.wl_fan_lemmas.Whole.{whole}
use Rattle.link_program.specs.round_rules.declared.given.GivenObject.{GivenObject}
use Rattle.link_inputs.specs.declared.numbering.ObjectFile.{ObjectFile}
use Rattle.link_inputs.specs.declared.reading.ReadError.{ReadError}
use Rattle.link_inputs.specs.Parts.{first_of}
use Rattle.link_inputs.specs.PartLaws.{first_rises, first_all, first_none}
use Rattle.link_inputs.specs.Reading.{Reads, given_of, AreRead}

abbrev Slot : Type 0
Slot = Result GivenObject ReadError

-- ---- ranges

range_append : {X : Type 0} (xs : List X) (i j k : ℕ) → i ≤ j → j ≤ k → slice_range xs i k ≡ slice_range xs i j ++ slice_range xs j k
range_append xs i j k a b =
    let count : k - i ≡ j - i + (k - j) = omega (arith, a, b) in
    let place : i + (j - i) ≡ j = omega (arith, a) in
    ap (λ (n : ℕ). take n (drop i xs)) count ∙ (take-add (j - i) (k - j) (drop i xs)
    ∙ ap (λ rest. take (j - i) (drop i xs) ++ take (k - j) rest) (drop-drop (j - i) i xs ∙ ap (λ (n : ℕ). drop n xs) place))

one_of : {X : Type 0} (xs : List X) (i : ℕ) (x : X) → slice_get xs i ≡ Some x → take (suc zero) (drop i xs) ≡ x ∷ []
one_of [] i x e = absurd cc
one_of (y ∷ ys) zero x e = let s : y ≡ x = cc in rw s refl
one_of (y ∷ ys) (suc i) x e = one_of ys i x e

range_one : {X : Type 0} (xs : List X) (i : ℕ) (x : X) → slice_get xs i ≡ Some x → slice_range xs i (i + 1) ≡ x ∷ []
range_one {X} xs i x e =
    let n : i + 1 - i ≡ suc zero = omega arith in
    ap (λ (k : ℕ). take k (drop i xs)) n ∙ one_of xs i x e

range_none : {X : Type 0} (xs : List X) (i : ℕ) → slice_range xs i (i + 0) ≡ []
range_none xs i = let none : i + 0 - i ≡ 0 = omega arith in ap (λ (n : ℕ). take n (drop i xs)) none

range_all : {X : Type 0} (xs : List X) → slice_range xs 0 (length xs) ≡ xs
range_all xs = let all : length xs - 0 ≡ length xs = omega arith in ap (λ (n : ℕ). take n xs) all ∙ take-length xs

-- ---- slots

module _ (files : List (List ℕ)) where
  read_both : (os ps : List ObjectFile) (ss ts : List Slot) → AreRead files os ss → AreRead files ps ts → AreRead files (os ++ ps) (ss ++ ts)
  read_both [] ps [] ts a b = b
  read_both [] ps (s ∷ ss) ts a b = absurd a
  read_both (o ∷ os) ps [] ts a b = absurd a
  read_both (o ∷ os) ps (s ∷ ss) ts a b = (a.0, read_both os ps ss ts a.1 b)

  module _ (objects : List ObjectFile) where
    -- no object of a part is read yet
    pub begun : (from : ℕ) (items : List Slot) → AreRead files (slice_range objects from (from + 0)) (take 0 items)
    begun from items = subst (λ (os : List ObjectFile). AreRead files os []) (sym (range_none objects from)) tt

    -- one more is read
    pub one_more : (from at : ℕ) (items : List Slot) (o : ObjectFile) (s : Slot) → at < length items → slice_get objects (from + at) ≡ Some o
        → Reads s (given_of files o) → AreRead files (slice_range objects from (from + at)) (take at items)
        → AreRead files (slice_range objects from (from + (at + 1))) (take (at + 1) (slice_set items at s))
    one_more from at items o s lt is reads so_far =
        let n : from + at + 1 ≡ from + (at + 1) = omega arith in
        let os : slice_range objects from (from + (at + 1)) ≡ slice_range objects from (from + at) ++ (o ∷ []) =
        ap (λ (k : ℕ). slice_range objects from k) (sym n) ∙ range_append objects from (from + at) (from + at + 1) (omega arith) (omega arith)
        ∙ ap (λ (xs : List ObjectFile). slice_range objects from (from + at) ++ xs) (range_one objects (from + at) o is) in
        subst (λ (xs : List ObjectFile). AreRead files xs (take (at + 1) (slice_set items at s))) (sym os)
        (subst (AreRead files (slice_range objects from (from + at) ++ (o ∷ []))) (sym (take_more_set items at s lt))
        (read_both (slice_range objects from (from + at)) (o ∷ []) (take at items) (s ∷ []) so_far (reads, tt)))

    -- the whole part is read
    pub part_read : (from to at : ℕ) (items : List Slot) → at ≡ length items → length items ≡ to - from → from ≤ to
        → AreRead files (slice_range objects from (from + at)) (take at items) → AreRead files (slice_range objects from to) items
    part_read from to at items all long le so_far =
        let n : from + at ≡ to = omega (arith, all, long, le) in
        subst (AreRead files (slice_range objects from to)) (ap (λ (k : ℕ). take k items) all ∙ take-length items)
        (subst (λ (k : ℕ). AreRead files (slice_range objects from k) (take at items)) n so_far)

    module _ (parts : ℕ) where
      abbrev cut : ℕ → ℕ
      cut = first_of (length objects) parts

      abbrev Worked : ℕ → List Slot → List Slot → Type 0
      Worked part old new = AreRead files (slice_range objects (cut part) (cut (part + 1))) new

      abbrev Run : ℕ → ℕ → List Slot → List Slot → Type 0
      Run p q old new = (p ≤ q) × AreRead files (slice_range objects (cut p) (cut q)) new

      one : (k : ℕ) (xs ys : List Slot) → Worked k xs ys → Run k (k + 1) xs ys
      one k xs ys r = (omega arith, r)

      both : (p q r : ℕ) (xs xs' ys ys' : List Slot) → length xs ≡ cut q - cut p → length ys ≡ cut r - cut q → Run p q xs xs' → Run q r ys ys'
          → Run p r (xs ++ ys) (xs' ++ ys')
      both p q r xs xs' ys ys' a b front back = (
        omega (arith, front.0, back.0),
        subst (λ (os : List ObjectFile). AreRead files os (xs' ++ ys'))
            (sym (range_append objects (cut p) (cut q) (cut r) (first_rises (length objects) parts p q front.0) (first_rises (length objects) parts q r back.0)))
            (read_both (slice_range objects (cut p) (cut q)) (slice_range objects (cut q) (cut r)) xs' ys' front.1 back.1),
      )

      -- the slots of all parts are those of all objects
      pub room : 1 ≤ parts → (old : List Slot) → length old ≡ length objects → length old ≡ cut (0 + parts) - cut 0
      room some old long =
          let all : cut parts ≡ length objects = first_all (length objects) parts some in
          let none : cut 0 ≡ 0 = first_none (length objects) parts in
          let sum : 0 + parts ≡ parts = omega arith in
          long ∙ omega (arith, all, none, ap cut sum)

      pub all_read : 1 ≤ parts → (old new : List Slot) → length old ≡ length objects → length new ≡ length old → Works Worked cut 0 parts old new
          → AreRead files objects new
      all_read some old new long same works =
          let width : ℕ = parts - 1 in
          let count : width + 1 ≡ parts = omega (arith, some) in
          let rises : (p q : ℕ) → p ≤ q → q ≤ 0 + (width + 1) → cut p ≤ cut q = λ p q le top. first_rises (length objects) parts p q le in
          let size : length old ≡ cut (0 + (width + 1)) - cut 0 =
          room some old long ∙ ap (λ (n : ℕ). cut (0 + n) - cut 0) (sym count) in
          let done = whole cut Worked Run one both 0 width rises old new size same (subst (λ n. Works Worked cut 0 n old new) (sym count) works) in
          let end : cut (0 + (width + 1)) ≡ length objects =
          (let sum : 0 + (width + 1) ≡ parts = omega (arith, count) in ap cut sum ∙ first_all (length objects) parts some) in
          subst (λ (os : List ObjectFile). AreRead files os new) (range_all objects)
          (subst (λ (n : ℕ). AreRead files (slice_range objects 0 n) new) end
          (subst (λ (k : ℕ). AreRead files (slice_range objects k (cut (0 + (width + 1)))) new) (first_none (length objects) parts) done.1))

-- a list that is written back whole
pub whole_back : {X : Type 0} (n : ℕ) (new rest : List X) → n ≡ length new → take n (new ++ rest) ≡ new
whole_back zero [] rest e = refl
whole_back (suc n) [] rest e = absurd (omega (arith, e))
whole_back zero (x ∷ new) rest e = absurd (omega (arith, e))
whole_back {X} (suc n) (x ∷ new) rest e = ap (λ (xs : List X). let ys : List X = x ∷ xs in ys) (whole_back n new rest (omega (arith, e)))
