-- What calls name, symbol by symbol.
use Rattle.std.proofs.Common.{◌≡◌, ℕ, zero, suc, ◌+◌, Bool, true, false, cond, List, [], ◌∷◌, ◌++◌, filter, take, get_or, length, refl, sym, ap, ◌∙◌, arith, length-append, append_assoc}
use Rattle.std.specs.Prelude.{map, flat_map, if◌then◌else◌, slice_get, option_map, Some}
use Rattle.std.proofs.lemmas.Grind.{flat_map-append}
use Rattle.std.proofs.lemmas.Option.{get_or_from_slice_get, slice_get-map}
use Rattle.program_tables.specs.link_program.object_file.declared.object.Object.{Object}
use Rattle.program_tables.specs.link_program.made_symbols.declared.mode.Mode.{Mode}
use Rattle.program_tables.specs.link_program.name_entries.View.{rows_of}
use Rattle.program_tables.specs.Loose.{all_symbols, loosens}
use Rattle.program_tables.proofs.Lists.{at_take}
use Rattle.std.proofs.lemmas.List.{append-nil, length-map, map-append}
use Rattle.std.proofs.lemmas.List.Elements.{filter-append}
use Rattle.program_tables.specs.link_program.name_rules.Entries.{InputSymbol, symbols_of}
use Rattle.loose_calls.specs.declared.variant.Variant.{Variant}
use Rattle.loose_calls.specs.declared.finding.Calls.{Calls}
use Rattle.loose_calls.specs.Found.{variant_seen, called_onto, Grows, AreCalls}

module _ (test : InputSymbol → Bool) where
  called_append : (next at : ℕ) (xs ys : List InputSymbol) → called_onto test next at (xs ++ ys) ≡ called_onto test next at xs ++ called_onto test (next + length (filter test xs)) (at + length xs) ys
  called_append next at [] ys =
      let e : next ≡ next + 0 = omega arith in
      let f : at ≡ at + 0 = omega arith in
      λ i. called_onto test (e i) (f i) ys
  called_append next at (x ∷ xs) ys = by (test x) (called_append (next + 1) (at + 1) xs ys) (called_append next (at + 1) xs ys)
    where
      by : (b : Bool) → called_onto test (next + 1) (at + 1) (xs ++ ys) ≡ called_onto test (next + 1) (at + 1) xs ++ called_onto test (next + 1 + length (filter test xs)) (at + 1 + length xs) ys
          → called_onto test next (at + 1) (xs ++ ys) ≡ called_onto test next (at + 1) xs ++ called_onto test (next + length (filter test xs)) (at + 1 + length xs) ys
          → (if b then next ∷ called_onto test (next + 1) (at + 1) (xs ++ ys) else at ∷ called_onto test next (at + 1) (xs ++ ys))
          ≡ (if b then next ∷ called_onto test (next + 1) (at + 1) xs else at ∷ called_onto test next (at + 1) xs) ++ called_onto test (next + length (cond b (x ∷ filter test xs) (filter test xs))) (at + length (x ∷ xs)) ys
      by true here there =
          let e : next + 1 + length (filter test xs) ≡ next + length (x ∷ filter test xs) = omega arith in
          let f : at + 1 + length xs ≡ at + length (x ∷ xs) = omega arith in
          ap (λ l. next ∷ l) (here ∙ (λ i. called_onto test (next + 1) (at + 1) xs ++ called_onto test (e i) (f i) ys))
      by false here there =
          let f : at + 1 + length xs ≡ at + length (x ∷ xs) = omega arith in
          ap (λ l. at ∷ l) (there ∙ (λ i. called_onto test next (at + 1) xs ++ called_onto test (next + length (filter test xs)) (f i) ys))

  called_length : (next at : ℕ) (xs : List InputSymbol) → length (called_onto test next at xs) ≡ length xs
  called_length next at [] = refl
  called_length next at (x ∷ xs) = by (test x) (called_length (next + 1) (at + 1) xs) (called_length next (at + 1) xs)
    where
      by : (b : Bool) → length (called_onto test (next + 1) (at + 1) xs) ≡ length xs → length (called_onto test next (at + 1) xs) ≡ length xs
          → length (if b then next ∷ called_onto test (next + 1) (at + 1) xs else at ∷ called_onto test next (at + 1) xs) ≡ length (x ∷ xs)
      by true here there = ap suc here
      by false here there = ap suc there

  pub grows_more : (count : ℕ) (xs ys : List InputSymbol) (a b c : Calls) → Grows test count xs a b → Grows test count ys b c → Grows test count (xs ++ ys) a c
  grows_more count xs ys a b c first second =
      let n : ℕ = count + length a.variants in
      let at : ℕ = length a.called in
      let vs : length b.variants ≡ length a.variants + length (filter test xs) =
      ap (λ (l : List Variant). length l) first.variants ∙ length-append a.variants (map variant_seen (filter test xs)) ∙ ap (λ k. length a.variants + k) (length-map (filter test xs) variant_seen) in
      let cs : length b.called ≡ at + length xs = ap (λ (l : List ℕ). length l) first.called ∙ length-append a.called (called_onto test n at xs) ∙ ap (λ k. at + k) (called_length n at xs) in
      let next : count + length b.variants ≡ n + length (filter test xs) = omega (arith, vs) in
      record {
        called = second.called
            ∙ (λ i. first.called i ++ called_onto test (next i) (cs i) ys)
            ∙ append_assoc a.called (called_onto test n at xs) (called_onto test (n + length (filter test xs)) (at + length xs) ys)
            ∙ ap (λ l. a.called ++ l) (sym (called_append n at xs ys));
        variants = second.variants
            ∙ ap (λ l. l ++ map variant_seen (filter test ys)) first.variants
            ∙ append_assoc a.variants (map variant_seen (filter test xs)) (map variant_seen (filter test ys))
            ∙ ap (λ l. a.variants ++ l) (sym (map-append variant_seen (filter test xs) (filter test ys)) ∙ ap (map variant_seen) (sym (filter-append test xs ys)));
      }

  pub grown_by : (count : ℕ) (e : InputSymbol) (loose : Bool) (a b : Calls) → loose ≡ test e → Grows (λ e. loose) count (e ∷ []) a b → Grows test count (e ∷ []) a b
  grown_by count e loose a b is g = record {
    called = g.called ∙ ap (λ t. a.called ++ (if t then (count + length a.variants) ∷ [] else length a.called ∷ [])) is;
    variants = g.variants ∙ ap (λ t. a.variants ++ map variant_seen (cond t (e ∷ []) [])) is;
  }

  pub grows_none : (count : ℕ) (a : Calls) → Grows test count [] a a
  grows_none count a = record { called = sym (append-nil a.called); variants = sym (append-nil a.variants) }

  pub grows_empty : (count : ℕ) (called : List ℕ) (variants : List Variant) → called ≡ [] → variants ≡ [] → Grows test count [] (record { called = []; variants = [] }) (record { called = called; variants = variants })
  grows_empty count called variants no_call no_variant = record { called = no_call; variants = no_variant }

  -- ---- what is called in place of a symbol

  pub called_itself : (next at n : ℕ) (es : List InputSymbol) (e : InputSymbol) → slice_get es n ≡ Some e → test e ≡ false → slice_get (called_onto test next at es) n ≡ Some (at + n)
  called_itself next at n [] e there not = absurd cc
  called_itself next at zero (x ∷ es) e there not =
      let same : x ≡ e = cc in
      let z : at ≡ at + 0 = omega arith in
      ap (λ b. slice_get (if b then next ∷ called_onto test (next + 1) (at + 1) es else at ∷ called_onto test next (at + 1) es) 0) (ap test same ∙ not) ∙ ap Some z
  called_itself next at (suc n) (x ∷ es) e there not = by (test x) (called_itself (next + 1) (at + 1) n es e there not) (called_itself next (at + 1) n es e there not)
    where
      z : at + 1 + n ≡ at + suc n
      z = omega arith

      by : (b : Bool) → slice_get (called_onto test (next + 1) (at + 1) es) n ≡ Some (at + 1 + n) → slice_get (called_onto test next (at + 1) es) n ≡ Some (at + 1 + n)
          → slice_get (if b then next ∷ called_onto test (next + 1) (at + 1) es else at ∷ called_onto test next (at + 1) es) (suc n) ≡ Some (at + suc n)
      by true here there = here ∙ ap Some z
      by false here there = there ∙ ap Some z

  pub called_other : (next at n : ℕ) (es : List InputSymbol) (e : InputSymbol) → slice_get es n ≡ Some e → test e ≡ true
      → (j : ℕ) × (slice_get (called_onto test next at es) n ≡ Some (next + j)) × (slice_get (filter test es) j ≡ Some e)
  called_other next at n [] e there is = absurd cc
  called_other next at zero (x ∷ es) e there is =
      let same : x ≡ e = cc in
      let one : test x ≡ true = ap test same ∙ is in
      let z : next ≡ next + 0 = omega arith in (
        0,
        ap (λ b. slice_get (if b then next ∷ called_onto test (next + 1) (at + 1) es else at ∷ called_onto test next (at + 1) es) 0) one ∙ ap Some z,
        ap (λ b. slice_get (cond b (x ∷ filter test es) (filter test es)) 0) one ∙ ap Some same,
      )
  called_other next at (suc n) (x ∷ es) e there is = by (test x) (called_other (next + 1) (at + 1) n es e there is) (called_other next (at + 1) n es e there is)
    where
      by : (b : Bool) → (j : ℕ) × (slice_get (called_onto test (next + 1) (at + 1) es) n ≡ Some (next + 1 + j)) × (slice_get (filter test es) j ≡ Some e)
          → (j : ℕ) × (slice_get (called_onto test next (at + 1) es) n ≡ Some (next + j)) × (slice_get (filter test es) j ≡ Some e)
          → (j : ℕ) × (slice_get (if b then next ∷ called_onto test (next + 1) (at + 1) es else at ∷ called_onto test next (at + 1) es) (suc n) ≡ Some (next + j))
          × (slice_get (cond b (x ∷ filter test es) (filter test es)) j ≡ Some e)
      by true here there = let z : next + 1 + here.0 ≡ next + suc here.0 = omega arith in (suc here.0, here.1 ∙ ap Some z, here.2)
      by false here there = there

-- ---- objects in turn

pub flat_one : {A B : Type 0} (f : A → List B) (xs : List A) (i : ℕ) (x : A) → slice_get xs i ≡ Some x → flat_map f (take (i + 1) xs) ≡ flat_map f (take i xs) ++ f x
flat_one f xs i x at = ap (flat_map f) (at_take xs i x at) ∙ flat_map-append f (take i xs) (x ∷ []) ∙ ap (λ l. flat_map f (take i xs) ++ l) (append-nil (f x))

pub row_at_place : (objects : List Object) (i : ℕ) (o : Object) → slice_get objects i ≡ Some o → get_or (rows_of objects) i [] ≡ symbols_of objects o
row_at_place objects i o at = get_or_from_slice_get (rows_of objects) i (symbols_of objects o) [] (slice_get-map (symbols_of objects) objects i ∙ ap (option_map (symbols_of objects)) at)

pub are_calls : (mode : Mode) (allow : Bool) (objects : List Object) (count : ℕ) (c : Calls) → count ≡ length (all_symbols objects)
    → Grows (loosens mode true allow objects) count (all_symbols objects) (record { called = []; variants = [] }) c → AreCalls mode allow objects c
are_calls mode allow objects count c is g =
    let z : count + 0 ≡ length (all_symbols objects) = omega (arith, is) in
    record { called = g.called ∙ ap (λ n. called_onto (loosens mode true allow objects) n 0 (all_symbols objects)) z; variants = g.variants }
