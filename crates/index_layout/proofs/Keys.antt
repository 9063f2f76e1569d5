-- Keys that differ.
use Rattle.std.proofs.Common.{◌≡◌, ℕ, ◌+◌, ◌<◌, List, [], ◌∷◌, ◌++◌, Bool, false, refl, sym, arith, length, take, nat_eq, suc}
use Rattle.std.specs.List.{list_any}
use Rattle.std.specs.Prelude.{slice_index}
use Rattle.std.proofs.lemmas.List.{get_or-take, take_more, length-append, length-take-le, get_or_append_left, get_or-append-add}
use Rattle.std.proofs.lemmas.Bool.{ne_eqb}
use Rattle.indexmap.specs.IndexSet.{insert_key}
use Rattle.index_layout.specs.Numbers.{AllDiffer}

none_passes : (p : ℕ → Bool) (xs : List ℕ) → ((k : ℕ) → k < length xs → p (slice_index xs k) ≡ false) → list_any p xs ≡ false
none_passes p [] none = refl
none_passes p (x ∷ xs) none = rw (none 0 (omega arith)) (none_passes p xs (λ k below. none (suc k) (omega arith)))

-- the next key goes behind those before it
next_key : (all : List ℕ) (i : ℕ) → AllDiffer all → i < length all → insert_key nat_eq (take i all) (slice_index all i) ≡ take (i + 1) all
next_key all i differ below =
    let none = none_passes (nat_eq (slice_index all i)) (take i all) (λ k inside.
    let lower : k < i = omega (arith, length-take-le i all) in
    rw (get_or-take i all k 0 lower) (ne_eqb (slice_index all i) (slice_index all k) (λ same. differ k i lower below (sym same)))) in
    rw none (sym (take_more all i 0 below))

module _ (imports defined ks : List ℕ) (i : ℕ) (differ : AllDiffer (imports ++ defined)) where
  pub next_import : ks ≡ take i (imports ++ defined) → i < length imports
      → insert_key nat_eq ks (slice_index imports i) ≡ take (i + 1) (imports ++ defined)
  next_import held below =
      let inside : i < length (imports ++ defined) = omega (arith, length-append imports defined) in
      rw (held, ← get_or_append_left imports defined 0 i below) (next_key (imports ++ defined) i differ inside)

  pub next_defined : ks ≡ take (length imports + i) (imports ++ defined) → i < length defined
      → insert_key nat_eq ks (slice_index defined i) ≡ take (length imports + (i + 1)) (imports ++ defined)
  next_defined held below =
      let inside : length imports + i < length (imports ++ defined) = omega (arith, length-append imports defined) in
      let sum : length imports + (i + 1) ≡ length imports + i + 1 = omega arith in
      rw (held, sum, ← get_or-append-add imports defined i 0) (next_key (imports ++ defined) (length imports + i) differ inside)
