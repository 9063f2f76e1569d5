-- The live chunks by their numbers.
use Rattle.std.proofs.Common.{◌≡◌, ℕ, suc, zero, ◌+◌, ◌<◌, cond, List, [], ◌∷◌, length, get_or, drop, map, slice_get, Option, Some, None, refl, sym, ap, ◌∙◌, arith, add-one, subst}
use Rattle.std.specs.Prelude.{◌==◌}
use Rattle.std.specs.List.{flat_map, range_with_len, fold}
use Rattle.std.specs.Option.{option_and_then}
use Rattle.std.specs.List.Sorted.{IsStrictlyIncreasing}
use Rattle.name_meanings.specs.name_entries.object_file.declared.object.Object.{Object}
use Rattle.mark_bits.specs.declared.chunk.Chunk.{Chunk}
use Rattle.mark_bits.specs.Words.{bit_of}
use Rattle.name_meanings.specs.name_entries.View.{InputsRise}
use Rattle.name_unresolved.specs.declared.search.Search.{Search}
use Rattle.std.proofs.lemmas.List.FromFn.{get_or-range_with_len, length-range_with_len}
use Rattle.name_unresolved.specs.Refers.{SymbolAt, open_inits, refers}
use Rattle.name_unresolved.specs.Least.{lesser, least_by}
use Rattle.name_unresolved.specs.Unresolved.{is_open, live_from, first_unresolved_of}
use Rattle.name_unresolved.specs.Search.{opened, least_open, rows_of, chunk_least, number_least}
use Rattle.name_unresolved.proofs.Least.{filter_is, flat_map_is, fold_is, by_number, goes_on, ends}

pub inits_together : (s : Search)
    → least_by (λ o. least_open (rows_of s) (open_inits o)) s.objects.now ≡ least_open (rows_of s) (flat_map open_inits s.objects.now)
inits_together s = sym (flat_map_is (opened (rows_of s)) open_inits s.objects.now)

-- `__wasm_call_ctors` refers to the init functions
pub ctors_refer : (s : Search) (c : Chunk) → c.input ≡ 0 → c.kind ≡ 0 → c.index ≡ 0
    → least_by (λ o. least_open (rows_of s) (open_inits o)) s.objects.now ≡ chunk_least s c
ctors_refer s c input kind index = inits_together s ∙ ap (least_open (rows_of s)) (rw (input, kind, index) refl)

pub numbers_are : (s : Search) → fold lesser None (map (number_least s) (range_with_len 0 (length s.chunks.now)))
    ≡ first_unresolved_of s.objects.now (rows_of s) s.live.now.words s.chunks.now
unfolding first_unresolved_of
numbers_are s =
    let words = s.live.now.words in
    let chunks = s.chunks.now in
    fold_is (number_least s) (range_with_len 0 (length chunks))
    ∙ by_number (λ k. bit_of words k == 1) (chunk_least s) (live_from words) (λ a. refl) (λ a x xs. refl) (number_least s) chunks 0
    (λ i below. ap (λ k. cond (bit_of words (0 + i) == 1) (option_and_then (chunk_least s) (slice_get chunks k)) None) (omega arith))
    ∙ sym (filter_is Some (is_open (rows_of s)) (flat_map (refers s.objects.now) (live_from words 0 chunks))
    ∙ flat_map_is (opened (rows_of s)) (refers s.objects.now) (live_from words 0 chunks))

-- inputs that rise
module _ where
  rising_from : (last : ℕ) (os : List Object) → InputsRise last os → (k : ℕ) → suc k < length (map (λ (o : Object). o.input) os)
      → get_or (map (λ (o : Object). o.input) os) k 0 < get_or (map (λ (o : Object). o.input) os) (suc k) 0
  rising_from last [] h k lt = absurd (omega arith)
  rising_from last (o ∷ []) h k lt = absurd (omega arith)
  rising_from last (o ∷ p ∷ os) h zero lt = h.2.0
  rising_from last (o ∷ p ∷ os) h (suc k) lt = rising_from o.input (p ∷ os) h.2 k (omega arith)

  pub inputs_increase : (os : List Object) → InputsRise 0 os → IsStrictlyIncreasing (map (λ (o : Object). o.input) os)
  inputs_increase os h k lt =
      let xs = map (λ (o : Object). o.input) os in
      subst (λ j. get_or xs k 0 < get_or xs j 0) (sym (add-one k)) (rising_from 0 os h k (omega (arith, lt)))

-- the numbers one after the other
pub numbers_go_on : (s : Search) (k : ℕ) (so_far next whole : Option SymbolAt) → k < length s.chunks.now → next ≡ lesser so_far (number_least s k)
    → lesser so_far (least_by (number_least s) (drop k (range_with_len 0 (length s.chunks.now)))) ≡ whole
    → lesser next (least_by (number_least s) (drop (k + 1) (range_with_len 0 (length s.chunks.now)))) ≡ whole
numbers_go_on s k so_far next whole below is all =
    let n = length s.chunks.now in
    let at : get_or (range_with_len 0 n) k 0 ≡ k = get_or-range_with_len 0 n k 0 below ∙ omega arith in
    goes_on (number_least s) (range_with_len 0 n) k 0 so_far next whole (subst (λ m. k < m) (sym (length-range_with_len 0 n)) below) (is ∙ ap (λ m. lesser so_far (number_least s m)) (sym at)) all

pub numbers_end : (s : Search) (k : ℕ) (so_far : Option SymbolAt) → k ≡ length s.chunks.now
    → lesser so_far (least_by (number_least s) (drop k (range_with_len 0 (length s.chunks.now)))) ≡ least_by (number_least s) (range_with_len 0 (length s.chunks.now))
    → so_far ≡ first_unresolved_of s.objects.now (rows_of s) s.live.now.words s.chunks.now
numbers_end s k so_far end all =
    let n = length s.chunks.now in
    ends (number_least s) (range_with_len 0 n) k so_far (least_by (number_least s) (range_with_len 0 n)) (end ∙ sym (length-range_with_len 0 n)) all
    ∙ sym (fold_is (number_least s) (range_with_len 0 n)) ∙ numbers_are s
