-- The index gives for each name the number of its member: the place that it tells is that of this member's header.
use Rattle.std.proofs.Common.{◌≡◌, ℕ, ◌+◌, ◌<◌, ◌≤◌, List, [], ◌∷◌, ◌++◌, length, Some, refl, sym, ap, ◌∙◌, arith, append_assoc}
use Rattle.std.specs.Prelude.{All, map, slice_get}
use Rattle.std.specs.List.{flat_map}
use Rattle.std.proofs.lemmas.Grind.{flat_map-append}
use Rattle.std.proofs.lemmas.List.{length-append, map-append}
use Rattle.std.proofs.lemmas.List.Elements.{All-nil, All-cons, All-head, All-tail, All-append}
use Rattle.wl_base.specs.declared.span.Span.{Span}
use Rattle.library_indexer.specs.Indexed.{header_of, names_in, text_in, places_in, ended}
use Rattle.library_indexer.specs.Completed.{numbered}

abbrev Entry : Type 0
Entry = List ℕ × ℕ

-- ---- their names

firsts : (number : ℕ) (names : List (List ℕ)) → map (λ (e : Entry). e.0) (map (λ name. (name, number)) names) ≡ names
firsts number [] = refl
firsts number (name ∷ names) = ap (λ (ns : List (List ℕ)). name ∷ ns) (firsts number names)

pub names_are : (bytes : List ℕ) (number : ℕ) (ms : List Span) → map (λ (e : Entry). e.0) (numbered bytes number ms) ≡ flat_map (names_in bytes) ms
names_are bytes number [] = refl
names_are bytes number (m ∷ ms) =
    map-append (λ (e : Entry). e.0) (map (λ name. (name, number)) (names_in bytes m)) (numbered bytes (number + 1) ms)
    ∙ ap (λ (ns : List (List ℕ)). ns ++ map (λ (e : Entry). e.0) (numbered bytes (number + 1) ms)) (firsts number (names_in bytes m))
    ∙ ap (λ (ns : List (List ℕ)). names_in bytes m ++ ns) (names_are bytes (number + 1) ms)

-- ---- their members

-- The header's place with an index.
abbrev pub moved_header : ℕ → Span → ℕ
moved_header by m = header_of m + by

at_number : (by : ℕ) (front : List Span) (m : Span) (ms : List Span) → slice_get (map (moved_header by) (front ++ m ∷ ms)) (length front) ≡ Some (moved_header by m)
at_number by [] m ms = refl
at_number by (x ∷ front) m ms = at_number by front m ms

each_name : (headers : List ℕ) (place number by : ℕ) (names : List (List ℕ)) → slice_get headers number ≡ Some (place + by)
    → map Some (map (λ p. p + by) (map (λ name. place) names)) ≡ map (slice_get headers) (map (λ (e : Entry). e.1) (map (λ name. (name, number)) names))
each_name headers place number by [] at = refl
each_name headers place number by (name ∷ names) at = rw at (ap (λ xs. Some (place + by) ∷ xs) (each_name headers place number by names at))

next_front : (front : List Span) (m : Span) → length (front ++ m ∷ []) ≡ length front + 1
next_front front m = omega (arith, length-append front (m ∷ []))

pub places_are : (bytes : List ℕ) (by : ℕ) (front ms : List Span) → map Some (map (λ p. p + by) (flat_map (places_in bytes) ms))
    ≡ map (slice_get (map (moved_header by) (front ++ ms))) (map (λ (e : Entry). e.1) (numbered bytes (length front) ms))
places_are bytes by front [] = refl
places_are bytes by front (m ∷ ms) =
    let here : List ℕ = places_in bytes m in
    let later : List ℕ = flat_map (places_in bytes) ms in
    let headers : List ℕ = map (moved_header by) (front ++ m ∷ ms) in
    let mine : List Entry = map (λ name. (name, length front)) (names_in bytes m) in
    let others : List Entry = numbered bytes (length front + 1) ms in
    let first = each_name headers (header_of m) (length front) by (names_in bytes m) (at_number by front m ms) in
    let again = places_are bytes by (front ++ m ∷ []) ms in
    let headers_are : map (moved_header by) ((front ++ m ∷ []) ++ ms) ≡ headers = ap (map (moved_header by)) (append_assoc front (m ∷ []) ms) in
    let behind : map Some (map (λ p. p + by) later) ≡ map (slice_get headers) (map (λ (e : Entry). e.1) others)
    = again ∙ ap (λ (hs : List ℕ). map (slice_get hs) (map (λ (e : Entry). e.1) (numbered bytes (length (front ++ m ∷ [])) ms))) headers_are
    ∙ ap (λ k. map (slice_get headers) (map (λ (e : Entry). e.1) (numbered bytes k ms))) (next_front front m) in
    ap (map Some) (map-append (λ p. p + by) here later) ∙ map-append Some (map (λ p. p + by) here) (map (λ p. p + by) later)
    ∙ (λ i. first i ++ behind i)
    ∙ sym (ap (map (slice_get headers)) (map-append (λ (e : Entry). e.1) mine others) ∙ map-append (slice_get headers) (map (λ (e : Entry). e.1) mine) (map (λ (e : Entry). e.1) others))

-- ---- how far the places reach

all_one : (place bound : ℕ) → place < bound → (names : List (List ℕ)) → All (λ p. p < bound) (map (λ name. place) names)
all_one place bound low [] = All-nil (λ p. p < bound)
all_one place bound low (name ∷ names) = All-cons (λ p. p < bound) place (map (λ name. place) names) low (all_one place bound low names)

abbrev pub EndsIn : ℕ → Span → Type 0
EndsIn end m = m.start + m.len ≤ end

pub places_lie : (bytes : List ℕ) (end bound : ℕ) → end < bound → (ms : List Span) → All (EndsIn end) ms → All (λ p. p < bound) (flat_map (places_in bytes) ms)
places_lie bytes end bound low [] lie = All-nil (λ p. p < bound)
places_lie bytes end bound low (m ∷ ms) lie =
    let mine : m.start + m.len ≤ end = All-head (EndsIn end) m ms lie in
    All-append (λ p. p < bound) (places_in bytes m) (flat_map (places_in bytes) ms)
    (all_one (header_of m) bound (omega (arith, low, mine)) (names_in bytes m)) (places_lie bytes end bound low ms (All-tail (EndsIn end) m ms lie))

-- ---- the text

pub text_is : (bytes : List ℕ) (ms : List Span) → flat_map ended (flat_map (names_in bytes) ms) ≡ flat_map (text_in bytes) ms
text_is bytes [] = refl
text_is bytes (m ∷ ms) = flat_map-append ended (names_in bytes m) (flat_map (names_in bytes) ms) ∙ ap (λ (t : List ℕ). text_in bytes m ++ t) (text_is bytes ms)
