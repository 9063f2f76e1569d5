-- Numbers of chunks are their places in the table.
use Rattle.std.proofs.Common.{◌≡◌, ◌≢◌, ℕ, ◌<◌, ◌==◌, ◌&&◌, Bool, true, false, List, [], length, get_or, slice_get, Option, Some, None, refl, sym, ap, ◌∙◌, subst, arith, position, eq-eqb, eqb-true, lt-ltb, le-ltb, nat_lt, cond}
use Rattle.std.specs.List.{position_or_len}
use Rattle.std.proofs.lemmas.Bool.{false_from_ne_true, and_parts, and_from}
use Rattle.std.proofs.lemmas.List.Sums.{position_or_len_is}
use Rattle.std.proofs.lemmas.Option.{slice_get_within, slice_get-get_or, get_or_from_slice_get}
use Rattle.mark_bits.specs.declared.chunk.Chunk.{Chunk}
use Rattle.mark_bits.specs.Chunks.{Lacks}
use Rattle.link_rules.specs.Program.{same_chunk}

pub chunk_is : (a b : Chunk) → same_chunk a b ≡ true → a ≡ b
chunk_is a b h =
    let both = and_parts ((a.input == b.input) && (a.kind == b.kind)) (a.index == b.index) h in
    let rest = and_parts (a.input == b.input) (a.kind == b.kind) both.0 in
    let input : a.input ≡ b.input = eqb-true a.input b.input rest.0 in
    let kind : a.kind ≡ b.kind = eqb-true a.kind b.kind rest.1 in
    let index : a.index ≡ b.index = eqb-true a.index b.index both.1 in
    λ i. record { input = input i; kind = kind i; index = index i }

pub chunk_itself : (a : Chunk) → same_chunk a a ≡ true
chunk_itself a =
    and_from ((a.input == a.input) && (a.kind == a.kind)) (a.index == a.index)
    (and_from (a.input == a.input) (a.kind == a.kind) (eq-eqb a.input a.input refl) (eq-eqb a.kind a.kind refl)) (eq-eqb a.index a.index refl)

place_of : {A : Type 0} (p : A → Bool) (xs : List A) (n : ℕ) → position_or_len p xs ≡ n → n < length xs → position p xs ≡ Some n
place_of p xs n is lt = ap (λ k. cond (nat_lt k (length xs)) (Some k) None) is ∙ ap (λ b. cond b (Some n) None) (lt-ltb n (length xs) lt)

place_past : {A : Type 0} (p : A → Bool) (xs : List A) → position_or_len p xs ≡ length xs → position p xs ≡ None
place_past p xs is = ap (λ k. cond (nat_lt k (length xs)) (Some k) None) is ∙ ap (λ b. cond b (Some (length xs)) None) (le-ltb (length xs) (length xs) (omega arith))

pub stands_at : (table : List Chunk) (c : Chunk) (n : ℕ) → slice_get table n ≡ Some c → ((k : ℕ) → slice_get table k ≡ Some c → k ≡ n) → position (same_chunk c) table ≡ Some n
stands_at table c n at only =
    let inside = slice_get_within table n c at in
    place_of (same_chunk c) table n (position_or_len_is (same_chunk c) table n c (omega (arith, inside))
    (λ k below. false_from_ne_true (same_chunk c (get_or table k c)) (λ h.
    let e : k ≡ n = only k (slice_get-get_or table k c (omega (arith, below, inside)) ∙ ap Some (sym (chunk_is c (get_or table k c) h))) in
    omega (arith, e, below)))
    (λ _. ap (same_chunk c) (get_or_from_slice_get table n c c at) ∙ chunk_itself c)) inside

pub stands_nowhere : (table : List Chunk) (c : Chunk) → Lacks table c → position (same_chunk c) table ≡ None
stands_nowhere table c none =
    place_past (same_chunk c) table (position_or_len_is (same_chunk c) table (length table) c (omega arith)
    (λ k below. false_from_ne_true (same_chunk c (get_or table k c)) (λ h.
    none k (slice_get-get_or table k c below ∙ ap Some (sym (chunk_is c (get_or table k c) h)))))
    (λ lt. absurd (omega (arith, lt))))
