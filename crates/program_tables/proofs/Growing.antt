-- Parts grow, and their chunks differ.
use Rattle.std.proofs.Common.{◌≡◌, ◌⊎◌, ℕ, zero, suc, ◌+◌, ◌^◌, ◌<◌, ◌≤◌, Bool, ◌∙◌, List, [], ◌∷◌, ◌++◌, refl, ap, sym, subst, arith, Option, Some, None, length, length-take-le, get_or, take, inl, inr}
use Rattle.std.specs.Prelude.{slice_get, map, filter}
use Rattle.std.proofs.lemmas.List.{map-append, take_more}
use Rattle.std.proofs.lemmas.List.Elements.{All-append, All-cons, All-nil, filter-append}
use Rattle.std.proofs.lemmas.Option.{same_Some, slice_get_within, get_or_from_slice_get}
use Rattle.link_program.specs.mark_bits.declared.chunk.Chunk.{Chunk}
use Rattle.link_program.specs.mark_bits.Chunks.{Differ, Lacks}
use Rattle.link_program.specs.made_symbols.Made.{MadeSymbol}
use Rattle.link_program.specs.link_rules.Program.{indexed, option_onto}
use Rattle.link_program.specs.declared.named.Named.{Named}
use Rattle.program_tables.specs.declared.pieces.Piece.{Piece}
use Rattle.program_tables.specs.Rows.{Row, made_row, made_rows}
use Rattle.program_tables.specs.Gains.{AreGained, Gains}
use Rattle.program_tables.proofs.Lists.{at_take, indexed_append}

-- ---- chunks

last_or : (cs : List Chunk) (c : Chunk) (j : ℕ) (x : Chunk) → slice_get (cs ++ c ∷ []) j ≡ Some x → (slice_get cs j ≡ Some x) ⊎ ((j ≡ length cs) × (x ≡ c))
last_or [] c zero x at = inr (refl, sym (same_Some c x at))
last_or [] c (suc j) x at = absurd (let lt = slice_get_within [] j x at in omega arith)
last_or (y ∷ cs) c zero x at = inl at
last_or (y ∷ cs) c (suc j) x at = elim (last_or cs c j x at) [ inl here ↦ inl here | inr last ↦ inr (ap suc last.0, last.1) ]

pub differ_more : (cs : List Chunk) (c : Chunk) → Differ cs → Lacks cs c → Differ (cs ++ c ∷ [])
differ_more cs c differ lack j k x at_j at_k = by (last_or cs c j x at_j) (last_or cs c k x at_k)
  where
    by : (slice_get cs j ≡ Some x) ⊎ ((j ≡ length cs) × (x ≡ c)) → (slice_get cs k ≡ Some x) ⊎ ((k ≡ length cs) × (x ≡ c)) → j ≡ k
    by (inl a) (inl b) = differ j k x a b
    by (inl a) (inr b) = absurd (lack j (a ∙ ap Some b.1))
    by (inr a) (inl b) = absurd (lack k (b ∙ ap Some a.1))
    by (inr a) (inr b) = a.0 ∙ sym b.0

-- ---- rows

assoc : {A : Type 0} (xs ys zs : List A) → xs ++ (ys ++ zs) ≡ (xs ++ ys) ++ zs
assoc [] ys zs = refl
assoc (x ∷ xs) ys zs = ap (λ l. x ∷ l) (assoc xs ys zs)

more : {A : Type 0} (f : Row → A) (xs ys : List Row) (a b c : List A) → b ≡ a ++ map f xs → c ≡ b ++ map f ys → c ≡ a ++ map f (xs ++ ys)
more f xs ys a b c first second =
    second ∙ ap (λ l. l ++ map f ys) first ∙ sym (assoc a (map f xs) (map f ys)) ∙ ap (λ l. a ++ l) (sym (map-append f xs ys))

pub gains_more : (xs ys : List Row) (a b c : Piece) → Gains xs a b → Gains ys b c → Gains (xs ++ ys) a c
gains_more xs ys a b c first second = record {
  parts = more (λ row. row.part) xs ys a.parts b.parts c.parts first.parts second.parts;
  named = more (λ row. row.named) xs ys a.named b.named c.named first.named second.named;
}

pub gained_more : (xs ys : List Row) (a b : Piece) → AreGained xs a → Gains ys a b → AreGained (xs ++ ys) b
gained_more xs ys a b first second = record {
  parts = more (λ row. row.part) xs ys [] a.parts b.parts first.parts second.parts;
  named = more (λ row. row.named) xs ys [] a.named b.named first.named second.named;
}

-- one item more of those with places
pub rows_more : {X : Type 0} (keeps : Row → Bool) (f : ℕ → X → Row) (xs : List X) (i : ℕ) (x : X) → slice_get xs i ≡ Some x
    → filter keeps (indexed f 0 (take (i + 1) xs)) ≡ filter keeps (indexed f 0 (take i xs)) ++ filter keeps (f i x ∷ [])
rows_more keeps f xs i x at =
    let within = slice_get_within xs i x at in
    let taken = length-take-le i xs (let le : i ≤ length xs = omega arith in le) in
    let counted : 0 + length (take i xs) ≡ i = omega (arith, taken) in
    ap (λ l. filter keeps (indexed f 0 l)) (at_take xs i x at) ∙ ap (filter keeps) (indexed_append f 0 (take i xs) (x ∷ []) ∙ ap (λ n. indexed f 0 (take i xs) ++ f n x ∷ []) counted)
    ∙ filter-append keeps (indexed f 0 (take i xs)) (f i x ∷ [])

-- ---- the linker's parts

onto_append : (o : Option Row) (xs ys : List Row) → option_onto o (xs ++ ys) ≡ option_onto o xs ++ ys
onto_append None xs ys = refl
onto_append (Some x) xs ys = refl

made_append : (calls : List Named) (at : ℕ) (ms ns : List MadeSymbol) → made_rows calls at (ms ++ ns) ≡ made_rows calls at ms ++ made_rows calls (at + length ms) ns
made_append calls at [] ns = let e : at ≡ at + 0 = omega arith in ap (λ n. made_rows calls n ns) e
made_append calls at (m ∷ ms) ns =
    let e : at + 1 + length ms ≡ at + length (m ∷ ms) = omega arith in
    ap (option_onto (made_row calls at m.kind)) (made_append calls (at + 1) ms ns ∙ ap (λ n. made_rows calls (at + 1) ms ++ made_rows calls n ns) e)
    ∙ onto_append (made_row calls at m.kind) (made_rows calls (at + 1) ms) (made_rows calls (at + length (m ∷ ms)) ns)

pub made_step : (calls : List Named) (ms : List MadeSymbol) (n : ℕ) (d : MadeSymbol) → n < length ms
    → made_rows calls 0 (take (n + 1) ms) ≡ made_rows calls 0 (take n ms) ++ option_onto (made_row calls n (get_or ms n d).kind) []
made_step calls ms n d lt =
    let taken = length-take-le n ms (let le : n ≤ length ms = omega arith in le) in
    let counted : 0 + length (take n ms) ≡ n = omega (arith, taken) in
    ap (made_rows calls 0) (take_more ms n d lt) ∙ made_append calls 0 (take n ms) (get_or ms n d ∷ [])
    ∙ ap (λ k. made_rows calls 0 (take n ms) ++ option_onto (made_row calls k (get_or ms n d).kind) []) counted
