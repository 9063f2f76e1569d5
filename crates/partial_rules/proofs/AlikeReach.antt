-- The live parts of two programs that are one but for places are counterparts.
use Rattle.std.proofs.Common.{◌≡◌, ◌⊎◌, inl, inr, ℕ, zero, suc, ◌+◌, ◌<◌, ◌==◌, Bool, true, false, ◌&&◌, cond, List, [], ◌∷◌, map, filter, refl, sym, ap, subst, ◌∙◌, arith}
use Rattle.std.specs.Prelude.{Option, Some, option_map, position, slice_index_or, All, unwrap_or, if◌then◌else◌}
use Rattle.std.specs.List.{AllZip}
use Rattle.std.proofs.lemmas.Bool.{lt-ltb, ltb-true}
use Rattle.std.proofs.lemmas.Bool.Decides.{nat_tests}
use Rattle.std.proofs.lemmas.List.Elements.{All-head, All-tail}
use Rattle.name_rules.specs.Entries.{InputSymbol}
use Rattle.name_rules.specs.Meanings.{Meaning, here, imported, null, nothing}
use Rattle.mark_bits.specs.declared.chunk.Chunk.{Chunk}
use Rattle.mark_bits.specs.Words.{times, Among}
use Rattle.mark_bits.specs.Reach.{Reached}
use Rattle.live_mark.specs.Live.{reached, is_among, ReachedLaw}
use Rattle.link_rules.specs.Program.{Program, Part, Ref, refs, meant_chunk, same_chunk, types_named}
use Rattle.link_rules.specs.Marks.{roots, refers, table_of, places_in, targets, root_places, picked, live}
use Rattle.link_rules.specs.Keys.{parts_of_kind}
use Rattle.object_file.specs.linking_section.declared.symbol.SymbolKind.{SymbolKind}
use Rattle.partial_rules.specs.Moving.{Moving, IsMoving, moved_meaning, MeansHeld, AlikeRef, AlikePart, AlikeParts}
use Rattle.partial_rules.specs.Alike.{At, In, OnePlace}
use Rattle.partial_rules.proofs.Lists.{zip_filter, zip_filter_map, filter_map_all, filter_all, zip_first}
use Rattle.partial_rules.proofs.AlikeRefs.{refs_zip}
use Rattle.partial_rules.proofs.AlikeLive.{at_map, of_map, at_once, row_at, place_at, among_from, among_to, reached_pair}

-- ---- chunks that are the same

same_is : (c d : Chunk) → same_chunk c d ≡ true → c ≡ d
same_is c d e = by_tests (c.input == d.input) (c.kind == d.kind) (c.index == d.index) refl refl refl e
  where
    is_that : (n k : ℕ) → (n == k) ≡ true → n ≡ k
    is_that n k e = grind (arith, nat_tests, e)

    by_tests : (x y z : Bool) → (c.input == d.input) ≡ x → (c.kind == d.kind) ≡ y → (c.index == d.index) ≡ z → (x && y && z) ≡ true → c ≡ d
    by_tests true true true a b e t = λ i. record { input = is_that c.input d.input a i; kind = is_that c.kind d.kind b i; index = is_that c.index d.index e i }
    by_tests true true false a b e t = absurd cc
    by_tests true false z a b e t = absurd cc
    by_tests false y z a b e t = absurd cc

same_itself : (c : Chunk) → same_chunk c c ≡ true
same_itself c = rw (itself c.input, itself c.kind, itself c.index) refl
  where
    itself : (n : ℕ) → (n == n) ≡ true
    itself n = grind (arith, nat_tests)

same_some : (i j : ℕ) → (let o : Option ℕ = Some i in o ≡ Some j) → i ≡ j
same_some i j e = cc

-- ---- lists side by side

zip_in : {A B : Type 0} (R : A → B → Type 0) (us : List A) (vs : List B) → AllZip R us vs → (i : ℕ) (x : A) → At us i x → (y : B) × R x y × At vs i y
zip_in R [] [] z i x at = absurd at
zip_in R [] (v ∷ vs) z i x at = absurd z
zip_in R (u ∷ us) [] z i x at = absurd z
zip_in R (u ∷ us) (v ∷ vs) z zero x at = (v, subst (λ w. R w v) at z.0, refl)
zip_in R (u ∷ us) (v ∷ vs) z (suc i) x at = zip_in R us vs z.1 i x at

zip_back : {A B : Type 0} (R : A → B → Type 0) (us : List A) (vs : List B) → AllZip R us vs → (i : ℕ) (y : B) → At vs i y → (x : A) × R x y × At us i x
zip_back R [] [] z i y at = absurd at
zip_back R [] (v ∷ vs) z i y at = absurd z
zip_back R (u ∷ us) [] z i y at = absurd z
zip_back R (u ∷ us) (v ∷ vs) z zero y at = (u, subst (λ w. R u w) at z.0, refl)
zip_back R (u ∷ us) (v ∷ vs) z (suc i) y at = zip_back R us vs z.1 i y at

pub in_filter : {A : Type 0} (t : A → Bool) (xs : List A) (i : ℕ) (x : A) → At xs i x → t x ≡ true → In x (filter t xs)
in_filter t [] i x at is = absurd at
in_filter {A} t (y ∷ ys) zero x at is = rw (ap t at ∙ is) (0, at)
in_filter {A} t (y ∷ ys) (suc i) x at is = by_test (t y) (in_filter t ys i x at is)
  where
    by_test : (r : Bool) → In x (filter t ys) → In x (cond r (y ∷ filter t ys) (filter t ys))
    by_test true found = (suc found.0, found.1)
    by_test false found = found

pub of_filter : {A : Type 0} (t : A → Bool) (xs : List A) (i : ℕ) (x : A) → At (filter t xs) i x → In x xs
of_filter t [] i x at = absurd at
of_filter {A} t (y ∷ ys) i x at = by_test (t y) at (of_filter t ys)
  where
    by_head : (k : ℕ) → At (y ∷ filter t ys) k x → ((j : ℕ) (z : A) → At (filter t ys) j z → In z ys) → In x (y ∷ ys)
    by_head zero at again = (0, at)
    by_head (suc k) at again = let found = again k x at in (suc found.0, found.1)

    by_test : (r : Bool) → At (cond r (y ∷ filter t ys) (filter t ys)) i x → ((j : ℕ) (z : A) → At (filter t ys) j z → In z ys) → In x (y ∷ ys)
    by_test true at again = by_head i at again
    by_test false at again = let found = again i x at in (suc found.0, found.1)

pub all_at : {A : Type 0} (P : A → Type 0) (xs : List A) (i : ℕ) (x : A) → All P xs → At xs i x → P x
all_at P [] i x all at = absurd at
all_at P (y ∷ ys) zero x all at = subst P at (All-head P y ys all)
all_at P (y ∷ ys) (suc i) x all at = all_at P ys i x (All-tail P y ys all) at

module _ (m : Moving) (C : Chunk → Type 0) (K : InputSymbol → Type 0) (is : IsMoving m C K) (p q : Program) (alike : AlikeParts m C K p q p.parts q.parts)
    (one_p : OnePlace (table_of p)) (one_q : OnePlace (table_of q)) (there : (c : Chunk) → C c → In c (table_of p)) where
  -- ---- counterparts

  three : (n : ℕ) → n < 3 → (n ≡ 0) ⊎ ((n ≡ 1) ⊎ (n ≡ 2))
  three zero low = inl refl
  three (suc zero) low = inr (inl refl)
  three (suc (suc zero)) low = inr (inr refl)
  three (suc (suc (suc n))) low = absurd (omega (arith, low))

  kind_is : (n k : ℕ) → n ≡ k → (n == k) ≡ true
  kind_is n k e = grind (arith, nat_tests, e)

  counterpart_of : (k : ℕ) → AllZip (AlikePart m C K p q) (parts_of_kind k p.parts) (parts_of_kind k q.parts) → (i : ℕ) (x : Part) → At p.parts i x → x.chunk.kind ≡ k → (y : Part) × AlikePart m C K p q x y × In y q.parts
  counterpart_of k z i x at kind =
      let found = in_filter (λ part. part.chunk.kind == k) p.parts i x at (kind_is x.chunk.kind k kind) in
      let other = zip_in (AlikePart m C K p q) (parts_of_kind k p.parts) (parts_of_kind k q.parts) z found.0 x found.1 in
      (other.0, other.1, of_filter (λ part. part.chunk.kind == k) q.parts found.0 other.0 other.2)

  pub counterpart : (i : ℕ) (x : Part) → At p.parts i x → (y : Part) × AlikePart m C K p q x y × In y q.parts
  counterpart i x at = elim (three x.chunk.kind (all_at (λ (x : Part). x.chunk.kind < 3) p.parts i x alike.few at)) [
    | inl k ↦ counterpart_of 0 alike.functions i x at k
    | inr other ↦ elim other [
      | inl k ↦ counterpart_of 1 alike.segments i x at k
      | inr k ↦ counterpart_of 2 alike.globals i x at k
    ]
  ]

  original_of : (k : ℕ) → AllZip (AlikePart m C K p q) (parts_of_kind k p.parts) (parts_of_kind k q.parts) → (i : ℕ) (y : Part) → At q.parts i y → y.chunk.kind ≡ k → (x : Part) × AlikePart m C K p q x y × In x p.parts
  original_of k z i y at kind =
      let found = in_filter (λ part. part.chunk.kind == k) q.parts i y at (kind_is y.chunk.kind k kind) in
      let other = zip_back (AlikePart m C K p q) (parts_of_kind k p.parts) (parts_of_kind k q.parts) z found.0 y found.1 in
      (other.0, other.1, of_filter (λ part. part.chunk.kind == k) p.parts found.0 other.0 other.2)

  pub original : (i : ℕ) (y : Part) → At q.parts i y → (x : Part) × AlikePart m C K p q x y × In x p.parts
  original i y at = elim (three y.chunk.kind (all_at (λ (y : Part). y.chunk.kind < 3) q.parts i y alike.few_too at)) [
    | inl k ↦ original_of 0 alike.functions i y at k
    | inr other ↦ elim other [
      | inl k ↦ original_of 1 alike.segments i y at k
      | inr k ↦ original_of 2 alike.globals i y at k
    ]
  ]

  -- Two places go in a pair where counterparts stand there.
  pub record Pair (i j : ℕ) : Type 0 where
    pub first : Part
    pub second : Part
    pub at_first : At p.parts i first
    pub at_second : At q.parts j second
    pub alike_both : AlikePart m C K p q first second

  -- A place has one counterpart, and so has its counterpart.
  chunk_place : (r : Program) → OnePlace (table_of r) → (i : ℕ) (x : Part) → At r.parts i x → position (same_chunk x.chunk) (table_of r) ≡ Some i
  chunk_place r one i x at = one i x.chunk (at_map (λ part. part.chunk) r.parts i x at)

  pub one_counterpart : (i j k : ℕ) → Pair i j → Pair i k → j ≡ k
  one_counterpart i j k a b =
      let same : a.first ≡ b.first = at_once p.parts i a.first b.first a.at_first b.at_first in
      let chunk : a.second.chunk ≡ b.second.chunk = a.alike_both.chunk ∙ (ap (λ (x : Part). m.chunk x.chunk) same ∙ sym b.alike_both.chunk) in
      same_some j k (sym (chunk_place q one_q j a.second a.at_second) ∙ (ap (λ c. position (same_chunk c) (table_of q)) chunk ∙ chunk_place q one_q k b.second b.at_second))

  pub one_original : (i j k : ℕ) → Pair i k → Pair j k → i ≡ j
  one_original i j k a b =
      let same : a.second ≡ b.second = at_once q.parts k a.second b.second a.at_second b.at_second in
      let moved : m.chunk a.first.chunk ≡ m.chunk b.first.chunk = sym a.alike_both.chunk ∙ (ap (λ (y : Part). y.chunk) same ∙ b.alike_both.chunk) in
      let test : same_chunk (m.chunk a.first.chunk) (m.chunk b.first.chunk) ≡ true = ap (same_chunk (m.chunk a.first.chunk)) (sym moved) ∙ same_itself (m.chunk a.first.chunk) in
      let chunk : a.first.chunk ≡ b.first.chunk = same_is a.first.chunk b.first.chunk (sym (is.chunks_apart a.first.chunk b.first.chunk a.alike_both.held b.alike_both.held) ∙ test) in
      same_some i j (sym (chunk_place p one_p i a.first a.at_first) ∙ (ap (λ c. position (same_chunk c) (table_of p)) chunk ∙ chunk_place p one_p j b.first b.at_first))

  -- ---- the place of a chunk and that of the moved one

  pub moved_place : (c : Chunk) (i : ℕ) → C c → position (same_chunk c) (table_of p) ≡ Some i → (j : ℕ) × Pair i j × (position (same_chunk (m.chunk c)) (table_of q) ≡ Some j)
  moved_place c i held at =
      let found = place_at (same_chunk c) (table_of p) i at in
      let part = of_map (λ part. part.chunk) p.parts i found.0 found.1 in
      let chunk : part.0.chunk ≡ c = part.2 ∙ sym (same_is c found.0 found.2) in
      let other = counterpart i part.0 part.1 in
      let here_too : position (same_chunk other.0.chunk) (table_of q) ≡ Some other.2.0 = chunk_place q one_q other.2.0 other.0 other.2.1 in
      let moved : other.0.chunk ≡ m.chunk c = other.1.chunk ∙ ap m.chunk chunk in (
        other.2.0,
        record { first = part.0; second = other.0; at_first = part.1; at_second = other.2.1; alike_both = other.1 },
        ap (λ d. position (same_chunk d) (table_of q)) (sym moved) ∙ here_too,
      )

  pub original_place : (c : Chunk) (j : ℕ) → C c → position (same_chunk (m.chunk c)) (table_of q) ≡ Some j → (i : ℕ) × Pair i j × (position (same_chunk c) (table_of p) ≡ Some i)
  original_place c j held at =
      let mine = there c held in
      let place : position (same_chunk c) (table_of p) ≡ Some mine.0 = one_p mine.0 c mine.1 in
      let moved = moved_place c mine.0 held place in
      let same : moved.0 ≡ j = same_some moved.0 j (sym moved.2 ∙ at) in
      (mine.0, subst (Pair mine.0) same moved.1, place)

  -- ---- what parts refer to

  meant_moves : (a b : Ref) → AlikeRef m C K a b → meant_chunk b.meaning ≡ option_map m.chunk (meant_chunk a.meaning)
  meant_moves a b r = ap meant_chunk r.meaning ∙ by_meaning a.meaning r.held
    where
      by_meaning : (x : Meaning) → MeansHeld m C K a.entry.symbol.kind x → meant_chunk (moved_meaning m x) ≡ option_map m.chunk (meant_chunk x)
      by_meaning (here e) held = is.entry_chunk e held.0
      by_meaning (imported k) held = refl
      by_meaning null held = refl
      by_meaning nothing held = refl

  refers_alike : (x y : Part) → AlikePart m C K p q x y → refers y ≡ map m.chunk (refers x)
  refers_alike x y a =
      zip_filter_map (AlikeRef m C K) m.chunk (λ (ref : Ref). meant_chunk ref.meaning) (λ (ref : Ref). meant_chunk ref.meaning) meant_moves (refs x) (refs y) (refs_zip m C K x.named y.named a.named)

  refers_held : (x y : Part) → AlikePart m C K p q x y → All C (refers x)
  refers_held x y a =
      filter_map_all (λ (ref : Ref). MeansHeld m C K ref.entry.symbol.kind ref.meaning) C (λ (ref : Ref). meant_chunk ref.meaning) each (refs x)
      (zip_first (AlikeRef m C K) (λ (ref : Ref). MeansHeld m C K ref.entry.symbol.kind ref.meaning) (λ a b r. r.held) (refs x) (refs y) (refs_zip m C K x.named y.named a.named))
    where
      by_meaning : (kind : SymbolKind) (x : Meaning) (c : Chunk) → MeansHeld m C K kind x → meant_chunk x ≡ Some c → C c
      by_meaning kind (here e) c held at = is.entry_held e c held.0 at
      by_meaning kind (imported k) c held at = absurd cc
      by_meaning kind null c held at = absurd cc
      by_meaning kind nothing c held at = absurd cc

      each : (ref : Ref) (c : Chunk) → MeansHeld m C K ref.entry.symbol.kind ref.meaning → meant_chunk ref.meaning ≡ Some c → C c
      each ref c held at = by_meaning ref.entry.symbol.kind ref.meaning c held at

  row_of : (r : Program) (i : ℕ) (x : Part) → At r.parts i x → slice_index_or (targets r) i [] ≡ places_in (table_of r) (refers x)
  row_of r i x at = row_at (λ part. places_in (table_of r) (refers part)) r.parts i x [] at

  -- ---- steps and roots

  pub step : (a a' b : ℕ) → Pair a a' → Among b (slice_index_or (targets p) a []) → (b' : ℕ) × Pair b b' × Among b' (slice_index_or (targets q) a' [])
  step a a' b pair among =
      let x : Part = pair.first in
      let y : Part = pair.second in
      let found = among_from (λ c. position (same_chunk c) (table_of p)) (refers x) b (subst (Among b) (row_of p a x pair.at_first) among) in
      let held : C found.0 = all_at C (refers x) found.1.0 found.0 (refers_held x y pair.alike_both) found.1.1 in
      let moved = moved_place found.0 b held found.2 in
      let at : At (refers y) found.1.0 (m.chunk found.0) = subst (λ cs. At cs found.1.0 (m.chunk found.0)) (sym (refers_alike x y pair.alike_both)) (at_map m.chunk (refers x) found.1.0 found.0 found.1.1) in
      (moved.0, moved.1, subst (Among moved.0) (sym (row_of q a' y pair.at_second)) (among_to (λ c. position (same_chunk c) (table_of q)) (refers y) found.1.0 (m.chunk found.0) moved.0 at moved.2))

  pub step_back : (a' a b' : ℕ) → Pair a a' → Among b' (slice_index_or (targets q) a' []) → (b : ℕ) × Pair b b' × Among b (slice_index_or (targets p) a [])
  step_back a' a b' pair among =
      let x : Part = pair.first in
      let y : Part = pair.second in
      let found = among_from (λ c. position (same_chunk c) (table_of q)) (refers y) b' (subst (Among b') (row_of q a' y pair.at_second) among) in
      let mine = of_map m.chunk (refers x) found.1.0 found.0 (subst (λ cs. At cs found.1.0 found.0) (refers_alike x y pair.alike_both) found.1.1) in
      let held : C mine.0 = all_at C (refers x) found.1.0 mine.0 (refers_held x y pair.alike_both) mine.1 in
      let back = original_place mine.0 b' held (ap (λ c. position (same_chunk c) (table_of q)) mine.2 ∙ found.2) in
      (back.0, back.1, subst (Among back.0) (sym (row_of p a x pair.at_first)) (among_to (λ c. position (same_chunk c) (table_of p)) (refers x) found.1.0 mine.0 back.0 mine.1 back.2))

  -- ---- what is reached

  -- The roots are moved, and there are no others.
  pub record AlikeRoots (ep eq : List InputSymbol) : Type 0 where
    pub held : (c : Chunk) → In c (roots p ep) → C c
    pub moved : (c : Chunk) → In c (roots p ep) → In (m.chunk c) (roots q eq)
    pub from : (d : Chunk) → In d (roots q eq) → (c : Chunk) × In c (roots p ep) × (d ≡ m.chunk c)

  module _ (ep eq : List InputSymbol) (rooted : AlikeRoots ep eq) where
    root : (a : ℕ) → Among a (root_places p ep) → (a' : ℕ) × Pair a a' × Among a' (root_places q eq)
    root a among =
        let found = among_from (λ c. position (same_chunk c) (table_of p)) (roots p ep) a among in
        let place = moved_place found.0 a (rooted.held found.0 found.1) found.2 in
        let there_too = rooted.moved found.0 found.1 in
        (place.0, place.1, among_to (λ c. position (same_chunk c) (table_of q)) (roots q eq) there_too.0 (m.chunk found.0) place.0 there_too.1 place.2)

    root_back : (a' : ℕ) → Among a' (root_places q eq) → (a : ℕ) × Pair a a' × Among a (root_places p ep)
    root_back a' among =
        let found = among_from (λ c. position (same_chunk c) (table_of q)) (roots q eq) a' among in
        let mine = rooted.from found.0 found.1 in
        let place = original_place mine.0 a' (rooted.held mine.0 mine.1) (ap (λ c. position (same_chunk c) (table_of q)) (sym mine.2) ∙ found.2) in
        (place.0, place.1, among_to (λ c. position (same_chunk c) (table_of p)) (roots p ep) mine.1.0 mine.0 place.0 mine.1.1 place.2)

    reached_to : (i j : ℕ) → Pair i j → Reached (targets p) (root_places p ep) i → Reached (targets q) (root_places q eq) j
    reached_to i j pair found =
        let other = reached_pair (targets p) (targets q) (root_places p ep) (root_places q eq) Pair step root i found in
        subst (Reached (targets q) (root_places q eq)) (one_counterpart i other.0 j other.1 pair) other.2

    reached_from : (i j : ℕ) → Pair i j → Reached (targets q) (root_places q eq) j → Reached (targets p) (root_places p ep) i
    reached_from i j pair found =
        let other = reached_pair (targets q) (targets p) (root_places q eq) (root_places p ep) (λ b a. Pair a b) (λ b b' c. step_back b b' c) root_back j found in
        subst (Reached (targets p) (root_places p ep)) (one_original other.0 i j other.1 pair) other.2

    marks_p : List ℕ
    marks_p = reached (targets p) (root_places p ep)

    marks_q : List ℕ
    marks_q = reached (targets q) (root_places q eq)

    both_ways : (a b : Bool) → (a ≡ true → b ≡ true) → (b ≡ true → a ≡ true) → b ≡ a
    both_ways true b to from = to refl
    both_ways false true to from = sym (from refl)
    both_ways false false to from = refl

    marked_alike : ReachedLaw → (i j : ℕ) → Pair i j → is_among marks_q j ≡ is_among marks_p i
    unfolding marks_p marks_q
    marked_alike law i j pair =
        let marked_p : List ℕ = reached (targets p) (root_places p ep) in
        let marked_q : List ℕ = reached (targets q) (root_places q eq) in
        both_ways (is_among marked_p i) (is_among marked_q j)
        (λ e. lt-ltb 0 (times j marked_q) ((law (targets q) (root_places q eq) j).1 (reached_to i j pair ((law (targets p) (root_places p ep) i).0 (ltb-true 0 (times i marked_p) e)))))
        (λ e. lt-ltb 0 (times i marked_p) ((law (targets p) (root_places p ep) i).1 (reached_from i j pair ((law (targets q) (root_places q eq) j).0 (ltb-true 0 (times j marked_q) e)))))

    -- ---- the live parts

    place_in : Program → Part → ℕ
    place_in r x = unwrap_or (position (same_chunk x.chunk) (table_of r)) 0

    picked_is : (r : Program) (marked : List ℕ) (at : ℕ) (xs : List Part) → ((i : ℕ) (x : Part) → At xs i x → place_in r x ≡ at + i) → picked marked at xs ≡ filter (λ x. is_among marked (place_in r x)) xs
    picked_is r marked at [] places = refl
    picked_is r marked at (x ∷ xs) places =
        let here_now : place_in r x ≡ at = places 0 x refl ∙ omega arith in
        let rest = picked_is r marked (at + 1) xs (λ i y there_now. places (suc i) y there_now ∙ omega arith) in
        rw (here_now) (by_test (is_among marked at) rest)
      where
        by_test : (b : Bool) → picked marked (at + 1) xs ≡ filter (λ x. is_among marked (place_in r x)) xs
            → (if b then x ∷ picked marked (at + 1) xs else picked marked (at + 1) xs) ≡ cond b (x ∷ filter (λ x. is_among marked (place_in r x)) xs) (filter (λ x. is_among marked (place_in r x)) xs)
        by_test true rest = ap (λ ys. x ∷ ys) rest
        by_test false rest = rest

    filters_commute : (k t : Part → Bool) (xs : List Part) → filter k (filter t xs) ≡ filter t (filter k xs)
    filters_commute k t [] = refl
    filters_commute k t (x ∷ xs) = by_tests (k x) (t x) refl refl (filters_commute k t xs)
      where
        by_tests : (a b : Bool) → k x ≡ a → t x ≡ b → filter k (filter t xs) ≡ filter t (filter k xs) → filter k (filter t (x ∷ xs)) ≡ filter t (filter k (x ∷ xs))
        by_tests true true ka tb rest = rw (tb, ka, tb) (ap (λ ys. x ∷ ys) rest)
        by_tests true false ka tb rest = rw (ka, tb) rest
        by_tests false true ka tb rest = rw (tb, ka) rest
        by_tests false false ka tb rest = rw (ka, tb) rest

    Known : Part → Part → Type 0
    Known x y = AlikePart m C K p q x y × In x p.parts × In y q.parts

    with_places : (us vs : List Part) → ((i : ℕ) (x : Part) → At us i x → In x p.parts) → ((j : ℕ) (y : Part) → At vs j y → In y q.parts) → AllZip (AlikePart m C K p q) us vs → AllZip Known us vs
    unfolding Known
    with_places [] [] f g z = tt
    with_places [] (v ∷ vs) f g z = absurd z
    with_places (u ∷ us) [] f g z = absurd z
    with_places (u ∷ us) (v ∷ vs) f g z = ((z.0, f 0 u refl, g 0 v refl), with_places us vs (λ i x at. f (suc i) x at) (λ j y at. g (suc j) y at) z.1)

    without_places : (us vs : List Part) → AllZip Known us vs → AllZip (AlikePart m C K p q) us vs
    unfolding Known
    without_places [] [] z = tt
    without_places [] (v ∷ vs) z = absurd z
    without_places (u ∷ us) [] z = absurd z
    without_places (u ∷ us) (v ∷ vs) z = (z.0.0, without_places us vs z.1)

    live_tests : ReachedLaw → (x y : Part) → Known x y → is_among marks_q (place_in q y) ≡ is_among marks_p (place_in p x)
    unfolding Known place_in
    live_tests law x y known =
        let i : ℕ = known.1.0 in
        let j : ℕ = known.2.0 in
        let at_x : unwrap_or (position (same_chunk x.chunk) (table_of p)) 0 ≡ i = ap (λ o. unwrap_or o 0) (chunk_place p one_p i x known.1.1) in
        let at_y : unwrap_or (position (same_chunk y.chunk) (table_of q)) 0 ≡ j = ap (λ o. unwrap_or o 0) (chunk_place q one_q j y known.2.1) in
        let pair : Pair i j = record { first = x; second = y; at_first = known.1.1; at_second = known.2.1; alike_both = known.0 } in
        ap (is_among marks_q) at_y ∙ (marked_alike law i j pair ∙ ap (is_among marks_p) (sym at_x))

    places_are : (r : Program) → OnePlace (table_of r) → (i : ℕ) (x : Part) → At r.parts i x → place_in r x ≡ 0 + i
    unfolding place_in
    places_are r one i x at = ap (λ o. unwrap_or o 0) (chunk_place r one i x at) ∙ omega arith

    live_kind : ReachedLaw → (k : ℕ) → AllZip (AlikePart m C K p q) (parts_of_kind k p.parts) (parts_of_kind k q.parts)
        → AllZip (AlikePart m C K p q) (parts_of_kind k (filter (λ x. is_among marks_p (place_in p x)) p.parts)) (parts_of_kind k (filter (λ y. is_among marks_q (place_in q y)) q.parts))
    live_kind law k z =
        let of_kind : Part → Bool = λ part. part.chunk.kind == k in
        let t : Part → Bool = λ x. is_among marks_p (place_in p x) in
        let u : Part → Bool = λ y. is_among marks_q (place_in q y) in
        let known = with_places (parts_of_kind k p.parts) (parts_of_kind k q.parts) (λ i x at. of_filter of_kind p.parts i x at) (λ j y at. of_filter of_kind q.parts j y at) z in
        let chosen = without_places (filter t (parts_of_kind k p.parts)) (filter u (parts_of_kind k q.parts)) (zip_filter Known t u (live_tests law) (parts_of_kind k p.parts) (parts_of_kind k q.parts) known) in
        subst (λ us. AllZip (AlikePart m C K p q) us (parts_of_kind k (filter u q.parts))) (sym (filters_commute of_kind t p.parts))
        (subst (λ vs. AllZip (AlikePart m C K p q) (filter t (parts_of_kind k p.parts)) vs) (sym (filters_commute of_kind u q.parts)) chosen)

    -- The live parts are counterparts.
    pub live_alike : ReachedLaw → AlikeParts m C K p q (live p ep) (live q eq)
    unfolding live marks_p marks_q
    live_alike law =
        let us : List Part = filter (λ x. is_among marks_p (place_in p x)) p.parts in
        let vs : List Part = filter (λ y. is_among marks_q (place_in q y)) q.parts in
        let mine : live p ep ≡ us = picked_is p (reached (targets p) (root_places p ep)) 0 p.parts (places_are p one_p) in
        let other : live q eq ≡ vs = picked_is q (reached (targets q) (root_places q eq)) 0 q.parts (places_are q one_q) in
        let chosen : AlikeParts m C K p q us vs = record {
          functions = live_kind law 0 alike.functions;
          segments = live_kind law 1 alike.segments;
          globals = live_kind law 2 alike.globals;
          few = filter_all (λ (x : Part). x.chunk.kind < 3) (λ x. is_among marks_p (place_in p x)) p.parts alike.few;
          few_too = filter_all (λ (y : Part). y.chunk.kind < 3) (λ y. is_among marks_q (place_in q y)) q.parts alike.few_too;
          untyped = filter_all (λ (x : Part). (x.chunk.kind == 0) ≡ false → types_named x ≡ []) (λ x. is_among marks_p (place_in p x)) p.parts alike.untyped;
          untyped_too = filter_all (λ (y : Part). (y.chunk.kind == 0) ≡ false → types_named y ≡ []) (λ y. is_among marks_q (place_in q y)) q.parts alike.untyped_too;
        } in
        subst (λ xs. AlikeParts m C K p q xs (live q eq)) (sym mine) (subst (AlikeParts m C K p q us) (sym other) chosen)
