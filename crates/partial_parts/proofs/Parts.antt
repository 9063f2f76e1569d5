-- The kept parts of objects, one part after another, are those of the definition.
use Rattle.std.proofs.Common.{◌≡◌, ℕ, zero, suc, ◌+◌, ◌<◌, ◌==◌, Bool, true, false, not, ◌&&◌, cond, nat_lt, List, [], ◌∷◌, ◌++◌, map, filter, fold, length, slice_get, get_or, position, Option, Some, None, option_map, unwrap_or, refl, sym, ap, subst, ◌∙◌, arith, append_assoc, append-nil}
use Rattle.std.specs.Prelude.{if◌then◌else◌}
use Rattle.std.specs.List.{position_or_len}
use Rattle.std.proofs.lemmas.Bool.{eqb-true}
use Rattle.std.proofs.lemmas.Bool.Decides.{nat_tests}
use Rattle.std.proofs.lemmas.List.{length-append}
use Rattle.std.proofs.lemmas.Option.{same_Some, none-some}
use Rattle.link_program.specs.mark_bits.declared.chunk.Chunk.{Chunk}
use Rattle.link_program.specs.link_rules.Program.{Program, Part, same_chunk}
use Rattle.link_program.specs.link_rules.Marks.{is_object_part}
use Rattle.link_program.specs.declared.program.Program.{Program as Data}
use Rattle.link_program.specs.declared.part.Part.{Part as Told}
use Rattle.link_program.specs.made_symbols.declared.mode.Mode.TheVariants.{Plain}
use Rattle.link_program.specs.Program.{IsProgramOf}
use Rattle.link_program.specs.Seen.{SeenPart, seen_part, told_part}
use Rattle.link_program.proofs.Chunks.{chunk_is}
use Rattle.partial_rules.specs.Partial as partial
use Rattle.partial_parts.specs.Kept.{Kept, none_kept, passed, a_function, a_segment, a_global, by_kind, kept_chunk, kept_parts, place_at, place_in, AreKept}

-- ---- first places

shift : (l n : ℕ) → cond (nat_lt (1 + l) (suc n)) (Some (1 + l)) None ≡ option_map suc (cond (nat_lt l n) (Some l) None)
shift l n = grind (arith, nat_tests)

position_next : {A : Type 0} (p : A → Bool) (x : A) (xs : List A) → p x ≡ false → position p (x ∷ xs) ≡ option_map suc (position p xs)
position_next p x xs e = rw e (shift (position_or_len p xs) (length xs))

position_first : {A : Type 0} (p : A → Bool) (x : A) (xs : List A) → p x ≡ true → position p (x ∷ xs) ≡ Some 0
position_first p x xs e = rw e (grind (arith, nat_tests))

one_later : (l : ℕ) (o : Option ℕ) → option_map (λ i. l + 1 + i) o ≡ option_map (λ i. l + i) (option_map suc o)
one_later l None = refl
one_later l (Some i) = ap (λ (j : ℕ). Some j) (let e : l + 1 + i ≡ l + suc i = omega arith in e)

-- ---- one part more

-- whether a chunk is one of this kind that objects have
abbrev keeps : ℕ → Chunk → Bool
keeps kind c = not (c.input == 0) && (c.kind == kind)

-- The numbers of the kept chunks of a kind, from a number on.
abbrev numbers : ℕ → ℕ → List Chunk → List ℕ
numbers kind m [] = []
numbers kind m (c ∷ cs) = if keeps kind c then m ∷ numbers kind (m + 1) cs else numbers kind (m + 1) cs

longer : (ns : List ℕ) (n : ℕ) → length (ns ++ n ∷ []) ≡ length ns + 1
longer ns n = length-append ns (n ∷ [])

one_place : (k : Kept) (c : Chunk) → length (kept_chunk k c).places ≡ length k.places + 1
one_place k c = by_input (c.input == 0)
  where
    by_third : (r : Bool) → length (if r then a_global k else passed k).places ≡ length k.places + 1
    by_third true = longer k.places (length k.globals)
    by_third false = longer k.places 0

    by_second : (r : Bool) → length (if r then a_segment k else if c.kind == 2 then a_global k else passed k).places ≡ length k.places + 1
    by_second true = longer k.places (length k.segments)
    by_second false = by_third (c.kind == 2)

    by_first : (r : Bool) → length (if r then a_function k else if c.kind == 1 then a_segment k else if c.kind == 2 then a_global k else passed k).places ≡ length k.places + 1
    by_first true = longer k.places (length k.functions)
    by_first false = by_second (c.kind == 1)

    by_input : (r : Bool) → length (if r then passed k else by_kind k c.kind).places ≡ length k.places + 1
    by_input true = longer k.places 0
    by_input false = by_first (c.kind == 0)

-- What a part more does to the list of its kind, and to no other.
pub record Steps (kind : ℕ) (list : Kept → List ℕ) : Type 0 where
  pub one : (k : Kept) (c : Chunk) → keeps kind c ≡ true → (list (kept_chunk k c) ≡ list k ++ length k.places ∷ []) × ((kept_chunk k c).places ≡ k.places ++ length (list k) ∷ [])
  pub other : (k : Kept) (c : Chunk) → keeps kind c ≡ false → list (kept_chunk k c) ≡ list k

module _ (kind : ℕ) (list : Kept → List ℕ) (steps : Steps kind list) where
  list_left : (k : Kept) (cs : List Chunk) → list (fold kept_chunk k cs) ≡ list k ++ numbers kind (length k.places) cs
  list_left k [] = sym (append-nil (list k))
  list_left k (c ∷ cs) = by (keeps kind c) refl (list_left (kept_chunk k c) cs)
    where
      by : (b : Bool) → keeps kind c ≡ b → list (fold kept_chunk (kept_chunk k c) cs) ≡ list (kept_chunk k c) ++ numbers kind (length (kept_chunk k c).places) cs → list (fold kept_chunk (kept_chunk k c) cs)
          ≡ list k ++ (if b then length k.places ∷ numbers kind (length k.places + 1) cs else numbers kind (length k.places + 1) cs)
      by true is again =
          again
          ∙ (ap (λ ns. ns ++ numbers kind (length (kept_chunk k c).places) cs) (steps.one k c is).0
          ∙ (append_assoc (list k) (length k.places ∷ []) (numbers kind (length (kept_chunk k c).places) cs)
          ∙ ap (λ m. list k ++ length k.places ∷ numbers kind m cs) (one_place k c)))
      by false is again =
          again
          ∙ (ap (λ ns. ns ++ numbers kind (length (kept_chunk k c).places) cs) (steps.other k c is)
          ∙ ap (λ m. list k ++ numbers kind m cs) (one_place k c))

  -- ---- which parts they are

  numbered_parts : (before xs : List Part) → map (slice_get (before ++ xs)) (numbers kind (length before) (map (λ (part : Part). part.chunk) xs))
      ≡ map Some (filter (λ (part : Part). is_object_part part && (part.chunk.kind == kind)) xs)
  numbered_parts before [] = refl
  numbered_parts before (x ∷ xs) =
      by (keeps kind x.chunk)
      (subst Rest moved
      (ap (λ m. map (slice_get ((before ++ x ∷ []) ++ xs)) (numbers kind m (map (λ (part : Part). part.chunk) xs))) (sym (length-append before (x ∷ []))) ∙ numbered_parts (before ++ x ∷ []) xs))
    where
      Rest : List Part → Type 0
      Rest whole = map (slice_get whole) (numbers kind (length before + 1) (map (λ (part : Part). part.chunk) xs)) ≡ map Some (filter (λ (part : Part). is_object_part part && (part.chunk.kind == kind)) xs)

      moved : (before ++ x ∷ []) ++ xs ≡ before ++ x ∷ xs
      moved = append_assoc before (x ∷ []) xs

      at_end : (ys zs : List Part) (z : Part) → slice_get (ys ++ z ∷ zs) (length ys) ≡ Some z
      at_end [] zs z = refl
      at_end (y ∷ ys) zs z = at_end ys zs z

      by : (b : Bool) → Rest (before ++ x ∷ xs)
          → map (slice_get (before ++ x ∷ xs)) (if b then length before ∷ numbers kind (length before + 1) (map (λ (part : Part). part.chunk) xs) else numbers kind (length before + 1) (map (λ (part : Part). part.chunk) xs))
          ≡ map Some (cond b (x ∷ filter (λ (part : Part). is_object_part part && (part.chunk.kind == kind)) xs) (filter (λ (part : Part). is_object_part part && (part.chunk.kind == kind)) xs))
      by true rest = let h = at_end before xs x in λ i. h i ∷ rest i
      by false rest = rest

  -- ---- their places

  kept_front : (k : Kept) (cs : List Chunk) (i : ℕ) → i < length k.places → get_or (fold kept_chunk k cs).places i 0 ≡ get_or k.places i 0
  kept_front k [] i lt = refl
  kept_front k (c ∷ cs) i lt =
      kept_front (kept_chunk k c) cs i (let e : length (kept_chunk k c).places ≡ length k.places + 1 = one_place k c in omega (arith, lt, e)) ∙ one_front (c.input == 0)
    where
      in_front : (ns ms : List ℕ) (j : ℕ) → j < length ns → get_or (ns ++ ms) j 0 ≡ get_or ns j 0
      in_front [] ms j lt = absurd (omega (arith, lt))
      in_front (n ∷ ns) ms zero lt = refl
      in_front (n ∷ ns) ms (suc j) lt = in_front ns ms j (omega (arith, lt))

      by_third : (r : Bool) → get_or (if r then a_global k else passed k).places i 0 ≡ get_or k.places i 0
      by_third true = in_front k.places (length k.globals ∷ []) i lt
      by_third false = in_front k.places (0 ∷ []) i lt

      by_second : (r : Bool) → get_or (if r then a_segment k else if c.kind == 2 then a_global k else passed k).places i 0 ≡ get_or k.places i 0
      by_second true = in_front k.places (length k.segments ∷ []) i lt
      by_second false = by_third (c.kind == 2)

      by_first : (r : Bool) → get_or (if r then a_function k else if c.kind == 1 then a_segment k else if c.kind == 2 then a_global k else passed k).places i 0 ≡ get_or k.places i 0
      by_first true = in_front k.places (length k.functions ∷ []) i lt
      by_first false = by_second (c.kind == 1)

      one_front : (r : Bool) → get_or (if r then passed k else by_kind k c.kind).places i 0 ≡ get_or k.places i 0
      one_front true = in_front k.places (0 ∷ []) i lt
      one_front false = by_first (c.kind == 0)

  behind : (ns : List ℕ) (n : ℕ) → get_or (ns ++ n ∷ []) (length ns) 0 ≡ n
  behind [] n = refl
  behind (m ∷ ns) n = behind ns n

  -- the place of a kept chunk that stands first at a place
  place_found : (k : Kept) (cs : List Chunk) (c : Chunk) (n : ℕ) → keeps kind c ≡ true → position (same_chunk c) cs ≡ Some n
      → Some (get_or (fold kept_chunk k cs).places (length k.places + n) 0) ≡ option_map (λ i. length (list k) + i) (position (same_chunk c) (filter (keeps kind) cs))
  place_found k [] c n kept at = absurd (none-some n at)
  place_found k (x ∷ cs) c n kept at = by (same_chunk c x) refl (λ m there. place_found (kept_chunk k x) cs c m kept there)
    where
      Again : Type 0
      Again = (m : ℕ) → position (same_chunk c) cs ≡ Some m
          → Some (get_or (fold kept_chunk (kept_chunk k x) cs).places (length (kept_chunk k x).places + m) 0) ≡ option_map (λ i. length (list (kept_chunk k x)) + i) (position (same_chunk c) (filter (keeps kind) cs))

      rest : List Chunk
      rest = filter (keeps kind) cs

      by : (b : Bool) → same_chunk c x ≡ b → Again
          → Some (get_or (fold kept_chunk (kept_chunk k x) cs).places (length k.places + n) 0) ≡ option_map (λ i. length (list k) + i) (position (same_chunk c) (cond (keeps kind x) (x ∷ rest) rest))
      by true is again =
          let same : c ≡ x = chunk_is c x is in
          let x_kept : keeps kind x ≡ true = ap (keeps kind) (sym same) ∙ kept in
          let none : n ≡ 0 = same_Some n 0 (sym at ∙ position_first (same_chunk c) x cs is) in
          let here : length k.places + n ≡ length k.places = omega (arith, none) in
          let more : length k.places < length (kept_chunk k x).places = let e : length (kept_chunk k x).places ≡ length k.places + 1 = one_place k x in omega (arith, e) in
          let value : get_or (fold kept_chunk (kept_chunk k x) cs).places (length k.places + n) 0 ≡ length (list k) =
          ap (λ i. get_or (fold kept_chunk (kept_chunk k x) cs).places i 0) here
          ∙ (kept_front (kept_chunk k x) cs (length k.places) more
          ∙ (ap (λ ns. get_or ns (length k.places) 0) (steps.one k x x_kept).1 ∙ behind k.places (length (list k)))) in
          let zero_more : length (list k) ≡ length (list k) + 0 = omega arith in
          ap (λ (i : ℕ). Some i) (value ∙ zero_more)
          ∙ (ap (option_map (λ i. length (list k) + i)) (sym (position_first (same_chunk c) x rest is))
          ∙ ap (λ b. option_map (λ i. length (list k) + i) (position (same_chunk c) (cond b (x ∷ rest) rest))) (sym x_kept))
      by false is again = by_rest (position (same_chunk c) cs) refl
        where
          by_kept : (m : ℕ) (b : Bool) → keeps kind x ≡ b → position (same_chunk c) cs ≡ Some m → n ≡ suc m
              → Some (get_or (fold kept_chunk (kept_chunk k x) cs).places (length k.places + n) 0) ≡ option_map (λ i. length (list k) + i) (position (same_chunk c) (cond b (x ∷ rest) rest))
          by_kept m b x_is there next =
              let e : length (kept_chunk k x).places ≡ length k.places + 1 = one_place k x in
              let moved : length k.places + n ≡ length (kept_chunk k x).places + m = omega (arith, next, e) in
              ap (λ i. Some (get_or (fold kept_chunk (kept_chunk k x) cs).places i 0)) moved ∙ (again m there ∙ shifted b x_is)
            where
              shifted : (b : Bool) → keeps kind x ≡ b → option_map (λ i. length (list (kept_chunk k x)) + i) (position (same_chunk c) rest) ≡ option_map (λ i. length (list k) + i) (position (same_chunk c) (cond b (x ∷ rest) rest))
              shifted true x_is =
                  ap (λ (ns : List ℕ). option_map (λ i. length ns + i) (position (same_chunk c) rest)) (steps.one k x x_is).0
                  ∙ (ap (λ l. option_map (λ i. l + i) (position (same_chunk c) rest)) (longer (list k) (length k.places))
                  ∙ (one_later (length (list k)) (position (same_chunk c) rest) ∙ ap (option_map (λ i. length (list k) + i)) (sym (position_next (same_chunk c) x rest is))))
              shifted false x_is = ap (λ (ns : List ℕ). option_map (λ i. length ns + i) (position (same_chunk c) rest)) (steps.other k x x_is)

          by_rest : (o : Option ℕ) → position (same_chunk c) cs ≡ o
              → Some (get_or (fold kept_chunk (kept_chunk k x) cs).places (length k.places + n) 0) ≡ option_map (λ i. length (list k) + i) (position (same_chunk c) (cond (keeps kind x) (x ∷ rest) rest))
          by_rest None none = absurd (none-some n (sym (position_next (same_chunk c) x cs is ∙ ap (option_map suc) none) ∙ at))
          by_rest (Some m) there =
              by_kept m (keeps kind x) refl there (same_Some n (suc m) (sym at ∙ (position_next (same_chunk c) x cs is ∙ ap (option_map suc) there)))

  -- ---- by the definition

  none_kept_there : (p : Chunk → Bool) (cs : List Chunk) → position p cs ≡ None → position p (filter (keeps kind) cs) ≡ None
  none_kept_there p [] none = none
  none_kept_there p (x ∷ cs) none = by_head (p x) refl (none_kept_there p cs)
    where
      rest : List Chunk
      rest = filter (keeps kind) cs

      empty : (o : Option ℕ) → option_map suc o ≡ None → o ≡ None
      empty None e = refl
      empty (Some n) e = absurd cc

      by_kept : (b : Bool) → p x ≡ false → position p rest ≡ None → position p (cond b (x ∷ rest) rest) ≡ None
      by_kept true is again = position_next p x rest is ∙ ap (option_map suc) again
      by_kept false is again = again

      by_head : (b : Bool) → p x ≡ b → (position p cs ≡ None → position p rest ≡ None) → position p (cond (keeps kind x) (x ∷ rest) rest) ≡ None
      by_head true is again = absurd (none-some 0 (sym none ∙ position_first p x cs is))
      by_head false is again = by_kept (keeps kind x) is (again (empty (position p cs) (sym (position_next p x cs is) ∙ none)))

  chunks_kept : (xs : List Part) → filter (keeps kind) (map (λ (part : Part). part.chunk) xs) ≡ map (λ (part : Part). part.chunk) (filter (λ (part : Part). is_object_part part && (part.chunk.kind == kind)) xs)
  chunks_kept [] = refl
  chunks_kept (x ∷ xs) = by (keeps kind x.chunk) (chunks_kept xs)
    where
      by : (b : Bool) → filter (keeps kind) (map (λ (part : Part). part.chunk) xs) ≡ map (λ (part : Part). part.chunk) (filter (λ (part : Part). is_object_part part && (part.chunk.kind == kind)) xs)
          → cond b (x.chunk ∷ filter (keeps kind) (map (λ (part : Part). part.chunk) xs)) (filter (keeps kind) (map (λ (part : Part). part.chunk) xs))
          ≡ map (λ (part : Part). part.chunk) (cond b (x ∷ filter (λ (part : Part). is_object_part part && (part.chunk.kind == kind)) xs) (filter (λ (part : Part). is_object_part part && (part.chunk.kind == kind)) xs))
      by true rest = ap (λ cs. x.chunk ∷ cs) rest
      by false rest = rest

  module _ (p : Program) (none : list none_kept ≡ []) where
    abbrev chunks : List Chunk
    chunks = map (λ (part : Part). part.chunk) p.parts

    abbrev whole : Kept
    whole = fold kept_chunk none_kept chunks

    parts_are : map (slice_get p.parts) (list whole) ≡ map Some (partial.kept p kind)
    parts_are = ap (map (slice_get p.parts)) (list_left none_kept chunks ∙ ap (λ ns. ns ++ numbers kind 0 chunks) none) ∙ numbered_parts [] p.parts

    from_none : (o : Option ℕ) → option_map (λ i. length (list none_kept) + i) o ≡ o
    from_none None = refl
    from_none (Some i) = ap (λ (ns : List ℕ). Some (length ns + i)) none ∙ ap (λ (n : ℕ). Some n) (let e : 0 + i ≡ i = omega arith in e)

    place_is : (c : Chunk) → keeps kind c ≡ true → place_at whole (position (same_chunk c) chunks) ≡ partial.place_of p kind c
    place_is c kept = by (position (same_chunk c) chunks) refl ∙ ap (λ cs. unwrap_or (position (same_chunk c) cs) 0) (chunks_kept p.parts)
      where
        by : (o : Option ℕ) → position (same_chunk c) chunks ≡ o → place_at whole o ≡ unwrap_or (position (same_chunk c) (filter (keeps kind) chunks)) 0
        by None nowhere = sym (ap (λ o. unwrap_or o 0) (none_kept_there (same_chunk c) chunks nowhere))
        by (Some n) there =
            let found : Some (get_or whole.places (0 + n) 0) ≡ position (same_chunk c) (filter (keeps kind) chunks) =
            place_found none_kept chunks c n kept there ∙ from_none (position (same_chunk c) (filter (keeps kind) chunks)) in
            ap (λ i. get_or whole.places i 0) (let e : n ≡ 0 + n = omega arith in e) ∙ ap (λ o. unwrap_or o 0) found

-- ---- the three kinds

not_false : (b : Bool) → not b ≡ true → b ≡ false
not_false true e = absurd cc
not_false false e = refl

both : (a b : Bool) → (a && b) ≡ true → (a ≡ true) × (b ≡ true)
both true true e = (refl, refl)
both true false e = absurd cc
both false b e = absurd cc

-- a chunk of an object, by its kind
of_object : (k : Kept) (c : Chunk) → (c.input == 0) ≡ false → kept_chunk k c ≡ by_kind k c.kind
of_object k c is = ap (λ b. if b then passed k else by_kind k c.kind) is

kind_differs : (c : Chunk) (m n : ℕ) → (c.kind == m) ≡ true → (m == n) ≡ false → (c.kind == n) ≡ false
kind_differs c m n is differ = ap (λ x. x == n) (eqb-true c.kind m is) ∙ differ

is_function : (k : Kept) (c : Chunk) → keeps 0 c ≡ true → kept_chunk k c ≡ a_function k
is_function k c is =
    let h = both (not (c.input == 0)) (c.kind == 0) is in
    of_object k c (not_false (c.input == 0) h.0) ∙ ap (λ b. if b then a_function k else if c.kind == 1 then a_segment k else if c.kind == 2 then a_global k else passed k) h.1

is_segment : (k : Kept) (c : Chunk) → keeps 1 c ≡ true → kept_chunk k c ≡ a_segment k
is_segment k c is =
    let h = both (not (c.input == 0)) (c.kind == 1) is in
    of_object k c (not_false (c.input == 0) h.0)
    ∙ (ap (λ b. if b then a_function k else if c.kind == 1 then a_segment k else if c.kind == 2 then a_global k else passed k) (kind_differs c 1 0 h.1 refl)
    ∙ ap (λ b. if b then a_segment k else if c.kind == 2 then a_global k else passed k) h.1)

is_global : (k : Kept) (c : Chunk) → keeps 2 c ≡ true → kept_chunk k c ≡ a_global k
is_global k c is =
    let h = both (not (c.input == 0)) (c.kind == 2) is in
    of_object k c (not_false (c.input == 0) h.0)
    ∙ (ap (λ b. if b then a_function k else if c.kind == 1 then a_segment k else if c.kind == 2 then a_global k else passed k) (kind_differs c 2 0 h.1 refl)
    ∙ (ap (λ b. if b then a_segment k else if c.kind == 2 then a_global k else passed k) (kind_differs c 2 1 h.1 refl)
    ∙ ap (λ b. if b then a_global k else passed k) h.1))

function_steps : Steps 0 (λ k. k.functions)
function_steps = record {
  one = λ k c is. let e = is_function k c is in (ap (λ (x : Kept). x.functions) e, ap (λ (x : Kept). x.places) e);
  other = λ k c is. by k c (c.input == 0) (c.kind == 0) is;
}
  where
    rest : (k : Kept) (c : Chunk) (r s : Bool) → (if r then a_segment k else if s then a_global k else passed k).functions ≡ k.functions
    rest k c true s = refl
    rest k c false true = refl
    rest k c false false = refl

    by : (k : Kept) (c : Chunk) (i r : Bool) → (not i && r) ≡ false
        → (if i then passed k else if r then a_function k else if c.kind == 1 then a_segment k else if c.kind == 2 then a_global k else passed k).functions ≡ k.functions
    by k c true r is = refl
    by k c false true is = absurd cc
    by k c false false is = rest k c (c.kind == 1) (c.kind == 2)

segment_steps : Steps 1 (λ k. k.segments)
segment_steps = record {
  one = λ k c is. let e = is_segment k c is in (ap (λ (x : Kept). x.segments) e, ap (λ (x : Kept). x.places) e);
  other = λ k c is. by k c (c.input == 0) (c.kind == 0) (c.kind == 1) is;
}
  where
    rest : (k : Kept) (s : Bool) → (if s then a_global k else passed k).segments ≡ k.segments
    rest k true = refl
    rest k false = refl

    by : (k : Kept) (c : Chunk) (i q r : Bool) → (not i && r) ≡ false
        → (if i then passed k else if q then a_function k else if r then a_segment k else if c.kind == 2 then a_global k else passed k).segments ≡ k.segments
    by k c true q r is = refl
    by k c false true r is = refl
    by k c false false true is = absurd cc
    by k c false false false is = rest k (c.kind == 2)

global_steps : Steps 2 (λ k. k.globals)
global_steps = record {
  one = λ k c is. let e = is_global k c is in (ap (λ (x : Kept). x.globals) e, ap (λ (x : Kept). x.places) e);
  other = λ k c is. by k c (c.input == 0) (c.kind == 0) (c.kind == 1) (c.kind == 2) is;
}
  where
    by : (k : Kept) (c : Chunk) (i q s r : Bool) → (not i && r) ≡ false
        → (if i then passed k else if q then a_function k else if s then a_segment k else if r then a_global k else passed k).globals ≡ k.globals
    by k c true q s r is = refl
    by k c false true s r is = refl
    by k c false false true r is = refl
    by k c false false false true is = absurd cc
    by k c false false false false is = refl

-- ---- all

module _ (d : Data) (p : Program) (is : IsProgramOf Plain d p) where
  chunks_same : map (λ (part : Told). part.chunk) d.tables.now.parts ≡ map (λ (part : Part). part.chunk) p.parts
  chunks_same = sym (twice d.tables.now.parts) ∙ (ap (map (λ (s : SeenPart). s.chunk)) is.tables.parts ∙ told p.parts)
    where
      twice : (xs : List Told) → map (λ (s : SeenPart). s.chunk) (map (seen_part d.tables.now.types) xs) ≡ map (λ (part : Told). part.chunk) xs
      twice [] = refl
      twice (x ∷ xs) = ap (λ cs. x.chunk ∷ cs) (twice xs)

      told : (xs : List Part) → map (λ (s : SeenPart). s.chunk) (map told_part xs) ≡ map (λ (part : Part). part.chunk) xs
      told [] = refl
      told (x ∷ xs) = ap (λ cs. x.chunk ∷ cs) (told xs)

  abbrev all : Kept
  all = fold kept_chunk none_kept (map (λ (part : Part). part.chunk) p.parts)

  places_are : (c : Chunk) → (c.input == 0) ≡ false → c.kind < 3 → place_at all (position (same_chunk c) (map (λ (part : Part). part.chunk) p.parts)) ≡ partial.place_of p c.kind c
  places_are c object below = by (c.kind == 0) (c.kind == 1) refl refl
    where
      kept_of : (m : ℕ) → (c.kind == m) ≡ true → keeps m c ≡ true
      kept_of m is = ap (λ b. not b && (c.kind == m)) object ∙ is

      at_kind : (m : ℕ) → (c.kind == m) ≡ true → partial.place_of p m c ≡ partial.place_of p c.kind c
      at_kind m is = ap (λ n. partial.place_of p n c) (sym (eqb-true c.kind m is))

      by : (a b : Bool) → (c.kind == 0) ≡ a → (c.kind == 1) ≡ b → place_at all (position (same_chunk c) (map (λ (part : Part). part.chunk) p.parts)) ≡ partial.place_of p c.kind c
      by true b first second = place_is 0 (λ k. k.functions) function_steps p refl c (kept_of 0 first) ∙ at_kind 0 first
      by false true first second = place_is 1 (λ k. k.segments) segment_steps p refl c (kept_of 1 second) ∙ at_kind 1 second
      by false false first second =
          let third : (c.kind == 2) ≡ true = grind (arith, nat_tests) in
          place_is 2 (λ k. k.globals) global_steps p refl c (kept_of 2 third) ∙ at_kind 2 third

  by_chunks : AreKept p all
  by_chunks = record {
    functions = parts_are 0 (λ k. k.functions) function_steps p refl;
    segments = parts_are 1 (λ k. k.segments) segment_steps p refl;
    globals = parts_are 2 (λ k. k.globals) global_steps p refl;
    places = places_are;
  }

  -- The kept parts are those of the definition.
  pub kept_are : AreKept p (kept_parts d.tables.now.parts)
  kept_are = subst (λ cs. AreKept p (fold kept_chunk none_kept cs)) (sym chunks_same) by_chunks

-- ---- a part of the linker has no place

pub no_place : (p : Program) (kind : ℕ) (c : Chunk) → (c.input == 0) ≡ true → partial.place_of p kind c ≡ 0
no_place p kind c linkers = ap (λ o. unwrap_or o 0) (nowhere p.parts)
  where
    other : (x : Part) → is_object_part x ≡ true → same_chunk c x.chunk ≡ false
    other x object = by (same_chunk c x.chunk) refl
      where
        by : (b : Bool) → same_chunk c x.chunk ≡ b → b ≡ false
        by false is = refl
        by true is =
            let same : c ≡ x.chunk = chunk_is c x.chunk is in
            let zero_input : (x.chunk.input == 0) ≡ true = ap (λ (y : Chunk). y.input == 0) (sym same) ∙ linkers in
            absurd (let f : false ≡ true = sym (ap not zero_input) ∙ object in cc)

    nowhere : (xs : List Part) → position (same_chunk c) (map (λ (part : Part). part.chunk) (filter (λ (part : Part). is_object_part part && (part.chunk.kind == kind)) xs)) ≡ None
    nowhere [] = refl
    nowhere (x ∷ xs) = by (is_object_part x && (x.chunk.kind == kind)) refl (nowhere xs)
      where
        rest : List Chunk
        rest = map (λ (part : Part). part.chunk) (filter (λ (part : Part). is_object_part part && (part.chunk.kind == kind)) xs)

        by : (b : Bool) → (is_object_part x && (x.chunk.kind == kind)) ≡ b → position (same_chunk c) rest ≡ None
            → position (same_chunk c) (map (λ (part : Part). part.chunk) (cond b (x ∷ filter (λ (part : Part). is_object_part part && (part.chunk.kind == kind)) xs) (filter (λ (part : Part). is_object_part part && (part.chunk.kind == kind)) xs))) ≡ None
        by true is again = position_next (same_chunk c) x.chunk rest (other x (both (is_object_part x) (x.chunk.kind == kind) is).0) ∙ ap (option_map suc) again
        by false is again = again

-- The place of a chunk is that of the definition.
pub place_is_told : (p : Program) (k : Kept) (chunks : List Chunk) (c : Chunk) → c.kind < 3 → chunks ≡ map (λ (part : Part). part.chunk) p.parts → AreKept p k → place_in k chunks c ≡ partial.place_of p c.kind c
place_is_told p k chunks c below same are = by (c.input == 0) refl
  where
    by : (b : Bool) → (c.input == 0) ≡ b → (if b then 0 else place_at k (position (same_chunk c) chunks)) ≡ partial.place_of p c.kind c
    by true linkers = sym (no_place p c.kind c linkers)
    by false object = ap (λ cs. place_at k (position (same_chunk c) cs)) same ∙ are.places c object below
