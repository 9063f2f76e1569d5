-- Live parts by their numbers.
use Rattle.std.proofs.Common.{◌≡◌, ℕ, ◌==◌, ◌&&◌, Bool, true, false, not, cond, ◌||◌, List, [], ◌∷◌, filter, get_or, slice_get, map, position, refl, sym, ap, subst, ◌∙◌, Option, Some, None, option_map, eq-eqb, eqb-true}
use Rattle.std.specs.List.{list_any}
use Rattle.std.proofs.lemmas.List.Quantifiers.{position-Some}
use Rattle.std.proofs.lemmas.Option.{slice_get-map, get_or_from_slice_get, same_Some}
use Rattle.link_marks.specs.link_program.mark_bits.declared.chunk.Chunk.{Chunk}
use Rattle.link_marks.specs.link_program.link_rules.Program as rules
use Rattle.link_marks.specs.link_program.link_rules.Program.{same_chunk}
use Rattle.link_marks.specs.link_program.link_rules.Marks.{is_in, is_at_chunk}
use Rattle.link_marks.specs.link_program.name_rules.Entries.{ImportKey}
use Rattle.link_marks.specs.link_program.declared.program.Tables.{Tables}
use Rattle.link_marks.specs.link_program.Look.{no_part}
use Rattle.link_marks.specs.link_program.Seen.{SeenPart, seen_part, told_part}
use Rattle.link_marks.specs.link_program.Program.{ChunksDiffer, AreTables}
use Rattle.link_marks.proofs.link_program_lemmas.Chunks.{chunk_is, stands_at}
use Rattle.link_marks.specs.Seen.{number_in}
use Rattle.lost_ctors.specs.Alive.{input_of, is_other, parts_of}

any_filter : (f g : ℕ → Bool) (ns : List ℕ) → list_any f (filter g ns) ≡ list_any (λ n. g n && f n) ns
any_filter f g [] = refl
any_filter f g (n ∷ ns) = by (g n) (any_filter f g ns)
  where
    by : (b : Bool) → list_any f (filter g ns) ≡ list_any (λ n. g n && f n) ns → list_any f (cond b (n ∷ filter g ns) (filter g ns)) ≡ ((b && f n) || list_any (λ n. g n && f n) ns)
    by true rest = ap (λ b. f n || b) rest
    by false rest = rest

module _ (names : List (List ℕ)) (imports : List ImportKey) (t : Tables) (p : rules.Program) (are : AreTables names imports t p) where
  -- the chunk of a part of a number
  chunk_at : (n : ℕ) (part : rules.Part) → slice_get p.parts n ≡ Some part → slice_get t.chunks n ≡ Some part.chunk
  chunk_at n part at = ap (λ l. slice_get l n) are.chunks ∙ slice_get-map (λ (part : rules.Part). part.chunk) p.parts n ∙ ap (option_map (λ (part : rules.Part). part.chunk)) at

  pub input_is : (n : ℕ) (part : rules.Part) → slice_get p.parts n ≡ Some part → input_of t n ≡ part.chunk.input
  input_is n part at = by (slice_get t.parts n) refl
    where
      told : option_map (seen_part t.types) (slice_get t.parts n) ≡ Some (told_part part)
      told = sym (slice_get-map (seen_part t.types) t.parts n) ∙ ap (λ l. slice_get l n) are.parts ∙ slice_get-map told_part p.parts n ∙ ap (option_map told_part) at

      by : (o : _) → slice_get t.parts n ≡ o → input_of t n ≡ part.chunk.input
      by None is = absurd (let e : None ≡ Some (told_part part) = ap (option_map (seen_part t.types)) (sym is) ∙ told in cc)
      by (Some q) is =
          let same : seen_part t.types q ≡ told_part part = same_Some (seen_part t.types q) (told_part part) (ap (option_map (seen_part t.types)) (sym is) ∙ told) in
          ap (λ q. q.chunk.input) (get_or_from_slice_get t.parts n q no_part is) ∙ ap (λ (s : SeenPart). s.chunk.input) same

  abbrev pub is_own : Option ℕ → ℕ → Bool
  is_own None n = false
  is_own (Some own) n = own == n

  differ : ChunksDiffer t.chunks
  differ = subst ChunksDiffer (sym are.chunks) are.differ

  own_is : (c : Option Chunk) (n : ℕ) (part : rules.Part) → slice_get p.parts n ≡ Some part → is_own (number_in t.chunks c) n ≡ is_at_chunk c part
  own_is None n part at = refl
  own_is (Some c) n part at = by (same_chunk c part.chunk) refl
    where
      by : (b : Bool) → same_chunk c part.chunk ≡ b → is_own (position (same_chunk c) t.chunks) n ≡ b
      by true same =
          let is : c ≡ part.chunk = chunk_is c part.chunk same in
          let there : slice_get t.chunks n ≡ Some c = chunk_at n part at ∙ ap Some (sym is) in
          ap (λ o. is_own o n) (stands_at t.chunks c n there (λ k other. differ k n c other there)) ∙ eq-eqb n n refl
      by false not = found (position (same_chunk c) t.chunks) refl
        where
          found : (o : Option ℕ) → position (same_chunk c) t.chunks ≡ o → is_own o n ≡ false
          found None is = refl
          found (Some k) is = at_k (k == n) refl
            where
              at_k : (b : Bool) → (k == n) ≡ b → b ≡ false
              at_k false e = refl
              at_k true e = absurd (
                  let same : k ≡ n = eqb-true k n e in
                  let passes = (position-Some (same_chunk c) t.chunks k part.chunk is).1 in
                  let chunk : get_or t.chunks k part.chunk ≡ part.chunk = ap (λ i. get_or t.chunks i part.chunk) same ∙ get_or_from_slice_get t.chunks n part.chunk part.chunk (chunk_at n part at) in
                  let e : true ≡ false = sym passes ∙ ap (same_chunk c) chunk ∙ not in
                  cc)

  other_is : (o : Option ℕ) (n : ℕ) → is_other o n ≡ not (is_own o n)
  other_is None n = refl
  other_is (Some own) n = refl

  -- whether a test holds of some live part
  any_part : (f : rules.Part → Bool) (g : ℕ → Bool) → ((n : ℕ) (part : rules.Part) → slice_get p.parts n ≡ Some part → g n ≡ f part) → (numbers : List ℕ) (parts : List rules.Part)
      → map (slice_get p.parts) numbers ≡ map Some parts → list_any g numbers ≡ list_any f parts
  any_part f g same [] [] is = refl
  any_part f g same [] (q ∷ qs) is = absurd cc
  any_part f g same (n ∷ ns) [] is = absurd cc
  any_part f g same (n ∷ ns) (q ∷ qs) is =
      let at : slice_get p.parts n ≡ Some q = cc in
      let rest : map (slice_get p.parts) ns ≡ map Some qs = cc in
      λ i. same n q at i || any_part f g same ns qs rest i

  -- of an input, another than the own one is live
  pub beside : (input : ℕ) (c : Option Chunk) (numbers : List ℕ) (parts : List rules.Part) → map (slice_get p.parts) numbers ≡ map Some parts
      → list_any (is_other (number_in t.chunks c)) (parts_of t input numbers) ≡ list_any (λ part. is_in input part && not (is_at_chunk c part)) parts
  beside input c numbers parts is =
      any_filter (is_other (number_in t.chunks c)) (λ n. input_of t n == input) numbers
      ∙ any_part (λ part. is_in input part && not (is_at_chunk c part)) (λ n. (input_of t n == input) && is_other (number_in t.chunks c) n)
      (λ n part at. let i = input_is n part at in let o = other_is (number_in t.chunks c) n ∙ ap not (own_is c n part at) in λ k. (i k == input) && o k) numbers parts is

  -- of an input, one is live
  pub some_of : (input : ℕ) (numbers : List ℕ) (parts : List rules.Part) → map (slice_get p.parts) numbers ≡ map Some parts
      → list_any (λ n. true) (parts_of t input numbers) ≡ list_any (is_in input) parts
  some_of input numbers parts is =
      any_filter (λ n. true) (λ n. input_of t n == input) numbers
      ∙ any_part (is_in input) (λ n. (input_of t n == input) && true) (λ n part at. and_true (input_of t n == input) ∙ ap (λ k. k == input) (input_is n part at)) numbers parts is
    where
      and_true : (b : Bool) → (b && true) ≡ b
      and_true true = refl
      and_true false = refl

  -- the own one is live
  pub own_lives : (c : Option Chunk) (numbers : List ℕ) (parts : List rules.Part) → map (slice_get p.parts) numbers ≡ map Some parts
      → list_any (is_own (number_in t.chunks c)) numbers ≡ list_any (is_at_chunk c) parts
  own_lives c numbers parts is = any_part (is_at_chunk c) (is_own (number_in t.chunks c)) (λ n part at. own_is c n part at) numbers parts is
