-- Walking over sections, as a loop does that keeps the first one of an id.
use Rattle.std.proofs.Common.{◌≡◌, ℕ, suc, ◌-◌, ◌+◌, ◌≤◌, ◌<◌, Bool, true, false, cond, eqb, List, [], ◌∷◌, Option, Some, None, Result, Ok, Err, length, refl, sym, ap, ◌∙◌, arith}
use Rattle.std.proofs.lemmas.Bool.{eqb-true}
use Rattle.wasm_instr.specs.wasm_grammar.declared.fault.Stop.{Stop}
use Rattle.case_objects.specs.Functions.{Section, section_at, sections_at, contents_of, found_first, found_at, found_with}
use Rattle.wasm_instr.specs.wasm_grammar.Reading.{◌>>=◌}

-- nothing more is found
no_more : (before : Option (List ℕ)) → found_first before None ≡ before
no_more (Some contents) = refl
no_more None = refl

-- a section, and those after it
one_more : (id : ℕ) (before : Option (List ℕ)) (s : Section) (read : Result (List Section) Stop) → found_with id before (read >>= λ others. Ok (s ∷ others)) ≡ found_with id (found_at id before s) read
one_more id before s (Err e) = refl
one_more id (Some contents) s (Ok others) = refl
one_more id None s (Ok others) = by_case (eqb s.id id)
  where
    by_case : (q : Bool) → (let found : Result (Option (List ℕ)) Stop = Ok (cond q (Some s.contents) (contents_of id others)) in found ≡ Ok (found_first (cond q (Some s.contents) None) (contents_of id others)))
    by_case true = refl
    by_case false = refl

module _ (id n i end : ℕ) (before : Option (List ℕ)) (bytes : List ℕ) (total : Result (Option (List ℕ)) Stop) where
  pub goes_on : (s : Section) (after : List ℕ) (now : Option (List ℕ)) → i < n → eqb (length bytes) 0 ≡ false → section_at end bytes ≡ Ok (s, after) → now ≡ found_at id before s
      → found_with id before (sections_at (n - i) end bytes) ≡ total → found_with id now (sections_at (n - (i + 1)) end after) ≡ total
  unfolding sections_at
  goes_on s after now below some read is so_far =
      let k : n - i ≡ suc (n - (i + 1)) = omega arith in
      let one : found_with id before (sections_at (n - i) end bytes) ≡ found_with id (found_at id before s) (sections_at (n - (i + 1)) end after) = rw k (step bytes some read) in
      rw is (sym one ∙ so_far)
    where
      step : (all : List ℕ) → eqb (length all) 0 ≡ false → section_at end all ≡ Ok (s, after) → found_with id before (sections_at (suc (n - (i + 1))) end all) ≡ found_with id (found_at id before s) (sections_at (n - (i + 1)) end after)
      step [] has first = absurd cc
      step (b ∷ rest) has first = rw first (one_more id before s (sections_at (n - (i + 1)) end after))

  pub ends : (e : Stop) → i < n → eqb (length bytes) 0 ≡ false → section_at end bytes ≡ Err e
      → found_with id before (sections_at (n - i) end bytes) ≡ total → total ≡ Err e
  unfolding sections_at
  ends e below some read so_far =
      let k : n - i ≡ suc (n - (i + 1)) = omega arith in
      let one : found_with id before (sections_at (n - i) end bytes) ≡ Err e = rw k (step bytes some read) in
      sym so_far ∙ one
    where
      step : (all : List ℕ) → eqb (length all) 0 ≡ false → section_at end all ≡ Err e → found_with id before (sections_at (suc (n - (i + 1))) end all) ≡ Err e
      step [] has first = absurd cc
      step (b ∷ rest) has first = rw first refl

  pub stops : eqb (length bytes) 0 ≡ true → found_with id before (sections_at (n - i) end bytes) ≡ total → total ≡ Ok before
  unfolding sections_at
  stops none so_far = sym so_far ∙ step bytes none
    where
      step : (all : List ℕ) → eqb (length all) 0 ≡ true → found_with id before (sections_at (n - i) end all) ≡ Ok before
      step [] has = ap Ok (no_more before)
      step (b ∷ rest) has = absurd (omega (arith, eqb-true (length (b ∷ rest)) 0 has))

  pub is_done : n ≤ i → found_with id before (sections_at (n - i) end bytes) ≡ total → total ≡ Ok before
  unfolding sections_at
  is_done passed so_far =
      let k : n - i ≡ 0 = omega arith in
      let one : found_with id before (sections_at (n - i) end bytes) ≡ Ok before = rw k (step bytes) in
      sym so_far ∙ one
    where
      step : (all : List ℕ) → found_with id before (sections_at 0 end all) ≡ Ok before
      step [] = ap Ok (no_more before)
      step (b ∷ rest) = ap Ok (no_more before)
