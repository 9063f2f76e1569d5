-- What is measured and written is the bytes of the module.
use Rattle.std.proofs.Common.{◌≡◌, ℕ, zero, suc, ◌+◌, ◌-◌, ◌^◌, ◌<◌, ◌≤◌, List, [], ◌∷◌, ◌++◌, length, take, drop, slice_index_or, Bool, true, false, nat_lt, nat_le, ◌&&◌, min, max, pos, Option, Ok, Err, refl, sym, ap, ◌∙◌, subst, arith, rules}
use Rattle.std.proofs.lemmas.List.{length-take-le, length-drop, drop-drop}
use Rattle.std.proofs.Math.Seq.{take-length}
use Rattle.std.specs.List.{All, list_all}
use Rattle.std.specs.Prelude.{if◌then◌else◌, slice_range}
use Rattle.wasm_module.specs.wasm_instr.wl_base.declared.span.Span.{Span}
use Rattle.wasm_module.specs.wasm_instr.wl_base.declared.fault.What.TheVariants.{OutputLength}
use Rattle.wasm_module.specs.wasm_instr.wl_base.declared.layout_error.LayoutError.TheVariants.{Overflow}
use Rattle.wl_fan.specs.Slices.{Works}
use Rattle.wl_fan.proofs.Whole.{whole}
use Rattle.image_emit.specs.declared.tree.Image.{Image}
use Rattle.image_emit.specs.declared.tree.Source.{Source}
use Rattle.image_emit.specs.declared.tree.Source.TheVariants.{File, Own}
use Rattle.image_emit.specs.declared.tree.PlacedSource.{PlacedSource}
use Rattle.image_emit.specs.declared.measuring.Measured.{Measured}
use Rattle.image_emit.specs.Bytes.{Tree, tree_of, source_bytes, bytes_of}
use Rattle.image_emit.specs.Pieces.{source_places}
use Rattle.image_emit.specs.Sizes.{source_len, bodies_len, data_len, image_len, image_code, image_places}
use Rattle.image_emit.specs.Parts.{Sums, part_start}
use Rattle.image_emit.specs.PartLaws.{start_rises, start_zero}
use Rattle.image_emit.specs.Measures.{Lies, LieIn, lies, placed_lies, measured, measure_of, image_measure}
use Rattle.image_emit.proofs.Lengths.{Long, PlacedLong, flat_len, data_bytes_len, measure_is, len_is, places_are, blank_measure}
use Rattle.image_emit.proofs.Cuts.{start_past}

and_left : (a b : Bool) → (a && b) ≡ true → a ≡ true
and_left true b holds = refl
and_left false b holds = holds

and_right : (a b : Bool) → (a && b) ≡ true → b ≡ true
and_right true b holds = holds
and_right false b holds = search rules

-- A measure

measured_step : (len : ℕ) (code : Option Span) (places : List ℕ) (m : Measured) (b : Bool) → nat_lt (2 ^ 31 - 1) len ≡ b → measured len code places ≡ Ok m
    → (len < 2 ^ 31) × (m.len ≡ len) × (m.places ≡ places)
measured_step len code places m true is said =
    let refused : measured len code places ≡ Err (Overflow OutputLength (pos (min len (2 ^ 63 - 1)))) =
    ap (λ c. if c then Err (Overflow OutputLength (pos (min len (2 ^ 63 - 1)))) else Ok (record { len = len; code = code; places = places })) is in
    absurd (cc)
measured_step len code places m false is said =
    let given : measured len code places ≡ Ok (record { len = len; code = code; places = places }) =
    ap (λ c. if c then Err (Overflow OutputLength (pos (min len (2 ^ 63 - 1)))) else Ok (record { len = len; code = code; places = places })) is in
    let now : Measured = record { len = len; code = code; places = places } in
    let same : m ≡ now = cc in
    let low : len < 2 ^ 31 = search rules in
    (low, ap (λ (x : Measured). x.len) same, ap (λ (x : Measured). x.places) same)

module _ (files : List (List ℕ)) where
  lies_from : (s : Source) → lies files s ≡ true → Lies files s
  lies_from (File f) holds = fits f.span.start f.span.len (length (slice_index_or files f.file [])) holds
    where
      fits : (start n len : ℕ) → (nat_le start len && nat_le n (len - start)) ≡ true → start + n ≤ len
      fits start n len holds = search rules
  lies_from (Own bytes) holds = tt

  pub lie_from : (i : Image) → list_all (lies files) i.bodies ≡ true → list_all (placed_lies files) i.blocks ≡ true → LieIn files i
  lie_from i bodies blocks = record {
    of_bodies = λ k d below. lies_from (slice_index_or i.bodies k d) (each (lies files) i.bodies bodies k d below);
    of_blocks = λ k d below. lies_from (slice_index_or i.blocks k d).source (each (placed_lies files) i.blocks blocks k d below);
  }
    where
      each : {A : Type 0} (test : A → Bool) (xs : List A) → list_all test xs ≡ true → (k : ℕ) (d : A) → k < length xs → test (slice_index_or xs k d) ≡ true
      each test [] all k d below = absurd (omega (arith, below))
      each test (x ∷ xs) all zero d below = and_left (test x) (list_all test xs) all
      each test (x ∷ xs) all (suc k) d below = each test xs (and_right (test x) (list_all test xs) all) k d (omega (arith, below))

  -- and back
  lies_back : (s : Source) → Lies files s → lies files s ≡ true
  lies_back (File f) lie = within f.span.start f.span.len (length (slice_index_or files f.file [])) lie
    where
      within : (start n len : ℕ) → start + n ≤ len → (nat_le start len && nat_le n (len - start)) ≡ true
      within start n len lie = search rules
  lies_back (Own bytes) lie = refl

  all_lie : (ss : List Source) → All (Lies files) ss → list_all (lies files) ss ≡ true
  all_lie [] all = refl
  all_lie (s ∷ ss) all = rw (lies_back s (all 0 s (omega arith))) (all_lie ss (λ k d below. all (suc k) d (omega (arith, below))))

  all_placed_lie : (ps : List PlacedSource) → All (λ p. Lies files p.source) ps → list_all (placed_lies files) ps ≡ true
  all_placed_lie [] all = refl
  all_placed_lie (p ∷ ps) all = rw (lies_back p.source (all 0 p (omega arith))) (all_placed_lie ps (λ k d below. all (suc k) d (omega (arith, below))))

  pub bodies_back : (i : Image) → LieIn files i → list_all (lies files) i.bodies ≡ true
  bodies_back i lie = all_lie i.bodies lie.of_bodies

  pub lie_back : (i : Image) → LieIn files i → (list_all (lies files) i.bodies && list_all (placed_lies files) i.blocks) ≡ true
  lie_back i lie = rw (all_lie i.bodies lie.of_bodies) (all_placed_lie i.blocks lie.of_blocks)

  source_long : (s : Source) → Lies files s → length (source_bytes files s) ≡ source_len s
  source_long (File f) lies =
      let xs : List ℕ = slice_index_or files f.file [] in
      length-take-le f.span.len (drop f.span.start xs) (omega (arith, lies, length-drop f.span.start xs))
  source_long (Own bytes) lies = refl

  all_long : (ss : List Source) → All (Lies files) ss → Long (source_bytes files) ss
  all_long [] all = tt
  all_long (s ∷ ss) all = (source_long s (all 0 s (omega arith)), all_long ss (λ k d below. all (suc k) d (omega (arith, below))))

  all_placed : (ps : List PlacedSource) → All (λ p. Lies files p.source) ps → PlacedLong (source_bytes files) ps
  all_placed [] all = tt
  all_placed (p ∷ ps) all = (source_long p.source (all 0 p (omega arith)), all_placed ps (λ k d below. all (suc k) d (omega (arith, below))))

  module _ (i : Image) (lie : LieIn files i) where
    bodies_long : Long (source_bytes files) i.bodies
    bodies_long = all_long i.bodies lie.of_bodies

    blocks_long : PlacedLong (source_bytes files) i.blocks
    blocks_long = all_placed i.blocks lie.of_blocks

    -- the measure without files is that of the bytes, whatever the files hold
    pub files_measure : measure_of (tree_of files i) ≡ image_measure i
    files_measure = measure_is (source_bytes files) i bodies_long blocks_long ∙ sym (blank_measure i)

    pub sums : Sums files i
    sums = (flat_len (source_bytes files) i.bodies bodies_long, data_bytes_len (source_bytes files) i.blocks blocks_long)

    module _ (m : Measured) (is : image_measure i ≡ Ok m) where
      said : (image_len i < 2 ^ 31) × (m.len ≡ image_len i) × (m.places ≡ image_places i)
      said = measured_step (image_len i) (image_code i) (image_places i) m (nat_lt (2 ^ 31 - 1) (image_len i)) refl (sym (blank_measure i) ∙ is)

      pub long : m.len ≡ length (bytes_of (tree_of files i))
      long = said.1 ∙ sym (len_is (source_bytes files) i bodies_long blocks_long)

      pub placed : m.places ≡ source_places (tree_of files i)
      placed = said.2 ∙ sym (places_are (source_bytes files) i bodies_long blocks_long)

      pub short : (m.len < 2 ^ 31) × (bodies_len i.bodies < 2 ^ 31) × (data_len i.blocks < 2 ^ 31)
      short = (omega (arith, said.0, said.1), omega (arith, said.0), omega (arith, said.0))

-- All parts

take_both : (m n : ℕ) (xs : List ℕ) → take m xs ++ take n (drop m xs) ≡ take (m + n) xs
take_both zero n xs = let e : n ≡ 0 + n = omega arith in ap (λ k. take k xs) e
take_both (suc m) n [] = nothing n
  where
    nothing : (n : ℕ) → take {A = ℕ} n [] ≡ take (suc m + n) []
    nothing zero = none (suc m + 0)
      where
        none : (k : ℕ) → [] ≡ take {A = ℕ} k []
        none zero = refl
        none (suc k) = refl
    nothing (suc n) = none (suc m + suc n)
      where
        none : (k : ℕ) → [] ≡ take {A = ℕ} k []
        none zero = refl
        none (suc k) = refl
take_both (suc m) n (x ∷ xs) = let e : suc (m + n) ≡ suc m + n = omega arith in ap (λ zs. x ∷ zs) (take_both m n xs) ∙ ap (λ k. take k (x ∷ xs)) e

range_both : (xs : List ℕ) (a b c : ℕ) → a ≤ b → b ≤ c → slice_range xs a b ++ slice_range xs b c ≡ slice_range xs a c
range_both xs a b c low high =
    let sum : (b - a) + (c - b) ≡ c - a = omega (arith, low, high) in
    let next : a + (b - a) ≡ b = omega (arith, low) in
    let from : drop b xs ≡ drop (b - a) (drop a xs) = ap (λ k. drop k xs) (sym next) ∙ sym (drop-drop (b - a) a xs) in
    ap (λ zs. take (b - a) (drop a xs) ++ take (c - b) zs) from ∙ take_both (b - a) (c - b) (drop a xs) ∙ ap (λ k. take k (drop a xs)) sum

module _ (t : Tree) (width : ℕ) (some : 1 ≤ width) (few : width ≤ max 1 (length (source_places t))) where
  cut : ℕ → ℕ
  cut part = part_start t width part

  Run : ℕ → ℕ → List ℕ → List ℕ → Type 0
  Run p q old new = (p ≤ q) × (new ≡ slice_range (bytes_of t) (cut p) (cut q))

  pub room : (out : List ℕ) → length out ≡ length (bytes_of t) → length out ≡ part_start t width (0 + width) - part_start t width 0
  room out is =
      let w : 0 + width ≡ width = omega arith in
      let e = ap (part_start t width) w in
      omega (arith, is, e, start_zero t width some few, start_past t width some few width (omega arith))

  -- the parts are the whole
  pub all_written : (old new : List ℕ) → length old ≡ length (bytes_of t) → length new ≡ length old
      → Works (λ part xs ys. ys ≡ slice_range (bytes_of t) (part_start t width part) (part_start t width (part + 1))) (part_start t width) 0 width old new
      → new ≡ bytes_of t
  unfolding Run cut
  all_written old new is same works =
      let n : ℕ = width - 1 in
      let w : n + 1 ≡ width = omega (arith, some) in
      let last : 0 + (n + 1) ≡ width = omega (arith, some) in
      let end : cut (0 + (n + 1)) ≡ length (bytes_of t) = ap cut last ∙ start_past t width some few width (omega arith) in
      let begin = start_zero t width some few in
      let long : length old ≡ cut (0 + (n + 1)) - cut 0 = omega (arith, is, end, begin) in
      let run : Run 0 (0 + (n + 1)) old new = whole cut (λ part xs ys. ys ≡ slice_range (bytes_of t) (cut part) (cut (part + 1))) Run
      (λ k xs ys worked. (omega arith, worked))
      (λ p q r xs xs' ys ys' lx ly a b. (
        omega (arith, a.0, b.0),
        ap (λ zs. zs ++ ys') a.1 ∙ ap (λ zs. slice_range (bytes_of t) (cut p) (cut q) ++ zs) b.1
            ∙ range_both (bytes_of t) (cut p) (cut q) (cut r) (start_rises t width some few p q a.0) (start_rises t width some few q r b.0),
      ))
      0 n (λ p q le below. start_rises t width some few p q le) old new long same
      (subst (λ k. Works (λ part xs ys. ys ≡ slice_range (bytes_of t) (cut part) (cut (part + 1))) cut 0 k old new) (sym w) works) in
      run.1 ∙ ap (λ k. slice_range (bytes_of t) k (cut (0 + (n + 1)))) begin ∙ ap (λ k. take k (bytes_of t)) (end' end) ∙ take-length (bytes_of t)
    where
      end' : cut (0 + ((width - 1) + 1)) ≡ length (bytes_of t) → cut (0 + ((width - 1) + 1)) - 0 ≡ length (bytes_of t)
      end' e = omega (arith, e)
