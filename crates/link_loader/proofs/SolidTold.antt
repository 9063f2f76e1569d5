-- The live segments that aren't zero, by their flags.
use Rattle.std.proofs.Common.{◌≡◌, ℕ, suc, ◌==◌, Bool, true, false, not, ◌&&◌, ◌||◌, cond, List, [], ◌∷◌, map, filter, get_or, slice_get, Some, option_map, refl, sym, ap, ◌∙◌}
use Rattle.std.specs.List.{list_any}
use Rattle.std.proofs.lemmas.Option.{slice_get-map, get_or_from_slice_get}
use Rattle.link_program.specs.made_symbols.declared.mode.Mode.{Mode}
use Rattle.link_program.specs.link_rules.Program as rules
use Rattle.link_program.specs.link_rules.Program.{same_chunk}
use Rattle.link_program.specs.link_rules.Values.{solid_segments, is_zero}
use Rattle.link_program.specs.Program.{IsProgramOf}
use Rattle.link_program.specs.Live.{AreLive}
use Rattle.link_program.proofs.Chunks.{chunk_is, chunk_itself}
use Rattle.link_layout.specs.declared.values.Layout.{Layout}
use Rattle.link_layout.specs.Placed.{IsPlacedIn, is_solid}
use Rattle.link_layout.specs.Seen.{is_solid_at}
use Rattle.link_layout.specs.Layout.{looked}
use Rattle.link_layout.proofs.Pairs.{filter_pairs, pairs_within}
use Rattle.link_layout.proofs.Parts.{same_part}
use Rattle.link_layout.proofs.link_numbers_lemmas.link_keys_lemmas.Any.{any_at, any_map, any_filter}

-- ---- lists

any_false : {A : Type 0} (test : A → Bool) (xs : List A) → ((k : ℕ) (x : A) → slice_get xs k ≡ Some x → test x ≡ false) → list_any test xs ≡ false
any_false test [] each = refl
any_false test (x ∷ xs) each = let h = each 0 x refl in let t = any_false test xs (λ k y at. each (suc k) y at) in λ i. h i || t i

filter_same : {A : Type 0} (f g : A → Bool) (xs : List A) → ((k : ℕ) (x : A) → slice_get xs k ≡ Some x → f x ≡ g x) → filter f xs ≡ filter g xs
filter_same f g [] each = refl
filter_same f g (x ∷ xs) each = let h = each 0 x refl in let t = filter_same f g xs (λ k y at. each (suc k) y at) in λ i. cond (h i) (x ∷ t i) (t i)

filter_twice : {A : Type 0} (p q : A → Bool) (xs : List A) → filter q (filter p xs) ≡ filter (λ x. p x && q x) xs
filter_twice p q [] = refl
filter_twice {A} p q (x ∷ xs) = by (p x) (filter_twice p q xs)
  where
    by : (r : Bool) → filter q (filter p xs) ≡ filter (λ x. p x && q x) xs → filter q (cond r (x ∷ filter p xs) (filter p xs)) ≡ cond (r && q x) (x ∷ filter (λ x. p x && q x) xs) (filter (λ x. p x && q x) xs)
    by true e = ap (λ ys. cond (q x) (x ∷ ys) ys) e
    by false e = e

-- ---- a layout

module _ (m : Mode) (p : rules.Program) (parts : List rules.Part) (d : Layout) (is : IsProgramOf m d.program p) (placed : IsPlacedIn m p parts d.placed.now) (live : List ℕ) (lives : AreLive p live parts) where
  flag_told : (n : ℕ) (x : rules.Part) → slice_get p.parts n ≡ Some x → is_solid_at (looked d) n ≡ is_solid p parts x.chunk
  flag_told n x at =
      let g : rules.Part → Bool = λ (y : rules.Part). is_solid p parts y.chunk in
      ap (λ xs. get_or xs n false) placed.solid
      ∙ get_or_from_slice_get (map g p.parts) n (g x) false (slice_get-map g p.parts n ∙ ap (option_map g) at)

  -- a live segment that isn't zero
  abbrev Solid : rules.Part → Bool
  Solid part = (part.chunk.kind == 1) && not (is_zero p part)

  -- live parts of one chunk are one
  one_part : (j k : ℕ) (x y : rules.Part) → slice_get parts j ≡ Some x → slice_get parts k ≡ Some y → same_chunk x.chunk y.chunk ≡ true → y ≡ x
  one_part j k x y at_j at_k same =
      let a = pairs_within p.parts live parts lives.are j x at_j in
      let b = pairs_within p.parts live parts lives.are k y at_k in
      same_part p.parts is.tables.differ b.0 a.0 y x b.2 a.2 (sym (chunk_is x.chunk y.chunk same))

  solid_by : (k : ℕ) (x : rules.Part) → slice_get parts k ≡ Some x → (r : Bool) → Solid x ≡ r → list_any (λ (y : rules.Part). Solid y && same_chunk x.chunk y.chunk) parts ≡ r
  solid_by k x at true solid =
      any_at (λ (y : rules.Part). Solid y && same_chunk x.chunk y.chunk) parts k x at (ap (λ b. b && same_chunk x.chunk x.chunk) solid ∙ chunk_itself x.chunk)
  solid_by k x at false solid = any_false (λ (y : rules.Part). Solid y && same_chunk x.chunk y.chunk) parts (λ j y there. each j y there (same_chunk x.chunk y.chunk) refl)
    where
      neither : (b : Bool) → (b && false) ≡ false
      neither true = refl
      neither false = refl

      each : (j : ℕ) (y : rules.Part) → slice_get parts j ≡ Some y → (r : Bool) → same_chunk x.chunk y.chunk ≡ r → (Solid y && same_chunk x.chunk y.chunk) ≡ false
      each j y there true same = ap (λ b. b && same_chunk x.chunk y.chunk) (ap Solid (one_part k j x y at there same) ∙ solid)
      each j y there false same = ap (λ b. Solid y && b) same ∙ neither (Solid y)

  solid_is : (k : ℕ) (x : rules.Part) → slice_get parts k ≡ Some x → is_solid p parts x.chunk ≡ Solid x
  solid_is k x at =
      any_map (same_chunk x.chunk) (λ (y : rules.Part). y.chunk) (solid_segments p parts)
      ∙ ap (list_any (λ (y : rules.Part). same_chunk x.chunk y.chunk)) (filter_twice (λ (y : rules.Part). y.chunk.kind == 1) (λ y. not (is_zero p y)) parts)
      ∙ any_filter (λ (y : rules.Part). same_chunk x.chunk y.chunk) Solid parts
      ∙ solid_by k x at (Solid x) refl

  -- the numbers of the live segments that aren't zero
  pub solid_told : map (slice_get p.parts) (filter (is_solid_at (looked d)) live) ≡ map Some (solid_segments p parts)
  solid_told =
      filter_pairs p.parts (is_solid_at (looked d)) (λ (x : rules.Part). is_solid p parts x.chunk) flag_told live parts lives.are
      ∙ ap (map Some) (filter_same (λ (x : rules.Part). is_solid p parts x.chunk) Solid parts solid_is ∙ sym (filter_twice (λ (y : rules.Part). y.chunk.kind == 1) (λ y. not (is_zero p y)) parts))
