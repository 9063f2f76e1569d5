-- What is written.
use Rattle.std.proofs.Common.{◌≡◌, ℕ, List, [], ◌∷◌, ◌++◌, length, map, take, drop, refl, sym, ap, ◌∙◌, subst, arith, length-append, Option, Some, None, Result, Ok, Err, ℤ}
use Rattle.std.specs.List.{flat_map}
use Rattle.std.proofs.lemmas.List.{length-map}
use Rattle.std.specs.Prelude.{option_map}
use Rattle.link_program.specs.wl_base.Choice.{unless}
use Rattle.link_program.specs.wl_base.declared.fault.What.{What}
use Rattle.link_program.specs.wl_base.declared.fault.What.TheVariants.{Reference}
use Rattle.link_program.specs.wl_base.declared.layout_error.LayoutError.{LayoutError}
use Rattle.link_program.specs.wl_base.declared.layout_error.LayoutError.TheVariants.{Overflow, OutOfMemory}
use Rattle.link_program.specs.reloc_apply.declared.window.Window.{Window}
use Rattle.link_program.specs.reloc_apply.declared.window.Patch.{Patch}
use Rattle.link_program.specs.reloc_apply.declared.window.Patches.{Patches}
use Rattle.link_program.specs.reloc_apply.Windows.{value_overflow, patch_of, filled}
use Rattle.patch_pieces.specs.Judged.{judged_patches}
use Rattle.link_program.specs.reloc_apply.Apart.{AreApart}
use Rattle.link_program.specs.wl_base.Answers.{Answers}
use Rattle.link_program.specs.image_emit.declared.tree.Image.{Image}
use Rattle.link_program.specs.image_emit.declared.measuring.Measured.{Measured}
use Rattle.link_program.specs.image_emit.Measures.{LieIn, image_measure}
use Rattle.link_program.specs.image_emit.Bytes.{Tree, Block, bytes_of, tree_of}
use Rattle.link_program.specs.image_emit.Filled.{tree_filled, all_moved}
use Rattle.link_program.specs.image_emit.Pieces.{source_places, sources}
use Rattle.link_program.proofs.image_emit_lemmas.Fills.{fill_law}
use Rattle.link_program.proofs.image_emit_lemmas.Cuts.{sources_count}
use Rattle.link_program.specs.Moved.{moved_windows}
use Rattle.link_output.specs.Written.{StandInSources, Writes}
use Rattle.link_output.proofs.Lengths.{measures}
use Rattle.link_output.proofs.Moved.{all_patches, all_values}
use Rattle.link_output.proofs.Apart.{all_apart, all_lie}

-- ---- as many places as sources

abbrev bytes_of_block : Block → List ℕ
bytes_of_block b = b.bytes

counts : (wss : List (List Window)) (bss : List (List ℕ)) → StandInSources wss bss → length wss ≡ length bss
counts [] [] stand = refl
counts [] (b ∷ bs) stand = absurd stand
counts (ws ∷ wss) [] stand = absurd stand
counts (ws ∷ wss) (b ∷ bs) stand = omega (arith, counts wss bs stand.1)

as_many : (t : Tree) (wss : List (List Window)) → StandInSources wss (sources t) → length (source_places t) ≡ length wss
as_many t wss stand =
    omega (arith, sources_count t, counts wss (sources t) stand, length-append t.bodies (map bytes_of_block t.blocks), length-map t.blocks bytes_of_block)

-- ---- values

told_by : (o : Option ℤ) (windows : List Window) (what : What) (needed : ℤ)
    → (let r : Result Patches LayoutError = unless (option_map (Overflow Reference) o) (record { patches = map patch_of windows }) in r ≡ Err (Overflow what needed))
    → (what ≡ Reference) × (o ≡ Some needed)
told_by None windows what needed e = absurd (differ e)
  where
    Is : Result Patches LayoutError → Type 0
    Is (Ok p) = Unit {0}
    Is (Err f) = ⊥

    differ : {p : Patches} {f : LayoutError} → (let r : Result Patches LayoutError = Ok p in r ≡ Err f) → ⊥
    differ e = subst Is e tt
told_by (Some v) windows what needed e = (sym (ap what_of e), ap needed_of e)
  where
    what_of : Result Patches LayoutError → What
    what_of (Err (Overflow w n)) = w
    what_of r = Reference

    needed_of : Result Patches LayoutError → Option ℤ
    needed_of (Err (Overflow w n)) = Some n
    needed_of r = None

given_by : (o : Option ℤ) (windows : List Window) (p : Patches)
    → (let r : Result Patches LayoutError = unless (option_map (Overflow Reference) o) (record { patches = map patch_of windows }) in r ≡ Ok p)
    → (o ≡ None) × (p.patches ≡ map patch_of windows)
given_by None windows p e = (refl, sym (ap patches_in e))
  where
    patches_in : Result Patches LayoutError → List Patch
    patches_in (Ok p) = p.patches
    patches_in (Err f) = []
given_by (Some v) windows p e = absurd (differ e)
  where
    Is : Result Patches LayoutError → Type 0
    Is (Ok p) = ⊥
    Is (Err f) = Unit {0}

    differ : {p : Patches} {f : LayoutError} → (let r : Result Patches LayoutError = Err f in r ≡ Ok p) → ⊥
    differ e = subst Is e tt

module _ (files : List (List ℕ)) (i : Image) (m : Measured) (wss : List (List Window)) (windows written : List Window) where
  abbrev t : Tree
  t = tree_of files i

  module _ (vss : List (List Window)) (lie : LieIn files i) (measured : image_measure i ≡ Ok m) (are : windows ≡ moved_windows m.places wss) (stand : StandInSources wss (sources t)) where
    at : m.places ≡ source_places t
    at = (measures files i (Ok m) lie measured refl).1

    same_values : value_overflow windows ≡ value_overflow (flat_map (λ ws. ws) wss)
    same_values = ap value_overflow are ∙ all_values m.places wss (ap length at ∙ as_many t wss stand)

    pub refuses : (f : LayoutError) → Answers {A = Patches} (Err f) (judged_patches windows written) → Writes (Err f) wss vss files i
    refuses (Overflow what needed) e =
        let both = told_by (value_overflow windows) written what needed e in
        (both.0, sym same_values ∙ both.1)
    refuses OutOfMemory e = tt

    in_range : (p : Patches) → judged_patches windows written ≡ Ok p → value_overflow (flat_map (λ ws. ws) wss) ≡ None
    in_range p e = sym same_values ∙ (given_by (value_overflow windows) written p e).0

    module _ (same : written ≡ moved_windows m.places vss) (stand_written : StandInSources vss (sources t)) where
      same_patches : map patch_of written ≡ all_moved (source_places t) (map (map patch_of) vss)
      same_patches = ap (map patch_of) same ∙ all_patches m.places vss ∙ ap (λ ks. all_moved ks (map (map patch_of) vss)) at

      patches_are : (p : Patches) → judged_patches windows written ≡ Ok p → p.patches ≡ all_moved (source_places t) (map (map patch_of) vss)
      patches_are p e = (given_by (value_overflow windows) written p e).1 ∙ same_patches

      pub lie_apart : (ps : List Patch) → judged_patches windows written ≡ Ok (record { patches = ps }) → AreApart 0 (length (bytes_of t)) ps
      lie_apart ps e = subst (AreApart 0 (length (bytes_of t))) (sym (patches_are (record { patches = ps }) e)) (all_apart t vss stand_written)

      bytes_are : (ps : List Patch) → judged_patches windows written ≡ Ok (record { patches = ps }) → filled ps (bytes_of t) ≡ bytes_of (tree_filled (map (map patch_of) vss) t)
      bytes_are ps e = ap (λ ps. filled ps (bytes_of t)) (patches_are (record { patches = ps }) e) ∙ fill_law (map (map patch_of) vss) t (all_lie t vss stand_written)

-- The judged windows are these, and the written ones those, each as much later as its source stands.
module _ (files : List (List ℕ)) (i : Image) (m : Measured) (wss vss : List (List Window)) (windows written : List Window) (lie : LieIn files i) (measured : image_measure i ≡ Ok m)
    (are : windows ≡ moved_windows m.places wss) (same : written ≡ moved_windows m.places vss) (stand : StandInSources wss (sources (tree_of files i))) (stand_written : StandInSources vss (sources (tree_of files i))) where
  pub apart : (ps : List Patch) → judged_patches windows written ≡ Ok (record { patches = ps }) → AreApart 0 (length (bytes_of (tree_of files i))) ps
  apart ps e = lie_apart files i m wss windows written vss lie measured are stand same stand_written ps e

  pub writes : (ps : List Patch) (bytes : List ℕ) → judged_patches windows written ≡ Ok (record { patches = ps }) → bytes ≡ filled ps (bytes_of (tree_of files i))
      → (value_overflow (flat_map (λ ws. ws) wss) ≡ None) × (bytes ≡ bytes_of (tree_filled (map (map patch_of) vss) (tree_of files i)))
  writes ps bytes e is = (
    in_range files i m wss windows written vss lie measured are stand (record { patches = ps }) e,
    is ∙ bytes_are files i m wss windows written vss lie measured are stand same stand_written ps e,
  )

-- what was written over all of a buffer
pub front_is : (n : ℕ) (xs items : List ℕ) → length xs ≡ n → take n (xs ++ drop (length xs) items) ≡ xs
front_is n xs items e = subst (λ k. take k (xs ++ drop (length xs) items) ≡ xs) e (taken xs (drop (length xs) items))
  where
    taken : (xs ys : List ℕ) → take (length xs) (xs ++ ys) ≡ xs
    taken [] ys = refl
    taken (x ∷ xs) ys = ap (λ zs. x ∷ zs) (taken xs ys)
