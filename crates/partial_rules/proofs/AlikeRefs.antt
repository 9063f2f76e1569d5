-- References of two programs that are one but for places: what is asked of all of them is answered alike.
use Rattle.std.proofs.Common.{◌≡◌, ℕ, Bool, List, [], ◌∷◌, refl, sym, ◌∙◌}
use Rattle.std.specs.Prelude.{filter_map}
use Rattle.std.specs.List.{list_any, AllZip}
use Rattle.name_rules.specs.Entries.{InputSymbol}
use Rattle.mark_bits.specs.declared.chunk.Chunk.{Chunk}
use Rattle.link_rules.specs.Program.{Program, Part, Named, a_symbol, a_type, Ref, refs, named_ref}
use Rattle.link_rules.specs.Marks.{refs_of}
use Rattle.link_rules.specs.Keys.{parts_of_kind}
use Rattle.partial_rules.specs.Moving.{Moving, AlikeRef, AlikeNamed, AlikePart, AlikeParts}
use Rattle.partial_rules.proofs.Lists.{zip_any, any_flat_map, any_by_kinds}

module _ (m : Moving) (C : Chunk → Type 0) (K : InputSymbol → Type 0) where
  -- the references of two parts that have the same windows
  pub refs_zip : (xs ys : List Named) → AllZip (AlikeNamed m C K) xs ys → AllZip (AlikeRef m C K) (filter_map named_ref xs) (filter_map named_ref ys)
  refs_zip [] [] z = tt
  refs_zip [] (y ∷ ys) z = absurd z
  refs_zip (x ∷ xs) [] z = absurd z
  refs_zip (a_symbol a ∷ xs) (a_symbol b ∷ ys) z = (z.0, refs_zip xs ys z.1)
  refs_zip (a_symbol a ∷ xs) (a_type w ∷ ys) z = absurd z.0
  refs_zip (a_type v ∷ xs) (a_symbol b ∷ ys) z = absurd z.0
  refs_zip (a_type v ∷ xs) (a_type w ∷ ys) z = refs_zip xs ys z.1

  module _ (p q : Program) (t u : Ref → Bool) (same : (a b : Ref) → AlikeRef m C K a b → u b ≡ t a) where
    in_part : (x y : Part) → AlikePart m C K p q x y → list_any u (refs y) ≡ list_any t (refs x)
    in_part x y alike = zip_any (AlikeRef m C K) t u same (refs x) (refs y) (refs_zip x.named y.named alike.named)

    pub any_refs : (xs ys : List Part) → AlikeParts m C K p q xs ys → list_any u (refs_of ys) ≡ list_any t (refs_of xs)
    any_refs xs ys alike =
        let of_x : Part → Bool = λ x. list_any t (refs x) in
        let of_y : Part → Bool = λ y. list_any u (refs y) in
        let kind : Part → ℕ = λ part. part.chunk.kind in
        let first = zip_any (AlikePart m C K p q) of_x of_y in_part (parts_of_kind 0 xs) (parts_of_kind 0 ys) alike.functions in
        let second = zip_any (AlikePart m C K p q) of_x of_y in_part (parts_of_kind 1 xs) (parts_of_kind 1 ys) alike.segments in
        let third = zip_any (AlikePart m C K p q) of_x of_y in_part (parts_of_kind 2 xs) (parts_of_kind 2 ys) alike.globals in
        any_flat_map u refs ys ∙ (any_by_kinds of_y kind ys alike.few_too
        ∙ (rw (first, second, third) refl ∙ sym (any_flat_map t refs xs ∙ any_by_kinds of_x kind xs alike.few)))
