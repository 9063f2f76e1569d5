-- Types of two programs that are one but for places, and all their numbers.
use Rattle.std.proofs.Common.{◌≡◌, ℕ, ◌==◌, Bool, true, false, ◌&&◌, List, [], ◌∷◌, ◌++◌, map, refl, sym, ap, subst, ◌∙◌, arith}
use Rattle.std.specs.Prelude.{filter_map, All}
use Rattle.std.specs.List.{AllZip}
use Rattle.std.proofs.lemmas.List.Elements.{All-cons, All-head, All-tail}
use Rattle.made_symbols.specs.declared.mode.Mode.TheVariants.{Plain}
use Rattle.name_rules.specs.Entries.{InputSymbol}
use Rattle.name_rules.specs.Cases.{first_entry}
use Rattle.mark_bits.specs.declared.chunk.Chunk.{Chunk}
use Rattle.type_merge.specs.Types.{merged}
use Rattle.link_rules.specs.Program.{Program, Part, Named, a_symbol, a_type, chunk_at, types_named, named_type}
use Rattle.link_rules.specs.Marks.{refs_of}
use Rattle.link_rules.specs.Keys.{callable, FunctionKey, outside, linker_function, stub, own, parts_of_kind, stub_names, part_type, type_of, is_function_at, window_types, function_type_of, entry_type, functions, types}
use Rattle.partial_rules.specs.Moving.{Moving, IsMoving, moved_function, AlikeNamed, AlikePart, AlikeParts, AlikeStage}
use Rattle.partial_rules.proofs.Lists.{find_of, zip_find, zip_flat_map, flat_map_where, map_where, map_map}
use Rattle.partial_rules.proofs.AlikeNumbers.{functions_all}

pub shuffle : (a b c : Bool) → (b && a && c) ≡ (a && b && c)
shuffle true true c = refl
shuffle true false c = refl
shuffle false true c = refl
shuffle false false c = refl

pub no_kind : (a b c : Bool) → a ≡ false → (a && b && c) ≡ false
no_kind a b c e = rw e refl

module _ (m : Moving) (C : Chunk → Type 0) (K : InputSymbol → Type 0) (is : IsMoving m C K) (p q : Program) where
  pub at_alike : (input index : ℕ) → C (chunk_at input 0 index) → (x y : Part) → AlikePart m C K p q x y
      → is_function_at (m.chunk (chunk_at input 0 index)).input (m.chunk (chunk_at input 0 index)).index y ≡ is_function_at input index x
  at_alike input index held x y alike =
      let c : Chunk = m.chunk (chunk_at input 0 index) in
      let d : Chunk = m.chunk x.chunk in
      let kind : c.kind ≡ 0 = is.chunk_kind (chunk_at input 0 index) held in
      let apart : ((d.input == c.input) && (d.kind == c.kind) && (d.index == c.index)) ≡ ((x.chunk.input == input) && (x.chunk.kind == 0) && (x.chunk.index == index)) =
      is.chunks_apart x.chunk (chunk_at input 0 index) alike.held held in
      let with_kind : ((d.input == c.input) && (d.kind == 0) && (d.index == c.index)) ≡ ((x.chunk.input == input) && (x.chunk.kind == 0) && (x.chunk.index == index)) =
      subst (λ n. ((d.input == c.input) && (d.kind == n) && (d.index == c.index)) ≡ ((x.chunk.input == input) && (x.chunk.kind == 0) && (x.chunk.index == index))) kind apart in
      ap (λ (e : Chunk). (e.kind == 0) && (e.input == c.input) && (e.index == c.index)) alike.chunk
      ∙ (shuffle (d.input == c.input) (d.kind == 0) (d.index == c.index) ∙ (with_kind ∙ sym (shuffle (x.chunk.input == input) (x.chunk.kind == 0) (x.chunk.index == index))))

  -- whether a key's type is known to be the same
  abbrev pub IsTyped : FunctionKey → Type 0
  IsTyped (outside k) = Unit {0}
  IsTyped (linker_function n) = Unit {0}
  IsTyped (stub name) = entry_type (first_entry (callable q) name) ≡ entry_type (first_entry (callable p) name)
  IsTyped (own input index) = C (chunk_at input 0 index)

  pub type_alike : (xs ys : List Part) → AlikeParts m C K p q xs ys → (f : FunctionKey) → IsTyped f → type_of q ys (moved_function m f) ≡ type_of p xs f
  type_alike xs ys alike (outside k) typed = refl
  type_alike xs ys alike (linker_function n) typed = refl
  type_alike xs ys alike (stub name) typed = ap function_type_of typed
  type_alike xs ys alike (own input index) held =
      let c : Chunk = m.chunk (chunk_at input 0 index) in
      let code : Part → Bool = λ part. part.chunk.kind == 0 in
      ap part_type (find_of (is_function_at c.input c.index) code (λ y e. no_kind (y.chunk.kind == 0) (y.chunk.input == c.input) (y.chunk.index == c.index) e) ys)
      ∙ (zip_find (AlikePart m C K p q) (is_function_at input index) (is_function_at c.input c.index) part_type part_type refl (λ x y a is. a.content.type)
      (at_alike input index held) (parts_of_kind 0 xs) (parts_of_kind 0 ys) alike.functions
      ∙ ap part_type (sym (find_of (is_function_at input index) code (λ x e. no_kind (x.chunk.kind == 0) (x.chunk.input == input) (x.chunk.index == index) e) xs)))

  -- ---- the types that windows name

  named_types : (xs ys : List Named) → AllZip (AlikeNamed m C K) xs ys → filter_map named_type ys ≡ filter_map named_type xs
  named_types [] [] z = refl
  named_types [] (y ∷ ys) z = absurd z
  named_types (x ∷ xs) [] z = absurd z
  named_types (a_symbol a ∷ xs) (a_symbol b ∷ ys) z = named_types xs ys z.1
  named_types (a_symbol a ∷ xs) (a_type w ∷ ys) z = absurd z.0
  named_types (a_type v ∷ xs) (a_symbol b ∷ ys) z = absurd z.0
  named_types (a_type v ∷ xs) (a_type w ∷ ys) z = rw (z.0, named_types xs ys z.1) refl

  windows_alike : (xs ys : List Part) → AlikeParts m C K p q xs ys → window_types ys ≡ window_types xs
  windows_alike xs ys alike =
      let code : Part → Bool = λ part. part.chunk.kind == 0 in
      flat_map_where types_named code ys alike.untyped_too
      ∙ (zip_flat_map (AlikePart m C K p q) types_named types_named (λ x y a. named_types x.named y.named a.named) (parts_of_kind 0 xs) (parts_of_kind 0 ys) alike.functions
      ∙ sym (flat_map_where types_named code xs alike.untyped))

  -- ---- all types

  stubs_typed : (names : List (List ℕ)) → All (λ name. entry_type (first_entry (callable q) name) ≡ entry_type (first_entry (callable p) name)) names → All IsTyped (map stub names)
  stubs_typed [] all = λ k d below. absurd (omega (arith, below))
  stubs_typed (n ∷ names) all =
      All-cons IsTyped (stub n) (map stub names) (All-head (λ name. entry_type (first_entry (callable q) name) ≡ entry_type (first_entry (callable p) name)) n names all)
      (stubs_typed names (All-tail (λ name. entry_type (first_entry (callable q) name) ≡ entry_type (first_entry (callable p) name)) n names all))

  pub functions_typed : (xs ys : List Part) (ep eq : List InputSymbol) → AlikeStage m C K p q xs ys ep eq → All IsTyped (functions Plain p xs)
  functions_typed xs ys ep eq s =
      functions_all m C K is p q IsTyped (λ k. tt) (λ c. tt) (λ input index c. c) xs ys s.parts (stubs_typed (stub_names p (refs_of xs)) s.stub_types)

  pub types_alike : (xs ys : List Part) (ep eq : List InputSymbol) → AlikeStage m C K p q xs ys ep eq → types q ys (map (moved_function m) (functions Plain p xs)) ≡ types p xs (functions Plain p xs)
  unfolding types
  types_alike xs ys ep eq s =
      let fs : List FunctionKey = functions Plain p xs in
      let own_types : map (type_of q ys) (map (moved_function m) fs) ≡ map (type_of p xs) fs =
      map_map (moved_function m) (type_of q ys) fs
      ∙ map_where (λ f. type_of q ys (moved_function m f)) (type_of p xs) IsTyped (type_alike xs ys s.parts) fs (functions_typed xs ys ep eq s) in
      ap merged (ap (λ ts. ts ++ window_types ys) own_types ∙ ap (λ ts. map (type_of p xs) fs ++ ts) (windows_alike xs ys s.parts))
