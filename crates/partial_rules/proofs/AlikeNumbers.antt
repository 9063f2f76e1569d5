-- The numbered things of two programs that are one but for places: each list of keys is the moved one.
use Rattle.std.proofs.Common.{◌≡◌, ℕ, ◌==◌, Bool, true, false, ◌&&◌, not, List, [], ◌∷◌, ◌++◌, map, filter, refl, sym, ap, subst, ◌∙◌, arith}
use Rattle.std.specs.Prelude.{Option, Some, None, option_map, filter_map, All}
use Rattle.std.specs.List.{list_any}
use Rattle.std.proofs.lemmas.Bool.Decides.{nat_tests}
use Rattle.std.proofs.lemmas.List.{map-append}
use Rattle.std.proofs.lemmas.List.Elements.{All-append, All-cons}
use Rattle.object_file.specs.wl_base.Choice.{given}
use Rattle.made_symbols.specs.declared.mode.Mode.TheVariants.{Plain}
use Rattle.name_rules.specs.Entries.{InputSymbol, ImportKey, same_import}
use Rattle.name_rules.specs.Meanings.{Meaning, here, imported, null, nothing}
use Rattle.mark_bits.specs.declared.chunk.Chunk.{Chunk}
use Rattle.link_rules.specs.Program.{Program, Part, Ref, chunk_at}
use Rattle.link_rules.specs.Marks.{refs_of}
use Rattle.link_rules.specs.Keys.{FunctionKey, outside, linker_function, stub, own, parts_of_kind, import_of, used_imports, has_import, imports_by, is_function_type, function_imports_of, stub_names, made_function_key, own_function_key, defined_functions, functions, imports_in_order}
use Rattle.partial_rules.specs.Moving.{Moving, IsMoving, moved_meaning, moved_function, AlikeRef, AlikePart, AlikeParts, AlikeStage}
use Rattle.partial_rules.proofs.Lists.{filter_map_of, zip_filter_map, filter_same, map_map, opt_any, any_filter_map, any_filter, filter_map_all, zip_first}
use Rattle.partial_rules.proofs.AlikeRefs.{any_refs}
use Rattle.partial_rules.proofs.AlikeKeys.{KnowsFunction}

pub is_zero : (n : ℕ) → (n == 0) ≡ true → n ≡ 0
is_zero n e = grind (arith, nat_tests, e)

is_that : (n k : ℕ) → (n == k) ≡ true → n ≡ k
is_that n k e = grind (arith, nat_tests, e)

pub given_none : {A : Type 0} (t k : Bool) (a : A) → k ≡ false → given (t && k) a ≡ None
given_none true k a e = rw e refl
given_none false k a e = refl

import_moves : (m : Moving) (x : Meaning) → import_of (moved_meaning m x) ≡ import_of x
import_moves m (here e) = refl
import_moves m (imported k) = refl
import_moves m null = refl
import_moves m nothing = refl

-- whether one of the references means an import
abbrev means_import : ImportKey → Ref → Bool
means_import k ref = opt_any (same_import k) (import_of ref.meaning)

used_is : (k : ImportKey) (refs : List Ref) → has_import (used_imports (filter (imports_by Plain) refs)) k ≡ list_any (means_import k) refs
used_is k refs =
    any_filter_map (same_import k) (λ (ref : Ref). import_of ref.meaning) (filter (imports_by Plain) refs) ∙ any_filter (means_import k) (imports_by Plain) refs

module _ (m : Moving) (C : Chunk → Type 0) (K : InputSymbol → Type 0) (is : IsMoving m C K) (p q : Program) where
  -- ---- imports

  import_alike : (k : ImportKey) (a b : Ref) → AlikeRef m C K a b → means_import k b ≡ means_import k a
  import_alike k a b r = ap (λ x. opt_any (same_import k) (import_of x)) r.meaning ∙ ap (opt_any (same_import k)) (import_moves m a.meaning)

  pub used_alike : (xs ys : List Part) → AlikeParts m C K p q xs ys → (k : ImportKey)
      → has_import (used_imports (filter (imports_by Plain) (refs_of ys))) k ≡ has_import (used_imports (filter (imports_by Plain) (refs_of xs))) k
  used_alike xs ys alike k =
      used_is k (refs_of ys) ∙ (any_refs m C K p q (means_import k) (means_import k) (import_alike k) xs ys alike ∙ sym (used_is k (refs_of xs)))

  pub function_imports_alike : (xs ys : List Part) (ep eq : List InputSymbol) → AlikeStage m C K p q xs ys ep eq → function_imports_of Plain q (refs_of ys) ≡ function_imports_of Plain p (refs_of xs)
  function_imports_alike xs ys ep eq s =
      filter_same (λ k. is_function_type k.type && has_import (used_imports (filter (imports_by Plain) (refs_of ys))) k) (λ k. is_function_type k.type && has_import (used_imports (filter (imports_by Plain) (refs_of xs))) k)
      (λ k. ap (λ b. is_function_type k.type && b) (used_alike xs ys s.parts k)) (imports_in_order q)
      ∙ ap (filter (λ k. is_function_type k.type && has_import (used_imports (filter (imports_by Plain) (refs_of xs))) k)) s.imports

  -- ---- functions of parts

  abbrev is_code : Part → Bool
  is_code part = part.chunk.kind == 0

  made_alike : (x y : Part) → AlikePart m C K p q x y → made_function_key y ≡ option_map (moved_function m) (made_function_key x)
  made_alike x y alike = by_chunk (x.chunk.input == 0) (x.chunk.kind == 0) refl refl
    where
      by_chunk : (r k : Bool) → (x.chunk.input == 0) ≡ r → (x.chunk.kind == 0) ≡ k → made_function_key y ≡ option_map (moved_function m) (given (r && k) (linker_function x.chunk.index))
      by_chunk true true zero code =
          let stays : y.chunk ≡ x.chunk = alike.chunk ∙ is.chunk_stays x.chunk alike.held (is_zero x.chunk.input zero) in
          ap (λ (c : Chunk). given ((c.input == 0) && (c.kind == 0)) (linker_function c.index)) stays ∙ rw (zero, code) refl
      by_chunk true false zero code =
          let stays : y.chunk ≡ x.chunk = alike.chunk ∙ is.chunk_stays x.chunk alike.held (is_zero x.chunk.input zero) in
          ap (λ (c : Chunk). given ((c.input == 0) && (c.kind == 0)) (linker_function c.index)) stays ∙ rw (zero, code) refl
      by_chunk false k other code =
          ap (λ (c : Chunk). given ((c.input == 0) && (c.kind == 0)) (linker_function c.index)) alike.chunk ∙ rw (is.chunk_made x.chunk alike.held ∙ other) refl

  own_alike : (x y : Part) → AlikePart m C K p q x y → own_function_key y ≡ option_map (moved_function m) (own_function_key x)
  own_alike x y alike = ap own_of alike.chunk ∙ by_chunk (x.chunk.input == 0) (x.chunk.kind == 0) refl refl
    where
      own_of : Chunk → Option FunctionKey
      own_of c = given (not (c.input == 0) && (c.kind == 0)) (own c.input c.index)

      kinds : (m.chunk x.chunk).kind ≡ x.chunk.kind
      kinds = is.chunk_kind x.chunk alike.held

      by_chunk : (r k : Bool) → (x.chunk.input == 0) ≡ r → (x.chunk.kind == 0) ≡ k → own_of (m.chunk x.chunk) ≡ option_map (moved_function m) (given (not r && k) (own x.chunk.input x.chunk.index))
      by_chunk true k zero code = rw (is.chunk_made x.chunk alike.held ∙ zero) refl
      by_chunk false false other code = rw (is.chunk_made x.chunk alike.held ∙ other, kinds, code) refl
      by_chunk false true other code =
          let at : x.chunk ≡ chunk_at x.chunk.input 0 x.chunk.index = ap (λ n. chunk_at x.chunk.input n x.chunk.index) (is_that x.chunk.kind 0 code) in
          rw (is.chunk_made x.chunk alike.held ∙ other, kinds, code) (ap (λ (c : Chunk). Some (own (m.chunk c).input (m.chunk c).index)) at)

  of_code : (f : Part → Option FunctionKey) → ((x : Part) → is_code x ≡ false → f x ≡ None) → ((x y : Part) → AlikePart m C K p q x y → f y ≡ option_map (moved_function m) (f x))
      → (xs ys : List Part) → AlikeParts m C K p q xs ys → filter_map f ys ≡ map (moved_function m) (filter_map f xs)
  of_code f none alike_one xs ys alike =
      filter_map_of f is_code none ys
      ∙ (zip_filter_map (AlikePart m C K p q) (moved_function m) f f alike_one (parts_of_kind 0 xs) (parts_of_kind 0 ys) alike.functions
      ∙ ap (map (moved_function m)) (sym (filter_map_of f is_code none xs)))

  stubs_stay : (names : List (List ℕ)) → map (moved_function m) (map stub names) ≡ map stub names
  stubs_stay names = map_map stub (moved_function m) names

  imports_stay : (ks : List ImportKey) → map (moved_function m) (map outside ks) ≡ map outside ks
  imports_stay ks = map_map outside (moved_function m) ks

  -- The functions of the other program are the moved ones.
  pub functions_alike : (xs ys : List Part) (ep eq : List InputSymbol) → AlikeStage m C K p q xs ys ep eq → functions Plain q ys ≡ map (moved_function m) (functions Plain p xs)
  unfolding functions
  functions_alike xs ys ep eq s =
      let made = of_code made_function_key (λ x e. given_none (x.chunk.input == 0) (x.chunk.kind == 0) (linker_function x.chunk.index) e) made_alike xs ys s.parts in
      let owned = of_code own_function_key (λ x e. given_none (not (x.chunk.input == 0)) (x.chunk.kind == 0) (own x.chunk.input x.chunk.index) e) own_alike xs ys s.parts in
      let f : FunctionKey → FunctionKey = moved_function m in
      let a : List FunctionKey = map outside (function_imports_of Plain p (refs_of xs)) in
      let b : List FunctionKey = filter_map made_function_key xs in
      let c : List FunctionKey = map stub (stub_names p (refs_of xs)) in
      let d : List FunctionKey = filter_map own_function_key xs in
      let first : map outside (function_imports_of Plain q (refs_of ys)) ≡ map f a =
      ap (map outside) (function_imports_alike xs ys ep eq s) ∙ sym (imports_stay (function_imports_of Plain p (refs_of xs))) in
      let third : map stub (stub_names q (refs_of ys)) ≡ map f c = ap (map stub) s.stubs ∙ sym (stubs_stay (stub_names p (refs_of xs))) in
      let all : map f (a ++ (b ++ c ++ d)) ≡ map f a ++ (map f b ++ map f c ++ map f d) =
      map-append f a (b ++ c ++ d) ∙ ap (λ zs. map f a ++ zs) (map-append f (b ++ c) d ∙ ap (λ zs. zs ++ map f d) (map-append f b c)) in
      rw (first, made, third, owned) (sym all)

  -- ---- what holds of them

  same_some : (a b : FunctionKey) → (let o : Option FunctionKey = Some a in o ≡ Some b) → a ≡ b
  same_some a b e = cc

  held_code : (xs ys : List Part) → AlikeParts m C K p q xs ys → All (λ (x : Part). C x.chunk × (x.chunk.input ≡ 0 → x.chunk.kind ≡ 0 → x.chunk.index ≡ 0)) (parts_of_kind 0 xs)
  held_code xs ys alike = zip_first (AlikePart m C K p q) (λ (x : Part). C x.chunk × (x.chunk.input ≡ 0 → x.chunk.kind ≡ 0 → x.chunk.index ≡ 0)) (λ x y a. (a.held, a.made)) (parts_of_kind 0 xs) (parts_of_kind 0 ys) alike.functions

  module _ (P : FunctionKey → Type 0) (of_outside : (k : ImportKey) → P (outside k)) (of_made : C (chunk_at 0 0 0) → P (linker_function 0)) (of_own : (input index : ℕ) → C (chunk_at input 0 index) → P (own input index)) where
    own_holds : (x : Part) (f : FunctionKey) → C x.chunk × (x.chunk.input ≡ 0 → x.chunk.kind ≡ 0 → x.chunk.index ≡ 0) → own_function_key x ≡ Some f → P f
    own_holds x f held e = by_chunk (x.chunk.input == 0) (x.chunk.kind == 0) refl refl e
      where
        by_chunk : (r k : Bool) → (x.chunk.input == 0) ≡ r → (x.chunk.kind == 0) ≡ k → given (not r && k) (own x.chunk.input x.chunk.index) ≡ Some f → P f
        by_chunk true k zero code none = absurd cc
        by_chunk false false other code none = absurd cc
        by_chunk false true other code some =
            let at : x.chunk ≡ chunk_at x.chunk.input 0 x.chunk.index = ap (λ n. chunk_at x.chunk.input n x.chunk.index) (is_that x.chunk.kind 0 code) in
            subst P (same_some (own x.chunk.input x.chunk.index) f some) (of_own x.chunk.input x.chunk.index (subst C at held.0))

    made_holds : (x : Part) (f : FunctionKey) → C x.chunk × (x.chunk.input ≡ 0 → x.chunk.kind ≡ 0 → x.chunk.index ≡ 0) → made_function_key x ≡ Some f → P f
    made_holds x f held e = by_chunk (x.chunk.input == 0) (x.chunk.kind == 0) refl refl e
      where
        by_chunk : (r k : Bool) → (x.chunk.input == 0) ≡ r → (x.chunk.kind == 0) ≡ k → given (r && k) (linker_function x.chunk.index) ≡ Some f → P f
        by_chunk true true zero code some =
            let first : x.chunk.index ≡ 0 = held.1 (is_zero x.chunk.input zero) (is_zero x.chunk.kind code) in
            let at : x.chunk ≡ chunk_at 0 0 0 = ap (λ n. chunk_at n x.chunk.kind x.chunk.index) (is_zero x.chunk.input zero) ∙ (ap (λ n. chunk_at 0 n x.chunk.index) (is_zero x.chunk.kind code) ∙ ap (chunk_at 0 0) first) in
            subst P (same_some (linker_function x.chunk.index) f some) (subst (λ n. P (linker_function n)) (sym first) (of_made (subst C at held.0)))
        by_chunk true false zero code none = absurd cc
        by_chunk false k other code none = absurd cc

    all_outside : (ks : List ImportKey) → All P (map outside ks)
    all_outside [] = λ k d below. absurd (omega (arith, below))
    all_outside (k ∷ ks) = All-cons P (outside k) (map outside ks) (of_outside k) (all_outside ks)

    holds_of : (f : Part → Option FunctionKey) → ((x : Part) → is_code x ≡ false → f x ≡ None) → ((x : Part) (g : FunctionKey) → C x.chunk × (x.chunk.input ≡ 0 → x.chunk.kind ≡ 0 → x.chunk.index ≡ 0) → f x ≡ Some g → P g)
        → (xs ys : List Part) → AlikeParts m C K p q xs ys → All P (filter_map f xs)
    holds_of f none holds xs ys alike =
        subst (All P) (sym (filter_map_of f is_code none xs)) (filter_map_all (λ (x : Part). C x.chunk × (x.chunk.input ≡ 0 → x.chunk.kind ≡ 0 → x.chunk.index ≡ 0)) P f holds (parts_of_kind 0 xs) (held_code xs ys alike))

    pub functions_all : (xs ys : List Part) → AlikeParts m C K p q xs ys → All P (map stub (stub_names p (refs_of xs))) → All P (functions Plain p xs)
    unfolding functions
    functions_all xs ys alike stubs =
        let made = holds_of made_function_key (λ x e. given_none (x.chunk.input == 0) (x.chunk.kind == 0) (linker_function x.chunk.index) e) made_holds xs ys alike in
        let owned = holds_of own_function_key (λ x e. given_none (not (x.chunk.input == 0)) (x.chunk.kind == 0) (own x.chunk.input x.chunk.index) e) own_holds xs ys alike in
        All-append P (map outside (function_imports_of Plain p (refs_of xs))) (defined_functions p xs) (all_outside (function_imports_of Plain p (refs_of xs)))
        (All-append P (filter_map made_function_key xs ++ map stub (stub_names p (refs_of xs))) (filter_map own_function_key xs)
        (All-append P (filter_map made_function_key xs) (map stub (stub_names p (refs_of xs))) made stubs) owned)

  all_stubs : (names : List (List ℕ)) → All (KnowsFunction m C K is) (map stub names)
  all_stubs [] = λ k d below. absurd (omega (arith, below))
  all_stubs (n ∷ names) = All-cons (KnowsFunction m C K is) (stub n) (map stub names) tt (all_stubs names)

  pub functions_known : (xs ys : List Part) → AlikeParts m C K p q xs ys → All (KnowsFunction m C K is) (functions Plain p xs)
  functions_known xs ys alike = functions_all (KnowsFunction m C K is) (λ k. tt) (λ c. tt) (λ input index c. c) xs ys alike (all_stubs (stub_names p (refs_of xs)))
