-- Globals and types of two programs that are one but for places.
use Rattle.std.proofs.Common.{◌≡◌, ℕ, ◌==◌, Bool, true, false, ◌&&◌, not, cond, List, [], ◌∷◌, ◌++◌, map, filter, refl, sym, ap, subst, ◌∙◌, arith}
use Rattle.std.specs.Prelude.{Option, Some, None, option_map, filter_map, All}
use Rattle.std.specs.List.{AllZip}
use Rattle.std.proofs.lemmas.Bool.Decides.{nat_tests}
use Rattle.std.proofs.lemmas.List.{map-append}
use Rattle.std.proofs.lemmas.List.Elements.{All-cons, All-append}
use Rattle.object_file.specs.wl_base.Choice.{given, distinct}
use Rattle.object_file.specs.linking_section.declared.symbol.SymbolKind.TheVariants.{Datum, GlobalVar}
use Rattle.object_file.specs.linking_section.Flags.{kind_code}
use Rattle.made_symbols.specs.declared.mode.Mode.TheVariants.{Plain}
use Rattle.name_rules.specs.Entries.{InputSymbol, ImportKey, is_kind}
use Rattle.name_rules.specs.Meanings.{Meaning, here, imported, null, nothing}
use Rattle.mark_bits.specs.declared.chunk.Chunk.{Chunk}
use Rattle.link_rules.specs.Program.{Program, Part, Ref, refs, chunk_at}
use Rattle.link_rules.specs.Marks.{refs_of}
use Rattle.link_rules.specs.Keys.{GotKey, same_got, GlobalKey, outside_global, linker_global, own_global, got, exported_datum, parts_of_kind, used_imports, has_import, imports_by, is_global_type, used_globals, imports_in_order, made_global_key, own_global_key, needs_got, got_entries, got_of, ref_got, datum_key, defined_globals, globals}
use Rattle.partial_rules.specs.Moving.{Moving, IsMoving, moved_got, moved_global, MeansHeld, AlikeRef, AlikePart, AlikeParts, AlikeStage}
use Rattle.partial_rules.proofs.Lists.{filter_map_of, zip_filter_map, zip_filter, zip_map, zip_flat, zip_first, filter_same, map_map, distinct_told, filter_map_moved, filter_map_all, map_all, distinct_all}
use Rattle.partial_rules.proofs.AlikeRefs.{refs_zip}
use Rattle.partial_rules.proofs.AlikeKeys.{KnowsGot, KnowsGlobal, tells_got, ref_got_moves}
use Rattle.partial_rules.proofs.AlikeNumbers.{used_alike, given_none, is_zero}

is_that : (n k : ℕ) → (n == k) ≡ true → n ≡ k
is_that n k e = grind (arith, nat_tests, e)

module _ (m : Moving) (C : Chunk → Type 0) (K : InputSymbol → Type 0) (is : IsMoving m C K) (p q : Program) where
  -- ---- imports

  global_imports_alike : (xs ys : List Part) (ep eq : List InputSymbol) → AlikeStage m C K p q xs ys ep eq → used_globals Plain q (refs_of ys) ≡ used_globals Plain p (refs_of xs)
  global_imports_alike xs ys ep eq s =
      filter_same (λ k. is_global_type k.type && has_import (used_imports (filter (imports_by Plain) (refs_of ys))) k) (λ k. is_global_type k.type && has_import (used_imports (filter (imports_by Plain) (refs_of xs))) k)
      (λ k. ap (λ b. is_global_type k.type && b) (used_alike m C K is p q xs ys s.parts k)) (imports_in_order q)
      ∙ ap (filter (λ k. is_global_type k.type && has_import (used_imports (filter (imports_by Plain) (refs_of xs))) k)) s.imports

  -- ---- globals of parts

  abbrev is_global_part : Part → Bool
  is_global_part part = part.chunk.kind == 2

  made_of : Chunk → Option GlobalKey
  made_of c = given ((c.input == 0) && (c.kind == 2)) (linker_global c.index)

  own_of : Chunk → Option GlobalKey
  own_of c = given (not (c.input == 0) && (c.kind == 2)) (own_global c.input c.index)

  made_alike : (x y : Part) → AlikePart m C K p q x y → made_global_key y ≡ option_map (moved_global m) (made_global_key x)
  unfolding made_of
  made_alike x y alike = ap made_of alike.chunk ∙ by_chunk (x.chunk.input == 0) (x.chunk.kind == 2) refl refl
    where
      by_chunk : (r k : Bool) → (x.chunk.input == 0) ≡ r → (x.chunk.kind == 2) ≡ k → made_of (m.chunk x.chunk) ≡ option_map (moved_global m) (given (r && k) (linker_global x.chunk.index))
      by_chunk true true zero code = ap made_of (is.chunk_stays x.chunk alike.held (is_zero x.chunk.input zero)) ∙ rw (zero, code) refl
      by_chunk true false zero code = ap made_of (is.chunk_stays x.chunk alike.held (is_zero x.chunk.input zero)) ∙ rw (zero, code) refl
      by_chunk false k other code = rw (is.chunk_made x.chunk alike.held ∙ other) refl

  own_alike : (x y : Part) → AlikePart m C K p q x y → own_global_key y ≡ option_map (moved_global m) (own_global_key x)
  unfolding own_of
  own_alike x y alike = ap own_of alike.chunk ∙ by_chunk (x.chunk.input == 0) (x.chunk.kind == 2) refl refl
    where
      kinds : (m.chunk x.chunk).kind ≡ x.chunk.kind
      kinds = is.chunk_kind x.chunk alike.held

      by_chunk : (r k : Bool) → (x.chunk.input == 0) ≡ r → (x.chunk.kind == 2) ≡ k → own_of (m.chunk x.chunk) ≡ option_map (moved_global m) (given (not r && k) (own_global x.chunk.input x.chunk.index))
      by_chunk true k zero code = rw (is.chunk_made x.chunk alike.held ∙ zero) refl
      by_chunk false false other code = rw (is.chunk_made x.chunk alike.held ∙ other, kinds, code) refl
      by_chunk false true other code =
          let at : x.chunk ≡ chunk_at x.chunk.input 2 x.chunk.index = ap (λ n. chunk_at x.chunk.input n x.chunk.index) (is_that x.chunk.kind 2 code) in
          rw (is.chunk_made x.chunk alike.held ∙ other, kinds, code) (ap (λ (c : Chunk). Some (own_global (m.chunk c).input (m.chunk c).index)) at)

  of_globals : (f : Part → Option GlobalKey) → ((x : Part) → is_global_part x ≡ false → f x ≡ None) → ((x y : Part) → AlikePart m C K p q x y → f y ≡ option_map (moved_global m) (f x))
      → (xs ys : List Part) → AlikeParts m C K p q xs ys → filter_map f ys ≡ map (moved_global m) (filter_map f xs)
  of_globals f none alike_one xs ys alike =
      filter_map_of f is_global_part none ys
      ∙ (zip_filter_map (AlikePart m C K p q) (moved_global m) f f alike_one (parts_of_kind 2 xs) (parts_of_kind 2 ys) alike.globals
      ∙ ap (map (moved_global m)) (sym (filter_map_of f is_global_part none xs)))

  -- ---- cells of addresses

  code_refs : (xs ys : List Part) → AlikeParts m C K p q xs ys → AllZip (AlikeRef m C K) (refs_of (parts_of_kind 0 xs)) (refs_of (parts_of_kind 0 ys))
  code_refs xs ys alike =
      zip_flat (AlikePart m C K p q) (AlikeRef m C K) refs refs (λ x y a. refs_zip m C K x.named y.named a.named) (parts_of_kind 0 xs) (parts_of_kind 0 ys) alike.functions

  reads_alike : (a b : Ref) → AlikeRef m C K a b → needs_got Plain b ≡ needs_got Plain a
  reads_alike a b r =
      ap (λ n. (n == 7) && not (is_kind GlobalVar b.entry)) r.kind ∙ ap (λ kind. (a.kind == 7) && not (kind_code kind == kind_code GlobalVar)) r.symbol_kind

  got_known : (a b : Ref) → AlikeRef m C K a b → KnowsGot m C K is (ref_got a)
  got_known a b r = by_meaning a.meaning r.held
    where
      by_meaning : (x : Meaning) → MeansHeld m C K a.entry.symbol.kind x → KnowsGot m C K is (got_of (kind_code a.entry.symbol.kind) x)
      by_meaning (here e) held = held.0
      by_meaning (imported k) held = tt
      by_meaning null held = tt
      by_meaning nothing held = tt

  known_map : (as' bs : List Ref) → AllZip (AlikeRef m C K) as' bs → All (KnowsGot m C K is) (map ref_got as')
  known_map [] [] z = λ k d below. absurd (omega (arith, below))
  known_map [] (b ∷ bs) z = absurd z
  known_map (a ∷ as') [] z = absurd z
  known_map (a ∷ as') (b ∷ bs) z = All-cons (KnowsGot m C K is) (ref_got a) (map ref_got as') (got_known a b z.0) (known_map as' bs z.1)

  pub cells_alike : (xs ys : List Part) → AlikeParts m C K p q xs ys → got_entries Plain ys ≡ map (moved_got m) (got_entries Plain xs)
  cells_alike xs ys alike =
      let as' : List Ref = filter (needs_got Plain) (refs_of (parts_of_kind 0 xs)) in
      let bs : List Ref = filter (needs_got Plain) (refs_of (parts_of_kind 0 ys)) in
      let z : AllZip (AlikeRef m C K) as' bs = zip_filter (AlikeRef m C K) (needs_got Plain) (needs_got Plain) reads_alike (refs_of (parts_of_kind 0 xs)) (refs_of (parts_of_kind 0 ys)) (code_refs xs ys alike) in
      let keys : map ref_got bs ≡ map (moved_got m) (map ref_got as') =
      zip_map (AlikeRef m C K) (λ a. moved_got m (ref_got a)) ref_got (λ a b r. ref_got_moves m C K is a b r) as' bs z ∙ sym (map_map ref_got (moved_got m) as') in
      ap (distinct same_got) keys ∙ distinct_told (moved_got m) same_got same_got (KnowsGot m C K is) (tells_got m C K is) (map ref_got as') (known_map as' bs z)

  -- ---- exported data

  datum_alike : (e : InputSymbol) → K e → datum_key (m.entry e) ≡ option_map (moved_global m) (datum_key e)
  datum_alike e k = ap (λ kind. given (kind_code kind == kind_code Datum) (exported_datum (m.entry e))) (is.entry_kind e k) ∙ by_test (is_kind Datum e)
    where
      by_test : (r : Bool) → given r (exported_datum (m.entry e)) ≡ option_map (moved_global m) (given r (exported_datum e))
      by_test true = refl
      by_test false = refl

  -- The globals of the other program are the moved ones.
  pub globals_alike : (xs ys : List Part) (ep eq : List InputSymbol) → AlikeStage m C K p q xs ys ep eq → globals Plain q ys eq ≡ map (moved_global m) (globals Plain p xs ep)
  unfolding globals
  globals_alike xs ys ep eq s =
      let f : GlobalKey → GlobalKey = moved_global m in
      let made = of_globals made_global_key (λ x e. given_none (x.chunk.input == 0) (x.chunk.kind == 2) (linker_global x.chunk.index) e) made_alike xs ys s.parts in
      let owned = of_globals own_global_key (λ x e. given_none (not (x.chunk.input == 0)) (x.chunk.kind == 2) (own_global x.chunk.input x.chunk.index) e) own_alike xs ys s.parts in
      let a : List GlobalKey = map outside_global (used_globals Plain p (refs_of xs)) in
      let b : List GlobalKey = filter_map made_global_key xs in
      let c : List GlobalKey = filter_map own_global_key xs in
      let d : List GlobalKey = map got (got_entries Plain xs) in
      let e : List GlobalKey = filter_map datum_key ep in
      let first : map outside_global (used_globals Plain q (refs_of ys)) ≡ map f a =
      ap (map outside_global) (global_imports_alike xs ys ep eq s) ∙ sym (map_map outside_global f (used_globals Plain p (refs_of xs))) in
      let fourth : map got (got_entries Plain ys) ≡ map f d =
      ap (map got) (cells_alike xs ys s.parts) ∙ (map_map (moved_got m) got (got_entries Plain xs) ∙ sym (map_map got f (got_entries Plain xs))) in
      let fifth : filter_map datum_key eq ≡ map f e = ap (filter_map datum_key) s.exports_are ∙ filter_map_moved m.entry f datum_key datum_key K datum_alike ep s.exports_held in
      let all : map f (a ++ (b ++ c ++ d ++ e)) ≡ map f a ++ (map f b ++ map f c ++ map f d ++ map f e) =
      map-append f a (b ++ c ++ d ++ e) ∙ ap (λ zs. map f a ++ zs)
      (map-append f (b ++ c ++ d) e ∙ ap (λ zs. zs ++ map f e) (map-append f (b ++ c) d ∙ ap (λ zs. zs ++ map f d) (map-append f b c))) in
      rw (first, made, owned, fourth, fifth) (sym all)

  -- ---- what is known of them

  same_some : (a b : GlobalKey) → (let o : Option GlobalKey = Some a in o ≡ Some b) → a ≡ b
  same_some a b e = cc

  held_globals : (xs ys : List Part) → AlikeParts m C K p q xs ys → All (λ (x : Part). C x.chunk) (parts_of_kind 2 xs)
  held_globals xs ys alike = zip_first (AlikePart m C K p q) (λ (x : Part). C x.chunk) (λ x y a. a.held) (parts_of_kind 2 xs) (parts_of_kind 2 ys) alike.globals

  module _ (P : GlobalKey → Type 0) (of_outside : (k : ImportKey) → P (outside_global k)) (of_made : (n : ℕ) → P (linker_global n)) (of_own : (input index : ℕ) → C (chunk_at input 2 index) → P (own_global input index)) where
    own_holds : (x : Part) (g : GlobalKey) → C x.chunk → own_global_key x ≡ Some g → P g
    own_holds x g held e = by_chunk (x.chunk.input == 0) (x.chunk.kind == 2) refl refl e
      where
        by_chunk : (r k : Bool) → (x.chunk.input == 0) ≡ r → (x.chunk.kind == 2) ≡ k → given (not r && k) (own_global x.chunk.input x.chunk.index) ≡ Some g → P g
        by_chunk true k zero code none = absurd cc
        by_chunk false false other code none = absurd cc
        by_chunk false true other code some =
            let at : x.chunk ≡ chunk_at x.chunk.input 2 x.chunk.index = ap (λ n. chunk_at x.chunk.input n x.chunk.index) (is_that x.chunk.kind 2 code) in
            subst P (same_some (own_global x.chunk.input x.chunk.index) g some) (of_own x.chunk.input x.chunk.index (subst C at held))

    made_holds : (x : Part) (g : GlobalKey) → C x.chunk → made_global_key x ≡ Some g → P g
    made_holds x g held e = by_chunk ((x.chunk.input == 0) && (x.chunk.kind == 2)) e
      where
        by_chunk : (r : Bool) → given r (linker_global x.chunk.index) ≡ Some g → P g
        by_chunk true some = subst P (same_some (linker_global x.chunk.index) g some) (of_made x.chunk.index)
        by_chunk false none = absurd cc

    holds_of : (f : Part → Option GlobalKey) → ((x : Part) → is_global_part x ≡ false → f x ≡ None) → ((x : Part) (g : GlobalKey) → C x.chunk → f x ≡ Some g → P g)
        → (xs ys : List Part) → AlikeParts m C K p q xs ys → All P (filter_map f xs)
    holds_of f none holds xs ys alike =
        subst (All P) (sym (filter_map_of f is_global_part none xs)) (filter_map_all (λ (x : Part). C x.chunk) P f holds (parts_of_kind 2 xs) (held_globals xs ys alike))

    all_outside : (ks : List ImportKey) → All P (map outside_global ks)
    all_outside [] = λ k d below. absurd (omega (arith, below))
    all_outside (k ∷ ks) = All-cons P (outside_global k) (map outside_global ks) (of_outside k) (all_outside ks)

    pub globals_all : (xs ys : List Part) (ep eq : List InputSymbol) → AlikeStage m C K p q xs ys ep eq → All P (map got (got_entries Plain xs)) → All P (filter_map datum_key ep) → All P (globals Plain p xs ep)
    unfolding globals
    globals_all xs ys ep eq s cells last =
        let made = holds_of made_global_key (λ x e. given_none (x.chunk.input == 0) (x.chunk.kind == 2) (linker_global x.chunk.index) e) made_holds xs ys s.parts in
        let owned = holds_of own_global_key (λ x e. given_none (not (x.chunk.input == 0)) (x.chunk.kind == 2) (own_global x.chunk.input x.chunk.index) e) own_holds xs ys s.parts in
        All-append P (map outside_global (used_globals Plain p (refs_of xs))) (defined_globals Plain xs ep) (all_outside (used_globals Plain p (refs_of xs)))
        (All-append P (filter_map made_global_key xs ++ filter_map own_global_key xs ++ map got (got_entries Plain xs)) (filter_map datum_key ep)
        (All-append P (filter_map made_global_key xs ++ filter_map own_global_key xs) (map got (got_entries Plain xs)) (All-append P (filter_map made_global_key xs) (filter_map own_global_key xs) made owned) cells) last)

  by_needs : (Q : GotKey → Type 0) → ((a b : Ref) → AlikeRef m C K a b → needs_got Plain a ≡ true → Q (ref_got a)) → (a b : Ref) → AlikeRef m C K a b → (rest : List Ref) → (r : Bool) → needs_got Plain a ≡ r
      → All Q (map ref_got rest) → All Q (map ref_got (cond r (a ∷ rest) rest))
  by_needs Q each a b alike rest true needs all = All-cons Q (ref_got a) (map ref_got rest) (each a b alike needs) all
  by_needs Q each a b alike rest false needs all = all

  all_cells : (Q : GotKey → Type 0) → ((a b : Ref) → AlikeRef m C K a b → needs_got Plain a ≡ true → Q (ref_got a)) → (as' bs : List Ref) → AllZip (AlikeRef m C K) as' bs
      → All Q (map ref_got (filter (needs_got Plain) as'))
  all_cells Q each [] [] z = λ k d below. absurd (omega (arith, below))
  all_cells Q each [] (b ∷ bs) z = absurd z
  all_cells Q each (a ∷ as') [] z = absurd z
  all_cells Q each (a ∷ as') (b ∷ bs) z = by_needs Q each a b z.0 (filter (needs_got Plain) as') (needs_got Plain a) refl (all_cells Q each as' bs z.1)

  -- the cells of addresses, by what holds of what references read
  pub cells_all : (Q : GotKey → Type 0) → ((a b : Ref) → AlikeRef m C K a b → needs_got Plain a ≡ true → Q (ref_got a)) → (xs ys : List Part) → AlikeParts m C K p q xs ys → All Q (got_entries Plain xs)
  cells_all Q each xs ys alike =
      distinct_all Q same_got (map ref_got (filter (needs_got Plain) (refs_of (parts_of_kind 0 xs)))) (all_cells Q each (refs_of (parts_of_kind 0 xs)) (refs_of (parts_of_kind 0 ys)) (code_refs xs ys alike))

  datum_holds : (P : GlobalKey → Type 0) → ((e : InputSymbol) → K e → is_kind Datum e ≡ true → P (exported_datum e)) → (e : InputSymbol) (g : GlobalKey) → K e → datum_key e ≡ Some g → P g
  datum_holds P each e g k some = by_test (is_kind Datum e) refl some
    where
      by_test : (r : Bool) → is_kind Datum e ≡ r → given r (exported_datum e) ≡ Some g → P g
      by_test true is some = subst P (same_some (exported_datum e) g some) (each e k is)
      by_test false is none = absurd cc

  pub data_all : (P : GlobalKey → Type 0) → ((e : InputSymbol) → K e → is_kind Datum e ≡ true → P (exported_datum e)) → (ep : List InputSymbol) → All K ep → All P (filter_map datum_key ep)
  data_all P each ep held = filter_map_all K P datum_key (datum_holds P each) ep held

  pub globals_known : (xs ys : List Part) (ep eq : List InputSymbol) → AlikeStage m C K p q xs ys ep eq → All (KnowsGlobal m C K is) (globals Plain p xs ep)
  globals_known xs ys ep eq s =
      globals_all (KnowsGlobal m C K is) (λ k. tt) (λ n. tt) (λ input index c. c) xs ys ep eq s
      (map_all (KnowsGot m C K is) (KnowsGlobal m C K is) got (λ g k. k) (got_entries Plain xs) (cells_all (KnowsGot m C K is) (λ a b r needs. got_known a b r) xs ys s.parts))
      (data_all (KnowsGlobal m C K is) (λ e k is. k) ep s.exports_held)
