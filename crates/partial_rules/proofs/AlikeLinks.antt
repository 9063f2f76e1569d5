-- What is laid out of two programs that are one but for places, with all that is known of their keys.
use Rattle.std.proofs.Common.{◌≡◌, ℕ, ◌==◌, ◌&&◌, Bool, true, false, not, List, [], ◌∷◌, map, refl, sym, ap, subst, ◌∙◌, arith}
use Rattle.std.specs.Prelude.{All, Ok}
use Rattle.std.proofs.lemmas.Bool.Decides.{nat_tests}
use Rattle.std.proofs.lemmas.List.Elements.{All-cons}
use Rattle.object_file.specs.linking_section.declared.symbol.SymbolKind.{SymbolKind}
use Rattle.object_file.specs.linking_section.declared.symbol.SymbolKind.TheVariants.{Function, Datum, GlobalVar, Section, Table}
use Rattle.object_file.specs.linking_section.Flags.{kind_code}
use Rattle.object_rules.specs.Relocs.{may_name}
use Rattle.made_symbols.specs.declared.mode.Mode.TheVariants.{Plain}
use Rattle.name_rules.specs.Entries.{InputSymbol, is_kind}
use Rattle.name_rules.specs.Meanings.{Meaning, here, imported, null, nothing}
use Rattle.mark_bits.specs.declared.chunk.Chunk.{Chunk}
use Rattle.link_rules.specs.Program.{Program, Part, Ref}
use Rattle.link_rules.specs.Marks.{refs_of}
use Rattle.link_rules.specs.Keys.{stub, stub_names, functions, GlobalKey, got, got_entries, got_of, ref_got, needs_got, globals}
use Rattle.link_rules.specs.Values.{Layout}
use Rattle.link_rules.specs.Output.{layout, is_import}
use Rattle.link_rules.specs.LinkOf.{laid_out}
use Rattle.partial_rules.specs.Moving.{Moving, IsMoving, MeansHeld, AlikeRef, AlikeStage}
use Rattle.partial_rules.proofs.Lists.{filter_all, map_all}
use Rattle.partial_rules.proofs.AlikeNumbers.{functions_all}
use Rattle.partial_rules.proofs.AlikeGlobals.{globals_all, cells_all, data_all}
use Rattle.partial_rules.proofs.AlikeTypes.{IsTyped, functions_typed}
use Rattle.partial_rules.proofs.AlikeWindows.{AlikeLayout}
use Rattle.partial_rules.proofs.AlikeLayouts.{layouts_alike}
use Rattle.partial_rules.proofs.AlikeSections.{IsCell, IsGlobalKnown, datum_is}
use Rattle.partial_rules.proofs.AlikeSources.{IsBody}
use Rattle.partial_rules.proofs.AlikeLength.{lengths_same}
use Rattle.partial_rules.proofs.AlikeLaidOut.{laid_out_same}

is_that : (n k : ℕ) → (n == k) ≡ true → n ≡ k
is_that n k e = grind (arith, nat_tests, e)

first : (a b : Bool) → (a && b) ≡ true → a ≡ true
first true b e = refl
first false b e = absurd cc

second : (a b : Bool) → (a && b) ≡ true → b ≡ true
second true b e = e
second false b e = absurd cc

-- a cell that isn't a datum's is a function's
cell_kind : (kind : SymbolKind) → (not (kind_code kind == kind_code GlobalVar)) ≡ true → may_name 7 kind ≡ true → (kind_code kind == kind_code Datum) ≡ false → kind ≡ Function
cell_kind Function a may b = refl
cell_kind Datum a may b = absurd cc
cell_kind GlobalVar a may b = absurd cc
cell_kind Section a may b = absurd cc
cell_kind Table a may b = absurd cc

module _ (m : Moving) (C : Chunk → Type 0) (K : InputSymbol → Type 0) (is : IsMoving m C K) (p q : Program) (xs ys : List Part) (ep eq : List InputSymbol) (s : AlikeStage m C K p q xs ys ep eq) where
  module _ (l o : Layout) (t : AlikeLayout m C K is l o) where
    body_stubs : (names : List (List ℕ)) → All (IsBody m C K is p q xs ys ep eq l o s t) (map stub names)
    body_stubs [] = λ k d below. absurd (omega (arith, below))
    body_stubs (n ∷ names) = All-cons (IsBody m C K is p q xs ys ep eq l o s t) (stub n) (map stub names) tt (body_stubs names)

    all_bodies : All (IsBody m C K is p q xs ys ep eq l o s t) (functions Plain p xs)
    all_bodies = functions_all m C K is p q (IsBody m C K is p q xs ys ep eq l o s t) (λ k. tt) (λ c. (refl, c)) (λ input index c. c) xs ys s.parts (body_stubs (stub_names p (refs_of xs)))

    cell_known : (a b : Ref) → AlikeRef m C K a b → needs_got Plain a ≡ true → IsCell m C K is p q xs ys ep eq l o s t (ref_got a)
    cell_known a b r needs = by_meaning a.meaning r.held
      where
        seven : a.kind ≡ 7
        seven = is_that a.kind 7 (first (a.kind == 7) (not (is_kind GlobalVar a.entry)) needs)

        by_meaning : (x : Meaning) → MeansHeld m C K a.entry.symbol.kind x → IsCell m C K is p q xs ys ep eq l o s t (got_of (kind_code a.entry.symbol.kind) x)
        by_meaning (here e) held = (
          held.0,
          λ other. held.1 ∙ cell_kind a.entry.symbol.kind (second (a.kind == 7) (not (is_kind GlobalVar a.entry)) needs) (subst (λ k. may_name k a.entry.symbol.kind ≡ true) seven r.may)
              (ap (λ kind. kind_code kind == kind_code Datum) (sym held.1) ∙ other),
        )
        by_meaning (imported k) held = tt
        by_meaning null held = tt
        by_meaning nothing held = tt

    all_globals : All (IsGlobalKnown m C K is p q xs ys ep eq l o s t) (globals Plain p xs ep)
    all_globals =
        let P : GlobalKey → Type 0 = IsGlobalKnown m C K is p q xs ys ep eq l o s t in
        globals_all m C K is p q P (λ k. tt) (λ n. tt) (λ input index c. c) xs ys ep eq s
        (map_all (IsCell m C K is p q xs ys ep eq l o s t) P got (λ g k. k) (got_entries Plain xs) (cells_all m C K is p q (IsCell m C K is p q xs ys ep eq l o s t) cell_known xs ys s.parts))
        (data_all m C K is p q P (λ e k datum. (k, datum_is m C K is p q xs ys ep eq l o s t e.symbol.kind datum)) ep s.exports_held)

  -- The same bytes are laid out.
  pub laid_out_alike : (bytes : List ℕ) → laid_out Plain p ep xs ≡ Ok bytes → laid_out Plain q eq ys ≡ Ok bytes
  unfolding layout
  laid_out_alike bytes e =
      let l : Layout = layout Plain p xs ep in
      let o : Layout = layout Plain q ys eq in
      let t : AlikeLayout m C K is l o = layouts_alike m C K is p q xs ys ep eq s in
      let typed = filter_all (IsTyped m C K is p q) (λ f. not (is_import Plain p xs ep l f)) (functions Plain p xs) (functions_typed m C K is p q xs ys ep eq s) in
      let known = all_globals l o t in
      let bodies = filter_all (IsBody m C K is p q xs ys ep eq l o s t) (λ f. not (is_import Plain p xs ep l f)) (functions Plain p xs) (all_bodies l o t) in
      laid_out_same m C K is p q xs ys ep eq s bytes e typed known bodies (λ none. lengths_same m C K is p q xs ys ep eq l o s t typed known bodies ∙ none)
