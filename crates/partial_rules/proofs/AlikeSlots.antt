-- Slots, globals and types of two programs that are one but for places.
use Rattle.std.proofs.Common.{◌≡◌, ℕ, ◌==◌, Bool, true, false, ◌||◌, ◌&&◌, not, List, map, filter, refl, sym, ap, subst, ◌∙◌, arith}
use Rattle.std.specs.Prelude.{Some, All, if◌then◌else◌, IsTrue}
use Rattle.std.specs.List.{list_any}
use Rattle.std.proofs.lemmas.Bool.Decides.{nat_tests}
use Rattle.object_file.specs.linking_section.declared.symbol.SymbolKind.{SymbolKind}
use Rattle.object_file.specs.linking_section.declared.symbol.SymbolKind.TheVariants.{Function, Datum, GlobalVar, Section, Table}
use Rattle.object_file.specs.linking_section.Flags.{kind_code}
use Rattle.object_rules.specs.Relocs.{may_name}
use Rattle.made_symbols.specs.declared.mode.Mode.TheVariants.{Plain}
use Rattle.name_rules.specs.Entries.{InputSymbol, is_kind, name_of}
use Rattle.name_rules.specs.Meanings.{Meaning, here, imported, null, nothing}
use Rattle.mark_bits.specs.declared.chunk.Chunk.{Chunk}
use Rattle.link_rules.specs.Program.{Program, Part, Ref, chunk_at, chunk_of}
use Rattle.link_rules.specs.Marks.{refs_of}
use Rattle.link_rules.specs.Keys.{FunctionKey, linker_function, own, same_function, function_of, meant_function, ref_function, takes_slot, is_taken, is_null, slots}
use Rattle.partial_rules.specs.Moving.{Moving, IsMoving, moved_meaning, moved_function, MeansHeld, AlikeRef, AlikeParts}
use Rattle.partial_rules.proofs.Lists.{any_map, any_filter, filter_moved}
use Rattle.partial_rules.proofs.AlikeRefs.{any_refs}
use Rattle.partial_rules.proofs.AlikeKeys.{KnowsFunction, tells_function, ref_function_moves, null_moves}

-- ---- which references take a slot, and that these are to functions

abbrev takes_by : Meaning → ℕ → SymbolKind → Bool
takes_by x n kind = not (is_null x) && ((n == 1) || (n == 2) || (n == 12) || ((n == 7) && (kind_code kind == kind_code Function)))

is_that : (n k : ℕ) → (n == k) ≡ true → n ≡ k
is_that n k e = grind (arith, nat_tests, e)

four : (R : Type 0) (x a b c d : Bool) → (x && (a || b || c || d)) ≡ true → (a ≡ true → R) → (b ≡ true → R) → (c ≡ true → R) → (d ≡ true → R) → R
four R false a b c d e fa fb fc fd = absurd cc
four R true true b c d e fa fb fc fd = fa refl
four R true false true c d e fa fb fc fd = fb refl
four R true false false true d e fa fb fc fd = fc refl
four R true false false false true e fa fb fc fd = fd refl
four R true false false false false e fa fb fc fd = absurd cc

no_and : (R : Type 0) (a : Bool) → (a && false) ≡ true → R
no_and R true e = absurd cc
no_and R false e = absurd cc

no_way : {R : Type 0} → false ≡ true → R
no_way e = absurd cc

takes_function : (x : Meaning) (n : ℕ) (kind : SymbolKind) → IsTrue (may_name n kind) → takes_by x n kind ≡ true → kind ≡ Function
takes_function x n Function may e = refl
takes_function x n Datum may e = four (Datum ≡ Function) (not (is_null x)) (n == 1) (n == 2) (n == 12) ((n == 7) && false) e
    (λ is. no_way (subst (λ k. IsTrue (may_name k Datum)) (is_that n 1 is) may)) (λ is. no_way (subst (λ k. IsTrue (may_name k Datum)) (is_that n 2 is) may))
    (λ is. no_way (subst (λ k. IsTrue (may_name k Datum)) (is_that n 12 is) may)) (λ is. no_and (Datum ≡ Function) (n == 7) is)
takes_function x n GlobalVar may e = four (GlobalVar ≡ Function) (not (is_null x)) (n == 1) (n == 2) (n == 12) ((n == 7) && false) e
    (λ is. no_way (subst (λ k. IsTrue (may_name k GlobalVar)) (is_that n 1 is) may)) (λ is. no_way (subst (λ k. IsTrue (may_name k GlobalVar)) (is_that n 2 is) may))
    (λ is. no_way (subst (λ k. IsTrue (may_name k GlobalVar)) (is_that n 12 is) may)) (λ is. no_and (GlobalVar ≡ Function) (n == 7) is)
takes_function x n Section may e = four (Section ≡ Function) (not (is_null x)) (n == 1) (n == 2) (n == 12) ((n == 7) && false) e
    (λ is. no_way (subst (λ k. IsTrue (may_name k Section)) (is_that n 1 is) may)) (λ is. no_way (subst (λ k. IsTrue (may_name k Section)) (is_that n 2 is) may))
    (λ is. no_way (subst (λ k. IsTrue (may_name k Section)) (is_that n 12 is) may)) (λ is. no_and (Section ≡ Function) (n == 7) is)
takes_function x n Table may e = four (Table ≡ Function) (not (is_null x)) (n == 1) (n == 2) (n == 12) ((n == 7) && false) e
    (λ is. no_way (subst (λ k. IsTrue (may_name k Table)) (is_that n 1 is) may)) (λ is. no_way (subst (λ k. IsTrue (may_name k Table)) (is_that n 2 is) may))
    (λ is. no_way (subst (λ k. IsTrue (may_name k Table)) (is_that n 12 is) may)) (λ is. no_and (Table ≡ Function) (n == 7) is)

module _ (m : Moving) (C : Chunk → Type 0) (K : InputSymbol → Type 0) (is : IsMoving m C K) where
  -- ---- what a reference to a function names is known

  pub of_entry : (e : InputSymbol) → K e → e.symbol.kind ≡ Function → KnowsFunction m C K is (function_of e)
  of_entry e k of = by_made (e.input == 0)
    where
      by_made : (r : Bool) → KnowsFunction m C K is (if r then linker_function e.place else own e.input e.index)
      by_made true = tt
      by_made false = is.entry_held e (chunk_at e.input 0 e.index) k (chunk_is e of)
        where
          chunk_is : (e : InputSymbol) → e.symbol.kind ≡ Function → chunk_of e ≡ Some (chunk_at e.input 0 e.index)
          chunk_is e of = rw of refl

  pub ref_known : (a b : Ref) → AlikeRef m C K a b → a.entry.symbol.kind ≡ Function → KnowsFunction m C K is (ref_function a)
  ref_known a b r of = by_meaning a.meaning r.held
    where
      by_meaning : (x : Meaning) → MeansHeld m C K a.entry.symbol.kind x → KnowsFunction m C K is (meant_function (name_of a.entry) x)
      by_meaning (here e) held = of_entry e held.0 (held.1 ∙ of)
      by_meaning (imported k) held = tt
      by_meaning null held = tt
      by_meaning nothing held = tt

module _ (m : Moving) (C : Chunk → Type 0) (K : InputSymbol → Type 0) (is : IsMoving m C K) (p q : Program) where
  takes_alike : (a b : Ref) → AlikeRef m C K a b → takes_slot Plain b ≡ takes_slot Plain a
  takes_alike a b r =
      ap (λ x. takes_by x b.kind b.entry.symbol.kind) r.meaning
      ∙ (ap (λ n. takes_by (moved_meaning m a.meaning) n b.entry.symbol.kind) r.kind
      ∙ (ap (λ kind. takes_by (moved_meaning m a.meaning) a.kind kind) r.symbol_kind
      ∙ ap (λ z. not z && ((a.kind == 1) || (a.kind == 2) || (a.kind == 12) || ((a.kind == 7) && is_kind Function a.entry))) (null_moves m C K is a.meaning)))

  -- ---- slots

  abbrev takes : FunctionKey → Ref → Bool
  takes f ref = takes_slot Plain ref && same_function f (ref_function ref)

  taken_is : (f : FunctionKey) (refs : List Ref) → is_taken (map ref_function (filter (takes_slot Plain) refs)) f ≡ list_any (takes f) refs
  taken_is f refs =
      any_map (same_function f) ref_function (filter (takes_slot Plain) refs) ∙ any_filter (λ ref. same_function f (ref_function ref)) (takes_slot Plain) refs

  both : (r : Bool) (b c : Bool) → (r ≡ true → b ≡ c) → (r && b) ≡ (r && c)
  both true b c same = same refl
  both false b c same = refl

  taken_alike : (f : FunctionKey) → KnowsFunction m C K is f → (a b : Ref) → AlikeRef m C K a b → takes (moved_function m f) b ≡ takes f a
  taken_alike f known a b r =
      ap (λ z. z && same_function (moved_function m f) (ref_function b)) (takes_alike a b r)
      ∙ both (takes_slot Plain a) (same_function (moved_function m f) (ref_function b)) (same_function f (ref_function a))
      (λ takes_it. let of : a.entry.symbol.kind ≡ Function = takes_function a.meaning a.kind a.entry.symbol.kind r.may takes_it in
      ap (same_function (moved_function m f)) (ref_function_moves m C K is a b r of) ∙ tells_function m C K is f (ref_function a) known (ref_known m C K is a b r of))

  pub slots_alike : (xs ys : List Part) (fs : List FunctionKey) → AlikeParts m C K p q xs ys → All (KnowsFunction m C K is) fs
      → slots Plain ys (map (moved_function m) fs) ≡ map (moved_function m) (slots Plain xs fs)
  unfolding slots
  slots_alike xs ys fs alike known =
      filter_moved (moved_function m) (is_taken (map ref_function (filter (takes_slot Plain) (refs_of xs)))) (is_taken (map ref_function (filter (takes_slot Plain) (refs_of ys))))
      (KnowsFunction m C K is)
      (λ f k. taken_is (moved_function m f) (refs_of ys) ∙ (any_refs m C K p q (takes f) (takes (moved_function m f)) (taken_alike f k) xs ys alike ∙ sym (taken_is f (refs_of xs))))
      fs known
