-- Symbols of loaded objects and of the linker: each is known by its input and place.
use Rattle.std.proofs.Common.{◌≡◌, ℕ, zero, suc, ◌+◌, ◌<◌, List, [], ◌∷◌, Some, true, refl, sym, ap, ◌∙◌, inl, inr, ⊎_elim, arith}
use Rattle.std.specs.Prelude.{◌⊎◌, ◌==◌, slice_get, filter, flat_map}
use Rattle.std.proofs.lemmas.Bool.{and_parts, eqb-true}
use Rattle.list_places.specs.Has.{Has}
use Rattle.list_places.proofs.Lists.{has_either, has_right, has_filter, filter_has, has_flat, flat_has, some_is}
use Rattle.linking_section.specs.declared.symbol.Symbol.{Symbol}
use Rattle.made_symbols.specs.Made.{MadeSymbol, made}
use Rattle.made_symbols.specs.declared.mode.Mode.TheVariants.{Plain}
use Rattle.object_file.specs.declared.object.Object.{Object}
use Rattle.program_build.specs.name_entries.View.{InputsRise}
use Rattle.name_rules.specs.Entries.{InputSymbol, entry_in, entries_from, symbols_of, made_entry, made_from, entries, is_entry, same_entry}

-- ---- where symbols stand

-- A symbol of an object.
pub record IsSymbol (objects : List Object) (o : Object) (e : InputSymbol) : Type 0 where
  pub place : ℕ
  pub symbol : Symbol
  pub there : slice_get o.symbols place ≡ Some symbol
  pub is : e ≡ entry_in objects o place symbol

-- A symbol that the linker makes.
pub record IsMade (e : InputSymbol) : Type 0 where
  pub place : ℕ
  pub symbol : MadeSymbol
  pub there : slice_get (made Plain) place ≡ Some symbol
  pub is : e ≡ made_entry place symbol

pub record OfObject (objects : List Object) (e : InputSymbol) : Type 0 where
  pub object : Object
  pub there : Has objects object
  pub symbol : IsSymbol objects object e

abbrev pub Known : List Object → InputSymbol → Type 0
Known objects e = IsMade e ⊎ OfObject objects e

from_place : (objects : List Object) (o : Object) (place : ℕ) (ss : List Symbol) (e : InputSymbol) → Has (entries_from objects o place ss) e → (k : ℕ) × (s : Symbol) × (slice_get ss k ≡ Some s) × (e ≡ entry_in objects o (place + k) s)
from_place objects o place [] e h = absurd h
from_place objects o place (s ∷ ss) e (inl q) = let z : place ≡ place + 0 = omega arith in (0, s, refl, sym q ∙ ap (λ n. entry_in objects o n s) z)
from_place objects o place (s ∷ ss) e (inr h) =
    let r = from_place objects o (place + 1) ss e h in
    let z : place + 1 + r.0 ≡ place + suc r.0 = omega arith in
    (suc r.0, r.1, r.2, r.3 ∙ ap (λ n. entry_in objects o n r.1) z)

pub symbol_at : (objects : List Object) (o : Object) (place : ℕ) (ss : List Symbol) (k : ℕ) (e : InputSymbol) → slice_get (entries_from objects o place ss) k ≡ Some e → (s : Symbol) × (slice_get ss k ≡ Some s) × (e ≡ entry_in objects o (place + k) s)
symbol_at objects o place [] k e h = absurd (grind arith)
symbol_at objects o place (s ∷ ss) zero e h = let z : place ≡ place + 0 = omega arith in (s, refl, sym (some_is (entry_in objects o place s) e h) ∙ ap (λ n. entry_in objects o n s) z)
symbol_at objects o place (s ∷ ss) (suc k) e h =
    let r = symbol_at objects o (place + 1) ss k e h in
    let z : place + 1 + k ≡ place + suc k = omega arith in
    (r.0, r.1, r.2 ∙ ap (λ n. entry_in objects o n r.0) z)

pub is_symbol : (objects : List Object) (o : Object) (e : InputSymbol) → Has (symbols_of objects o) e → IsSymbol objects o e
is_symbol objects o e h =
    let r = from_place objects o 0 o.symbols e h in
    let z : 0 + r.0 ≡ r.0 = omega arith in
    record { place = r.0; symbol = r.1; there = r.2; is = r.3 ∙ ap (λ n. entry_in objects o n r.1) z }

made_place : (place : ℕ) (ms : List MadeSymbol) (e : InputSymbol) → Has (made_from place ms) e → (k : ℕ) × (m : MadeSymbol) × (slice_get ms k ≡ Some m) × (e ≡ made_entry (place + k) m)
made_place place [] e h = absurd h
made_place place (m ∷ ms) e (inl q) = let z : place ≡ place + 0 = omega arith in (0, m, refl, sym q ∙ ap (λ n. made_entry n m) z)
made_place place (m ∷ ms) e (inr h) =
    let r = made_place (place + 1) ms e h in
    let z : place + 1 + r.0 ≡ place + suc r.0 = omega arith in
    (suc r.0, r.1, r.2, r.3 ∙ ap (λ n. made_entry n r.1) z)

pub is_made : (e : InputSymbol) → Has (made_from 0 (made Plain)) e → IsMade e
is_made e h =
    let r = made_place 0 (made Plain) e h in
    let z : 0 + r.0 ≡ r.0 = omega arith in
    record { place = r.0; symbol = r.1; there = r.2; is = r.3 ∙ ap (λ n. made_entry n r.1) z }

-- each entry of a name is known
pub entry_known : (objects : List Object) (e : InputSymbol) → Has (entries Plain objects) e → Known objects e
unfolding entries
entry_known objects e h =
    ⊎_elim (λ a. inl (is_made e a))
    (λ b. let f = has_filter is_entry (flat_map (symbols_of objects) objects) e b in
    let r = has_flat (symbols_of objects) objects e f.0 in
    inr (record { object = r.0; there = r.1; symbol = is_symbol objects r.0 e r.2 }))
    (has_either (made_from 0 (made Plain)) (filter is_entry (flat_map (symbols_of objects) objects)) e h)

-- a symbol of an object is an entry where it is one
pub symbol_listed : (objects : List Object) (o : Object) (e : InputSymbol) → Has objects o → Has (symbols_of objects o) e → is_entry e ≡ true → Has (entries Plain objects) e
unfolding entries
symbol_listed objects o e h k t =
    has_right (made_from 0 (made Plain)) (filter is_entry (flat_map (symbols_of objects) objects)) e
    (filter_has is_entry (flat_map (symbols_of objects) objects) e (flat_has (symbols_of objects) objects o e h k) t)

-- ---- one for each input and place

pub above : (last : ℕ) (os : List Object) → InputsRise last os → (o : Object) → Has os o → last < o.input
above last [] r o h = absurd h
above last (x ∷ os) r o (inl e) = let q : x.input ≡ o.input = ap (λ (y : Object). y.input) e in omega (arith, r.0, q)
above last (x ∷ os) r o (inr h) = let q : x.input < o.input = above x.input os r.2 o h in omega (arith, q, r.0)

pub one_object : (last : ℕ) (os : List Object) → InputsRise last os → (a b : Object) → Has os a → Has os b → a.input ≡ b.input → a ≡ b
one_object last [] r a b h k e = absurd h
one_object last (x ∷ os) r a b (inl p) (inl q) e = sym p ∙ q
one_object last (x ∷ os) r a b (inl p) (inr k) e = absurd (let q : x.input < b.input = above x.input os r.2 b k in let z : x.input ≡ a.input = ap (λ (y : Object). y.input) p in omega (arith, q, z, e))
one_object last (x ∷ os) r a b (inr h) (inl p) e = absurd (let q : x.input < a.input = above x.input os r.2 a h in let z : x.input ≡ b.input = ap (λ (y : Object). y.input) p in omega (arith, q, z, e))
one_object last (x ∷ os) r a b (inr h) (inr k) e = one_object x.input os r.2 a b h k e

-- no object is the linker
pub positive : (objects : List Object) → InputsRise 0 objects → (o : Object) → Has objects o → o.input ≡ 0 → ⊥
positive objects r o h z = let q : 0 < o.input = above 0 objects r o h in omega (arith, q, z)

pub of_input : (objects : List Object) (e : InputSymbol) (x : OfObject objects e) → e.input ≡ x.object.input
of_input objects e x = ap (λ (y : InputSymbol). y.input) x.symbol.is

pub one_entry : (objects : List Object) → InputsRise 0 objects → (e f : InputSymbol) → Known objects e → Known objects f → same_entry e f ≡ true → e ≡ f
one_entry objects r e f a b h =
    let q = and_parts (e.input == f.input) (e.place == f.place) h in
    by_case a b (eqb-true e.input f.input q.0) (eqb-true e.place f.place q.1)
  where
    by_case : Known objects e → Known objects f → e.input ≡ f.input → e.place ≡ f.place → e ≡ f
    by_case (inl x) (inl y) i p =
        let z : x.place ≡ y.place = sym (ap (λ (w : InputSymbol). w.place) x.is) ∙ p ∙ ap (λ (w : InputSymbol). w.place) y.is in
        let s : x.symbol ≡ y.symbol = some_is x.symbol y.symbol (sym x.there ∙ ap (slice_get (made Plain)) z ∙ y.there) in
        x.is ∙ ap (λ n. made_entry n x.symbol) z ∙ ap (made_entry y.place) s ∙ sym y.is
    by_case (inl x) (inr y) i p = absurd (positive objects r y.object y.there (sym (of_input objects f y) ∙ sym i ∙ ap (λ (w : InputSymbol). w.input) x.is))
    by_case (inr x) (inl y) i p = absurd (positive objects r x.object x.there (sym (of_input objects e x) ∙ i ∙ ap (λ (w : InputSymbol). w.input) y.is))
    by_case (inr x) (inr y) i p =
        let o : x.object ≡ y.object = one_object 0 objects r x.object y.object x.there y.there (sym (of_input objects e x) ∙ i ∙ of_input objects f y) in
        let z : x.symbol.place ≡ y.symbol.place = sym (ap (λ (w : InputSymbol). w.place) x.symbol.is) ∙ p ∙ ap (λ (w : InputSymbol). w.place) y.symbol.is in
        let s : x.symbol.symbol ≡ y.symbol.symbol = some_is x.symbol.symbol y.symbol.symbol (sym x.symbol.there ∙ ap (λ (w : Object). slice_get w.symbols x.symbol.place) o ∙ ap (slice_get y.object.symbols) z ∙ y.symbol.there) in
        x.symbol.is ∙ ap (λ w. entry_in objects w x.symbol.place x.symbol.symbol) o ∙ ap (λ n. entry_in objects y.object n x.symbol.symbol) z ∙ ap (entry_in objects y.object y.symbol.place) s ∙ sym y.symbol.is
