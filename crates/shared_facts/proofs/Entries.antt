-- The entries of a shared output are the linker's own and symbols of objects. Each is known by its input and place.
use Rattle.std.proofs.Common.{◌≡◌, ℕ, ◌+◌, ◌≤◌, List, [], ◌∷◌, Option, Some, None, true, refl, sym, ap, ◌∙◌, subst, inl, inr, ⊎_elim, arith}
use Rattle.std.specs.Prelude.{◌⊎◌, ◌==◌, filter, flat_map, option_map}
use Rattle.std.proofs.lemmas.Bool.{and_parts, eqb-true}
use Rattle.list_places.specs.Has.{Has}
use Rattle.list_places.proofs.Lists.{has_either, has_left, has_filter, has_flat, some_is}
use Rattle.linking_section.specs.declared.symbol.SymbolKind.{SymbolKind}
use Rattle.linking_section.specs.declared.symbol.SymbolKind.TheVariants.{Function, Datum, GlobalVar, Section, Table}
use Rattle.linking_section.specs.Flags.{kind_code}
use Rattle.object_file.specs.declared.object.Object.{Object}
use Rattle.made_symbols.specs.Made.{MadeSymbol, made}
use Rattle.made_symbols.specs.declared.mode.Mode.TheVariants.{Shared}
use Rattle.name_rules.specs.Entries.{InputSymbol, is_kind, is_entry, name_of, made_from, made_type, entries, symbols_of, same_entry}
use Rattle.name_rules.specs.Meanings.{winner}
use Rattle.shared_links.specs.link_program.name_entries.View.{InputsRise}
use Rattle.link_rules.specs.Program.{Ref, Part, option_onto, made_kind, made_parts_from, chunk_at, winners_of, is_winner, is_that}
use Rattle.link_rules.specs.Keys.{is_global_type}
use Rattle.shared_links.specs.link_worlds.Sound.{PartOf}
use Rattle.shared_links.proofs.link_facts_lemmas.Symbols.{OfObject, is_symbol, of_input, positive, one_entry}
use Rattle.shared_links.proofs.link_facts_lemmas.Meant.{winner_has}
use Rattle.shared_links.proofs.link_facts_lemmas.Parts.{made_as}
use Rattle.shared_links.proofs.shared_laws_lemmas.Meant.{made_input}

-- ---- the linker's own

made_place : (place : ℕ) (ms : List MadeSymbol) (e : InputSymbol) → Has (made_from place ms) e → place ≤ e.place
made_place place [] e h = absurd h
made_place place (m ∷ ms) e (inl q) = let z : place ≡ e.place = ap (λ (w : InputSymbol). w.place) q in omega (arith, z)
made_place place (m ∷ ms) e (inr h) = let l : place + 1 ≤ e.place = made_place (place + 1) ms e h in omega (arith, l)

made_one : (place : ℕ) (ms : List MadeSymbol) (e f : InputSymbol) → Has (made_from place ms) e → Has (made_from place ms) f → e.place ≡ f.place → e ≡ f
made_one place [] e f h k z = absurd h
made_one place (m ∷ ms) e f (inl p) (inl q) z = sym p ∙ q
made_one place (m ∷ ms) e f (inl p) (inr k) z = absurd (let l : place + 1 ≤ f.place = made_place (place + 1) ms f k in let w : place ≡ e.place = ap (λ (w : InputSymbol). w.place) p in omega (arith, l, w, z))
made_one place (m ∷ ms) e f (inr h) (inl q) z = absurd (let l : place + 1 ≤ e.place = made_place (place + 1) ms e h in let w : place ≡ f.place = ap (λ (w : InputSymbol). w.place) q in omega (arith, l, w, z))
made_one place (m ∷ ms) e f (inr h) (inr k) z = made_one (place + 1) ms e f h k z

made_index : (place : ℕ) (ms : List MadeSymbol) (e : InputSymbol) → Has (made_from place ms) e → e.index ≡ e.place
made_index place [] e h = absurd h
made_index place (m ∷ ms) e (inl q) = sym (ap (λ (w : InputSymbol). w.index) q) ∙ ap (λ (w : InputSymbol). w.place) q
made_index place (m ∷ ms) e (inr h) = made_index (place + 1) ms e h

pub made_global : (place : ℕ) (ms : List MadeSymbol) (e : InputSymbol) → Has (made_from place ms) e → is_kind GlobalVar e ≡ true → is_global_type e.type ≡ true
made_global place [] e h t = absurd h
made_global place (m ∷ ms) e (inl q) t = subst (λ (w : InputSymbol). is_kind GlobalVar w ≡ true → is_global_type w.type ≡ true) q (by m.kind) t
  where
    by : (k : SymbolKind) → (kind_code k == kind_code GlobalVar) ≡ true → is_global_type (made_type m k) ≡ true
    by Function h = absurd (grind arith)
    by Datum h = absurd (grind arith)
    by GlobalVar h = refl
    by Section h = absurd (grind arith)
    by Table h = absurd (grind arith)
made_global place (m ∷ ms) e (inr h) t = made_global (place + 1) ms e h t

-- the part of one that is a function or a global
pub made_part_of : (calls : List Ref) (place : ℕ) (ms : List MadeSymbol) (e : InputSymbol) (n : ℕ) → Has (made_from place ms) e → made_kind e.symbol.kind ≡ Some n
    → PartOf (made_parts_from calls place ms) (chunk_at e.input n e.index)
made_part_of calls place [] e n h t = absurd h
made_part_of calls place (m ∷ ms) e n (inl q) t =
    subst (λ (w : InputSymbol). made_kind w.symbol.kind ≡ Some n → PartOf (made_parts_from calls place (m ∷ ms)) (chunk_at w.input n w.index)) q (by (made_kind m.kind)) t
  where
    by : (o : Option ℕ) → o ≡ Some n → PartOf (option_onto (option_map (made_as calls place m) o) (made_parts_from calls (place + 1) ms)) (chunk_at 0 n place)
    by None z = absurd (grind arith)
    by (Some k) z = record { part = made_as calls place m k; there = inl refl; chunk = ap (λ k. chunk_at 0 k place) (some_is k n z) }
made_part_of calls place (m ∷ ms) e n (inr h) t = later (option_map (made_as calls place m) (made_kind m.kind)) (made_part_of calls (place + 1) ms e n h t)
  where
    later : (o : Option Part) → PartOf (made_parts_from calls (place + 1) ms) (chunk_at e.input n e.index) → PartOf (option_onto o (made_parts_from calls (place + 1) ms)) (chunk_at e.input n e.index)
    later None x = x
    later (Some y) x = record { part = x.part; there = inr x.there; chunk = x.chunk }

-- ---- all

module _ (objects : List Object) (rise : InputsRise 0 objects) where
  abbrev es : List InputSymbol
  es = entries Shared objects

  abbrev pub Known : InputSymbol → Type 0
  Known e = Has (made_from 0 (made Shared)) e ⊎ OfObject objects e

  pub entry_known : (e : InputSymbol) → Has (entries Shared objects) e → Known e
  unfolding entries
  entry_known e h =
      ⊎_elim (λ a. inl a)
      (λ b. let f = has_filter is_entry (flat_map (symbols_of objects) objects) e b in
      let r = has_flat (symbols_of objects) objects e f.0 in
      inr (record { object = r.0; there = r.1; symbol = is_symbol objects r.0 e r.2 }))
      (has_either (made_from 0 (made Shared)) (filter is_entry (flat_map (symbols_of objects) objects)) e h)

  no_object : (e : InputSymbol) (x : OfObject objects e) → e.input ≡ 0 → ⊥
  no_object e x z = positive objects rise x.object x.there (sym (of_input objects e x) ∙ z)

  -- of the linker's own the index is the number
  pub known_index : (e : InputSymbol) → Known e → e.input ≡ 0 → e.index ≡ e.place
  known_index e (inl h) z = made_index 0 (made Shared) e h
  known_index e (inr x) z = absurd (no_object e x z)

  pub linkers_known : (e : InputSymbol) → Known e → e.input ≡ 0 → Has (made_from 0 (made Shared)) e
  linkers_known e (inl h) z = h
  linkers_known e (inr x) z = absurd (no_object e x z)

  pub linkers_listed : (e : InputSymbol) → Known e → e.input ≡ 0 → Has (entries Shared objects) e
  unfolding entries
  linkers_listed e k z = has_left (made_from 0 (made Shared)) (filter is_entry (flat_map (symbols_of objects) objects)) e (linkers_known e k z)

  pub one_known : (e f : InputSymbol) → Known e → Known f → same_entry e f ≡ true → e ≡ f
  one_known e f a b h =
      let q = and_parts (e.input == f.input) (e.place == f.place) h in
      by_case a b (eqb-true e.input f.input q.0) (eqb-true e.place f.place q.1)
    where
      by_case : Known e → Known f → e.input ≡ f.input → e.place ≡ f.place → e ≡ f
      by_case (inl x) (inl y) i p = made_one 0 (made Shared) e f x y p
      by_case (inl x) (inr y) i p = absurd (no_object f y (sym i ∙ made_input 0 (made Shared) e x))
      by_case (inr x) (inl y) i p = absurd (no_object e x (i ∙ made_input 0 (made Shared) f y))
      by_case (inr x) (inr y) i p = one_entry objects rise e f (inr x) (inr y) h

  -- a winner defines its name
  pub winner_is : (e : InputSymbol) → Has (winners_of (entries Shared objects)) e → Has (entries Shared objects) e × (e.defines ≡ true)
  unfolding winners_of
  winner_is e h = let f = has_filter (is_winner es) es e h in (f.0, by_winner (winner es (name_of e)) refl f.0 f.1)
    where
      by_winner : (o : Option InputSymbol) → winner es (name_of e) ≡ o → Has es e → is_that e o ≡ true → e.defines ≡ true
      by_winner None q he t = absurd (grind arith)
      by_winner (Some w) q he t =
          let z = winner_has es (name_of e) w q in
          ap (λ (x : InputSymbol). x.defines) (one_known e w (entry_known e he) (entry_known w z.0) t) ∙ z.1
