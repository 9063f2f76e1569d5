-- Where an operand of a function's body stands, a reference of its part stands, and names the same.
use Rattle.std.proofs.Common.{◌≡◌, ℕ, zero, suc, ◌+◌, List, [], ◌∷◌, map, Option, Some, None, Bool, true, false, cond, refl, sym, ap, ◌∙◌, subst, inl, inr, arith}
use Rattle.std.specs.Prelude.{◌==◌, slice_get, filter_map, option_map, IsTrue, ℤ}
use Rattle.std.specs.List.{cons_option}
use Rattle.std.proofs.lemmas.Option.{slice_get-map, get_or_from_slice_get}
use Rattle.list_places.specs.Has.{Has}
use Rattle.list_places.proofs.Lists.{has_at, some_is}
use Rattle.linking_section.specs.declared.symbol.Symbol.{Symbol}
use Rattle.body_windows.specs.declared.operand.Operand.{Operand}
use Rattle.body_windows.specs.declared.operand.Operand.TheVariants as operands
use Rattle.object_rules.specs.Relocs.{may_name}
use Rattle.object_file.specs.declared.object.Object.{Object}
use Rattle.object_file.specs.Spaces.{no_type, written_type}
use Rattle.object_file.specs.Sound.{OperandNames, IsNamedBy, NamesInRange}
use Rattle.made_symbols.specs.declared.mode.Mode.TheVariants.{Shared}
use Rattle.name_rules.specs.Entries.{InputSymbol, entry_in, entries_from, symbols_of, type_in}
use Rattle.name_rules.specs.Meanings.{Meaning, Resolved, Uses, resolved_in, meaning}
use Rattle.link_rules.specs.Program.{Ref, TypeWindow, Named, a_symbol, a_type, ref_to, ref_in, operand_named}
use Rattle.shared_facts.specs.shared_links.link_worlds.Bodies.{place_of, named_at}
use Rattle.shared_facts.proofs.shared_links_lemmas.link_facts_lemmas.Parts.{there_is}
use Rattle.shared_facts.proofs.shared_links_lemmas.link_facts_lemmas.Loosened.{named_by, ref_by, changed_or_not}
use Rattle.valid_objects.specs.Objects.{operand_at}
use Rattle.output_types.specs.Functions.{IsTypeOf, NamesSymbol, NamesSame}
use Rattle.valid_shared_links.proofs.ObjectTypes.{symbol_type}

entry_at : (objects : List Object) (o : Object) (place : ℕ) (ss : List Symbol) (k : ℕ) (s : Symbol) → slice_get ss k ≡ Some s
    → (e : InputSymbol) × (slice_get (entries_from objects o place ss) k ≡ Some e) × (e.symbol ≡ s) × (e.type ≡ type_in o s s.kind)
entry_at objects o place [] k s h = absurd (grind arith)
entry_at objects o place (y ∷ ys) zero s h = let q = some_is y s h in (entry_in objects o place y, refl, q, ap (λ z. type_in o z z.kind) q)
entry_at objects o place (y ∷ ys) (suc k) s h = entry_at objects o (place + 1) ys k s h

module _ (uses : Uses) (allow : Bool) (es : List InputSymbol) (objects : List Object) (o : Object) (all : List InputSymbol) (b : Bool) (in_range : (s : Symbol) → Has o.symbols s → NamesInRange o s s.kind) where
  abbrev res : Resolved
  res = resolved_in Shared uses allow es objects o

  abbrev mean : InputSymbol → Meaning
  mean = meaning Shared uses allow es

  -- ---- a symbol

  -- a reference, loosened where that is asked, names the symbol of its entry
  ref_names : (symbol : ℕ) (s : Symbol) (ref : Ref) → slice_get o.symbols symbol ≡ Some s → IsTrue (may_name ref.kind s.kind) → ref.entry.symbol ≡ s → ref.entry.type ≡ type_in o s s.kind → NamesSymbol o symbol (ref_by all b ref)
  ref_names symbol s ref at asked same type = elim (changed_or_not all b ref) as (λ _. NamesSymbol o symbol (ref_by all b ref)) [
    | inl c ↦ subst (NamesSymbol o symbol) (sym c.is) (record { symbol = s; there = at; asked = asked; kind = ap (λ (x : Symbol). x.kind) same; type = typed })
    | inr q ↦ subst (NamesSymbol o symbol) (sym q) (record { symbol = s; there = at; asked = asked; kind = ap (λ (x : Symbol). x.kind) same; type = typed })
  ]
    where
      typed : IsTypeOf o s s.kind ref.entry.type
      typed = subst (IsTypeOf o s s.kind) (sym type) (symbol_type o s s.kind (in_range s (has_at o.symbols symbol s at)))

  place_kept : (ref : Ref) → (ref_by all b ref).place ≡ ref.place
  place_kept ref = elim (changed_or_not all b ref) as (λ _. (ref_by all b ref).place ≡ ref.place) [
    | inl c ↦ ap (λ (r : Ref). r.place) c.is
    | inr q ↦ ap (λ (r : Ref). r.place) q
  ]

  symbol_by : (ref : Ref) → named_by all b (a_symbol ref) ≡ a_symbol (ref_by all b ref)
  symbol_by ref = by b
    where
      by : (b : Bool) → named_by all b (a_symbol ref) ≡ a_symbol (ref_by all b ref)
      by true = refl
      by false = refl

  type_by : (w : _) → named_by all b (a_type w) ≡ a_type w
  type_by w = by b
    where
      by : (b : Bool) → named_by all b (a_type w) ≡ a_type w
      by true = refl
      by false = refl

  record IsNamed (at kind symbol : ℕ) (named : Option Named) : Type 0 where
    ref : Ref
    is : named ≡ Some (a_symbol ref)
    place : ref.place ≡ at
    names : NamesSymbol o symbol (ref_by all b ref)

  symbol_named : (kind at symbol : ℕ) (addend : ℤ) → (s : Symbol) → slice_get o.symbols symbol ≡ Some s → IsTrue (may_name kind s.kind) → IsNamed at kind symbol (operand_named res (operands.Symbol kind at symbol addend))
  symbol_named kind at symbol addend s there asked =
      let e = entry_at objects o 0 o.symbols symbol s there in
      let m : slice_get (map mean (symbols_of objects o)) symbol ≡ Some (mean e.0) = slice_get-map mean (symbols_of objects o) symbol ∙ ap (option_map mean) e.1 in
      let ref : Ref = record { place = at; kind = kind; addend = addend; entry = e.0; meaning = mean e.0 } in
      let q : ref_in res at kind symbol addend ≡ Some ref = ap (λ x. ref_to at kind addend x (slice_get (map mean (symbols_of objects o)) symbol)) e.1 ∙ ap (ref_to at kind addend (Some e.0)) m in
      record { ref = ref; is = ap (option_map a_symbol) q; place = refl; names = ref_names symbol s ref there asked e.2 e.3 }

  symbol_there : (kind symbol : ℕ) (x : Option Symbol) → slice_get o.symbols symbol ≡ x → IsNamedBy kind x → (s : Symbol) × (slice_get o.symbols symbol ≡ Some s) × IsTrue (may_name kind s.kind)
  symbol_there kind symbol None q n = absurd n
  symbol_there kind symbol (Some s) q n = (s, q, n.0)

  -- ---- at a place

  abbrev named_in : List Operand → List Named
  named_in xs = map (named_by all b) (filter_map (operand_named res) xs)

  -- the first that stands at the place, on both sides
  first_of : (x : Operand) (n : Named) (place at : ℕ) (xs : List Operand) → NamesSame o (Some x) (Some n) → place_of n ≡ at → NamesSame o (operand_at xs place) (named_at (named_in xs) place)
      → NamesSame o (cond (at == place) (Some x) (operand_at xs place)) (cond (place_of n == place) (Some n) (named_at (named_in xs) place))
  first_of x n place at xs here q rest = subst (λ k. NamesSame o (cond (at == place) (Some x) (operand_at xs place)) (cond (k == place) (Some n) (named_at (named_in xs) place))) (sym q) (by (at == place))
    where
      by : (t : Bool) → NamesSame o (cond t (Some x) (operand_at xs place)) (cond t (Some n) (named_at (named_in xs) place))
      by true = here
      by false = rest

  pub same_named : (xs : List Operand) → ((x : Operand) → Has xs x → OperandNames o x) → (place : ℕ) → NamesSame o (operand_at xs place) (named_at (named_in xs) place)
  same_named [] f place = tt
  same_named (operands.Number ∷ xs) f place = same_named xs (λ y h. f y (inr h)) place
  same_named (operands.TableZero ∷ xs) f place = same_named xs (λ y h. f y (inr h)) place
  same_named (operands.TypeRef at index ∷ xs) f place =
      let t = there_is o.types index (f (operands.TypeRef at index) (inl refl)) in
      let w : TypeWindow = record { place = at; type = written_type o index } in
      let here : slice_get o.types index ≡ Some (written_type o index) = t.1 ∙ ap Some (sym (get_or_from_slice_get o.types index t.0 no_type t.1)) in
      subst (λ n. NamesSame o (cond (at == place) (Some (operands.TypeRef at index)) (operand_at xs place)) (cond (place_of n == place) (Some n) (named_at (named_in xs) place))) (sym (type_by w))
      (first_of (operands.TypeRef at index) (a_type w) place at xs here refl (same_named xs (λ y h. f y (inr h)) place))
  same_named (operands.Symbol kind at symbol addend ∷ xs) f place =
      let n = f (operands.Symbol kind at symbol addend) (inl refl) in
      let s = symbol_there kind symbol (slice_get o.symbols symbol) refl n.1 in
      let r = symbol_named kind at symbol addend s.0 s.1 s.2 in
      let x = operands.Symbol kind at symbol addend in
      let here = first_of x (a_symbol (ref_by all b r.ref)) place at xs r.names (place_kept r.ref ∙ r.place) (same_named xs (λ y h. f y (inr h)) place) in
      subst (λ o'. NamesSame o (cond (at == place) (Some x) (operand_at xs place)) (named_at (map (named_by all b) (cons_option o' (filter_map (operand_named res) xs))) place)) (sym r.is)
      (subst (λ n. NamesSame o (cond (at == place) (Some x) (operand_at xs place)) (cond (place_of n == place) (Some n) (named_at (named_in xs) place))) (sym (symbol_by r.ref)) here)
