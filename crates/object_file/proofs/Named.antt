-- Symbols that are spelled have names: their own, or that of the import that they name.
use Rattle.std.proofs.Common.{◌≡◌, ℕ, zero, suc, ◌<◌, Bool, true, false, List, [], ◌∷◌, length, refl, Option, Some, None, arith}
use Rattle.std.specs.Prelude.{All, is_some, slice_get, not, IsTrue}
use Rattle.std.proofs.lemmas.Bool.{or_parts}
use Rattle.std.proofs.lemmas.List.Elements.{All-nil, All-cons, All-weaker}
use Rattle.object_rules.specs.wasm_grammar.Grammar.{SpellsMany}
use Rattle.object_rules.specs.wasm_types.declared.import.Import.{Import}
use Rattle.object_rules.specs.linking_section.declared.symbol.Symbol.{Symbol}
use Rattle.object_rules.specs.linking_section.declared.symbol.SymbolKind.{SymbolKind}
use Rattle.object_rules.specs.linking_section.declared.symbol.SymbolKind.TheVariants.{Function, Datum, GlobalVar, Section, Table}
use Rattle.object_rules.specs.linking_section.declared.group.Group.{Group}
use Rattle.object_rules.specs.linking_section.declared.linking.Linking.{Linking}
use Rattle.object_rules.specs.linking_section.Flags.{has_bit, is_named, is_undefined}
use Rattle.object_rules.specs.linking_section.Linking.{SpellsMaybe, SpellsBody, SpellsSymbol, is_member_kind, SpellsMember, SpellsGroup, IsSaid, SpellsLinking}
use Rattle.object_rules.specs.wasm_grammar.Subsections.{payloads_of}
use Rattle.object_rules.specs.Spaces.{imports_of}
use Rattle.object_rules.specs.Symbols.{field_of, own_or, import_name, name_of, is_section}

-- ---- the items of a list that is said

module _ {A : Type 0} (Item : A → List ℕ → Type 0) where
  pub many_all : (xs : List A) (bytes : List ℕ) → SpellsMany Item xs bytes → All (λ x. (text : List ℕ) × Item x text) xs
  many_all [] bytes s = All-nil (λ x. (text : List ℕ) × Item x text)
  many_all (x ∷ xs) bytes s = All-cons (λ x. (text : List ℕ) × Item x text) x xs (s.0, s.2) (many_all xs s.1 s.3)

  pub said_all : (payloads : List (List ℕ)) (xs : List A) → IsSaid Item payloads xs → All (λ x. (text : List ℕ) × Item x text) xs
  said_all [] xs s = none xs s
    where
      none : (ys : List A) → ys ≡ [] → All (λ x. (text : List ℕ) × Item x text) ys
      none [] e = All-nil (λ x. (text : List ℕ) × Item x text)
      none (y ∷ ys) e = absurd cc
  said_all (payload ∷ []) xs s = many_all xs s.1 s.3
  said_all (payload ∷ other ∷ more) xs s = absurd s

-- ---- names

own_name : (name other : Option (List ℕ)) (text : List ℕ) → SpellsMaybe true name text → is_some (own_or name other) ≡ true
own_name (Some name) other text s = refl
own_name None other text s = absurd s

or_import : (name : Option (List ℕ)) (found : Option Import) → is_some found ≡ true → is_some (own_or name (field_of found)) ≡ true
or_import (Some name) found e = refl
or_import None (Some i) e = refl
or_import None None e = absurd cc

inside : {A : Type 0} (xs : List A) (i : ℕ) → i < length xs → is_some (slice_get xs i) ≡ true
inside [] i lt = absurd (omega arith)
inside (x ∷ xs) zero lt = refl
inside (x ∷ xs) (suc i) lt = inside xs i (omega arith)

-- A symbol with an index: an undefined one names an import.
indexed_named : (imports : List Import) (s : Symbol) (text : List ℕ) (q : Bool) → is_named s.flags ≡ q → (is_undefined s ≡ true → s.index < length (imports_of s.kind imports)) → SpellsMaybe q s.name text
    → is_some (name_of imports s) ≡ true
indexed_named imports s text true is reference t = own_name s.name (import_name imports s) text t
indexed_named imports s text false is reference t =
    let undefined : is_undefined s ≡ true = not_false (is_undefined s) (or_parts (not (has_bit 0x10 s.flags)) (has_bit 0x40 s.flags) is).0 in
    or_import s.name (slice_get (imports_of s.kind imports) s.index) (inside (imports_of s.kind imports) s.index (reference undefined))
  where
    not_false : (q : Bool) → not q ≡ false → q ≡ true
    not_false true e = refl
    not_false false e = absurd cc

-- An undefined symbol with an index names an import.
abbrev pub NamesImport : List Import → Symbol → SymbolKind → Type 0
NamesImport imports s Function = is_undefined s ≡ true → s.index < length (imports_of Function imports)
NamesImport imports s Datum = Unit {0}
NamesImport imports s GlobalVar = is_undefined s ≡ true → s.index < length (imports_of GlobalVar imports)
NamesImport imports s Section = Unit {0}
NamesImport imports s Table = is_undefined s ≡ true → s.index < length (imports_of Table imports)

pub symbol_named : (imports : List Import) (s : Symbol) (text : List ℕ) → SpellsSymbol s text → NamesImport imports s s.kind → is_section s.kind ≡ false → is_some (name_of imports s) ≡ true
symbol_named imports s text t reference seen = by s.kind refl t.3.3 reference seen
  where
    by : (kind : SymbolKind) → s.kind ≡ kind → SpellsBody kind s t.3.1 → NamesImport imports s kind → is_section kind ≡ false → is_some (name_of imports s) ≡ true
    by Function is b r seen = indexed_named imports s b.2.1 (is_named s.flags) refl (λ u. rw is (r u)) b.2.3
    by Datum is b r seen = own_name s.name (import_name imports s) b.0 b.2
    by GlobalVar is b r seen = indexed_named imports s b.2.1 (is_named s.flags) refl (λ u. rw is (r u)) b.2.3
    by Section is b r seen = absurd cc
    by Table is b r seen = indexed_named imports s b.2.1 (is_named s.flags) refl (λ u. rw is (r u)) b.2.3

pub symbols_spelled : (l : Linking) (text : List ℕ) → SpellsLinking l text → All (λ s. (bytes : List ℕ) × SpellsSymbol s bytes) l.symbols
symbols_spelled l text t = said_all SpellsSymbol (payloads_of 8 t.subsections) l.symbols t.symbols

pub members_spelled : (l : Linking) (text : List ℕ) → SpellsLinking l text → All (λ g. All (λ m. IsTrue (is_member_kind m.kind)) g.members) l.groups
members_spelled l text t =
    All-weaker (λ g. (bytes : List ℕ) × SpellsGroup g bytes) (λ g. All (λ m. IsTrue (is_member_kind m.kind)) g.members) of_group l.groups (said_all SpellsGroup (payloads_of 7 t.subsections) l.groups t.groups)
  where
    of_group : (g : Group) → (bytes : List ℕ) × SpellsGroup g bytes → All (λ m. IsTrue (is_member_kind m.kind)) g.members
    of_group g s =
        All-weaker (λ m. (bytes : List ℕ) × SpellsMember m bytes) (λ m. IsTrue (is_member_kind m.kind)) (λ m k. k.1.0) g.members (many_all SpellsMember g.members s.1.3.3.1 s.1.3.3.3)
