-- Imports have one order where one object stands for a run.
use Rattle.std.proofs.Common.{◌≡◌, ℕ, Bool, true, false, ◌==◌, ◌||◌, ◌&&◌, List, [], ◌∷◌, ◌++◌, map, filter, refl, sym, ap, ◌∙◌}
use Rattle.std.specs.Prelude.{if◌then◌else◌, Option, Some, None, option_map, filter_map, unwrap_or, IsTrue, All}
use Rattle.std.specs.List.{list_any, cons_option}
use Rattle.std.proofs.lemmas.Bool.{and_parts, eqb-true}
use Rattle.std.proofs.lemmas.Slice.Eq.{bytes_eq-Decides}
use Rattle.std.proofs.lemmas.List.Elements.{All-head, All-tail}
use Rattle.list_places.proofs.Lists.{has_any}
use Rattle.name_rules.specs.object_file.wl_base.Choice.{distinct, first_some, given}
use Rattle.name_rules.specs.object_file.linking_section.declared.symbol.SymbolKind.TheVariants.{Function, Datum, GlobalVar}
use Rattle.name_rules.specs.object_file.linking_section.Flags.{kind_code, is_weak}
use Rattle.made_symbols.specs.declared.mode.Mode.TheVariants.{Plain}
use Rattle.name_rules.specs.Entries.{InputSymbol, ImportKey, name_of, named, is_entry, is_named, is_kind, same_import}
use Rattle.name_rules.specs.Meanings.{Meaning, here, imported, null, nothing, no_uses, references, least_import, where_given, winner, own_meaning, meaning, by_rules}
use Rattle.link_rules.specs.Keys.{import_of}
use Rattle.partial_laws.specs.Joining.{Joining, joined, moved, Kept, IsJoining, explicit_of, any_strong, stands_for, ComeFirst}
use Rattle.partial_laws.proofs.Lists.{filter_kept}
use Rattle.partial_laws.proofs.Same.{import_itself}
use Rattle.partial_laws.proofs.Thinned.{Led, Shown, thinned}
use Rattle.partial_laws.proofs.Meant.{meaning_moves}

-- ---- the import that a symbol means, by its name and kind

abbrev rules_import : Option InputSymbol → Option ImportKey → Bool → Option ImportKey → Bool → Option ImportKey
rules_import w explicit may least weak =
    import_of (unwrap_or (first_some (option_map here w ∷ option_map imported explicit ∷ option_map imported (where_given may least) ∷ given weak null ∷ [])) nothing)

-- null is no import
any_weak : (w : Option InputSymbol) (explicit : Option ImportKey) (may : Bool) (least : Option ImportKey) (weak : Bool)
    → rules_import w explicit may least weak ≡ rules_import w explicit may least false
any_weak (Some w) x m l weak = refl
any_weak None (Some k) m l weak = refl
any_weak None None true (Some k) weak = refl
any_weak None None true None true = refl
any_weak None None true None false = refl
any_weak None None false l true = refl
any_weak None None false l false = refl

abbrev name_import : Bool → List InputSymbol → List ℕ → ℕ → Option ImportKey
name_import allow all n code =
    rules_import (winner all n) (least_import (explicit_of (references (named all n))))
    (allow && (((code == kind_code Function) || (code == kind_code GlobalVar)) && any_strong (references (named all n)))) (least_import (references (named all n))) false

module _ (allow : Bool) (es : List InputSymbol) where
  abbrev pub import_meant : InputSymbol → Option ImportKey
  import_meant e = import_of (meaning Plain no_uses allow es e)

  entry_import : (e : InputSymbol) → is_entry e ≡ true → import_meant e ≡ name_import allow es (name_of e) (kind_code e.symbol.kind)
  entry_import e entry =
      ap (λ (b : Bool). import_of (if b then by_rules Plain no_uses allow (named es (name_of e)) e else own_meaning e)) entry
      ∙ any_weak (winner es (name_of e)) (least_import (explicit_of (references (named es (name_of e)))))
      (allow && ((is_kind Function e || is_kind GlobalVar e) && any_strong (references (named es (name_of e))))) (least_import (references (named es (name_of e))))
      (is_weak e.symbol && (is_kind Function e || is_kind Datum e))

  -- A symbol that is no entry means no import.
  own_import : (e : InputSymbol) → is_entry e ≡ false → import_meant e ≡ None
  own_import e entry = ap (λ (b : Bool). import_of (if b then by_rules Plain no_uses allow (named es (name_of e)) e else own_meaning e)) entry ∙ by_test e.defines
    where
      by_test : (b : Bool) → import_of (if b then here e else nothing) ≡ None
      by_test true = refl
      by_test false = refl

  -- Neither does one whose name has a winner.
  won_import : (e : InputSymbol) → is_entry e ≡ true → (w : InputSymbol) → winner es (name_of e) ≡ Some w → import_meant e ≡ None
  won_import e entry w some =
      entry_import e entry
      ∙ ap (λ o. rules_import o (least_import (explicit_of (references (named es (name_of e)))))
      (allow && (((kind_code e.symbol.kind == kind_code Function) || (kind_code e.symbol.kind == kind_code GlobalVar)) && any_strong (references (named es (name_of e)))))
      (least_import (references (named es (name_of e)))) false) some

module _ (j : Joining) (S : InputSymbol → Type 0) (es : List InputSymbol) (is : IsJoining j S es) (all : All S es) (allow : Bool) where
  abbrev f : InputSymbol → Option ImportKey
  f = import_meant allow es

  -- What stands for a symbol means its import.
  import_shown : (x : InputSymbol) (seen : List InputSymbol) (k : ImportKey) → is_entry x ≡ true → f x ≡ Some k → IsTrue (list_any (stands_for j x) seen) → Shown j.keep f same_import import_itself seen k
  import_shown x seen k entry gives any =
      let s = has_any (stands_for j x) seen any in
      let a = and_parts ((j.keep s.0 && is_entry s.0) && is_named (name_of x) s.0) (is_kind x.symbol.kind s.0) s.2 in
      let b = and_parts (j.keep s.0 && is_entry s.0) (is_named (name_of x) s.0) a.0 in
      let c = and_parts (j.keep s.0) (is_entry s.0) b.0 in
      let name : name_of s.0 ≡ name_of x = (bytes_eq-Decides (name_of s.0) (name_of x)).0 b.1 in
      let kind : kind_code s.0.symbol.kind ≡ kind_code x.symbol.kind = eqb-true (kind_code s.0.symbol.kind) (kind_code x.symbol.kind) a.1 in
      record {
        item = s.0;
        there = s.1;
        kept = c.0;
        gives =
            entry_import allow es s.0 c.1
            ∙ (ap (λ n. name_import allow es n (kind_code s.0.symbol.kind)) name
            ∙ (ap (λ n. name_import allow es (name_of x) n) kind
            ∙ (sym (entry_import allow es x entry) ∙ gives)));
      }

  led : (seen xs : List InputSymbol) → ComeFirst j es seen xs → Led j.keep f same_import import_itself seen xs
  led seen [] first = tt
  led seen (x ∷ xs) first = (shown, led (seen ++ x ∷ []) xs first.1)
    where
      none_some : (k : ImportKey) (o : Option ImportKey) → o ≡ None → o ≡ Some k → ⊥
      none_some k o none some = clash (sym none ∙ some)
        where
          clash : None ≡ Some k → ⊥
          clash e = absurd cc

      by_winner : (k : ImportKey) → j.keep x ≡ false → is_entry x ≡ true → f x ≡ Some k → (o : Option InputSymbol) → winner es (name_of x) ≡ o → Shown j.keep f same_import import_itself seen k
      by_winner k left entry gives (Some w) some = absurd (none_some k (f x) (won_import allow es x entry w some) gives)
      by_winner k left entry gives None none = import_shown x seen k entry gives (first.0 left entry none)

      by_entry : (k : ImportKey) → j.keep x ≡ false → f x ≡ Some k → (b : Bool) → is_entry x ≡ b → Shown j.keep f same_import import_itself seen k
      by_entry k left gives true entry = by_winner k left entry gives (winner es (name_of x)) refl
      by_entry k left gives false entry = absurd (none_some k (f x) (own_import allow es x entry) gives)

      shown : j.keep x ≡ false → (k : ImportKey) → f x ≡ Some k → Shown j.keep f same_import import_itself seen k
      shown left k gives = by_entry k left gives (is_entry x) refl

  moved_import : (m : Meaning) → import_of (moved j m) ≡ import_of m
  moved_import (here e) = refl
  moved_import (imported k) = refl
  moved_import null = refl
  moved_import nothing = refl

  kept_imports : (xs : List InputSymbol) → All (Kept j S) xs → filter_map import_of (map (meaning Plain no_uses allow (joined j es)) (map j.move xs)) ≡ filter_map f xs
  kept_imports [] held = refl
  kept_imports (x ∷ xs) held =
      rw (ap import_of (meaning_moves j S es is all allow x (All-head (Kept j S) x xs held)) ∙ moved_import (meaning Plain no_uses allow es x), kept_imports xs (All-tail (Kept j S) x xs held)) refl

  meant_imports : (xs : List InputSymbol) → filter_map import_of (map (meaning Plain no_uses allow es) xs) ≡ filter_map f xs
  meant_imports [] = refl
  meant_imports (x ∷ xs) = ap (cons_option (f x)) (meant_imports xs)

  -- All imports that symbols mean, each once.
  pub imports_joined : (xs : List InputSymbol) → All S xs → ComeFirst j es [] xs
      → distinct same_import (filter_map import_of (map (meaning Plain no_uses allow (joined j es)) (joined j xs))) ≡ distinct same_import (filter_map import_of (map (meaning Plain no_uses allow es) xs))
  imports_joined xs held first =
      ap (distinct same_import) (kept_imports (filter j.keep xs) (filter_kept S (Kept j S) j.keep (λ x s k. record { symbol = s; kept = k }) xs held))
      ∙ (sym (thinned j.keep f same_import import_itself xs (led [] xs first)) ∙ ap (distinct same_import) (sym (meant_imports xs)))
