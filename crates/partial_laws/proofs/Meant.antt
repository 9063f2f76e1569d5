-- Symbols have the same meanings where one object stands for a run.
use Rattle.std.proofs.Common.{◌≡◌, ℕ, Bool, true, false, ◌==◌, ◌||◌, ◌&&◌, List, [], ◌∷◌, refl, sym, ap, ◌∙◌}
use Rattle.std.specs.Prelude.{if◌then◌else◌, Option, Some, None, option_map, unwrap_or, All}
use Rattle.name_rules.specs.object_file.wl_base.Choice.{first_some, given}
use Rattle.name_rules.specs.object_file.linking_section.declared.symbol.SymbolKind.{SymbolKind}
use Rattle.name_rules.specs.object_file.linking_section.declared.symbol.SymbolKind.TheVariants.{Function, Datum, GlobalVar}
use Rattle.name_rules.specs.object_file.linking_section.Flags.{kind_code, is_weak}
use Rattle.made_symbols.specs.declared.mode.Mode.TheVariants.{Plain}
use Rattle.name_rules.specs.Entries.{InputSymbol, ImportKey, name_of, named, is_entry}
use Rattle.name_rules.specs.Meanings.{Meaning, here, imported, null, nothing, no_uses, references, least_import, where_given, winner, by_rules, own_meaning, meaning}
use Rattle.partial_laws.specs.Joining.{Joining, joined, moved, Kept, IsJoining, explicit_of, any_strong}
use Rattle.partial_laws.proofs.Winners.{winner_moves}

-- ---- the rules, over what they look at

abbrev meant : Option InputSymbol → Option ImportKey → Bool → Option ImportKey → Bool → Meaning
meant w explicit may least weak =
    unwrap_or (first_some (option_map here w ∷ option_map imported explicit ∷ option_map imported (where_given may least) ∷ given weak null ∷ [])) nothing

abbrev is_of : SymbolKind → SymbolKind → Bool
is_of kind other = kind_code other == kind_code kind

abbrev may : SymbolKind → List InputSymbol → Bool
may kind es = (is_of Function kind || is_of GlobalVar kind) && any_strong (references es)

-- What an entry of the name means that is of this kind, and WEAK or not.
abbrev entry_meaning : Bool → List InputSymbol → List ℕ → SymbolKind → Bool → Meaning
entry_meaning allow all n kind weak =
    meant (winner all n) (least_import (explicit_of (references (named all n)))) (allow && may kind (named all n)) (least_import (references (named all n)))
    (weak && (is_of Function kind || is_of Datum kind))

by_rules_is : (allow : Bool) (all : List InputSymbol) (e : InputSymbol) → by_rules Plain no_uses allow (named all (name_of e)) e ≡ entry_meaning allow all (name_of e) e.symbol.kind (is_weak e.symbol)
by_rules_is allow all e = refl

module _ (j : Joining) where
  -- Without a winner nothing of the link is meant.
  not_moved : (x : Option ImportKey) (m : Bool) (l : Option ImportKey) (n : Bool) → moved j (meant None x m l n) ≡ meant None x m l n
  not_moved (Some k) m l n = refl
  not_moved None true (Some k) n = refl
  not_moved None true None true = refl
  not_moved None true None false = refl
  not_moved None false l true = refl
  not_moved None false l false = refl

module _ (j : Joining) (S : InputSymbol → Type 0) (es : List InputSymbol) (is : IsJoining j S es) (all : All S es) where
  entry_moves : (allow : Bool) (n : List ℕ) (kind : SymbolKind) (weak weak_too : Bool) → (winner es n ≡ None → weak_too ≡ weak)
      → entry_meaning allow (joined j es) n kind weak_too ≡ moved j (entry_meaning allow es n kind weak)
  entry_moves allow n kind weak weak_too same = by_winner (winner es n) refl
    where
      x : Option ImportKey
      x = least_import (explicit_of (references (named es n)))

      l : Option ImportKey
      l = least_import (references (named es n))

      x' : Option ImportKey
      x' = least_import (explicit_of (references (named (joined j es) n)))

      l' : Option ImportKey
      l' = least_import (references (named (joined j es) n))

      m : Bool
      m = allow && may kind (named es n)

      m' : Bool
      m' = allow && may kind (named (joined j es) n)

      code : Bool
      code = is_of Function kind || is_of Datum kind

      -- An import that EXPLICIT_NAME asks for decides alone.
      by_explicit : winner es n ≡ None → (o : Option ImportKey) → x ≡ o → meant None x m' l' (weak_too && code) ≡ moved j (meant None x m l (weak && code))
      by_explicit none (Some k) some =
          ap (λ y. meant None y m' l' (weak_too && code)) some ∙ sym (ap (λ y. moved j (meant None y m l (weak && code))) some)
      by_explicit none None absent =
          ap (λ b. meant None x (allow && ((is_of Function kind || is_of GlobalVar kind) && b)) l' (weak_too && code)) (is.strong n none)
          ∙ (ap (λ y. meant None x m y (weak_too && code)) (is.least n none absent)
          ∙ (ap (λ b. meant None x m l (b && code)) (same none)
          ∙ sym (not_moved j x m l (weak && code))))

      by_winner : (o : Option InputSymbol) → winner es n ≡ o → entry_meaning allow (joined j es) n kind weak_too ≡ moved j (entry_meaning allow es n kind weak)
      by_winner (Some w) some =
          ap (λ o. meant o x' m' l' (weak_too && code)) (winner_moves j S es is all n ∙ ap (option_map j.move) some)
          ∙ sym (ap (λ o. moved j (meant o x m l (weak && code))) some)
      by_winner None none =
          ap (λ o. meant o x' m' l' (weak_too && code)) (winner_moves j S es is all n ∙ ap (option_map j.move) none)
          ∙ (ap (λ y. meant None y m' l' (weak_too && code)) (is.explicit n none)
          ∙ (by_explicit none x refl ∙ sym (ap (λ o. moved j (meant o x m l (weak && code))) none)))

  -- A symbol means what the one means that stands for it: one of the same name and kind that is kept, and WEAK where it is if nothing defines
  -- the name.
  pub meaning_for : (allow : Bool) (e f : InputSymbol) → is_entry e ≡ true → Kept j S f → is_entry f ≡ true → name_of f ≡ name_of e → f.symbol.kind ≡ e.symbol.kind
      → (winner es (name_of e) ≡ None → is_weak f.symbol ≡ is_weak e.symbol)
      → meaning Plain no_uses allow (joined j es) (j.move f) ≡ moved j (meaning Plain no_uses allow es e)
  meaning_for allow e f entry kept entry_too name kind weak =
      let n : List ℕ = name_of e in
      ap (λ (b : Bool). if b then by_rules Plain no_uses allow (named (joined j es) (name_of (j.move f))) (j.move f) else own_meaning (j.move f)) (is.entry f kept ∙ entry_too)
      ∙ (ap (λ m. entry_meaning allow (joined j es) m (j.move f).symbol.kind (is_weak (j.move f).symbol)) (is.name f kept ∙ name)
      ∙ (ap (λ k. entry_meaning allow (joined j es) n k (is_weak (j.move f).symbol)) (is.kind f kept ∙ kind)
      ∙ (entry_moves allow n e.symbol.kind (is_weak e.symbol) (is_weak (j.move f).symbol)
      (λ none. is.weak f kept entry_too (ap (winner es) name ∙ none) ∙ weak none)
      ∙ ap (moved j) (sym (ap (λ (b : Bool). if b then by_rules Plain no_uses allow (named es n) e else own_meaning e) entry)))))

  -- A kept symbol means the same.
  pub meaning_moves : (allow : Bool) (e : InputSymbol) → Kept j S e → meaning Plain no_uses allow (joined j es) (j.move e) ≡ moved j (meaning Plain no_uses allow es e)
  meaning_moves allow e kept = by_entry (is_entry e) refl
    where
      by_entry : (b : Bool) → is_entry e ≡ b → meaning Plain no_uses allow (joined j es) (j.move e) ≡ moved j (meaning Plain no_uses allow es e)
      by_entry true entry = meaning_for allow e e entry kept entry refl refl (λ none. refl)
      by_entry false entry =
          ap (λ (b : Bool). if b then by_rules Plain no_uses allow (named (joined j es) (name_of (j.move e))) (j.move e) else own_meaning (j.move e)) (is.entry e kept ∙ entry)
          ∙ (own (is.own e kept entry)
          ∙ ap (moved j) (sym (ap (λ (b : Bool). if b then by_rules Plain no_uses allow (named es (name_of e)) e else own_meaning e) entry)))
        where
          by_test : (b : Bool) → (if b then here (j.move e) else nothing) ≡ moved j (if b then here e else nothing)
          by_test true = refl
          by_test false = refl

          own : (j.move e).defines ≡ e.defines → own_meaning (j.move e) ≡ moved j (own_meaning e)
          own d = ap (λ (b : Bool). if b then here (j.move e) else nothing) d ∙ by_test e.defines
