-- What a symbol of a shared output means by itself or by its name defines it.
use Rattle.std.proofs.Common.{◌≡◌, ℕ, ◌+◌, List, [], ◌∷◌, Option, Some, None, Bool, true, false, refl, sym, ap, subst, inl, inr}
use Rattle.std.specs.Prelude.{◌⊎◌, ◌||◌, cond, filter, unwrap_or, option_map}
use Rattle.list_places.specs.Has.{Has}
use Rattle.list_places.proofs.Lists.{has_filter}
use Rattle.wl_base.specs.Choice.{first_some, given}
use Rattle.linking_section.specs.declared.symbol.SymbolKind.TheVariants.{GlobalVar}
use Rattle.linking_section.specs.Flags.{is_explicit}
use Rattle.made_symbols.specs.Made.{MadeSymbol}
use Rattle.made_symbols.specs.declared.mode.Mode.TheVariants.{Shared}
use Rattle.name_rules.specs.Entries.{InputSymbol, ImportKey, is_kind, is_entry, name_of, named, made_from}
use Rattle.name_rules.specs.Meanings.{Meaning, here, imported, null, nothing, Uses, least, references, least_import, where_given, is_called, is_address, cell_of, by_rules, own_meaning, meaning}
use Rattle.link_facts.proofs.Meant.{least_has}

-- ---- by the rules, over the entries of a name

abbrev IsOneOf : List InputSymbol → Meaning → Type 0
IsOneOf es (here d) = Has es d × (d.defines ≡ true)
IsOneOf es (imported k) = Unit {0}
IsOneOf es null = Unit {0}
IsOneOf es nothing = Unit {0}

chosen : (es : List InputSymbol) (a : Option InputSymbol) (b c : Option ImportKey) (g : Bool) (k : ImportKey) → ((d : InputSymbol) → a ≡ Some d → Has es d × (d.defines ≡ true))
    → IsOneOf es (unwrap_or (first_some (option_map here a ∷ option_map imported b ∷ option_map imported c ∷ given g (imported k) ∷ [])) nothing)
chosen es (Some d) b c g k fa = fa d refl
chosen es None (Some j) c g k fa = tt
chosen es None None (Some j) g k fa = tt
chosen es None None None true k fa = tt
chosen es None None None false k fa = tt

by_rules_one : (uses : Uses) (allow : Bool) (es : List InputSymbol) (e : InputSymbol) → IsOneOf es (by_rules Shared uses allow es e)
by_rules_one uses allow es e =
    chosen es (least (filter (λ d. d.defines) es)) (least_import (filter (λ r. is_explicit r.symbol) (references es)))
    (where_given (is_called uses e || is_kind GlobalVar e) (least_import (references es))) (is_address uses e) (cell_of e)
    (λ d h. let f = has_filter (λ (x : InputSymbol). x.defines) es d (least_has (filter (λ d. d.defines) es) d h) in (f.0, f.1))

-- ---- the symbol itself, or an entry

abbrev IsDefined : List InputSymbol → InputSymbol → Meaning → Type 0
IsDefined all e (here d) = ((is_entry e ≡ true) × Has (named all (name_of e)) d ⊎ (e ≡ d)) × (d.defines ≡ true)
IsDefined all e (imported k) = Unit {0}
IsDefined all e null = Unit {0}
IsDefined all e nothing = Unit {0}

of_named : (all : List InputSymbol) (e : InputSymbol) (m : Meaning) → is_entry e ≡ true → IsOneOf (named all (name_of e)) m → IsDefined all e m
of_named all e (here d) t h = (inl (t, h.0), h.1)
of_named all e (imported k) t h = tt
of_named all e null t h = tt
of_named all e nothing t h = tt

defined_by : (uses : Uses) (allow : Bool) (all : List InputSymbol) (e : InputSymbol) → IsDefined all e (meaning Shared uses allow all e)
defined_by uses allow all e = by_entry (is_entry e) refl
  where
    own : (b : Bool) → e.defines ≡ b → IsDefined all e (cond b (here e) nothing)
    own true t = (inr refl, t)
    own false t = tt

    by_entry : (b : Bool) → is_entry e ≡ b → IsDefined all e (cond b (by_rules Shared uses allow (named all (name_of e)) e) (own_meaning e))
    by_entry true t = of_named all e (by_rules Shared uses allow (named all (name_of e)) e) t (by_rules_one uses allow (named all (name_of e)) e)
    by_entry false t = own e.defines refl

pub defined : (uses : Uses) (allow : Bool) (all : List InputSymbol) (e d : InputSymbol) → meaning Shared uses allow all e ≡ here d → ((is_entry e ≡ true) × Has (named all (name_of e)) d ⊎ (e ≡ d)) × (d.defines ≡ true)
defined uses allow all e d h = subst (IsDefined all e) h (defined_by uses allow all e)

-- ---- the linker's entries

pub made_input : (place : ℕ) (ms : List MadeSymbol) (e : InputSymbol) → Has (made_from place ms) e → e.input ≡ 0
made_input place [] e h = absurd h
made_input place (m ∷ ms) e (inl q) = sym (ap (λ (w : InputSymbol). w.input) q)
made_input place (m ∷ ms) e (inr h) = made_input (place + 1) ms e h
