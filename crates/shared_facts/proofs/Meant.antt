-- What symbols of a shared output mean.
use Rattle.std.proofs.Common.{◌≡◌, ℕ, ◌+◌, List, [], ◌∷◌, Option, Some, None, Bool, true, false, refl, sym, ap, ◌∙◌, inl, inr, arith}
use Rattle.std.specs.Prelude.{◌⊎◌, ◌==◌, ◌&&◌, ◌||◌, not, filter, cond, unwrap_or, option_map}
use Rattle.list_places.specs.Has.{Has}
use Rattle.list_places.proofs.Lists.{has_filter, some_is}
use Rattle.wl_base.specs.Choice.{first_some, given, has_name}
use Rattle.linking_section.specs.declared.symbol.SymbolKind.{SymbolKind}
use Rattle.linking_section.specs.declared.symbol.SymbolKind.TheVariants.{Function, Datum, GlobalVar}
use Rattle.linking_section.specs.Flags.{kind_code, is_explicit}
use Rattle.object_file.specs.declared.object.Object.{Object}
use Rattle.made_symbols.specs.Made.{made, MadeSymbol}
use Rattle.made_symbols.specs.declared.mode.Mode.TheVariants.{Shared}
use Rattle.name_rules.specs.Entries.{InputSymbol, ImportKey, is_kind, is_entry, name_of, named, import_in, type_in, key_of, made_from}
use Rattle.name_rules.specs.Meanings.{Meaning, here, imported, null, nothing, Uses, least, references, least_import, where_given, is_called, is_address, cell_of, by_rules, own_meaning, meaning}
use Rattle.name_rules.specs.Further.{is_here}
use Rattle.shared_links.specs.link_program.name_entries.View.{InputsRise}
use Rattle.link_rules.specs.Keys.{is_function_type, is_global_type}
use Rattle.shared_links.proofs.link_facts_lemmas.Symbols.{OfObject}
use Rattle.shared_links.proofs.link_facts_lemmas.Meant.{least_has, import_has, given_import}
use Rattle.shared_facts.proofs.Entries.{Known}

-- ---- by the rules, over the entries of a name

-- One of them that defines it; the import of one of them; or the cell of an address, for a symbol that is known by its address alone.
abbrev pub ByRules : Uses → List InputSymbol → InputSymbol → Meaning → Type 0
ByRules uses es e (here d) = Has es d × (d.defines ≡ true)
ByRules uses es e (imported k) = ((r : InputSymbol) × Has es r × (r.import ≡ Some k)) ⊎ ((is_address uses e ≡ true) × (cell_of e ≡ k))
ByRules uses es e null = ⊥
ByRules uses es e nothing = Unit {0}

chosen : (uses : Uses) (es : List InputSymbol) (e : InputSymbol) (a : Option InputSymbol) (b c : Option ImportKey) (g : Bool) → ((d : InputSymbol) → a ≡ Some d → Has es d × (d.defines ≡ true))
    → ((k : ImportKey) → b ≡ Some k → (r : InputSymbol) × Has es r × (r.import ≡ Some k)) → ((k : ImportKey) → c ≡ Some k → (r : InputSymbol) × Has es r × (r.import ≡ Some k)) → is_address uses e ≡ g
    → ByRules uses es e (unwrap_or (first_some (option_map here a ∷ option_map imported b ∷ option_map imported c ∷ given g (imported (cell_of e)) ∷ [])) nothing)
chosen uses es e (Some d) b c g fa fb fc fg = fa d refl
chosen uses es e None (Some k) c g fa fb fc fg = inl (fb k refl)
chosen uses es e None None (Some k) g fa fb fc fg = inl (fc k refl)
chosen uses es e None None None true fa fb fc fg = inr (fg, refl)
chosen uses es e None None None false fa fb fc fg = tt

by_rules_is : (uses : Uses) (allow : Bool) (es : List InputSymbol) (e : InputSymbol) → ByRules uses es e (by_rules Shared uses allow es e)
by_rules_is uses allow es e =
    chosen uses es e (least (filter (λ d. d.defines) es)) (least_import (filter (λ r. is_explicit r.symbol) (references es)))
    (where_given (is_called uses e || is_kind GlobalVar e) (least_import (references es))) (is_address uses e)
    (λ d h. let f = has_filter (λ (x : InputSymbol). x.defines) es d (least_has (filter (λ d. d.defines) es) d h) in (f.0, f.1))
    (λ k h. let r = import_has (filter (λ r. is_explicit r.symbol) (references es)) k h in
    let f = has_filter (λ (x : InputSymbol). is_explicit x.symbol) (references es) r.0 r.1 in
    (r.0, (has_filter (λ (x : InputSymbol). not x.defines) es r.0 f.0).0, r.2))
    (λ k h. let r = import_has (references es) k (given_import (is_called uses e || is_kind GlobalVar e) (least_import (references es)) k h) in (r.0, (has_filter (λ (x : InputSymbol). not x.defines) es r.0 r.1).0, r.2))
    refl

-- ---- a symbol

-- An entry means by the rules, any other symbol itself or nothing.
pub data Means (uses : Uses) (all : List InputSymbol) (e : InputSymbol) (m : Meaning) : Type 0 where
  by_name : is_entry e ≡ true → ByRules uses (named all (name_of e)) e m → Means uses all e m
  itself : is_entry e ≡ false → m ≡ here e → e.defines ≡ true → Means uses all e m
  no_meaning : is_entry e ≡ false → m ≡ nothing → Means uses all e m

pub means : (uses : Uses) (allow : Bool) (all : List InputSymbol) (e : InputSymbol) → Means uses all e (meaning Shared uses allow all e)
means uses allow all e = by_entry (is_entry e) refl
  where
    own : is_entry e ≡ false → (b : Bool) → e.defines ≡ b → Means uses all e (cond b (here e) nothing)
    own n true t = itself n refl t
    own n false t = no_meaning n refl

    by_entry : (b : Bool) → is_entry e ≡ b → Means uses all e (cond b (by_rules Shared uses allow (named all (name_of e)) e) (own_meaning e))
    by_entry true t = by_name t (by_rules_is uses allow (named all (name_of e)) e)
    by_entry false t = own t e.defines refl

pub no_null : (uses : Uses) (all : List InputSymbol) (e : InputSymbol) → Means uses all e null → ⊥
no_null uses all e (by_name t r) = r
no_null uses all e (itself n q d) = absurd (grind arith)
no_null uses all e (no_meaning n q) = absurd (grind arith)

-- what is no entry means a definition, or nothing
pub local_here : (uses : Uses) (all : List InputSymbol) (e : InputSymbol) (m : Meaning) → Means uses all e m → is_entry e ≡ false → (m ≡ nothing → ⊥) → is_here m ≡ true
local_here uses all e m (by_name t r) n known = absurd (grind arith)
local_here uses all e m (itself n q d) k known = ap is_here q
local_here uses all e m (no_meaning n q) k known = absurd (known q)

-- a symbol that is called isn't known by its address alone
pub called_no_address : (uses : Uses) (e : InputSymbol) → e.symbol.kind ≡ Function → has_name uses.called (name_of e) ≡ true → is_address uses e ≡ true → ⊥
called_no_address uses e f c t =
    no (is_kind Datum e) (is_kind Function e && has_name uses.addressed (name_of e)) (has_name uses.called (name_of e)) (ap (λ k. kind_code k == kind_code Datum) f) c t
  where
    no : (a b c : Bool) → a ≡ false → c ≡ true → (a || (b && not c)) ≡ true → ⊥
    no true b c p q r = absurd (grind arith)
    no false true true p q r = absurd (grind arith)
    no false true false p q r = absurd (grind arith)
    no false false c p q r = absurd (grind arith)

-- ---- imports

import_some : {A B : Type 0} (f : A → B) (o : Option A) (y : B) → option_map f o ≡ Some y → (x : A) × (f x ≡ y)
import_some f None y h = absurd (grind arith)
import_some f (Some x) y h = (x, some_is (f x) y h)

made_no_import : (place : ℕ) (ms : List MadeSymbol) (e : InputSymbol) → Has (made_from place ms) e → e.import ≡ None
made_no_import place [] e h = absurd h
made_no_import place (m ∷ ms) e (inl q) = sym (ap (λ (w : InputSymbol). w.import) q)
made_no_import place (m ∷ ms) e (inr h) = made_no_import (place + 1) ms e h

module _ (objects : List Object) (rise : InputsRise 0 objects) where
  -- an import has the type of the symbol that stands on it
  pub import_typed : (r : InputSymbol) → Known objects rise r → (k : ImportKey) → r.import ≡ Some k → k.type ≡ r.type
  import_typed r (inl h) k q = absurd (let n = made_no_import 0 (made Shared) r h in let z : None ≡ Some k = sym n ∙ q in grind arith)
  import_typed r (inr x) k q =
      let o = x.object in
      let s = x.symbol.symbol in
      let i = import_some (key_of (type_in o s s.kind)) (import_in o s s.kind) k (sym (ap (λ (w : InputSymbol). w.import) x.symbol.is) ∙ q) in
      sym (ap (λ (w : ImportKey). w.type) i.1) ∙ sym (ap (λ (w : InputSymbol). w.type) x.symbol.is)

  object_type : (r : InputSymbol) (x : OfObject objects r) (kind : SymbolKind) → r.symbol.kind ≡ kind → r.type ≡ type_in x.object x.symbol.symbol kind
  object_type r x kind e = ap (λ (w : InputSymbol). w.type) x.symbol.is ∙ ap (type_in x.object x.symbol.symbol) (sym (ap (λ (w : InputSymbol). w.symbol.kind) x.symbol.is) ∙ e)

  pub import_function : (r : InputSymbol) → Known objects rise r → (k : ImportKey) → r.import ≡ Some k → r.symbol.kind ≡ Function → is_function_type k.type ≡ true
  import_function r (inl h) k q e = absurd (let n = made_no_import 0 (made Shared) r h in let z : None ≡ Some k = sym n ∙ q in grind arith)
  import_function r (inr x) k q e = ap is_function_type (import_typed r (inr x) k q ∙ object_type r x Function e)

  pub import_global : (r : InputSymbol) → Known objects rise r → (k : ImportKey) → r.import ≡ Some k → r.symbol.kind ≡ GlobalVar → is_global_type k.type ≡ true
  import_global r (inl h) k q e = absurd (let n = made_no_import 0 (made Shared) r h in let z : None ≡ Some k = sym n ∙ q in grind arith)
  import_global r (inr x) k q e = ap is_global_type (import_typed r (inr x) k q ∙ object_type r x GlobalVar e)
