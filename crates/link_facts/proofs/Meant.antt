-- What symbols mean.
use Rattle.std.proofs.Common.{◌≡◌, ℕ, List, [], ◌∷◌, ◌++◌, map, Option, Some, None, Bool, true, false, refl, sym, ap, ◌∙◌, subst, inl, inr, arith}
use Rattle.std.specs.Prelude.{◌⊎◌, ◌&&◌, ◌||◌, not, nat_lt, filter, find, cond, unwrap_or, option_map, option_and_then}
use Rattle.std.proofs.lemmas.Bool.{and_parts, eqb-true, not-false}
use Rattle.list_places.specs.Has.{Has}
use Rattle.list_places.proofs.Lists.{has_filter, has_right, find_has}
use Rattle.wl_base.specs.Choice.{first_some, given}
use Rattle.wl_base.specs.declared.fault.Fault.{Fault}
use Rattle.linking_section.specs.declared.symbol.SymbolKind.{SymbolKind}
use Rattle.linking_section.specs.declared.symbol.SymbolKind.TheVariants.{Function, Datum, GlobalVar, Section, Table}
use Rattle.linking_section.specs.Flags.{kind_code, is_explicit}
use Rattle.made_symbols.specs.declared.mode.Mode.TheVariants.{Plain}
use Rattle.name_rules.specs.Entries.{InputSymbol, ImportKey, is_kind, is_entry, name_of, named, is_named, same_symbol_type}
use Rattle.name_rules.specs.Meanings.{Meaning, here, imported, null, nothing, lesser, least, definitions, references, least_import, may_import, may_be_null, where_given, by_rules, own_meaning, meaning, no_uses, winner, entry_rank}
use Rattle.name_rules.specs.Cases.{clash, loose_clash, clash_by, clash_of, clash_beside, clashes_with, other_import, broken, judge, breaks, may_differ, first_entry, passes, differ, explicit_import}
use Rattle.output_module.proofs.link_worlds_lemmas.Keys.{bytes_equal}

-- ---- the least of a list is in it

pub least_has : (es : List InputSymbol) (w : InputSymbol) → least es ≡ Some w → Has es w
least_has [] w h = absurd (grind arith)
least_has (e ∷ es) w h = onto (least es) refl h (λ q. least_has es w q)
  where
    onto : (o : Option InputSymbol) → least es ≡ o → lesser e o ≡ Some w → (least es ≡ Some w → Has es w) → Has (e ∷ es) w
    onto None q h rest = inl (grind arith)
    onto (Some f) q h rest = by_rank (nat_lt (entry_rank f) (entry_rank e)) h
      where
        by_rank : (b : Bool) → cond b (Some f) (Some e) ≡ Some w → Has (e ∷ es) w
        by_rank true h = inr (rest (q ∙ h))
        by_rank false h = inl (grind arith)

pub import_has : (es : List InputSymbol) (k : ImportKey) → least_import es ≡ Some k → (r : InputSymbol) × Has es r × (r.import ≡ Some k)
import_has [] k h = absurd (grind arith)
import_has (e ∷ es) k h = onto e.import refl h (λ q. import_has es k q)
  where
    onto : (o : Option ImportKey) → e.import ≡ o → first_some (o ∷ map (λ (x : InputSymbol). x.import) es) ≡ Some k → (least_import es ≡ Some k → (r : InputSymbol) × Has es r × (r.import ≡ Some k)) → (r : InputSymbol) × Has (e ∷ es) r × (r.import ≡ Some k)
    onto None q h rest = let r = rest h in (r.0, inr r.1, r.2)
    onto (Some j) q h rest = (e, inl refl, q ∙ h)

-- ---- what the rules give

-- Of the entries of a name: a definition that is among them, the import of one of them, or null, where the symbol may be.
abbrev pub MeansBy : List InputSymbol → InputSymbol → Meaning → Type 0
MeansBy es e (here d) = Has es d × (d.defines ≡ true)
MeansBy es e (imported k) = (r : InputSymbol) × Has es r × (r.import ≡ Some k)
MeansBy es e null = may_be_null e ≡ true
MeansBy es e nothing = Unit {0}

chosen : (es : List InputSymbol) (e : InputSymbol) (a : Option InputSymbol) (b c : Option ImportKey) (g : Bool) → ((d : InputSymbol) → a ≡ Some d → Has es d × (d.defines ≡ true))
    → ((k : ImportKey) → b ≡ Some k → (r : InputSymbol) × Has es r × (r.import ≡ Some k)) → ((k : ImportKey) → c ≡ Some k → (r : InputSymbol) × Has es r × (r.import ≡ Some k)) → (g ≡ true → may_be_null e ≡ true)
    → MeansBy es e (unwrap_or (first_some (option_map here a ∷ option_map imported b ∷ option_map imported c ∷ given g null ∷ [])) nothing)
chosen es e (Some d) b c g fa fb fc fg = fa d refl
chosen es e None (Some k) c g fa fb fc fg = fb k refl
chosen es e None None (Some k) g fa fb fc fg = fc k refl
chosen es e None None None true fa fb fc fg = fg refl
chosen es e None None None false fa fb fc fg = tt

pub given_import : (b : Bool) (o : Option ImportKey) (k : ImportKey) → where_given b o ≡ Some k → o ≡ Some k
given_import true o k h = h
given_import false o k h = absurd (grind arith)

by_rules_means : (allow : Bool) (es : List InputSymbol) (e : InputSymbol) → MeansBy es e (by_rules Plain no_uses allow es e)
by_rules_means allow es e =
    chosen es e (least (filter (λ d. d.defines) es)) (least_import (filter (λ r. is_explicit r.symbol) (references es))) (where_given (allow && may_import es e) (least_import (references es))) (may_be_null e)
    (λ d h. let f = has_filter (λ (x : InputSymbol). x.defines) es d (least_has (filter (λ d. d.defines) es) d h) in (f.0, f.1))
    (λ k h. let r = import_has (filter (λ r. is_explicit r.symbol) (references es)) k h in
    let f = has_filter (λ (x : InputSymbol). is_explicit x.symbol) (references es) r.0 r.1 in
    (r.0, (has_filter (λ (x : InputSymbol). not x.defines) es r.0 f.0).0, r.2))
    (λ k h. let r = import_has (references es) k (given_import (allow && may_import es e) (least_import (references es)) k h) in (r.0, (has_filter (λ (x : InputSymbol). not x.defines) es r.0 r.1).0, r.2))
    (λ t. t)

-- ---- what a symbol means

-- The symbol itself, or by the rules over the entries of its name.
abbrev pub Means : List InputSymbol → InputSymbol → Meaning → Type 0
Means all e m = ((is_entry e ≡ true) × MeansBy (named all (name_of e)) e m) ⊎ (((m ≡ here e) × (e.defines ≡ true)) ⊎ (m ≡ nothing))

pub means : (allow : Bool) (all : List InputSymbol) (e : InputSymbol) → Means all e (meaning Plain no_uses allow all e)
means allow all e = by_entry (is_entry e) refl
  where
    own : (b : Bool) → e.defines ≡ b → (cond b (here e) nothing ≡ here e) × (e.defines ≡ true) ⊎ (cond b (here e) nothing ≡ nothing)
    own true t = inl (refl, t)
    own false t = inr refl

    by_entry : (b : Bool) → is_entry e ≡ b → Means all e (cond b (by_rules Plain no_uses allow (named all (name_of e)) e) (own_meaning e))
    by_entry true t = inl (t, by_rules_means allow (named all (name_of e)) e)
    by_entry false t = inr (own e.defines refl)

-- the winner of a name defines it
pub winner_has : (all : List InputSymbol) (name : List ℕ) (w : InputSymbol) → winner all name ≡ Some w → Has all w × (w.defines ≡ true)
winner_has all name w h =
    let f = has_filter (λ (x : InputSymbol). x.defines) (named all name) w (least_has (definitions all name) w h) in
    ((has_filter (is_named name) all w f.0).0, f.1)

-- ---- names that don't clash

pub code_kind : (a b : SymbolKind) → kind_code a ≡ kind_code b → a ≡ b
code_kind Function Function h = refl
code_kind Datum Datum h = refl
code_kind GlobalVar GlobalVar h = refl
code_kind Section Section h = refl
code_kind Table Table h = refl
code_kind Function Datum h = absurd (omega (arith, h))
code_kind Function GlobalVar h = absurd (omega (arith, h))
code_kind Function Section h = absurd (omega (arith, h))
code_kind Function Table h = absurd (omega (arith, h))
code_kind Datum Function h = absurd (omega (arith, h))
code_kind Datum GlobalVar h = absurd (omega (arith, h))
code_kind Datum Section h = absurd (omega (arith, h))
code_kind Datum Table h = absurd (omega (arith, h))
code_kind GlobalVar Function h = absurd (omega (arith, h))
code_kind GlobalVar Datum h = absurd (omega (arith, h))
code_kind GlobalVar Section h = absurd (omega (arith, h))
code_kind GlobalVar Table h = absurd (omega (arith, h))
code_kind Section Function h = absurd (omega (arith, h))
code_kind Section Datum h = absurd (omega (arith, h))
code_kind Section GlobalVar h = absurd (omega (arith, h))
code_kind Section Table h = absurd (omega (arith, h))
code_kind Table Function h = absurd (omega (arith, h))
code_kind Table Datum h = absurd (omega (arith, h))
code_kind Table GlobalVar h = absurd (omega (arith, h))
code_kind Table Section h = absurd (omega (arith, h))

pub find_none : {A : Type 0} (test : A → Bool) (xs : List A) (x : A) → find test xs ≡ None → Has xs x → test x ≡ false
find_none test [] x n h = absurd h
find_none test (y ∷ ys) x n h = onto (test y) refl n h (λ m g. find_none test ys x m g)
  where
    onto : (b : Bool) → test y ≡ b → cond b (Some y) (find test ys) ≡ None → Has (y ∷ ys) x → (find test ys ≡ None → Has ys x → test x ≡ false) → test x ≡ false
    onto true t n h again = absurd (grind arith)
    onto false t n (inl e) again = sym (ap test e) ∙ t
    onto false t n (inr g) again = again n g

or_false : (a b : Bool) → a || b ≡ false → a ≡ false
or_false true b h = absurd (grind arith)
or_false false b h = refl

-- where no entry fails a test beside the one that is looked up for its name
module _ (test : InputSymbol → InputSymbol → Bool) (beside : List ℕ → Option InputSymbol) where
  no_first : (x : InputSymbol) (o : Option InputSymbol) → beside (name_of x) ≡ o → passes (λ a. test a x) o ≡ true → option_map (clash_of x) o ≡ None → ⊥
  no_first x None e t n = absurd (grind arith)
  no_first x (Some a) e t n = absurd (grind arith)

  found_clash : (all : List InputSymbol) (e : InputSymbol) (o : Option InputSymbol) → find (λ e. passes (λ a. test a e) (beside (name_of e))) all ≡ o
      → option_and_then (λ x. option_map (clash_of x) (beside (name_of x))) o ≡ None → Has all e → passes (λ a. test a e) (beside (name_of e)) ≡ false
  found_clash all e None q n h = find_none (λ e. passes (λ a. test a e) (beside (name_of e))) all e q h
  found_clash all e (Some x) q n h = absurd (no_first x (beside (name_of x)) refl (find_has (λ e. passes (λ a. test a e) (beside (name_of e))) all x q).1 n)

  module _ (kind : (a e : InputSymbol) → test a e ≡ false → a.symbol.kind ≡ e.symbol.kind) where
    kinds : (all : List InputSymbol) (d e : InputSymbol) → clash_beside test beside all ≡ None → (beside (name_of e) ≡ None → ⊥) → Has all e → Has (named all (name_of e)) d → d.symbol.kind ≡ e.symbol.kind
    kinds all d e n some he hd =
        let f = has_filter (is_named (name_of e)) all d hd in
        let same : name_of d ≡ name_of e = bytes_equal (name_of d) (name_of e) f.1 in
        let a = found_clash all e (find (λ e. passes (λ a. test a e) (beside (name_of e))) all) refl n he in
        let b = subst (λ m. passes (λ a. test a d) (beside m) ≡ false) same (found_clash all d (find (λ e. passes (λ a. test a e) (beside (name_of e))) all) refl n f.0) in
        by_first (beside (name_of e)) refl a b
      where
        by_first : (o : Option InputSymbol) → beside (name_of e) ≡ o → passes (λ a. test a e) o ≡ false → passes (λ a. test a d) o ≡ false → d.symbol.kind ≡ e.symbol.kind
        by_first None q a b = absurd (some q)
        by_first (Some x) q a b = sym (kind x d b) ∙ kind x e a

same_kind : (a e : InputSymbol) → clashes_with a e ≡ false → a.symbol.kind ≡ e.symbol.kind
same_kind a e h =
    let q = or_false (not (is_kind a.symbol.kind e && same_symbol_type a.type e.type)) (differ (explicit_import a) (explicit_import e)) h in
    let r = and_parts (is_kind a.symbol.kind e) (same_symbol_type a.type e.type) (not-false (is_kind a.symbol.kind e && same_symbol_type a.type e.type) q) in
    sym (code_kind e.symbol.kind a.symbol.kind (eqb-true (kind_code e.symbol.kind) (kind_code a.symbol.kind) r.0))

unbroken_kind : (a e : InputSymbol) → breaks a e ≡ false → a.symbol.kind ≡ e.symbol.kind
unbroken_kind a e h =
    let r = and_parts (is_kind a.symbol.kind e) (may_differ a e || same_symbol_type a.type e.type) (not-false (is_kind a.symbol.kind e && (may_differ a e || same_symbol_type a.type e.type)) h) in
    sym (code_kind e.symbol.kind a.symbol.kind (eqb-true (kind_code e.symbol.kind) (kind_code a.symbol.kind) r.0))

some_named : (all : List InputSymbol) (d : InputSymbol) (name : List ℕ) → Has (named all name) d → first_entry all name ≡ None → ⊥
some_named all d name hd none =
    let f = has_filter (is_named name) all d hd in
    absurd (let z = find_none (is_named name) all d none f.0 in let t = f.1 in grind arith)

some_judge : (all : List InputSymbol) (d : InputSymbol) (name : List ℕ) → Has (named all name) d → judge all name ≡ None → ⊥
some_judge all d name hd none =
    let f = has_filter (is_named name) all d hd in
    absurd (let z = find_none (is_named name) (filter (λ (e : InputSymbol). e.defines) all ++ all) d none (has_right (filter (λ (e : InputSymbol). e.defines) all) all d f.0) in let t = f.1 in grind arith)

last_none : (a b : Option Fault) → first_some (a ∷ b ∷ []) ≡ None → b ≡ None
last_none (Some x) b h = absurd (grind arith)
last_none None (Some y) h = absurd (grind arith)
last_none None None h = refl

-- entries of a name have one kind
pub one_kind : (loose_calls : Bool) (all : List InputSymbol) (d e : InputSymbol) → clash_by loose_calls all ≡ None → Has all e → Has (named all (name_of e)) d → d.symbol.kind ≡ e.symbol.kind
unfolding clash loose_clash
one_kind false all d e n he hd = kinds clashes_with (first_entry all) same_kind all d e n (some_named all d (name_of e) hd) he hd
one_kind true all d e n he hd = kinds breaks (judge all) unbroken_kind all d e (last_none (other_import all) (broken all) n) (some_judge all d (name_of e) hd) he hd
