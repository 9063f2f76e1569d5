-- Entries of one name have one type. In a link that is like lld's a function may be called by another type than its definition has: such an
-- entry isn't settled.
use Rattle.std.proofs.Common.{◌≡◌, ℕ, List, [], ◌∷◌, ◌++◌, Option, Some, None, Bool, true, false, refl, sym, ap, ◌∙◌, ⊎_elim, arith}
use Rattle.std.specs.Prelude.{◌&&◌, ◌||◌, not, filter, find, option_map, option_and_then}
use Rattle.std.proofs.lemmas.Bool.{and_parts, not-false}
use Rattle.list_places.specs.Has.{Has}
use Rattle.list_places.proofs.Lists.{has_filter, has_right, has_either, find_has}
use Rattle.wl_base.specs.Choice.{first_some}
use Rattle.wl_base.specs.declared.fault.Fault.{Fault}
use Rattle.linking_section.specs.declared.symbol.SymbolKind.TheVariants.{Function}
use Rattle.name_rules.specs.Entries.{InputSymbol, SymbolType, of_function, of_global, untyped, is_kind, is_entry, name_of, named, is_named, same_symbol_type}
use Rattle.name_rules.specs.Cases.{clash, loose_clash, clash_by, clash_of, clash_beside, clashes_with, other_import, broken, judge, breaks, may_differ, mismatches, has_other_type, first_entry, passes, differ, explicit_import}
use Rattle.shared_facts.proofs.shared_links_lemmas.link_worlds_lemmas.Keys.{bytes_equal, bytes_itself, type_equal, global_type_equal}
use Rattle.shared_facts.proofs.shared_links_lemmas.link_facts_lemmas.Meant.{find_none}

-- ---- tests

pub symbol_type_equal : (a b : SymbolType) → same_symbol_type a b ≡ true → a ≡ b
symbol_type_equal (of_function a) (of_function b) h = ap of_function (type_equal a b h)
symbol_type_equal (of_global a) (of_global b) h = ap of_global (global_type_equal a b h)
symbol_type_equal untyped untyped h = refl
symbol_type_equal _ _ h = absurd (grind arith)

or_false : (a b : Bool) → (a || b) ≡ false → a ≡ false
or_false true b h = absurd (grind arith)
or_false false b h = refl

last_none : (a b : Option Fault) → first_some (a ∷ b ∷ []) ≡ None → b ≡ None
last_none (Some x) b h = absurd (grind arith)
last_none None (Some y) h = absurd (grind arith)
last_none None None h = refl

-- where no entry fails a test beside the one that is looked up for its name
module _ (test : InputSymbol → InputSymbol → Bool) (beside : List ℕ → Option InputSymbol) where
  no_first : (x : InputSymbol) (o : Option InputSymbol) → passes (λ a. test a x) o ≡ true → option_map (clash_of x) o ≡ None → ⊥
  no_first x None t n = absurd (grind arith)
  no_first x (Some a) t n = absurd (grind arith)

  by_found : (all : List InputSymbol) (e : InputSymbol) (o : Option InputSymbol) → find (λ e. passes (λ a. test a e) (beside (name_of e))) all ≡ o
      → option_and_then (λ x. option_map (clash_of x) (beside (name_of x))) o ≡ None → Has all e → passes (λ a. test a e) (beside (name_of e)) ≡ false
  by_found all e None q n h = find_none (λ e. passes (λ a. test a e) (beside (name_of e))) all e q h
  by_found all e (Some x) q n h = absurd (no_first x (beside (name_of x)) (find_has (λ e. passes (λ a. test a e) (beside (name_of e))) all x q).1 n)

  no_clash : (all : List InputSymbol) (e : InputSymbol) → clash_beside test beside all ≡ None → Has all e → passes (λ a. test a e) (beside (name_of e)) ≡ false
  no_clash all e n h = by_found all e (find (λ e. passes (λ a. test a e) (beside (name_of e))) all) refl n h

-- ---- what is settled

-- The entry that the others of its name are judged by.
abbrev pub beside : Bool → List InputSymbol → List ℕ → Option InputSymbol
beside false all = first_entry all
beside true all = judge all

-- The entry has the type of the definition of its name.
abbrev pub Settled : Bool → List InputSymbol → InputSymbol → Type 0
Settled false all e = Unit {0}
Settled true all e = passes (λ a. mismatches a e) (judge all (name_of e)) ≡ false

passed : (test : InputSymbol → Bool) (o : Option InputSymbol) (a : InputSymbol) → o ≡ Some a → passes test o ≡ false → test a ≡ false
passed test o a e h = sym (ap (passes test) e) ∙ h

not_passed : (test : InputSymbol → Bool) (o : Option InputSymbol) → ((a : InputSymbol) → o ≡ Some a → test a ≡ false) → passes test o ≡ false
not_passed test None f = refl
not_passed test (Some a) f = f a refl

and_false : (a b : Bool) → b ≡ false → (a && b) ≡ false
and_false true b h = h
and_false false b h = refl

false_and : (a b : Bool) → a ≡ false → (a && b) ≡ false
false_and true b h = absurd (grind arith)
false_and false b h = refl

-- a definition
pub settled_definition : (all : List InputSymbol) (d : InputSymbol) → d.defines ≡ true → Settled true all d
settled_definition all d h =
    not_passed (λ a. mismatches a d) (judge all (name_of d))
    (λ a e. false_and (may_differ a d) (not (same_symbol_type a.type d.type)) (and_false (is_kind Function d && a.defines) (not d.defines) (ap not h)))

-- what isn't a function
pub settled_other : (all : List InputSymbol) (d : InputSymbol) → is_kind Function d ≡ false → Settled true all d
settled_other all d h =
    not_passed (λ a. mismatches a d) (judge all (name_of d))
    (λ a e. false_and (may_differ a d) (not (same_symbol_type a.type d.type)) (false_and (is_kind Function d && a.defines) (not d.defines) (false_and (is_kind Function d) a.defines h)))

judge_among : (all : List InputSymbol) (name : List ℕ) (a : InputSymbol) → judge all name ≡ Some a → Has all a × (is_named name a ≡ true)
judge_among all name a e =
    let h = find_has (is_named name) (filter (λ (e : InputSymbol). e.defines) all ++ all) a e in
    (⊎_elim (λ k. (has_filter (λ (e : InputSymbol). e.defines) all a k).0) (λ k. k) (has_either (filter (λ (e : InputSymbol). e.defines) all) all a h.0), h.1)

-- a name that nothing defines
pub settled_undefined : (all : List InputSymbol) (e : InputSymbol) → ((d : InputSymbol) → Has all d → is_named (name_of e) d ≡ true → d.defines ≡ true → ⊥) → Settled true all e
settled_undefined all e none =
    not_passed (λ a. mismatches a e) (judge all (name_of e))
    (λ a q. let h = judge_among all (name_of e) a q in
    false_and (may_differ a e) (not (same_symbol_type a.type e.type)) (false_and (is_kind Function e && a.defines) (not e.defines) (and_false (is_kind Function e) a.defines (undefined a.defines (none a h.0 h.1)))))
  where
    undefined : (b : Bool) → (b ≡ true → ⊥) → b ≡ false
    undefined true f = absurd (f refl)
    undefined false f = refl

-- what isn't called by another type
pub settled_call : (all : List InputSymbol) (e : InputSymbol) → is_entry e ≡ true → has_other_type all e ≡ false → Settled true all e
settled_call all e t h = sym (ap (λ b. b && passes (λ a. mismatches a e) (judge all (name_of e))) t) ∙ h

-- ---- one type

strict_type : (a e : InputSymbol) → clashes_with a e ≡ false → a.type ≡ e.type
strict_type a e h =
    let q = or_false (not (is_kind a.symbol.kind e && same_symbol_type a.type e.type)) (differ (explicit_import a) (explicit_import e)) h in
    symbol_type_equal a.type e.type (and_parts (is_kind a.symbol.kind e) (same_symbol_type a.type e.type) (not-false (is_kind a.symbol.kind e && same_symbol_type a.type e.type) q)).1

loose_type : (a e : InputSymbol) → breaks a e ≡ false → mismatches a e ≡ false → a.type ≡ e.type
loose_type a e h m =
    let r = and_parts (is_kind a.symbol.kind e) (may_differ a e || same_symbol_type a.type e.type) (not-false (is_kind a.symbol.kind e && (may_differ a e || same_symbol_type a.type e.type)) h) in
    symbol_type_equal a.type e.type (by (may_differ a e) (same_symbol_type a.type e.type) r.1 m)
  where
    by : (x y : Bool) → (x || y) ≡ true → (x && not y) ≡ false → y ≡ true
    by true true h m = refl
    by true false h m = absurd (grind arith)
    by false y h m = h

-- the type of the entry that judges
beside_type : (loose : Bool) (all : List InputSymbol) → clash_by loose all ≡ None → (e : InputSymbol) → Has all e → Settled loose all e → (a : InputSymbol) → beside loose all (name_of e) ≡ Some a → a.type ≡ e.type
unfolding clash loose_clash
beside_type false all n e h s a q = strict_type a e (passed (λ a. clashes_with a e) (first_entry all (name_of e)) a q (no_clash clashes_with (first_entry all) all e n h))
beside_type true all n e h s a q =
    loose_type a e (passed (λ a. breaks a e) (judge all (name_of e)) a q (no_clash breaks (judge all) all e (last_none (other_import all) (broken all) n) h))
    (passed (λ a. mismatches a e) (judge all (name_of e)) a q s)

first_there : (test : InputSymbol → Bool) (xs : List InputSymbol) (x : InputSymbol) → Has xs x → test x ≡ true → (a : InputSymbol) × (find test xs ≡ Some a)
first_there test xs x h t = by (find test xs) refl
  where
    by : (o : Option InputSymbol) → find test xs ≡ o → (a : InputSymbol) × (find test xs ≡ Some a)
    by None q = absurd (let f = find_none test xs x q h in grind arith)
    by (Some a) q = (a, q)

beside_there : (loose : Bool) (all : List InputSymbol) (e : InputSymbol) → Has all e → (a : InputSymbol) × (beside loose all (name_of e) ≡ Some a)
beside_there false all e h = first_there (is_named (name_of e)) all e h (bytes_itself (name_of e))
beside_there true all e h = first_there (is_named (name_of e)) (filter (λ (e : InputSymbol). e.defines) all ++ all) e (has_right (filter (λ (e : InputSymbol). e.defines) all) all e h) (bytes_itself (name_of e))

pub one_type : (loose : Bool) (all : List InputSymbol) → clash_by loose all ≡ None → (d e : InputSymbol) → Has all e → Has (named all (name_of e)) d → Settled loose all d → Settled loose all e → d.type ≡ e.type
one_type loose all n d e he hd sd se =
    let f = has_filter (is_named (name_of e)) all d hd in
    let same : name_of d ≡ name_of e = bytes_equal (name_of d) (name_of e) f.1 in
    let a = beside_there loose all e he in
    sym (beside_type loose all n d f.0 sd a.0 (ap (beside loose all) same ∙ a.1)) ∙ beside_type loose all n e he se a.0 a.1
