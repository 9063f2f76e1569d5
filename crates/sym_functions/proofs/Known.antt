-- What references of parts, live or dead, name is known: imports, and the names of null functions.
use Rattle.std.proofs.Common.{◌≡◌, ℕ, Bool, true, false, ◌&&◌, ◌||◌, ◌+◌, nat_lt, unwrap_or, List, [], ◌∷◌, ◌++◌, map, filter, filter_map, flat_map, slice_get, get_or, Option, Some, None, option_map, refl, sym, ap, subst, ◌∙◌, inl, inr, arith}
use Rattle.std.specs.Prelude.{bytes_eq, if◌then◌else◌}
use Rattle.std.specs.List.{list_any, All}
use Rattle.std.proofs.lemmas.List.{map-append}
use Rattle.std.proofs.lemmas.List.Elements.{All-head, All-tail, All-append}
use Rattle.std.proofs.lemmas.List.Folds.{list_any-append}
use Rattle.std.proofs.lemmas.Option.{slice_get-map}
use Rattle.link_program.specs.wl_base.Choice.{distinct, first_some}
use Rattle.link_program.specs.object_file.declared.object.Object.{Object}
use Rattle.link_program.specs.made_symbols.declared.mode.Mode.TheVariants.{Plain}
use Rattle.link_program.specs.made_symbols.Made.{made, MadeSymbol}
use Rattle.link_program.specs.name_rules.Entries.{InputSymbol, ImportKey, same_import, is_entry, name_of, symbols_of, entries, is_named, made_entry, made_from}
use Rattle.link_program.specs.name_rules.Meanings.{Meaning, here, imported, null, nothing, Resolved, resolve, resolved_in, no_uses, meaning, own_meaning, by_rules, least, lesser, entry_rank}
use Rattle.link_program.specs.link_rules.Program as rules
use Rattle.link_program.specs.link_rules.Program.{Ref, refs, loose_variants}
use Rattle.link_program.specs.link_rules.Marks.{refs_of}
use Rattle.link_program.specs.link_rules.Keys.{import_of, imports_in_order, callable}
use Rattle.link_program.specs.Stand.{IsSymbolOf, IsVariantOf, IsRefOf, PartStands}
use Rattle.link_program.proofs.Loose.{variant_entry}
use Rattle.link_keys.proofs.Any.{or_right, any_at, any_left, any_right, any_map, any_flat_map, any_filter, any_filter_map, option_any, all_at}
use Rattle.link_keys.proofs.Equals.{holds_distinct}
use Rattle.link_keys.proofs.Imports.{import_equal, import_itself, name_equal, name_itself}
use Rattle.link_keys.proofs.Known.{IsNull}

-- An import is one of the imports, and what is null an entry of a name.
abbrev pub KnownMeaning : List ImportKey → List InputSymbol → InputSymbol → Meaning → Type 0
KnownMeaning imports all e (here d) = Unit {0}
KnownMeaning imports all e (imported k) = list_any (same_import k) imports ≡ true
KnownMeaning imports all e null = IsNull all e
KnownMeaning imports all e nothing = Unit {0}

abbrev pub KnownRef : List ImportKey → List InputSymbol → Ref → Type 0
KnownRef imports all ref = KnownMeaning imports all ref.entry ref.meaning

-- ---- symbols

import_known : (resolved : List Resolved) (i s : ℕ) (r : Resolved) (k : ImportKey) → slice_get resolved i ≡ Some r → slice_get r.meanings s ≡ Some (imported k)
    → list_any (same_import k) (distinct same_import (filter_map import_of (flat_map (λ r. r.meanings) resolved))) ≡ true
import_known resolved i s r k at there =
    holds_distinct same_import import_equal import_itself (filter_map import_of (flat_map (λ r. r.meanings) resolved)) k
    (any_filter_map (same_import k) import_of (flat_map (λ r. r.meanings) resolved)
    ∙ any_flat_map (λ m. option_any (same_import k) (import_of m)) (λ r. r.meanings) resolved i r at
    (any_at (λ m. option_any (same_import k) (import_of m)) r.meanings s (imported k) there (import_itself k)))

own_not_null : (e : InputSymbol) (r : Bool) → (if r then here e else nothing) ≡ null → ⊥
own_not_null e true is = absurd cc
own_not_null e false is = absurd cc

null_is_entry : (allow : Bool) (all : List InputSymbol) (e : InputSymbol) → meaning Plain no_uses allow all e ≡ null → is_entry e ≡ true
null_is_entry allow all e is = by_entry (is_entry e) refl
  where
    by_entry : (r : Bool) → is_entry e ≡ r → r ≡ true
    by_entry true same = refl
    by_entry false same =
        let own : own_meaning e ≡ null = rw same at is in absurd (own_not_null e e.defines own)

-- ---- what is null has no definition

least_none : (es : List InputSymbol) → least es ≡ None → es ≡ []
least_none [] e = refl
least_none (d ∷ es) e = absurd (by_rest (least es) e)
  where
    by_rank : (r : Bool) (f : InputSymbol) → (if r then Some f else Some d) ≡ None → ⊥
    by_rank true f e = absurd cc
    by_rank false f e = absurd cc

    by_rest : (o : Option InputSymbol) → lesser d o ≡ None → ⊥
    by_rest None e = absurd cc
    by_rest (Some f) e = by_rank (nat_lt (entry_rank f) (entry_rank d)) f e

null_undefined : (o : Option InputSymbol) (rest : List (Option Meaning)) → unwrap_or (first_some (option_map here o ∷ rest)) nothing ≡ null → o ≡ None
null_undefined None rest e = refl
null_undefined (Some d) rest e = absurd cc

and_true : (b : Bool) → (b && true) ≡ b
and_true true = refl
and_true false = refl

made_defines : (name : List ℕ) (place : ℕ) (ms : List MadeSymbol) → list_any (λ x. is_named name x && (x.defines && true)) (made_from place ms) ≡ list_any (is_named name) (made_from place ms)
made_defines name place [] = refl
made_defines name place (m ∷ ms) = ap (λ b. b || list_any (λ x. is_named name x && (x.defines && true)) (made_from (place + 1) ms)) (and_true (is_named name (made_entry place m)))
    ∙ ap (λ b. is_named name (made_entry place m) || b) (made_defines name (place + 1) ms)

first_false : (a b : Bool) → (a || b) ≡ false → a ≡ false
first_false true b e = e
first_false false b e = refl

null_unmade : (allow : Bool) (objects : List Object) (e : InputSymbol) → is_entry e ≡ true → meaning Plain no_uses allow (entries Plain objects) e ≡ null → list_any (is_named (name_of e)) (made_from 0 (made Plain)) ≡ false
unfolding entries
null_unmade allow objects e entry is =
    let all : List InputSymbol = made_from 0 (made Plain) ++ filter is_entry (flat_map (symbols_of objects) objects) in
    let es : List InputSymbol = filter (is_named (name_of e)) all in
    let ruled : by_rules Plain no_uses allow es e ≡ null = sym (ap (λ b. if b then by_rules Plain no_uses allow es e else own_meaning e) entry) ∙ is in
    let none : least (filter (λ d. d.defines) es) ≡ None = null_undefined (least (filter (λ d. d.defines) es)) _ ruled in
    let empty : list_any (λ x. true) (filter (λ d. d.defines) es) ≡ false = ap (list_any (λ x. true)) (least_none (filter (λ d. d.defines) es) none) in
    let whole : list_any (λ x. is_named (name_of e) x && (x.defines && true)) all ≡ false =
    sym (any_filter (λ x. true) (λ d. d.defines) es ∙ any_filter (λ x. x.defines && true) (is_named (name_of e)) all) ∙ empty in
    sym (made_defines (name_of e) 0 (made Plain))
    ∙ first_false (list_any (λ x. is_named (name_of e) x && (x.defines && true)) (made_from 0 (made Plain))) (list_any (λ x. is_named (name_of e) x && (x.defines && true)) (filter is_entry (flat_map (symbols_of objects) objects)))
    (sym (list_any-append (λ x. is_named (name_of e) x && (x.defines && true)) (made_from 0 (made Plain)) (filter is_entry (flat_map (symbols_of objects) objects))) ∙ whole)

name_known : (objects : List Object) (i s : ℕ) (o : Object) (e : InputSymbol) → slice_get objects i ≡ Some o → slice_get (symbols_of objects o) s ≡ Some e → is_entry e ≡ true
    → list_any (bytes_eq (name_of e)) (map name_of (entries Plain objects)) ≡ true
unfolding entries
name_known objects i s o e at there entry =
    any_map (bytes_eq (name_of e)) name_of (made_from 0 (made Plain) ++ filter is_entry (flat_map (symbols_of objects) objects))
    ∙ any_right (λ y. bytes_eq (name_of e) (name_of y)) (made_from 0 (made Plain)) (filter is_entry (flat_map (symbols_of objects) objects))
    (any_filter (λ y. bytes_eq (name_of e) (name_of y)) is_entry (flat_map (symbols_of objects) objects)
    ∙ any_flat_map (λ y. is_entry y && bytes_eq (name_of e) (name_of y)) (symbols_of objects) objects i o at
    (any_at (λ y. is_entry y && bytes_eq (name_of e) (name_of y)) (symbols_of objects o) s e there (rw entry (name_itself (name_of e)))))

-- A row of symbols with their meanings is that of an object.
record IsRowOf (allow : Bool) (all : List InputSymbol) (objects : List Object) (i : ℕ) (r : Resolved) : Type 0 where
  pub object : Object
  pub at : slice_get objects i ≡ Some object
  pub is : resolved_in Plain no_uses allow all objects object ≡ r

row_of_object : (allow : Bool) (all : List InputSymbol) (objects : List Object) (i : ℕ) (r : Resolved) → slice_get (resolve Plain allow all objects) i ≡ Some r → IsRowOf allow all objects i r
unfolding resolve
row_of_object allow all objects i r at = by_object (slice_get objects i) refl (sym (slice_get-map (resolved_in Plain no_uses allow all objects) objects i) ∙ at)
  where
    by_object : (o : Option Object) → slice_get objects i ≡ o → option_map (resolved_in Plain no_uses allow all objects) o ≡ Some r → IsRowOf allow all objects i r
    by_object None is e = absurd cc
    by_object (Some o) is e = record { object = o; at = is; is = cc }

null_known : (allow : Bool) (objects : List Object) (i s : ℕ) (r : Resolved) (e : InputSymbol) → slice_get (resolve Plain allow (entries Plain objects) objects) i ≡ Some r
    → slice_get r.symbols s ≡ Some e → slice_get r.meanings s ≡ Some null → IsNull (entries Plain objects) e
null_known allow objects i s r e at there means =
    let all : List InputSymbol = entries Plain objects in
    let row = row_of_object allow all objects i r at in
    let symbol : slice_get (symbols_of objects row.object) s ≡ Some e = ap (λ x. slice_get x.symbols s) row.is ∙ there in
    let same : Some (meaning Plain no_uses allow all e) ≡ Some null = sym (ap (option_map (meaning Plain no_uses allow all)) symbol) ∙ sym (slice_get-map (meaning Plain no_uses allow all) (symbols_of objects row.object) s) ∙ ap (λ x. slice_get x.meanings s) row.is ∙ means in
    let is : meaning Plain no_uses allow all e ≡ null = cc in
    let entry = null_is_entry allow all e is in
    record { entry = entry; named = name_known objects i s row.object e row.at symbol entry; unmade = null_unmade allow objects e entry is }

-- the same among more
null_more : (es more : List InputSymbol) (e : InputSymbol) → IsNull es e → IsNull (es ++ more) e
null_more es more e k = record {
  entry = k.entry;
  named = ap (list_any (bytes_eq (name_of e))) (map-append name_of es more) ∙ any_left (bytes_eq (name_of e)) (map name_of es) (map name_of more) k.named;
  unmade = k.unmade;
}

made_named : (name : List ℕ) (place : ℕ) (ms : List MadeSymbol) → list_any (is_named name) (made_from place ms) ≡ true → list_any (bytes_eq name) (map (λ m. m.name) ms) ≡ true
made_named name place [] is = absurd cc
made_named name place (m ∷ ms) is = by (bytes_eq m.name name) refl is (made_named name (place + 1) ms)
  where
    by : (b : Bool) → bytes_eq m.name name ≡ b → (b || list_any (is_named name) (made_from (place + 1) ms)) ≡ true
        → (list_any (is_named name) (made_from (place + 1) ms) ≡ true → list_any (bytes_eq name) (map (λ m. m.name) ms) ≡ true) → (bytes_eq name m.name || list_any (bytes_eq name) (map (λ m. m.name) ms)) ≡ true
    by true same e later = ap (λ b. b || list_any (bytes_eq name) (map (λ m. m.name) ms)) (ap (λ n. bytes_eq name n) (name_equal m.name name same) ∙ name_itself name)
    by false same e later = or_right (bytes_eq name m.name) (list_any (bytes_eq name) (map (λ m. m.name) ms)) (later e)

module _ (p : rules.Program) (from : p.entries ≡ entries Plain p.objects) (means : p.resolved ≡ resolve Plain p.plan.allow_undefined p.entries p.objects)
    (first : List (List ℕ)) (made_first : (name : List ℕ) → list_any (bytes_eq name) (map (λ m. m.name) (made Plain)) ≡ true → list_any (bytes_eq name) first ≡ true)
    (variants : p.variants ≡ loose_variants p.plan.loose_calls p.entries p.resolved) (apart : All (λ v. list_any (bytes_eq (name_of v)) first ≡ false) p.variants) where
  -- what is known of a reference
  abbrev K : InputSymbol → Meaning → Type 0
  K e m = KnownMeaning (imports_in_order p) (callable p) e m

  abbrev R : Ref → Type 0
  R ref = KnownRef (imports_in_order p) (callable p) ref

  symbol_known : (e : InputSymbol) (m : Meaning) → IsSymbolOf p.resolved e m → K e m
  unfolding imports_in_order
  symbol_known e (here d) there = tt
  symbol_known e (imported k) there = import_known p.resolved there.0 there.1 there.2 k there.3 there.5
  symbol_known e null there =
      let resolved : resolve Plain p.plan.allow_undefined (entries Plain p.objects) p.objects ≡ p.resolved = ap (λ all. resolve Plain p.plan.allow_undefined all p.objects) (sym from) ∙ sym means in
      null_more p.entries p.variants e (subst (λ all. IsNull all e) (sym from)
      (null_known p.plan.allow_undefined p.objects there.0 there.1 there.2 e (ap (λ rs. slice_get rs there.0) resolved ∙ there.3) there.4 there.5))
  symbol_known e nothing there = tt

  variant_known : (e : InputSymbol) (m : Meaning) → IsVariantOf p.variants e m → K e m
  variant_known e m there =
      let v = variant_entry p.entries p.plan.loose_calls p.resolved there.1 e (ap (λ vs. slice_get vs there.1) (sym variants) ∙ there.2) in
      subst (K e) (sym there.0) (record {
        entry = v;
        named = ap (list_any (bytes_eq (name_of e))) (map-append name_of p.entries p.variants)
            ∙ any_right (bytes_eq (name_of e)) (map name_of p.entries) (map name_of p.variants)
            (any_map (bytes_eq (name_of e)) name_of p.variants ∙ any_at (λ x. bytes_eq (name_of e) (name_of x)) p.variants there.1 e there.2 (name_itself (name_of e)));
        unmade = unmade (list_any (is_named (name_of e)) (made_from 0 (made Plain))) refl;
      })
    where
      unmade : (b : Bool) → list_any (is_named (name_of e)) (made_from 0 (made Plain)) ≡ b → b ≡ false
      unmade true is = absurd (let a = made_first (name_of e) (made_named (name_of e) 0 (made Plain) is) in let n = all_at (λ v. list_any (bytes_eq (name_of v)) first ≡ false) p.variants there.1 e apart there.2 in let z : true ≡ false = sym a ∙ n in cc)
      unmade false is = refl

  ref_known : (ref : Ref) → IsRefOf p ref → R ref
  ref_known ref there = elim there as (λ _. R ref) [
    | inl s ↦ symbol_known ref.entry ref.meaning s
    | inr v ↦ variant_known ref.entry ref.meaning v
  ]

  -- ---- parts

  part_refs : (part : rules.Part) → PartStands p part → All R (refs part)
  part_refs part stands = λ k d below. ref_known (get_or (refs part) k d) (stands.refs k d below)

  -- All references of all parts are known.
  pub all_known : (parts : List rules.Part) → All (PartStands p) parts → All (KnownRef (imports_in_order p) (callable p)) (refs_of parts)
  all_known [] stand = λ k d below. absurd (omega arith)
  all_known (part ∷ parts) stand =
      All-append R (refs part) (refs_of parts)
      (part_refs part (All-head (PartStands p) part parts stand)) (all_known parts (All-tail (PartStands p) part parts stand))
