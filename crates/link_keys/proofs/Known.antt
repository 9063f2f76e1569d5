-- What references of live parts name is known: imports, and the names of null functions.
use Rattle.std.proofs.Common.{◌≡◌, ℕ, Bool, true, false, ◌&&◌, ◌||◌, ◌+◌, nat_lt, unwrap_or, List, [], ◌∷◌, ◌++◌, map, filter, filter_map, flat_map, slice_get, Option, Some, None, option_map, refl, sym, ap, subst, ◌∙◌, inl, inr, arith, get_or}
use Rattle.std.specs.Prelude.{bytes_eq, if◌then◌else◌}
use Rattle.std.specs.List.{list_any, All}
use Rattle.std.proofs.lemmas.List.{map-append}
use Rattle.std.proofs.lemmas.List.Elements.{All-append}
use Rattle.std.proofs.lemmas.List.Folds.{list_any-append}
use Rattle.std.proofs.lemmas.Option.{slice_get-map}
use Rattle.link_program.specs.wl_base.Choice.{distinct, distinct_onto, first_some}
use Rattle.link_program.specs.object_file.declared.object.Object.{Object}
use Rattle.link_program.specs.made_symbols.declared.mode.Mode.{Mode}
use Rattle.link_program.specs.made_symbols.declared.mode.Mode.TheVariants.{Plain, Shared}
use Rattle.link_program.specs.made_symbols.Made.{made, MadeSymbol}
use Rattle.link_program.specs.name_rules.Entries.{InputSymbol, ImportKey, same_import, is_entry, name_of, symbols_of, entries, is_named, made_entry, made_from}
use Rattle.link_program.specs.name_rules.Meanings.{Meaning, here, imported, null, nothing, Resolved, Uses, uses_of, resolve, resolved_in, meaning, own_meaning, by_rules, least, lesser, entry_rank, is_nothing}
use Rattle.link_program.specs.link_rules.Program as rules
use Rattle.link_program.specs.link_rules.Program.{Ref, refs, loose_variants}
use Rattle.link_program.specs.link_rules.Marks.{refs_of}
use Rattle.link_program.specs.link_rules.Keys.{import_of, imports_in_order, callable}
use Rattle.link_program.specs.Stand.{IsSymbolOf, IsVariantOf, IsRefOf, PartStands, PartsStand}
use Rattle.link_program.proofs.Loose.{variant_entry}
use Rattle.link_program.specs.Live.{AllMeant}
use Rattle.link_keys.proofs.Any.{or_right, any_at, any_left, any_right, any_map, any_flat_map, any_filter, any_filter_map, option_any, all_at}
use Rattle.link_keys.proofs.Equals.{holds_distinct, holds_onto}
use Rattle.link_keys.proofs.Imports.{import_equal, import_itself, name_equal, name_itself}

-- The name of what is null is that of an entry, and the linker defines none of that name.
pub record IsNullOf (mode : Mode) (all : List InputSymbol) (e : InputSymbol) : Type 0 where
  pub entry : is_entry e ≡ true
  pub named : list_any (bytes_eq (name_of e)) (map name_of all) ≡ true
  pub unmade : list_any (is_named (name_of e)) (made_from 0 (made mode)) ≡ false

abbrev pub IsNull : List InputSymbol → InputSymbol → Type 0
IsNull all e = IsNullOf Plain all e

-- An import is one of the imports.
abbrev pub KnownMeaning : Mode → List ImportKey → List InputSymbol → InputSymbol → Meaning → Type 0
KnownMeaning mode imports all e (here d) = Unit {0}
KnownMeaning mode imports all e (imported k) = list_any (same_import k) imports ≡ true
KnownMeaning mode imports all e null = IsNullOf mode all e
KnownMeaning mode imports all e nothing = ⊥

abbrev pub KnownRef : Mode → List ImportKey → List InputSymbol → Ref → Type 0
KnownRef mode imports all ref = KnownMeaning mode imports all ref.entry ref.meaning

-- ---- symbols

import_known : (resolved : List Resolved) (i s : ℕ) (r : Resolved) (k : ImportKey) → slice_get resolved i ≡ Some r → slice_get r.meanings s ≡ Some (imported k)
    → list_any (same_import k) (distinct same_import (filter_map import_of (flat_map (λ r. r.meanings) resolved))) ≡ true
import_known resolved i s r k at there =
    holds_distinct same_import import_equal import_itself (filter_map import_of (flat_map (λ r. r.meanings) resolved)) k
    (any_filter_map (same_import k) import_of (flat_map (λ r. r.meanings) resolved)
    ∙ any_flat_map (λ m. option_any (same_import k) (import_of m)) (λ r. r.meanings) resolved i r at
    (any_at (λ m. option_any (same_import k) (import_of m)) r.meanings s (imported k) there (import_itself k)))

own_not_null : (e : InputSymbol) (r : Bool) → (if r then here e else nothing) ≡ null → ⊥
own_not_null e true is = absurd cc
own_not_null e false is = absurd cc

null_is_entry : (mode : Mode) (uses : Uses) (allow : Bool) (all : List InputSymbol) (e : InputSymbol) → meaning mode uses allow all e ≡ null → is_entry e ≡ true
null_is_entry mode uses allow all e is = by_entry (is_entry e) refl
  where
    by_entry : (r : Bool) → is_entry e ≡ r → r ≡ true
    by_entry true same = refl
    by_entry false same =
        let own : own_meaning e ≡ null = rw same at is in absurd (own_not_null e e.defines own)

-- ---- what is null has no definition

least_none : (es : List InputSymbol) → least es ≡ None → es ≡ []
least_none [] e = refl
least_none (d ∷ es) e = absurd (by_rest (least es) e)
  where
    by_rank : (r : Bool) (f : InputSymbol) → (if r then Some f else Some d) ≡ None → ⊥
    by_rank true f e = absurd cc
    by_rank false f e = absurd cc

    by_rest : (o : Option InputSymbol) → lesser d o ≡ None → ⊥
    by_rest None e = absurd cc
    by_rest (Some f) e = by_rank (nat_lt (entry_rank f) (entry_rank d)) f e

null_undefined : (o : Option InputSymbol) (rest : List (Option Meaning)) → unwrap_or (first_some (option_map here o ∷ rest)) nothing ≡ null → o ≡ None
null_undefined None rest e = refl
null_undefined (Some d) rest e = absurd cc

-- In both modes the first rule is that of the winner.
null_without : (mode : Mode) (uses : Uses) (allow : Bool) (es : List InputSymbol) (e : InputSymbol) → by_rules mode uses allow es e ≡ null → least (filter (λ d. d.defines) es) ≡ None
null_without Plain uses allow es e is = null_undefined (least (filter (λ d. d.defines) es)) _ is
null_without Shared uses allow es e is = null_undefined (least (filter (λ d. d.defines) es)) _ is

and_true : (b : Bool) → (b && true) ≡ b
and_true true = refl
and_true false = refl

made_defines : (name : List ℕ) (place : ℕ) (ms : List MadeSymbol) → list_any (λ x. is_named name x && (x.defines && true)) (made_from place ms) ≡ list_any (is_named name) (made_from place ms)
made_defines name place [] = refl
made_defines name place (m ∷ ms) = ap (λ b. b || list_any (λ x. is_named name x && (x.defines && true)) (made_from (place + 1) ms)) (and_true (is_named name (made_entry place m)))
    ∙ ap (λ b. is_named name (made_entry place m) || b) (made_defines name (place + 1) ms)

first_false : (a b : Bool) → (a || b) ≡ false → a ≡ false
first_false true b e = e
first_false false b e = refl

null_unmade : (mode : Mode) (uses : Uses) (allow : Bool) (objects : List Object) (e : InputSymbol) → is_entry e ≡ true → meaning mode uses allow (entries mode objects) e ≡ null
    → list_any (is_named (name_of e)) (made_from 0 (made mode)) ≡ false
unfolding entries
null_unmade mode uses allow objects e entry is =
    let all : List InputSymbol = made_from 0 (made mode) ++ filter is_entry (flat_map (symbols_of objects) objects) in
    let es : List InputSymbol = filter (is_named (name_of e)) all in
    let ruled : by_rules mode uses allow es e ≡ null = sym (ap (λ b. if b then by_rules mode uses allow es e else own_meaning e) entry) ∙ is in
    let none : least (filter (λ d. d.defines) es) ≡ None = null_without mode uses allow es e ruled in
    let empty : list_any (λ x. true) (filter (λ d. d.defines) es) ≡ false = ap (list_any (λ x. true)) (least_none (filter (λ d. d.defines) es) none) in
    let whole : list_any (λ x. is_named (name_of e) x && (x.defines && true)) all ≡ false =
    sym (any_filter (λ x. true) (λ d. d.defines) es ∙ any_filter (λ x. x.defines && true) (is_named (name_of e)) all) ∙ empty in
    sym (made_defines (name_of e) 0 (made mode))
    ∙ first_false (list_any (λ x. is_named (name_of e) x && (x.defines && true)) (made_from 0 (made mode))) (list_any (λ x. is_named (name_of e) x && (x.defines && true)) (filter is_entry (flat_map (symbols_of objects) objects)))
    (sym (list_any-append (λ x. is_named (name_of e) x && (x.defines && true)) (made_from 0 (made mode)) (filter is_entry (flat_map (symbols_of objects) objects))) ∙ whole)

name_known : (mode : Mode) (objects : List Object) (i s : ℕ) (o : Object) (e : InputSymbol) → slice_get objects i ≡ Some o → slice_get (symbols_of objects o) s ≡ Some e → is_entry e ≡ true
    → list_any (bytes_eq (name_of e)) (map name_of (entries mode objects)) ≡ true
unfolding entries
name_known mode objects i s o e at there entry =
    any_map (bytes_eq (name_of e)) name_of (made_from 0 (made mode) ++ filter is_entry (flat_map (symbols_of objects) objects))
    ∙ any_right (λ y. bytes_eq (name_of e) (name_of y)) (made_from 0 (made mode)) (filter is_entry (flat_map (symbols_of objects) objects))
    (any_filter (λ y. bytes_eq (name_of e) (name_of y)) is_entry (flat_map (symbols_of objects) objects)
    ∙ any_flat_map (λ y. is_entry y && bytes_eq (name_of e) (name_of y)) (symbols_of objects) objects i o at
    (any_at (λ y. is_entry y && bytes_eq (name_of e) (name_of y)) (symbols_of objects o) s e there (rw entry (name_itself (name_of e)))))

-- A row of symbols with their meanings is that of an object.
record IsRowOf (mode : Mode) (allow : Bool) (all : List InputSymbol) (objects : List Object) (i : ℕ) (r : Resolved) : Type 0 where
  pub object : Object
  pub at : slice_get objects i ≡ Some object
  pub is : resolved_in mode (uses_of mode objects) allow all objects object ≡ r

row_of_object : (mode : Mode) (allow : Bool) (all : List InputSymbol) (objects : List Object) (i : ℕ) (r : Resolved) → slice_get (resolve mode allow all objects) i ≡ Some r → IsRowOf mode allow all objects i r
unfolding resolve
row_of_object mode allow all objects i r at = by_object (slice_get objects i) refl (sym (slice_get-map (resolved_in mode (uses_of mode objects) allow all objects) objects i) ∙ at)
  where
    by_object : (o : Option Object) → slice_get objects i ≡ o → option_map (resolved_in mode (uses_of mode objects) allow all objects) o ≡ Some r → IsRowOf mode allow all objects i r
    by_object None is e = absurd cc
    by_object (Some o) is e = record { object = o; at = is; is = cc }

null_known : (mode : Mode) (allow : Bool) (objects : List Object) (i s : ℕ) (r : Resolved) (e : InputSymbol) → slice_get (resolve mode allow (entries mode objects) objects) i ≡ Some r
    → slice_get r.symbols s ≡ Some e → slice_get r.meanings s ≡ Some null → IsNullOf mode (entries mode objects) e
null_known mode allow objects i s r e at there means =
    let all : List InputSymbol = entries mode objects in
    let uses : Uses = uses_of mode objects in
    let row = row_of_object mode allow all objects i r at in
    let symbol : slice_get (symbols_of objects row.object) s ≡ Some e = ap (λ x. slice_get x.symbols s) row.is ∙ there in
    let same : Some (meaning mode uses allow all e) ≡ Some null = sym (ap (option_map (meaning mode uses allow all)) symbol) ∙ sym (slice_get-map (meaning mode uses allow all) (symbols_of objects row.object) s) ∙ ap (λ x. slice_get x.meanings s) row.is ∙ means in
    let is : meaning mode uses allow all e ≡ null = cc in
    let entry = null_is_entry mode uses allow all e is in
    record { entry = entry; named = name_known mode objects i s row.object e row.at symbol entry; unmade = null_unmade mode uses allow objects e entry is }

-- the same among more
null_more : (mode : Mode) (es more : List InputSymbol) (e : InputSymbol) → IsNullOf mode es e → IsNullOf mode (es ++ more) e
null_more mode es more e k = record {
  entry = k.entry;
  named = ap (list_any (bytes_eq (name_of e))) (map-append name_of es more) ∙ any_left (bytes_eq (name_of e)) (map name_of es) (map name_of more) k.named;
  unmade = k.unmade;
}

made_named : (name : List ℕ) (place : ℕ) (ms : List MadeSymbol) → list_any (is_named name) (made_from place ms) ≡ true → list_any (bytes_eq name) (map (λ m. m.name) ms) ≡ true
made_named name place [] is = absurd cc
made_named name place (m ∷ ms) is = by (bytes_eq m.name name) refl is (made_named name (place + 1) ms)
  where
    by : (b : Bool) → bytes_eq m.name name ≡ b → (b || list_any (is_named name) (made_from (place + 1) ms)) ≡ true
        → (list_any (is_named name) (made_from (place + 1) ms) ≡ true → list_any (bytes_eq name) (map (λ m. m.name) ms) ≡ true) → (bytes_eq name m.name || list_any (bytes_eq name) (map (λ m. m.name) ms)) ≡ true
    by true same e later = ap (λ b. b || list_any (bytes_eq name) (map (λ m. m.name) ms)) (ap (λ n. bytes_eq name n) (name_equal m.name name same) ∙ name_itself name)
    by false same e later = or_right (bytes_eq name m.name) (list_any (bytes_eq name) (map (λ m. m.name) ms)) (later e)

module _ (mode : Mode) (p : rules.Program) (from : p.entries ≡ entries mode p.objects) (means : p.resolved ≡ resolve mode p.plan.allow_undefined p.entries p.objects)
    (first : List (List ℕ)) (made_first : (name : List ℕ) → list_any (bytes_eq name) (map (λ m. m.name) (made mode)) ≡ true → list_any (bytes_eq name) first ≡ true)
    (variants : p.variants ≡ loose_variants p.plan.loose_calls p.entries p.resolved) (apart : All (λ v. list_any (bytes_eq (name_of v)) first ≡ false) p.variants) where
  symbol_known : (e : InputSymbol) (m : Meaning) → IsSymbolOf p.resolved e m → is_nothing m ≡ false → KnownMeaning mode (imports_in_order p) (callable p) e m
  unfolding imports_in_order
  symbol_known e (here d) there meant = tt
  symbol_known e (imported k) there meant = import_known p.resolved there.0 there.1 there.2 k there.3 there.5
  symbol_known e null there meant =
      let resolved : resolve mode p.plan.allow_undefined (entries mode p.objects) p.objects ≡ p.resolved = ap (λ all. resolve mode p.plan.allow_undefined all p.objects) (sym from) ∙ sym means in
      null_more mode p.entries p.variants e (subst (λ all. IsNullOf mode all e) (sym from)
      (null_known mode p.plan.allow_undefined p.objects there.0 there.1 there.2 e (ap (λ rs. slice_get rs there.0) resolved ∙ there.3) there.4 there.5))
  symbol_known e nothing there meant = absurd cc

  variant_known : (e : InputSymbol) (m : Meaning) → IsVariantOf p.variants e m → KnownMeaning mode (imports_in_order p) (callable p) e m
  variant_known e m there =
      let v = variant_entry p.entries p.plan.loose_calls p.resolved there.1 e (ap (λ vs. slice_get vs there.1) (sym variants) ∙ there.2) in
      subst (KnownMeaning mode (imports_in_order p) (callable p) e) (sym there.0) (record {
        entry = v;
        named = ap (list_any (bytes_eq (name_of e))) (map-append name_of p.entries p.variants)
            ∙ any_right (bytes_eq (name_of e)) (map name_of p.entries) (map name_of p.variants)
            (any_map (bytes_eq (name_of e)) name_of p.variants ∙ any_at (λ x. bytes_eq (name_of e) (name_of x)) p.variants there.1 e there.2 (name_itself (name_of e)));
        unmade = unmade (list_any (is_named (name_of e)) (made_from 0 (made mode))) refl;
      })
    where
      unmade : (b : Bool) → list_any (is_named (name_of e)) (made_from 0 (made mode)) ≡ b → b ≡ false
      unmade true is = absurd (let a = made_first (name_of e) (made_named (name_of e) 0 (made mode) is) in let n = all_at (λ v. list_any (bytes_eq (name_of v)) first ≡ false) p.variants there.1 e apart there.2 in let z : true ≡ false = sym a ∙ n in cc)
      unmade false is = refl

  ref_known : (ref : Ref) → IsRefOf p ref → is_nothing ref.meaning ≡ false → KnownRef mode (imports_in_order p) (callable p) ref
  ref_known ref there meant = elim there as (λ _. KnownRef mode (imports_in_order p) (callable p) ref) [
    | inl s ↦ symbol_known ref.entry ref.meaning s meant
    | inr v ↦ variant_known ref.entry ref.meaning v
  ]

  -- ---- live parts

  all_symbols : (numbers : List ℕ) (parts : List rules.Part) → map (slice_get p.parts) numbers ≡ map Some parts → PartsStand p
      → All (IsRefOf p) (refs_of parts)
  all_symbols [] [] are stand = λ k d below. absurd (omega arith)
  all_symbols [] (part ∷ parts) are stand = absurd cc
  all_symbols (n ∷ numbers) [] are stand = absurd cc
  all_symbols (n ∷ numbers) (part ∷ parts) are stand =
      let at : slice_get p.parts n ≡ Some part = cc in
      let rest : map (slice_get p.parts) numbers ≡ map Some parts = cc in
      All-append (IsRefOf p) (refs part) (refs_of parts)
      (all_at (PartStands p) p.parts n part stand at).refs (all_symbols numbers parts rest stand)

  -- All references of the live parts are known.
  pub all_known : (numbers : List ℕ) (parts : List rules.Part) → map (slice_get p.parts) numbers ≡ map Some parts → PartsStand p → AllMeant parts
      → All (KnownRef mode (imports_in_order p) (callable p)) (refs_of parts)
  all_known numbers parts are stand meant = λ k d below. ref_known (get_or (refs_of parts) k d) (all_symbols numbers parts are stand k d below) (meant k d below)

-- The same among more imports.
pub more_known : (mode : Mode) (imports more : List ImportKey) (all : List InputSymbol) (e : InputSymbol) (m : Meaning) → KnownMeaning mode imports all e m
    → KnownMeaning mode (distinct_onto same_import imports more) all e m
more_known mode imports more all e (here d) known = tt
more_known mode imports more all e (imported k) known = holds_onto same_import import_equal import_itself k imports more (ap (λ b. b || list_any (same_import k) more) known)
more_known mode imports more all e null known = known
more_known mode imports more all e nothing known = known
