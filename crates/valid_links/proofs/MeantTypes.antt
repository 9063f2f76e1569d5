-- What a symbol means has the symbol's type.
use Rattle.std.proofs.Common.{◌≡◌, List, [], ◌∷◌, Option, Some, None, Bool, true, false, refl, sym, ap, ◌∙◌, subst, inl, inr, ⊎_elim, arith}
use Rattle.std.specs.Prelude.{◌⊎◌, ◌&&◌, nat_lt, filter, cond, unwrap_or, option_map}
use Rattle.list_places.specs.Has.{Has}
use Rattle.list_places.proofs.Lists.{has_filter, filter_has, find_has, some_is}
use Rattle.object_file.specs.wl_base.Choice.{first_some, given}
use Rattle.object_file.specs.linking_section.declared.symbol.SymbolKind.TheVariants.{Function}
use Rattle.object_file.specs.linking_section.Flags.{is_explicit}
use Rattle.object_file.specs.declared.object.Object.{Object}
use Rattle.made_symbols.specs.declared.mode.Mode.TheVariants.{Plain}
use Rattle.link_runs.specs.link_facts.link_worlds.link_rules.name_rules.Entries.{InputSymbol, ImportKey, SymbolType, is_kind, is_entry, name_of, named, is_named, type_in, import_in, key_of, entries}
use Rattle.link_runs.specs.link_facts.link_worlds.link_rules.name_rules.Meanings.{Meaning, here, imported, null, nothing, lesser, least, references, least_import, may_import, may_be_null, where_given, by_rules, own_meaning, meaning, no_uses, entry_rank}
use Rattle.link_runs.specs.link_facts.link_worlds.link_rules.name_rules.Cases.{clash_by, first_entry, has_other_type}
use Rattle.link_runs.proofs.link_worlds_lemmas.Keys.{bytes_equal, bytes_itself}
use Rattle.link_runs.proofs.link_facts_lemmas.Meant.{MeansBy, Means, means}
use Rattle.link_runs.proofs.link_facts_lemmas.Symbols.{Known, entry_known}
use Rattle.valid_links.proofs.OneNames.{Settled, settled_definition, settled_other, settled_undefined, settled_call, one_type}

-- ---- what isn't a definition is of a name that nothing defines

least_none : (es : List InputSymbol) → least es ≡ None → (x : InputSymbol) → Has es x → ⊥
least_none [] n x h = h
least_none (e ∷ es) n x h = absurd (some_lesser (least es) n)
  where
    some_lesser : (o : Option InputSymbol) → lesser e o ≡ None → ⊥
    some_lesser None q = absurd (grind arith)
    some_lesser (Some f) q = by (nat_lt (entry_rank f) (entry_rank e)) q
      where
        by : (b : Bool) → cond b (Some f) (Some e) ≡ None → ⊥
        by true q = absurd (grind arith)
        by false q = absurd (grind arith)

undefined : (allow : Bool) (es : List InputSymbol) (e : InputSymbol) (m : Meaning) → by_rules Plain no_uses allow es e ≡ m → ((d : InputSymbol) → m ≡ here d → ⊥) → (d : InputSymbol) → Has es d → d.defines ≡ true → ⊥
undefined allow es e m q not_here d h t = by (least (filter (λ (x : InputSymbol). x.defines) es)) refl q
  where
    others : List (Option Meaning)
    others =
        option_map imported (least_import (filter (λ r. is_explicit r.symbol) (references es)))
        ∷ option_map imported (where_given (allow && may_import es e) (least_import (references es)))
        ∷ given (may_be_null e) null
        ∷ []

    by : (o : Option InputSymbol) → least (filter (λ (x : InputSymbol). x.defines) es) ≡ o → unwrap_or (first_some (option_map here o ∷ others)) nothing ≡ m → ⊥
    by None n r = least_none (filter (λ (x : InputSymbol). x.defines) es) n d (filter_has (λ (x : InputSymbol). x.defines) es d h t)
    by (Some w) n r = not_here w (sym r)

-- an import has the type of the symbol that stands on it
import_typed : (objects : List Object) (r : InputSymbol) → Known objects r → (k : ImportKey) → r.import ≡ Some k → k.type ≡ r.type
import_typed objects r (inl x) k h = absurd (let q : None ≡ Some k = sym (ap (λ (w : InputSymbol). w.import) x.is) ∙ h in grind arith)
import_typed objects r (inr x) k h =
    let o = x.object in
    let s = x.symbol.symbol in
    of_key (type_in o s s.kind) (import_in o s s.kind) (sym (ap (λ (w : InputSymbol). w.import) x.symbol.is) ∙ h) ∙ ap (λ (w : InputSymbol). w.type) (sym x.symbol.is)
  where
    of_key : (t : SymbolType) (i : _) → option_map (key_of t) i ≡ Some k → k.type ≡ t
    of_key t None q = absurd (grind arith)
    of_key t (Some i) q = ap (λ (w : ImportKey). w.type) (sym (some_is (key_of t i) k q))

-- ---- by what it means

-- A stub has the type of the least entry of its name.
abbrev pub MeantType : List InputSymbol → InputSymbol → Meaning → Type 0
MeantType all e (here d) = d.type ≡ e.type
MeantType all e (imported k) = k.type ≡ e.type
MeantType all e null = (a : InputSymbol) → first_entry all (name_of e) ≡ Some a → a.type ≡ e.type
MeantType all e nothing = Unit {0}

module _ (loose allow : Bool) (objects : List Object) (clear : clash_by loose (entries Plain objects) ≡ None) where
  abbrev es : List InputSymbol
  es = entries Plain objects

  module _ (e : InputSymbol) (listed : Has (entries Plain objects) e) (entry : is_entry e ≡ true) where
    among : (d : InputSymbol) → Has (named es (name_of e)) d → Has es d × (is_named (name_of e) d ≡ true)
    among d h = has_filter (is_named (name_of e)) es d h

    settled_by : (d : InputSymbol) → Settled true es d → Settled loose es d
    settled_by d s = by loose
      where
        by : (b : Bool) → Settled b es d
        by true = s
        by false = tt

    -- no entry of the name defines it
    abbrev NoneDefines : Type 0
    NoneDefines = (d : InputSymbol) → Has (named es (name_of e)) d → d.defines ≡ true → ⊥

    all_settled : NoneDefines → (d : InputSymbol) → Has (named es (name_of e)) d → Settled loose es d
    all_settled none d h =
        let same : name_of d ≡ name_of e = bytes_equal (name_of d) (name_of e) (among d h).1 in
        settled_by d (settled_undefined es d (λ x hx n t. none x (filter_has (is_named (name_of e)) es x hx (sym (ap (λ m. is_named m x) same) ∙ n)) t))

    itself : Has (named es (name_of e)) e
    itself = filter_has (is_named (name_of e)) es e listed (bytes_itself (name_of e))

    by_meaning : (m : Meaning) → by_rules Plain no_uses allow (named es (name_of e)) e ≡ m → MeansBy (named es (name_of e)) e m
        → ((d : InputSymbol) → m ≡ here d → ((is_kind Function e ≡ false) ⊎ (has_other_type es e ≡ false)) ⊎ (loose ≡ false)) → MeantType es e m
    by_meaning (here d) q s fit =
        one_type loose es clear d e listed s.0 (settled_by d (settled_definition es d s.1))
        (⊎_elim (λ k. ⊎_elim (λ f. settled_by e (settled_other es e f)) (λ c. settled_by e (settled_call es e entry c)) k) (λ z. strict loose z) (fit d refl))
      where
        strict : (b : Bool) → b ≡ false → Settled b es e
        strict true z = absurd (grind arith)
        strict false z = tt
    by_meaning (imported k) q s fit =
        let none : NoneDefines = undefined allow (named es (name_of e)) e (imported k) q (λ d h. absurd (grind arith)) in
        import_typed objects s.0 (entry_known objects s.0 (among s.0 s.1).0) k s.2
        ∙ one_type loose es clear s.0 e listed s.1 (all_settled none s.0 s.1) (all_settled none e itself)
    by_meaning null q s fit = λ a f.
        let none : NoneDefines = undefined allow (named es (name_of e)) e null q (λ d h. absurd (grind arith)) in
        let h = find_has (is_named (name_of e)) es a f in
        let n = filter_has (is_named (name_of e)) es a h.0 h.1 in
        one_type loose es clear a e listed n (all_settled none a n) (all_settled none e itself)
    by_meaning nothing q s fit = tt

  pub meant_type : (e : InputSymbol) → (is_entry e ≡ true → Has (entries Plain objects) e) → (m : Meaning) → meaning Plain no_uses allow es e ≡ m
      → ((d : InputSymbol) → m ≡ here d → ((is_kind Function e ≡ false) ⊎ (has_other_type es e ≡ false)) ⊎ (loose ≡ false)) → MeantType es e m
  meant_type e listed m q fit = by (is_entry e) refl (subst (Means es e) q (means allow es e)) q
    where
      own : (b : Bool) → e.defines ≡ b → cond b (here e) nothing ≡ m → MeantType es e m
      own true t h = subst (MeantType es e) h refl
      own false t h = subst (MeantType es e) h tt

      by : (b : Bool) → is_entry e ≡ b → Means es e m → cond b (by_rules Plain no_uses allow (named es (name_of e)) e) (own_meaning e) ≡ m → MeantType es e m
      by true t s h = by_meaning e (listed t) t m h (ruled t h) fit
        where
          ruled : is_entry e ≡ true → by_rules Plain no_uses allow (named es (name_of e)) e ≡ m → MeansBy (named es (name_of e)) e m
          ruled t h = ⊎_elim (λ x. x.1) (λ k. of_own k) s
            where
              of_own : ((m ≡ here e) × (e.defines ≡ true)) ⊎ (m ≡ nothing) → MeansBy (named es (name_of e)) e m
              of_own (inl x) = subst (MeansBy (named es (name_of e)) e) (sym x.0) (filter_has (is_named (name_of e)) es e (listed t) (bytes_itself (name_of e)), x.1)
              of_own (inr x) = subst (MeansBy (named es (name_of e)) e) (sym x) tt
      by false t s h = own e.defines refl h
