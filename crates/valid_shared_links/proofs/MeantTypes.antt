-- What a symbol of a shared output means has the symbol's type, but for the cell of an address.
use Rattle.std.proofs.Common.{◌≡◌, List, [], ◌∷◌, Option, Some, None, Bool, true, false, refl, sym, ap, ◌∙◌, subst, inl, inr, ⊎_elim, arith}
use Rattle.std.specs.Prelude.{◌⊎◌, ◌||◌, nat_lt, filter, cond, unwrap_or, option_map}
use Rattle.std.proofs.lemmas.Bool.{cond-true}
use Rattle.list_places.specs.Has.{Has}
use Rattle.list_places.proofs.Lists.{has_filter, filter_has}
use Rattle.wl_base.specs.Choice.{first_some, given}
use Rattle.linking_section.specs.declared.symbol.SymbolKind.TheVariants.{Function, GlobalVar}
use Rattle.linking_section.specs.Flags.{is_explicit}
use Rattle.object_file.specs.declared.object.Object.{Object}
use Rattle.made_symbols.specs.declared.mode.Mode.TheVariants.{Shared}
use Rattle.name_rules.specs.Entries.{InputSymbol, is_kind, is_entry, name_of, named, is_named, entries}
use Rattle.name_rules.specs.Meanings.{Meaning, here, imported, null, nothing, Uses, lesser, least, references, least_import, where_given, is_called, is_address, cell_of, by_rules, own_meaning, meaning, entry_rank}
use Rattle.name_rules.specs.Cases.{clash_by, has_other_type}
use Rattle.shared_facts.specs.shared_links.link_program.name_entries.View.{InputsRise}
use Rattle.shared_facts.proofs.shared_links_lemmas.link_worlds_lemmas.Keys.{bytes_equal, bytes_itself}
use Rattle.shared_facts.proofs.Entries.{entry_known}
use Rattle.shared_facts.proofs.Meant.{ByRules, Means, by_name, itself, no_meaning, means, import_typed}
use Rattle.valid_shared_links.proofs.OneNames.{Settled, settled_definition, settled_other, settled_undefined, settled_call, one_type}

-- ---- what isn't a definition is of a name that nothing defines

least_none : (es : List InputSymbol) → least es ≡ None → (x : InputSymbol) → Has es x → ⊥
least_none [] n x h = h
least_none (e ∷ es) n x h = absurd (some_lesser (least es) n)
  where
    some_lesser : (o : Option InputSymbol) → lesser e o ≡ None → ⊥
    some_lesser None q = absurd (grind arith)
    some_lesser (Some f) q = by (nat_lt (entry_rank f) (entry_rank e)) q
      where
        by : (b : Bool) → cond b (Some f) (Some e) ≡ None → ⊥
        by true q = absurd (grind arith)
        by false q = absurd (grind arith)

undefined : (uses : Uses) (allow : Bool) (es : List InputSymbol) (e : InputSymbol) (m : Meaning) → by_rules Shared uses allow es e ≡ m → ((d : InputSymbol) → m ≡ here d → ⊥) → (d : InputSymbol) → Has es d → d.defines ≡ true → ⊥
undefined uses allow es e m q not_here d h t = by (least (filter (λ (x : InputSymbol). x.defines) es)) refl q
  where
    others : List (Option Meaning)
    others =
        option_map imported (least_import (filter (λ r. is_explicit r.symbol) (references es)))
        ∷ option_map imported (where_given (is_called uses e || is_kind GlobalVar e) (least_import (references es)))
        ∷ given (is_address uses e) (imported (cell_of e))
        ∷ []

    by : (o : Option InputSymbol) → least (filter (λ (x : InputSymbol). x.defines) es) ≡ o → unwrap_or (first_some (option_map here o ∷ others)) nothing ≡ m → ⊥
    by None n r = least_none (filter (λ (x : InputSymbol). x.defines) es) n d (filter_has (λ (x : InputSymbol). x.defines) es d h t)
    by (Some w) n r = not_here w (sym r)

-- ---- by what it means

abbrev pub MeantType : Uses → InputSymbol → Meaning → Type 0
MeantType uses e (here d) = d.type ≡ e.type
MeantType uses e (imported k) = (k.type ≡ e.type) ⊎ (is_address uses e ≡ true)
MeantType uses e null = ⊥
MeantType uses e nothing = Unit {0}

module _ (loose : Bool) (uses : Uses) (allow : Bool) (objects : List Object) (rise : InputsRise 0 objects) (clear : clash_by loose (entries Shared objects) ≡ None) where
  abbrev es : List InputSymbol
  es = entries Shared objects

  module _ (e : InputSymbol) (listed : Has (entries Shared objects) e) (entry : is_entry e ≡ true) where
    among : (d : InputSymbol) → Has (named es (name_of e)) d → Has es d × (is_named (name_of e) d ≡ true)
    among d h = has_filter (is_named (name_of e)) es d h

    settled_by : (d : InputSymbol) → Settled true es d → Settled loose es d
    settled_by d s = by loose
      where
        by : (b : Bool) → Settled b es d
        by true = s
        by false = tt

    -- no entry of the name defines it
    abbrev NoneDefines : Type 0
    NoneDefines = (d : InputSymbol) → Has (named es (name_of e)) d → d.defines ≡ true → ⊥

    all_settled : NoneDefines → (d : InputSymbol) → Has (named es (name_of e)) d → Settled loose es d
    all_settled none d h =
        let same : name_of d ≡ name_of e = bytes_equal (name_of d) (name_of e) (among d h).1 in
        settled_by d (settled_undefined es d (λ x hx n t. none x (filter_has (is_named (name_of e)) es x hx (sym (ap (λ m. is_named m x) same) ∙ n)) t))

    itself_named : Has (named es (name_of e)) e
    itself_named = filter_has (is_named (name_of e)) es e listed (bytes_itself (name_of e))

    by_meaning : (m : Meaning) → by_rules Shared uses allow (named es (name_of e)) e ≡ m → ByRules uses (named es (name_of e)) e m
        → ((d : InputSymbol) → m ≡ here d → ((is_kind Function e ≡ false) ⊎ (has_other_type es e ≡ false)) ⊎ (loose ≡ false)) → MeantType uses e m
    by_meaning (here d) q s fit =
        one_type loose es clear d e listed s.0 (settled_by d (settled_definition es d s.1))
        (⊎_elim (λ k. ⊎_elim (λ f. settled_by e (settled_other es e f)) (λ c. settled_by e (settled_call es e entry c)) k) (λ z. strict loose z) (fit d refl))
      where
        strict : (b : Bool) → b ≡ false → Settled b es e
        strict true z = absurd (grind arith)
        strict false z = tt
    by_meaning (imported k) q (inl s) fit =
        let none : NoneDefines = undefined uses allow (named es (name_of e)) e (imported k) q (λ d h. absurd (grind arith)) in
        inl (import_typed objects rise s.0 (entry_known objects rise s.0 (among s.0 s.1).0) k s.2
        ∙ one_type loose es clear s.0 e listed s.1 (all_settled none s.0 s.1) (all_settled none e itself_named))
    by_meaning (imported k) q (inr s) fit = inr s.0
    by_meaning null q s fit = s
    by_meaning nothing q s fit = tt

  pub meant_type : (e : InputSymbol) → (is_entry e ≡ true → Has (entries Shared objects) e) → (m : Meaning) → meaning Shared uses allow es e ≡ m
      → ((d : InputSymbol) → m ≡ here d → ((is_kind Function e ≡ false) ⊎ (has_other_type es e ≡ false)) ⊎ (loose ≡ false)) → MeantType uses e m
  meant_type e listed m q fit = by (subst (Means uses es e) q (means uses allow es e))
    where
      by : Means uses es e m → MeantType uses e m
      by (by_name t x) = by_meaning e (listed t) t m (sym (cond-true (is_entry e) (by_rules Shared uses allow (named es (name_of e)) e) (own_meaning e) t) ∙ q) x fit
      by (itself n z d) = subst (MeantType uses e) (sym z) refl
      by (no_meaning n z) = subst (MeantType uses e) (sym z) tt
