-- The names of a shared program's symbols and of what they mean are UTF-8.
use Rattle.std.proofs.Common.{◌≡◌, ℕ, ◌+◌, List, [], ◌∷◌, refl, sym, ap, ◌∙◌, subst, inl, inr, ⊎_elim, Option, Some, None, Bool, true, false, arith}
use Rattle.std.specs.Prelude.{◌⊎◌, IsUtf8, codes, cond, filter, flat_map, unwrap_or, option_map, nat_lt, ◌||◌, not}
use Rattle.std.specs.List.{list_all}
use Rattle.std.proofs.lemmas.Bool.{and_parts}
use Rattle.list_places.specs.Has.{Has}
use Rattle.list_places.proofs.Lists.{has_at, has_filter, has_flat, has_either, all_has, some_is}
use Rattle.wl_base.specs.Choice.{first_some, given}
use Rattle.wasm_types.specs.declared.import.Import.{Import}
use Rattle.linking_section.specs.declared.symbol.Symbol.{Symbol}
use Rattle.linking_section.specs.declared.symbol.SymbolKind.{SymbolKind}
use Rattle.linking_section.specs.declared.symbol.SymbolKind.TheVariants.{Function, Datum, GlobalVar, Section, Table}
use Rattle.linking_section.specs.Flags.{is_explicit}
use Rattle.object_file.specs.declared.object.Object.{Object}
use Rattle.object_file.specs.Spellable.{IsSpellable, IsName, IsImport, IsSymbol as SymbolFits}
use Rattle.made_symbols.specs.Made.{MadeSymbol, made}
use Rattle.made_symbols.specs.declared.mode.Mode.TheVariants.{Shared}
use Rattle.name_rules.specs.Entries.{InputSymbol, ImportKey, SymbolType, is_kind, is_entry, name_of, is_named, named, entries, symbols_of, import_in, type_in, key_of, made_from}
use Rattle.name_rules.specs.Meanings.{Meaning, here, imported, null, nothing, Uses, meaning, by_rules, own_meaning, least, least_import, references, where_given, is_called, is_address, cell_of}
use Rattle.link_runs.proofs.link_facts_lemmas.Symbols.{is_symbol}
use Rattle.link_runs.proofs.link_facts_lemmas.Meant.{import_has, given_import}
use Rattle.link_runs.proofs.Given.{low_name, name_or}
use Rattle.shared_module.specs.Fit.{IsNamed}

-- ---- the linker's own

made_named : (place : ℕ) (ms : List MadeSymbol) → list_all (λ m. list_all (λ b. nat_lt b 128) m.name) ms ≡ true → (e : InputSymbol) → Has (made_from place ms) e → IsUtf8 (name_of e)
made_named place [] a e h = absurd h
made_named place (m ∷ ms) a e (inl q) = subst (λ (w : InputSymbol). IsUtf8 (name_of w)) q (low_name m.name (and_parts (list_all (λ b. nat_lt b 128) m.name) (list_all (λ m. list_all (λ b. nat_lt b 128) m.name) ms) a).0)
made_named place (m ∷ ms) a e (inr h) = made_named (place + 1) ms (and_parts (list_all (λ b. nat_lt b 128) m.name) (list_all (λ m. list_all (λ b. nat_lt b 128) m.name) ms) a).1 e h

made_no_import : (place : ℕ) (ms : List MadeSymbol) (e : InputSymbol) → Has (made_from place ms) e → e.import ≡ None
made_no_import place [] e h = absurd h
made_no_import place (m ∷ ms) e (inl q) = sym (ap (λ (w : InputSymbol). w.import) q)
made_no_import place (m ∷ ms) e (inr h) = made_no_import (place + 1) ms e h

made_ascii : list_all (λ m. list_all (λ b. nat_lt b 128) m.name) (made Shared) ≡ true
made_ascii = refl

-- ---- cells of foreign addresses

pub cell_named : (e : InputSymbol) → IsUtf8 (name_of e) → IsNamed (cell_of e)
cell_named e h = (by (is_kind Function e), h)
  where
    by : (b : Bool) → IsUtf8 (cond b (codes "GOT.func") (codes "GOT.mem"))
    by true = low_name (codes "GOT.func") refl
    by false = low_name (codes "GOT.mem") refl

-- ---- imports of objects

maybe_name : (o : Option (List ℕ)) → IsName o → IsUtf8 (unwrap_or o [])
maybe_name None h = name_or None tt
maybe_name (Some n) h = h

keyed : (type : SymbolType) (o : Option Import) (k : ImportKey) → ((i : Import) → o ≡ Some i → IsImport i) → option_map (key_of type) o ≡ Some k → IsNamed k
keyed type None k h e = absurd (grind arith)
keyed type (Some i) k h e = let f = h i refl in subst IsNamed (some_is (key_of type i) k e) (f.from, f.field)

import_fits : (o : Object) → IsSpellable o → (s : Symbol) (kind : SymbolKind) (i : Import) → import_in o s kind ≡ Some i → IsImport i
import_fits o f s Function i e = all_has IsImport o.imports f.imports i (has_filter _ o.imports i (has_at _ s.index i e)).0
import_fits o f s Datum i e = absurd (grind arith)
import_fits o f s GlobalVar i e = all_has IsImport o.imports f.imports i (has_filter _ o.imports i (has_at _ s.index i e)).0
import_fits o f s Section i e = absurd (grind arith)
import_fits o f s Table i e = all_has IsImport o.imports f.imports i (has_filter _ o.imports i (has_at _ s.index i e)).0

-- ---- what a symbol means

abbrev pub IsNamedMeaning : Meaning → Type 0
IsNamedMeaning (here d) = Unit {0}
IsNamedMeaning (imported k) = IsNamed k
IsNamedMeaning null = Unit {0}
IsNamedMeaning nothing = Unit {0}

chosen : (a : Option InputSymbol) (b c : Option ImportKey) (g : Bool) (k : ImportKey) → ((j : ImportKey) → b ≡ Some j → IsNamed j) → ((j : ImportKey) → c ≡ Some j → IsNamed j) → IsNamed k
    → IsNamedMeaning (unwrap_or (first_some (option_map here a ∷ option_map imported b ∷ option_map imported c ∷ given g (imported k) ∷ [])) nothing)
chosen (Some d) b c g k fb fc fk = tt
chosen None (Some j) c g k fb fc fk = fb j refl
chosen None None (Some j) g k fb fc fk = fc j refl
chosen None None None true k fb fc fk = fk
chosen None None None false k fb fc fk = tt

module _ (uses : Uses) (allow : Bool) (objects : List Object) (are : (o : Object) → Has objects o → IsSpellable o) where
  abbrev es : List InputSymbol
  es = entries Shared objects

  pub symbol_named : (o : Object) → Has objects o → (e : InputSymbol) → Has (symbols_of objects o) e → IsUtf8 (name_of e)
  symbol_named o ho e h =
      let s = is_symbol objects o e h in
      subst (λ (w : InputSymbol). IsUtf8 (name_of w)) (sym s.is) (maybe_name s.symbol.name (all_has SymbolFits o.symbols (are o ho).symbols s.symbol (has_at o.symbols s.place s.symbol s.there)).name)

  symbol_import : (o : Object) → Has objects o → (e : InputSymbol) → Has (symbols_of objects o) e → (k : ImportKey) → e.import ≡ Some k → IsNamed k
  symbol_import o ho e h k q =
      let s = is_symbol objects o e h in
      keyed (type_in o s.symbol s.symbol.kind) (import_in o s.symbol s.symbol.kind) k (import_fits o (are o ho) s.symbol s.symbol.kind) (sym (ap (λ (w : InputSymbol). w.import) s.is) ∙ q)

  pub entry_named : (e : InputSymbol) → Has es e → IsUtf8 (name_of e)
  unfolding entries
  entry_named e h =
      ⊎_elim (made_named 0 (made Shared) made_ascii e)
      (λ b. let f = has_filter is_entry (flat_map (symbols_of objects) objects) e b in
      let o = has_flat (symbols_of objects) objects e f.0 in symbol_named o.0 o.1 e o.2)
      (has_either (made_from 0 (made Shared)) (filter is_entry (flat_map (symbols_of objects) objects)) e h)

  entry_import : (e : InputSymbol) → Has es e → (k : ImportKey) → e.import ≡ Some k → IsNamed k
  unfolding entries
  entry_import e h k q =
      ⊎_elim (λ a. absurd (let n : None ≡ Some k = sym (made_no_import 0 (made Shared) e a) ∙ q in grind arith))
      (λ b. let f = has_filter is_entry (flat_map (symbols_of objects) objects) e b in
      let o = has_flat (symbols_of objects) objects e f.0 in symbol_import o.0 o.1 e o.2 k q)
      (has_either (made_from 0 (made Shared)) (filter is_entry (flat_map (symbols_of objects) objects)) e h)

  -- an import of the entries of a name
  reference_import : (name : List ℕ) (r : InputSymbol) → Has (references (named es name)) r → (k : ImportKey) → r.import ≡ Some k → IsNamed k
  reference_import name r h k q = entry_import r (has_filter (is_named name) es r (has_filter (λ (x : InputSymbol). not x.defines) (named es name) r h).0).0 k q

  by_rules_named : (e : InputSymbol) → IsUtf8 (name_of e) → IsNamedMeaning (by_rules Shared uses allow (named es (name_of e)) e)
  by_rules_named e n =
      let ns = named es (name_of e) in
      chosen (least (filter (λ d. d.defines) ns)) (least_import (filter (λ r. is_explicit r.symbol) (references ns)))
      (where_given (is_called uses e || is_kind GlobalVar e) (least_import (references ns))) (is_address uses e) (cell_of e)
      (λ k q. let r = import_has (filter (λ r. is_explicit r.symbol) (references ns)) k q in reference_import (name_of e) r.0 (has_filter (λ (x : InputSymbol). is_explicit x.symbol) (references ns) r.0 r.1).0 k r.2)
      (λ k q. let r = import_has (references ns) k (given_import (is_called uses e || is_kind GlobalVar e) (least_import (references ns)) k q) in reference_import (name_of e) r.0 r.1 k r.2)
      (cell_named e n)

  pub meaning_named : (e : InputSymbol) → IsUtf8 (name_of e) → IsNamedMeaning (meaning Shared uses allow es e)
  meaning_named e n = by_entry (is_entry e)
    where
      own : (b : Bool) → IsNamedMeaning (cond b (here e) nothing)
      own true = tt
      own false = tt

      by_entry : (b : Bool) → IsNamedMeaning (cond b (by_rules Shared uses allow (named es (name_of e)) e) (own_meaning e))
      by_entry true = by_rules_named e n
      by_entry false = own e.defines
