-- References of the run: each stands on an import, and those to data on none; and the one object's groups are the run's.
use Rattle.std.proofs.Common.{◌≡◌, ℕ, ◌<◌, ◌==◌, true, false, not, ◌&&◌, List, ◌++◌, ⊎_elim, refl, sym, ap, ◌∙◌, subst, arith}
use Rattle.std.specs.Prelude.{Option, Some, None, option_map, flat_map, is_some, All, length}
use Rattle.std.proofs.lemmas.Bool.Decides.{nat_tests}
use Rattle.std.proofs.lemmas.Bool.{eqb-true}
use Rattle.std.proofs.lemmas.Option.{slice_get_cases}
use Rattle.list_places.specs.Has.{Has}
use Rattle.list_places.proofs.Lists.{all_has, has_flat, has_left, has_right}
use Rattle.object_rules.specs.Symbols.{is_section}
use Rattle.name_rules.specs.object_file.wasm_types.declared.import.Import.{Import}
use Rattle.name_rules.specs.object_file.linking_section.declared.symbol.Symbol.{Symbol}
use Rattle.name_rules.specs.object_file.linking_section.declared.symbol.SymbolKind.{SymbolKind}
use Rattle.name_rules.specs.object_file.linking_section.declared.symbol.SymbolKind.TheVariants.{Function, Datum, GlobalVar, Section, Table}
use Rattle.name_rules.specs.object_file.linking_section.Flags.{kind_code, is_undefined, is_local_definition}
use Rattle.name_rules.specs.object_file.declared.object.Object.{Object}
use Rattle.name_rules.specs.object_file.Spaces.{function_imports, global_imports, table_imports}
use Rattle.object_file.specs.Sound.{Sound, NamesInRange}
use Rattle.name_rules.specs.Entries.{InputSymbol, SymbolType, is_kind, is_entry, type_in, import_in, key_of, entry_in, has_group, symbols_of}
use Rattle.partial_laws.specs.Inputs.{Run, Objects, as_input, alone, whole_objects, run_objects}
use Rattle.partial_laws.specs.Names.{Refer}
use Rattle.partial_laws.proofs.Instance.{all_from_has}
use Rattle.partial_laws.proofs.Lists.{any_of_map}
use Rattle.partial_parts_laws.specs.SymbolsBack.{AreNamed}
use Rattle.partial_parts_laws.specs.RunBack.{RunsRefer, RunsGroups}
use Rattle.partial_parts_laws.proofs.GroupsBack.{groups_are_read}
use Rattle.partial_parts_laws.proofs.Referred.{kinds_equal}
use Rattle.partial_parts_laws.proofs.Symbols.{symbol_of}

no_true : false ≡ true → ⊥
no_true e = absurd cc

some_mapped : (t : SymbolType) (o : Option Import) → is_some o ≡ true → is_some (option_map (key_of t) o) ≡ true
some_mapped t None e = e
some_mapped t (Some i) e = refl

-- an undefined symbol's index is an import's
import_there : (o : Object) (s : Symbol) (k : SymbolKind) → NamesInRange o s k → is_undefined s ≡ true → (k ≡ Datum → ⊥) → (k ≡ Section → ⊥) → is_some (import_in o s k) ≡ true
import_there o s Function named undefined datum section =
    let low : s.index < length (function_imports o) = grind (arith, nat_tests, named.1, undefined) in
    ⊎_elim (λ f. ap is_some f.2) (λ past. absurd (omega (arith, low, past.0))) (slice_get_cases (function_imports o) s.index).1
import_there o s Datum named undefined datum section = absurd (datum refl)
import_there o s GlobalVar named undefined datum section =
    let low : s.index < length (global_imports o) = grind (arith, nat_tests, named.1, undefined) in
    ⊎_elim (λ f. ap is_some f.2) (λ past. absurd (omega (arith, low, past.0))) (slice_get_cases (global_imports o) s.index).1
import_there o s Section named undefined datum section = absurd (section refl)
import_there o s Table named undefined datum section = ⊎_elim (λ f. ap is_some f.2) (λ past. absurd (omega (arith, named.0, past.0))) (slice_get_cases (table_imports o) s.index).1

module _ (run : Run) (os : Objects) (sound : All (λ (o : Object). (size : ℕ) × Sound size o) (whole_objects os)) (names : All AreNamed os.middle) where
  abbrev W : List Object
  W = whole_objects os

  abbrev M : List InputSymbol
  M = flat_map (symbols_of W) os.middle

  abbrev OnImport : InputSymbol → Type 0
  OnImport e = is_entry e ≡ true → is_undefined e.symbol ≡ true → is_kind Datum e ≡ false → is_some e.import ≡ true

  by_symbol : (o : Object) → Has os.middle o → (place : ℕ) (s : Symbol) → Has o.symbols s → OnImport (entry_in W o place s)
  by_symbol o ho place s hs entry undefined kind =
      some_mapped (type_in o s s.kind) (import_in o s s.kind)
      (import_there o s s.kind named undefined (λ e. no_true (sym kind ∙ ap (λ k. kind_code k == kind_code Datum) e)) (λ e. no_true (sym (nameless e) ∙ entry)))
    where
      named : NamesInRange o s s.kind
      named =
          let so = all_has (λ (x : Object). (size : ℕ) × Sound size x) W sound o (has_right os.before (os.middle ++ os.behind) o (has_left os.middle os.behind o ho)) in
          let it : Sound so.0 o = so.1 in
          all_has (λ (x : Symbol). NamesInRange o x x.kind) o.symbols it.symbols s hs

      nameless : s.kind ≡ Section → (is_some s.name && not (is_local_definition s)) ≡ false
      nameless e =
          let none = all_has (λ (x : Symbol). is_section x.kind ≡ true → x.name ≡ None) o.symbols (all_has AreNamed os.middle names o ho).sections s hs (ap is_section e) in
          ap (λ (n : Option (List ℕ)). is_some n && not (is_local_definition s)) none

  on_import : (e : InputSymbol) → Has M e → OnImport e
  on_import e has =
      let f = has_flat (symbols_of W) os.middle e has in
      let y = symbol_of W f.0 e f.2 in
      subst OnImport y.is (by_symbol f.0 f.1 y.place y.symbol y.there)

  no_import : (e : InputSymbol) → Has M e → is_kind Datum e ≡ true → e.import ≡ None
  no_import e has =
      let f = has_flat (symbols_of W) os.middle e has in
      let y = symbol_of W f.0 e f.2 in
      subst (λ (x : InputSymbol). is_kind Datum x ≡ true → x.import ≡ None) y.is
      (λ kind. ap (λ k. option_map (key_of (type_in f.0 y.symbol y.symbol.kind)) (import_in f.0 y.symbol k)) (kinds_equal y.symbol.kind Datum (eqb-true (kind_code y.symbol.kind) (kind_code Datum) kind)))

  refers : Refer run os
  refers = record {
    on_import = all_from_has (λ (e : InputSymbol). is_entry e ≡ true → is_undefined e.symbol ≡ true → is_kind Datum e ≡ false → is_some e.import ≡ true) M on_import;
    no_import = all_from_has (λ (e : InputSymbol). is_kind Datum e ≡ true → e.import ≡ None) M no_import;
  }

pub runs_refer : RunsRefer
runs_refer run os sound names = refers run os sound names

pub runs_groups : RunsGroups
runs_groups run os ls rise codes input it name =
    ap (has_group name) it ∙ (groups_are_read ls.run_alone (run_objects run os) rise codes input name ∙ any_of_map (λ (o : Object). as_input (alone run o.input) o) (has_group name) os.middle)
