-- The imports of a program's relocatable object may stand there: one memory, and one table, for the first symbol of a table.
use Rattle.std.proofs.Common.{◌≡◌, true, false, not, ◌&&◌, List, [], ◌∷◌, map, inl, inr, refl, sym, ap, ◌∙◌, subst}
use Rattle.std.specs.Prelude.{Option, Some, None, find, codes, All}
use Rattle.std.proofs.lemmas.Bool.{and_parts, and_from}
use Rattle.list_places.specs.Has.{Has, Apart}
use Rattle.list_places.proofs.Lists.{apart_filter, has_filter}
use Rattle.object_rules.specs.object_parts.declared.imports.Seen.{Seen}
use Rattle.object_rules.specs.object_parts.Imports.{names_table, IsTaken, seen_import, none_seen}
use Rattle.name_rules.specs.object_file.wasm_types.declared.import.Import.{Import}
use Rattle.name_rules.specs.object_file.linking_section.declared.symbol.SymbolKind.{SymbolKind}
use Rattle.name_rules.specs.object_file.linking_section.declared.symbol.SymbolKind.TheVariants.{Function, Datum, GlobalVar, Section, Table}
use Rattle.name_rules.specs.object_file.declared.object.Object.{Object}
use Rattle.name_rules.specs.Entries.{InputSymbol, SymbolType, of_function, of_global, untyped, is_kind, same_entry}
use Rattle.link_rules.specs.Program.{Program, is_that}
use Rattle.partial_rules.specs.Partial.{standing, is_open, open_import, has_import, importing, import_kind, import_for, imports}
use Rattle.partial_rules.specs.WellFormed.{AreTaken}
use Rattle.partial_laws.proofs.Regions.{entries_follow, entries_turned}
use Rattle.partial_parts_laws.specs.Linked.{Linked, program}
use Rattle.partial_parts_laws.specs.ReadBack.{AreLinked}
use Rattle.partial_parts_laws.specs.SymbolsBack.{AreNamed}
use Rattle.partial_parts_laws.specs.GroupsBack.{ImportsAreTaken}
use Rattle.partial_parts_laws.proofs.Imported.{TypeFor, standing_typed, open_type}
use Rattle.partial_parts_laws.proofs.StandingSymbols.{of_objects, apart, table_import}

no_true : false ≡ true → ⊥
no_true e = absurd cc

module _ (l : Linked) (objects : List Object) (is : AreLinked l objects) (names : All AreNamed objects) where
  abbrev p : Program
  p = program l objects

  abbrev made : InputSymbol → Import
  made e = import_for p (open_import p e)

  -- an open symbol that is imported, and how
  record Imported (e : InputSymbol) : Type 0 where
    there : Has (standing p) e
    opened : is_open p e ≡ true
    has_one : has_import p e e.symbol.kind ≡ true
    typed : TypeFor e.symbol.kind (open_import p e).type

  imported : (e : InputSymbol) → Has (importing p) e → Imported e
  imported e has =
      let f = has_filter (λ y. is_open p y && has_import p y y.symbol.kind) (standing p) e has in
      let both = and_parts (is_open p e) (has_import p e e.symbol.kind) f.1 in
      record {
        there = f.0;
        opened = both.0;
        has_one = both.1;
        typed = subst (TypeFor e.symbol.kind) (sym (open_type p objects (of_objects l objects is names) is.no_clash e f.0 both.0)) (standing_typed p objects (of_objects l objects is names) is.no_clash e f.0).typed;
      }

  table_of : (e : InputSymbol) → (k : SymbolKind) → TypeFor k untyped → has_import p e k ≡ true → k ≡ Table
  table_of e Function typed has_one = absurd typed
  table_of e Datum typed has_one = absurd (no_true has_one)
  table_of e GlobalVar typed has_one = absurd typed
  table_of e Section typed has_one = absurd (no_true has_one)
  table_of e Table typed has_one = refl

  -- behind a table there is none, nor does one that isn't a table change what was seen
  taken_behind : (seen : Seen) (xs : List InputSymbol) → ((e : InputSymbol) → Has xs e → Imported e) → ((e : InputSymbol) → Has xs e → e.symbol.kind ≡ Table → ⊥) → AreTaken seen (map made xs)
  taken_behind seen [] each none = tt
  taken_behind seen (e ∷ xs) each none =
      let it = each e (inl refl) in
      by_type (open_import p e).type it.typed (taken_behind seen xs (λ y h. each y (inr h)) (λ y h. none y (inr h)))
    where
      by_type : (t : SymbolType) → TypeFor e.symbol.kind t → AreTaken seen (map made xs)
          → IsTaken seen (open_import p e).module_name (open_import p e).field (import_kind p t) × AreTaken (seen_import seen (record { «module» = (open_import p e).module_name; field = (open_import p e).field; kind = import_kind p t })) (map made xs)
      by_type (of_function t) typed rest = (tt, rest)
      by_type (of_global g) typed rest = (tt, rest)
      by_type untyped typed rest = absurd (none e (inl refl) (table_of e e.symbol.kind typed (each e (inl refl)).has_one))

  table_named : (e : InputSymbol) → Imported e → e.symbol.kind ≡ Table → names_table (open_import p e).module_name (open_import p e).field ≡ true
  table_named e it kind =
      let t = table_import l objects is names e it.there it.opened kind in
      let from : (open_import p e).module_name ≡ codes "env" = t.0 in
      let field : (open_import p e).field ≡ codes "__indirect_function_table" = t.1 in
      (λ i. names_table (from i) (field i)) ∙ refl

  -- the symbol of a table that is imported is the first
  first_table : (e : InputSymbol) → Imported e → e.symbol.kind ≡ Table → is_that e (find (is_kind Table) (standing p)) ≡ true
  first_table e it kind = sym (ap (has_import p e) kind) ∙ it.has_one

  one_table : (a b : InputSymbol) (o : Option InputSymbol) → is_that a o ≡ true → is_that b o ≡ true → same_entry a b ≡ true
  one_table a b None ha hb = absurd (no_true ha)
  one_table a b (Some w) ha hb = entries_follow a w b ha (entries_turned w b ∙ hb)

  taken : (seen : Seen) → seen.table ≡ false → (xs : List InputSymbol) → Apart same_entry xs → ((e : InputSymbol) → Has xs e → Imported e) → AreTaken seen (map made xs)
  taken seen free [] differ each = tt
  taken seen free (e ∷ xs) differ each = by_type (open_import p e).type (each e (inl refl)).typed (taken seen free xs differ.1 (λ y h. each y (inr h)))
    where
      by_type : (t : SymbolType) → TypeFor e.symbol.kind t → AreTaken seen (map made xs)
          → IsTaken seen (open_import p e).module_name (open_import p e).field (import_kind p t) × AreTaken (seen_import seen (record { «module» = (open_import p e).module_name; field = (open_import p e).field; kind = import_kind p t })) (map made xs)
      by_type (of_function t) typed rest = (tt, rest)
      by_type (of_global g) typed rest = (tt, rest)
      by_type untyped typed rest =
          let it = each e (inl refl) in
          let kind : e.symbol.kind ≡ Table = table_of e e.symbol.kind typed it.has_one in (
            (and_from (names_table (open_import p e).module_name (open_import p e).field) (not seen.table) (table_named e it kind) (ap not free), refl),
            taken_behind (record { table = true; memory = seen.memory }) xs (λ y h. each y (inr h))
                (λ y h of_table. differ.0 y h (one_table e y (find (is_kind Table) (standing p)) (first_table e it kind) (first_table y (each y (inr h)) of_table))),
          )

  all_taken : AreTaken none_seen (imports p)
  all_taken = (refl, taken (record { table = false; memory = true }) refl (importing p) (apart_filter same_entry (λ y. is_open p y && has_import p y y.symbol.kind) (standing p) (apart l objects is names)) imported)

pub imports_are_taken : ImportsAreTaken
imports_are_taken l objects is names = all_taken l objects is names
