-- What the function of a shared output makes right when it is loaded, and what its loader is told (DynamicLinking.md).
use Rattle.std.specs.Prelude.{ℕ, ◌+◌, max, Bool, true, false, ◌==◌, List, [], ◌∷◌, ◌++◌, map, filter, filter_map, flat_map, if◌then◌else◌, Option, Some, None, pos, ◌+ℤ◌}
use Rattle.std.specs.List.{list_any, list_all}
use Rattle.name_rules.specs.object_file.linking_section.declared.symbol.SymbolKind.TheVariants.{Function}
use Rattle.name_rules.specs.object_file.linking_section.Flags.{is_weak}
use Rattle.name_rules.specs.object_file.reloc_section.declared.kinds.TheConstants as relocs
use Rattle.made_symbols.specs.declared.mode.Mode.{Mode}
use Rattle.name_rules.specs.Entries.{InputSymbol, ImportKey, is_kind, named, name_of, same_import}
use Rattle.reloc_apply.specs.Windows.{bits32}
use Rattle.dylink_out.specs.declared.dylink.Dylink.{Dylink}
use Rattle.dylink_out.specs.declared.dylink.ImportInfo.{ImportInfo}
use Rattle.dylink_out.specs.declared.word.WordReloc.{WordReloc}
use Rattle.dylink_out.specs.declared.word.WordPlace.TheVariants.{Window as WindowAt, Got}
use Rattle.dylink_out.specs.declared.word.WordValue.{WordValue}
use Rattle.dylink_out.specs.declared.word.WordValue.TheVariants.{OwnDatum, OwnFunction, ForeignDatum, ForeignFunction}
use Rattle.link_rules.specs.Program.{Program, Part, Ref, refs}
use Rattle.link_rules.specs.Marks.{refs_of, is_foreign}
use Rattle.link_rules.specs.Keys.{FunctionKey, GlobalKey, GotKey, got_entry, got_import, got_null, outside, linker_function, stub, own, outside_global, linker_global, own_global, got, exported_datum, cell_key, global_number, import_of, imports_by, foreign_cell}
use Rattle.link_rules.specs.Values.{Layout, segments, solid_segments, slot_count, segment_address, got_value, meant_address, ref_slot, content_align}

abbrev pub greatest : List ℕ → ℕ
greatest [] = 0
greatest (n ∷ ns) = max n (greatest ns)

module _ (mode : Mode) (p : Program) (parts : List Part) (l : Layout) where
  -- ---- words: each window of live data by rising offset, then each own cell of an address by rising number

  abbrev pub cell_number : Ref → ℕ
  cell_number ref = global_number l.numbers (cell_key mode ref)

  -- A slot of the link's own function, or an address of its own datum and the addend.
  abbrev pub own_value : Ref → WordValue
  own_value ref = if ref.kind == relocs.TABLE_INDEX_I32 then OwnFunction (ref_slot l ref) else OwnDatum (bits32 (pos (meant_address mode l ref.meaning) +ℤ ref.addend))

  -- What a foreign symbol's cell holds, and for an address the addend.
  abbrev pub foreign_value : Ref → WordValue
  foreign_value ref = if ref.kind == relocs.TABLE_INDEX_I32 then ForeignFunction (cell_number ref) else ForeignDatum (cell_number ref) ref.addend

  abbrev pub window_word : ℕ → Ref → WordReloc
  window_word address ref = record { to = WindowAt (address + ref.place); value = if is_foreign ref then foreign_value ref else own_value ref }

  abbrev pub segment_words : Part → List WordReloc
  segment_words part = map (window_word (segment_address l part.chunk)) (refs part)

  abbrev pub is_function_got : GotKey → Bool
  is_function_got (got_entry e) = is_kind Function e
  is_function_got (got_import k) = true
  is_function_got (got_null kind) = false

  abbrev pub got_word : GlobalKey → Option WordReloc
  got_word (outside_global k) = None
  got_word (linker_global k) = None
  got_word (own_global input index) = None
  got_word (got key) = Some (record { to = Got (global_number l.numbers (got key)); value = if is_function_got key then OwnFunction (got_value mode l key) else OwnDatum (got_value mode l key) })
  got_word (exported_datum e) = None

  -- All words that are stored when the module is loaded.
  abbrev pub words : List WordReloc
  words = flat_map segment_words (solid_segments p parts) ++ filter_map got_word l.numbers.globals

  -- ---- imports that may be absent: those that live parts use by a name of which all references are WEAK

  abbrev pub is_weak_name : InputSymbol → Bool
  is_weak_name e = list_all (λ f. is_weak f.symbol) (named p.entries (name_of e))

  -- The import that a reference uses: the function that it calls or the global that it names, or the cell of an address.
  abbrev pub import_taken : Ref → Option ImportKey
  import_taken ref = if imports_by mode ref then import_of ref.meaning else foreign_cell ref

  abbrev pub weak_imports : List ImportKey
  weak_imports = filter_map import_taken (filter (λ ref. is_weak_name ref.entry) (refs_of parts))

  abbrev pub function_key_import : FunctionKey → Option ImportKey
  function_key_import (outside k) = Some k
  function_key_import (linker_function k) = None
  function_key_import (stub name) = None
  function_key_import (own input index) = None

  abbrev pub global_key_import : GlobalKey → Option ImportKey
  global_key_import (outside_global k) = Some k
  global_key_import (linker_global k) = None
  global_key_import (own_global input index) = None
  global_key_import (got key) = None
  global_key_import (exported_datum e) = None

  abbrev pub import_infos : List ImportInfo
  import_infos = map (λ k. record { «module» = k.module_name; field = k.field; flags = 1 })
      (filter (λ k. list_any (same_import k) weak_imports)
      (filter_map function_key_import l.numbers.functions ++ filter_map global_key_import l.numbers.globals))

  -- ---- the section dylink.0

  -- The memory is the data's bytes, aligned as the segment of greatest alignment; the table is the slots.
  abbrev pub dylink : Dylink
  dylink = record {
    memory_size = l.places.data_end;
    memory_align = greatest (map (λ part. content_align part.content) (segments parts));
    table_size = slot_count l;
    table_align = 0;
    needed = [];
    exports = [];
    imports = import_infos;
  }
