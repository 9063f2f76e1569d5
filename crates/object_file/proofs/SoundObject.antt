-- An object that was read is sound.
use Rattle.std.proofs.Common.{◌≡◌, ℕ, ◌+◌, ◌^◌, ◌<◌, ◌≤◌, ◌⊎◌, inl, inr, Bool, true, false, cond, eqb, not, List, [], ◌∷◌, ◌++◌, length, map, get_or, refl, sym, ap, subst, ◌∙◌, Option, Some, None, Ok, arith}
use Rattle.std.specs.Prelude.{All, nat_lt, nat_le, is_some, IsTrue, slice_get, ◌&&◌, ◌||◌, nat_eq, option_map, filter_map, flat_map}
use Rattle.std.specs.List.{list_all, prefix_len, cons_option}
use Rattle.std.proofs.lemmas.Bool.{and_parts, or_cases, ltb-true, leb-true, eqb-true, eq-eqb, ne_eqb}
use Rattle.std.proofs.lemmas.List.Elements.{All-map, All-weaker, All-take}
use Rattle.std.proofs.lemmas.List.Sums.{AllPass-from_list_all}
use Rattle.object_rules.specs.wasm_types.declared.import.ImportKind.{ImportKind}
use Rattle.object_rules.specs.wasm_types.declared.import.ImportKind.TheVariants as kinds
use Rattle.object_rules.specs.wasm_sections.declared.section.SectionSpan.{SectionSpan}
use Rattle.object_rules.specs.linking_section.declared.symbol.Symbol.{Symbol}
use Rattle.object_rules.specs.linking_section.declared.symbol.SymbolKind.{SymbolKind}
use Rattle.object_rules.specs.linking_section.declared.symbol.SymbolKind.TheVariants.{Function, Datum, GlobalVar, Section, Table}
use Rattle.object_rules.specs.linking_section.declared.linking.Linking.{Linking}
use Rattle.object_rules.specs.linking_section.Linking.{SpellsSymbol}
use Rattle.object_rules.specs.object_parts.declared.parts.Parts.{Parts}
use Rattle.object_rules.specs.object_parts.Reading.{code_relocs}
use Rattle.object_rules.specs.object_parts.Spans.{LiesIn, LieIn}
use Rattle.object_columns.specs.declared.segments.SegmentDef.{SegmentDef}
use Rattle.object_rules.specs.Spaces.{counts_of, imports_of}
use Rattle.object_rules.specs.Spaces as rules
use Rattle.object_rules.specs.Metadata.{is_function_kind, is_plain_at, is_init, member_key, member_stands}
use Rattle.std.specs.Str.{bytes_eq}
use Rattle.std.proofs.lemmas.List.{map-append}
use Rattle.object_rules.specs.linking_section.declared.group.Member.{Member}
use Rattle.object_rules.specs.linking_section.declared.group.Group.{Group}
use Rattle.object_rules.specs.linking_section.Linking.{is_member_kind}
use Rattle.object_file.specs.Spaces.{function_types, written_type, defined_type}
use Rattle.object_rules.specs.Indexes.{count_is, import_in_range, export_in_range, element_in_range, segment_in_range}
use Rattle.object_rules.specs.Symbols.{is_section, is_seen, seen_name, symbol_stands, name_of}
use Rattle.object_rules.specs.Differ.{all_differ}
use Rattle.object_rules.specs.Relocs.{target_stands, windows_lie, may_name, is_table_name, names_symbol, entry_stands}
use Rattle.object_rules.specs.Windows.{start_of, relocs_for, in_segment, data_windows_stand, code_windows_stand, is_placed, is_covered, is_set_or_read}
use Rattle.object_rules.specs.object_parts.declared.parts.DataPart.{DataPart}
use Rattle.object_rules.specs.object_parts.Code.{begins_before, before, base_in, end_in}
use Rattle.object_rules.specs.reloc_section.declared.entry.Reloc.{Reloc}
use Rattle.std.proofs.lemmas.Option.{slice_get-map}
use Rattle.object_file.proofs.Windowed.{AreApart, windows_in_place, segments_all}
use Rattle.object_file.proofs.Targets.{for_all, data_apart, code_relocs_are}
use Rattle.object_file.proofs.Operated.{IsOfCode, operands_stand_in, operands_all}
use Rattle.object_rules.specs.body_windows.declared.immediate.Immediate.{Immediate}
use Rattle.object_rules.specs.body_windows.declared.operand.Operand.TheVariants as operands
use Rattle.object_rules.specs.body_windows.Immediates.{operand_of}
use Rattle.object_rules.specs.body_windows.Operands.{StandIn}
use Rattle.object_file.specs.declared.object.Object.{Object}
use Rattle.object_file.specs.Objects.{window_from, with_name, linking_of, object_with, object_from}
use Rattle.object_file.specs.ObjectOf.{IsObject}
use Rattle.object_file.specs.Sound.{function_count, global_count, TypeInRange, EndsIn, NamesInRange, is_code_type, IsNamedBy, OperandNames, WindowNames, WindowsStandIn, IsInit, MemberStands, NamesDiffer, Sound}
use Rattle.object_rules.proofs.object_parts_lemmas.Lying.{parts_lie}
use Rattle.object_rules.proofs.object_parts_lemmas.Sections.{parts_again}
use Rattle.object_file.specs.Bodies.{BodyStands}
use Rattle.object_file.proofs.Standing.{made_stands}
use Rattle.object_file.proofs.Agreed.{Keeps, agreed_keeps}
use Rattle.object_file.proofs.Framed.{frame_fits}
use Rattle.object_file.proofs.Told.{BodyTold, LinkingTold, Told, parts_told}
use Rattle.object_file.proofs.Named.{NamesImport, symbol_named, symbols_spelled, members_spelled}
use Rattle.object_file.proofs.Differing.{same_bytes, one_key, groups_differ, members_differ}
use Rattle.object_file.proofs.Placing.{functions_len, functions_all, segment_spans, segments_aligned, segments_len, imported_types_are, defined_types_are, plain_type, datum_ends, names_one_of, import_of, defined_datum}

module _ (input : ℕ) (all : List SectionSpan) (bytes : List ℕ) (parts : Parts) (l : Linking) (k : Keeps all bytes parts l)
    (lie : LieIn (length bytes) parts) (told : Told (start_of 10 all) bytes (code_relocs all bytes all) parts) (spelled : All (λ s. (text : List ℕ) × SpellsSymbol s text) l.symbols)
    (tie : relocs_for 10 all parts.relocs ≡ code_relocs all bytes all)
    (kinds_known : All (λ g. All (λ m. IsTrue (is_member_kind m.kind)) g.members) l.groups) (short : length bytes ≤ 2 ^ 30) where
  abbrev o : Object
  o = object_with input all parts l

  -- ---- indexes

  equally_many : length parts.functions ≡ length parts.bodies
  equally_many = eqb-true (length parts.functions) (length parts.bodies) (and_parts (eqb (length parts.functions) (length parts.bodies)) (count_is parts.data_count (length parts.segments)) k.counted).0

  abbrev imports_fit : Bool
  imports_fit = list_all (λ i. import_in_range (counts_of all parts) i.kind) parts.imports

  abbrev types_fit : Bool
  types_fit = list_all (λ t. nat_lt t (length parts.types)) parts.functions

  abbrev exports_fit : Bool
  exports_fit = list_all (export_in_range (counts_of all parts)) parts.exports

  abbrev elements_fit : Bool
  elements_fit = list_all (element_in_range (counts_of all parts)) parts.elements

  abbrev segments_fit : Bool
  segments_fit = list_all segment_in_range parts.segments

  front_fits : imports_fit && types_fit ≡ true
  front_fits =
      let four = and_parts (imports_fit && types_fit && exports_fit && elements_fit) segments_fit k.in_range in
      let three = and_parts (imports_fit && types_fit && exports_fit) elements_fit four.0 in
      (and_parts (imports_fit && types_fit) exports_fit three.0).0

  types : All (λ t. t < length parts.types) parts.functions
  types =
      All-weaker (λ t. nat_lt t (length parts.types) ≡ true) (λ t. t < length parts.types) (λ t e. ltb-true t (length parts.types) e) parts.functions
      (AllPass-from_list_all (λ t. nat_lt t (length parts.types)) parts.functions (and_parts imports_fit types_fit front_fits).1)

  imported_types : All (λ i. TypeInRange o i.kind) parts.imports
  imported_types =
      All-weaker (λ i. import_in_range (counts_of all parts) i.kind ≡ true) (λ i. TypeInRange o i.kind) (λ i e. by i.kind e) parts.imports
      (AllPass-from_list_all (λ i. import_in_range (counts_of all parts) i.kind) parts.imports (and_parts imports_fit types_fit front_fits).0)
    where
      by : (kind : ImportKind) → import_in_range (counts_of all parts) kind ≡ true → TypeInRange o kind
      by (kinds.Function t) e = ltb-true t (length parts.types) e
      by (kinds.Table t) e = tt
      by (kinds.Memory m) e = tt
      by (kinds.GlobalVar g) e = tt

  -- ---- symbols

  function_count_is : (counts_of all parts).functions ≡ function_count o
  function_count_is =
      let same : length o.functions ≡ length parts.functions = functions_len parts.exports (counts_of all parts).imported_functions parts.functions parts.bodies equally_many in
      omega (arith, same)

  in_range : (s : Symbol) (kind : SymbolKind) → symbol_stands (counts_of all parts) parts.segments s kind ≡ true → NamesInRange o s kind
  in_range s Function e = names_one_of s (length (imports_of Function parts.imports)) (counts_of all parts).functions (function_count o) function_count_is e
  in_range s Datum e = λ defined.
      datum_ends s (start_of 11 all) (relocs_for 11 all parts.relocs) l.segments parts.segments s.index (defined_datum s (slice_get parts.segments s.index) e defined)
  in_range s GlobalVar e = names_one_of s (length (imports_of GlobalVar parts.imports)) (counts_of all parts).globals (global_count o) refl e
  in_range s Section e = tt
  in_range s Table e = names_one_of s (length (imports_of Table parts.imports)) (length (imports_of Table parts.imports)) (length (imports_of Table parts.imports)) refl e

  each_stands : All (λ s. symbol_stands (counts_of all parts) parts.segments s s.kind ≡ true) l.symbols
  each_stands = AllPass-from_list_all (λ s. symbol_stands (counts_of all parts) parts.segments s s.kind) l.symbols k.symbols

  symbols : All (λ s. NamesInRange o s s.kind) o.symbols
  symbols =
      All-map (λ s. NamesInRange o s s.kind) (with_name parts.imports) l.symbols
      (All-weaker (λ s. symbol_stands (counts_of all parts) parts.segments s s.kind ≡ true) (λ s. NamesInRange o (with_name parts.imports s) s.kind)
      (λ s e. renamed s s.kind (in_range s s.kind e)) l.symbols each_stands)
    where
      -- the name isn't looked at
      renamed : (s : Symbol) (kind : SymbolKind) → NamesInRange o s kind → NamesInRange o (with_name parts.imports s) kind
      renamed s Function n = n
      renamed s Datum n = λ defined. ends (slice_get o.segments s.index) (n defined)
        where
          ends : (found : Option SegmentDef) → (s.index < length o.segments) × EndsIn s found → (s.index < length o.segments) × EndsIn (with_name parts.imports s) found
          ends None h = h
          ends (Some g) h = h
      renamed s GlobalVar n = n
      renamed s Section n = n
      renamed s Table n = n

  names : All (λ s. is_section s.kind ≡ false → IsTrue (is_some s.name)) o.symbols
  names =
      All-map (λ s. is_section s.kind ≡ false → IsTrue (is_some s.name)) (with_name parts.imports) l.symbols
      (λ j d lt. named (get_or l.symbols j d) (spelled j d lt) (each_stands j d lt))
    where
      reference : (s : Symbol) (kind : SymbolKind) → NamesInRange o s kind → NamesImport parts.imports s kind
      reference s Function n = import_of s _ _ n
      reference s Datum n = tt
      reference s GlobalVar n = import_of s _ _ n
      reference s Section n = tt
      reference s Table n = import_of s _ _ n

      named : (s : Symbol) → (text : List ℕ) × SpellsSymbol s text → symbol_stands (counts_of all parts) parts.segments s s.kind ≡ true → is_section s.kind ≡ false → is_some (name_of parts.imports s) ≡ true
      named s t e seen = symbol_named parts.imports s t.0 t.1 (reference s s.kind (in_range s s.kind e)) seen

  -- ---- spans

  bodies : All (λ f. LiesIn (length bytes) f.span) o.functions
  bodies = functions_all (λ t. t < length parts.types) (λ b. LiesIn (length bytes) b.span) (λ f. LiesIn (length bytes) f.span) parts.exports (λ n t b lt in_bytes. in_bytes)
      (counts_of all parts).imported_functions parts.functions parts.bodies types lie.bodies

  type_indexes : All (λ f. f.type_index < length o.types) o.functions
  type_indexes = functions_all (λ t. t < length parts.types) (λ b. LiesIn (length bytes) b.span) (λ f. f.type_index < length o.types) parts.exports (λ n t b lt in_bytes. lt)
      (counts_of all parts).imported_functions parts.functions parts.bodies types lie.bodies

  alignments : All (λ g. g.info.align ≤ 31) o.segments
  alignments = segments_aligned (start_of 11 all) (relocs_for 11 all parts.relocs) l.segments parts.segments
      (All-weaker (λ i. nat_le i.align 31 ≡ true) (λ i. i.align ≤ 31) (λ i e. leb-true i.align 31 e) l.segments
      (AllPass-from_list_all (λ i. nat_le i.align 31) l.segments (and_parts (nat_le (length l.segments) (length parts.segments)) (list_all (λ i. nat_le i.align 31) l.segments) k.infos).1))

  -- ---- windows

  -- a symbol that is named keeps its kind
  named_by : (kind : ℕ) (found : Option Symbol) → eqb kind 6 ≡ false → names_symbol parts.imports kind found ≡ true → IsNamedBy kind (option_map (with_name parts.imports) found)
  named_by kind None other e = absurd cc
  named_by kind (Some s) other e =
      let both = and_parts (may_name kind s.kind) (cond (eqb kind 20) (is_table_name (name_of parts.imports s)) true) e in
      (both.0, λ twenty. subst (λ q. cond q (is_table_name (name_of parts.imports s)) true ≡ true) (eq-eqb kind 20 twenty) both.1)

  symbol_named_by : (kind index : ℕ) → eqb kind 6 ≡ false → names_symbol parts.imports kind (slice_get l.symbols index) ≡ true → IsNamedBy kind (slice_get o.symbols index)
  symbol_named_by kind index other e =
      subst (IsNamedBy kind) (sym (slice_get-map (with_name parts.imports) l.symbols index)) (named_by kind (slice_get l.symbols index) other e)

  abbrev Stands : Reloc → Type 0
  Stands r = entry_stands (counts_of all parts) parts.imports l.symbols r ≡ true

  data_window : (start : ℕ) (d : DataPart) (r : Reloc) → in_segment start d.span r ≡ true → Stands r → WindowNames o (window_from (base_in start d.span) r)
  data_window start d r inside e =
      let ends = and_parts ((eqb r.kind 2 || eqb r.kind 5) && nat_le (base_in start d.span) r.offset) (nat_le (r.offset + 4) (end_in start d.span)) inside in
      let begins = and_parts (eqb r.kind 2 || eqb r.kind 5) (nat_le (base_in start d.span) r.offset) ends.0 in
      let other : eqb r.kind 6 ≡ false = not_type r.kind begins.0 in
      (begins.0, symbol_named_by r.kind r.index other (subst (λ q. cond q (nat_lt r.index (length parts.types)) (names_symbol parts.imports r.kind (slice_get l.symbols r.index)) ≡ true) other e))
    where
      not_type : (kind : ℕ) → (eqb kind 2 || eqb kind 5) ≡ true → eqb kind 6 ≡ false
      not_type kind e = by (or_cases (eqb kind 2) (eqb kind 5) e)
        where
          by : (eqb kind 2 ≡ true) ⊎ (eqb kind 5 ≡ true) → eqb kind 6 ≡ false
          by (inl two) = ne_eqb kind 6 (λ six. omega (arith, six, eqb-true kind 2 two))
          by (inr five) = ne_eqb kind 6 (λ six. omega (arith, six, eqb-true kind 5 five))

  data_relocs : All Stands (relocs_for 11 all parts.relocs)
  data_relocs = for_all (entry_stands (counts_of all parts) parts.imports l.symbols) 11 all parts.relocs k.entries

  apart : AreApart (relocs_for 11 all parts.relocs)
  apart = data_apart all parts.relocs (and_parts (list_all (target_stands all) parts.relocs && all_differ nat_eq (map (λ r. r.target) parts.relocs)) (list_all (windows_lie all) parts.relocs) k.targets).1

  data_stands : data_windows_stand (start_of 11 all) (relocs_for 11 all parts.relocs) parts.segments ≡ true
  data_stands = (and_parts (code_windows_stand all bytes parts l.symbols) (data_windows_stand (start_of 11 all) (relocs_for 11 all parts.relocs) parts.segments) k.windows).1

  windows : All (λ g. WindowsStandIn 0 g.span.len g.windows) o.segments
  windows = segments_all Stands (λ g. WindowsStandIn 0 g.span.len g.windows) (start_of 11 all)
      (λ infos d left known a inside. windows_in_place (start_of 11 all) infos d left a inside)
      (relocs_for 11 all parts.relocs) l.segments parts.segments data_relocs apart data_stands

  window_names : All (λ g. All (WindowNames o) g.windows) o.segments
  window_names = segments_all Stands (λ g. All (WindowNames o) g.windows) (start_of 11 all) (λ infos d left known a inside. named (start_of 11 all) d left known inside)
      (relocs_for 11 all parts.relocs) l.segments parts.segments data_relocs apart data_stands
    where
      named : (start : ℕ) (d : DataPart) (left : List Reloc) → All Stands left → list_all (in_segment start d.span) (before (end_in start d.span) left) ≡ true → All (WindowNames o) (map (window_from (base_in start d.span)) (before (end_in start d.span) left))
      named start d left known inside =
          let some : List Reloc = before (end_in start d.span) left in
          All-map (WindowNames o) (window_from (base_in start d.span)) some
          (λ j r lt. data_window start d (get_or some j r) (AllPass-from_list_all (in_segment start d.span) some inside j r lt)
          (All-take Stands (prefix_len (begins_before (end_in start d.span)) left) left known j r lt))

  -- ---- operands

  code_stands : All Stands (code_relocs all bytes all)
  code_stands = subst (All Stands) tie (for_all (entry_stands (counts_of all parts) parts.imports l.symbols) 10 all parts.relocs k.entries)

  operand_named : (i : Immediate) (r : Reloc) → Stands r × IsOfCode r → OperandNames o (operand_of i r)
  operand_named i r known = by (eqb r.kind 6) refl known.0 known.1
    where
      by : (q : Bool) → eqb r.kind 6 ≡ q → cond q (nat_lt r.index (length parts.types)) (names_symbol parts.imports r.kind (slice_get l.symbols r.index)) ≡ true → (q || is_code_type r.kind) ≡ true
          → OperandNames o (cond q (operands.TypeRef i.place r.index) (operands.Symbol r.kind i.place r.index r.addend))
      by true is e code = ltb-true r.index (length parts.types) e
      by false is e code = (code, symbol_named_by r.kind r.index is e)

  operands_in_place : All (λ f. StandIn 0 f.span.len f.operands) o.functions
  operands_in_place = functions_all (λ t. t < length parts.types) (BodyTold (start_of 10 all) bytes (code_relocs all bytes all)) (λ f. StandIn 0 f.span.len f.operands) parts.exports
      (λ n t b lt read. operands_stand_in bytes (code_relocs all bytes all) b read)
      (counts_of all parts).imported_functions parts.functions parts.bodies types told.bodies

  operand_names : All (λ f. All (OperandNames o) f.operands) o.functions
  operand_names = functions_all (λ t. t < length parts.types) (BodyTold (start_of 10 all) bytes (code_relocs all bytes all)) (λ f. All (OperandNames o) f.operands) parts.exports
      (λ n t b lt read. operands_all (OperandNames o) Stands tt tt operand_named bytes (code_relocs all bytes all) b code_stands read)
      (counts_of all parts).imported_functions parts.functions parts.bodies types told.bodies

  -- ---- metadata

  types_are : function_types o ≡ map (written_type o) (rules.function_types parts)
  types_are =
      ap (λ ts. ts ++ map (defined_type o) o.functions) (imported_types_are o parts.imports)
      ∙ ap (λ ts. map (written_type o) (filter_map (λ i. rules.imported_type i.kind) parts.imports) ++ ts) (defined_types_are o parts.exports (counts_of all parts).imported_functions parts.functions parts.bodies equally_many)
      ∙ sym (map-append (written_type o) (filter_map (λ i. rules.imported_type i.kind) parts.imports) parts.functions)

  init_stands : (found : Option Symbol) → is_init parts.types (rules.function_types parts) found ≡ true → IsInit o (option_map (with_name parts.imports) found)
  init_stands None e = absurd cc
  init_stands (Some s) e =
      let both = and_parts (is_function_kind s.kind) (is_plain_at parts.types (slice_get (rules.function_types parts) s.index)) e in
      (both.0, ap (λ ts. slice_get ts s.index) types_are ∙ slice_get-map (written_type o) (rules.function_types parts) s.index ∙ plain_type parts.types (slice_get (rules.function_types parts) s.index) both.1)

  inits : All (λ i. IsInit o (slice_get o.symbols i.symbol)) l.inits
  inits =
      All-weaker (λ i. is_init parts.types (rules.function_types parts) (slice_get l.symbols i.symbol) ≡ true) (λ i. IsInit o (slice_get o.symbols i.symbol))
      (λ i e. subst (IsInit o) (sym (slice_get-map (with_name parts.imports) l.symbols i.symbol)) (init_stands (slice_get l.symbols i.symbol) e)) l.inits
      (AllPass-from_list_all (λ i. is_init parts.types (rules.function_types parts) (slice_get l.symbols i.symbol)) l.inits k.inits)

  abbrev group_names : Bool
  group_names = all_differ bytes_eq (map (λ g. g.name) l.groups)

  abbrev members_there : Bool
  members_there = list_all (λ g. list_all (member_stands (counts_of all parts)) g.members) l.groups

  abbrev members_once : Bool
  members_once = all_differ nat_eq (flat_map (λ g. map member_key g.members) l.groups)

  groups_agree : (group_names ≡ true) × (members_there ≡ true) × (members_once ≡ true)
  groups_agree =
      let last = and_parts (group_names && members_there) members_once k.groups in
      let first = and_parts group_names members_there last.0 in
      (first.0, first.1, last.1)

  member_there : (m : Member) → IsTrue (is_member_kind m.kind) → member_stands (counts_of all parts) m ≡ true → MemberStands o m
  member_there m known e = (
    known,
    λ zero_is.
        let here = subst (λ q. cond q (nat_lt m.index (length parts.segments)) (cond (eqb m.kind 1) inside in_file) ≡ true) (eq-eqb m.kind 0 zero_is) e in
        omega (arith, ltb-true m.index (length parts.segments) here, segments_len (start_of 11 all) (relocs_for 11 all parts.relocs) l.segments parts.segments),
    λ one_is.
        let other = subst (λ q. cond q (nat_lt m.index (length parts.segments)) (cond (eqb m.kind 1) inside in_file) ≡ true) (ne_eqb m.kind 0 (λ z. omega (arith, z, one_is))) e in
        let here = subst (λ q. cond q inside in_file ≡ true) (eq-eqb m.kind 1 one_is) other in
        let both = and_parts (nat_le (counts_of all parts).imported_functions m.index) (nat_lt m.index (counts_of all parts).functions) here in
        (leb-true (counts_of all parts).imported_functions m.index both.0, omega (arith, ltb-true m.index (counts_of all parts).functions both.1, function_count_is)),
  )
    where
      inside : Bool
      inside = nat_le (counts_of all parts).imported_functions m.index && nat_lt m.index (counts_of all parts).functions

      in_file : Bool
      in_file = nat_lt m.index (length all)

  members : All (λ g. All (MemberStands o) g.members) l.groups
  members = λ j g lt n m within.
      let group : Group = get_or l.groups j g in
      member_there (get_or group.members n m) (kinds_known j g lt n m within)
      (AllPass-from_list_all (member_stands (counts_of all parts)) group.members (AllPass-from_list_all (λ x. list_all (member_stands (counts_of all parts)) x.members) l.groups groups_agree.1 j g lt) n m within)

  -- ---- names that differ

  seen_of : Symbol → Option (List ℕ)
  seen_of s = cond (is_seen s) s.name None

  seen_with_names : (symbols : List Symbol) → filter_map seen_of (map (with_name parts.imports) symbols) ≡ filter_map (seen_name parts.imports) symbols
  unfolding seen_of
  seen_with_names [] = refl
  seen_with_names (s ∷ ss) = ap (cons_option (seen_name parts.imports s)) (seen_with_names ss)

  names_apart : NamesDiffer o.symbols
  unfolding seen_of
  names_apart j n s t name f g a b p q =
      one_key bytes_eq same_bytes seen_of o.symbols j n s t name (ap (all_differ bytes_eq) (seen_with_names l.symbols) ∙ k.names) f g
      (ap (λ v. cond v s.name None) a ∙ p) (ap (λ v. cond v t.name None) b ∙ q)

  sound : Sound (length bytes) o
  sound = record {
    short = short;
    types = type_indexes;
    imported_types = imported_types;
    symbols = symbols;
    names = names;
    bodies = bodies;
    segments = segment_spans (length bytes) (start_of 11 all) (relocs_for 11 all parts.relocs) l.segments parts.segments lie.segments;
    globals = lie.globals;
    alignments = alignments;
    windows = windows;
    window_names = window_names;
    operands = operands_in_place;
    operand_names = operand_names;
    inits = inits;
    members = members;
    members_differ = members_differ l.groups groups_agree.2;
    groups_differ = groups_differ l.groups groups_agree.0;
    names_differ = names_apart;
  }

pub read_is_sound : (input : ℕ) (bytes : List ℕ) (o : Object) → IsObject input bytes o → Sound (length bytes) o
unfolding object_from
read_is_sound input bytes o is =
    let linked = agreed_keeps is.sections bytes is.parts is.agrees in
    let l : Linking = linked.0 in
    let fit = frame_fits is.sections bytes is.framed in
    let told = parts_told (code_relocs is.sections bytes is.sections) is.sections bytes is.parts is.framed is.spelled in
    let spelled = subst LinkingTold linked.1 told.linking in
    let lie = parts_lie is.sections bytes (Ok is.parts) fit (parts_again is.sections bytes is.parts is.spelled) in
    let same : object_with input is.sections is.parts l ≡ o = ap (λ (x : Option Linking). object_with input is.sections is.parts (linking_of x)) (sym linked.1) ∙ sym is.is in
    subst (Sound (length bytes)) same
    (sound input is.sections bytes is.parts l linked.2 lie told (symbols_spelled l spelled.0 spelled.1) (code_relocs_are is.sections bytes is.parts is.spelled) (members_spelled l spelled.0 spelled.1) is.short)

pub bodies_stand : (input : ℕ) (bytes : List ℕ) (o : Object) → IsObject input bytes o → All (BodyStands bytes) o.functions
unfolding object_from
bodies_stand input bytes o is =
    let kept = (agreed_keeps is.sections bytes is.parts is.agrees).2 in
    let all : List SectionSpan = is.sections in
    let parts : Parts = is.parts in
    let symbols : List Symbol = (agreed_keeps all bytes parts is.agrees).0.symbols in
    let relocs : List Reloc = code_relocs all bytes all in
    let told = parts_told relocs all bytes parts is.framed is.spelled in
    let code = and_parts (code_windows_stand all bytes parts symbols) (data_windows_stand (start_of 11 all) (relocs_for 11 all parts.relocs) parts.segments) kept.windows in
    let more = and_parts (list_all (λ b. is_placed b.windows) parts.bodies && (not (eqb (length parts.bodies) 0) || eqb (length (relocs_for 10 all parts.relocs)) 0))
    (list_all (is_set_or_read bytes (start_of 10 all) symbols) (relocs_for 10 all parts.relocs)) code.0 in
    let placed = and_parts (list_all (λ b. is_placed b.windows) parts.bodies) (not (eqb (length parts.bodies) 0) || eqb (length (relocs_for 10 all parts.relocs)) 0) more.0 in
    let each : All (λ b. BodyTold (start_of 10 all) bytes relocs b × (is_placed b.windows ≡ true) × (is_covered b.windows ≡ true)) parts.bodies =
    λ k d lt. (told.bodies k d lt, AllPass-from_list_all (λ b. is_placed b.windows) parts.bodies placed.0 k d lt, AllPass-from_list_all (λ b. is_covered b.windows) parts.bodies kept.covered k d lt) in
    let made_all = functions_all (λ t. Unit {0}) (λ b. BodyTold (start_of 10 all) bytes relocs b × (is_placed b.windows ≡ true) × (is_covered b.windows ≡ true)) (BodyStands bytes) parts.exports
    (λ n t b any known. made_stands bytes relocs parts.exports n t b known.0 known.1 known.2) (counts_of all parts).imported_functions parts.functions parts.bodies (λ k d lt. tt) each in
    subst (λ (x : Object). All (BodyStands bytes) x.functions) (sym is.is) made_all

pub input_is : (input : ℕ) (bytes : List ℕ) (o : Object) → IsObject input bytes o → o.input ≡ input
unfolding object_from
input_is input bytes o is = ap (λ (x : Object). x.input) is.is
