-- What a section adds: what is read of it is spelled so, and the other way round.
use Rattle.std.proofs.Common.{◌≡◌, ℕ, zero, suc, ◌+◌, ◌-◌, Bool, true, false, List, [], ◌∷◌, ◌++◌, length, Result, Ok, Err, Option, Some, None, refl, sym, ap, subst, ◌∙◌}
use Rattle.std.proofs.lemmas.List.{append-nil}
use Rattle.wasm_instr.specs.wl_base.declared.item.Item.{Item}
use Rattle.wasm_instr.specs.wl_base.declared.item.Item.TheVariants as items
use Rattle.wasm_instr.specs.wl_base.declared.span.Span.{Span}
use Rattle.wasm_instr.specs.wasm_grammar.declared.fault.Stop.{Stop}
use Rattle.wasm_instr.specs.wasm_grammar.declared.fault.Stop.TheVariants.{Broken, Foreign}
use Rattle.wasm_instr.specs.wasm_grammar.Grammar.{SpellsU32, SpellsName, SpellsVector}
use Rattle.wasm_instr.specs.wasm_grammar.Readers.{Takes, IsReader}
use Rattle.wasm_instr.specs.wasm_grammar.Reading.{Read, ◌>>=◌, u32_at, name_at, vector_at, whole, ended}
use Rattle.wasm_instr.specs.wasm_grammar.ReaderLaws.{bind_ok, ok_is, u32_reader, name_reader, vector_reader, whole_found, whole_again}
use Rattle.wasm_instr.specs.wasm_types.Types.{SpellsFuncType, func_type_at}
use Rattle.wasm_instr.specs.wasm_types.TypeLaws.{func_type_reader}
use Rattle.wasm_instr.specs.wasm_types.declared.function.FuncType.{FuncType}
use Rattle.wasm_instr.specs.wasm_types.declared.import.Import.{Import}
use Rattle.wasm_module.specs.wasm_sections.declared.section.SectionSpan.{SectionSpan}
use Rattle.wasm_module.specs.declared.parts.Element.{Element}
use Rattle.wasm_module.specs.declared.parts.Export.{Export}
use Rattle.wasm_module.specs.Parts.{SpellsExport, SpellsElement}
use Rattle.wasm_module.specs.PartReading.{export_at, element_at}
use Rattle.wasm_module.specs.PartLaws.{export_reader, element_reader}
use Rattle.linking_section.specs.declared.linking.Linking.{Linking}
use Rattle.linking_section.specs.Linking.{SpellsLinking}
use Rattle.linking_section.specs.Reading.{linking_at}
use Rattle.linking_section.specs.LinkingLaws.{linking_found, linking_again}
use Rattle.body_windows.specs.reloc_section.declared.entry.Reloc.{Reloc}
use Rattle.body_windows.specs.reloc_section.declared.section.RelocSection.{RelocSection}
use Rattle.body_windows.specs.reloc_section.Relocs.{SpellsRelocSection, relocs_at}
use Rattle.body_windows.specs.reloc_section.RelocLaws.{relocs_found, relocs_again}
use Rattle.object_parts.specs.declared.kind.SectionKind.{SectionKind}
use Rattle.object_parts.specs.declared.kind.SectionKind.TheVariants as sections
use Rattle.object_parts.specs.declared.kind.CustomKind.{CustomKind}
use Rattle.object_parts.specs.declared.kind.CustomKind.TheVariants as customs
use Rattle.object_parts.specs.declared.parts.GlobalDef.{GlobalDef}
use Rattle.object_parts.specs.declared.parts.DataPart.{DataPart}
use Rattle.object_parts.specs.declared.parts.CodeBody.{CodeBody}
use Rattle.object_parts.specs.declared.parts.Parts.{Parts}
use Rattle.object_parts.specs.Kinds.{custom_kind_of}
use Rattle.object_parts.specs.Turns.{AreEntries, entries_at}
use Rattle.object_parts.specs.Imports.{SpellsObjectImport, seen_import, none_seen, object_import_at}
use Rattle.object_parts.specs.Placed.{SpellsGlobalDef, SpellsDataPart, stays, global_def_at, data_part_at}
use Rattle.object_parts.specs.Code.{SpellsCodeBody, left_behind, code_body_at}
use Rattle.object_parts.specs.Adding.{has_id, end_of, with_linking, with_relocs, SpellsRelocsFor, AddsCustom, AddsKind, none_of, no_entries, relocs_behind, relocs_for, add_linking, add_relocs, add_named, add_custom, add_types, add_imports, add_functions, add_globals, add_exports, add_elements, add_data_count, add_code, add_segments, add_kind}
use Rattle.object_parts.proofs.Turned.{entries_found, entries_again}
use Rattle.object_parts.proofs.Imported.{object_import_reader}
use Rattle.object_parts.proofs.Items.{global_def_reader, data_part_reader, code_body_reader}

-- a value that was read, and the parts that are made of it
made_found : {A : Type 0} (r : Result A Stop) (make : A → Parts) (after : Parts) → (r >>= λ x. Ok (make x)) ≡ Ok after → (x : A) × (r ≡ Ok x) × (after ≡ make x)
made_found (Ok x) make after e = (x, refl, sym (ok_is e))
made_found (Err d) make after e = absurd cc

made_again : {A : Type 0} (r : Result A Stop) (make : A → Parts) (after : Parts) (x : A) → r ≡ Ok x → after ≡ make x → (r >>= λ y. Ok (make y)) ≡ Ok after
made_again r make after x e is = rw (e, is) refl

-- ---- sections without an entry

none_found : (item : Item) (n end : ℕ) (bytes : List ℕ) → none_of item n end bytes ≡ Ok tt → (n ≡ 0) × (bytes ≡ [])
none_found item zero end [] e = (refl, refl)
none_found item zero end (b ∷ bytes) e = absurd cc
none_found item (suc n) end [] e = absurd cc
none_found item (suc n) end (b ∷ bytes) e = absurd cc

entries_none_found : (item : Item) (parts : Parts) (end : ℕ) (payload : List ℕ) (after : Parts) → no_entries item parts end payload ≡ Ok after → SpellsU32 0 payload × (after ≡ parts)
unfolding no_entries
entries_none_found item parts end payload after e =
    let a = bind_ok (u32_at end payload) (λ count. none_of item count.0 end count.1 >>= λ none. Ok parts) after e in
    let b = bind_ok (none_of item a.0.0 end a.0.1) (λ none. Ok parts) after a.2 in
    let n = none_found item a.0.0 end a.0.1 b.1 in
    let count = u32_reader.found end payload a.0.0 a.0.1 a.1 in
    let all : payload ≡ count.text = count.parts ∙ ap (λ (t : List ℕ). count.text ++ t) n.1 ∙ append-nil count.text in
    (subst (λ (k : ℕ). SpellsU32 k payload) n.0 (subst (SpellsU32 a.0.0) (sym all) count.spells), sym (ok_is b.2))

entries_none_again : (item : Item) (parts : Parts) (end : ℕ) (payload : List ℕ) (after : Parts) → SpellsU32 0 payload → after ≡ parts → no_entries item parts end payload ≡ Ok after
unfolding no_entries
entries_none_again item parts end payload after s is =
    let read : u32_at end payload ≡ Ok (0, []) = ap (u32_at end) (sym (append-nil payload)) ∙ u32_reader.again end 0 payload [] s in
    rw (read, is) refl

-- ---- relocations

-- the target that relocations begin with
target_of : (end : ℕ) (bytes : List ℕ) (r : RelocSection) → SpellsRelocSection r bytes → (rest : List ℕ) × (u32_at end bytes ≡ Ok (r.target, rest))
target_of end bytes r s = (s.1, ap (u32_at end) s.4 ∙ u32_reader.again end r.target s.0 s.1 s.2)

relocs_for_found : (all : List SectionSpan) (end : ℕ) (bytes : List ℕ) (r : RelocSection) → relocs_for all end bytes ≡ Ok r → SpellsRelocsFor (has_id 0 all r.target) r bytes
unfolding relocs_for
relocs_for_found all end bytes r e =
    let a = bind_ok (u32_at end bytes) (λ target. relocs_behind (has_id 0 all target.0) target.0 end bytes) r e in
    by a.0.0 a.0.1 a.1 (has_id 0 all a.0.0) refl a.2
  where
    by : (target : ℕ) (rest : List ℕ) → u32_at end bytes ≡ Ok (target, rest) → (q : Bool) → has_id 0 all target ≡ q → relocs_behind q target end bytes ≡ Ok r → SpellsRelocsFor (has_id 0 all r.target) r bytes
    by target rest read true is f =
        let t = u32_reader.found end bytes target rest read in
        subst (λ (x : RelocSection). SpellsRelocsFor (has_id 0 all x.target) x bytes) (ok_is f) (rw is (t.text, rest, t.spells, refl, t.parts))
    by target rest read false is f =
        let s = relocs_found end bytes r f in
        let t = target_of end bytes r s in
        let both : ◌≡◌ {A = ℕ × List ℕ} (target, rest) (r.target, t.0) = ok_is (sym read ∙ t.1) in
        let same : target ≡ r.target = ap (λ (p : ℕ × List ℕ). p.0) both in
        rw (ap (has_id 0 all) (sym same) ∙ is) s

relocs_for_again : (all : List SectionSpan) (end : ℕ) (bytes : List ℕ) (r : RelocSection) → SpellsRelocsFor (has_id 0 all r.target) r bytes → relocs_for all end bytes ≡ Ok r
unfolding relocs_for
relocs_for_again all end bytes r s = by (has_id 0 all r.target) refl s
  where
    by : (q : Bool) → has_id 0 all r.target ≡ q → SpellsRelocsFor q r bytes → relocs_for all end bytes ≡ Ok r
    by true is t =
        let read : u32_at end bytes ≡ Ok (r.target, t.1) = ap (u32_at end) t.4 ∙ u32_reader.again end r.target t.0 t.1 t.2 in
        rw (read, is) (ap (λ (es : List Reloc). let x : RelocSection = record { target = r.target; entries = es } in let y : Result RelocSection Stop = Ok x in y) (sym t.3))
    by false is t =
        let read = target_of end bytes r t in
        rw (read.1, is) (relocs_again end bytes r t)

-- ---- custom sections

named_found : (all : List SectionSpan) (kind : CustomKind) (parts : Parts) (end : ℕ) (bytes : List ℕ) (after : Parts) → add_named all kind parts end bytes ≡ Ok after → AddsCustom all kind parts bytes after
unfolding add_linking add_relocs
named_found all customs.Linking parts end bytes after e =
    let m = made_found (linking_at end bytes) (with_linking parts parts.linking) after e in
    (m.0, linking_found end bytes m.0 m.1, m.2)
named_found all customs.Relocs parts end bytes after e =
    let m = made_found (relocs_for all end bytes) (with_relocs parts) after e in
    (m.0, relocs_for_found all end bytes m.0 m.1, m.2)
named_found all customs.Shared parts end bytes after e = absurd cc
named_found all customs.Other parts end bytes after e = sym (ok_is e)

named_again : (all : List SectionSpan) (kind : CustomKind) (parts : Parts) (end : ℕ) (bytes : List ℕ) (after : Parts) → AddsCustom all kind parts bytes after → add_named all kind parts end bytes ≡ Ok after
unfolding add_linking add_relocs
named_again all customs.Linking parts end bytes after s = made_again (linking_at end bytes) (with_linking parts parts.linking) after s.0 (linking_again end bytes s.0 s.1) s.2
named_again all customs.Relocs parts end bytes after s = made_again (relocs_for all end bytes) (with_relocs parts) after s.0 (relocs_for_again all end bytes s.0 s.1) s.2
named_again all customs.Shared parts end bytes after s = absurd s
named_again all customs.Other parts end bytes after s = ap (λ (x : Parts). let r : Result Parts Stop = Ok x in r) (sym s)

custom_found : (all : List SectionSpan) (parts : Parts) (span : Span) (payload : List ℕ) (after : Parts) (relocs : List Reloc) → add_custom all parts (end_of span) payload ≡ Ok after → AddsKind all relocs sections.Custom parts span payload after
unfolding add_custom
custom_found all parts span payload after relocs e =
    let a = bind_ok (name_at (end_of span) payload) (λ name. add_named all (custom_kind_of name.0) parts (end_of span) name.1) after e in
    let t = name_reader.found (end_of span) payload a.0.0 a.0.1 a.1 in
    (a.0.0, t.text, a.0.1, t.spells, t.parts, named_found all (custom_kind_of a.0.0) parts (end_of span) a.0.1 after a.2)

custom_again : (all : List SectionSpan) (parts : Parts) (span : Span) (payload : List ℕ) (after : Parts) (relocs : List Reloc) → AddsKind all relocs sections.Custom parts span payload after → add_custom all parts (end_of span) payload ≡ Ok after
unfolding add_custom
custom_again all parts span payload after relocs s =
    let read : name_at (end_of span) payload ≡ Ok (s.0, s.2) = ap (name_at (end_of span)) s.4 ∙ name_reader.again (end_of span) s.0 s.1 s.2 s.3 in
    rw read (named_again all (custom_kind_of s.0) parts (end_of span) s.2 after s.5)

-- ---- all kinds

pub kind_found : (all : List SectionSpan) (relocs : List Reloc) (kind : SectionKind) (parts : Parts) (span : Span) (payload : List ℕ) (after : Parts) → add_kind all relocs kind parts span payload ≡ Ok after → AddsKind all relocs kind parts span payload after
unfolding add_types add_imports add_functions add_globals add_exports add_elements add_data_count add_code add_segments
kind_found all relocs sections.Custom parts span payload after e = custom_found all parts span payload after relocs e
kind_found all relocs sections.Types parts span payload after e =
    let m = made_found (whole (vector_at func_type_at) (end_of span) payload) (λ x. record parts { types = x }) after e in
    (m.0, whole_found (SpellsVector SpellsFuncType) (vector_at func_type_at) (vector_reader SpellsFuncType func_type_at func_type_reader) (end_of span) payload m.0 m.1, m.2)
kind_found all relocs sections.Imports parts span payload after e =
    let m = made_found (entries_at object_import_at seen_import none_seen (end_of span) payload) (λ x. record parts { imports = x }) after e in
    (m.0, entries_found SpellsObjectImport object_import_at seen_import object_import_reader none_seen (end_of span) payload m.0 m.1, m.2)
kind_found all relocs sections.Functions parts span payload after e =
    let m = made_found (whole (vector_at u32_at) (end_of span) payload) (λ x. record parts { functions = x }) after e in
    (m.0, whole_found (SpellsVector SpellsU32) (vector_at u32_at) (vector_reader SpellsU32 u32_at u32_reader) (end_of span) payload m.0 m.1, m.2)
kind_found all relocs sections.Tables parts span payload after e = entries_none_found items.DefinedTable parts (end_of span) payload after e
kind_found all relocs sections.Memories parts span payload after e = entries_none_found items.DefinedMemory parts (end_of span) payload after e
kind_found all relocs sections.Globals parts span payload after e =
    let m = made_found (entries_at global_def_at stays tt (end_of span) payload) (λ x. record parts { globals = x }) after e in
    (m.0, entries_found SpellsGlobalDef global_def_at stays global_def_reader tt (end_of span) payload m.0 m.1, m.2)
kind_found all relocs sections.Exports parts span payload after e =
    let m = made_found (whole (vector_at export_at) (end_of span) payload) (λ x. record parts { exports = x }) after e in
    (m.0, whole_found (SpellsVector SpellsExport) (vector_at export_at) (vector_reader SpellsExport export_at export_reader) (end_of span) payload m.0 m.1, m.2)
kind_found all relocs sections.Start parts span payload after e = absurd cc
kind_found all relocs sections.Elements parts span payload after e =
    let m = made_found (whole (vector_at (element_at false)) (end_of span) payload) (λ x. record parts { elements = x }) after e in
    (m.0, whole_found (SpellsVector (SpellsElement false)) (vector_at (element_at false)) (vector_reader (SpellsElement false) (element_at false) (element_reader false)) (end_of span) payload m.0 m.1, m.2)
kind_found all relocs sections.DataCount parts span payload after e =
    let m = made_found (whole u32_at (end_of span) payload) (λ x. record parts { data_count = Some x }) after e in
    (m.0, whole_found SpellsU32 u32_at u32_reader (end_of span) payload m.0 m.1, m.2)
kind_found all relocs sections.Code parts span payload after e =
    let m = made_found (entries_at (code_body_at span.start) (left_behind span.start) relocs (end_of span) payload) (λ x. record parts { bodies = x }) after e in
    (m.0, entries_found (SpellsCodeBody span.start) (code_body_at span.start) (left_behind span.start) (code_body_reader span.start) relocs (end_of span) payload m.0 m.1, m.2)
kind_found all relocs sections.Segments parts span payload after e =
    let m = made_found (entries_at data_part_at stays tt (end_of span) payload) (λ x. record parts { segments = x }) after e in
    (m.0, entries_found SpellsDataPart data_part_at stays data_part_reader tt (end_of span) payload m.0 m.1, m.2)
kind_found all relocs sections.Tags parts span payload after e = absurd cc

pub kind_again : (all : List SectionSpan) (relocs : List Reloc) (kind : SectionKind) (parts : Parts) (span : Span) (payload : List ℕ) (after : Parts) → AddsKind all relocs kind parts span payload after → add_kind all relocs kind parts span payload ≡ Ok after
unfolding add_types add_imports add_functions add_globals add_exports add_elements add_data_count add_code add_segments
kind_again all relocs sections.Custom parts span payload after s = custom_again all parts span payload after relocs s
kind_again all relocs sections.Types parts span payload after s =
    made_again (whole (vector_at func_type_at) (end_of span) payload) (λ x. record parts { types = x }) after s.0
    (whole_again (SpellsVector SpellsFuncType) (vector_at func_type_at) (vector_reader SpellsFuncType func_type_at func_type_reader) (end_of span) payload s.0 s.1) s.2
kind_again all relocs sections.Imports parts span payload after s =
    made_again (entries_at object_import_at seen_import none_seen (end_of span) payload) (λ x. record parts { imports = x }) after s.0
    (entries_again SpellsObjectImport object_import_at seen_import object_import_reader none_seen (end_of span) payload s.0 s.1) s.2
kind_again all relocs sections.Functions parts span payload after s =
    made_again (whole (vector_at u32_at) (end_of span) payload) (λ x. record parts { functions = x }) after s.0
    (whole_again (SpellsVector SpellsU32) (vector_at u32_at) (vector_reader SpellsU32 u32_at u32_reader) (end_of span) payload s.0 s.1) s.2
kind_again all relocs sections.Tables parts span payload after s = entries_none_again items.DefinedTable parts (end_of span) payload after s.0 s.1
kind_again all relocs sections.Memories parts span payload after s = entries_none_again items.DefinedMemory parts (end_of span) payload after s.0 s.1
kind_again all relocs sections.Globals parts span payload after s =
    made_again (entries_at global_def_at stays tt (end_of span) payload) (λ x. record parts { globals = x }) after s.0
    (entries_again SpellsGlobalDef global_def_at stays global_def_reader tt (end_of span) payload s.0 s.1) s.2
kind_again all relocs sections.Exports parts span payload after s =
    made_again (whole (vector_at export_at) (end_of span) payload) (λ x. record parts { exports = x }) after s.0
    (whole_again (SpellsVector SpellsExport) (vector_at export_at) (vector_reader SpellsExport export_at export_reader) (end_of span) payload s.0 s.1) s.2
kind_again all relocs sections.Start parts span payload after s = absurd s
kind_again all relocs sections.Elements parts span payload after s =
    made_again (whole (vector_at (element_at false)) (end_of span) payload) (λ x. record parts { elements = x }) after s.0
    (whole_again (SpellsVector (SpellsElement false)) (vector_at (element_at false)) (vector_reader (SpellsElement false) (element_at false) (element_reader false)) (end_of span) payload s.0 s.1) s.2
kind_again all relocs sections.DataCount parts span payload after s =
    made_again (whole u32_at (end_of span) payload) (λ x. record parts { data_count = Some x }) after s.0
    (whole_again SpellsU32 u32_at u32_reader (end_of span) payload s.0 s.1) s.2
kind_again all relocs sections.Code parts span payload after s =
    made_again (entries_at (code_body_at span.start) (left_behind span.start) relocs (end_of span) payload) (λ x. record parts { bodies = x }) after s.0
    (entries_again (SpellsCodeBody span.start) (code_body_at span.start) (left_behind span.start) (code_body_reader span.start) relocs (end_of span) payload s.0 s.1) s.2
kind_again all relocs sections.Segments parts span payload after s =
    made_again (entries_at data_part_at stays tt (end_of span) payload) (λ x. record parts { segments = x }) after s.0
    (entries_again SpellsDataPart data_part_at stays data_part_reader tt (end_of span) payload s.0 s.1) s.2
kind_again all relocs sections.Tags parts span payload after s = absurd s
