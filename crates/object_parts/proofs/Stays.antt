-- A foreign item in a section stays the answer, whatever follows it in the payload.
--
-- The places of globals, segments and bodies are told by the end, so it moves with the bytes that are
-- put behind.
use Rattle.std.proofs.Common.{◌≡◌, ℕ, zero, suc, ◌+◌, ◌-◌, Bool, true, false, cond, eqb, not, ◌&&◌, List, [], ◌∷◌, ◌++◌, length, Result, Ok, Err, refl, sym, ap, ◌∙◌, append_assoc, arith, Some}
use Rattle.std.proofs.lemmas.List.{length-append}
use Rattle.wasm_instr.specs.wl_base.declared.item.Item.{Item}
use Rattle.wasm_instr.specs.wl_base.declared.item.Item.TheVariants as items
use Rattle.wasm_instr.specs.wl_base.declared.span.Span.{Span}
use Rattle.wasm_instr.specs.wasm_grammar.declared.fault.Stop.{Stop}
use Rattle.wasm_instr.specs.wasm_grammar.declared.fault.Stop.TheVariants.{Broken, Foreign}
use Rattle.wasm_instr.specs.wasm_grammar.Grammar.{SpellsByte, SpellsU32, SpellsBytes, SpellsName, SpellsVector}
use Rattle.wasm_instr.specs.wasm_grammar.Readers.{IsReader}
use Rattle.wasm_instr.specs.wasm_grammar.Reading.{Read, ◌>>=◌, byte_at, u32_at, name_at, part_at, vector_at, whole, ended}
use Rattle.wasm_instr.specs.wasm_grammar.ReaderLaws.{byte_reader, u32_reader, name_reader, part_reader, vector_reader}
use Rattle.wasm_instr.specs.wasm_grammar.Stays.{Stays, IsSteady, bind_stays, cond_stays, byte_stays, u32_stays, name_stays, part_stays, vector_stays, whole_stays}
use Rattle.wasm_instr.specs.wasm_types.Types.{SpellsFuncType, SpellsTableType, SpellsGlobalType, SpellsConstExpr, func_type_at, table_type_at, import_kind_at, global_type_at, const_expr_at}
use Rattle.wasm_instr.specs.wasm_types.TypeLaws.{func_type_reader, table_type_reader, global_type_reader, const_expr_reader}
use Rattle.wasm_instr.specs.wasm_types.Stays.{func_type_stays, table_type_stays, import_kind_stays, global_type_stays, const_expr_stays}
use Rattle.wasm_instr.specs.wasm_types.declared.table.TableType.{TableType}
use Rattle.wasm_instr.specs.wasm_types.declared.import.Import.{Import}
use Rattle.wasm_instr.specs.wasm_types.declared.import.ImportKind.{ImportKind}
use Rattle.wasm_instr.specs.wasm_types.declared.import.ImportKind.TheVariants as kinds
use Rattle.wasm_instr.specs.declared.body.Body.{Body}
use Rattle.wasm_instr.specs.Bodies.{body_at}
use Rattle.wasm_module.specs.wasm_sections.declared.section.SectionSpan.{SectionSpan}
use Rattle.wasm_module.specs.Parts.{SpellsExport, SpellsElement, SpellsDataSegment}
use Rattle.wasm_module.specs.PartReading.{export_at, element_at, data_segment_at}
use Rattle.wasm_module.specs.PartLaws.{export_reader, element_reader, data_segment_reader}
use Rattle.wasm_module.specs.PartStays.{export_stays, element_stays, data_segment_stays}
use Rattle.linking_section.specs.Reading.{linking_at}
use Rattle.linking_section.specs.Stays.{linking_stays}
use Rattle.body_windows.specs.reloc_section.declared.entry.Reloc.{Reloc}
use Rattle.body_windows.specs.reloc_section.declared.section.RelocSection.{RelocSection}
use Rattle.body_windows.specs.reloc_section.Relocs.{SpellsRelocSection, reloc_section_at}
use Rattle.body_windows.specs.reloc_section.RelocLaws.{reloc_section_reader}
use Rattle.body_windows.specs.reloc_section.Stays.{reloc_section_stays}
use Rattle.body_windows.specs.Windows.{windows_of}
use Rattle.object_parts.specs.declared.imports.Seen.{Seen}
use Rattle.object_parts.specs.declared.kind.SectionKind.{SectionKind}
use Rattle.object_parts.specs.declared.kind.SectionKind.TheVariants as sections
use Rattle.object_parts.specs.declared.kind.CustomKind.{CustomKind}
use Rattle.object_parts.specs.declared.kind.CustomKind.TheVariants as customs
use Rattle.object_parts.specs.declared.parts.CodeBody.{CodeBody}
use Rattle.object_parts.specs.declared.parts.Parts.{Parts}
use Rattle.object_parts.specs.Kinds.{custom_kind_of}
use Rattle.object_parts.specs.Turns.{Spelling, turns_at, entries_at, IsPlacedReader}
use Rattle.object_parts.specs.Imports.{names_table, SpellsObjectImport, seen_import, none_seen, funcref_table_at, table_import_at, taken_kind, object_import_at}
use Rattle.object_parts.specs.Placed.{span_before, SpellsGlobalDef, SpellsDataPart, stays, global_def_at, data_part_at}
use Rattle.object_parts.specs.Code.{before, end_in, base_in, left_behind, SpellsCodeBody, body_in, code_body_at}
use Rattle.object_parts.specs.Adding.{has_id, end_of, longer, with_linking, with_relocs, none_of, no_entries, relocs_behind, relocs_for, add_linking, add_relocs, add_named, add_custom, add_types, add_imports, add_functions, add_globals, add_exports, add_elements, add_data_count, add_code, add_segments, add_kind}
use Rattle.object_parts.proofs.Imported.{object_import_reader}
use Rattle.object_parts.proofs.Items.{global_def_reader, data_part_reader, code_body_reader}

-- what is made of a value is foreign where the value is
made : {A B : Type 0} (r s : Result A Stop) (f g : A → B) → Stays r s → (let make : A → Result B Stop = λ x. Ok (f x) in let make_too : A → Result B Stop = λ x. Ok (g x) in Stays (r >>= make) (s >>= make_too))
made (Ok x) s f g t = tt
made (Err (Broken place)) s f g t = tt
made (Err (Foreign item)) s f g t = rw t refl

-- an answer stays itself
itself : {A : Type 0} (r : Result A Stop) → Stays r r
itself (Ok x) = tt
itself (Err (Broken place)) = tt
itself (Err (Foreign item)) = refl

-- ---- items with places

-- With bytes put behind, the end is so many later.
abbrev IsPlacedSteady : {S A : Type 0} → (S → Read A) → Type 0
IsPlacedSteady {S} read = (state : S) (end : ℕ) (bytes more : List ℕ) → Stays (read state end bytes) (read state (end + length more) (bytes ++ more))

-- What is spelled is spelled so before more bytes too.
abbrev Moves : {S A : Type 0} → Spelling S A → Type 0
Moves {S} {A} Item = (state : S) (end : ℕ) (x : A) (text rest more : List ℕ) → Item state end x text rest → Item state (end + length more) x text (rest ++ more)

ended_stays : {A : Type 0} (end : ℕ) (x : A) (rest : List ℕ) (more : Result A Stop) → Stays (ended end x rest) more
ended_stays end x [] more = tt
ended_stays end x (b ∷ rest) more = tt

module _ {S A : Type 0} (Item : Spelling S A) (read : S → Read A) (next : S → A → S) (reader : IsPlacedReader Item read) (moves : Moves Item) (steady : IsPlacedSteady read) where
  read_on : (state : S) (end : ℕ) (bytes more : List ℕ) (x : A) (rest : List ℕ) → read state end bytes ≡ Ok (x, rest) → read state (end + length more) (bytes ++ more) ≡ Ok (x, rest ++ more)
  read_on state end bytes more x rest e =
      let t = reader.found state end bytes x rest e in
      let parts : bytes ++ more ≡ t.0 ++ (rest ++ more) = ap (λ (b : List ℕ). b ++ more) t.2 ∙ append_assoc t.0 rest more in
      ap (read state (end + length more)) parts ∙ reader.again state (end + length more) x t.0 (rest ++ more) (moves state end x t.0 rest more t.1)

  turns_stay : (n : ℕ) (state : S) (end : ℕ) (bytes more : List ℕ) → Stays (turns_at read next n state end bytes) (turns_at read next n state (end + length more) (bytes ++ more))
  unfolding turns_at
  turns_stay zero state end bytes more = tt
  turns_stay (suc n) state end bytes more =
      by (read state end bytes) refl (steady state end bytes more) (λ x. turns_stay n (next state x.0) end x.1 more)
    where
      by : (r : Result (A × List ℕ) Stop) → read state end bytes ≡ r → Stays r (read state (end + length more) (bytes ++ more))
          → ((x : A × List ℕ) → Stays (turns_at read next n (next state x.0) end x.1) (turns_at read next n (next state x.0) (end + length more) (x.1 ++ more)))
          → (let here : A × List ℕ → Result (List A × List ℕ) Stop = λ first. turns_at read next n (next state first.0) end first.1 >>= λ others. Ok (first.0 ∷ others.0, others.1) in
          let there : A × List ℕ → Result (List A × List ℕ) Stop = λ first. turns_at read next n (next state first.0) (end + length more) first.1 >>= λ others. Ok (first.0 ∷ others.0, others.1) in
          Stays (r >>= here) (read state (end + length more) (bytes ++ more) >>= there))
      by (Ok x) e t others =
          rw (read_on state end bytes more x.0 x.1 e)
          (made (turns_at read next n (next state x.0) end x.1) (turns_at read next n (next state x.0) (end + length more) (x.1 ++ more)) (λ xs. (x.0 ∷ xs.0, xs.1)) (λ xs. (x.0 ∷ xs.0, xs.1)) (others x))
      by (Err (Broken place)) e t others = tt
      by (Err (Foreign item)) e t others = rw t refl

  entries_stay : (state : S) (end : ℕ) (payload more : List ℕ) → Stays (entries_at read next state end payload) (entries_at read next state (end + length more) (payload ++ more))
  unfolding entries_at
  entries_stay state end payload more =
      bind_stays _ u32_at u32_reader u32_stays end (end + length more) payload more _ _ (λ count rest.
      by (turns_at read next count state end rest) (turns_at read next count state (end + length more) (rest ++ more)) (turns_stay count state end rest more))
    where
      by : (r s : Result (List A × List ℕ) Stop) → Stays r s → Stays (r >>= λ xs. ended end xs.0 xs.1) (s >>= λ xs. ended (end + length more) xs.0 xs.1)
      by (Ok xs) s t = ended_stays end xs.0 xs.1 (s >>= λ ys. ended (end + length more) ys.0 ys.1)
      by (Err (Broken place)) s t = tt
      by (Err (Foreign item)) s t = rw t refl

-- ---- globals

later_start : (end : ℕ) (bytes more : List ℕ) → end + length more - length (bytes ++ more) ≡ end - length bytes
later_start end bytes more = omega (arith, length-append bytes more)

global_moves : Moves SpellsGlobalDef
global_moves state end g text rest more s =
    let value : s.1 ++ (rest ++ more) ≡ (s.1 ++ rest) ++ more = sym (append_assoc s.1 rest more) in
    let start : end + length more - length (s.1 ++ (rest ++ more)) ≡ end - length (s.1 ++ rest) = ap (λ (v : List ℕ). end + length more - length v) value ∙ later_start end (s.1 ++ rest) more in
    let len : length (s.1 ++ (rest ++ more)) - length (rest ++ more) ≡ length (s.1 ++ rest) - length rest = omega (arith, length-append s.1 (rest ++ more), length-append s.1 rest) in (
      s.0,
      s.1,
      s.2,
      s.3,
      s.4,
      s.5 ∙ ap (λ n. let k : Span = record { start = n; len = length (s.1 ++ rest) - length rest } in k) (sym start)
          ∙ ap (λ n. let k : Span = record { start = end + length more - length (s.1 ++ (rest ++ more)); len = n } in k) (sym len),
    )

global_stays : IsPlacedSteady global_def_at
unfolding global_def_at
global_stays state end bytes more =
    bind_stays SpellsGlobalType global_type_at global_type_reader global_type_stays end (end + length more) bytes more _ _ (λ kind rest.
    bind_stays SpellsConstExpr const_expr_at const_expr_reader const_expr_stays end (end + length more) rest more _ _ (λ value r. tt))

-- ---- data segments

later_span : (end n : ℕ) (rest more : List ℕ) → span_before end n rest ≡ span_before (end + length more) n (rest ++ more)
later_span end n rest more = ap (λ k. let s : Span = record { start = k - n; len = n } in s) (sym (later_start end rest more))

data_moves : Moves SpellsDataPart
data_moves state end d text rest more s = (s.0, s.1, s.2, s.3 ∙ later_span end (length s.0.bytes) rest more)

data_stays : IsPlacedSteady data_part_at
unfolding data_part_at
data_stays state end bytes more =
    bind_stays (SpellsDataSegment false) (data_segment_at false) (data_segment_reader false) (data_segment_stays false) end (end + length more) bytes more _ _ (λ s rest. tt)

-- ---- bodies

code_moves : (start : ℕ) → Moves (SpellsCodeBody start)
code_moves start relocs end b text rest more s = (s.0, s.1, s.2, s.3, s.4, s.5, s.6 ∙ later_span end (length s.2) rest more, s.7)

code_stays : (start : ℕ) → IsPlacedSteady (code_body_at start)
unfolding code_body_at body_in
code_stays start relocs end bytes more =
    bind_stays SpellsBytes part_at part_reader part_stays end (end + length more) bytes more _ _ (λ part rest.
    by (body_at part) rest (rest ++ more) (span_before end (length part) rest) (span_before (end + length more) (length part) (rest ++ more)))
  where
    by : (r : Result Body Stop) (rest after : List ℕ) (here there : Span)
        → (let in_one : Body → Result CodeBody Stop = λ body. Ok (record { span = here; windows = windows_of (base_in start here) (before (end_in start here) relocs) body }) in
        let in_two : Body → Result CodeBody Stop = λ body. Ok (record { span = there; windows = windows_of (base_in start there) (before (end_in start there) relocs) body }) in
        let one : CodeBody → Result (CodeBody × List ℕ) Stop = λ b. Ok (b, rest) in let two : CodeBody → Result (CodeBody × List ℕ) Stop = λ b. Ok (b, after) in
        Stays (r >>= in_one >>= one) (r >>= in_two >>= two))
    by (Ok body) rest after here there = tt
    by (Err (Broken place)) rest after here there = tt
    by (Err (Foreign item)) rest after here there = refl

-- ---- imports

import_moves : Moves SpellsObjectImport
import_moves seen end i text rest more s = s

funcref_stays : IsSteady funcref_table_at
unfolding funcref_table_at
funcref_stays end other bytes more =
    bind_stays SpellsByte byte_at byte_reader byte_stays end other bytes more _ _ (λ byte rest. by (eqb byte 0x6f))
  where
    by : (q : Bool) → (let make : TableType × List ℕ → Result (ImportKind × List ℕ) Stop = λ t. Ok (kinds.Table t.0, t.1) in
        Stays (cond q (Err (Foreign items.OtherTable)) (table_type_at end bytes) >>= make) (cond q (Err (Foreign items.OtherTable)) (table_type_at other (bytes ++ more)) >>= make))
    by true = refl
    by false = bind_stays SpellsTableType table_type_at table_type_reader table_type_stays end other bytes more _ _ (λ t r. tt)

taken_stays : (seen : Seen) (named : Bool) (tag end other : ℕ) (bytes rest more : List ℕ) → Stays (taken_kind seen named tag end bytes rest) (taken_kind seen named tag other (bytes ++ more) (rest ++ more))
taken_stays seen named tag end other bytes rest more =
    cond_stays (eqb tag 1) (table_import_at (named && not seen.table) end rest) _ (table_import_at (named && not seen.table) other (rest ++ more)) _
    (cond_stays (named && not seen.table) (funcref_table_at end rest) (Err (Foreign items.OtherTable)) (funcref_table_at other (rest ++ more)) (Err (Foreign items.OtherTable)) (funcref_stays end other rest more) refl) (
    cond_stays (eqb tag 2 && seen.memory) (Err (Foreign items.MoreMemories)) (import_kind_at end bytes) (Err (Foreign items.MoreMemories)) (import_kind_at other (bytes ++ more)) refl
    (import_kind_stays end other bytes more))

import_stays : IsPlacedSteady object_import_at
unfolding object_import_at
import_stays seen end bytes more =
    bind_stays SpellsName name_at name_reader name_stays end (end + length more) bytes more _ _ (λ from a.
    bind_stays SpellsName name_at name_reader name_stays end (end + length more) a more _ _ (λ field b.
    bind_stays SpellsByte byte_at byte_reader byte_stays end (end + length more) b more _ _ (λ tag c.
    by from field (taken_kind seen (names_table from field) tag end b c) (taken_kind seen (names_table from field) tag (end + length more) (b ++ more) (c ++ more))
    (taken_stays seen (names_table from field) tag end (end + length more) b c more))))
  where
    by : (from field : List ℕ) (r s : Result (ImportKind × List ℕ) Stop) → Stays r s
        → (let make : ImportKind × List ℕ → Result (Import × List ℕ) Stop = λ kind. Ok (record { «module» = from; field = field; kind = kind.0 }, kind.1) in Stays (r >>= make) (s >>= make))
    by from field r s t = made r s (λ kind. (record { «module» = from; field = field; kind = kind.0 }, kind.1)) (λ kind. (record { «module» = from; field = field; kind = kind.0 }, kind.1)) t

-- ---- sections

none_stays : (item : Item) (n end other : ℕ) (bytes more : List ℕ) → Stays (none_of item n end bytes) (none_of item n other (bytes ++ more))
none_stays item zero end other bytes more = ended_stays end tt bytes (none_of item zero other (bytes ++ more))
none_stays item (suc n) end other [] more = tt
none_stays item (suc n) end other (b ∷ bytes) more = refl

no_entries_stay : (item : Item) (parts : Parts) (end other : ℕ) (payload more : List ℕ) → Stays (no_entries item parts end payload) (no_entries item parts other (payload ++ more))
unfolding no_entries
no_entries_stay item parts end other payload more =
    bind_stays _ u32_at u32_reader u32_stays end other payload more _ _ (λ count rest.
    made (none_of item count end rest) (none_of item count other (rest ++ more)) (λ none. parts) (λ none. parts) (none_stays item count end other rest more))

-- a vector that is all of the payload
vector_alone : {A : Type 0} (Item : A → List ℕ → Type 0) (read : Read A) (reader : IsReader Item read) (steady : IsSteady read) (make : List A → Parts) (end other : ℕ) (payload more : List ℕ)
    → (let f : List A → Result Parts Stop = λ xs. Ok (make xs) in Stays (whole (vector_at read) end payload >>= f) (whole (vector_at read) other (payload ++ more) >>= f))
vector_alone Item read reader steady make end other payload more =
    made (whole (vector_at read) end payload) (whole (vector_at read) other (payload ++ more)) make make
    (whole_stays (SpellsVector Item) (vector_at read) (vector_reader Item read reader) (vector_stays Item read reader steady) end other payload more)

relocs_stay : (all : List SectionSpan) (parts : Parts) (end other : ℕ) (payload more : List ℕ) → Stays (add_relocs all parts end payload) (add_relocs all parts other (payload ++ more))
unfolding add_relocs relocs_for
relocs_stay all parts end other payload more =
    made (u32_at end payload >>= here) (u32_at other (payload ++ more) >>= there) (with_relocs parts) (with_relocs parts)
    (bind_stays _ u32_at u32_reader u32_stays end other payload more here there (λ target rest. by (has_id 0 all target) target))
  where
    here : ℕ × List ℕ → Result RelocSection Stop
    here = λ target. relocs_behind (has_id 0 all target.0) target.0 end payload

    there : ℕ × List ℕ → Result RelocSection Stop
    there = λ target. relocs_behind (has_id 0 all target.0) target.0 other (payload ++ more)

    by : (q : Bool) (target : ℕ) → Stays (relocs_behind q target end payload) (relocs_behind q target other (payload ++ more))
    by true target = tt
    by false target = whole_stays SpellsRelocSection reloc_section_at reloc_section_reader reloc_section_stays end other payload more

named_stays : (all : List SectionSpan) (kind : CustomKind) (parts : Parts) (end other : ℕ) (bytes more : List ℕ) → Stays (add_named all kind parts end bytes) (add_named all kind parts other (bytes ++ more))
unfolding add_linking
named_stays all customs.Linking parts end other bytes more =
    made (linking_at end bytes) (linking_at other (bytes ++ more)) (with_linking parts parts.linking) (with_linking parts parts.linking) (linking_stays end other bytes more)
named_stays all customs.Relocs parts end other bytes more = relocs_stay all parts end other bytes more
named_stays all customs.Shared parts end other bytes more = refl
named_stays all customs.Other parts end other bytes more = tt

section_stays : (all : List SectionSpan) (relocs : List Reloc) (kind : SectionKind) (parts : Parts) (span : Span) (payload more : List ℕ) (there : Span) → there.start ≡ span.start → end_of there ≡ end_of span + length more
    → Stays (add_kind all relocs kind parts span payload) (add_kind all relocs kind parts there (payload ++ more))
unfolding add_custom add_types add_imports add_functions add_globals add_exports add_elements add_data_count add_code add_segments
section_stays all relocs sections.Custom parts span payload more there s e =
    bind_stays SpellsName name_at name_reader name_stays (end_of span) (end_of there) payload more _ _ (λ name rest. named_stays all (custom_kind_of name) parts (end_of span) (end_of there) rest more)
section_stays all relocs sections.Types parts span payload more there s e = vector_alone SpellsFuncType func_type_at func_type_reader func_type_stays (λ xs. record parts { types = xs }) (end_of span) (end_of there) payload more
section_stays all relocs sections.Imports parts span payload more there s e =
    rw e (made (entries_at object_import_at seen_import none_seen (end_of span) payload) (entries_at object_import_at seen_import none_seen (end_of span + length more) (payload ++ more)) (λ xs. record parts { imports = xs }) (λ xs. record parts { imports = xs })
    (entries_stay SpellsObjectImport object_import_at seen_import object_import_reader import_moves import_stays none_seen (end_of span) payload more))
section_stays all relocs sections.Functions parts span payload more there s e = vector_alone SpellsU32 u32_at u32_reader u32_stays (λ xs. record parts { functions = xs }) (end_of span) (end_of there) payload more
section_stays all relocs sections.Tables parts span payload more there s e = no_entries_stay items.DefinedTable parts (end_of span) (end_of there) payload more
section_stays all relocs sections.Memories parts span payload more there s e = no_entries_stay items.DefinedMemory parts (end_of span) (end_of there) payload more
section_stays all relocs sections.Globals parts span payload more there s e =
    rw e (made (entries_at global_def_at stays tt (end_of span) payload) (entries_at global_def_at stays tt (end_of span + length more) (payload ++ more)) (λ xs. record parts { globals = xs }) (λ xs. record parts { globals = xs })
    (entries_stay SpellsGlobalDef global_def_at stays global_def_reader global_moves global_stays tt (end_of span) payload more))
section_stays all relocs sections.Exports parts span payload more there s e = vector_alone SpellsExport export_at export_reader export_stays (λ xs. record parts { exports = xs }) (end_of span) (end_of there) payload more
section_stays all relocs sections.Start parts span payload more there s e = refl
section_stays all relocs sections.Elements parts span payload more there s e = vector_alone (SpellsElement false) (element_at false) (element_reader false) (element_stays false) (λ xs. record parts { elements = xs }) (end_of span) (end_of there) payload more
section_stays all relocs sections.DataCount parts span payload more there s e =
    made (whole u32_at (end_of span) payload) (whole u32_at (end_of there) (payload ++ more)) (λ count. record parts { data_count = Some count }) (λ count. record parts { data_count = Some count })
    (whole_stays _ u32_at u32_reader u32_stays (end_of span) (end_of there) payload more)
section_stays all relocs sections.Code parts span payload more there s e =
    rw (e, s) (made (entries_at (code_body_at span.start) (left_behind span.start) relocs (end_of span) payload) (entries_at (code_body_at span.start) (left_behind span.start) relocs (end_of span + length more) (payload ++ more)) (λ xs. record parts { bodies = xs }) (λ xs. record parts { bodies = xs })
    (entries_stay (SpellsCodeBody span.start) (code_body_at span.start) (left_behind span.start) (code_body_reader span.start) (code_moves span.start) (code_stays span.start) relocs (end_of span) payload more))
section_stays all relocs sections.Segments parts span payload more there s e =
    rw e (made (entries_at data_part_at stays tt (end_of span) payload) (entries_at data_part_at stays tt (end_of span + length more) (payload ++ more)) (λ xs. record parts { segments = xs }) (λ xs. record parts { segments = xs })
    (entries_stay SpellsDataPart data_part_at stays data_part_reader data_moves data_stays tt (end_of span) payload more))
section_stays all relocs sections.Tags parts span payload more there s e = refl

pub kind_stays : (all : List SectionSpan) (relocs : List Reloc) (kind : SectionKind) (parts : Parts) (span : Span) (payload more : List ℕ)
    → Stays (add_kind all relocs kind parts span payload) (add_kind all relocs kind parts (longer span (length more)) (payload ++ more))
kind_stays all relocs kind parts span payload more = section_stays all relocs kind parts span payload more (longer span (length more)) refl (omega arith)
