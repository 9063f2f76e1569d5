use Rattle.std.proofs.Common.{ℕ, List, [], true, subst}
use Rattle.wasm_instr.specs.wasm_grammar.Grammar.{SpellsItself, SpellsU32, SpellsSized, SpellsVector}
use Rattle.wasm_instr.specs.wasm_grammar.Writers.{Appends, Writes}
use Rattle.wasm_instr.specs.wasm_grammar.WriterLaws.{Writes-from, Writes-then, Writes-same}
use Rattle.wasm_instr.specs.wasm_types.Types.{SpellsFuncType, SpellsImport, SpellsTableType, SpellsLimits}
use Rattle.wasm_instr.specs.Placeless.{SpellsPlaceless}
use Rattle.wasm_sections.specs.Sections.{header}
use Rattle.wasm_module.specs.Parts.{SpellsGlobal, SpellsExport, SpellsElement, SpellsDataSegment}
use Rattle.wasm_module.specs.Modules.{AddsUp, SpellsSections, IsModuleOf}
use Rattle.wasm_module.proofs.WriteLaws.{same_items, sections_written, facts_written}
use Rattle.wasm_module.proofs.ButPlaces.{forgets, placed}
use Rattle.wasm_module.proofs.writing.write.Goals as goal

pub returns : goal.returns
returns c =
    let m = c.args.m.now in
    let begun : Appends (SpellsItself header) [] c.put_itself.new.to = subst (λ (text : List ℕ). Appends (SpellsItself text) [] c.put_itself.new.to) c.as_slice.ensures
    (subst (λ (old : List ℕ). Appends (SpellsItself c.as_slice.result.now) old c.put_itself.new.to) c.new-to.ensures c.in_ok-put_itself.ensures.ok) in
    let sections : Writes (SpellsSections SpellsPlaceless m) c.put_itself.new.to c.put_section-9.new.to = sections_written m c.put_itself.new.to c.put_section.new.to c.put_section-2.new.to c.put_section-3.new.to c.put_section-4.new.to c.put_section-5.new.to c.put_section-6.new.to c.put_section-7.new.to c.put_section-8.new.to c.put_data_count.new.to c.put_code_section.new.to c.put_section-9.new.to
    (same_items _ _ (SpellsVector SpellsFuncType) _ _ _ _ c.as_slice-2.ensures c.in_ok-put_section.ensures)
    (same_items _ _ (SpellsVector SpellsImport) _ _ _ _ c.as_slice-3.ensures c.in_ok-put_section-2.ensures)
    (same_items _ _ (SpellsVector SpellsU32) _ _ _ _ c.as_slice-4.ensures c.in_ok-put_section-3.ensures)
    (same_items _ _ (SpellsVector SpellsTableType) _ _ _ _ c.as_slice-5.ensures c.in_ok-put_section-4.ensures)
    (same_items _ _ (SpellsVector SpellsLimits) _ _ _ _ c.as_slice-6.ensures c.in_ok-put_section-5.ensures)
    (same_items _ _ (SpellsVector (SpellsGlobal true)) _ _ _ _ c.as_slice-7.ensures c.in_ok-put_section-6.ensures)
    (same_items _ _ (SpellsVector SpellsExport) _ _ _ _ c.as_slice-8.ensures c.in_ok-put_section-7.ensures)
    (same_items _ _ (SpellsVector (SpellsElement true)) _ _ _ _ c.as_slice-9.ensures c.in_ok-put_section-8.ensures)
    c.in_ok-put_data_count.ensures
    (same_items _ _ (SpellsVector (λ b. SpellsSized (SpellsPlaceless b))) _ _ _ _ c.as_slice-10.ensures c.in_ok-put_code_section.ensures)
    (same_items _ _ (SpellsVector (SpellsDataSegment true)) _ _ _ _ c.as_slice-11.ensures c.in_ok-put_section-9.ensures) in
    let all : Writes (IsModuleOf SpellsPlaceless m) [] c.put_section-9.new.to = facts_written {F = AddsUp m} (Writes-then (Writes-from begun) sections) in
    Writes-same (placed m) (forgets m) all
