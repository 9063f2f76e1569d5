-- A foreign type stays the answer, whatever bytes follow it.
use Rattle.std.proofs.Common.{ℕ, pos, ◌++◌, Ok, Err, refl}
use Rattle.wasm_grammar.specs.wl_base.declared.item.Item.TheVariants as items
use Rattle.wasm_grammar.specs.declared.fault.Stop.TheVariants.{Foreign}
use Rattle.wasm_grammar.specs.Grammar.{SpellsByte, SpellsVector}
use Rattle.wasm_grammar.specs.Reading.{byte_at, u32_at, s32_at, vector_at}
use Rattle.wasm_grammar.specs.ReaderLaws.{byte_reader, u32_reader, vector_reader}
use Rattle.wasm_grammar.specs.Stays.{Stays, IsSteady, bind_stays, step_stays, cond_stays, byte_stays, u32_stays, s32_stays, vector_stays}
use Rattle.reloc_section.specs.Kinds.{is_read, has_addend}
use Rattle.reloc_section.specs.Relocs.{SpellsAddend, SpellsReloc, known_kind, addend_at, reloc_at, reloc_section_at}
use Rattle.reloc_section.specs.RelocLaws.{addend_reader, reloc_reader}

kind_stays : (kind : ℕ) → Stays (known_kind kind) (known_kind kind)
kind_stays kind = cond_stays (is_read kind) (Ok kind) (Err (Foreign (items.RelocType kind))) (Ok kind) (Err (Foreign (items.RelocType kind))) tt refl

addend_stays : (kind : ℕ) → IsSteady (addend_at kind)
addend_stays kind end other bytes more = cond_stays (has_addend kind) (s32_at end bytes) (Ok (pos 0, bytes)) (s32_at other (bytes ++ more)) (Ok (pos 0, bytes ++ more)) (s32_stays end other bytes more) tt

pub reloc_stays : IsSteady reloc_at
unfolding reloc_at
reloc_stays end other bytes more =
    bind_stays SpellsByte byte_at byte_reader byte_stays end other bytes more _ _ (λ byte a.
    step_stays (known_kind byte) (known_kind byte) _ _ (kind_stays byte) (λ kind e. e) (λ kind.
    bind_stays _ u32_at u32_reader u32_stays end other a more _ _ (λ offset b.
    bind_stays _ u32_at u32_reader u32_stays end other b more _ _ (λ index c.
    bind_stays (SpellsAddend (has_addend kind)) (addend_at kind) (addend_reader kind) (addend_stays kind) end other c more _ _ (λ addend d. tt)))))

pub reloc_section_stays : IsSteady reloc_section_at
unfolding reloc_section_at
reloc_section_stays end other bytes more =
    bind_stays _ u32_at u32_reader u32_stays end other bytes more _ _ (λ target a.
    bind_stays (SpellsVector SpellsReloc) (vector_at reloc_at) (vector_reader SpellsReloc reloc_at reloc_reader) (vector_stays SpellsReloc reloc_at reloc_reader reloc_stays) end other a more _ _ (λ entries b. tt))
