pub mod Loose
pub mod Modes
pub mod ReadAt
pub mod Chunks
pub use Rattle.link_rules.proofs.image_emit_lemmas as image_emit_lemmas
pub use Rattle.lib_index.proofs as lib_index_lemmas
pub use Rattle.name_meanings.proofs.name_entries_lemmas as name_entries_lemmas
pub use Rattle.name_meanings.proofs as name_meanings_lemmas
pub use Rattle.name_meanings.proofs.name_entries_lemmas.object_file_lemmas as object_file_lemmas
pub use Rattle.reloc_apply.proofs as reloc_apply_lemmas
pub use Rattle.wl_fan.proofs as wl_fan_lemmas
