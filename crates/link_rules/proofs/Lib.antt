pub use Rattle.dylink_out.proofs.image_emit_lemmas as image_emit_lemmas
