pub use Rattle.object_file.proofs as object_file_lemmas
