pub mod Known
pub mod Listed
pub mod Ground
pub mod PlainLayout
pub mod BasesTold
pub mod OpsTold
pub mod CodeTold
pub mod FunctionsTold
pub mod Composed
pub use Rattle.link_image.proofs as link_image_lemmas
