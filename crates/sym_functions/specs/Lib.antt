pub mod Bases
pub mod SoughtOf
pub use Rattle.sym_parts.specs as sym_parts
pub use Rattle.link_image.specs as link_image
