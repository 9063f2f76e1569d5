pub mod Fault
pub mod Grammar
pub mod Subsections
pub mod Reading
pub mod Readers
pub mod ReaderLaws
pub mod Stays
pub mod Bounds
pub mod Writers
pub mod WriterLaws
pub mod Examples
pub use Rattle.wl_base.specs as wl_base
pub use Rattle.leb_codec.specs as leb_codec
