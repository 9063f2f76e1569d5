pub mod Made
pub mod Found
pub mod Typed
pub mod Named
pub mod Held
pub mod Rows
pub mod Judged
pub mod Laws
pub use Rattle.partial_items.specs.partial_rules as partial_rules
