pub mod ModeOf
pub mod Candidates
pub mod Program
pub mod Marks
pub mod Keys
pub mod Values
pub mod Loader
pub mod Output
pub mod LinkOf
pub mod Examples
pub mod NameRows
pub mod DataRows
pub mod LoadingRows
pub mod MoreRows
pub mod FurtherRows
pub mod SharedRows
pub mod Rows
pub use Rattle.round_rules.specs as round_rules
pub use Rattle.dylink_out.specs.image_emit as image_emit
pub use Rattle.name_rules.specs as name_rules
pub use Rattle.name_rules.specs.object_file as object_file
