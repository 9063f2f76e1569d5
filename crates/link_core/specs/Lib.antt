pub mod Answers
pub mod Linked
pub mod Whole
pub mod Checked
pub mod Loading
pub mod Linking
pub mod Chosen
pub mod Prepared
pub mod Making
pub mod Tails
pub mod Places
pub mod Telling
pub use Rattle.valid_shared_links.specs.valid_links as valid_links
pub use Rattle.valid_shared_links.specs.valid_links.link_runs as link_runs
pub use Rattle.valid_shared_links.specs.valid_links.output_check as output_check
pub use Rattle.called_variants.specs as called_variants
pub use Rattle.mismatch_rules.specs as mismatch_rules
