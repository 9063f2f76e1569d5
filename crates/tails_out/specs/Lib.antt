pub use Rattle.link_tails.specs as link_tails
