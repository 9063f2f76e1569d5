-- Candidates of two links that are the same files under other numbers.
use Rattle.std.specs.Prelude.{◌≡◌, ℕ, List, [], Result, Ok, Err, slice_index_or}
use Rattle.name_rules.specs.object_file.wl_base.declared.fault.Fault.{Fault}
use Rattle.name_rules.specs.object_file.declared.object.Object.{Object}
use Rattle.round_rules.specs.Rounds.{Candidate}
use Rattle.partial_laws.specs.Inputs.{as_input}

-- What is read of the same bytes as two inputs: the same object, or of each a fault.
abbrev pub AlikeRead : ℕ → ℕ → Result Object Fault → Result Object Fault → Type 0
AlikeRead input other (Ok o) (Ok u) = (o.input ≡ input) × (u ≡ as_input other o)
AlikeRead input other (Ok o) (Err g) = ⊥
AlikeRead input other (Err f) (Ok u) = ⊥
AlikeRead input other (Err f) (Err g) = Unit {0}

-- A candidate of the one link, and that of the other whose number is the moved one.
pub record AlikeCandidate (move : ℕ → ℕ) (files other_files : List (List ℕ)) (c d : Candidate) : Type 0 where
  pub input : d.input ≡ move c.input
  pub file : slice_index_or other_files d.file [] ≡ slice_index_or files c.file []
  pub start : d.start ≡ c.start
  pub len : d.len ≡ c.len
  pub is_member : d.is_member ≡ c.is_member
  pub by_need : d.by_need ≡ c.by_need
  pub offers : d.offers ≡ c.offers
  pub object : AlikeRead c.input d.input c.object d.object
