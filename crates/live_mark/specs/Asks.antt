-- What a round asks to be marked.
use Rattle.std.specs.Prelude.{◌≡◌, ℕ, ◌^◌, ◌<◌, Bool, false, cond, List, [], ◌∷◌, ◌++◌, length, slice_index, slice_index_or}
use Rattle.mark_bits.specs.declared.party.Party.{Party}
use Rattle.mark_bits.specs.Words.{Among}
use Rattle.mark_bits.specs.Seats.{SeatView, BitsView, IsSeatOf}

-- each of the chunks is below the count
abbrev pub Below : ℕ → List ℕ → Type 0
Below count cs = (c : ℕ) → Among c cs → c < count

-- every chunk refers to chunks below the count alone
abbrev pub AllBelow : List (List ℕ) → Type 0
AllBelow targets = (c : ℕ) → Below (length targets) (slice_index_or targets c [])

-- the chunks that a place of a round marks: in the first round the root that stands there, in a later one what the chunk there refers to
abbrev pub asked_by : Bool → List (List ℕ) → ℕ → List ℕ
asked_by rooting targets c = cond rooting (c ∷ []) (slice_index_or targets c [])

-- the chunks that all places mark, one place after another
abbrev pub asks : Bool → List (List ℕ) → List ℕ → List ℕ
asks rooting targets [] = []
asks rooting targets (c ∷ cs) = asked_by rooting targets c ++ asks rooting targets cs

-- what these places ask for can be marked
pub record IsPlan (b : BitsView) (rooting : Bool) (targets : List (List ℕ)) (places : List ℕ) : Type 0 where
  pub short : length places < 2 ^ 32
  pub rows : rooting ≡ false → (i : ℕ) → i < length places → slice_index places i < length targets
  pub below : Below b.chunks (asks rooting targets places)

-- The seat marked what was asked for. Where no memory was refused, what it marked first was kept
pub record RoundDone (b : BitsView) (before : Party) (asked : List ℕ) (s : SeatView) (fresh : List ℕ) (refused : Bool) : Type 0 where
  pub own : IsSeatOf b s
  pub width : s.party.width ≡ before.width
  pub marked : s.party.marked ≡ before.marked ++ asked
  pub first : refused ≡ false → s.party.first ≡ before.first ++ fresh
