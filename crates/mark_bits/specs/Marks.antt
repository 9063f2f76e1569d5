-- Parallel marking as a machine over events: parties set bits one after another, in any order. Nothing here knows of threads or tables.
use Rattle.std.specs.Prelude.{◌≢◌, ℕ, ◌+◌, ◌-◌, ◌<◌, ◌≤◌, ◌==◌, cond, List, [], ◌∷◌, ◌++◌, slice_index_or, slice_set, replicate}
use Rattle.mark_bits.specs.declared.party.Party.{Party}
use Rattle.mark_bits.specs.Words.{word_count, bit_of, set_bit}

-- a party that has marked nothing
abbrev pub starter : ℕ → Party
starter width = record { width = width; marked = []; first = [] }

-- a party that was joined into another
abbrev pub spent : Party
spent = starter 0

-- a party after it marked c and found the bit clear
abbrev pub marked_first : Party → ℕ → Party
marked_first v c = record { width = v.width; marked = v.marked ++ c ∷ []; first = v.first ++ c ∷ [] }

-- a party after it marked c and found the bit set
abbrev pub marked_again : Party → ℕ → Party
marked_again v c = record { width = v.width; marked = v.marked ++ c ∷ []; first = v.first }

-- a party after it marked c and found the bit b
abbrev pub with_mark : Party → ℕ → ℕ → Party
with_mark v c b = cond (b == 0) (marked_first v c) (marked_again v c)

-- what a party keeps when it is split
abbrev pub kept_part : ℕ → Party → Party
kept_part w v = record { width = v.width - w; marked = v.marked; first = v.first }

-- a party that took in another
abbrev pub joined : Party → Party → Party
joined v w = record { width = v.width + w.width; marked = v.marked ++ w.marked; first = v.first ++ w.first }

-- the words of the bits, and all parties that there ever were
pub record Marks : Type 0 where
  pub words : List ℕ
  pub parties : List Party

-- a party marks a chunk, is split by a width, or takes in another party; parties are named by their places
pub data Event : Type 0 where
  mark : ℕ → ℕ → Event
  split : ℕ → ℕ → Event
  join : ℕ → ℕ → Event

abbrev pub party_at : Marks → ℕ → Party
party_at r p = slice_index_or r.parties p spent

-- the party is there, and isn't spent
abbrev pub Stands : Marks → ℕ → Type 0
Stands r p = 0 < (party_at r p).width

-- the marks after an event
abbrev pub after : Marks → Event → Marks
after r (mark p c) = record { words = set_bit r.words c; parties = slice_set r.parties p (with_mark (party_at r p) c (bit_of r.words c)) }
after r (split p w) = record { words = r.words; parties = slice_set r.parties p (kept_part w (party_at r p)) ++ starter w ∷ [] }
after r (join p q) = record { words = r.words; parties = slice_set (slice_set r.parties p (joined (party_at r p) (party_at r q))) q spent }

-- the marks after all events
abbrev pub end : Marks → List Event → Marks
end r [] = r
end r (e ∷ es) = end (after r e) es

-- all bits are clear, and one party has the whole width
abbrev pub opening_marks : ℕ → ℕ → Marks
opening_marks width chunks = record { words = replicate (word_count chunks) 0; parties = starter width ∷ [] }

module _ (chunks : ℕ) where
  -- the event may happen
  abbrev pub Fits : Marks → Event → Type 0
  Fits r (mark p c) = Stands r p × (c < chunks)
  Fits r (split p w) = (1 ≤ w) × (w < (party_at r p).width)
  Fits r (join p q) = Stands r p × Stands r q × (q ≢ p)

  -- they may happen one after another
  abbrev pub AllFit : Marks → List Event → Type 0
  AllFit r [] = Unit {0}
  AllFit r (e ∷ es) = Fits r e × AllFit (after r e) es
