-- Rounds of marks. A round is a list of events, and a run is a list of rounds.
use Rattle.std.specs.Prelude.{◌≡◌, ◌≢◌, ℕ, ◌+◌, ◌≤◌, ◌==◌, cond, List, [], ◌∷◌, ◌++◌, length, slice_index_or}
use Rattle.mark_bits.specs.Words.{times, Among, bit_of}
use Rattle.mark_bits.specs.Marks.{Marks, Event, mark, split, join, after, end, opening_marks, AllFit}
use Rattle.mark_bits.specs.Reach.{Reached}

-- the chunks that the events mark, in order
abbrev pub marked_of : List Event → List ℕ
marked_of [] = []
marked_of (mark p c ∷ es) = c ∷ marked_of es
marked_of (split p w ∷ es) = marked_of es
marked_of (join p q ∷ es) = marked_of es

-- the chunks whose mark answered true, in order
abbrev pub firsts_of : Marks → List Event → List ℕ
firsts_of r [] = []
firsts_of r (mark p c ∷ es) = cond (bit_of r.words c == 0) (c ∷ []) [] ++ firsts_of (after r (mark p c)) es
firsts_of r (split p w ∷ es) = firsts_of (after r (split p w)) es
firsts_of r (join p q ∷ es) = firsts_of (after r (join p q)) es

-- the chunks that these chunks refer to
abbrev pub targets_of : List (List ℕ) → List ℕ → List ℕ
targets_of targets [] = []
targets_of targets (c ∷ cs) = slice_index_or targets c [] ++ targets_of targets cs

-- every chunk that is asked for was marked, and no other
abbrev pub Exactly : List ℕ → List ℕ → Type 0
Exactly asked done = (c : ℕ) → (Among c asked → Among c done) × (Among c done → Among c asked)

-- the marks after all rounds
abbrev pub run_end : Marks → List (List Event) → Marks
run_end r [] = r
run_end r (es ∷ rounds) = run_end (end r es) rounds

-- the chunks whose mark answered true in these rounds, in order
abbrev pub run_firsts : Marks → List (List Event) → List ℕ
run_firsts r [] = []
run_firsts r (es ∷ rounds) = firsts_of r es ++ run_firsts (end r es) rounds

module _ (chunks : ℕ) (targets : List (List ℕ)) where
  -- a complete round: it marks what is asked for, in any order and by any parties, once or more often
  abbrev pub IsRound : Marks → List ℕ → List Event → Type 0
  IsRound r asked es = AllFit chunks r es × Exactly asked (marked_of es)

  -- each round is complete, and the last one, and none before it, first marked no chunk
  abbrev pub IsRunFrom : Marks → List ℕ → List (List Event) → Type 0
  IsRunFrom r asked [] = ⊥
  IsRunFrom r asked (es ∷ []) = IsRound r asked es × (firsts_of r es ≡ [])
  IsRunFrom r asked (es ∷ fs ∷ rounds) = IsRound r asked es × (firsts_of r es ≢ []) × IsRunFrom (end r es) (targets_of targets (firsts_of r es)) (fs ∷ rounds)

-- a complete run of rounds: the first asks for the roots, and each later one for what those chunks refer to whose mark answered true in the round before
pub record IsRun (width chunks : ℕ) (targets : List (List ℕ)) (roots : List ℕ) (rounds : List (List Event)) : Type 0 where
  pub some_width : 1 ≤ width
  pub small : width ≤ 64
  pub complete : IsRunFrom chunks targets (opening_marks width chunks) roots rounds

-- a complete run has at most as many rounds as chunks plus one
abbrev pub RoundsEnd : Type 0
RoundsEnd = (width chunks : ℕ) (targets : List (List ℕ)) (roots : List ℕ) (rounds : List (List Event)) → IsRun width chunks targets roots rounds → length rounds ≤ chunks + 1

-- exactly what the roots reach is set, and exactly one mark of each such chunk answered true
pub record Outcome (width chunks : ℕ) (targets : List (List ℕ)) (roots : List ℕ) (rounds : List (List Event)) : Type 0 where
  pub sound : (c : ℕ) → bit_of (run_end (opening_marks width chunks) rounds).words c ≡ 1 → Reached targets roots c
  pub whole : (c : ℕ) → Reached targets roots c → bit_of (run_end (opening_marks width chunks) rounds).words c ≡ 1
  pub once : (c : ℕ) → Reached targets roots c → times c (run_firsts (opening_marks width chunks) rounds) ≡ 1

-- so it is after every complete run, whatever the order of marks
abbrev pub EveryRunOfRounds : Type 0
EveryRunOfRounds = (width chunks : ℕ) (targets : List (List ℕ)) (roots : List ℕ) (rounds : List (List Event)) → IsRun width chunks targets roots rounds → Outcome width chunks targets roots rounds
