-- What contracts see of a race and of a seat.
use Rattle.std.specs.Prelude.{◌≡◌, ℕ, ◌+◌, ◌<◌, List, length}
use Rattle.atomic_table.specs.Seated.{TableId}
use Rattle.least_race.specs.declared.party.Offer.{Offer}
use Rattle.least_race.specs.declared.party.Party.{Party}
use Rattle.least_race.specs.Jobs.{Job, IsItem, WordsBelow}
use Rattle.least_race.specs.Race.{times}

pub record SeatView : Type 0 where
  pub race : TableId
  pub party : Party
  pub last : ℕ

pub record RaceView : Type 0 where
  pub race : TableId
  pub width : ℕ
  pub base : List ℕ
  pub jobs : List Job

-- the seat is one of this race
abbrev pub IsSeatOf : RaceView → SeatView → Type 0
IsSeatOf r s = (s.race ≡ r.race) × (s.party.jobs ≡ length r.jobs) × (s.party.base ≡ r.base)

-- the offer is one of a job that the party claimed
abbrev pub MayPropose : List Job → Party → Offer → Type 0
MayPropose jobs v o = (job : ℕ) × (item : ℕ) × (0 < times job v.claims) × IsItem jobs job item o

-- the table fits its jobs, and the room for the answer fits the table
pub record IsTable (table : TableId) (count room : ℕ) (base : List ℕ) (jobs : List Job) : Type 0 where
  pub counted : count ≡ length jobs
  pub words : table.words ≡ length base + 1
  pub slots : table.slots ≡ 0
  pub answer : room ≡ length base
  pub below : WordsBelow (length base) jobs
