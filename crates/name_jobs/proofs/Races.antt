-- How the two races end.
use Rattle.std.proofs.Common.{◌≡◌, ⊎_elim, ℕ, ◌-◌, ◌<◌, ◌≤◌, ◌^◌, refl, List, length, slice_get, slice_index, slice_index_or, Some, None, unwrap_or, option_map, sym, subst, arith}
use Rattle.std.specs.Prelude.{Option, bytes_eq}
use Rattle.std.specs.List.{IsDistinct}
use Rattle.std.proofs.lemmas.List.{length-replicate, get_or-replicate}
use Rattle.std.proofs.lemmas.Option.{slice_get_within}
use Rattle.name_entries.specs.object_file.declared.object.Object.{Object}
use Rattle.name_entries.specs.made_symbols.declared.mode.Mode.{Mode}
use Rattle.least_race.specs.Jobs.{Job, WordsBelow, IsLeastOf, IsOffered}
use Rattle.least_race.specs.Schedule.{IsRun, begun}
use Rattle.least_race.proofs.Schedules.{every_complete}
use Rattle.least_race.specs.Race.{end}
use Rattle.symbol_race.specs.Ranks.{RanksMade}
use Rattle.race_share.specs.Offered.{RanksBelow, IsLeastOffer}
use Rattle.name_entries.specs.link_names.Numbered.{Numbered, AreNumbers}
use Rattle.name_entries.specs.name_rules.Entries.{entries, group_winner}
use Rattle.name_entries.specs.name_rules.Meanings.{entry_rank, winner}
use Rattle.name_entries.specs.View.{InputsRise, GroupsAre, WinnersAre, NonePast}
use Rattle.name_jobs.specs.Offers.{group_jobs, name_jobs}
use Rattle.name_jobs.specs.Races.{unset, unset_words, EndsAs, NameRace, GroupRace}
use Rattle.name_jobs.proofs.Items.{in_item, item_in, one_least, LeastIn, all_offers}
use Rattle.name_jobs.proofs.Made.{few_groups, few_names, group_words_below, name_words_below, group_ranks_below, name_ranks_made}
use Rattle.name_jobs.proofs.GroupOffers.{groups_least}
use Rattle.name_jobs.proofs.NameOffers.{names_least}

-- ---- the calls

pub groups_are : (objects : List Object) (n : Numbered) (jobs : List Job) (groups : List (Option ℕ)) → IsDistinct bytes_eq n.names
    → InputsRise 0 objects
    → jobs ≡ group_jobs n.names objects → ((i : ℕ) → IsLeastOffer jobs i (slice_index_or groups i None)) → GroupsAre n.names objects groups
groups_are objects n jobs groups differ rise e least i name at =
    one_least (group_jobs n.names objects) i (slice_index_or groups i None) (group_winner objects name)
    (subst (λ js. IsLeastOffer js i (slice_index_or groups i None)) e (least i))
    (groups_least n.names objects i name differ rise at)

pub winners_are : (mode : Mode) (objects : List Object) (n : Numbered) (jobs : List Job) (winners : List (Option ℕ)) → AreNumbers mode objects n
    → jobs ≡ name_jobs n.names mode objects → ((i : ℕ) → IsLeastOffer jobs i (slice_index_or winners i None))
    → WinnersAre n.names (entries mode objects) winners
winners_are mode objects n jobs winners are e least i name at =
    one_least (name_jobs n.names mode objects) i (slice_index_or winners i None) (option_map entry_rank (winner (entries mode objects) name))
    (subst (λ js. IsLeastOffer js i (slice_index_or winners i None)) e (least i))
    (names_least n.names mode objects i name are.differ at)

-- no name has a number behind the others, and nothing is offered for it
pub none_past : (mode : Mode) (objects : List Object) (n : Numbered) (jobs : List Job) (winners : List (Option ℕ))
    → jobs ≡ name_jobs n.names mode objects → ((i : ℕ) → IsLeastOffer jobs i (slice_index_or winners i None)) → NonePast (length n.names) winners
none_past mode objects n jobs winners e least i past = by (slice_index_or winners i None) (subst (λ js. IsLeastOffer js i (slice_index_or winners i None)) e (least i))
  where
    by : (o : Option ℕ) → IsLeastOffer (name_jobs n.names mode objects) i o → o ≡ None
    by None h = refl
    by (Some m) h = absurd (let t = h.1 in let low = name_words_below n.names mode objects t.0 t.1 t.2 t.3 in let at = t.4 in omega (arith, low, at, past))

-- ---- the laws

-- a word that begins unset ends as the least rank that is offered
ends_least : (jobs : List Job) (i m : ℕ) (n : Option ℕ) → RanksBelow (2 ^ 64 - 1) jobs → IsLeastOf jobs i unset m → LeastIn (all_offers jobs) i n
    → m ≡ unwrap_or n unset
ends_least jobs i m None below h l = ⊎_elim (λ (e : m ≡ unset). e)
    (λ (t : IsOffered jobs i m). absurd (l t.2 (item_in jobs t.0 t.1 t.2 t.3.2) t.4)) h.2
ends_least jobs i m (Some r) below h l =
    let u = l.1 in let at = in_item jobs u.0 u.1 in let e = u.3 in
    let low = h.1 at.0 at.1 u.0 at.2 u.2 in
    ⊎_elim (λ (e' : m ≡ unset). let top = below at.0 at.1 u.0 at.2 in let same : m ≡ r = omega arith in same)
    (λ (t : IsOffered jobs i m). let other = l.0 t.2 (item_in jobs t.0 t.1 t.2 t.3.2) t.4 in let f = t.5 in let same : m ≡ r = omega arith in
    same) h.2

-- a race over jobs that it can run ends as what is the least for each name
ends : (names : List (List ℕ)) (jobs : List Job) (said : List ℕ → Option ℕ) → length jobs < 2 ^ 31 → WordsBelow (length names) jobs
    → RanksBelow (2 ^ 64 - 1) jobs
    → ((i : ℕ) (name : List ℕ) → slice_get names i ≡ Some name → LeastIn (all_offers jobs) i (said name)) → EndsAs names jobs said
ends names jobs said few words below least width es some_width small schedule complete i name at =
    let base = unset_words names in
    let long : length base ≡ length names = length-replicate (length names) unset in
    let run : IsRun jobs base width es = record {
      some_width = some_width;
      small = small;
      few = few;
      words = subst (λ n. WordsBelow n jobs)
          (sym long) words;
      schedule = schedule;
    } in
    let within = slice_get_within names i name at in
    let word = get_or-replicate (length names) i unset 0 within in
    let m = slice_index (end (begun jobs base width) es).words i in
    let is : IsLeastOf jobs i (slice_index base i) m = every_complete jobs base width es run complete i (omega arith) in
    ends_least jobs i m (said name) below (subst (λ b. IsLeastOf jobs i b m) word is) (least i name at)

ranks_below : (jobs : List Job) → RanksMade jobs → RanksBelow (2 ^ 64 - 1) jobs
ranks_below jobs made job item o is = let m = made job item o is in let p = m.3 in let c = p.class in let i = p.input in let s = p.symbol in
    let e = m.4 in omega arith

inputs_below : (jobs : List Job) → RanksBelow (2 ^ 20) jobs → RanksBelow (2 ^ 64 - 1) jobs
inputs_below jobs below job item o is = let b = below job item o is in omega arith

pub name_race : NameRace
name_race mode objects n are rise =
    let jobs = name_jobs n.names mode objects in
    ends n.names jobs (λ name. option_map entry_rank (winner (entries mode objects) name)) (few_names n.names mode objects rise)
    (name_words_below n.names mode objects)
    (ranks_below jobs (name_ranks_made mode objects n are rise)) (λ i name at. names_least n.names mode objects i name are.differ at)

pub group_race : GroupRace
group_race mode objects n are rise =
    let jobs = group_jobs n.names objects in
    ends n.names jobs (group_winner objects) (few_groups n.names objects rise) (group_words_below n.names objects)
    (inputs_below jobs (group_ranks_below n.names objects rise)) (λ i name at. groups_least n.names objects i name are.differ rise at)
