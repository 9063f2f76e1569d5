-- What the jobs of groups offer at least for a word: the winner of the group.
use Rattle.std.proofs.Common.{◌≡◌, ℕ, ◌<◌, min, Bool, true, false, cond, ◌||◌, List, [], ◌∷◌, map, find, slice_get, bytes_eq, Some, None, IfSome, option_map, refl, sym, ap, subst, ◌∙◌, arith}
use Rattle.std.specs.Prelude.{Option}
use Rattle.std.specs.List.{list_any, IsDistinct}
use Rattle.least_race.specs.Jobs.{Job, offers_in}
use Rattle.least_race.specs.Race.{offer}
use Rattle.name_entries.specs.wl_base.Names.{number_of}
use Rattle.name_entries.specs.linking_section.declared.group.Group.{Group}
use Rattle.name_entries.specs.object_file.declared.object.Object.{Object}
use Rattle.name_entries.specs.name_rules.Entries.{group_winner, has_group}
use Rattle.name_entries.specs.View.{InputsRise}
use Rattle.name_jobs.specs.Offers.{group_offer, group_jobs}
use Rattle.name_jobs.proofs.Items.{LeastIn, all_offers}
use Rattle.name_jobs.proofs.Numbers.{Places, placed}
use Rattle.name_jobs.proofs.Winning.{skips, takes, joins, lower, lower_of}

-- ---- one object

lower_own : (b : Bool) (r : ℕ) → lower r (cond b (Some r) None) ≡ Some r
lower_own true r = ap Some (let u : min r r ≡ r = omega arith in u)
lower_own false r = refl

next : (i r : ℕ) (job : Job) (own rest : Bool) (number : Option ℕ) → (own ≡ true → number ≡ Some i) → (number ≡ Some i → own ≡ true)
    → LeastIn (offers_in job) i (cond rest (Some r) None)
    → LeastIn (offers_in (option_map (λ n. offer n r) number ∷ job)) i (cond (own || rest) (Some r) None)
next i r job true rest number there back l =
    subst (λ z. LeastIn (offers_in (option_map (λ n. offer n r) z ∷ job)) i (Some r)) (sym (there refl))
    (subst (λ m. LeastIn (offer i r ∷ offers_in job) i m) (lower_own rest r) (takes (offer i r) (offers_in job) i (cond rest (Some r) None) refl l))
next i r job false rest None there back l = l
next i r job false rest (Some n) there back l =
    skips (offer n r) (offers_in job) i (cond rest (Some r) None) (λ e. let bad : false ≡ true = back (ap Some e) in absurd cc) l

-- the groups of one object offer its input, where one has the name
groups_in : (names : List (List ℕ)) (i : ℕ) (name : List ℕ) → Places names i name → (o : Object) (gs : List Group)
    → LeastIn (offers_in (map (group_offer names o) gs)) i (cond (list_any (λ g. bytes_eq g.name name) gs) (Some o.input) None)
groups_in names i name p o [] = λ x m. absurd m
groups_in names i name p o (g ∷ gs) =
    next i o.input (map (group_offer names o) gs) (bytes_eq g.name name) (list_any (λ h. bytes_eq h.name name) gs) (number_of names g.name)
    (p.number g.name) (p.named g.name)
    (groups_in names i name p o gs)

-- ---- all objects

-- inputs rise, so that the first one found is the least
above : (last : ℕ) (test : Object → Bool) (objects : List Object) → InputsRise last objects
    → IfSome (option_map (λ o. o.input) (find test objects)) (λ n. last < n)
above last test [] rise = tt
above last test (o ∷ os) rise = by (test o) (above o.input test os rise.2)
  where
    higher : (f : Option Object) → IfSome (option_map (λ p. p.input) f) (λ n. o.input < n) → IfSome (option_map (λ p. p.input) f) (λ n. last < n)
    higher None h = tt
    higher (Some p) h = let first = rise.0 in omega arith

    by : (b : Bool) → IfSome (option_map (λ p. p.input) (find test os)) (λ n. o.input < n)
        → IfSome (option_map (λ p. p.input) (cond b (Some o) (find test os))) (λ n. last < n)
    by true h = rise.0
    by false h = higher (find test os) h

first_is : (b : Bool) (r : ℕ) (n : Option ℕ) → IfSome n (λ k. r < k) → lower_of (cond b (Some r) None) n ≡ cond b (Some r) n
first_is true r None h = refl
first_is true r (Some k) h = ap Some (let u : min r k ≡ r = omega arith in u)
first_is false r n h = refl

found_input : (b : Bool) (o : Object) (f : Option Object)
    → option_map (λ p. p.input) (cond b (Some o) f) ≡ cond b (Some o.input) (option_map (λ p. p.input) f)
found_input true o f = refl
found_input false o f = refl

groups_from : (names : List (List ℕ)) (i : ℕ) (name : List ℕ) → Places names i name → (last : ℕ) (objects : List Object) → InputsRise last objects
    → LeastIn (all_offers (group_jobs names objects)) i (group_winner objects name)
groups_from names i name p last [] rise = λ o m. absurd m
groups_from names i name p last (o ∷ os) rise =
    let own = offers_in (map (group_offer names o) o.groups) in
    let both = joins own (all_offers (group_jobs names os)) i (cond (has_group name o) (Some o.input) None) (group_winner os name)
    (groups_in names i name p o o.groups) (groups_from names i name p o.input os rise.2) in
    subst (λ m. LeastIn (all_offers (group_jobs names (o ∷ os))) i m)
    (first_is (has_group name o) o.input (group_winner os name) (above o.input (has_group name) os rise.2)
    ∙ sym (found_input (has_group name o) o (find (has_group name) os)))
    both

-- the group's winner is the least input that is offered for the number of its name
pub groups_least : (names : List (List ℕ)) (objects : List Object) (i : ℕ) (name : List ℕ) → IsDistinct bytes_eq names → InputsRise 0 objects
    → slice_get names i ≡ Some name
    → LeastIn (all_offers (group_jobs names objects)) i (group_winner objects name)
groups_least names objects i name distinct rise at = groups_from names i name (placed names i name distinct at) 0 objects rise
