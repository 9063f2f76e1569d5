-- What is answered where the jobs are asked.
use Rattle.std.proofs.Common.{◌≡◌, ℕ, zero, suc, ◌+◌, ◌^◌, ◌<◌, List, [], ◌∷◌, length, map, slice_get, slice_index_or, Some, None, option_map, refl, sym, ap, subst, ◌∙◌, arith}
use Rattle.std.specs.Prelude.{Option}
use Rattle.std.proofs.lemmas.List.{length-map}
use Rattle.least_race.specs.declared.party.Offer.{Offer}
use Rattle.least_race.specs.Jobs.{Job}
use Rattle.least_race.specs.Race.{offer}
use Rattle.name_entries.specs.wl_base.Names.{number_of}
use Rattle.name_entries.specs.linking_section.declared.group.Group.{Group}
use Rattle.name_entries.specs.object_file.declared.object.Object.{Object}
use Rattle.name_entries.specs.link_names.Numbered.{group_names}
use Rattle.name_entries.specs.linking_section.declared.symbol.Symbol.{Symbol}
use Rattle.name_entries.specs.linking_section.Flags.{is_weak}
use Rattle.name_entries.specs.made_symbols.declared.mode.Mode.{Mode}
use Rattle.name_entries.specs.made_symbols.declared.roles.Role.TheVariants.{CallCtors}
use Rattle.name_entries.specs.made_symbols.Made.{MadeSymbol, made, made_at, made_function}
use Rattle.symbol_race.specs.Ranks.{rank_of}
use Rattle.name_entries.specs.name_rules.Entries.{InputSymbol, made_from, entries_from, entry_in, symbols_of}
use Rattle.name_entries.specs.View.{InputsRise, entry_at}
use Rattle.name_entries.specs.declared.entry.EntryRef.{EntryRef}
use Rattle.name_entries.specs.Shown.{Shows, AreShown}
use Rattle.name_jobs.specs.Offers.{group_offer, group_jobs, entry_offer}
use Rattle.name_jobs.proofs.Made.{weak_class}

-- ---- groups

abbrev pub ranked : ℕ → ℕ → Offer
ranked rank n = offer n rank

same_count : (names : List (List ℕ)) (o : Object) (gs : List Group) (numbers : List ℕ)
    → map Some numbers ≡ map (number_of names) (map (λ g. g.name) gs)
    → length numbers ≡ length (map (group_offer names o) gs)
same_count names o gs numbers e =
    sym (length-map numbers Some) ∙ ap length e ∙ length-map (map (λ g. g.name) gs) (number_of names) ∙ length-map gs (λ g. g.name)
    ∙ sym (length-map gs (group_offer names o))

group_at : (names : List (List ℕ)) (o : Object) (gs : List Group) (numbers : List ℕ) → map Some numbers ≡ map (number_of names) (map (λ g. g.name) gs)
    → (item : ℕ)
    → option_map (ranked o.input) (slice_get numbers item) ≡ slice_index_or (map (group_offer names o) gs) item None
group_at names o [] [] e item = refl
group_at names o [] (n ∷ ns) e item = absurd cc
group_at names o (g ∷ gs) [] e item = absurd cc
group_at names o (g ∷ gs) (n ∷ ns) e zero = let own : Some n ≡ number_of names g.name = cc in ap (option_map (ranked o.input)) own
group_at names o (g ∷ gs) (n ∷ ns) e (suc item) = group_at names o gs ns
    (let rest : map Some ns ≡ map (number_of names) (map (λ h. h.name) gs) = cc in rest) item

-- how many groups an object has
pub groups_counted : (names : List (List ℕ)) (objects : List Object) (groups : List (List ℕ))
    → map (map Some) groups ≡ map (λ o. map (number_of names) (group_names o)) objects → (job : ℕ)
    → length (slice_index_or groups job []) ≡ length (slice_index_or (group_jobs names objects) job [])
groups_counted names [] [] e job = refl
groups_counted names [] (ns ∷ nss) e job = absurd cc
groups_counted names (o ∷ os) [] e job = absurd cc
groups_counted names (o ∷ os) (ns ∷ nss) e zero = same_count names o o.groups ns
    (let own : map Some ns ≡ map (number_of names) (group_names o) = cc in own)
groups_counted names (o ∷ os) (ns ∷ nss) e (suc job) = groups_counted names os nss
    (let rest : map (map Some) nss ≡ map (λ p. map (number_of names) (group_names p)) os = cc in rest) job

-- the offer of a group
pub group_asked : (names : List (List ℕ)) (objects : List Object) (groups : List (List ℕ))
    → map (map Some) groups ≡ map (λ o. map (number_of names) (group_names o)) objects
    → (job item : ℕ) (d : Object) → job < length objects
    → option_map (ranked (slice_index_or objects job d).input) (slice_get (slice_index_or groups job []) item) ≡ slice_index_or
    (slice_index_or (group_jobs names objects) job []) item None
group_asked names [] groups e job item d below = absurd (omega arith)
group_asked names (o ∷ os) [] e job item d below = absurd cc
group_asked names (o ∷ os) (ns ∷ nss) e zero item d below = group_at names o o.groups ns
    (let own : map Some ns ≡ map (number_of names) (group_names o) = cc in own) item
group_asked names (o ∷ os) (ns ∷ nss) e (suc job) item d below =
    group_asked names os nss (let rest : map (map Some) nss ≡ map (λ p. map (number_of names) (group_names p)) os = cc in
    rest) job item d (omega arith)

-- what is answered for a group, by the number that it has
pub group_answer : (names : List (List ℕ)) (objects : List Object) (groups : List (List ℕ))
    → map (map Some) groups ≡ map (λ o. map (number_of names) (group_names o)) objects
    → (job item : ℕ) (d : Object) → job < length objects → (number : Option ℕ) → slice_get (slice_index_or groups job []) item ≡ number
    → (rank : ℕ) → rank ≡ (slice_index_or objects job d).input → (jobs : List Job) → group_jobs names objects ≡ jobs
    → option_map (ranked rank) number ≡ slice_index_or (slice_index_or jobs job []) item None
group_answer names objects groups e job item d below number has rank same jobs now =
    ap (λ k. option_map (ranked k) number) same
    ∙ ap (option_map (ranked (slice_index_or objects job d).input)) (sym has)
    ∙ group_asked names objects groups e job item d below
    ∙ ap (λ (js : List Job). slice_index_or (slice_index_or js job []) item None) now

-- ---- names

abbrev pub made_rank : MadeSymbol → ℕ → ℕ
made_rank m k = rank_of m.class 0 k

made_asked_from : (names : List (List ℕ)) (place : ℕ) (ms : List MadeSymbol) (numbers : List ℕ)
    → map Some numbers ≡ map (λ m. number_of names m.name) ms → (k : ℕ) (d : MadeSymbol)
    → option_map (ranked (made_rank (slice_index_or ms k d) (place + k))) (slice_get numbers k) ≡ slice_index_or
    (map (entry_offer names) (made_from place ms)) k None
made_asked_from names place [] [] e k d = refl
made_asked_from names place [] (n ∷ ns) e k d = absurd cc
made_asked_from names place (m ∷ ms) [] e k d = absurd cc
made_asked_from names place (m ∷ ms) (n ∷ ns) e zero d =
    let own : Some n ≡ number_of names m.name = cc in
    ap (λ at. Some (offer n (made_rank m at))) (let same : place + 0 ≡ place = omega arith in same) ∙ ap (option_map (ranked (made_rank m place))) own
made_asked_from names place (m ∷ ms) (n ∷ ns) e (suc k) d =
    let rest : map Some ns ≡ map (λ p. number_of names p.name) ms = cc in
    ap (λ at. option_map (ranked (made_rank (slice_index_or ms k d) at)) (slice_get ns k)) (let same : place + suc k ≡ place + 1 + k = omega arith in
    same)
    ∙ made_asked_from names (place + 1) ms ns rest k d

-- the offer of a linker-made symbol
pub made_asked : (names : List (List ℕ)) (mode : Mode) (numbers : List ℕ) → map Some numbers ≡ map (λ m. number_of names m.name) (made mode) → (k : ℕ)
    → option_map (ranked (made_rank (made_at mode k) k)) (slice_get numbers k) ≡ slice_index_or
    (map (entry_offer names) (made_from 0 (made mode))) k None
made_asked names mode numbers e k =
    ap (λ at. option_map (ranked (made_rank (made_at mode k) at)) (slice_get numbers k)) (let same : k ≡ 0 + k = omega arith in same)
    ∙ made_asked_from names 0 (made mode) numbers e k (made_function CallCtors [])

-- what is answered for one, by the number that it has
pub made_answer : (names : List (List ℕ)) (mode : Mode) (numbers : List ℕ) → map Some numbers ≡ map (λ m. number_of names m.name) (made mode)
    → (k : ℕ) (number : Option ℕ) → slice_get numbers k ≡ number
    → (class rank : ℕ) → class ≡ (made_at mode k).class → rank ≡ rank_of class 0 k
    → option_map (ranked rank) number ≡ slice_index_or (map (entry_offer names) (made_from 0 (made mode))) k None
made_answer names mode numbers e k number has class rank of_class of_rank =
    ap (λ r. option_map (ranked r) number) (of_rank ∙ ap (λ c. rank_of c 0 k) of_class)
    ∙ ap (option_map (ranked (made_rank (made_at mode k) k))) (sym has) ∙ made_asked names mode numbers e k

-- ---- the symbols of objects

symbol_parts : (objects : List Object) (o : Object) (place : ℕ) (ss : List Symbol) (k : ℕ) (e : InputSymbol)
    → slice_get (entries_from objects o place ss) k ≡ Some e → (e.class < 3) × (e.input ≡ o.input)
symbol_parts objects o place [] k e at = absurd (let bad : None ≡ Some e = at in cc)
symbol_parts objects o place (s ∷ ss) zero e at =
    let same : entry_in objects o place s ≡ e = (let whole : Some (entry_in objects o place s) ≡ Some e = at in cc) in
    (subst (λ x. x.class < 3) same (weak_class (is_weak s)), sym (ap (λ x. x.input) same))
symbol_parts objects o place (s ∷ ss) (suc k) e at = symbol_parts objects o (place + 1) ss k e at

parts_from : (objects : List Object) (last : ℕ) (os : List Object) (k place : ℕ) (e : InputSymbol) → InputsRise last os
    → slice_get (slice_index_or (map (symbols_of objects) os) k []) place ≡ Some e
    → (e.class < 3) × (e.input < 2 ^ 20)
parts_from objects last [] k place e rise at = absurd (let bad : None ≡ Some e = at in cc)
parts_from objects last (o ∷ os) zero place e rise at = let p = symbol_parts objects o 0 o.symbols place e at in
    (p.0, subst (λ n. n < 2 ^ 20) (sym p.1) rise.1)
parts_from objects last (o ∷ os) (suc k) place e rise at = parts_from objects o.input os k place e rise.2 at

-- what an entry has that is shown
entry_of : (names : List (List ℕ)) (r : EntryRef) (e : Option InputSymbol) → AreShown names (Some r) e → (x : InputSymbol) × (e ≡ Some x) × Shows names r x
entry_of names r None h = absurd h
entry_of names r (Some x) h = (x, refl, h)

-- its class and its input are in their ranges
pub shown_parts : (names : List (List ℕ)) (objects : List Object) (r : EntryRef) (k place : ℕ) → InputsRise 0 objects
    → AreShown names (Some r) (entry_at objects k place)
    → (r.class < 3) × (r.input < 2 ^ 20)
shown_parts names objects r k place rise h =
    let x = entry_of names r (entry_at objects k place) h in
    let p = parts_from objects 0 objects k place x.0 rise x.1 in
    (subst (λ n. n < 3) (sym x.2.class) p.0, subst (λ n. n < 2 ^ 20) (sym x.2.input) p.1)
