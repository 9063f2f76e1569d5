-- What the two races ask of their jobs: few, words below the count of names, ranks made of parts in their ranges.
use Rattle.std.proofs.Common.{◌≡◌, ⊎_elim, lit<, ℕ, suc, ◌+◌, ◌*◌, ◌<◌, ◌^◌, Bool, true, false, cond, List, [], ◌∷◌, length, map, All, Some, None, IfSome, option_map, refl, sym, subst, arith}
use Rattle.std.specs.Prelude.{Option}
use Rattle.std.specs.List.{AllByRecursion}
use Rattle.std.proofs.lemmas.List.{length-map}
use Rattle.least_race.specs.declared.party.Offer.{Offer}
use Rattle.least_race.specs.Jobs.{Job, IsItem, WordsBelow, offers_in}
use Rattle.least_race.specs.Race.{offer}
use Rattle.race_share.specs.Offered.{RanksBelow}
use Rattle.symbol_race.specs.Ranks.{IsParts, IsRank, RanksMade}
use Rattle.name_entries.specs.wl_base.Names.{number_of}
use Rattle.name_entries.specs.linking_section.declared.symbol.Symbol.{Symbol}
use Rattle.name_entries.specs.linking_section.declared.group.Group.{Group}
use Rattle.name_entries.specs.linking_section.Flags.{is_weak}
use Rattle.name_entries.specs.object_file.declared.object.Object.{Object}
use Rattle.name_entries.specs.made_symbols.declared.mode.Mode.{Mode}
use Rattle.name_entries.specs.made_symbols.declared.mode.Mode.TheVariants.{Plain, Shared}
use Rattle.name_entries.specs.made_symbols.Made.{MadeSymbol, made}
use Rattle.name_entries.specs.link_names.Numbered.{Numbered, AreNumbers, symbol_number}
use Rattle.name_entries.specs.name_rules.Entries.{InputSymbol, is_entry, name_of, made_from, made_entry, entries_from, entry_in, symbols_of}
use Rattle.name_entries.specs.name_rules.Meanings.{entry_rank, where_given}
use Rattle.name_entries.specs.View.{InputsRise, rows_of, entry_number}
use Rattle.name_jobs.specs.Offers.{entry_offer, name_jobs, group_offer, group_jobs}
use Rattle.least_race.proofs.Least.{In}
use Rattle.name_jobs.proofs.Items.{item_in, in_either, all_offers}
use Rattle.name_jobs.proofs.Numbers.{number_below}

-- ---- each offer of the jobs

abbrev Each : (Offer → Type 0) → Job → Type 0
Each P job = AllByRecursion (λ x. IfSome x P) job

each_in : (P : Offer → Type 0) (job : Job) → Each P job → (o : Offer) → In o (offers_in job) → P o
each_in P [] h o m = absurd m
each_in P (None ∷ xs) h o m = each_in P xs h.1 o m
each_in P (Some x ∷ xs) h o m = ⊎_elim (λ (e : x ≡ o). subst P e h.0) (λ (t : In o (offers_in xs)). each_in P xs h.1 o t) m

all_in : (P : Offer → Type 0) (jobs : List Job) → AllByRecursion (Each P) jobs → (o : Offer) → In o (all_offers jobs) → P o
all_in P [] h o m = absurd m
all_in P (job ∷ jobs) h o m = ⊎_elim (λ (a : In o (offers_in job)). each_in P job h.0 o a) (λ (b : In o (all_offers jobs)). all_in P jobs h.1 o b)
    (in_either (offers_in job) (all_offers jobs) o m)

-- what holds of each offer holds of each item
at_items : (P : Offer → Type 0) (jobs : List Job) → AllByRecursion (Each P) jobs → (job item : ℕ) (o : Offer) → IsItem jobs job item o → P o
at_items P jobs h job item o is = all_in P jobs h o (item_in jobs job item o is.2)

-- ---- few jobs

pub few_objects : (last : ℕ) (objects : List Object) → InputsRise last objects → last < 2 ^ 20 → last + length objects < 2 ^ 20
few_objects last [] rise low = omega arith
few_objects last (o ∷ os) rise low = let up = rise.0 in let rest = few_objects o.input os rise.2 rise.1 in omega arith

pub few_groups : (names : List (List ℕ)) (objects : List Object) → InputsRise 0 objects → length (group_jobs names objects) < 2 ^ 31
few_groups names objects rise =
    let few = few_objects 0 objects rise (lit< tt) in let same = length-map objects (λ (o : Object). map (group_offer names o) o.groups) in
    omega arith

pub few_names : (names : List (List ℕ)) (mode : Mode) (objects : List Object) → InputsRise 0 objects → length (name_jobs names mode objects) < 2 ^ 31
few_names names mode objects rise =
    let few = few_objects 0 objects rise (lit< tt) in
    let rows = length-map objects (symbols_of objects) in
    let same = length-map (rows_of objects) (map (entry_offer names)) in omega arith

-- ---- words below the count of names

below_by : (names : List (List ℕ)) (r : ℕ) (number : Option ℕ) → ((n : ℕ) → number ≡ Some n → n < length names)
    → IfSome (option_map (λ n. offer n r) number) (λ o. o.word < length names)
below_by names r None h = tt
below_by names r (Some n) h = h n refl

group_words : (names : List (List ℕ)) (o : Object) (gs : List Group) → Each (λ x. x.word < length names) (map (group_offer names o) gs)
group_words names o [] = tt
group_words names o (g ∷ gs) = (below_by names o.input (number_of names g.name) (number_below names g.name), group_words names o gs)

group_words_all : (names : List (List ℕ)) (objects : List Object) → AllByRecursion (Each (λ x. x.word < length names)) (group_jobs names objects)
group_words_all names [] = tt
group_words_all names (o ∷ os) = (group_words names o o.groups, group_words_all names os)

pub group_words_below : (names : List (List ℕ)) (objects : List Object) → WordsBelow (length names) (group_jobs names objects)
group_words_below names objects = at_items (λ x. x.word < length names) (group_jobs names objects) (group_words_all names objects)

entry_below : (names : List (List ℕ)) (r : ℕ) (name : List ℕ) (defines entry : Bool)
    → IfSome (where_given defines (option_map (λ n. offer n r) (cond entry (number_of names name) None))) (λ o. o.word < length names)
entry_below names r name true true = below_by names r (number_of names name) (number_below names name)
entry_below names r name true false = tt
entry_below names r name false entry = tt

entry_words : (names : List (List ℕ)) (es : List InputSymbol) → Each (λ x. x.word < length names) (map (entry_offer names) es)
entry_words names [] = tt
entry_words names (e ∷ es) = (entry_below names (entry_rank e) (name_of e) e.defines (is_entry e), entry_words names es)

rows_words : (names : List (List ℕ)) (rows : List (List InputSymbol))
    → AllByRecursion (Each (λ x. x.word < length names)) (map (map (entry_offer names)) rows)
rows_words names [] = tt
rows_words names (r ∷ rs) = (entry_words names r, rows_words names rs)

pub name_words_below : (names : List (List ℕ)) (mode : Mode) (objects : List Object) → WordsBelow (length names) (name_jobs names mode objects)
name_words_below names mode objects = at_items (λ x. x.word < length names) (name_jobs names mode objects)
    (rows_words names (made_from 0 (made mode) ∷ rows_of objects))

-- ---- ranks of groups

given_rank : (P : ℕ → Type 0) (r : ℕ) (number : Option ℕ) → P r → IfSome (option_map (λ n. offer n r) number) (λ o. P o.rank)
given_rank P r None h = tt
given_rank P r (Some n) h = h

group_ranks : (names : List (List ℕ)) (o : Object) (gs : List Group) → o.input < 2 ^ 20 → Each (λ x. x.rank < 2 ^ 20) (map (group_offer names o) gs)
group_ranks names o [] low = tt
group_ranks names o (g ∷ gs) low = (given_rank (λ r. r < 2 ^ 20) o.input (number_of names g.name) low, group_ranks names o gs low)

group_ranks_all : (names : List (List ℕ)) (last : ℕ) (objects : List Object) → InputsRise last objects
    → AllByRecursion (Each (λ x. x.rank < 2 ^ 20)) (group_jobs names objects)
group_ranks_all names last [] rise = tt
group_ranks_all names last (o ∷ os) rise = (group_ranks names o o.groups rise.1, group_ranks_all names o.input os rise.2)

pub group_ranks_below : (names : List (List ℕ)) (objects : List Object) → InputsRise 0 objects → RanksBelow (2 ^ 20) (group_jobs names objects)
group_ranks_below names objects rise = at_items (λ x. x.rank < 2 ^ 20) (group_jobs names objects) (group_ranks_all names 0 objects rise)

-- ---- ranks of names

entry_ranked : (r : ℕ) (defines : Bool) (number : Option ℕ) → IsRank r
    → IfSome (where_given defines (option_map (λ n. offer n r) number)) (λ o. IsRank o.rank)
entry_ranked r true number h = given_rank IsRank r number h
entry_ranked r false number h = tt

of_parts : (c i s : ℕ) → IsParts c i s → IsRank (c * 2 ^ 56 + i * 2 ^ 32 + s)
of_parts c i s p = (c, i, s, p, refl)

abbrev pub Classes : List MadeSymbol → Type 0
Classes ms = AllByRecursion (λ (m : MadeSymbol). m.class < 3) ms

made_ranks : (names : List (List ℕ)) (place : ℕ) (ms : List MadeSymbol) → Classes ms → place + length ms < 2 ^ 32
    → Each (λ x. IsRank x.rank) (map (entry_offer names) (made_from place ms))
made_ranks names place [] low short = tt
made_ranks names place (m ∷ ms) low short = (
  entry_ranked (entry_rank (made_entry place m)) true (entry_number names (made_entry place m))
      (of_parts m.class 0 place (record { class = low.0; input = lit< tt; symbol = omega arith })),
  made_ranks names (place + 1) ms low.1 (omega arith),
)

pub made_classes : (mode : Mode) → Classes (made mode)
made_classes Plain =
    (lit< tt, (lit< tt, (lit< tt, (lit< tt, (lit< tt, (lit< tt, (lit< tt, (lit< tt, (lit< tt, (lit< tt, (lit< tt, (lit< tt, tt))))))))))))
made_classes Shared = (lit< tt, (lit< tt, (lit< tt, (lit< tt, (lit< tt, (lit< tt, (lit< tt, tt)))))))

made_few : (mode : Mode) → 0 + length (made mode) < 2 ^ 32
made_few Plain = lit< tt
made_few Shared = lit< tt

made_ranked : (names : List (List ℕ)) (mode : Mode) → Each (λ x. IsRank x.rank) (map (entry_offer names) (made_from 0 (made mode)))
made_ranked names mode = made_ranks names 0 (made mode) (made_classes mode) (made_few mode)

pub weak_class : (b : Bool) → cond b 1 0 < 3
weak_class true = lit< tt
weak_class false = lit< tt

symbol_ranks : (names : List (List ℕ)) (objects : List Object) (o : Object) (place : ℕ) (ss : List Symbol) → o.input < 2 ^ 20
    → place + length ss < 2 ^ 32
    → Each (λ x. IsRank x.rank) (map (entry_offer names) (entries_from objects o place ss))
symbol_ranks names objects o place [] low short = tt
symbol_ranks names objects o place (s ∷ ss) low short = let e = entry_in objects o place s in (
  entry_ranked (entry_rank e) e.defines (entry_number names e)
      (of_parts e.class o.input place (record { class = weak_class (is_weak s); input = low; symbol = omega arith })),
  symbol_ranks names objects o (place + 1) ss low (omega arith),
)

-- the objects of which the symbols are few
abbrev Short : List Object → Type 0
Short os = AllByRecursion (λ (o : Object). length o.symbols < 2 ^ 32) os

object_ranks : (names : List (List ℕ)) (objects : List Object) (last : ℕ) (os : List Object) → InputsRise last os → Short os
    → AllByRecursion (Each (λ x. IsRank x.rank)) (map (map (entry_offer names)) (map (symbols_of objects) os))
object_ranks names objects last [] rise short = tt
object_ranks names objects last (o ∷ os) rise short = (
  symbol_ranks names objects o 0 o.symbols rise.1 (let few = short.0 in omega arith),
  object_ranks names objects o.input os rise.2 short.1,
)

by_recursion : {X : Type 0} (P : X → Type 0) (xs : List X) → All P xs → AllByRecursion P xs
by_recursion P [] h = tt
by_recursion P (x ∷ xs) h = (h 0 x (omega arith), by_recursion P xs (λ k d l. h (suc k) d (omega arith)))

shown_short : (names : List (List ℕ)) (objects : List Object)
    → AllByRecursion (λ (numbers : List (Option ℕ)). length numbers < 2 ^ 32) (map (λ (o : Object). map (symbol_number names) o.symbols) objects)
    → Short objects
shown_short names [] h = tt
shown_short names (o ∷ os) h = let few = h.0 in let same = length-map o.symbols (symbol_number names) in ((omega arith), shown_short names os h.1)

pub are_short : (mode : Mode) (objects : List Object) (n : Numbered) → AreNumbers mode objects n → Short objects
are_short mode objects n are =
    shown_short n.names objects
    (subst (AllByRecursion (λ (numbers : List (Option ℕ)). length numbers < 2 ^ 32)) are.symbols
    (by_recursion (λ (numbers : List (Option ℕ)). length numbers < 2 ^ 32) n.symbols are.short))

pub name_ranks_made : (mode : Mode) (objects : List Object) (n : Numbered) → AreNumbers mode objects n → InputsRise 0 objects
    → RanksMade (name_jobs n.names mode objects)
name_ranks_made mode objects n are rise =
    at_items (λ x. IsRank x.rank) (name_jobs n.names mode objects)
    (made_ranked n.names mode, object_ranks n.names objects 0 objects rise (are_short mode objects n are))

-- ---- what the calls need

pub jobs_few : (objects : List Object) → InputsRise 0 objects → length objects < 2 ^ 31
jobs_few objects rise = let few = few_objects 0 objects rise (lit< tt) in omega arith

pub group_words_at : (names : List (List ℕ)) (objects : List Object) (jobs : List Job) (count : ℕ) → jobs ≡ group_jobs names objects
    → count ≡ length names → WordsBelow count jobs
group_words_at names objects jobs count e c = subst (λ k. WordsBelow k jobs) (sym c)
    (subst (WordsBelow (length names)) (sym e) (group_words_below names objects))

pub group_ranks_at : (names : List (List ℕ)) (objects : List Object) (jobs : List Job) → jobs ≡ group_jobs names objects → InputsRise 0 objects
    → RanksBelow (2 ^ 20) jobs
group_ranks_at names objects jobs e rise = subst (RanksBelow (2 ^ 20)) (sym e) (group_ranks_below names objects rise)

pub name_words_at : (names : List (List ℕ)) (mode : Mode) (objects : List Object) (jobs : List Job) (count : ℕ) → jobs ≡ name_jobs names mode objects
    → count ≡ length names → WordsBelow count jobs
name_words_at names mode objects jobs count e c = subst (λ k. WordsBelow k jobs) (sym c)
    (subst (WordsBelow (length names)) (sym e) (name_words_below names mode objects))

pub name_ranks_at : (mode : Mode) (objects : List Object) (n : Numbered) (jobs : List Job) → jobs ≡ name_jobs n.names mode objects
    → AreNumbers mode objects n → InputsRise 0 objects → RanksMade jobs
name_ranks_at mode objects n jobs e are rise = subst RanksMade (sym e) (name_ranks_made mode objects n are rise)

pub few_names_at : (names : List (List ℕ)) (mode : Mode) (objects : List Object) (jobs : List Job) → jobs ≡ name_jobs names mode objects
    → InputsRise 0 objects → length jobs < 2 ^ 31
few_names_at names mode objects jobs e rise = subst (λ js. length js < 2 ^ 31) (sym e) (few_names names mode objects rise)
