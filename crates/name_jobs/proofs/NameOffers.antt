-- What the jobs of names offer at least for a word: the rank of the winner of the name.
use Rattle.std.proofs.Common.{◌≡◌, ℕ, ◌+◌, Bool, true, false, cond, ◌&&◌, List, [], ◌∷◌, ◌++◌, map, filter, flat_map, slice_get, bytes_eq, Some, None, option_map, refl, sym, ap, subst, ◌∙◌}
use Rattle.std.specs.Prelude.{Option}
use Rattle.std.specs.List.{IsDistinct}
use Rattle.std.proofs.lemmas.List.{map-append}
use Rattle.least_race.specs.declared.party.Offer.{Offer}
use Rattle.least_race.specs.Jobs.{Job, offers_in}
use Rattle.least_race.specs.Race.{offer}
use Rattle.name_entries.specs.wl_base.Names.{number_of}
use Rattle.name_entries.specs.object_file.declared.object.Object.{Object}
use Rattle.name_entries.specs.made_symbols.declared.mode.Mode.{Mode}
use Rattle.name_entries.specs.made_symbols.Made.{MadeSymbol, made}
use Rattle.name_entries.specs.name_rules.Entries.{InputSymbol, is_entry, is_named, name_of, made_from, made_entry, symbols_of, entries}
use Rattle.name_entries.specs.name_rules.Meanings.{entry_rank, winner, where_given, least}
use Rattle.name_jobs.specs.Offers.{entry_offer, name_jobs}
use Rattle.name_jobs.proofs.Items.{LeastIn, all_offers}
use Rattle.name_jobs.proofs.Numbers.{placed}
use Rattle.name_jobs.proofs.Winning.{Tells, least_offer}

-- ---- an entry's offer

tells_by : (i r : ℕ) (entry named defines : Bool) (number : Option ℕ) → (named ≡ true → number ≡ Some i) → (number ≡ Some i → named ≡ true)
    → Tells i r (entry && (named && defines)) (where_given defines (option_map (λ n. offer n r) (cond entry number None)))
tells_by i r false named true number there back = tt
tells_by i r false named false number there back = tt
tells_by i r true true true number there back = ap (option_map (λ n. offer n r)) (there refl)
tells_by i r true true false number there back = tt
tells_by i r true false true None there back = tt
tells_by i r true false true (Some n) there back = λ e. let bad : false ≡ true = back (ap Some e) in absurd cc
tells_by i r true false false number there back = tt

-- whether an entry is a definition of the name
abbrev is_definition_of : List ℕ → InputSymbol → Bool
is_definition_of name e = is_entry e && (is_named name e && e.defines)

-- ---- three filters are one

keep_both : {X : Type 0} (q r : X → Bool) (x : X) (ys zs : List X) → filter r ys ≡ zs → (b : Bool)
    → filter r (cond b (x ∷ ys) ys) ≡ cond (b && r x) (x ∷ zs) zs
keep_both q r x ys zs e true = ap (λ rest. cond (r x) (x ∷ rest) rest) e
keep_both q r x ys zs e false = e

pub filters : {X : Type 0} (q r : X → Bool) (xs : List X) → filter r (filter q xs) ≡ filter (λ x. q x && r x) xs
filters q r [] = refl
filters q r (x ∷ xs) = keep_both q r x (filter q xs) (filter (λ x. q x && r x) xs) (filters q r xs) (q x)

-- ---- all entries

filter_append : {X : Type 0} (p : X → Bool) (xs ys : List X) → filter p (xs ++ ys) ≡ filter p xs ++ filter p ys
filter_append p [] ys = refl
filter_append p (x ∷ xs) ys = by (p x) (filter_append p xs ys)
  where
    by : (b : Bool) → filter p (xs ++ ys) ≡ filter p xs ++ filter p ys
        → cond b (x ∷ filter p (xs ++ ys)) (filter p (xs ++ ys)) ≡ cond b (x ∷ filter p xs) (filter p xs) ++ filter p ys
    by true e = ap (λ rest. x ∷ rest) e
    by false e = e

made_stay : (place : ℕ) (ms : List MadeSymbol) → filter is_entry (made_from place ms) ≡ made_from place ms
made_stay place [] = refl
made_stay place (m ∷ ms) = ap (λ rest. made_entry place m ∷ rest) (made_stay (place + 1) ms)

-- the symbols of the linker and of all objects
abbrev pub all_symbols : Mode → List Object → List InputSymbol
all_symbols mode objects = made_from 0 (made mode) ++ flat_map (symbols_of objects) objects

entries_are : (mode : Mode) (objects : List Object) → entries mode objects ≡ filter is_entry (all_symbols mode objects)
unfolding entries
entries_are mode objects =
    sym (filter_append is_entry (made_from 0 (made mode)) (flat_map (symbols_of objects) objects)
    ∙ ap (λ front. front ++ filter is_entry (flat_map (symbols_of objects) objects)) (made_stay 0 (made mode)))

winner_is : (mode : Mode) (objects : List Object) (name : List ℕ)
    → winner (entries mode objects) name ≡ least (filter (is_definition_of name) (all_symbols mode objects))
winner_is mode objects name = let all = all_symbols mode objects in
    ap (λ es. winner es name) (entries_are mode objects)
    ∙ ap least (filters (is_named name) (λ e. e.defines) (filter is_entry all) ∙ filters is_entry (λ e. is_named name e && e.defines) all)

-- ---- all offers

offers_append : (xs ys : Job) → offers_in (xs ++ ys) ≡ offers_in xs ++ offers_in ys
offers_append [] ys = refl
offers_append (None ∷ xs) ys = offers_append xs ys
offers_append (Some o ∷ xs) ys = ap (λ rest. o ∷ rest) (offers_append xs ys)

offers_of_both : (off : InputSymbol → Option Offer) (xs ys : List InputSymbol) → offers_in (map off (xs ++ ys)) ≡ offers_in (map off xs) ++ offers_in (map off ys)
offers_of_both off xs ys = ap offers_in (map-append off xs ys) ∙ offers_append (map off xs) (map off ys)

offers_of_rows : (off : InputSymbol → Option Offer) (rows : Object → List InputSymbol) (os : List Object)
    → all_offers (map (map off) (map rows os)) ≡ offers_in (map off (flat_map rows os))
offers_of_rows off rows [] = refl
offers_of_rows off rows (o ∷ os) =
    ap (λ rest. offers_in (map off (rows o)) ++ rest) (offers_of_rows off rows os) ∙ sym (offers_of_both off (rows o) (flat_map rows os))

name_offers : (names : List (List ℕ)) (mode : Mode) (objects : List Object)
    → all_offers (name_jobs names mode objects) ≡ offers_in (map (entry_offer names) (all_symbols mode objects))
name_offers names mode objects =
    ap (λ rest. offers_in (map (entry_offer names) (made_from 0 (made mode))) ++ rest)
    (offers_of_rows (entry_offer names) (symbols_of objects) objects)
    ∙ sym (offers_of_both (entry_offer names) (made_from 0 (made mode)) (flat_map (symbols_of objects) objects))

-- the winner's rank is the least that is offered for the number of its name
pub names_least : (names : List (List ℕ)) (mode : Mode) (objects : List Object) (i : ℕ) (name : List ℕ) → IsDistinct bytes_eq names
    → slice_get names i ≡ Some name
    → LeastIn (all_offers (name_jobs names mode objects)) i (option_map entry_rank (winner (entries mode objects) name))
names_least names mode objects i name distinct at =
    let p = placed names i name distinct at in
    let tells : (e : InputSymbol) → Tells i (entry_rank e) (is_definition_of name e) (entry_offer names e) =
    λ e. tells_by i (entry_rank e) (is_entry e) (is_named name e) e.defines (number_of names (name_of e)) (p.number (name_of e))
    (p.named (name_of e)) in
    subst (λ w. LeastIn (all_offers (name_jobs names mode objects)) i (option_map entry_rank w)) (sym (winner_is mode objects name))
    (subst (λ os. LeastIn os i (option_map entry_rank (least (filter (is_definition_of name) (all_symbols mode objects)))))
    (sym (name_offers names mode objects))
    (least_offer i (entry_offer names) (is_definition_of name) tells (all_symbols mode objects)))
