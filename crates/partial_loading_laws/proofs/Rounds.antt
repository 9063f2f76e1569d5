-- The rounds of two links that differ in a run of objects, for which one object stands in the second: each round adds the same candidates,
-- under their numbers there. A round adds none of the run, since all of it is loaded at once. The second link has fewer candidates and so fewer
-- rounds, and enough, since each round but the last loads one more.
use Rattle.std.proofs.Common.{◌≡◌, ℕ, zero, suc, ◌+◌, ◌<◌, ◌≤◌, Bool, true, false, not, ◌&&◌, ◌||◌, ◌==◌, cond, List, [], ◌∷◌, ◌++◌, filter, map, length, inl, inr, refl, sym, ap, subst, ◌∙◌, append-nil, arith}
use Rattle.std.specs.Prelude.{Option, Some, None, bytes_eq, option_map, find, filter_map, flat_map, Result, Ok, Err, if◌then◌else◌}
use Rattle.std.specs.List.{list_any, AllZip, cons_option}
use Rattle.std.proofs.lemmas.Bool.{or_left, or_right, eq-eqb}
use Rattle.std.proofs.lemmas.List.Elements.{filter-append, filter_map-append}
use Rattle.std.proofs.lemmas.List.Folds.{list_any-append}
use Rattle.list_places.specs.Has.{Has}
use Rattle.list_places.proofs.Lists.{has_filter, has_map}
use Rattle.name_rules.specs.object_file.wl_base.Choice.{unless, ◌>>=◌, has_name}
use Rattle.name_rules.specs.object_file.wl_base.declared.fault.Fault.{Fault}
use Rattle.name_rules.specs.object_file.wl_base.declared.fault.Fault.TheVariants.{IndexLies}
use Rattle.name_rules.specs.object_file.declared.object.Object.{Object}
use Rattle.made_symbols.specs.declared.mode.Mode.TheVariants.{Plain}
use Rattle.made_symbols.specs.Made.{made}
use Rattle.round_rules.specs.Rounds.{Candidate, Added, object_in, defined_names, strong_names, is_loaded, objects_of, is_defined, wanted_names, offering, is_just, added_with, adds_any, least_name, lesser_name, comes_before, added_fault_in, added_fault, inputs_of, go_on, next_adds, rounds}
use Rattle.partial_laws.specs.Inputs.{as_input}
use Rattle.partial_loading_laws.specs.Alike.{AlikeRead, AlikeCandidate}
use Rattle.partial_loading_laws.specs.Names.{StandsForNames}
use Rattle.partial_loading_laws.proofs.Names.{has_named, named_has, SameNames, filter_same_names, filter_name, none_of, as_empty, name_in_flat, first_of, no_some, guard, ok_is, none_each, each_none}
use Rattle.partial_loading_laws.proofs.Zips.{zip_filter, zip_filter_map, zip_length, zip_append, zip_partner, zip_mapped}

-- ---- lists and tests

no_true : false ≡ true → ⊥
no_true e = absurd cc

and_false : (b : Bool) → (b && false) ≡ false
and_false true = refl
and_false false = refl

any_cut : {A : Type 0} (t : A → Bool) (xs ys zs : List A) → list_any t (xs ++ (ys ++ zs)) ≡ (list_any t xs || (list_any t ys || list_any t zs))
any_cut t xs ys zs = list_any-append t xs (ys ++ zs) ∙ ap (λ (b : Bool). list_any t xs || b) (list_any-append t ys zs)

shorter : {A : Type 0} (t s : A → Bool) → ((x : A) → t x ≡ true → s x ≡ true) → (xs : List A) → length (filter t xs) ≤ length (filter s xs)
shorter t s less [] = omega arith
shorter {A} t s less (x ∷ xs) = by_tests (t x) (s x) (less x) (shorter t s less xs)
  where
    by_tests : (a b : Bool) → (a ≡ true → b ≡ true) → length (filter t xs) ≤ length (filter s xs) → length (cond a (x ∷ filter t xs) (filter t xs)) ≤ length (cond b (x ∷ filter s xs) (filter s xs))
    by_tests true true le rest = omega (arith, rest)
    by_tests true false le rest = absurd (no_true (le refl))
    by_tests false true le rest = omega (arith, rest)
    by_tests false false le rest = rest

-- one less passes where one fails that passed
one_less : {A : Type 0} (t s : A → Bool) → ((x : A) → t x ≡ true → s x ≡ true) → (xs : List A) (y : A) → Has xs y → s y ≡ true → t y ≡ false → length (filter t xs) < length (filter s xs)
one_less t s less [] y has passes fails = absurd has
one_less {A} t s less (x ∷ xs) y (inl is) passes fails =
    by_tests (t x) (s x) (ap t is ∙ fails) (ap s is ∙ passes) (shorter t s less xs)
  where
    by_tests : (a b : Bool) → a ≡ false → b ≡ true → length (filter t xs) ≤ length (filter s xs) → length (cond a (x ∷ filter t xs) (filter t xs)) < length (cond b (x ∷ filter s xs) (filter s xs))
    by_tests true b e f rest = absurd (no_true (sym e))
    by_tests false true e f rest = omega (arith, rest)
    by_tests false false e f rest = absurd (no_true f)
one_less {A} t s less (x ∷ xs) y (inr has) passes fails = by_tests (t x) (s x) (less x) (one_less t s less xs y has passes fails)
  where
    by_tests : (a b : Bool) → (a ≡ true → b ≡ true) → length (filter t xs) < length (filter s xs) → length (cond a (x ∷ filter t xs) (filter t xs)) < length (cond b (x ∷ filter s xs) (filter s xs))
    by_tests true true le rest = omega (arith, rest)
    by_tests true false le rest = absurd (no_true (le refl))
    by_tests false true le rest = omega (arith, rest)
    by_tests false false le rest = rest

fewer : {A : Type 0} (t : A → Bool) (xs : List A) → length (filter t xs) ≤ length xs
fewer t [] = omega arith
fewer {A} t (x ∷ xs) = by_test (t x) (fewer t xs)
  where
    by_test : (a : Bool) → length (filter t xs) ≤ length xs → length (cond a (x ∷ filter t xs) (filter t xs)) ≤ suc (length xs)
    by_test true rest = omega (arith, rest)
    by_test false rest = omega (arith, rest)

least_some : (n : List ℕ) (o : Option (List ℕ)) → lesser_name n o ≡ None → ⊥
least_some n None e = no_some n e
least_some n (Some m) e = by_order (comes_before m n) e
  where
    by_order : (b : Bool) → (if b then Some m else Some n) ≡ None → ⊥
    by_order true e = no_some m e
    by_order false e = no_some n e

no_least : (ns : List (List ℕ)) → least_name ns ≡ None → ns ≡ []
no_least [] e = refl
no_least (n ∷ ns) e = absurd (least_some n (least_name ns) e)

pub none_mapped : {A B : Type 0} (f : A → B) (o : Option A) → option_map f o ≡ None → o ≡ None
none_mapped f None e = refl
none_mapped f (Some a) e = absurd (no_some (f a) e)

-- What is wanted, by what is asked and referred to before, in and behind the run (k, sf, sr, sb) and made and defined there (m, f, r, b), and by the one
-- object (sj, j).
wanted_alike : (k sf sj sr sb m f j r b : Bool) → (m || (j || false)) ≡ (m || r) → ((m || r) ≡ false → sj ≡ sr)
    → ((k || (sf || (sj || sb))) && not (m || (f || (j || b)))) ≡ ((k || (sf || (sr || sb))) && not (m || (f || (r || b))))
wanted_alike k sf sj sr sb true f j r b d s = and_false (k || (sf || (sj || sb))) ∙ sym (and_false (k || (sf || (sr || sb))))
wanted_alike k sf sj sr sb false true true true b d s = and_false (k || (sf || (sj || sb))) ∙ sym (and_false (k || (sf || (sr || sb))))
wanted_alike k sf sj sr sb false false true true b d s = and_false (k || (sf || (sj || sb))) ∙ sym (and_false (k || (sf || (sr || sb))))
wanted_alike k sf sj sr sb false f true false b d s = absurd (no_true (sym d))
wanted_alike k sf sj sr sb false f false true b d s = absurd (no_true d)
wanted_alike k sf sj sr sb false f false false b d s = ap (λ (x : Bool). (k || (sf || (x || sb))) && not (f || b)) (s refl)

-- ---- objects that are loaded

pub object_moves : (move : ℕ → ℕ) (i j : ℕ) (x y : Result Object Fault) → j ≡ move i → AlikeRead i j x y → object_in y ≡ option_map (λ (o : Object). as_input (move o.input) o) (object_in x)
object_moves move i j (Ok o) (Ok u) m r = ap Some (r.1 ∙ ap (λ k. as_input k o) (m ∙ ap move (sym r.0)))
object_moves move i j (Ok o) (Err g) m r = absurd r
object_moves move i j (Err f) (Ok u) m r = absurd r
object_moves move i j (Err f) (Err g) m r = refl

objects_append : (loaded : List ℕ) (cs ds : List Candidate) → objects_of (cs ++ ds) loaded ≡ objects_of cs loaded ++ objects_of ds loaded
objects_append loaded cs ds =
    ap (filter_map (λ (c : Candidate). object_in c.object)) (filter-append (is_loaded loaded) cs ds)
    ∙ filter_map-append (λ (c : Candidate). object_in c.object) (filter (is_loaded loaded) cs) (filter (is_loaded loaded) ds)

pub filter_every : {A : Type 0} (t : A → Bool) (cs : List A) → ((c : A) → Has cs c → t c ≡ true) → filter t cs ≡ cs
filter_every t [] each = refl
filter_every t (c ∷ cs) each = rw (each c (inl refl), filter_every t cs (λ d has. each d (inr has))) refl

pub filter_nothing : {A : Type 0} (t : A → Bool) (cs : List A) → ((c : A) → Has cs c → t c ≡ false) → filter t cs ≡ []
filter_nothing t [] each = refl
filter_nothing t (c ∷ cs) each = rw (each c (inl refl), filter_nothing t cs (λ d has. each d (inr has))) refl

-- of a run that is loaded all objects
pub objects_cut : (loaded : List ℕ) (front run back : List Candidate) → ((c : Candidate) → Has run c → is_loaded loaded c ≡ true)
    → objects_of (front ++ (run ++ back)) loaded ≡ objects_of front loaded ++ (filter_map (λ (c : Candidate). object_in c.object) run ++ objects_of back loaded)
objects_cut loaded front run back each =
    objects_append loaded front (run ++ back)
    ∙ ap (λ os. objects_of front loaded ++ os) (objects_append loaded run back
    ∙ ap (λ cs. filter_map (λ (c : Candidate). object_in c.object) cs ++ objects_of back loaded) (filter_every (is_loaded loaded) run each))

-- ---- the two links

module _ (move : ℕ → ℕ) (Out : ℕ → Type 0) (files other_files : List (List ℕ)) where
  -- A candidate that isn't of the run, and the same in the second link.
  pub record Beside (c d : Candidate) : Type 0 where
    pub outside : Out c.input
    pub alike : AlikeCandidate move files other_files c d

  -- The run's inputs offer nothing, and neither does the one object.
  pub record Sides (front front_too run back back_too : List Candidate) (one : Candidate) (joined : Object) : Type 0 where
    pub before : AllZip Beside front front_too
    pub behind : AllZip Beside back back_too
    pub no_offers : (c : Candidate) → Has run c → c.offers ≡ []
    pub none_offered : one.offers ≡ []
    pub read : one.object ≡ Ok joined
    pub names : StandsForNames (filter_map (λ (c : Candidate). object_in c.object) run) joined

  module _ (asked : List (List ℕ)) (tells : (m n : ℕ) → Out m → Out n → (move m == move n) ≡ (m == n))
      (front front_too run back back_too : List Candidate) (one : Candidate) (joined : Object) (sides : Sides front front_too run back back_too one joined) where
    abbrev pub whole : List Candidate
    whole = front ++ (run ++ back)

    abbrev pub after : List Candidate
    after = front_too ++ (one ∷ back_too)

    abbrev pub middle : List Object
    middle = filter_map (λ (c : Candidate). object_in c.object) run

    abbrev pub moved : Object → Object
    moved o = as_input (move o.input) o

    abbrev holds : List ℕ → ℕ → Bool
    holds loaded n = list_any (λ k. k == n) loaded

    -- What is loaded in both.
    pub record Same (loaded other : List ℕ) : Type 0 where
      pub each : (n : ℕ) → Out n → holds other (move n) ≡ holds loaded n
      pub run_loaded : (c : Candidate) → Has run c → is_loaded loaded c ≡ true
      pub one_loaded : is_loaded other one ≡ true

    loaded_alike : (loaded other : List ℕ) → Same loaded other → (c d : Candidate) → Beside c d → is_loaded other d ≡ is_loaded loaded c
    loaded_alike loaded other same c d b = ap (holds other) b.alike.input ∙ same.each c.input b.outside

    -- ---- objects

    objects_move : (loaded other : List ℕ) → Same loaded other → (cs ds : List Candidate) → AllZip Beside cs ds → objects_of ds other ≡ map moved (objects_of cs loaded)
    objects_move loaded other same cs ds z =
        zip_filter_map Beside moved (λ (c : Candidate). object_in c.object) (λ (d : Candidate). object_in d.object)
        (λ c d b. object_moves move c.input d.input c.object d.object b.alike.input b.alike.object)
        (filter (is_loaded loaded) cs) (filter (is_loaded other) ds)
        (zip_filter Beside (is_loaded loaded) (is_loaded other) (loaded_alike loaded other same) cs ds z)

    pub after_objects : (loaded other : List ℕ) → Same loaded other → objects_of after other ≡ map moved (objects_of front loaded) ++ (joined ∷ map moved (objects_of back loaded))
    after_objects loaded other same =
        objects_append other front_too (one ∷ back_too)
        ∙ (ap (λ os. os ++ objects_of (one ∷ back_too) other) (objects_move loaded other same front front_too sides.before)
        ∙ ap (λ os. map moved (objects_of front loaded) ++ os)
        (ap (λ (b : Bool). filter_map (λ (c : Candidate). object_in c.object) (cond b (one ∷ filter (is_loaded other) back_too) (filter (is_loaded other) back_too))) same.one_loaded
        ∙ (ap (λ o. cons_option (object_in o) (objects_of back_too other)) sides.read
        ∙ ap (λ os. joined ∷ os) (objects_move loaded other same back back_too sides.behind))))

    -- ---- what is wanted

    any_moved : (t : Object → Bool) → ((n : ℕ) (o : Object) → t (as_input n o) ≡ t o) → (os : List Object) → list_any t (map moved os) ≡ list_any t os
    any_moved t same [] = refl
    any_moved t same (o ∷ os) = rw (same (move o.input) o, any_moved t same os) refl

    wanted_names_are : (os : List Object) (name : List ℕ)
        → has_name (wanted_names Plain asked os) name
        ≡ ((has_name asked name || list_any (λ o. has_name (strong_names o) name) os) && not (list_any (λ m. bytes_eq m.name name) (made Plain) || list_any (λ o. has_name (defined_names o) name) os))
    wanted_names_are os name =
        filter_name (λ n. not (is_defined Plain os n)) (asked ++ flat_map strong_names os) name
        ∙ ap (λ (b : Bool). b && not (is_defined Plain os name)) (list_any-append (bytes_eq name) asked (flat_map strong_names os) ∙ ap (λ (b : Bool). has_name asked name || b) (name_in_flat strong_names os name))

    wanted_same : (loaded other : List ℕ) → Same loaded other → SameNames (wanted_names Plain asked (objects_of whole loaded)) (wanted_names Plain asked (objects_of after other))
    wanted_same loaded other same name =
        let fo = objects_of front loaded in
        let bo = objects_of back loaded in
        let strong : Object → Bool = λ o. has_name (strong_names o) name in
        let defined : Object → Bool = λ o. has_name (defined_names o) name in
        let k = has_name asked name in
        let m = list_any (λ m. bytes_eq m.name name) (made Plain) in
        ap (λ os. has_name (wanted_names Plain asked os) name) (after_objects loaded other same)
        ∙ (wanted_names_are (map moved fo ++ (joined ∷ map moved bo)) name
        ∙ (ap (λ (b : Bool). (k || b) && not (m || list_any defined (map moved fo ++ (joined ∷ map moved bo))))
        (list_any-append strong (map moved fo) (joined ∷ map moved bo) ∙ (ap (λ (b : Bool). b || (strong joined || list_any strong (map moved bo))) (any_moved strong (λ n o. refl) fo)
        ∙ ap (λ (b : Bool). list_any strong fo || (strong joined || b)) (any_moved strong (λ n o. refl) bo)))
        ∙ (ap (λ (b : Bool). (k || (list_any strong fo || (strong joined || list_any strong bo))) && not (m || b))
        (list_any-append defined (map moved fo) (joined ∷ map moved bo) ∙ (ap (λ (b : Bool). b || (defined joined || list_any defined (map moved bo))) (any_moved defined (λ n o. refl) fo)
        ∙ ap (λ (b : Bool). list_any defined fo || (defined joined || b)) (any_moved defined (λ n o. refl) bo)))
        ∙ (wanted_alike k (list_any strong fo) (strong joined) (list_any strong middle) (list_any strong bo) m (list_any defined fo) (defined joined) (list_any defined middle) (list_any defined bo)
        (sides.names.defines name) (sides.names.asks name)
        ∙ sym (ap (λ os. has_name (wanted_names Plain asked os) name) (objects_cut loaded front run back same.run_loaded)
        ∙ (wanted_names_are (fo ++ (middle ++ bo)) name
        ∙ (ap (λ (b : Bool). (k || b) && not (m || list_any defined (fo ++ (middle ++ bo)))) (any_cut strong fo middle bo)
        ∙ ap (λ (b : Bool). (k || (list_any strong fo || (list_any strong middle || list_any strong bo))) && not (m || b)) (any_cut defined fo middle bo))))))))

    -- ---- who offers a name

    abbrev OffersAlike : Option ℕ → Option ℕ → Type 0
    OffersAlike None None = Unit {0}
    OffersAlike None (Some j) = ⊥
    OffersAlike (Some i) None = ⊥
    OffersAlike (Some i) (Some j) = (Out i) × (j ≡ move i)

    first_offer : (name : List ℕ) (cs ds : List Candidate) → AllZip Beside cs ds → (us vs : List Candidate) → OffersAlike (offering us name) (offering vs name) → OffersAlike (offering (cs ++ us) name) (offering (ds ++ vs) name)
    first_offer name [] [] z us vs rest = rest
    first_offer name [] (d ∷ ds) z us vs rest = absurd z
    first_offer name (c ∷ cs) [] z us vs rest = absurd z
    first_offer name (c ∷ cs) (d ∷ ds) z us vs rest =
        subst (λ (names : List (List ℕ)). OffersAlike (offering (c ∷ cs ++ us) name) (option_map (λ (x : Candidate). x.input) (if has_name names name then Some d else find (λ (x : Candidate). has_name x.offers name) (ds ++ vs))))
        (sym z.0.alike.offers) (by_offer (has_name c.offers name) (first_offer name cs ds z.1 us vs rest))
      where
        by_offer : (b : Bool) → OffersAlike (offering (cs ++ us) name) (offering (ds ++ vs) name)
            → OffersAlike (option_map (λ (x : Candidate). x.input) (if b then Some c else find (λ (x : Candidate). has_name x.offers name) (cs ++ us))) (option_map (λ (x : Candidate). x.input) (if b then Some d else find (λ (x : Candidate). has_name x.offers name) (ds ++ vs)))
        by_offer true r = (z.0.outside, z.0.alike.input)
        by_offer false r = r

    offers_none : (name : List ℕ) (c : Candidate) (us : List Candidate) → c.offers ≡ [] → offering (c ∷ us) name ≡ offering us name
    offers_none name c us none = ap (λ (names : List (List ℕ)). option_map (λ (x : Candidate). x.input) (if has_name names name then Some c else find (λ (x : Candidate). has_name x.offers name) us)) none

    run_offers : (name : List ℕ) (cs us : List Candidate) → ((c : Candidate) → Has cs c → c.offers ≡ []) → offering (cs ++ us) name ≡ offering us name
    run_offers name [] us each = refl
    run_offers name (c ∷ cs) us each = offers_none name c (cs ++ us) (each c (inl refl)) ∙ run_offers name cs us (λ d has. each d (inr has))

    offers_alike : (name : List ℕ) → OffersAlike (offering whole name) (offering after name)
    offers_alike name =
        first_offer name front front_too sides.before (run ++ back) (one ∷ back_too)
        (subst (λ o. OffersAlike o (offering (one ∷ back_too) name)) (sym (run_offers name run back sides.no_offers))
        (subst (λ o. OffersAlike (offering back name) o) (sym (offers_none name one back_too sides.none_offered))
        (subst (λ cs. OffersAlike (offering cs name) (offering back_too name)) (append-nil back) (subst (λ ds. OffersAlike (offering (back ++ []) name) (offering ds name)) (append-nil back_too) (first_offer name back back_too sides.behind [] [] tt)))))

    just_alike : (i j : ℕ) (x y : Option ℕ) → Out i → j ≡ move i → OffersAlike x y → is_just j y ≡ is_just i x
    just_alike i j None None o m a = refl
    just_alike i j None (Some y) o m a = absurd a
    just_alike i j (Some x) None o m a = absurd a
    just_alike i j (Some x) (Some y) o m a = ap (λ n. y == n) m ∙ (ap (λ n. n == move i) a.1 ∙ tells x i a.0 o)

    -- ---- what a round adds

    record AddedAlike (a b : Added) : Type 0 where
      candidate : Beside a.candidate b.candidate
      names : SameNames a.names b.names

    abbrev unloaded : List ℕ → List Candidate
    unloaded loaded = filter (λ (c : Candidate). not (is_loaded loaded c)) whole

    unloaded_alike : (loaded other : List ℕ) → Same loaded other → AllZip Beside (unloaded loaded) (filter (λ (d : Candidate). not (is_loaded other d)) after)
    unloaded_alike loaded other same =
        let t : Candidate → Bool = λ c. not (is_loaded loaded c) in
        let u : Candidate → Bool = λ d. not (is_loaded other d) in
        let each : (c d : Candidate) → Beside c d → u d ≡ t c = λ c d b. ap not (loaded_alike loaded other same c d b) in
        let zf = zip_filter Beside t u each front front_too sides.before in
        let zb = zip_filter Beside t u each back back_too sides.behind in
        let left : filter t whole ≡ filter t front ++ filter t back =
        filter-append t front (run ++ back) ∙ ap (λ cs. filter t front ++ cs) (filter-append t run back ∙ ap (λ cs. cs ++ filter t back) (filter_nothing t run (λ c has. ap not (same.run_loaded c has)))) in
        let right : filter u after ≡ filter u front_too ++ filter u back_too =
        filter-append u front_too (one ∷ back_too) ∙ ap (λ (b : Bool). filter u front_too ++ cond (not b) (one ∷ filter u back_too) (filter u back_too)) same.one_loaded in
        subst (λ cs. AllZip Beside cs (filter u after)) (sym left) (subst (λ ds. AllZip Beside (filter t front ++ filter t back) ds) (sym right) (zip_append Beside (filter t front) (filter t back) (filter u front_too) (filter u back_too) zf zb))

    adds_alike : (loaded other : List ℕ) → Same loaded other → AllZip AddedAlike (next_adds Plain asked whole loaded) (next_adds Plain asked after other)
    adds_alike loaded other same =
        let w = wanted_names Plain asked (objects_of whole loaded) in
        let v = wanted_names Plain asked (objects_of after other) in
        zip_filter AddedAlike adds_any adds_any (λ a b z. ap not (as_empty a.names b.names z.names))
        (map (added_with whole w) (unloaded loaded)) (map (added_with after v) (filter (λ (d : Candidate). not (is_loaded other d)) after))
        (zip_mapped Beside AddedAlike (added_with whole w) (added_with after v)
        (λ c d b. record {
          candidate = b;
          names = filter_same_names (λ n. is_just c.input (offering whole n)) (λ n. is_just d.input (offering after n)) w v (λ n. just_alike c.input d.input (offering whole n) (offering after n) b.outside b.alike.input (offers_alike n)) (wanted_same loaded other same);
        })
        (unloaded loaded) (filter (λ (d : Candidate). not (is_loaded other d)) after) (unloaded_alike loaded other same))

    -- ---- faults of what is added

    fault_stays : (i j : ℕ) (a b : Added) (x y : Result Object Fault) → SameNames a.names b.names → AlikeRead i j x y → added_fault_in a x ≡ None → added_fault_in b y ≡ None
    fault_stays i j a b (Ok o) (Ok u) same r none =
        let undefined : List ℕ → Bool = λ n. not (has_name (defined_names o) n) in
        let nothing : filter undefined a.names ≡ [] = no_least (filter undefined a.names) (none_mapped _ (least_name (filter undefined a.names)) none) in
        let nothing_too : filter undefined b.names ≡ [] =
        none_of (filter undefined b.names) (λ n has. named_has [] n (ap (λ ns. has_name ns n) (sym nothing) ∙ (sym (filter_same_names undefined undefined a.names b.names (λ m. refl) same n) ∙ has_named (filter undefined b.names) n has))) in
        ap (λ (v : Object). option_map (IndexLies b.candidate.input) (least_name (filter (λ n. not (has_name (defined_names v) n)) b.names))) r.1
        ∙ ap (λ ns. option_map (IndexLies b.candidate.input) (least_name ns)) nothing_too
    fault_stays i j a b (Ok o) (Err g) same r none = absurd r
    fault_stays i j a b (Err f) (Ok u) same r none = absurd r
    fault_stays i j a b (Err f) (Err g) same r none = absurd (no_some f none)

    faults_stay : (as' bs : List Added) → AllZip AddedAlike as' bs → first_of added_fault as' ≡ None → first_of added_fault bs ≡ None
    faults_stay as' bs z none =
        each_none added_fault bs (λ b has.
        let p = zip_partner AddedAlike as' bs z b has in
        fault_stays p.0.candidate.input b.candidate.input p.0 b p.0.candidate.object b.candidate.object p.2.names p.2.candidate.alike.object (none_each added_fault as' none p.0 p.1))

    -- ---- what is loaded after a round

    inputs_alike : (as' bs : List Added) → AllZip AddedAlike as' bs → (n : ℕ) → Out n → holds (inputs_of bs) (move n) ≡ holds (inputs_of as') n
    inputs_alike [] [] z n o = refl
    inputs_alike [] (b ∷ bs) z n o = absurd z
    inputs_alike (a ∷ as') [] z n o = absurd z
    inputs_alike (a ∷ as') (b ∷ bs) z n o =
        rw (z.0.candidate.alike.input, tells a.candidate.input n z.0.candidate.outside o, inputs_alike as' bs z.1 n o) refl

    grown : (loaded other : List ℕ) → Same loaded other → (as' bs : List Added) → AllZip AddedAlike as' bs → Same (loaded ++ inputs_of as') (other ++ inputs_of bs)
    grown loaded other same as' bs z = record {
      each = λ n o.
          list_any-append (λ k. k == move n) other (inputs_of bs)
          ∙ (ap (λ (b : Bool). b || holds (inputs_of bs) (move n)) (same.each n o) ∙ (ap (λ (b : Bool). holds loaded n || b) (inputs_alike as' bs z n o) ∙ sym (list_any-append (λ k. k == n) loaded (inputs_of as'))));
      run_loaded = λ c has. list_any-append (λ k. k == c.input) loaded (inputs_of as') ∙ or_left (is_loaded loaded c) (holds (inputs_of as') c.input) (same.run_loaded c has);
      one_loaded = list_any-append (λ k. k == one.input) other (inputs_of bs) ∙ or_left (is_loaded other one) (holds (inputs_of bs) one.input) same.one_loaded;
    }

    not_or : (a b : Bool) → not (a || b) ≡ true → not a ≡ true
    not_or true b e = e
    not_or false b e = refl

    -- one that is added wasn't loaded, and now is
    less_left : (loaded : List ℕ) (a : Added) (as' : List Added) → next_adds Plain asked whole loaded ≡ a ∷ as' → length (unloaded (loaded ++ inputs_of (a ∷ as'))) < length (unloaded loaded)
    less_left loaded a as' is =
        let w = wanted_names Plain asked (objects_of whole loaded) in
        let added = has_filter adds_any (map (added_with whole w) (unloaded loaded)) a (subst (λ (xs : List Added). Has xs a) (sym is) (inl refl)) in
        let from = has_map (added_with whole w) (unloaded loaded) a added.0 in
        let there : Has (unloaded loaded) a.candidate = subst (λ (x : Added). Has (unloaded loaded) x.candidate) from.2 from.1 in
        let was = has_filter (λ (c : Candidate). not (is_loaded loaded c)) whole a.candidate there in
        one_less (λ (c : Candidate). not (is_loaded (loaded ++ inputs_of (a ∷ as')) c)) (λ (c : Candidate). not (is_loaded loaded c))
        (λ c left. not_or (is_loaded loaded c) (is_loaded (inputs_of (a ∷ as')) c) (ap not (sym (list_any-append (λ k. k == c.input) loaded (inputs_of (a ∷ as')))) ∙ left))
        whole a.candidate was.0 was.1
        (ap not (list_any-append (λ k. k == a.candidate.input) loaded (inputs_of (a ∷ as'))
        ∙ or_right (is_loaded loaded a.candidate) (is_loaded (inputs_of (a ∷ as')) a.candidate) (or_left (a.candidate.input == a.candidate.input) (is_loaded (inputs_of as') a.candidate) (eq-eqb a.candidate.input a.candidate.input refl))))

    -- ---- rounds

    pub record Ended (loaded : List ℕ) (said : Result (List ℕ) Fault) : Type 0 where
      pub other : List ℕ
      pub ends : said ≡ Ok other
      pub same : Same loaded other

    pub rounds_alike : (n k : ℕ) (loaded other last : List ℕ) → Same loaded other → length (unloaded loaded) < n → length (unloaded loaded) < k → rounds Plain asked whole n loaded ≡ Ok last
        → Ended last (rounds Plain asked after k other)
    rounds_alike zero k loaded other last same few few_too e = absurd (omega (arith, few))
    rounds_alike (suc n) zero loaded other last same few few_too e = absurd (omega (arith, few_too))
    rounds_alike (suc n) (suc k) loaded other last same few few_too e =
        by_adds (next_adds Plain asked whole loaded) (next_adds Plain asked after other) refl (adds_alike loaded other same) e (λ now now_too grows less ends. rounds_alike n k now now_too last grows (omega (arith, few, less)) (omega (arith, few_too, less)) ends)
      where
        by_adds : (as' bs : List Added) → next_adds Plain asked whole loaded ≡ as' → AllZip AddedAlike as' bs → go_on (rounds Plain asked whole n) loaded as' ≡ Ok last
            → ((now now_too : List ℕ) → Same now now_too → length (unloaded now) < length (unloaded loaded) → rounds Plain asked whole n now ≡ Ok last → Ended last (rounds Plain asked after k now_too))
            → Ended last (go_on (rounds Plain asked after k) other bs)
        by_adds [] [] is z e next = record { other = other; ends = refl; same = subst (λ l. Same l other) (ok_is loaded last _ refl e) same }
        by_adds [] (b ∷ bs) is z e next = absurd z
        by_adds (a ∷ as') [] is z e next = absurd z
        by_adds (a ∷ as') (b ∷ bs) is z e next =
            let g = guard (first_of added_fault (a ∷ as')) (loaded ++ inputs_of (a ∷ as')) (rounds Plain asked whole n) last e in
            let r = next (loaded ++ inputs_of (a ∷ as')) (other ++ inputs_of (b ∷ bs)) (grown loaded other same (a ∷ as') (b ∷ bs) z) (less_left loaded a as' is) g.1 in
            record {
              other = r.other;
              ends = ap (λ (o : Option Fault). unless o (other ++ inputs_of (b ∷ bs)) >>= rounds Plain asked after k) (faults_stay (a ∷ as') (b ∷ bs) z g.0) ∙ r.ends;
              same = r.same;
            }

    -- as many candidates are left in both
    pub few_left : (loaded other : List ℕ) → Same loaded other → (length (unloaded loaded) < length whole + 1) × (length (unloaded loaded) < length after + 1)
    few_left loaded other same =
        let a : length (unloaded loaded) ≤ length whole = fewer (λ (c : Candidate). not (is_loaded loaded c)) whole in
        let b : length (filter (λ (d : Candidate). not (is_loaded other d)) after) ≤ length after = fewer (λ (d : Candidate). not (is_loaded other d)) after in
        let e : length (filter (λ (d : Candidate). not (is_loaded other d)) after) ≡ length (unloaded loaded) = zip_length Beside (unloaded loaded) (filter (λ (d : Candidate). not (is_loaded other d)) after) (unloaded_alike loaded other same) in
        (omega (arith, a), omega (arith, b, e))
