-- What is known once what is loaded at once is loaded.
use Rattle.std.proofs.Common.{◌≡◌, ℕ, zero, suc, ◌+◌, ◌-◌, ◌<◌, ◌≤◌, Bool, true, false, not, ◌&&◌, ◌||◌, cond, List, [], ◌∷◌, length, map, Option, Some, None, Result, Ok, Err, refl, sym, ap, subst, ◌∙◌, arith, inl, inr}
use Rattle.std.specs.Prelude.{All, Contains, filter, flat_map, slice_get, slice_index_or, sum_by, replicate, is_some, ◌==◌, if◌then◌else◌}
use Rattle.std.specs.Prelude.{◌⊎◌}
use Rattle.std.specs.List.{list_any}
use Rattle.std.specs.Map.{lookup}
use Rattle.std.specs.Str.{bytes_eq}
use Rattle.std.proofs.lemmas.Bool.{cases_Bool, eq-eqb}
use Rattle.std.proofs.lemmas.List.{length-append}
use Rattle.std.proofs.lemmas.List.Elements.{All-contains}
use Rattle.std.proofs.lemmas.List.Filters.{length-filter_both}
use Rattle.std.proofs.lemmas.List.Sums.{sum_by-cons}
use Rattle.std.proofs.lemmas.Slice.Eq.{bytes_eq-Decides}
use Rattle.std.proofs.lemmas.Option.{get_or_from_slice_get}
use Rattle.object_file.specs.wl_base.declared.fault.Fault.{Fault}
use Rattle.object_file.specs.wl_base.declared.span.Span.{Span}
use Rattle.object_file.specs.wl_base.Choice.{first_some, has_name}
use Rattle.made_symbols.specs.declared.mode.Mode.{Mode}
use Rattle.made_symbols.specs.Made.{MadeSymbol, made}
use Rattle.object_file.specs.declared.object.Object.{Object}
use Rattle.object_file.specs.ObjectOf.{object_of}
use Rattle.lib_index.specs.Library.{bytes_of}
use Rattle.lib_index.proofs.LibraryLaws.{library_within}
use Rattle.round_rules.specs.declared.given.GivenObject.{GivenObject}
use Rattle.round_rules.specs.declared.given.LibraryFile.{LibraryFile}
use Rattle.round_rules.specs.Rounds.{Candidate, fault_in, object_fault, is_loaded, is_defined, defined_names, at_once, is_always_read, always_read_fault}
use Rattle.round_rules.specs.RoundLaws.{inputs_in, Rise}
use Rattle.round_rules.specs.Inputs.{AreGiven, AreCandidates, IsRead, members_from, members_of}
use Rattle.lib_rounds.specs.Offers.{library_offer, lazy_offer, lazy_offer_in, lesser}
use Rattle.lib_rounds.specs.Held.{Held, absent, held_as, held_by, loaded_objects}
use Rattle.lib_rounds.specs.State.{World, Knows, Shows, Defines, IsOffer, or_in}
use Rattle.lib_rounds.specs.Begin.{KnowsGiven, KnowsMembers, starts, held_of, input_count}
use Rattle.lib_rounds.proofs.Kept.{contains_head, contains_tail, contains_none, contains_cases, kept, was_kept, pairs_kept}
use Rattle.lib_rounds.proofs.Picked.{picked}
use Rattle.lib_rounds.proofs.Rising.{numbers_rise, stands, at_place, place_of}
use Rattle.lib_rounds.proofs.Offering.{offering_is, given_at, member_candidate, in_libraries}
use Rattle.lib_rounds.proofs.AtOnce.{loaded_at_once, libraries_whole}
use Rattle.lib_rounds.proofs.Beginning.{member_count}
use Rattle.lib_rounds.proofs.Whole.{whole_members, members_long, held_alike}

-- ---- how many candidates there are

as_many_given : (cs : List Candidate) (gs : List GivenObject) → AreGiven cs gs → length cs ≡ length gs
as_many_given [] [] h = refl
as_many_given [] (g ∷ gs) h = absurd h
as_many_given (c ∷ cs) [] h = absurd h
as_many_given (c ∷ cs) (g ∷ gs) h = ap suc (as_many_given cs gs h.1)

as_many_members : (files : List (List ℕ)) (ls : List LibraryFile) → length (flat_map (members_of files) ls) ≡ sum_by member_count ls
as_many_members files [] = refl
as_many_members files (l ∷ ls) =
    length-append (members_of files l) (flat_map (members_of files) ls)
    ∙ ap (λ (n : ℕ). n + length (flat_map (members_of files) ls)) (members_long l (slice_index_or files l.file []) l.first 0 l.library.members)
    ∙ ap (λ (n : ℕ). member_count l + n) (as_many_members files ls) ∙ sym (sum_by-cons member_count l ls)

module _ (all : List Candidate) (given : List GivenObject) (libraries : List LibraryFile) (files : List (List ℕ))
    (are : AreCandidates all given libraries files) where
  pub count_is : input_count (length given) libraries ≡ length all
  count_is =
      let both = length-filter_both (λ (c : Candidate). not c.is_member) (λ (c : Candidate). c.is_member) (λ c. double c.is_member) all in
      let objects = as_many_given (filter (λ c. not c.is_member) all) given are.objects in
      let members = ap (λ (cs : List Candidate). length cs) are.members ∙ as_many_members files libraries in
      omega (arith, both, objects, members)
    where
      double : (b : Bool) → b ≡ not (not b)
      double true = refl
      double false = refl

  rising : Rise (inputs_in all)
  rising = numbers_rise all are.numbered

  given_inputs : (cs : List Candidate) (gs : List GivenObject) → AreGiven cs gs → inputs_in cs ≡ map (λ g. g.object.input) gs
  given_inputs [] [] h = refl
  given_inputs [] (g ∷ gs) h = absurd h
  given_inputs (c ∷ cs) [] h = absurd h
  given_inputs (c ∷ cs) (g ∷ gs) h = ap (λ (k : ℕ). k ∷ inputs_in cs) h.0.input ∙ ap (λ (ks : List ℕ). g.object.input ∷ ks) (given_inputs cs gs h.1)

  pub knows_given : KnowsGiven all given
  knows_given = record {
    numbered = are.numbered;
    at = λ j g e. given_at all given libraries files are j g e;
    rise = subst Rise (given_inputs (filter (λ c. not c.is_member) all) given are.objects) (pairs_kept (λ (a b : ℕ). a < b) (λ
        (c : Candidate). c.input) (λ c. not c.is_member) all rising);
  }

-- ---- members

members_at : (l : LibraryFile) (bytes : List ℕ) (input member : ℕ) (ss : List Span) (k : ℕ) (s : Span) → slice_get ss k ≡ Some s → slice_get
    (members_from l bytes input member ss) k ≡ Some (member_candidate l bytes (input + k) (member + k) s)
members_at l bytes input member [] k s e = absurd cc
members_at l bytes input member (x ∷ ss) zero s e =
    let one : x ≡ s = cc in
    let p : input ≡ input + 0 = omega arith in
    let q : member ≡ member + 0 = omega arith in
    ap (λ (y : Span). Some (member_candidate l bytes input member y)) one ∙ ap (λ (n : ℕ). Some (member_candidate l bytes n member s)) p ∙ ap (λ
    (n : ℕ). Some (member_candidate l bytes (input + 0) n s)) q
members_at l bytes input member (x ∷ ss) (suc k) s e =
    let p : (input + 1) + k ≡ input + suc k = omega arith in
    let q : (member + 1) + k ≡ member + suc k = omega arith in
    members_at l bytes (input + 1) (member + 1) ss k s e ∙ ap (λ (n : ℕ). Some (member_candidate l bytes n ((member + 1) + k) s)) p ∙ ap (λ
    (n : ℕ). Some (member_candidate l bytes (input + suc k) n s)) q

pub knows_members : (all : List Candidate) (given : List GivenObject) (libraries : List LibraryFile) (files : List (List ℕ))
    → AreCandidates all given libraries files → All (IsRead files) libraries → KnowsMembers all libraries files
knows_members all given libraries files are read = record { numbered = are.numbered; few = are.few; member = one }
  where
    one : (j k : ℕ) (l : LibraryFile) (s : Span) → slice_get libraries j ≡ Some l → slice_get l.library.members k ≡ Some s
        → (c : Candidate) × (slice_get (members_of files l) k ≡ Some c) × (slice_get all (l.first + k - 1) ≡ Some c) × IsOffer libraries files
        (record { input = l.first + k; library = j; member = k }) c
    one j k l s at_l at_s =
        let r = All-contains (IsRead files) libraries l read (at_place libraries j l at_l) in
        let bytes_is : slice_index_or files l.file [] ≡ r.0 = get_or_from_slice_get files l.file r.0 [] r.1 in
        let c = member_candidate l (slice_index_or files l.file []) (l.first + k) (0 + k) s in
        let here = members_at l (slice_index_or files l.file []) l.first 0 l.library.members k s at_s in
        let there = in_libraries files libraries l c (at_place libraries j l at_l) (at_place (members_of files l) k c here) in
        let in_all = (was_kept (λ c. c.is_member) all c (subst (λ (cs : List Candidate). Contains cs c) (sym are.members) there)).0 in (
          c,
          here,
          stands all are.numbered c in_all,
          record {
            input = refl;
            from = record {
              l = l;
              s = s;
              bytes = r.0;
              at_library = at_l;
              at_member = at_s;
              at_file = r.1;
              within = All-contains (λ (m : Span). m.start + m.len ≤ length r.0) l.library.members s (library_within l.library r.0 r.2)
                  (at_place l.library.members k s at_s);
              object = ap (λ (b : List ℕ). object_of (l.first + k) (bytes_of b s)) bytes_is;
            };
          },
        )

-- ---- before anything is loaded

same_name : (a b : List ℕ) → bytes_eq a b ≡ bytes_eq b a
same_name a b = elim (cases_Bool (bytes_eq a b)) [
  | inl is ↦ is ∙ sym ((bytes_eq-Decides b a).1 (sym ((bytes_eq-Decides a b).0 is)))
  | inr not_so ↦ elim (cases_Bool (bytes_eq b a)) [
    | inl is ↦ let t : bytes_eq a b ≡ true = (bytes_eq-Decides a b).1 (sym ((bytes_eq-Decides b a).0 is)) in absurd cc
    | inr too ↦ not_so ∙ sym too
  ]
]

any_name : (n : List ℕ) (ms : List MadeSymbol) → list_any (λ m. bytes_eq n m.name) ms ≡ list_any (λ m. bytes_eq m.name n) ms
any_name n [] = refl
any_name n (m ∷ ms) = ap (λ (b : Bool). b || list_any (λ m. bytes_eq n m.name) ms) (same_name n m.name) ∙ ap (λ
    (b : Bool). bytes_eq m.name n || b) (any_name n ms)

none_held : (k : ℕ) → loaded_objects (replicate k absent) ≡ []
none_held zero = refl
none_held (suc k) = none_held k

some_case : (b : Bool) → is_some (let x : Option ℕ = cond b (Some 0) None in x) ≡ (b || false)
some_case true = refl
some_case false = refl

zero_case : (b : Bool) (input : ℕ) → (let x : Option ℕ = cond b (Some 0) None in x ≡ Some input) → 0 < input → ⊥
zero_case true input e p = let z : 0 ≡ input = cc in omega (arith, z, p)
zero_case false input e p = absurd cc

pub start_defines : (mode : Mode) (k : ℕ) (definers : List (List ℕ × ℕ)) → ((n : List ℕ) → lookup (bytes_eq n) definers ≡ cond (list_any
    (λ m. bytes_eq n m.name) (made mode)) (Some 0) None) → Defines mode (replicate k absent) definers
start_defines mode k definers is = record {
  defined = λ n. ap (λ (o : Option ℕ). is_some o) (is n) ∙ some_case (list_any (λ m. bytes_eq n m.name) (made mode)) ∙ ap (λ
      (b : Bool). b || false) (any_name n (made mode))
      ∙ ap (λ (os : List Object). is_defined mode os n) (sym (none_held k));
  by_loaded = λ n input e positive. absurd (zero_case (list_any (λ m. bytes_eq n m.name) (made mode)) input (sym (is n) ∙ e) positive);
}

-- ---- after all is put

pub put_all : (w : World) (given : List GivenObject) (libraries : List LibraryFile) (files : List (List ℕ)) → AreCandidates w.all given libraries files
    → map (held_of given) w.all ≡ map (held_by starts) w.all
put_all w given libraries files are = alike w.all (λ c m. by_kind c m c.is_member refl)
  where
    alike : (cs : List Candidate) → ((c : Candidate) → Contains cs c → held_of given c ≡ held_by starts c) → map (held_of given) cs ≡ map
        (held_by starts) cs
    alike [] h = refl
    alike (c ∷ cs) h = ap (λ (x : Held). x ∷ map (held_of given) cs) (h c (contains_head c cs)) ∙ ap (λ (hs : List Held). held_by starts c ∷ hs)
        (alike cs (λ d m. h d (contains_tail c cs d m)))

    member_absent : (need m : Bool) (r : Result Object Fault) → m ≡ true → held_as (not need && not m) m r ≡ absent
    member_absent true m (Ok o) e = rw e refl
    member_absent false m (Ok o) e = rw e refl
    member_absent need m (Err fault) e = refl

    either : (b : Bool) (h : Held) → h ≡ absent → (if b then h else absent) ≡ h
    either true h e = refl
    either false h e = sym e

    its_given : (c : Candidate) (cs : List Candidate) (gs : List GivenObject) → AreGiven cs gs → Contains cs c → list_any
        (λ g. g.object.input == c.input) gs ≡ true
    its_given c [] gs h m = absurd (contains_none c m)
    its_given c (d ∷ ds) [] h m = absurd h
    its_given c (d ∷ ds) (g ∷ gs) h m = elim (contains_cases d ds c m) [
      | inl same ↦ let n : g.object.input ≡ c.input = sym h.0.input ∙ ap (λ (x : Candidate). x.input) same in rw
          (eq-eqb g.object.input c.input n) refl
      | inr later ↦ ap (λ (b : Bool). (g.object.input == c.input) || b) (its_given c ds gs h.1 later) ∙ or_true (g.object.input == c.input)
    ]
      where
        or_true : (b : Bool) → (b || true) ≡ true
        or_true true = refl
        or_true false = refl

    by_kind : (c : Candidate) → Contains w.all c → (b : Bool) → c.is_member ≡ b → held_of given c ≡ held_by starts c
    by_kind c m true e = either (list_any (λ g. g.object.input == c.input) given) (held_by starts c) (member_absent c.by_need c.is_member c.object e)
    by_kind c m false e = ap (λ (b : Bool). if b then held_by starts c else absent) (its_given c (filter
        (λ c. not c.is_member) w.all) given are.objects (kept (λ c. not c.is_member) w.all c m (rw e refl)))

-- ---- what is known

lazy_case : (g : GivenObject) (gs : List GivenObject) (n : List ℕ) (input : ℕ) → lazy_offer (g ∷ gs) n ≡ Some input → (g.object.input ≡ input) ⊎
    (lazy_offer gs n ≡ Some input)
lazy_case g gs n input e = by_offer (lazy_offer_in n g) refl e
  where
    only : (lazy has : Bool) (k : ℕ) → (if lazy then (if has then Some g.object.input else None) else None) ≡ Some k → g.object.input ≡ k
    only true true k e = cc
    only true false k e = absurd cc
    only false has k e = absurd cc

    by_offer : (o : Option ℕ) → lazy_offer_in n g ≡ o → first_some (o ∷ map (lazy_offer_in n) gs) ≡ Some input → (g.object.input ≡ input) ⊎
        (lazy_offer gs n ≡ Some input)
    by_offer None is e = inr e
    by_offer (Some k) is e = let same : k ≡ input = cc in inl (only g.lazy (has_name (defined_names g.object) n) k is ∙ same)

lazy_from : (gs : List GivenObject) (n : List ℕ) (input : ℕ) → lazy_offer gs n ≡ Some input → (g : GivenObject) × Contains gs g × (g.object.input ≡ input)
lazy_from [] n input e = absurd cc
lazy_from (g ∷ gs) n input e = elim (lazy_case g gs n input e) [
  | inl here ↦ (g, contains_head g gs, here)
  | inr later ↦ let r = lazy_from gs n input later in (r.0, contains_tail g gs r.0 r.1, r.2)
]

pub knows_all : (all : List Candidate) (given : List GivenObject) (libraries : List LibraryFile) (files : List (List ℕ)) (lazies : List (List ℕ × ℕ))
    → AreCandidates all given libraries files → All (IsRead files) libraries
    → ((n : List ℕ) → lookup (bytes_eq n) lazies ≡ lazy_offer given n) → Knows all libraries files lazies
knows_all all given libraries files lazies are read lazy = record {
  numbered = are.numbered;
  few = are.few;
  finds = λ n. offering_is all given libraries files are read n ∙ ap (λ (o : Option ℕ). lesser o (library_offer libraries n)) (sym (lazy n));
  lazy = λ n input e. lazy_known n input (sym (lazy n) ∙ e);
  member = λ j k l s at_l at_s. let m = (knows_members all given libraries files are read).member j k l s at_l at_s in (m.0, m.2, m.3);
}
  where
    lazy_known : (n : List ℕ) (input : ℕ) → lazy_offer given n ≡ Some input
        → (c : Candidate) × (slice_get all (input - 1) ≡ Some c) × (c.input ≡ input) × (c.is_member ≡ false) × ((o : Object) × (c.object ≡ Ok o))
    lazy_known n input e =
        let r = lazy_from given n input e in
        let p = place_of given r.0 r.1 in
        let c = given_at all given libraries files are p.0 r.0 p.1 in
        (c.0, subst (λ (k : ℕ). slice_get all (k - 1) ≡ Some c.0) r.2 c.1, c.2.input ∙ r.2, c.2.is_member, (r.0.object, c.2.object))

-- ---- what is loaded

filter_two : (p q : Candidate → Bool) (cs : List Candidate) → filter p (filter q cs) ≡ filter (λ c. q c && p c) cs
filter_two p q [] = refl
filter_two p q (c ∷ cs) = elim (cases_Bool (q c)) [
  | inl is ↦ elim (cases_Bool (p c)) [
    | inl too ↦ rw (is, too) (ap (λ (xs : List Candidate). c ∷ xs) (filter_two p q cs))
    | inr other ↦ rw
        (is, other) (filter_two p q cs)
  ]
  | inr not_so ↦ rw not_so (filter_two p q cs)
]

two_kinds : (need m : Bool) → ((not need && not m) || (m && not need)) ≡ not need
two_kinds true true = refl
two_kinds true false = refl
two_kinds false true = refl
two_kinds false false = refl

none_of : (f : Candidate → Option Fault) (cs : List Candidate) → first_some (map f cs) ≡ None → (c : Candidate) → Contains cs c → f c ≡ None
none_of f [] e c h = absurd (contains_none c h)
none_of f (d ∷ ds) e c h =
    let r = both_none (f d) (map f ds) e in
    elim (contains_cases d ds c h) [ inl same ↦ subst (λ (x : Candidate). f x ≡ None) same r.0 | inr later ↦ none_of f ds r.1 c later ]
  where
    both_none : (o : Option Fault) (os : List (Option Fault)) → first_some (o ∷ os) ≡ None → (o ≡ None) × (first_some os ≡ None)
    both_none None os e = (refl, e)
    both_none (Some fault) os e = absurd cc

read_of : (r : Result Object Fault) → fault_in r ≡ None → (o : Object) × (r ≡ Ok o)
read_of (Ok o) e = (o, refl)
read_of (Err fault) e = absurd cc

pub shows_at_once : (w : World) (given : List GivenObject) (libraries : List LibraryFile) (files : List (List ℕ))
    → AreCandidates w.all given libraries files → (old slots : List Held) → old ≡ map (held_of given) w.all
    → ((p : Candidate → Bool) → old ≡ map (held_by p) w.all → slots ≡ map (held_by (or_in p (inputs_in (whole_members files libraries)))) w.all)
    → always_read_fault w.all ≡ None → Shows w.all slots (at_once w.all)
shows_at_once w given libraries files are old slots puts loads no_fault = record {
  slots_are = loads starts (puts ∙ put_all w given libraries files are)
      ∙ held_alike (or_in starts (inputs_in (whole_members files libraries))) (is_loaded (at_once w.all)) w.all loaded_so;
  read = λ c m is.
      let need : not c.by_need ≡ true = sym (loaded_at_once w.all (numbers_rise w.all are.numbered) c m) ∙ is in
      let one : is_always_read c ≡ true = elim (cases_Bool c.is_member) [ inl e ↦ rw e need | inr e ↦ rw e refl ] in
      read_of c.object (none_of object_fault (filter is_always_read w.all) no_fault c (kept is_always_read w.all c m one));
}
  where
    members_are : whole_members files libraries ≡ filter (λ c. c.is_member && not c.by_need) w.all
    members_are = sym (libraries_whole files libraries) ∙ ap (λ (cs : List Candidate). filter (λ c. not c.by_need) cs) (sym are.members)
        ∙ filter_two (λ c. not c.by_need) (λ c. c.is_member) w.all

    loaded_so : (c : Candidate) → Contains w.all c → or_in starts (inputs_in (whole_members files libraries)) c ≡ is_loaded (at_once w.all) c
    loaded_so c m =
        ap (λ (cs : List Candidate). starts c || is_loaded (inputs_in cs) c) members_are
        ∙ ap (λ (b : Bool). starts c || b) (picked w.all (numbers_rise w.all are.numbered) (λ c. c.is_member && not c.by_need) c m)
        ∙ two_kinds c.by_need c.is_member ∙ sym (loaded_at_once w.all (numbers_rise w.all are.numbered) c m)
