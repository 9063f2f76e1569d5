-- Which candidate offers a name, by the objects of the words and the libraries.
use Rattle.std.proofs.Common.{◌≡◌, ℕ, zero, suc, ◌+◌, ◌-◌, ◌≤◌, ◌<◌, Bool, true, false, not, List, [], ◌∷◌, length, Option, Some, None, refl, sym, ap, subst, ◌∙◌, arith, inl, inr}
use Rattle.std.specs.Prelude.{All, Contains, map, filter, flat_map, find, option_map, ◌==◌, bytes_eq, slice_get, slice_index_or, IfSome, if◌then◌else◌}
use Rattle.std.specs.Map.{lookup}
use Rattle.std.specs.Option.{option_or}
use Rattle.std.proofs.lemmas.Bool.{cases_Bool, eqb-true, eq-eqb}
use Rattle.std.proofs.lemmas.List.Elements.{All-nil, All-cons, All-head, All-tail, All-filter, Contains-append_left, Contains-append_right}
use Rattle.std.proofs.lemmas.List.Folds.{find-append}
use Rattle.std.proofs.lemmas.Option.{get_or_from_slice_get}
use Rattle.std.proofs.lemmas.Slice.Eq.{bytes_eq-Decides}
use Rattle.object_file.specs.wl_base.declared.span.Span.{Span}
use Rattle.object_file.specs.wl_base.Choice.{first_some, has_name}
use Rattle.lib_index.specs.Library.{IsLibrary, leasts, bytes_of}
use Rattle.lib_index.proofs.LibraryLaws.{library_offers}
use Rattle.object_file.specs.ObjectOf.{object_of}
use Rattle.round_rules.specs.declared.given.GivenObject.{GivenObject}
use Rattle.round_rules.specs.declared.given.LibraryFile.{LibraryFile}
use Rattle.round_rules.specs.Rounds.{Candidate, defined_names, offering, is_just}
use Rattle.round_rules.specs.RoundLaws.{inputs_in, Rise}
use Rattle.round_rules.specs.Inputs.{IsGivenAs, AreGiven, names_of_member, members_from, members_of, AreCandidates, IsRead}
use Rattle.lib_rounds.specs.Offers.{offer_in, library_offer, lazy_offer_in, lazy_offer, lesser}
use Rattle.lib_rounds.proofs.Kept.{contains_head, contains_tail, contains_none, contains_cases, was_kept, pairs_later}
use Rattle.lib_rounds.proofs.Rising.{below, numbers_rise, stands, at_place}

-- ---- the least of two kinds

-- the input of the first candidate that passes
abbrev first_input : (Candidate → Bool) → List Candidate → Option ℕ
first_input p cs = option_map (λ c. c.input) (find p cs)

abbrev AllAbove : ℕ → Option ℕ → Type 0
AllAbove n None = Unit {0}
AllAbove n (Some k) = n < k

above_found : (p : Candidate → Bool) (n : ℕ) (cs : List Candidate) → ((c : Candidate) → Contains cs c → n < c.input) → AllAbove n (first_input p cs)
above_found p n [] h = tt
above_found p n (c ∷ cs) h = elim
    (cases_Bool (p c)) [
      | inl is ↦ rw is (h c (contains_head c cs))
      | inr not_so ↦ rw not_so
          (above_found p n cs (λ d m. h d (contains_tail c cs d m)))
    ]

least_left : (n : ℕ) (o : Option ℕ) → AllAbove n o → Some n ≡ lesser (Some n) o
least_left n None h = refl
least_left n (Some k) h = ap Some (omega (arith, h))

least_right : (n : ℕ) (o : Option ℕ) → AllAbove n o → Some n ≡ lesser o (Some n)
least_right n None h = refl
least_right n (Some k) h = ap Some (omega (arith, h))

first_of_two : (p kind : Candidate → Bool) (cs : List Candidate) → Rise (inputs_in cs)
    → first_input p cs ≡ lesser (first_input p (filter (λ c. not (kind c)) cs)) (first_input p (filter kind cs))
first_of_two p kind [] rise = refl
first_of_two p kind (c ∷ cs) rise =
    let others = first_of_two p kind cs (pairs_later (λ (a b : ℕ). a < b) c.input (inputs_in cs) rise) in
    let later : (q : Candidate → Bool) → AllAbove c.input (first_input p (filter q cs)) =
    λ q. above_found p c.input (filter q cs) (λ d m. below (λ (x : Candidate). x.input) c cs rise d (was_kept q cs d m).0) in
    elim (cases_Bool (p c)) [
      | inl is ↦ elim (cases_Bool (kind c)) [
        | inl one ↦ rw (is, one, is) (least_right c.input (first_input p (filter (λ c. not (kind c)) cs)) (later (λ c. not (kind c))))
        | inr other ↦ rw (is, other, is) (least_left c.input (first_input p (filter kind cs)) (later kind))
      ]
      | inr not_so ↦ elim (cases_Bool (kind c)) [ inl one ↦ rw (not_so, one, not_so) others | inr other ↦ rw (not_so, other, not_so) others ]
    ]

-- ---- lazy objects

lazy_is : (name : List ℕ) (input : ℕ) (offers : List (List ℕ)) (g : GivenObject) (rest : Option ℕ) (others : List (Option ℕ)) → input ≡ g.object.input
    → offers ≡ (if g.lazy then defined_names g.object else []) → rest ≡ first_some others
    → (if has_name offers name then Some input else rest) ≡ first_some (lazy_offer_in name g ∷ others)
lazy_is name input offers g rest others i o e = elim (cases_Bool g.lazy) [
  | inl is ↦ elim (cases_Bool (has_name (defined_names g.object) name)) [ inl has ↦ rw (o, is, has, i) refl | inr none ↦ rw (o, is, none) e ]
  | inr not_so ↦ rw (o, not_so) e
]

given_first : (name : List ℕ) (cs : List Candidate) (gs : List GivenObject) → AreGiven cs gs
    → first_input (λ c. has_name c.offers name) cs ≡ lazy_offer gs name
given_first name [] [] h = refl
given_first name [] (g ∷ gs) h = absurd h
given_first name (c ∷ cs) [] h = absurd h
given_first name (c ∷ cs) (g ∷ gs) h =
    option_case (has_name c.offers name) c (find (λ c. has_name c.offers name) cs)
    ∙ lazy_is name c.input c.offers g (first_input (λ c. has_name c.offers name) cs) (map (lazy_offer_in name) gs) h.0.input h.0.offers
    (given_first name cs gs h.1)
  where
    option_case : (b : Bool) (c : Candidate) (o : Option Candidate)
        → option_map (λ (c : Candidate). c.input) (if b then Some c else o) ≡ (if b then Some c.input else option_map (λ (c : Candidate). c.input) o)
    option_case true c o = refl
    option_case false c o = refl

-- ---- libraries

abbrev Offer : Type 0
Offer = List ℕ × ℕ

same_name : (a b : List ℕ) → bytes_eq a b ≡ true → a ≡ b
same_name a b e = (bytes_eq-Decides a b).0 e

-- no name stands twice
abbrev Once : List Offer → Type 0
Once [] = Unit {0}
Once (o ∷ os) = All (λ x. bytes_eq o.0 x.0 ≡ false) os × Once os

once_kept : (p : Offer → Bool) (os : List Offer) → Once os → Once (filter p os)
once_kept p [] h = tt
once_kept p (o ∷ os) h = elim (cases_Bool (p o)) [
  | inl is ↦ rw is (All-filter p (λ (x : Offer). bytes_eq o.0 x.0 ≡ false) os h.0, once_kept p os h.1)
  | inr not_so ↦ rw not_so (once_kept p os h.1)
]

others_left : (name : List ℕ) (os : List Offer) → All (λ x. bytes_eq name x.0 ≡ false) (filter (λ o. not (bytes_eq name o.0)) os)
others_left name [] = All-nil (λ (x : Offer). bytes_eq name x.0 ≡ false)
others_left name (o ∷ os) = elim (cases_Bool (bytes_eq name o.0)) [
  | inl same ↦ rw same (others_left name os)
  | inr other ↦
      rw other (All-cons (λ (x : Offer). bytes_eq name x.0 ≡ false) o (filter (λ o. not (bytes_eq name o.0)) os) other (others_left name os))
]

leasts_once : (es : List Offer) → Once (leasts es)
leasts_once [] = tt
leasts_once (e ∷ es) = (others_left e.0 (leasts es), once_kept (λ o. not (bytes_eq e.0 o.0)) (leasts es) (leasts_once es))

has_none : (name : List ℕ) (k : ℕ) (os : List Offer) → All (λ x. bytes_eq name x.0 ≡ false) os → has_name (names_of_member os k) name ≡ false
has_none name k [] h = refl
has_none name k (o ∷ os) h =
    let others = has_none name k os (All-tail (λ (x : Offer). bytes_eq name x.0 ≡ false) o os h) in
    let first = All-head (λ (x : Offer). bytes_eq name x.0 ≡ false) o os h in
    elim (cases_Bool (o.1 == k)) [ inl is ↦ rw (is, first) others | inr not_so ↦ rw not_so others ]

-- a member has the name where it is the one that is offered for it
has_where : (name : List ℕ) (k : ℕ) (os : List Offer) → Once os → has_name (names_of_member os k) name ≡ is_just k (lookup (bytes_eq name) os)
has_where name k [] h = refl
has_where name k (o ∷ os) h = elim (cases_Bool (bytes_eq name o.0)) [
  | inl same ↦
      let gone = has_none name k os (subst (λ (n : List ℕ). All (λ (x : Offer). bytes_eq n x.0 ≡ false) os) (sym (same_name name o.0 same)) h.0) in
      elim (cases_Bool (o.1 == k)) [ inl is ↦ rw (is, same, is) refl | inr not_so ↦ rw (not_so, same, not_so) gone ]
  | inr other ↦
      let others = has_where name k os h.1 in
      elim (cases_Bool (o.1 == k)) [ inl is ↦ rw (is, other) others | inr not_so ↦ rw (not_so, other) others ]
]

module _ (l : LibraryFile) (bytes : List ℕ) (name : List ℕ) where
  abbrev has : Candidate → Bool
  has c = has_name c.offers name

  none_offers : (input member : ℕ) (ss : List Span) → ((k : ℕ) → has_name (names_of_member l.library.offered k) name ≡ false)
      → first_input has (members_from l bytes input member ss) ≡ None
  none_offers input member [] h = refl
  none_offers input member (s ∷ ss) h = rw (h member) (none_offers (input + 1) (member + 1) ss h)

  one_offers : (j input member : ℕ) (ss : List Span) → ((k : ℕ) → has_name (names_of_member l.library.offered k) name ≡ (j == k)) → member ≤ j
      → j < member + length ss
      → first_input has (members_from l bytes input member ss) ≡ Some (input + (j - member))
  one_offers j input member [] h le lt = absurd (omega (arith, le, lt))
  one_offers j input member (s ∷ ss) h le lt = elim (cases_Bool (j == member)) [
    | inl is ↦
        let same = eqb-true j member is in
        rw (h member, is) (ap Some (omega (arith, same)))
    | inr not_so ↦
        let apart : j ≡ member → ⊥ = λ e. let t : (j == member) ≡ true = eq-eqb j member e in absurd cc in
        let less : member + 1 ≤ j = omega (arith, le, apart) in
        let n : (input + 1) + (j - (member + 1)) ≡ input + (j - member) = omega (arith, less) in
        rw (h member, not_so) (one_offers j (input + 1) (member + 1) ss h less (omega (arith, lt)) ∙ ap Some n)
  ]

library_first : (l : LibraryFile) (bytes : List ℕ) (name : List ℕ) (at : List ℕ) → IsLibrary l.library bytes
    → first_input (λ c. has_name c.offers name) (members_from l at l.first 0 l.library.members) ≡ offer_in name l
library_first l bytes name at h = by_offer (lookup (bytes_eq name) l.library.offered) refl (library_offers l.library bytes h name)
  where
    where_it_has : (k : ℕ) → has_name (names_of_member l.library.offered k) name ≡ is_just k (lookup (bytes_eq name) l.library.offered)
    where_it_has k = has_where name k l.library.offered (subst Once (sym h.offers) (leasts_once h.entries))

    by_offer : (o : Option ℕ) → lookup (bytes_eq name) l.library.offered ≡ o
        → IfSome (lookup (bytes_eq name) l.library.offered) (λ k. k < length l.library.members)
        → first_input (λ c. has_name c.offers name) (members_from l at l.first 0 l.library.members) ≡ option_map (λ k. l.first + k)
        (lookup (bytes_eq name) l.library.offered)
    by_offer None e within = none_offers l at name l.first 0 l.library.members (λ k. where_it_has k ∙ ap (is_just k) e)
        ∙ ap (option_map (λ k. l.first + k)) (sym e)
    by_offer (Some j) e within =
        let lt : j < length l.library.members = subst (λ (o : Option ℕ). IfSome o (λ k. k < length l.library.members)) e within in
        one_offers l at name j l.first 0 l.library.members (λ k. where_it_has k ∙ ap (is_just k) e) (omega arith) (omega (arith, lt))
        ∙ ap Some (omega arith) ∙ ap (option_map (λ k. l.first + k)) (sym e)

first_or : (a b : Option Candidate) (o : Option ℕ) (rest : List (Option ℕ)) → option_map (λ (c : Candidate). c.input) a ≡ o
    → option_map (λ (c : Candidate). c.input) b ≡ first_some rest
    → option_map (λ (c : Candidate). c.input) (option_or a b) ≡ first_some (o ∷ rest)
first_or None b None rest e f = f
first_or None b (Some n) rest e f = absurd cc
first_or (Some c) b None rest e f = absurd cc
first_or (Some c) b (Some n) rest e f = e

libraries_first : (files : List (List ℕ)) (ls : List LibraryFile) (name : List ℕ) → All (IsRead files) ls
    → first_input (λ c. has_name c.offers name) (flat_map (members_of files) ls) ≡ library_offer ls name
libraries_first files [] name h = refl
libraries_first files (l ∷ ls) name h =
    let read = All-head (IsRead files) l ls h in
    ap (option_map (λ (c : Candidate). c.input)) (find-append (λ c. has_name c.offers name) (members_of files l) (flat_map (members_of files) ls))
    ∙ first_or (find (λ c. has_name c.offers name) (members_of files l)) (find (λ c. has_name c.offers name) (flat_map (members_of files) ls))
    (offer_in name l) (map (offer_in name) ls)
    (library_first l read.0 name (slice_index_or files l.file []) read.2) (libraries_first files ls name (All-tail (IsRead files) l ls h))

-- ---- places of candidates

abbrev pub member_candidate : LibraryFile → List ℕ → ℕ → ℕ → Span → Candidate
member_candidate l bytes input member s = record {
  input = input;
  file = l.file;
  start = s.start;
  len = s.len;
  is_member = true;
  by_need = not l.whole;
  offers = names_of_member l.library.offered member;
  object = object_of input (bytes_of bytes s);
}

in_members : (l : LibraryFile) (bytes : List ℕ) (input member : ℕ) (ss : List Span) (k : ℕ) (s : Span) → slice_get ss k ≡ Some s
    → (c : Candidate) × Contains (members_from l bytes input member ss) c × (c.input ≡ input + k) × (c.is_member ≡ true) ×
    (c.by_need ≡ not l.whole) × (c.object ≡ object_of c.input (bytes_of bytes s))
in_members l bytes input member [] k s e = absurd cc
in_members l bytes input member (s ∷ ss) zero t e =
    let one : s ≡ t = cc in (
      member_candidate l bytes input member s,
      contains_head (member_candidate l bytes input member s)
          (members_from l bytes (input + 1) (member + 1) ss),
      omega arith,
      refl,
      refl,
      ap (λ (x : Span). object_of input (bytes_of bytes x)) one,
    )
in_members l bytes input member (s ∷ ss) (suc k) t e =
    let r = in_members l bytes (input + 1) (member + 1) ss k t e in
    let n = r.2 in (
      r.0,
      contains_tail (member_candidate l bytes input member s) (members_from l bytes (input + 1) (member + 1) ss) r.0 r.1,
      omega
          (arith, n),
      r.3,
      r.4,
      r.5,
    )

pub in_libraries : (files : List (List ℕ)) (ls : List LibraryFile) (l : LibraryFile) (c : Candidate) → Contains ls l → Contains (members_of files l) c
    → Contains (flat_map (members_of files) ls) c
in_libraries files [] l c h m = absurd (contains_none l h)
in_libraries files (x ∷ xs) l c h m = elim (contains_cases x xs l h) [
  | inl same ↦
      Contains-append_left (members_of files x) (flat_map (members_of files) xs) c
      (subst (λ (y : LibraryFile). Contains (members_of files y) c) (sym same) m)
  | inr later ↦ Contains-append_right (members_of files x) (flat_map (members_of files) xs) c (in_libraries files xs l c later m)
]

in_given : (cs : List Candidate) (gs : List GivenObject) → AreGiven cs gs → (j : ℕ) (g : GivenObject) → slice_get gs j ≡ Some g
    → (c : Candidate) × Contains cs c × IsGivenAs c g
in_given [] [] h j g e = absurd cc
in_given [] (x ∷ gs) h j g e = absurd h
in_given (c ∷ cs) [] h j g e = absurd h
in_given (c ∷ cs) (x ∷ gs) h zero g e = let one : x ≡ g = cc in (c, contains_head c cs, subst (IsGivenAs c) one h.0)
in_given (c ∷ cs) (x ∷ gs) h (suc j) g e = let r = in_given cs gs h.1 j g e in (r.0, contains_tail c cs r.0 r.1, r.2)

-- ---- the whole

module _ (all : List Candidate) (given : List GivenObject) (libraries : List LibraryFile) (files : List (List ℕ))
    (are : AreCandidates all given libraries files) where
  -- The candidate of least input that offers a name: a lazy object, or what a library offers first.
  pub offering_is : All (IsRead files) libraries → (name : List ℕ) → offering all name ≡ lesser (lazy_offer given name) (library_offer libraries name)
  offering_is read name =
      first_of_two (λ c. has_name c.offers name) (λ c. c.is_member) all (numbers_rise all are.numbered)
      ∙ ap (λ (o : Option ℕ). lesser o (first_input (λ c. has_name c.offers name) (filter (λ c. c.is_member) all)))
      (given_first name (filter (λ c. not c.is_member) all) given are.objects)
      ∙ ap (lesser (lazy_offer given name)) (ap (λ (cs : List Candidate). first_input (λ c. has_name c.offers name) cs) are.members
      ∙ libraries_first files libraries name read)

  -- A member of a library is the candidate at its place.
  pub member_at : (j k : ℕ) (l : LibraryFile) (s : Span) (bytes : List ℕ) → slice_get libraries j ≡ Some l → slice_get l.library.members k ≡ Some s
      → slice_get files l.file ≡ Some bytes
      → (c : Candidate) × (slice_get all (l.first + k - 1) ≡ Some c) × (c.input ≡ l.first + k) × (c.is_member ≡ true) × (c.by_need ≡ not l.whole) ×
      (c.object ≡ object_of c.input (bytes_of bytes s))
  member_at j k l s bytes at_l at_s at_file =
      let m = in_members l (slice_index_or files l.file []) l.first 0 l.library.members k s at_s in
      let there = in_libraries files libraries l m.0 (at_place libraries j l at_l) m.1 in
      let here = (was_kept (λ c. c.is_member) all m.0 (subst (λ (cs : List Candidate). Contains cs m.0) (sym are.members) there)).0 in
      let same : slice_index_or files l.file [] ≡ bytes = get_or_from_slice_get files l.file bytes [] at_file in (
        m.0,
        subst (λ (n : ℕ). slice_get all (n - 1) ≡ Some m.0) m.2 (stands all are.numbered m.0 here),
        m.2,
        m.3,
        m.4,
        subst
            (λ (b : List ℕ). m.0.object ≡ object_of m.0.input (bytes_of b s)) same m.5,
      )

  -- So is an object of the words.
  pub given_at : (j : ℕ) (g : GivenObject) → slice_get given j ≡ Some g → (c : Candidate) × (slice_get all (g.object.input - 1) ≡ Some c) × IsGivenAs c g
  given_at j g e =
      let r = in_given (filter (λ c. not c.is_member) all) given are.objects j g e in
      let here = (was_kept (λ c. not c.is_member) all r.0 r.1).0 in
      (r.0, subst (λ (n : ℕ). slice_get all (n - 1) ≡ Some r.0) r.2.input (stands all are.numbered r.0 here), r.2)
