-- What is read is a library, a library is read, and what holds of it.
use Rattle.std.proofs.Common.{◌≡◌, ℕ, zero, suc, ◌-◌, ◌+◌, ◌≤◌, ◌<◌, Bool, true, false, cond, eqb, ◌||◌, List, [], ◌∷◌, ◌++◌, length, Option, Some, None, Result, Ok, Err, refl, sym, ap, subst, ◌∙◌, arith, inl, inr, ◌⊎◌}
use Rattle.std.specs.Prelude.{All, AllPairs, map, is_some, position, ◌==◌, nat_lt, drop, ◌*◌, IfOk, IfSome}
use Rattle.std.specs.List.Sorted.{IsStrictlyIncreasing}
use Rattle.std.proofs.lemmas.Bool.{eqb-true, eq-eqb}
use Rattle.std.proofs.lemmas.List.{length-append}
use Rattle.std.proofs.lemmas.List.Elements.{All-nil, All-cons, All-head, All-tail, All-weaker}
use Rattle.wl_base.specs.declared.span.Span.{Span}
use Rattle.wl_base.specs.declared.fault.LibFault.{LibFault}
use Rattle.wl_base.specs.declared.fault.LibFault.TheVariants.{NotLibrary, Thin, BadHeader, NoIndex, BadIndex}
use Rattle.lib_index.specs.declared.fault.LibError.{LibError}
use Rattle.lib_index.specs.declared.fault.LibError.TheVariants.{Refused}
use Rattle.lib_index.specs.declared.members.Role.{Role}
use Rattle.lib_index.specs.declared.members.Role.TheVariants.{Index, LongNames, Object}
use Rattle.lib_index.specs.declared.members.Member.{Member}
use Rattle.lib_index.specs.Archive.{magic, thin_magic, AreMembers}
use Rattle.lib_index.specs.Library.{Contents, headers, spans, bytes_of, offer_of, leasts, IsGiven, IsLibrary}
use Rattle.lib_index.specs.Reading.{◌>>=◌, Answers, or_fault, behind, after_magic, has_magic, member_at, members_at, number_at, numbers_at, entries_at, counted_index, index_at, at_index, entries_of, offers, library_of, name_at, word_at}
use Rattle.lib_index.proofs.LeastLaws.{Entry, leasts_below, lookup_below}
use Rattle.lib_index.proofs.MemberSteps.{bind_ok, ok_is, or_fault_ok}
use Rattle.lib_index.proofs.MemberLaws.{members_found, members_again, members_within, members_apart, members_few, headers_few, headers_rise, spans_many, spans_all, spans_apart, LiesIn, EndsBefore}
use Rattle.lib_index.proofs.IndexLaws.{index_found, index_again, numbers_below, Below}

-- ---- the magic

only_some : {A : Type 0} (b : Bool) (r : Option A) (y : A) → cond b r None ≡ Some y → (b ≡ true) × (r ≡ Some y)
only_some true r y e = (refl, e)
only_some false r y e = absurd cc

behind_found : (text bytes rest : List ℕ) → behind text bytes ≡ Some rest → bytes ≡ text ++ rest
behind_found [] bytes rest e = cc
behind_found (t ∷ text) [] rest e = absurd cc
behind_found (t ∷ text) (b ∷ bytes) rest e =
    let g = only_some (eqb b t) (behind text bytes) rest e in
    let is : b ≡ t = eqb-true b t g.0 in
    rw (is, behind_found text bytes rest g.1) refl

behind_again : (text rest : List ℕ) → behind text (text ++ rest) ≡ Some rest
behind_again [] rest = refl
behind_again (t ∷ text) rest = rw (eq-eqb t t refl, behind_again text rest) refl

-- ---- the first member

index_first : {A : Type 0} (role : Role) (r : Result A LibFault) (y : A) → at_index role r ≡ Ok y → (role ≡ Index) × (r ≡ Ok y)
index_first Index r y e = (refl, e)
index_first LongNames r y e = absurd cc
index_first Object r y e = absurd cc

first_index_reads : {A : Type 0} (role : Role) (r : Result A LibFault) (y : A) → role ≡ Index → r ≡ Ok y → at_index role r ≡ Ok y
first_index_reads role r y p e = rw (p, e) refl

given_found : (bytes : List ℕ) (ms : List Member) (es : List Entry) → entries_of bytes ms ≡ Ok es → IsGiven bytes ms es
given_found bytes [] es e = sym (ok_is e)
given_found bytes (m ∷ ms) es e =
    let a = index_first m.role (index_at (headers (m ∷ ms)) (bytes_of bytes m.span)) es e in
    let r = index_found (headers (m ∷ ms)) (bytes_of bytes m.span) es a.1 in
    (a.0, record { places = r.at; spelled = r.spelled; found = r.found })

given_again : (bytes : List ℕ) (ms : List Member) (es : List Entry) → IsStrictlyIncreasing (headers ms) → IsGiven bytes ms es → entries_of bytes ms ≡ Ok es
given_again bytes [] es rise h = ap Ok (sym h)
given_again bytes (m ∷ ms) es rise h =
    let read = index_again (headers (m ∷ ms)) h.1.places (bytes_of bytes m.span) es rise h.1.spelled h.1.found in
    first_index_reads m.role (index_at (headers (m ∷ ms)) (bytes_of bytes m.span)) es h.0 read

-- the members of a file that were read, or are there
rest_within : (bytes rest : List ℕ) → bytes ≡ magic ++ rest → length rest ≤ length bytes
rest_within bytes rest e = omega (arith, ap length e, length-append magic rest)

cut_rises : (bytes rest : List ℕ) (ms : List Member) → length rest ≤ length bytes → AreMembers (length bytes) ms rest → IsStrictlyIncreasing (headers ms)
cut_rises bytes rest ms le cut = headers_rise ms (members_apart (length bytes) ms rest le cut)

-- ---- the whole

pub library_found : (bytes : List ℕ) (library : Contents) → library_of bytes ≡ Ok library → IsLibrary library bytes
unfolding library_of
library_found bytes library e =
    let a = bind_ok (after_magic bytes) (λ rest. members_at (length rest) (length bytes) rest >>= λ all. entries_of bytes all >>= λ entries. Ok (contents all entries)) library e in
    let b = bind_ok (members_at (length a.0) (length bytes) a.0) (λ all. entries_of bytes all >>= λ entries. Ok (contents all entries)) library a.2 in
    let c = bind_ok (entries_of bytes b.0) (λ entries. Ok (contents b.0 entries)) library b.2 in
    let is = ok_is c.2 in
    record {
      rest = a.0;
      all = b.0;
      entries = c.0;
      begins = behind_found magic bytes a.0 (or_fault_ok (cond (is_some (behind thin_magic bytes)) Thin NotLibrary) (behind magic bytes) a.0 a.1);
      cut = members_found (length a.0) (length bytes) a.0 b.0 (omega arith) b.1;
      holds = ap (λ (l : Contents). l.members) (sym is);
      given = given_found bytes b.0 c.0 c.1;
      offers = ap (λ (l : Contents). l.offered) (sym is);
    }
  where
    contents : List Member → List Entry → Contents
    contents all entries = record { members = spans all; offered = leasts entries }

pub library_again : (bytes : List ℕ) (library : Contents) → IsLibrary library bytes → library_of bytes ≡ Ok library
unfolding library_of
library_again bytes library h =
    let magical : behind magic bytes ≡ Some h.rest = ap (behind magic) h.begins ∙ behind_again magic h.rest in
    let members = members_again (length h.rest) (length bytes) h.rest h.all (omega arith) h.cut in
    let rise = cut_rises bytes h.rest h.all (rest_within bytes h.rest h.begins) h.cut in
    let entries = given_again bytes h.all h.entries rise h.given in
    let same : (let l : Contents = record { members = spans h.all; offered = leasts h.entries } in l ≡ library) = made (spans h.all) (leasts h.entries) library (sym h.holds) (sym h.offers) in
    rw (magical, members, entries) (ap Ok same)
  where
    made : (ms : List Span) (os : List Entry) (l : Contents) → ms ≡ l.members → os ≡ l.offered → (let x : Contents = record { members = ms; offered = os } in x ≡ l)
    made ms os l p q = rw (p, q) refl

pub one_library : (library other : Contents) (bytes : List ℕ) → IsLibrary library bytes → IsLibrary other bytes → library ≡ other
one_library library other bytes h k = ok_is (sym (library_again bytes library h) ∙ library_again bytes other k)

-- ---- what holds of it

-- what the entries of these members name is one of them
entries_below : (bytes : List ℕ) (ms : List Member) (es : List Entry) → IsGiven bytes ms es → All (λ (e : Entry). e.1 < length (spans ms)) es
entries_below bytes [] es h = subst (λ (x : List Entry). All (λ (e : Entry). e.1 < 0) x) (sym h) (All-nil (λ (e : Entry). e.1 < 0))
entries_below bytes (m ∷ ms) es h =
    let below : All (Below (length (headers (m ∷ ms)))) (map (λ (e : Entry). e.1) es) = numbers_below (headers (m ∷ ms)) h.1.places (map (λ (e : Entry). e.1) es) h.1.found in
    subst (λ n. All (λ (e : Entry). e.1 < n) es) (sym (spans_many (m ∷ ms))) (unmapped (length (headers (m ∷ ms))) es below)
  where
    unmapped : (n : ℕ) (es : List Entry) → All (Below n) (map (λ (e : Entry). e.1) es) → All (λ (e : Entry). e.1 < n) es
    unmapped n [] all = All-nil (λ (e : Entry). e.1 < n)
    unmapped n (e ∷ es) all = All-cons (λ (x : Entry). x.1 < n) e es (All-head (Below n) e.1 (map (λ (x : Entry). x.1) es) all) (unmapped n es (All-tail (Below n) e.1 (map (λ (x : Entry). x.1) es) all))

abbrev pub EndsIn : ℕ → Span → Type 0
EndsIn end m = m.start + m.len ≤ end

pub library_within : (library : Contents) (bytes : List ℕ) → IsLibrary library bytes → All (EndsIn (length bytes)) library.members
library_within library bytes h =
    let le = rest_within bytes h.rest h.begins in
    let all = members_within (length bytes) h.all h.rest le h.cut in
    subst (λ (x : List Span). All (EndsIn (length bytes)) x) (sym h.holds)
    (spans_all (EndsIn (length bytes)) h.all (All-weaker (LiesIn (length bytes - length h.rest) (length bytes)) (λ (m : Member). EndsIn (length bytes) m.span) (λ m p. p.2) h.all all))

pub library_apart : (library : Contents) (bytes : List ℕ) → IsLibrary library bytes → AllPairs EndsBefore library.members
library_apart library bytes h =
    subst (λ (x : List Span). AllPairs EndsBefore x) (sym h.holds) (spans_apart h.all (members_apart (length bytes) h.all h.rest (rest_within bytes h.rest h.begins) h.cut))

pub library_offers : (library : Contents) (bytes : List ℕ) → IsLibrary library bytes → (name : List ℕ) → IfSome (offer_of library name) (λ k. k < length library.members)
library_offers library bytes h name =
    let below : All (λ (e : Entry). e.1 < length (spans h.all)) h.entries = entries_below bytes h.all h.entries h.given in
    let least = leasts_below (length (spans h.all)) h.entries below in
    let offered : All (λ (o : Entry). o.1 < length library.members) library.offered
    = subst (λ n. All (λ (o : Entry). o.1 < n) library.offered) (ap length (sym h.holds)) (subst (λ (x : List Entry). All (λ (o : Entry). o.1 < length (spans h.all)) x) (sym h.offers) least) in
    lookup_below (length library.members) library.offered name offered

-- ---- what the calls have to know

pub members_rise : (n : ℕ) (bytes rest : List ℕ) (ms : List Member) → length rest ≤ n → length rest ≤ length bytes → members_at n (length bytes) rest ≡ Ok ms → IsStrictlyIncreasing (headers ms)
members_rise n bytes rest ms le within e = cut_rises bytes rest ms within (members_found n (length bytes) rest ms le e)

pub members_end : (n : ℕ) (bytes rest : List ℕ) (ms : List Member) → length rest ≤ n → length rest ≤ length bytes → members_at n (length bytes) rest ≡ Ok ms → All (λ (m : Member). EndsIn (length bytes) m.span) ms
members_end n bytes rest ms le within e =
    All-weaker (LiesIn (length bytes - length rest) (length bytes)) (λ (m : Member). EndsIn (length bytes) m.span) (λ m p. p.2) ms (members_within (length bytes) ms rest within (members_found n (length bytes) rest ms le e))

pub headers_at_most : (n : ℕ) (bytes rest : List ℕ) (ms : List Member) → length rest ≤ n → length rest ≤ length bytes → members_at n (length bytes) rest ≡ Ok ms → length (headers ms) ≤ length bytes
headers_at_most n bytes rest ms le within e =
    omega (arith, headers_few ms, members_few (length bytes) ms rest within (members_found n (length bytes) rest ms le e))

pub offered_below : (bytes : List ℕ) (ms : List Member) (os : List Entry) → offers (entries_of bytes ms) ≡ Ok os → All (λ (o : Entry). o.1 < length (spans ms)) os
offered_below bytes ms os e =
    let a = bind_ok (entries_of bytes ms) (λ es. Ok (leasts es)) os e in
    subst (λ (x : List Entry). All (λ (o : Entry). o.1 < length (spans ms)) x) (ok_is a.2) (leasts_below (length (spans ms)) a.0 (entries_below bytes ms a.0 (given_found bytes ms a.0 a.1)))

pub is_found : (bytes : List ℕ) (r : Result Contents LibError) → Answers (λ (x : Contents). x) r (library_of bytes) → IfOk r (λ library. IsLibrary library bytes)
is_found bytes (Ok library) given = library_found bytes library given
is_found bytes (Err e) given = tt

pub is_within : (bytes : List ℕ) (r : Result Contents LibError) → Answers (λ (x : Contents). x) r (library_of bytes) → IfOk r (λ library. All (EndsIn (length bytes)) library.members)
is_within bytes (Ok library) given = library_within library bytes (library_found bytes library given)
is_within bytes (Err e) given = tt

-- ---- where the magic is there, the cause is another

-- The answer isn't that there is no library at all.
abbrev pub IsLater : {A : Type 0} → Result A LibFault → Type 0
IsLater (Ok x) = Unit {0}
IsLater (Err NotLibrary) = ⊥
IsLater (Err Thin) = Unit {0}
IsLater (Err (BadHeader place)) = Unit {0}
IsLater (Err NoIndex) = Unit {0}
IsLater (Err (BadIndex n)) = Unit {0}

bind_later : {A B : Type 0} (r : Result A LibFault) (f : A → Result B LibFault) → IsLater r → ((x : A) → IsLater (f x)) → IsLater (r >>= f)
bind_later (Ok x) f l g = g x
bind_later (Err NotLibrary) f l g = l
bind_later (Err Thin) f l g = tt
bind_later (Err (BadHeader place)) f l g = tt
bind_later (Err NoIndex) f l g = tt
bind_later (Err (BadIndex n)) f l g = tt

or_later : {A : Type 0} (d : LibFault) (o : Option A) → (let r : Result A LibFault = Err d in IsLater r) → IsLater (or_fault d o)
or_later d (Some x) l = tt
or_later d None l = l

cond_later : {A : Type 0} (b : Bool) (r s : Result A LibFault) → IsLater r → IsLater s → IsLater (cond b r s)
cond_later true r s l m = l
cond_later false r s l m = m

members_later : (n end : ℕ) (bytes : List ℕ) → IsLater (members_at n end bytes)
unfolding members_at
members_later n end [] = tt
members_later zero end (b ∷ bytes) = tt
members_later (suc n) end (b ∷ bytes) =
    bind_later (or_fault (BadHeader (end - length (b ∷ bytes))) (member_at end (b ∷ bytes))) _ (or_later (BadHeader (end - length (b ∷ bytes))) (member_at end (b ∷ bytes)) tt) (λ m. bind_later (members_at n end m.1) _ (members_later n end m.1) (λ ms. tt))

number_later : (places bytes : List ℕ) → IsLater (number_at places bytes)
unfolding number_at
number_later places bytes =
    bind_later (or_fault (BadIndex 1) (word_at bytes)) _ (or_later (BadIndex 1) (word_at bytes) tt) (λ word. bind_later (or_fault (BadIndex 2) (position (λ place. place == word.0) places)) (λ number. Ok (number, word.1)) (or_later (BadIndex 2) (position (λ place. place == word.0) places) tt) (λ number. tt))

numbers_later : (places : List ℕ) (n : ℕ) (bytes : List ℕ) → IsLater (numbers_at places n bytes)
unfolding numbers_at
numbers_later places zero bytes = tt
numbers_later places (suc n) bytes =
    bind_later (number_at places bytes) _ (number_later places bytes) (λ k. bind_later (numbers_at places n k.1) _ (numbers_later places n k.1) (λ ks. tt))

entries_later : (ks bytes : List ℕ) → IsLater (entries_at ks bytes)
unfolding entries_at
entries_later [] bytes = tt
entries_later (k ∷ ks) bytes =
    bind_later (or_fault (BadIndex 3) (name_at bytes)) _ (or_later (BadIndex 3) (name_at bytes) tt) (λ name. bind_later (entries_at ks name.1) _ (entries_later ks name.1) (λ es. tt))

index_later : (places content : List ℕ) → IsLater (index_at places content)
unfolding index_at counted_index
index_later places content =
    bind_later (or_fault (BadIndex 1) (word_at content)) _ (or_later (BadIndex 1) (word_at content) tt) (λ count. cond_later (nat_lt (length count.1) (4 * count.0)) (Err (BadIndex 1)) (numbers_at places count.0 count.1 >>= λ ks. entries_at ks (drop (4 * count.0) count.1)) tt (bind_later (numbers_at places count.0 count.1) (λ ks. entries_at ks (drop (4 * count.0) count.1)) (numbers_later places count.0 count.1) (λ ks. entries_later ks (drop (4 * count.0) count.1))))

first_later : {A : Type 0} (role : Role) (r : Result A LibFault) → IsLater r → IsLater (at_index role r)
first_later Index r l = l
first_later LongNames r l = tt
first_later Object r l = tt

given_later : (bytes : List ℕ) (ms : List Member) → IsLater (entries_of bytes ms)
given_later bytes [] = tt
given_later bytes (m ∷ ms) = first_later m.role (index_at (headers (m ∷ ms)) (bytes_of bytes m.span)) (index_later (headers (m ∷ ms)) (bytes_of bytes m.span))

magic_later : (whole thin : Option (List ℕ)) → (let start : Result (List ℕ) LibFault = or_fault (cond (is_some thin) Thin NotLibrary) whole in IsLater start ⊎ ((is_some whole || is_some thin) ≡ false))
magic_later (Some rest) thin = inl tt
magic_later None (Some rest) = inl tt
magic_later None None = inr refl

long_step : (same : Bool) (ts bs : List ℕ) → (is_some (behind ts bs) ≡ false → is_some (behind (ts ++ 0x0a ∷ []) bs) ≡ false)
    → is_some (cond same (behind ts bs) None) ≡ false → is_some (cond same (behind (ts ++ 0x0a ∷ []) bs) None) ≡ false
long_step true ts bs rest e = rest e
long_step false ts bs rest e = refl

-- what doesn't begin with a text doesn't begin with a longer one
none_longer : (text bytes : List ℕ) → is_some (behind text bytes) ≡ false → is_some (behind (text ++ 0x0a ∷ []) bytes) ≡ false
none_longer [] bytes e = absurd (subst (λ (b : Bool). cond b (Unit {0}) ⊥) e tt)
none_longer (t ∷ ts) [] e = refl
none_longer (t ∷ ts) (b ∷ bs) e = long_step (b == t) ts bs (none_longer ts bs) e

either_none : (a b c : Bool) → (b ≡ false → c ≡ false) → (a || b) ≡ false → (a || c) ≡ false
either_none true b c rest e = e
either_none false b c rest e = rest e

pub not_library : (bytes : List ℕ) → library_of bytes ≡ Err NotLibrary → has_magic bytes ≡ false
unfolding library_of
not_library bytes e =
    elim (magic_later (behind magic bytes) (behind thin_magic bytes)) [
      | inl later ↦ absurd (subst IsLater e (bind_later (after_magic bytes) _ later (λ rest. bind_later (members_at (length rest) (length bytes) rest) _ (members_later (length rest) (length bytes) rest) (λ ms. bind_later (entries_of bytes ms) _ (given_later bytes ms) (λ es. tt)))))
      | inr other ↦ either_none (is_some (behind magic bytes)) (is_some (behind thin_magic bytes)) (is_some (behind (thin_magic ++ 0x0a ∷ []) bytes)) (none_longer thin_magic bytes) other
    ]

pub is_no_library : (bytes : List ℕ) (r : Result Contents LibError) → Answers (λ (x : Contents). x) r (library_of bytes) → r ≡ Err (Refused NotLibrary) → has_magic bytes ≡ false
is_no_library bytes r given e = not_library bytes (subst (λ (x : Result Contents LibError). Answers (λ (y : Contents). y) x (library_of bytes)) e given)
