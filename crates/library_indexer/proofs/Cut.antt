-- A library that lacks an index has members, and where they lie.
use Rattle.std.proofs.Common.{◌≡◌, ℕ, ◌+◌, ◌-◌, ◌≤◌, Bool, true, false, cond, eqb, List, [], ◌∷◌, ◌++◌, length, take, drop, Option, Some, None, Result, Ok, Err, ◌⊎◌, inl, inr, refl, sym, ap, subst, ◌∙◌, arith, append_assoc}
use Rattle.std.specs.Prelude.{All, is_some, nat_le}
use Rattle.std.specs.Str.{bytes_eq}
use Rattle.std.proofs.lemmas.Bool.{eqb-true}
use Rattle.std.proofs.lemmas.List.{length-append, take_at, drop_at}
use Rattle.std.proofs.lemmas.List.Elements.{All-nil, All-cons, All-weaker}
use Rattle.wl_base.specs.declared.span.Span.{Span}
use Rattle.wl_base.specs.declared.fault.LibFault.{LibFault}
use Rattle.wl_base.specs.declared.fault.LibFault.TheVariants.{NotLibrary, Thin, BadHeader, NoIndex, BadIndex}
use Rattle.lib_index.specs.declared.members.Role.{Role}
use Rattle.lib_index.specs.declared.members.Role.TheVariants.{Index}
use Rattle.lib_index.specs.declared.members.Member.{Member}
use Rattle.lib_index.specs.Archive.{magic, thin_magic, AreMembers}
use Rattle.lib_index.specs.Library.{Contents, headers, spans, bytes_of, leasts}
use Rattle.lib_index.specs.Reading.{◌>>=◌, behind, after_magic, members_at, index_at, at_index, entries_of, library_of}
use Rattle.lib_index.proofs.LeastLaws.{Entry}
use Rattle.lib_index.proofs.Digits.{both}
use Rattle.lib_index.proofs.MemberSteps.{or_fault_ok}
use Rattle.lib_index.proofs.MemberLaws.{members_found, members_within, LiesIn, spans_all}
use Rattle.library_indexer.specs.Index.{header_length, index_name, has_index}
use Rattle.library_indexer.specs.Indexed.{cut, members_of, lacks_index, with_index}
use Rattle.library_indexer.proofs.Never.{Never, start_never, members_never, index_never}

-- ---- what says that there is no index

either : {A B : Type 0} (r : Result A LibFault) (f : A → Result B LibFault) → (r >>= f) ≡ Err NoIndex → (r ≡ Err NoIndex) ⊎ ((x : A) × (r ≡ Ok x) × (f x ≡ Err NoIndex))
either (Ok x) f e = inr (x, refl, e)
either {A} {B} (Err d) f e = let same : d ≡ NoIndex = cc in inl (ap (λ (x : LibFault). let r : Result A LibFault = Err x in r) same)

-- ---- what there is

pub record HasMembers (bytes : List ℕ) : Type 0 where
  pub rest : List ℕ
  pub all : List Member
  pub begins : bytes ≡ magic ++ rest
  pub members : AreMembers (length bytes) all rest
  pub read : cut bytes ≡ Ok all
  pub lacking : entries_of bytes all ≡ Err NoIndex

only_some : {A : Type 0} (b : Bool) (r : Option A) (y : A) → cond b r None ≡ Some y → (b ≡ true) × (r ≡ Some y)
only_some true r y e = (refl, e)
only_some false r y e = absurd cc

behind_found : (text bytes rest : List ℕ) → behind text bytes ≡ Some rest → bytes ≡ text ++ rest
behind_found [] bytes rest e = cc
behind_found (t ∷ text) [] rest e = absurd cc
behind_found (t ∷ text) (b ∷ bytes) rest e =
    let g = only_some (eqb b t) (behind text bytes) rest e in
    let is : b ≡ t = eqb-true b t g.0 in
    rw (is, behind_found text bytes rest g.1) refl

behind_is : (bytes rest : List ℕ) → after_magic bytes ≡ Ok rest → bytes ≡ magic ++ rest
behind_is bytes rest e = behind_found magic bytes rest (or_fault_ok (cond (is_some (behind thin_magic bytes)) Thin NotLibrary) (behind magic bytes) rest e)

contents : List Member → List Entry → Contents
contents all entries = record { members = spans all; offered = leasts entries }

no_entries : (read : Result (List Entry) LibFault) (all : List Member) → (read >>= λ entries. Ok (contents all entries)) ≡ Err NoIndex → read ≡ Err NoIndex
no_entries (Ok entries) all e = absurd cc
no_entries (Err d) all e = let same : d ≡ NoIndex = cc in rw same refl

pub has_members : (bytes : List ℕ) → library_of bytes ≡ Err NoIndex → HasMembers bytes
unfolding library_of contents
has_members bytes e =
    elim (either (after_magic bytes) (λ rest. members_at (length rest) (length bytes) rest >>= λ all. entries_of bytes all >>= λ entries. Ok (contents all entries)) e) [
      | inl here ↦ absurd (start_never bytes here)
      | inr start ↦ elim (either (members_at (length start.0) (length bytes) start.0) (λ all. entries_of bytes all >>= λ entries. Ok (contents all entries)) start.2) [
        | inl there ↦ absurd (members_never (length start.0) (length bytes) start.0 there)
        | inr members ↦ record {
          rest = start.0;
          all = members.0;
          begins = behind_is bytes start.0 start.1;
          members = members_found (length start.0) (length bytes) start.0 members.0 (omega arith) members.1;
          read = rw (start.1, members.1) refl;
          lacking = no_entries (entries_of bytes members.0) members.0 members.2;
        }
      ]
    ]

-- ---- where the members lie

-- A header is 60 bytes.
abbrev pub StandsBehind : Member → Type 0
StandsBehind m = m.span.start ≡ m.place + header_length

pub stand_behind : (end : ℕ) (ms : List Member) (bytes : List ℕ) → length bytes ≤ end → AreMembers end ms bytes → All StandsBehind ms
stand_behind end [] bytes le h = All-nil StandsBehind
stand_behind end (m ∷ ms) bytes le h =
    let name = h.0 in
    let header = h.1 in
    let s = h.6 in
    let body : List ℕ = h.2 ++ (h.3 ++ h.4) in
    let mark : List ℕ = 0x60 ∷ 0x0a ∷ [] in
    let placed : m.place ≡ end - length bytes = ap (λ (x : Member). x.place) h.8 in
    let start : m.span.start ≡ end - length body = ap (λ (x : Member). x.span.start) h.8 in
    let long : length header ≡ 60 = omega (arith, ap length s.parts, s.name_long, s.between_long, s.field_long, length-append name (s.between ++ (s.field ++ mark)), length-append s.between (s.field ++ mark), length-append s.field mark) in
    let whole : length bytes ≡ 60 + length body = omega (arith, ap length h.5, length-append header body, long) in
    let less : length h.4 ≤ end = omega (arith, whole, le, length-append h.2 (h.3 ++ h.4), length-append h.3 h.4) in
    All-cons StandsBehind m ms (omega (arith, placed, start, whole, le)) (stand_behind end ms h.4 less h.9)

abbrev pub LiesBehindMagic : ℕ → Span → Type 0
LiesBehindMagic end m = (8 ≤ m.start) × (m.start + m.len ≤ end)

pub lie_behind_magic : (bytes : List ℕ) (h : HasMembers bytes) → All (LiesBehindMagic (length bytes)) (spans h.all)
lie_behind_magic bytes h =
    let long : length bytes ≡ 8 + length h.rest = omega (arith, ap length h.begins, length-append magic h.rest) in
    let within = members_within (length bytes) h.all h.rest (omega (arith, long)) h.members in
    spans_all (LiesBehindMagic (length bytes)) h.all
    (All-weaker (LiesIn (length bytes - length h.rest) (length bytes)) (λ (m : Member). LiesBehindMagic (length bytes) m.span) (λ m p. (omega (arith, long, p.0, p.1), p.2)) h.all within)

pub members_are : (bytes : List ℕ) (h : HasMembers bytes) → members_of bytes ≡ spans h.all
members_are bytes h = rw h.read refl

-- ---- one whose first member is the index doesn't lack it

index_by_role : {A : Type 0} (role : Role) (read : Result A LibFault) → role ≡ Index → Never read → Never (at_index role read)
index_by_role role read is never = λ e. never (subst (λ (r : Role). at_index r read ≡ Err NoIndex) is e)

index_reads : (bytes : List ℕ) (end : ℕ) (all : List Member) (rest : List ℕ) → bytes_eq (take 16 rest) index_name ≡ true → AreMembers end all rest → Never (entries_of bytes all)
index_reads bytes end [] rest same h = λ e. absurd cc
index_reads bytes end (m ∷ ms) rest same h =
    let name = h.0 in
    let s = h.6 in
    let behind_name : List ℕ = s.between ++ (s.field ++ 0x60 ∷ 0x0a ∷ []) in
    let body : List ℕ = h.2 ++ (h.3 ++ h.4) in
    let parts : rest ≡ name ++ (behind_name ++ body) = h.5 ∙ ap (λ (x : List ℕ). x ++ body) s.parts ∙ append_assoc name behind_name body in
    let named : take 16 rest ≡ name = ap (take 16) parts ∙ take_at name (behind_name ++ body) 16 s.name_long in
    let index : bytes_eq name index_name ≡ true = ap (λ (x : List ℕ). bytes_eq x index_name) (sym named) ∙ same in
    let role : m.role ≡ Index = ap (λ (x : Member). x.role) h.8 ∙ rw index refl in
    index_by_role m.role (index_at (headers (m ∷ ms)) (bytes_of bytes m.span)) role (index_never (headers (m ∷ ms)) (bytes_of bytes m.span))

not_lacking : (bytes : List ℕ) → has_index bytes ≡ true → Never (library_of bytes)
not_lacking bytes has = λ lacks.
    let h = has_members bytes lacks in
    let behind : drop 8 bytes ≡ h.rest = ap (drop 8) h.begins ∙ drop_at magic h.rest 8 refl in
    let same : bytes_eq (take 16 h.rest) index_name ≡ true = ap (λ (x : List ℕ). bytes_eq (take 16 x) index_name) (sym behind) ∙ (both (nat_le 16 (length (drop 8 bytes))) (bytes_eq (take 16 (drop 8 bytes)) index_name) has).1 in
    index_reads bytes (length bytes) h.all h.rest same h.members h.lacking

lacks_nothing : (read : Result Contents LibFault) → Never read → lacks_index read ≡ false
lacks_nothing (Ok library) never = refl
lacks_nothing (Err NotLibrary) never = refl
lacks_nothing (Err Thin) never = refl
lacks_nothing (Err (BadHeader place)) never = refl
lacks_nothing (Err NoIndex) never = absurd (never refl)
lacks_nothing (Err (BadIndex rule)) never = refl

pub indexed_stays : (bytes : List ℕ) → has_index bytes ≡ true → with_index bytes ≡ bytes
unfolding with_index
indexed_stays bytes has = rw (lacks_nothing (library_of bytes) (not_lacking bytes has)) refl
