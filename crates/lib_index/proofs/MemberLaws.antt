-- What is read is members, members are read, and where they lie.
use Rattle.std.proofs.Common.{◌≡◌, ℕ, zero, suc, ◌-◌, ◌+◌, ◌%◌, ◌≤◌, ◌<◌, true, ltb, eqb, ◌&&◌, List, [], ◌∷◌, ◌++◌, length, take, drop, Option, Some, Result, Ok, refl, sym, ap, subst, ◌∙◌, append_assoc, arith, length-drop, length-take, inl, inr}
use Rattle.std.specs.Prelude.{All, AllPairs, min}
use Rattle.std.specs.List.{list_all, prefix_len}
use Rattle.std.specs.List.Sorted.{IsStrictlyIncreasing}
use Rattle.std.specs.Char.{is_ascii_digit}
use Rattle.std.specs.Str.{bytes_eq}
use Rattle.std.proofs.lemmas.Bool.{ltb-true, ltb-false, lt-ltb, le-ltb, cases_lt, cases_Bool, eqb-true, eq-eqb}
use Rattle.std.proofs.lemmas.List.{take-append-drop, take_at, drop_at, length-append, drop-drop}
use Rattle.std.proofs.lemmas.List.Elements.{All-nil, All-cons, All-head, All-tail, All-weaker}
use Rattle.std.proofs.lemmas.List.Kept.{AllPairs-cons}
use Rattle.std.proofs.lemmas.List.Folds.{length-prefix_len}
use Rattle.wl_base.specs.declared.span.Span.{Span}
use Rattle.wl_base.specs.declared.fault.LibFault.{LibFault}
use Rattle.wl_base.specs.declared.fault.LibFault.TheVariants.{BadHeader}
use Rattle.lib_index.specs.declared.members.Member.{Member}
use Rattle.lib_index.specs.Archive.{decimal, IsDigit, SpellsNumber, SpellsHeader, IsPadding, member_of, AreMembers}
use Rattle.lib_index.specs.Library.{is_object, headers, spans}
use Rattle.lib_index.specs.Reading.{◌>>=◌, or_fault, number_in, has_header, unpadded, member_at, members_at}
use Rattle.lib_index.proofs.Digits.{both, digits_pass}
use Rattle.lib_index.proofs.LeastLaws.{same_name, itself}
use Rattle.lib_index.proofs.MemberSteps.{bind_ok, ok_is, some_is, only_some, or_fault_ok, header_long, member_parts, member_shorter}

-- ---- numbers

abbrev IsSpace : ℕ → Type 0
IsSpace b = b ≡ 32

all_spaces : (bytes : List ℕ) → list_all (λ b. eqb b 32) bytes ≡ true → All IsSpace bytes
all_spaces [] e = All-nil IsSpace
all_spaces (b ∷ bytes) e =
    let p = both (eqb b 32) (list_all (λ b. eqb b 32) bytes) e in
    All-cons IsSpace b bytes (eqb-true b 32 p.0) (all_spaces bytes p.1)

spaces_pass : (bytes : List ℕ) → All IsSpace bytes → list_all (λ b. eqb b 32) bytes ≡ true
spaces_pass [] all = refl
spaces_pass (b ∷ bytes) all = rw (eq-eqb b 32 (All-head IsSpace b bytes all)) (spaces_pass bytes (All-tail IsSpace b bytes all))

no_digits : (bytes : List ℕ) → All IsSpace bytes → prefix_len is_ascii_digit bytes ≡ 0
no_digits [] all = refl
no_digits (b ∷ bytes) all = rw (All-head IsSpace b bytes all) refl

digits_counted : (digits spaces : List ℕ) → All IsDigit digits → All IsSpace spaces → prefix_len is_ascii_digit (digits ++ spaces) ≡ length digits
digits_counted [] spaces all none = no_digits spaces none
digits_counted (d ∷ digits) spaces all none =
    let first : is_ascii_digit d ≡ true = All-head IsDigit d digits all in
    rw (first, digits_counted digits spaces (All-tail IsDigit d digits all) none) (omega arith)

pub number_found : (field : List ℕ) (n : ℕ) → number_in field ≡ Some n → SpellsNumber n field
unfolding number_in
number_found field n e =
    let k : ℕ = prefix_len is_ascii_digit field in
    let a = only_some (ltb 0 k && list_all (λ b. eqb b 32) (drop k field)) (Some (decimal (take k field))) n e in
    let p = both (ltb 0 k) (list_all (λ b. eqb b 32) (drop k field)) a.0 in
    let some : 0 < k = ltb-true 0 k p.0 in
    record {
      digits = take k field;
      spaces = drop k field;
      parts = sym (take-append-drop k field);
      some = omega (arith, some, length-prefix_len is_ascii_digit field);
      all_digits = digits_pass field;
      all_spaces = all_spaces (drop k field) p.1;
      value = sym (some_is a.1);
    }

pub number_again : (field : List ℕ) (n : ℕ) → SpellsNumber n field → number_in field ≡ Some n
unfolding number_in
number_again field n s =
    let whole : List ℕ = s.digits ++ s.spaces in
    let counted = digits_counted s.digits s.spaces s.all_digits s.all_spaces in
    let read : number_in whole ≡ Some (decimal s.digits)
    = rw (counted, lt-ltb 0 (length s.digits) s.some, drop_at s.digits s.spaces (length s.digits) refl, take_at s.digits s.spaces (length s.digits) refl, spaces_pass s.spaces s.all_spaces) refl in
    ap number_in s.parts ∙ read ∙ ap Some (sym s.value)

-- ---- headers

abbrev mark : List ℕ
mark = 0x60 ∷ 0x0a ∷ []

-- the parts of a header, and the bytes behind it
header_cut : (bytes : List ℕ) → bytes_eq (take 2 (drop 58 bytes)) mark ≡ true → bytes ≡ (take 16 bytes ++ (take 32 (drop 16 bytes) ++ (take 10 (drop 48 bytes) ++ mark))) ++ drop 60 bytes
header_cut bytes e =
    let d : drop 58 bytes ≡ mark ++ drop 60 bytes = sym (take-append-drop 2 (drop 58 bytes)) ∙ ap (λ (x : List ℕ). x ++ drop 2 (drop 58 bytes)) (same_name (take 2 (drop 58 bytes)) mark e) ∙ ap (λ (x : List ℕ). mark ++ x) (drop-drop 2 58 bytes) in
    let c : drop 48 bytes ≡ take 10 (drop 48 bytes) ++ (mark ++ drop 60 bytes) = sym (take-append-drop 10 (drop 48 bytes)) ∙ ap (λ (x : List ℕ). take 10 (drop 48 bytes) ++ x) (drop-drop 10 48 bytes ∙ d) in
    let b : drop 16 bytes ≡ take 32 (drop 16 bytes) ++ (take 10 (drop 48 bytes) ++ (mark ++ drop 60 bytes)) = sym (take-append-drop 32 (drop 16 bytes)) ∙ ap (λ (x : List ℕ). take 32 (drop 16 bytes) ++ x) (drop-drop 32 16 bytes ∙ c) in
    let a : bytes ≡ take 16 bytes ++ (take 32 (drop 16 bytes) ++ (take 10 (drop 48 bytes) ++ (mark ++ drop 60 bytes))) = sym (take-append-drop 16 bytes) ∙ ap (λ (x : List ℕ). take 16 bytes ++ x) b in
    a ∙ grouped (take 16 bytes) (take 32 (drop 16 bytes)) (take 10 (drop 48 bytes)) mark (drop 60 bytes)
  where
    grouped : (p q r s t : List ℕ) → p ++ (q ++ (r ++ (s ++ t))) ≡ (p ++ (q ++ (r ++ s))) ++ t
    grouped p q r s t = sym (append_assoc p (q ++ (r ++ s)) t ∙ ap (λ (x : List ℕ). p ++ x) (append_assoc q (r ++ s) t ∙ ap (λ (x : List ℕ). q ++ x) (append_assoc r s t)))

-- what is read of a header and the bytes behind it
pub record HeaderReads (name between field body bytes : List ℕ) : Type 0 where
  pub headed : has_header bytes ≡ true
  pub named : take 16 bytes ≡ name
  pub sized : take 10 (drop 48 bytes) ≡ field
  pub behind : drop 60 bytes ≡ body

header_reads : (name between field body : List ℕ) → length name ≡ 16 → length between ≡ 32 → length field ≡ 10 → HeaderReads name between field body ((name ++ (between ++ (field ++ mark))) ++ body)
header_reads name between field body n b f =
    let whole : List ℕ = (name ++ (between ++ (field ++ mark))) ++ body in
    let flat : whole ≡ name ++ (between ++ (field ++ (mark ++ body))) = simp append_assoc in
    let third : whole ≡ (name ++ between) ++ (field ++ (mark ++ body)) = flat ∙ sym (append_assoc name between (field ++ (mark ++ body))) in
    let fourth : whole ≡ ((name ++ between) ++ field) ++ (mark ++ body) = third ∙ sym (append_assoc (name ++ between) field (mark ++ body)) in
    let size : length (name ++ between) ≡ 48 = omega (arith, length-append name between) in
    let more : length ((name ++ between) ++ field) ≡ 58 = omega (arith, length-append (name ++ between) field) in
    let all : length (((name ++ between) ++ field) ++ mark) ≡ 60 = omega (arith, length-append ((name ++ between) ++ field) mark) in
    let last : drop 58 whole ≡ mark ++ body = ap (drop 58) fourth ∙ drop_at ((name ++ between) ++ field) (mark ++ body) 58 more in
    let fifth : whole ≡ (((name ++ between) ++ field) ++ mark) ++ body = fourth ∙ sym (append_assoc ((name ++ between) ++ field) mark body) in
    let long : 59 < length whole = omega (arith, ap length fifth, length-append (((name ++ between) ++ field) ++ mark) body) in
    record {
      headed = rw (lt-ltb 59 (length whole) long, last) (itself mark);
      named = ap (take 16) flat ∙ take_at name (between ++ (field ++ (mark ++ body))) 16 n;
      sized = ap (λ (x : List ℕ). take 10 x) (ap (drop 48) third ∙ drop_at (name ++ between) (field ++ (mark ++ body)) 48 size) ∙ take_at field (mark ++ body) 10 f;
      behind = ap (drop 60) fifth ∙ drop_at (((name ++ between) ++ field) ++ mark) body 60 all;
    }

-- ---- padding

is_nil : (xs : List ℕ) → length xs ≡ 0 → xs ≡ []
is_nil [] e = refl
is_nil (x ∷ xs) e = absurd (omega arith)

empty : (n : ℕ) (xs : List ℕ) → length xs ≡ 0 → take n xs ≡ []
empty n xs e = is_nil (take n xs) (omega (arith, length-take n xs))

dropped : (n : ℕ) (xs : List ℕ) → length xs ≡ 0 → drop n xs ≡ []
dropped n xs e = is_nil (drop n xs) (omega (arith, length-drop n xs))

pub padded : (size : ℕ) (after : List ℕ) → IsPadding size (take (min (size % 2) (length after)) after) (unpadded size after)
padded size after =
    elim (cases_lt (length after) (size % 2)) [
      | inl short ↦
          let none : length after ≡ 0 = omega (arith, short) in
          inr (empty (min (size % 2) (length after)) after none, dropped (min (size % 2) (length after)) after none)
      | inr enough ↦ inl (omega (arith, enough, length-take (min (size % 2) (length after)) after))
    ]

pub unpadded_rest : (size : ℕ) (padding rest : List ℕ) → IsPadding size padding rest → unpadded size (padding ++ rest) ≡ rest
unpadded_rest size padding rest (inl odd) =
    let n : min (size % 2) (length (padding ++ rest)) ≡ length padding = omega (arith, odd, length-append padding rest) in
    ap (λ k. drop k (padding ++ rest)) n ∙ drop_at padding rest (length padding) refl
unpadded_rest size padding rest (inr none) = rw (none.0, none.1) (dropped (min (size % 2) 0) [] refl)

-- ---- members

abbrev HeadOf : ℕ → Member → List ℕ → List ℕ → Type 0
HeadOf end m bytes rest =
    (name : List ℕ) × (header : List ℕ) × (content : List ℕ) × (padding : List ℕ)
    × (bytes ≡ header ++ (content ++ (padding ++ rest)))
    × SpellsHeader name (length content) header
    × IsPadding (length content) padding rest
    × (m ≡ member_of name (end - length bytes) (end - length (content ++ (padding ++ rest))) (length content))

member_same : (name : List ℕ) (p i j a b : ℕ) (m : Member) → member_of name p i a ≡ m → i ≡ j → a ≡ b → m ≡ member_of name p j b
member_same name p i j a b m is s l = sym is ∙ rw (s, l) refl

pub member_found : (end : ℕ) (bytes : List ℕ) (m : Member) (rest : List ℕ) → member_at end bytes ≡ Some (m, rest) → HeadOf end m bytes rest
member_found end bytes m rest e =
    let r = member_parts end bytes m rest e in
    let long = header_long bytes r.headed in
    let ended = (both (ltb 59 (length bytes)) (bytes_eq (take 2 (drop 58 bytes)) mark) r.headed).1 in
    let name : List ℕ = take 16 bytes in
    let between : List ℕ = take 32 (drop 16 bytes) in
    let field : List ℕ = take 10 (drop 48 bytes) in
    let header : List ℕ = name ++ (between ++ (field ++ mark)) in
    let body : List ℕ = drop 60 bytes in
    let content : List ℕ = take r.size body in
    let after : List ℕ = drop r.size body in
    let padding : List ℕ = take (min (r.size % 2) (length after)) after in
    let held : r.size ≤ length body = ltb-false (length body) r.size r.held in
    let size : length content ≡ r.size = omega (arith, held, length-take r.size body) in
    let behind : after ≡ padding ++ rest = sym (take-append-drop (min (r.size % 2) (length after)) after) ∙ ap (λ (x : List ℕ). padding ++ x) r.rest_is in
    let body_is : body ≡ content ++ (padding ++ rest) = sym (take-append-drop r.size body) ∙ ap (λ (x : List ℕ). content ++ x) behind in
    let parts : bytes ≡ header ++ (content ++ (padding ++ rest)) = header_cut bytes ended ∙ ap (λ (x : List ℕ). header ++ x) body_is in
    let number : SpellsNumber (length content) field = subst (λ n. SpellsNumber n field) (sym size) (number_found field r.size r.sized) in
    let spelled : SpellsHeader name (length content) header = record {
      between = between;
      field = field;
      parts = refl;
      name_long = omega (arith, long, length-take 16 bytes);
      between_long = omega (arith, long, length-take 32 (drop 16 bytes), length-drop 16 bytes);
      field_long = omega (arith, long, length-take 10 (drop 48 bytes), length-drop 48 bytes);
      sized = number;
    } in
    let pads : IsPadding (length content) padding rest = subst (λ n. IsPadding n padding rest) (sym size) (subst (λ (x : List ℕ). IsPadding r.size padding x) r.rest_is (padded r.size after)) in
    let start : end - length body ≡ end - length (content ++ (padding ++ rest)) = ap (λ (x : List ℕ). end - length x) body_is in
    let is : m ≡ member_of name (end - length bytes) (end - length (content ++ (padding ++ rest))) (length content)
    = member_same name (end - length bytes) (end - length body) (end - length (content ++ (padding ++ rest))) r.size (length content) m r.member_is start (sym size) in
    (name, header, content, padding, parts, spelled, pads, is)

read_from : (end : ℕ) (bytes name field body : List ℕ) (size : ℕ) → has_header bytes ≡ true → take 16 bytes ≡ name → take 10 (drop 48 bytes) ≡ field → drop 60 bytes ≡ body → number_in field ≡ Some size → size ≤ length body
    → member_at end bytes ≡ Some (member_of name (end - length bytes) (end - length body) size, unpadded size (drop size body))
unfolding member_at
read_from end bytes name field body size headed named sized behind number held =
    rw (headed, sized, number, behind, le-ltb (length body) size held, named) refl

pub member_again : (end : ℕ) (bytes : List ℕ) (m : Member) (rest : List ℕ) → HeadOf end m bytes rest → member_at end bytes ≡ Some (m, rest)
member_again end bytes m rest h =
    let name = h.0 in
    let content = h.2 in
    let padding = h.3 in
    let s = h.5 in
    let body : List ℕ = content ++ (padding ++ rest) in
    let whole : bytes ≡ (name ++ (s.between ++ (s.field ++ mark))) ++ body = h.4 ∙ ap (λ (x : List ℕ). x ++ body) s.parts in
    let reads : HeaderReads name s.between s.field body bytes = subst (λ (x : List ℕ). HeaderReads name s.between s.field body x) (sym whole) (header_reads name s.between s.field body s.name_long s.between_long s.field_long) in
    let held : length content ≤ length body = omega (arith, length-append content (padding ++ rest)) in
    let read = read_from end bytes name s.field body (length content) reads.headed reads.named reads.sized reads.behind (number_again s.field (length content) s.sized) held in
    let left : unpadded (length content) (drop (length content) body) ≡ rest = ap (unpadded (length content)) (drop_at content (padding ++ rest) (length content) refl) ∙ unpadded_rest (length content) padding rest h.6 in
    read ∙ ap (λ (x : List ℕ). Some (member_of name (end - length bytes) (end - length body) (length content), x)) left ∙ ap (λ (x : Member). Some (x, rest)) (sym h.7)

pub members_found : (n end : ℕ) (bytes : List ℕ) (ms : List Member) → length bytes ≤ n → members_at n end bytes ≡ Ok ms → AreMembers end ms bytes
unfolding members_at
members_found n end [] ms le e = subst (λ (x : List Member). AreMembers end x []) (ok_is e) refl
members_found zero end (b ∷ bytes) ms le e = absurd (omega arith)
members_found (suc n) end (b ∷ bytes) ms le e =
    let bad : LibFault = BadHeader (end - length (b ∷ bytes)) in
    let a = bind_ok (or_fault bad (member_at end (b ∷ bytes))) (λ m. members_at n end m.1 >>= λ ms. Ok (m.0 ∷ ms)) ms e in
    let c = bind_ok (members_at n end a.0.1) (λ ms. Ok (a.0.0 ∷ ms)) ms a.2 in
    let read = or_fault_ok bad (member_at end (b ∷ bytes)) a.0 a.1 in
    let shorter = member_shorter end (b ∷ bytes) a.0.0 a.0.1 read in
    let h = member_found end (b ∷ bytes) a.0.0 a.0.1 read in
    let others = members_found n end a.0.1 c.0 (omega arith) c.1 in
    subst (λ (x : List Member). AreMembers end x (b ∷ bytes)) (ok_is c.2) (h.0, h.1, h.2, h.3, a.0.1, h.4, h.5, h.6, h.7, others)

step_ok : (bad : LibFault) (r : Option (Member × List ℕ)) (f : Member × List ℕ → Result (List Member) LibFault) (s : Member × List ℕ) (y : Result (List Member) LibFault) → r ≡ Some s → f s ≡ y → (or_fault bad r >>= f) ≡ y
step_ok bad r f s y e h = rw e h

pub members_again : (n end : ℕ) (bytes : List ℕ) (ms : List Member) → length bytes ≤ n → AreMembers end ms bytes → members_at n end bytes ≡ Ok ms
unfolding members_at
members_again n end bytes [] le h = rw h refl
members_again n end [] (m ∷ ms) le h = absurd (let p = member_shorter end [] m h.4 (member_again end [] m h.4 (h.0, h.1, h.2, h.3, h.5, h.6, h.7, h.8)) in omega (arith, p))
members_again zero end (b ∷ bytes) (m ∷ ms) le h = absurd (omega arith)
members_again (suc n) end (b ∷ bytes) (m ∷ ms) le h =
    let read = member_again end (b ∷ bytes) m h.4 (h.0, h.1, h.2, h.3, h.5, h.6, h.7, h.8) in
    let shorter = member_shorter end (b ∷ bytes) m h.4 read in
    let others = members_again n end h.4 ms (omega (arith, shorter)) h.9 in
    step_ok (BadHeader (end - length (b ∷ bytes))) (member_at end (b ∷ bytes)) (λ t. members_at n end t.1 >>= λ ms. Ok (t.0 ∷ ms)) (m, h.4) (Ok (m ∷ ms)) read (rw others refl)

-- ---- where the members lie

-- where a member's header stands, and where its data end
pub record Lies (end : ℕ) (m : Member) (bytes rest : List ℕ) : Type 0 where
  pub placed : m.place ≡ end - length bytes
  pub behind : m.place < m.span.start
  pub ends : m.span.start + m.span.len ≤ end - length rest
  pub shorter : length rest < length bytes

lies : (end : ℕ) (m : Member) (bytes rest : List ℕ) → length bytes ≤ end → HeadOf end m bytes rest → Lies end m bytes rest
lies end m bytes rest le h =
    let content = h.2 in
    let padding = h.3 in
    let s = h.5 in
    let body : List ℕ = content ++ (padding ++ rest) in
    let placed : m.place ≡ end - length bytes = ap (λ (x : Member). x.place) h.7 in
    let start : m.span.start ≡ end - length body = ap (λ (x : Member). x.span.start) h.7 in
    let len : m.span.len ≡ length content = ap (λ (x : Member). x.span.len) h.7 in
    let header : length h.1 ≡ 60 = omega (arith, ap length s.parts, s.name_long, s.between_long, s.field_long, length-append h.0 (s.between ++ (s.field ++ mark)), length-append s.between (s.field ++ mark), length-append s.field mark) in
    let all : length bytes ≡ 60 + length body = omega (arith, ap length h.4, length-append h.1 body, header) in
    let body_long : length body ≡ length content + (length padding + length rest) = omega (arith, length-append content (padding ++ rest), length-append padding rest) in
    record { placed = placed; behind = omega arith; ends = omega arith; shorter = omega arith }

head_of : (end : ℕ) (m : Member) (ms : List Member) (bytes : List ℕ) (h : AreMembers end (m ∷ ms) bytes) → HeadOf end m bytes h.4
head_of end m ms bytes h = (h.0, h.1, h.2, h.3, h.5, h.6, h.7, h.8)

abbrev pub LiesIn : ℕ → ℕ → Member → Type 0
LiesIn from end m = (from ≤ m.place) × (m.place < m.span.start) × (m.span.start + m.span.len ≤ end)

pub members_within : (end : ℕ) (ms : List Member) (bytes : List ℕ) → length bytes ≤ end → AreMembers end ms bytes → All (LiesIn (end - length bytes) end) ms
members_within end [] bytes le h = All-nil (LiesIn (end - length bytes) end)
members_within end (m ∷ ms) bytes le h =
    let l = lies end m bytes h.4 le (head_of end m ms bytes h) in
    let others = members_within end ms h.4 (omega (arith, l.shorter)) h.9 in
    All-cons (LiesIn (end - length bytes) end) m ms (omega (arith, l.placed), l.behind, omega (arith, l.ends))
    (All-weaker (LiesIn (end - length h.4) end) (LiesIn (end - length bytes) end) (λ x p. (omega (arith, p.0, l.shorter), p.1, p.2)) ms others)

abbrev pub IsBefore : Member → Member → Type 0
IsBefore m n = (m.place < n.place) × (m.span.start + m.span.len < n.span.start)

pub members_apart : (end : ℕ) (ms : List Member) (bytes : List ℕ) → length bytes ≤ end → AreMembers end ms bytes → AllPairs IsBefore ms
members_apart end [] bytes le h = λ i j d lt within. absurd (omega arith)
members_apart end (m ∷ ms) bytes le h =
    let l = lies end m bytes h.4 le (head_of end m ms bytes h) in
    let less : length h.4 ≤ end = omega (arith, l.shorter) in
    let others = members_within end ms h.4 less h.9 in
    AllPairs-cons IsBefore m ms (All-weaker (LiesIn (end - length h.4) end) (IsBefore m) (λ x p. (omega (arith, l.placed, l.shorter, p.0, less), omega (arith, l.ends, p.0, p.1))) ms others) (members_apart end ms h.4 less h.9)

pub members_few : (end : ℕ) (ms : List Member) (bytes : List ℕ) → length bytes ≤ end → AreMembers end ms bytes → length ms ≤ length bytes
members_few end [] bytes le h = omega arith
members_few end (m ∷ ms) bytes le h =
    let l = lies end m bytes h.4 le (head_of end m ms bytes h) in
    let others = members_few end ms h.4 (omega (arith, l.shorter)) h.9 in
    omega (arith, others, l.shorter)

-- ---- of those that are offered

pub headers_few : (ms : List Member) → length (headers ms) ≤ length ms
headers_few [] = omega arith
headers_few (m ∷ ms) =
    let others = headers_few ms in
    elim (cases_Bool (is_object m.role)) [ inl is ↦ rw is (omega (arith, others)) | inr other ↦ rw other (omega (arith, others)) ]

pub spans_many : (ms : List Member) → length (spans ms) ≡ length (headers ms)
spans_many [] = refl
spans_many (m ∷ ms) =
    elim (cases_Bool (is_object m.role)) [ inl is ↦ rw is (ap suc (spans_many ms)) | inr other ↦ rw other (spans_many ms) ]

pub spans_all : (P : Span → Type 0) (ms : List Member) → All (λ m. P m.span) ms → All P (spans ms)
spans_all P [] all = All-nil P
spans_all P (m ∷ ms) all =
    let others = spans_all P ms (All-tail (λ (x : Member). P x.span) m ms all) in
    elim (cases_Bool (is_object m.role)) [ inl is ↦ rw is (All-cons P m.span (spans ms) (All-head (λ (x : Member). P x.span) m ms all) others) | inr other ↦ rw other others ]

pub headers_all : (P : ℕ → Type 0) (ms : List Member) → All (λ m. P m.place) ms → All P (headers ms)
headers_all P [] all = All-nil P
headers_all P (m ∷ ms) all =
    let others = headers_all P ms (All-tail (λ (x : Member). P x.place) m ms all) in
    elim (cases_Bool (is_object m.role)) [ inl is ↦ rw is (All-cons P m.place (headers ms) (All-head (λ (x : Member). P x.place) m ms all) others) | inr other ↦ rw other others ]

first_pair : {X : Type 0} (R : X → X → Type 0) (x : X) (xs : List X) → AllPairs R (x ∷ xs) → All (R x) xs
first_pair R x xs pairs = λ k d lt. pairs 0 (suc k) d (omega arith) (omega (arith, lt))

later_pairs : {X : Type 0} (R : X → X → Type 0) (x : X) (xs : List X) → AllPairs R (x ∷ xs) → AllPairs R xs
later_pairs R x xs pairs = λ i j d lt within. pairs (suc i) (suc j) d (omega (arith, lt)) (omega (arith, within))

abbrev pub EndsBefore : Span → Span → Type 0
EndsBefore m n = m.start + m.len < n.start

pub spans_apart : (ms : List Member) → AllPairs IsBefore ms → AllPairs EndsBefore (spans ms)
spans_apart [] pairs = λ i j d lt within. absurd (omega arith)
spans_apart (m ∷ ms) pairs =
    let others = spans_apart ms (later_pairs IsBefore m ms pairs) in
    let first = spans_all (EndsBefore m.span) ms (All-weaker (IsBefore m) (λ (x : Member). EndsBefore m.span x.span) (λ x p. p.1) ms (first_pair IsBefore m ms pairs)) in
    elim (cases_Bool (is_object m.role)) [ inl is ↦ rw is (AllPairs-cons EndsBefore m.span (spans ms) first others) | inr other ↦ rw other others ]

abbrev Below : ℕ → ℕ → Type 0
Below a b = a < b

headers_apart : (ms : List Member) → AllPairs IsBefore ms → AllPairs Below (headers ms)
headers_apart [] pairs = λ i j d lt within. absurd (omega arith)
headers_apart (m ∷ ms) pairs =
    let others = headers_apart ms (later_pairs IsBefore m ms pairs) in
    let first = headers_all (Below m.place) ms (All-weaker (IsBefore m) (λ (x : Member). Below m.place x.place) (λ x p. p.0) ms (first_pair IsBefore m ms pairs)) in
    elim (cases_Bool (is_object m.role)) [ inl is ↦ rw is (AllPairs-cons Below m.place (headers ms) first others) | inr other ↦ rw other others ]

pub headers_rise : (ms : List Member) → AllPairs IsBefore ms → IsStrictlyIncreasing (headers ms)
headers_rise ms pairs = λ k within. headers_apart ms pairs k (k + 1) 0 (omega arith) within
