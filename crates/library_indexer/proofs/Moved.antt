-- Members of an archive with more bytes in front of them: they are cut in the same way, further on.
use Rattle.std.proofs.Common.{◌≡◌, ℕ, ◌+◌, ◌-◌, ◌≤◌, List, [], ◌∷◌, ◌++◌, length, take, drop, inl, inr, refl, sym, ap, ◌∙◌, arith}
use Rattle.std.specs.Prelude.{All, map}
use Rattle.std.proofs.lemmas.Bool.{cases_Bool}
use Rattle.std.proofs.lemmas.List.{length-append}
use Rattle.std.proofs.lemmas.List.Elements.{All-head, All-tail}
use Rattle.std.proofs.Math.Seq.{drop-append-add}
use Rattle.wl_base.specs.declared.span.Span.{Span}
use Rattle.lib_index.specs.declared.members.Member.{Member}
use Rattle.lib_index.specs.Archive.{magic, member_of, AreMembers}
use Rattle.lib_index.specs.Library.{is_object, headers, spans, bytes_of}
use Rattle.library_indexer.specs.Steps.{moved_back}
use Rattle.library_indexer.specs.Completed.{moved}
use Rattle.library_indexer.proofs.Cut.{StandsBehind, LiesBehindMagic}
use Rattle.library_indexer.proofs.Numbers.{moved_header}

abbrev pub moved_member : ℕ → Member → Member
moved_member by m = record { role = m.role; place = m.place + by; span = moved by m.span }

-- ---- cutting

member_moves : (by end : ℕ) (m : Member) (name : List ℕ) (a b len : ℕ) → a ≤ end → b ≤ end → m ≡ member_of name (end - a) (end - b) len → moved_member by m ≡ member_of name (end + by - a) (end + by - b) len
member_moves by end m name a b len p q is =
    let first : end - a + by ≡ end + by - a = omega (arith, p) in
    let second : end - b + by ≡ end + by - b = omega (arith, q) in
    ap (moved_member by) is ∙ (λ i. member_of name (first i) (second i) len)

pub cut_moves : (by end : ℕ) (ms : List Member) (bytes : List ℕ) → length bytes ≤ end → AreMembers end ms bytes → AreMembers (end + by) (map (moved_member by) ms) bytes
cut_moves by end [] bytes le h = h
cut_moves by end (m ∷ ms) bytes le h =
    let body : List ℕ = h.2 ++ (h.3 ++ h.4) in
    let whole : length bytes ≡ length h.1 + length body = omega (arith, ap length h.5, length-append h.1 body) in
    let rest : length h.4 ≤ length body = omega (arith, length-append h.2 (h.3 ++ h.4), length-append h.3 h.4) in
    (h.0, h.1, h.2, h.3, h.4, h.5, h.6, h.7, member_moves by end m h.0 (length bytes) (length body) (length h.2) le (omega (arith, whole, le)) h.8, cut_moves by end ms h.4 (omega (arith, whole, rest, le)) h.9)

-- ---- what is offered

pub spans_move : (by : ℕ) (ms : List Member) → spans (map (moved_member by) ms) ≡ map (moved by) (spans ms)
spans_move by [] = refl
spans_move by (m ∷ ms) =
    elim (cases_Bool (is_object m.role)) [
      | inl is ↦ rw is (ap (λ (xs : List Span). moved by m.span ∷ xs) (spans_move by ms))
      | inr other ↦ rw other (spans_move by ms)
    ]

header_moves : (by : ℕ) (m : Member) → StandsBehind m → m.place + by ≡ moved_header by m.span
header_moves by m stands = omega (arith, stands)

pub headers_move : (by : ℕ) (ms : List Member) → All StandsBehind ms → headers (map (moved_member by) ms) ≡ map (moved_header by) (spans ms)
headers_move by [] all = refl
headers_move by (m ∷ ms) all =
    let first : m.place + by ≡ moved_header by m.span = header_moves by m (All-head StandsBehind m ms all) in
    let others = headers_move by ms (All-tail StandsBehind m ms all) in
    elim (cases_Bool (is_object m.role)) [
      | inl is ↦ rw is (λ i. first i ∷ others i)
      | inr other ↦ rw other others
    ]

-- ---- what the members hold

holds_same : (by : ℕ) (front rest : List ℕ) (m : Span) → length front ≡ 8 + by → 8 ≤ m.start → bytes_of (front ++ rest) (moved by m) ≡ bytes_of (magic ++ rest) m
holds_same by front rest m long least =
    let far : m.start + by ≡ length front + (m.start - 8) = omega (arith, long, least) in
    let near : length magic + (m.start - 8) ≡ m.start = omega (arith, least) in
    ap (take m.len) (ap (λ n. drop n (front ++ rest)) far ∙ drop-append-add front rest (m.start - 8) ∙ sym (drop-append-add magic rest (m.start - 8)) ∙ ap (λ n. drop n (magic ++ rest)) near)

pub all_hold_same : (by end : ℕ) (front rest : List ℕ) (ms : List Span) → length front ≡ 8 + by → All (LiesBehindMagic end) ms
    → map (bytes_of (front ++ rest)) (map (moved by) ms) ≡ map (bytes_of (magic ++ rest)) ms
all_hold_same by end front rest [] long all = refl
all_hold_same by end front rest (m ∷ ms) long all =
    let first = holds_same by front rest m long (All-head (LiesBehindMagic end) m ms all).0 in
    let others = all_hold_same by end front rest ms long (All-tail (LiesBehindMagic end) m ms all) in
    (λ i. first i ∷ others i)

-- ---- back again

pub back_again : (ms : List Span) → map moved_back (map (moved 64) ms) ≡ ms
back_again [] = refl
back_again (m ∷ ms) =
    let first : m.start + 64 - 64 ≡ m.start = omega arith in
    (λ i. (let x : Span = record { start = first i; len = m.len } in x) ∷ back_again ms i)
