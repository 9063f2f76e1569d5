-- What is read is a frame, a frame is read, and where the sections of a frame lie.
use Rattle.std.proofs.Common.{◌≡◌, ℕ, zero, suc, ◌-◌, ◌+◌, ◌≤◌, ◌<◌, Bool, true, false, cond, ltb, leb, eqb, ◌&&◌, List, [], ◌∷◌, ◌++◌, length, take, max, Result, Ok, Err, refl, sym, ap, subst, ◌∙◌, arith, length-drop, length-take, inl, inr}
use Rattle.std.specs.Prelude.{IfOk, All, AllPairs}
use Rattle.std.proofs.lemmas.Bool.{ltb-false, leb-false, lt-ltb, le-ltb, lt-leb, cases_lt, eqb-true, eq-eqb}
use Rattle.std.proofs.lemmas.List.{take-append-drop, drop_at, length-append}
use Rattle.std.proofs.lemmas.List.Elements.{All-nil, All-cons, All-weaker}
use Rattle.std.proofs.lemmas.List.Kept.{AllPairs-cons}
use Rattle.wasm_grammar.specs.Grammar.{SpellsU32}
use Rattle.wasm_grammar.specs.Reading.{u32_at}
use Rattle.wasm_grammar.specs.ReaderLaws.{u32_reader, taken_length}
use Rattle.wasm_sections.specs.declared.section.SectionSpan.{SectionSpan}
use Rattle.wasm_sections.specs.declared.fault.FrameFault.{FrameFault}
use Rattle.wasm_sections.specs.declared.fault.FrameFault.TheVariants.{BadHeader}
use Rattle.wasm_sections.specs.Sections.{rank_of, span_at, header, IsInOrder, AreSections, IsFrame}
use Rattle.wasm_sections.specs.Reading.{◌>>=◌, Gives, behind, section_at, sections_at, frame_at}
use Rattle.wasm_sections.proofs.Loop.{section_parts, bind_ok, ok_is}

-- ---- what is read is a frame

-- what is in order: the test and the fact
order_false : (rank last : ℕ) → (ltb 0 rank && leb rank last) ≡ false → 0 < rank → last < rank
order_false rank last e some = leb-false rank last (rw (lt-ltb 0 rank some) at e)

span_same : (i j a b m n : ℕ) (s : SectionSpan) → span_at i a m ≡ s → i ≡ j → a ≡ b → m ≡ n → s ≡ span_at j b n
span_same i j a b m n s is p q r = sym is ∙ rw (p, q, r) refl

pub sections_found : (n last end : ℕ) (bytes : List ℕ) (ss : List SectionSpan) → length bytes ≤ n → sections_at n last end bytes ≡ Ok ss → AreSections last end ss bytes
unfolding sections_at
sections_found n last end [] ss le e = subst (λ (x : List SectionSpan). AreSections last end x []) (ok_is e) refl
sections_found zero last end (id ∷ after) ss le e = absurd (omega arith)
sections_found (suc n) last end (id ∷ after) ss le e =
    let a = bind_ok (section_at last end (id ∷ after)) (λ s. sections_at n (max (rank_of s.0.id) last) end s.1 >>= λ ss. Ok (s.0 ∷ ss)) ss e in
    let b = bind_ok (sections_at n (max (rank_of a.0.0.id) last) end a.0.1) (λ ss. Ok (a.0.0 ∷ ss)) ss a.2 in
    let r = section_parts last end id after a.0.0 a.0.1 a.1 in
    let t = u32_reader.found end after r.size r.body r.sized in
    let len = taken_length t in
    let enough : r.size ≤ length r.body = ltb-false _ _ r.held in
    let payload : List ℕ = take r.size r.body in
    let payload_len : length payload ≡ r.size = omega (arith, length-take r.size r.body) in
    let id_is : id ≡ a.0.0.id = ap (λ (s : SectionSpan). s.id) r.span_is in
    let rest_len : length a.0.1 ≡ length r.body - r.size = ap length (sym r.rest_is) ∙ length-drop r.size r.body in
    let others = sections_found n (max (rank_of a.0.0.id) last) end a.0.1 b.0 (omega arith) b.1 in
    let body_is : r.body ≡ payload ++ a.0.1 = sym (take-append-drop r.size r.body) ∙ ap (λ (x : List ℕ). payload ++ x) r.rest_is in
    let parts : id ∷ after ≡ id ∷ (t.text ++ (payload ++ a.0.1)) = ap (λ (x : List ℕ). id ∷ x) (t.parts ∙ ap (λ (x : List ℕ). t.text ++ x) body_is) in
    let low : a.0.0.id ≤ 13 = subst (λ k. k ≤ 13) id_is (ltb-false _ _ r.low) in
    let sized : SpellsU32 (length payload) t.text = subst (λ k. SpellsU32 k t.text) (sym payload_len) t.spells in
    let ordered : IsInOrder last a.0.0.id = subst (λ k. IsInOrder last k) id_is (order_false (rank_of id) last r.in_order) in
    let start : end - length r.body ≡ end - length (payload ++ a.0.1) = ap (λ (x : List ℕ). end - length x) body_is in
    let span : a.0.0 ≡ span_at a.0.0.id (end - length (payload ++ a.0.1)) (length payload) = span_same id a.0.0.id (end - length r.body) (end - length (payload ++ a.0.1)) r.size (length payload) a.0.0 r.span_is id_is start (sym payload_len) in
    let whole : id ∷ after ≡ a.0.0.id ∷ (t.text ++ (payload ++ a.0.1)) = parts ∙ ap (λ k. k ∷ (t.text ++ (payload ++ a.0.1))) id_is in
    subst (λ (x : List SectionSpan). AreSections last end x (id ∷ after)) (ok_is b.2)
    (t.text, payload, a.0.1, whole, low, sized, ordered, span, others)

-- ---- a frame is read

not_late : (rank last : ℕ) → ((0 < rank) → last < rank) → (ltb 0 rank && leb rank last) ≡ false
not_late rank last h =
    elim (cases_lt 0 rank) [
      | inl some ↦ rw (lt-ltb 0 rank some, lt-leb rank last (h some)) refl
      | inr none ↦ rw (le-ltb 0 rank none) refl
    ]

section_again : (last end id : ℕ) (size payload rest : List ℕ) → id ≤ 13 → SpellsU32 (length payload) size → IsInOrder last id
    → section_at last end (id ∷ (size ++ (payload ++ rest))) ≡ Ok (span_at id (end - length (payload ++ rest)) (length payload), rest)
unfolding section_at
section_again last end id size payload rest low sized ordered =
    let read : u32_at end (size ++ (payload ++ rest)) ≡ Ok (length payload, payload ++ rest) = u32_reader.again end (length payload) size (payload ++ rest) sized in
    let held : ltb (length (payload ++ rest)) (length payload) ≡ false = le-ltb _ _ (omega (arith, length-append payload rest)) in
    rw (le-ltb 13 id low, read, held, not_late (rank_of id) last ordered, drop_at payload rest (length payload) refl) refl

step_ok : (r : Result (SectionSpan × List ℕ) FrameFault) (f : SectionSpan × List ℕ → Result (List SectionSpan) FrameFault) (s : SectionSpan × List ℕ) (y : Result (List SectionSpan) FrameFault) → r ≡ Ok s → f s ≡ y → (r >>= f) ≡ y
step_ok r f s y e h = rw e h

pub sections_again : (n last end : ℕ) (bytes : List ℕ) (ss : List SectionSpan) → length bytes ≤ n → AreSections last end ss bytes → sections_at n last end bytes ≡ Ok ss
unfolding sections_at
sections_again n last end bytes [] le h = rw h refl
sections_again zero last end bytes (s ∷ ss) le h = absurd (omega (arith, ap length h.3))
sections_again (suc n) last end bytes (s ∷ ss) le h =
    let whole : List ℕ = s.id ∷ (h.0 ++ (h.1 ++ h.2)) in
    let first : section_at last end whole ≡ Ok (s, h.2) = section_again last end s.id h.0 h.1 h.2 h.4 h.5 h.6 ∙ ap (λ (x : SectionSpan). Ok (x, h.2)) (sym h.7) in
    let shorter : length h.2 ≤ n = omega (arith, ap length h.3, length-append h.0 (h.1 ++ h.2), length-append h.1 h.2) in
    let others : sections_at n (max (rank_of s.id) last) end h.2 ≡ Ok ss = sections_again n (max (rank_of s.id) last) end h.2 ss shorter h.8 in
    let read : sections_at (suc n) last end whole ≡ Ok (s ∷ ss)
    = step_ok (section_at last end whole) (λ t. sections_at n (max (rank_of t.0.id) last) end t.1 >>= λ ss. Ok (t.0 ∷ ss)) (s, h.2) (Ok (s ∷ ss)) first (rw others refl) in
    ap (sections_at (suc n) last end) h.3 ∙ read

-- ---- the header

cond_same : (b : Bool) (r : Result (List ℕ) FrameFault) (d : FrameFault) (x : List ℕ) → cond b r (Err d) ≡ Ok x → (b ≡ true) × (r ≡ Ok x)
cond_same true r d x e = (refl, e)
cond_same false r d x e = absurd cc

behind_found : (text bytes rest : List ℕ) → behind text bytes ≡ Ok rest → bytes ≡ text ++ rest
behind_found [] bytes rest e = ok_is e
behind_found (t ∷ text) [] rest e = absurd cc
behind_found (t ∷ text) (b ∷ bytes) rest e =
    let g = cond_same (eqb b t) (behind text bytes) BadHeader rest e in
    let is : b ≡ t = eqb-true b t g.0 in
    rw (is, behind_found text bytes rest g.1) refl

behind_again : (text rest : List ℕ) → behind text (text ++ rest) ≡ Ok rest
behind_again [] rest = refl
behind_again (t ∷ text) rest = rw (eq-eqb t t refl, behind_again text rest) refl

pub frame_found : (bytes : List ℕ) (ss : List SectionSpan) → frame_at bytes ≡ Ok ss → IsFrame ss bytes
unfolding frame_at
frame_found bytes ss e =
    let a = bind_ok (behind header bytes) (λ rest. sections_at (length rest) 0 (length bytes) rest) ss e in
    (a.0, behind_found header bytes a.0 a.1, sections_found (length a.0) 0 (length bytes) a.0 ss (omega arith) a.2)

pub frame_again : (bytes : List ℕ) (ss : List SectionSpan) → IsFrame ss bytes → frame_at bytes ≡ Ok ss
unfolding frame_at
frame_again bytes ss h =
    let read : behind header bytes ≡ Ok h.0 = ap (behind header) h.1 ∙ behind_again header h.0 in
    let sections : sections_at (length h.0) 0 (length bytes) h.0 ≡ Ok ss = sections_again (length h.0) 0 (length bytes) h.0 ss (omega arith) h.2 in
    rw (read, sections) refl

pub one_frame : (ss others : List SectionSpan) (bytes : List ℕ) → IsFrame ss bytes → IsFrame others bytes → ss ≡ others
one_frame ss others bytes h k = ok_is (sym (frame_again bytes ss h) ∙ frame_again bytes others k)

-- ---- where the sections lie

-- The payload lies behind this place, and ends before that.
abbrev pub LiesIn : ℕ → ℕ → SectionSpan → Type 0
LiesIn from end s = (from < s.payload.start) × (s.payload.start + s.payload.len ≤ end)

-- where a section's payload begins and ends, and where the next section begins
lies : (s : SectionSpan) (id end : ℕ) (size payload rest bytes : List ℕ) → length bytes ≤ end → bytes ≡ id ∷ (size ++ (payload ++ rest)) → s ≡ span_at s.id (end - length (payload ++ rest)) (length payload)
    → (end - length bytes < s.payload.start) × (s.payload.start + s.payload.len ≡ end - length rest) × (length rest ≤ end) × (end - length bytes < end - length rest)
lies s id end size payload rest bytes le e is =
    let start : s.payload.start ≡ end - length (payload ++ rest) = ap (λ (t : SectionSpan). t.payload.start) is in
    let len : s.payload.len ≡ length payload = ap (λ (t : SectionSpan). t.payload.len) is in
    let all : length bytes ≡ suc (length size + (length payload + length rest)) = omega (arith, ap length e, length-append size (payload ++ rest), length-append payload rest) in
    let both : length (payload ++ rest) ≡ length payload + length rest = length-append payload rest in
    (omega arith, omega arith, omega arith, omega arith)

pub sections_within : (last end : ℕ) (ss : List SectionSpan) (bytes : List ℕ) → length bytes ≤ end → AreSections last end ss bytes → All (LiesIn (end - length bytes) end) ss
sections_within last end [] bytes le h = All-nil (LiesIn (end - length bytes) end)
sections_within last end (s ∷ ss) bytes le h =
    let l = lies s s.id end h.0 h.1 h.2 bytes le h.3 h.7 in
    let others = sections_within (max (rank_of s.id) last) end ss h.2 l.2 h.8 in
    All-cons (LiesIn (end - length bytes) end) s ss (l.0, omega (arith, l.1)) (All-weaker (LiesIn (end - length h.2) end) (LiesIn (end - length bytes) end) (λ t p. (omega (arith, l.3, p.0), p.1)) ss others)

abbrev pub IsBefore : SectionSpan → SectionSpan → Type 0
IsBefore s t = s.payload.start + s.payload.len < t.payload.start

pub sections_apart : (last end : ℕ) (ss : List SectionSpan) (bytes : List ℕ) → length bytes ≤ end → AreSections last end ss bytes → AllPairs IsBefore ss
sections_apart last end [] bytes le h = λ i j d lt within. absurd (omega arith)
sections_apart last end (s ∷ ss) bytes le h =
    let l = lies s s.id end h.0 h.1 h.2 bytes le h.3 h.7 in
    let others = sections_within (max (rank_of s.id) last) end ss h.2 l.2 h.8 in
    AllPairs-cons IsBefore s ss (All-weaker (LiesIn (end - length h.2) end) (IsBefore s) (λ t p. omega (arith, l.1, p.0)) ss others) (sections_apart (max (rank_of s.id) last) end ss h.2 l.2 h.8)

abbrev pub IsKnown : SectionSpan → Type 0
IsKnown s = s.id ≤ 13

pub sections_known : (last end : ℕ) (ss : List SectionSpan) (bytes : List ℕ) → AreSections last end ss bytes → All IsKnown ss
sections_known last end [] bytes h = All-nil IsKnown
sections_known last end (s ∷ ss) bytes h = All-cons IsKnown s ss h.4 (sections_known (max (rank_of s.id) last) end ss h.2 h.8)

-- A section stands in order behind this rank.
abbrev pub IsBehind : ℕ → SectionSpan → Type 0
IsBehind last s = IsInOrder last s.id

pub sections_behind : (last end : ℕ) (ss : List SectionSpan) (bytes : List ℕ) → AreSections last end ss bytes → All (IsBehind last) ss
sections_behind last end [] bytes h = All-nil (IsBehind last)
sections_behind last end (s ∷ ss) bytes h =
    All-cons (IsBehind last) s ss h.6 (All-weaker (IsBehind (max (rank_of s.id) last)) (IsBehind last) (λ t p some. max_above (rank_of s.id) last (rank_of t.id) (p some)) ss (sections_behind (max (rank_of s.id) last) end ss h.2 h.8))
  where
    max_above : (a b c : ℕ) → max a b < c → b < c
    max_above a b c lt = omega arith

abbrev pub Rises : SectionSpan → SectionSpan → Type 0
Rises s t = IsInOrder (rank_of s.id) t.id

pub sections_rise : (last end : ℕ) (ss : List SectionSpan) (bytes : List ℕ) → AreSections last end ss bytes → AllPairs Rises ss
sections_rise last end [] bytes h = λ i j d lt within. absurd (omega arith)
sections_rise last end (s ∷ ss) bytes h =
    AllPairs-cons Rises s ss (All-weaker (IsBehind (max (rank_of s.id) last)) (Rises s) (λ t p some. max_above (rank_of s.id) last (rank_of t.id) (p some)) ss (sections_behind (max (rank_of s.id) last) end ss h.2 h.8)) (sections_rise (max (rank_of s.id) last) end ss h.2 h.8)
  where
    max_above : (a b c : ℕ) → max a b < c → a < c
    max_above a b c lt = omega arith

-- ---- the same of a frame

pub frame_within : (ss : List SectionSpan) (bytes : List ℕ) → IsFrame ss bytes → All (LiesIn 8 (length bytes)) ss
frame_within ss bytes h =
    let eight : length bytes - length h.0 ≡ 8 = omega (arith, ap length h.1) in
    subst (λ k. All (LiesIn k (length bytes)) ss) eight (sections_within 0 (length bytes) ss h.0 (omega (arith, ap length h.1)) h.2)

pub frame_apart : (ss : List SectionSpan) (bytes : List ℕ) → IsFrame ss bytes → AllPairs IsBefore ss
frame_apart ss bytes h = sections_apart 0 (length bytes) ss h.0 (omega (arith, ap length h.1)) h.2

pub frame_known : (ss : List SectionSpan) (bytes : List ℕ) → IsFrame ss bytes → All IsKnown ss
frame_known ss bytes h = sections_known 0 (length bytes) ss h.0 h.2

pub frame_rises : (ss : List SectionSpan) (bytes : List ℕ) → IsFrame ss bytes → AllPairs Rises ss
frame_rises ss bytes h = sections_rise 0 (length bytes) ss h.0 h.2

-- ---- what a call gave

pub is_found : (bytes : List ℕ) (r : Result (List SectionSpan) FrameFault) → Gives (λ (x : List SectionSpan). x) r (frame_at bytes) → IfOk r (λ ss. IsFrame ss bytes)
is_found bytes (Ok ss) given = frame_found bytes ss given
is_found bytes (Err e) given = tt

abbrev pub EndsIn : ℕ → SectionSpan → Type 0
EndsIn end s = s.payload.start + s.payload.len ≤ end

pub is_within : (bytes : List ℕ) (r : Result (List SectionSpan) FrameFault) → Gives (λ (x : List SectionSpan). x) r (frame_at bytes) → IfOk r (All (EndsIn (length bytes)))
is_within bytes (Ok ss) given = All-weaker (LiesIn 8 (length bytes)) (EndsIn (length bytes)) (λ s p. p.1) ss (frame_within ss bytes (frame_found bytes ss given))
is_within bytes (Err e) given = tt
