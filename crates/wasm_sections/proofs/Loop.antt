-- Reading sections one after the other, as a loop does.
use Rattle.std.proofs.Common.{◌≡◌, ℕ, zero, suc, ◌-◌, ◌≤◌, ◌<◌, Bool, true, false, cond, ltb, leb, ◌&&◌, List, [], ◌∷◌, ◌++◌, length, drop, max, Result, Ok, Err, refl, sym, ap, ◌∙◌, append_assoc, arith, length-drop}
use Rattle.std.proofs.lemmas.List.{append-nil}
use Rattle.wasm_grammar.specs.declared.fault.Stop.{Stop}
use Rattle.wasm_grammar.specs.Reading.{u32_at}
use Rattle.wasm_grammar.specs.ReaderLaws.{u32_reader, taken_length}
use Rattle.wasm_sections.specs.declared.section.SectionSpan.{SectionSpan}
use Rattle.wasm_sections.specs.declared.fault.FrameFault.{FrameFault}
use Rattle.wasm_sections.specs.declared.fault.FrameFault.TheVariants.{BadHeader, BadSize, BadId, BadOrder, OutOfMemory}
use Rattle.wasm_sections.specs.Sections.{rank_of, span_at}
use Rattle.wasm_sections.specs.Reading.{◌>>=◌, Fails, or_bad_size, sized_section, section_at, sections_at}

-- what was read before, and what is still read
abbrev pub with_front : List SectionSpan → Result (List SectionSpan) FrameFault → Result (List SectionSpan) FrameFault
with_front front read = read >>= λ ss. Ok (front ++ ss)

regroup : (front : List SectionSpan) (s : SectionSpan) (read : Result (List SectionSpan) FrameFault) → with_front front (read >>= λ ss. Ok (s ∷ ss)) ≡ with_front (front ++ s ∷ []) read
regroup front s (Ok ss) = ap Ok (simp append_assoc)
regroup front s (Err e) = refl

pub bind_ok : {A B : Type 0} (r : Result A FrameFault) (f : A → Result B FrameFault) (y : B) → (r >>= f) ≡ Ok y → (x : A) × (r ≡ Ok x) × (f x ≡ Ok y)
bind_ok (Ok x) f y e = (x, refl, e)
bind_ok (Err d) f y e = absurd cc

pub ok_is : {A : Type 0} {x y : A} → (let r : Result A FrameFault = Ok x in r ≡ Ok y) → x ≡ y
ok_is e = cc

pub guard_ok : {A : Type 0} (b : Bool) (d : FrameFault) (r : Result A FrameFault) (y : A) → cond b (Err d) r ≡ Ok y → (b ≡ false) × (r ≡ Ok y)
guard_ok true d r y e = absurd cc
guard_ok false d r y e = (refl, e)

size_ok : {A : Type 0} (at : ℕ) (r : Result A Stop) (x : A) → or_bad_size at r ≡ Ok x → r ≡ Ok x
size_ok at (Ok y) x e = cc
size_ok at (Err f) x e = absurd cc

-- the parts of a section that was read
pub record IsRead (last end id : ℕ) (after : List ℕ) (s : SectionSpan) (rest : List ℕ) : Type 0 where
  pub low : ltb 13 id ≡ false
  pub size : ℕ
  pub body : List ℕ
  pub sized : u32_at end after ≡ Ok (size, body)
  pub held : ltb (length body) size ≡ false
  pub in_order : (ltb 0 (rank_of id) && leb (rank_of id) last) ≡ false
  pub span_is : span_at id (end - length body) size ≡ s
  pub rest_is : drop size body ≡ rest

pub section_parts : (last end id : ℕ) (after : List ℕ) (s : SectionSpan) (rest : List ℕ) → section_at last end (id ∷ after) ≡ Ok (s, rest) → IsRead last end id after s rest
unfolding section_at
section_parts last end id after s rest e =
    let at : ℕ = end - length (id ∷ after) in
    let a = guard_ok (ltb 13 id) (BadId at) (or_bad_size at (u32_at end after) >>= λ size. sized_section last end at id size.0 size.1) (s, rest) e in
    let b = bind_ok (or_bad_size at (u32_at end after)) (λ size. sized_section last end at id size.0 size.1) (s, rest) a.1 in
    let order : Result (SectionSpan × List ℕ) FrameFault = cond (ltb 0 (rank_of id) && leb (rank_of id) last) (Err (BadOrder at)) (Ok (span_at id (end - length b.0.1) b.0.0, drop b.0.0 b.0.1)) in
    let c = guard_ok (ltb (length b.0.1) b.0.0) (BadSize at) order (s, rest) b.2 in
    let d = guard_ok (ltb 0 (rank_of id) && leb (rank_of id) last) (BadOrder at) (Ok (span_at id (end - length b.0.1) b.0.0, drop b.0.0 b.0.1)) (s, rest) c.1 in
    let both = ok_is d.1 in
    record {
      low = a.0;
      size = b.0.0;
      body = b.0.1;
      sized = size_ok at (u32_at end after) b.0 b.1;
      held = c.0;
      in_order = d.0;
      span_is = ap (λ (p : SectionSpan × List ℕ). p.0) both;
      rest_is = ap (λ (p : SectionSpan × List ℕ). p.1) both;
    }

pub section_shorter : (last end id : ℕ) (after : List ℕ) (s : SectionSpan) (rest : List ℕ) → section_at last end (id ∷ after) ≡ Ok (s, rest) → length rest ≤ length after
section_shorter last end id after s rest e =
    let r = section_parts last end id after s rest e in
    omega (arith, taken_length (u32_reader.found end after r.size r.body r.sized), ap length r.rest_is, length-drop r.size r.body)

-- a step that is the same after each section that can be read
same_steps : (r : Result (SectionSpan × List ℕ) FrameFault) (f g : SectionSpan × List ℕ → Result (List SectionSpan) FrameFault) → ((s : SectionSpan × List ℕ) → r ≡ Ok s → f s ≡ g s) → (r >>= f) ≡ (r >>= g)
same_steps (Ok s) f g h = h s refl
same_steps (Err d) f g h = refl

-- any count that is enough gives the same
enough : (n m last end : ℕ) (bytes : List ℕ) → length bytes ≤ n → length bytes ≤ m → sections_at n last end bytes ≡ sections_at m last end bytes
unfolding sections_at
enough n m last end [] p q = refl
enough zero m last end (id ∷ after) p q = absurd (omega arith)
enough (suc n) zero last end (id ∷ after) p q = absurd (omega arith)
enough (suc n) (suc m) last end (id ∷ after) p q =
    same_steps (section_at last end (id ∷ after))
    (λ s. sections_at n (max (rank_of s.0.id) last) end s.1 >>= λ ss. Ok (s.0 ∷ ss))
    (λ s. sections_at m (max (rank_of s.0.id) last) end s.1 >>= λ ss. Ok (s.0 ∷ ss))
    (λ s e.
    let shorter = section_shorter last end id after s.0 s.1 e in
    ap (λ (r : Result (List SectionSpan) FrameFault). r >>= λ ss. Ok (s.0 ∷ ss)) (enough n m (max (rank_of s.0.id) last) end s.1 (omega arith) (omega arith)))

pub goes_on : (front : List SectionSpan) (last end : ℕ) (bytes : List ℕ) (s : SectionSpan) (rest : List ℕ) (total : Result (List SectionSpan) FrameFault) → section_at last end bytes ≡ Ok (s, rest)
    → with_front front (sections_at (length bytes) last end bytes) ≡ total
    → with_front (front ++ s ∷ []) (sections_at (length rest) (max (rank_of s.id) last) end rest) ≡ total
unfolding sections_at section_at
goes_on front last end [] s rest total read so_far = absurd cc
goes_on front last end (id ∷ after) s rest total read so_far =
    let shorter = section_shorter last end id after s rest read in
    let same = enough (length after) (length rest) (max (rank_of s.id) last) end rest (omega arith) (omega arith) in
    let one : with_front front (sections_at (length (id ∷ after)) last end (id ∷ after)) ≡ with_front (front ++ s ∷ []) (sections_at (length rest) (max (rank_of s.id) last) end rest)
    = rw (read, same) (regroup front s (sections_at (length rest) (max (rank_of s.id) last) end rest)) in
    sym one ∙ so_far

-- a fault at once is the fault of the whole
pub ends : (e : FrameFault) (front : List SectionSpan) (last end : ℕ) (bytes : List ℕ) (total : Result (List SectionSpan) FrameFault) → 0 < length bytes → Fails e (section_at last end bytes)
    → with_front front (sections_at (length bytes) last end bytes) ≡ total → Fails e total
unfolding sections_at
ends e front last end [] total some h so_far = absurd (omega arith)
ends OutOfMemory front last end (id ∷ after) total some h so_far = tt
ends BadHeader front last end (id ∷ after) total some h so_far = sym so_far ∙ (let one = h in rw one refl)
ends (BadSize p) front last end (id ∷ after) total some h so_far = sym so_far ∙ (let one = h in rw one refl)
ends (BadId p) front last end (id ∷ after) total some h so_far = sym so_far ∙ (let one = h in rw one refl)
ends (BadOrder p) front last end (id ∷ after) total some h so_far = sym so_far ∙ (let one = h in rw one refl)

pub is_done : (front : List SectionSpan) (last end : ℕ) (bytes : List ℕ) (total : Result (List SectionSpan) FrameFault) → length bytes ≡ 0
    → with_front front (sections_at (length bytes) last end bytes) ≡ total → total ≡ Ok front
unfolding sections_at
is_done front last end [] total none so_far = sym so_far ∙ ap Ok (append-nil front)
is_done front last end (b ∷ bytes) total none so_far = absurd (omega arith)
