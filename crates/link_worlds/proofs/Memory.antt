-- Memory at first: all segments one after another, those of zeros last, or the one segment of those that aren't zero.
use Rattle.std.proofs.Common.{◌≡◌, ℕ, ◌+◌, ◌-◌, ◌≤◌, List, [], ◌∷◌, ◌++◌, length, take, drop, replicate, refl, sym, ap, ◌∙◌, subst, arith, length-append}
use Rattle.std.proofs.Math.Seq.{drop-append-add, take-append-add}
use Rattle.std.proofs.lemmas.List.{length-replicate, take-replicate, drop-replicate, replicate-append-replicate, append_assoc, append-nil}
use Rattle.image_emit.specs.Bytes.{Block, laid, data_bytes}
use Rattle.image_emit.specs.Stored.{put, stored, Rise, first_address, OneSegment}
use Rattle.link_worlds.specs.Sound.{AllZero}

rise_end : (at end : ℕ) (bs : List Block) → Rise at end bs → at ≤ end
rise_end at end [] h = h
rise_end at end (b ∷ bs) h = let r = rise_end (b.address + length b.bytes) end bs h.1 in omega (arith, h.0)

zeros : ℕ → List ℕ
zeros n = replicate n 0

-- a block written behind what is written already
block_over : (pre bytes : List ℕ) (at a end : ℕ) → length pre ≡ at → at ≤ a → a + length bytes ≤ end
    → put a bytes (pre ++ replicate (end - at) 0) ≡ (pre ++ replicate (a - at) 0 ++ bytes) ++ replicate (end - (a + length bytes)) 0
block_over pre bytes at a end l h k =
    let z = replicate (end - at) 0 in
    let e : a ≡ length pre + (a - at) = omega arith in
    let f : a + length bytes ≡ length pre + (a - at + length bytes) = omega arith in
    let front : take a (pre ++ z) ≡ pre ++ replicate (a - at) 0 =
    ap (λ n. take n (pre ++ z)) e ∙ take-append-add pre z (a - at) ∙ ap (λ x. pre ++ x) (take-replicate (a - at) (end - at) 0 (omega arith)) in
    let g : end - at - (a - at + length bytes) ≡ end - (a + length bytes) = omega arith in
    let back : drop (a + length bytes) (pre ++ z) ≡ replicate (end - (a + length bytes)) 0 =
    ap (λ n. drop n (pre ++ z)) f ∙ drop-append-add pre z (a - at + length bytes) ∙ drop-replicate (a - at + length bytes) (end - at) 0 ∙ ap (λ n. replicate n 0) g in
    ap (λ x. x ++ bytes ++ drop (a + length bytes) (pre ++ z)) front ∙ ap (λ x. pre ++ replicate (a - at) 0 ++ bytes ++ x) back

stored_laid : (pre : List ℕ) (at end : ℕ) (bs : List Block) → length pre ≡ at → Rise at end bs
    → stored bs (pre ++ replicate (end - at) 0) ≡ pre ++ laid at bs ++ replicate (end - (at + length (laid at bs))) 0
stored_laid pre at end [] l h =
    let e : end - at ≡ end - (at + 0) = omega arith in
    ap (λ n. pre ++ replicate n 0) e ∙ ap (λ x. x ++ replicate (end - (at + 0)) 0) (sym (append-nil pre))
stored_laid pre at end (b ∷ bs) l h =
    let a = b.address in
    let n = length b.bytes in
    let next = a + n in
    let r = rise_end next end bs h.1 in
    let gap = replicate (a - at) 0 in
    let pre' = pre ++ gap ++ b.bytes in
    let rest = laid next bs in
    let long : length pre' ≡ next = length-append (pre ++ gap) b.bytes ∙ ap (λ k. k + n) (length-append pre gap ∙ ap (λ k. length pre + k) (length-replicate (a - at) 0)) ∙ omega (arith, h.0) in
    let whole : length (gap ++ b.bytes ++ rest) ≡ (a - at) + n + length rest =
    length-append (gap ++ b.bytes) rest ∙ ap (λ k. k + length rest) (length-append gap b.bytes ∙ ap (λ k. k + n) (length-replicate (a - at) 0)) in
    let last : end - (next + length rest) ≡ end - (at + length (gap ++ b.bytes ++ rest)) = omega (arith, h.0, whole) in
    ap (stored bs) (block_over pre b.bytes at a end l h.0 r)
    ∙ stored_laid pre' next end bs long h.1
    ∙ ap (λ k. pre ++ gap ++ b.bytes ++ rest ++ replicate k 0) last
    ∙ ap (λ x. x ++ replicate (end - (at + length (gap ++ b.bytes ++ rest))) 0)
    (ap (λ x. x ++ rest) (append_assoc pre gap b.bytes) ∙ append_assoc pre (gap ++ b.bytes) rest)

pub one_segment : OneSegment
one_segment [] end h = sym (ap (λ x. x) refl)
one_segment (b ∷ bs) end h =
    let a = b.address in
    let d = laid a (b ∷ bs) in
    let r = rise_end (a + length b.bytes) end bs h.1 in
    let both : a + (end - a) ≡ end = omega arith in
    let up : a ≤ a = omega arith in
    ap (λ n. stored (b ∷ bs) (replicate n 0)) (sym both)
    ∙ ap (stored (b ∷ bs)) (sym (replicate-append-replicate a (end - a) 0))
    ∙ stored_laid (replicate a 0) a end (b ∷ bs) (length-replicate a 0) (up, h.1)
    ∙ ap (λ x. x ++ d ++ replicate (end - (a + length d)) 0) (sym (take-replicate a end 0 (omega arith)))
    ∙ ap (λ x. take a (replicate end 0) ++ d ++ x) (sym (drop-replicate (a + length d) end 0))

-- segments of zeros change nothing
rise_lower : (at next end : ℕ) (bs : List Block) → at ≤ next → Rise next end bs → Rise at end bs
rise_lower at next end [] l h = omega (arith, h)
rise_lower at next end (b ∷ bs) l h = (omega (arith, h.0), h.1)

zero_stays : (pre : List ℕ) (at end : ℕ) (bs : List Block) → length pre ≡ at → Rise at end bs → AllZero bs
    → stored bs (pre ++ replicate (end - at) 0) ≡ pre ++ replicate (end - at) 0
zero_stays pre at end [] l h z = refl
zero_stays pre at end (b ∷ bs) l h z =
    let a = b.address in
    let n = length b.bytes in
    let r = rise_end (a + n) end bs h.1 in
    let up : at ≤ a + n = omega (arith, h.0) in
    let sum : (a - at) + n + (end - (a + n)) ≡ end - at = omega (arith, h.0) in
    let gap : List ℕ = replicate (a - at) 0 in
    let last : List ℕ = replicate (end - (a + n)) 0 in
    let same : put a b.bytes (pre ++ replicate (end - at) 0) ≡ pre ++ replicate (end - at) 0 =
    block_over pre b.bytes at a end l h.0 r
    ∙ ap (λ x. pre ++ gap ++ x ++ last) z.0
    ∙ ap (λ x. x ++ last) (append_assoc pre gap (replicate n 0))
    ∙ append_assoc pre (gap ++ replicate n 0) last
    ∙ ap (λ x. pre ++ (x ++ last)) (replicate-append-replicate (a - at) n 0)
    ∙ ap (λ x. pre ++ x) (replicate-append-replicate ((a - at) + n) (end - (a + n)) 0)
    ∙ ap (λ k. pre ++ replicate k 0) sum in
    ap (stored bs) same ∙ zero_stays pre at end bs l (rise_lower at (a + n) end bs up h.1) z.1

stored_both : (bs cs : List Block) (m : List ℕ) → stored (bs ++ cs) m ≡ stored cs (stored bs m)
stored_both [] cs m = refl
stored_both (b ∷ bs) cs m = stored_both bs cs (put b.address b.bytes m)

rise_front : (at end : ℕ) (bs cs : List Block) → Rise at end (bs ++ cs) → Rise at end bs
rise_front at end [] cs h = rise_end at end cs h
rise_front at end (b ∷ bs) cs h = (h.0, rise_front (b.address + length b.bytes) end bs cs h.1)

rise_back : (at end : ℕ) (bs cs : List Block) → Rise at end (bs ++ cs) → Rise (at + length (laid at bs)) end cs
rise_back at end [] cs h = let z : at ≡ at + 0 = omega arith in subst (λ k. Rise k end cs) z h
rise_back at end (b ∷ bs) cs h =
    let n = length b.bytes in
    let next = b.address + n in
    let whole : length (laid at (b ∷ bs)) ≡ (b.address - at) + n + length (laid next bs) =
    length-append (replicate (b.address - at) 0 ++ b.bytes) (laid next bs)
    ∙ ap (λ k. k + length (laid next bs)) (length-append (replicate (b.address - at) 0) b.bytes ∙ ap (λ k. k + n) (length-replicate (b.address - at) 0)) in
    let e : next + length (laid next bs) ≡ at + length (laid at (b ∷ bs)) = omega (arith, whole, h.0) in
    subst (λ k. Rise k end cs) e (rise_back next end bs cs h.1)

pub start_memory : (bs cs : List Block) (end : ℕ) → Rise 0 end (bs ++ cs) → AllZero cs → stored (bs ++ cs) (replicate end 0) ≡ put (first_address bs) (data_bytes bs) (replicate end 0)
start_memory bs cs end h z =
    let d = laid 0 bs in
    let zero' : end - 0 ≡ end = omega arith in
    let one : stored bs (replicate end 0) ≡ d ++ replicate (end - (0 + length d)) 0 =
    ap (λ k. stored bs (replicate k 0)) (sym zero') ∙ stored_laid [] 0 end bs refl (rise_front 0 end bs cs h) in
    let len : length d ≡ 0 + length d = omega arith in
    stored_both bs cs (replicate end 0)
    ∙ ap (stored cs) one
    ∙ zero_stays d (0 + length d) end cs len (rise_back 0 end bs cs h) z
    ∙ sym one
    ∙ one_segment bs end (rise_front 0 end bs cs h)
