-- Reading members one after the other, as a loop does.
use Rattle.std.proofs.Common.{◌≡◌, ℕ, zero, suc, ◌-◌, ◌%◌, ◌≤◌, ◌<◌, Bool, true, false, cond, ltb, List, [], ◌∷◌, ◌++◌, length, take, drop, Option, Some, None, Result, Ok, Err, refl, sym, ap, ◌∙◌, append_assoc, arith, length-drop}
use Rattle.std.specs.Prelude.{min}
use Rattle.std.specs.Str.{bytes_eq}
use Rattle.std.proofs.lemmas.Bool.{ltb-true}
use Rattle.std.proofs.lemmas.List.{append-nil, take_all}
use Rattle.wl_base.specs.declared.fault.LibFault.{LibFault}
use Rattle.wl_base.specs.declared.fault.LibFault.TheVariants.{BadHeader}
use Rattle.lib_index.specs.declared.members.Member.{Member}
use Rattle.lib_index.specs.Archive.{member_of}
use Rattle.lib_index.specs.Reading.{◌>>=◌, or_fault, number_in, has_header, sized_member, unpadded, member_at, members_at}
use Rattle.lib_index.proofs.Digits.{both}

-- ---- steps

pub bind_ok : {A B : Type 0} (r : Result A LibFault) (f : A → Result B LibFault) (y : B) → (r >>= f) ≡ Ok y → (x : A) × (r ≡ Ok x) × (f x ≡ Ok y)
bind_ok (Ok x) f y e = (x, refl, e)
bind_ok (Err d) f y e = absurd cc

pub ok_is : {A : Type 0} {x y : A} → (let r : Result A LibFault = Ok x in r ≡ Ok y) → x ≡ y
ok_is e = cc

pub some_is : {A : Type 0} {x y : A} → Some x ≡ Some y → x ≡ y
some_is e = cc

pub or_fault_ok : {A : Type 0} (d : LibFault) (r : Option A) (x : A) → or_fault d r ≡ Ok x → r ≡ Some x
or_fault_ok d (Some y) x e = cc
or_fault_ok d None x e = absurd cc

pub guard_some : {A : Type 0} (b : Bool) (r : Option A) (y : A) → cond b None r ≡ Some y → (b ≡ false) × (r ≡ Some y)
guard_some true r y e = absurd cc
guard_some false r y e = (refl, e)

pub only_some : {A : Type 0} (b : Bool) (r : Option A) (y : A) → cond b r None ≡ Some y → (b ≡ true) × (r ≡ Some y)
only_some true r y e = (refl, e)
only_some false r y e = absurd cc

-- the bytes from a place on, as a slice has them
pub rest_of : (n : ℕ) (bytes : List ℕ) → take (length bytes - n) (drop n bytes) ≡ drop n bytes
rest_of n bytes = take_all (length bytes - n) (drop n bytes) (omega (arith, length-drop n bytes))

-- ---- a member

pub header_long : (bytes : List ℕ) → has_header bytes ≡ true → 60 ≤ length bytes
header_long bytes e = let p = both (ltb 59 (length bytes)) (bytes_eq (take 2 (drop 58 bytes)) (0x60 ∷ 0x0a ∷ [])) e in let q : 59 < length bytes = ltb-true 59 (length bytes) p.0 in omega arith

-- the parts of a member that was read
pub record IsRead (end : ℕ) (bytes : List ℕ) (m : Member) (rest : List ℕ) : Type 0 where
  pub headed : has_header bytes ≡ true
  pub size : ℕ
  pub sized : number_in (take 10 (drop 48 bytes)) ≡ Some size
  pub held : ltb (length (drop 60 bytes)) size ≡ false
  pub member_is : member_of (take 16 bytes) (end - length bytes) (end - length (drop 60 bytes)) size ≡ m
  pub rest_is : unpadded size (drop size (drop 60 bytes)) ≡ rest

sized_parts : (end : ℕ) (bytes : List ℕ) (m : Member) (rest : List ℕ) (field : Option ℕ) → has_header bytes ≡ true → number_in (take 10 (drop 48 bytes)) ≡ field → sized_member end bytes field ≡ Some (m, rest) → IsRead end bytes m rest
sized_parts end bytes m rest None headed sized e = absurd cc
sized_parts end bytes m rest (Some size) headed sized e =
    let found : Member × List ℕ = (member_of (take 16 bytes) (end - length bytes) (end - length (drop 60 bytes)) size, unpadded size (drop size (drop 60 bytes))) in
    let a = guard_some (ltb (length (drop 60 bytes)) size) (Some found) (m, rest) e in
    let same : found ≡ (m, rest) = some_is a.1 in
    record {
      headed = headed;
      size = size;
      sized = sized;
      held = a.0;
      member_is = ap (λ (p : Member × List ℕ). p.0) same;
      rest_is = ap (λ (p : Member × List ℕ). p.1) same;
    }

pub member_parts : (end : ℕ) (bytes : List ℕ) (m : Member) (rest : List ℕ) → member_at end bytes ≡ Some (m, rest) → IsRead end bytes m rest
unfolding member_at
member_parts end bytes m rest e =
    let a = only_some (has_header bytes) (sized_member end bytes (number_in (take 10 (drop 48 bytes)))) (m, rest) e in
    sized_parts end bytes m rest (number_in (take 10 (drop 48 bytes))) a.0 refl a.1

pub member_shorter : (end : ℕ) (bytes : List ℕ) (m : Member) (rest : List ℕ) → member_at end bytes ≡ Some (m, rest) → length rest < length bytes
member_shorter end bytes m rest e =
    let r = member_parts end bytes m rest e in
    let long = header_long bytes r.headed in
    let a : length (drop 60 bytes) ≡ length bytes - 60 = length-drop 60 bytes in
    let b : length (drop r.size (drop 60 bytes)) ≡ length (drop 60 bytes) - r.size = length-drop r.size (drop 60 bytes) in
    let c = length-drop (min (r.size % 2) (length (drop r.size (drop 60 bytes)))) (drop r.size (drop 60 bytes)) in
    let d = ap length r.rest_is in
    omega (arith, a, b, c, d)

-- ---- what was read before, and what is still read

abbrev pub with_front : List Member → Result (List Member) LibFault → Result (List Member) LibFault
with_front front read = read >>= λ ms. Ok (front ++ ms)

regroup : (front : List Member) (m : Member) (read : Result (List Member) LibFault) → with_front front (read >>= λ ms. Ok (m ∷ ms)) ≡ with_front (front ++ m ∷ []) read
regroup front m (Ok ms) = ap Ok (simp append_assoc)
regroup front m (Err e) = refl

-- a step that is the same after each member that can be read
same_steps : (r : Result (Member × List ℕ) LibFault) (f g : Member × List ℕ → Result (List Member) LibFault) → ((s : Member × List ℕ) → r ≡ Ok s → f s ≡ g s) → (r >>= f) ≡ (r >>= g)
same_steps (Ok s) f g h = h s refl
same_steps (Err d) f g h = refl

-- any count that is enough gives the same
pub enough : (n k end : ℕ) (bytes : List ℕ) → length bytes ≤ n → length bytes ≤ k → members_at n end bytes ≡ members_at k end bytes
unfolding members_at
enough n k end [] p q = refl
enough zero k end (b ∷ bytes) p q = absurd (omega arith)
enough (suc n) zero end (b ∷ bytes) p q = absurd (omega arith)
enough (suc n) (suc k) end (b ∷ bytes) p q =
    let bad : LibFault = BadHeader (end - length (b ∷ bytes)) in
    same_steps (or_fault bad (member_at end (b ∷ bytes)))
    (λ m. members_at n end m.1 >>= λ ms. Ok (m.0 ∷ ms))
    (λ m. members_at k end m.1 >>= λ ms. Ok (m.0 ∷ ms))
    (λ m e.
    let shorter = member_shorter end (b ∷ bytes) m.0 m.1 (or_fault_ok bad (member_at end (b ∷ bytes)) m e) in
    ap (λ (r : Result (List Member) LibFault). r >>= λ ms. Ok (m.0 ∷ ms)) (enough n k end m.1 (omega arith) (omega arith)))

pub goes_on : (front : List Member) (end : ℕ) (bytes : List ℕ) (m : Member) (rest : List ℕ) (total : Result (List Member) LibFault) → 0 < length bytes → member_at end bytes ≡ Some (m, rest)
    → with_front front (members_at (length bytes) end bytes) ≡ total
    → with_front (front ++ m ∷ []) (members_at (length rest) end rest) ≡ total
unfolding members_at
goes_on front end [] m rest total some read so_far = absurd (omega arith)
goes_on front end (b ∷ bytes) m rest total some read so_far =
    let shorter = member_shorter end (b ∷ bytes) m rest read in
    let same = enough (length bytes) (length rest) end rest (omega arith) (omega arith) in
    let one : with_front front (members_at (length (b ∷ bytes)) end (b ∷ bytes)) ≡ with_front (front ++ m ∷ []) (members_at (length rest) end rest)
    = rw (read, same) (regroup front m (members_at (length rest) end rest)) in
    sym one ∙ so_far

-- no member at the front is the fault of the whole
pub ends : (front : List Member) (end : ℕ) (bytes : List ℕ) (total : Result (List Member) LibFault) → 0 < length bytes → member_at end bytes ≡ None
    → with_front front (members_at (length bytes) end bytes) ≡ total → total ≡ Err (BadHeader (end - length bytes))
unfolding members_at
ends front end [] total some none so_far = absurd (omega arith)
ends front end (b ∷ bytes) total some none so_far = sym so_far ∙ rw none refl

pub is_done : (front : List Member) (end : ℕ) (bytes : List ℕ) (total : Result (List Member) LibFault) → length bytes ≡ 0
    → with_front front (members_at (length bytes) end bytes) ≡ total → total ≡ Ok front
unfolding members_at
is_done front end [] total none so_far = sym so_far ∙ ap Ok (append-nil front)
is_done front end (b ∷ bytes) total none so_far = absurd (omega arith)
