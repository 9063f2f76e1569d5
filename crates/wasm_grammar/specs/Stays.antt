-- A foreign item is told by the bytes up to it: it stays the answer, whatever bytes follow.
--
-- So the bytes before the item are all that counts, and what stands behind it is never looked at.
use Rattle.std.proofs.Common.{◌≡◌, ℕ, zero, suc, ◌-◌, Bool, true, false, cond, eqb, List, [], ◌∷◌, ◌++◌, length, take, Result, Ok, Err, refl, ap, subst, ◌∙◌, append_assoc}
use Rattle.std.specs.Prelude.{drop, nat_le}
use Rattle.std.proofs.lemmas.List.{append-nil}
use Rattle.std.specs.Str.{is_utf8}
use Rattle.leb_codec.specs.declared.fault.LebFault.{LebFault}
use Rattle.leb_codec.specs.Spelling.{magnitude, signed_value}
use Rattle.leb_codec.specs.Reading.{number_at}
use Rattle.leb_codec.specs.declared.form.Form.TheVariants.{U32, S32, S33, S64}
use Rattle.wasm_grammar.specs.declared.fault.Stop.{Stop}
use Rattle.wasm_grammar.specs.declared.fault.Stop.TheVariants.{Broken, Foreign}
use Rattle.wasm_grammar.specs.Grammar.{SpellsBytes}
use Rattle.wasm_grammar.specs.Readers.{IsReader}
use Rattle.wasm_grammar.specs.Reading.{Read, ◌>>=◌, behind, byte_at, tag_at, u32_at, s32_at, s33_at, s64_at, many_at, vector_at, front_at, bytes_at, checked_name, name_at, cut_at, part_at, ended, whole, sized_at}
use Rattle.wasm_grammar.specs.ReaderLaws.{u32_reader, bytes_reader, part_reader}

-- Where the first answer is a foreign item, the second is the same.
abbrev pub Stays : {A : Type 0} → Result A Stop → Result A Stop → Type 0
Stays (Err (Foreign item)) more = more ≡ Err (Foreign item)
Stays _ more = Unit {0}

-- The reader's foreign answers stay, whatever bytes follow, and wherever they end.
abbrev pub IsSteady : {A : Type 0} → Read A → Type 0
IsSteady read = (end other : ℕ) (bytes more : List ℕ) → Stays (read end bytes) (read other (bytes ++ more))

-- ---- steps

-- what is read is read with more bytes too, and these are in the rest
pub extends : {A : Type 0} (Item : A → List ℕ → Type 0) (read : Read A) → IsReader Item read → (end other : ℕ) (bytes more : List ℕ) (x : A) (rest : List ℕ) → read end bytes ≡ Ok (x, rest) → read other (bytes ++ more) ≡ Ok (x, rest ++ more)
extends Item read reader end other bytes more x rest e =
    let t = reader.found end bytes x rest e in
    let parts : bytes ++ more ≡ t.text ++ (rest ++ more) = ap (λ (b : List ℕ). b ++ more) t.parts ∙ append_assoc t.text rest more in
    ap (read other) parts ∙ reader.again other x t.text (rest ++ more) t.spells

-- a reader, and then what depends on its value and rest
pub bind_stays : {A B : Type 0} (Item : A → List ℕ → Type 0) (read : Read A) → IsReader Item read → IsSteady read → (end other : ℕ) (bytes more : List ℕ) (f g : A × List ℕ → Result B Stop)
    → ((x : A) (rest : List ℕ) → Stays (f (x, rest)) (g (x, rest ++ more)))
    → Stays (read end bytes >>= f) (read other (bytes ++ more) >>= g)
bind_stays {A} {B} Item read reader steady end other bytes more f g second = by_case (read end bytes) refl (steady end other bytes more)
  where
    by_case : (r : Result (A × List ℕ) Stop) → read end bytes ≡ r → Stays r (read other (bytes ++ more)) → Stays (r >>= f) (read other (bytes ++ more) >>= g)
    by_case (Ok x) e s = rw (extends Item read reader end other bytes more x.0 x.1 e) (second x.0 x.1)
    by_case (Err (Broken place)) e s = tt
    by_case (Err (Foreign item)) e s = rw s refl

-- a step that takes no bytes, and then what depends on its value
pub step_stays : {A B : Type 0} (r s : Result A Stop) (f g : A → Result B Stop) → Stays r s → ((x : A) → r ≡ Ok x → s ≡ Ok x) → ((x : A) → Stays (f x) (g x)) → Stays (r >>= f) (s >>= g)
step_stays (Ok x) s f g stays same second = rw (same x refl) (second x)
step_stays (Err (Broken place)) s f g stays same second = tt
step_stays (Err (Foreign item)) s f g stays same second = rw stays refl

pub cond_stays : {A : Type 0} (q : Bool) (a b c d : Result A Stop) → Stays a c → Stays b d → Stays (cond q a b) (cond q c d)
cond_stays true a b c d f g = f
cond_stays false a b c d f g = g

-- what is never foreign stays
pub never_stays : {A : Type 0} (q : Bool) (x : A) (place : ℕ) (more : Result A Stop) → Stays (cond q (Ok x) (Err (Broken place))) more
never_stays true x place more = tt
never_stays false x place more = tt

-- ---- bytes and numbers

pub byte_stays : IsSteady byte_at
byte_stays end other [] more = tt
byte_stays end other (b ∷ bytes) more = tt

behind_stays : {N : Type 0} (end : ℕ) (bytes : List ℕ) (r : Result (N × ℕ) LebFault) (more : Result (N × List ℕ) Stop) → Stays (behind end bytes r) more
behind_stays end bytes (Ok found) more = tt
behind_stays end bytes (Err e) more = tt

pub u32_stays : IsSteady u32_at
unfolding u32_at
u32_stays end other bytes more = behind_stays end bytes (number_at magnitude U32 bytes) (u32_at other (bytes ++ more))

pub s32_stays : IsSteady s32_at
unfolding s32_at
s32_stays end other bytes more = behind_stays end bytes (number_at signed_value S32 bytes) (s32_at other (bytes ++ more))

pub s33_stays : IsSteady s33_at
unfolding s33_at
s33_stays end other bytes more = behind_stays end bytes (number_at signed_value S33 bytes) (s33_at other (bytes ++ more))

pub s64_stays : IsSteady s64_at
unfolding s64_at
s64_stays end other bytes more = behind_stays end bytes (number_at signed_value S64 bytes) (s64_at other (bytes ++ more))

-- a byte that has to stand there, and then what depends on the rest
pub tag_stays : {B : Type 0} (tag end other : ℕ) (bytes more : List ℕ) (f g : List ℕ → Result B Stop) → ((rest : List ℕ) → Stays (f rest) (g (rest ++ more))) → Stays (tag_at tag end bytes >>= f) (tag_at tag other (bytes ++ more) >>= g)
tag_stays tag end other [] more f g second = tt
tag_stays {B} tag end other (b ∷ bytes) more f g second = by_case (eqb b tag)
  where
    by_case : (q : Bool) → Stays (cond q (Ok bytes) (Err (Broken (end - length (b ∷ bytes)))) >>= f) (cond q (Ok (bytes ++ more)) (Err (Broken (other - length (b ∷ bytes ++ more)))) >>= g)
    by_case true = second bytes
    by_case false = tt

-- ---- items, bytes, names and parts

pub many_stays : {A : Type 0} (Item : A → List ℕ → Type 0) (read : Read A) → IsReader Item read → IsSteady read → (n : ℕ) → IsSteady (many_at read n)
unfolding many_at
many_stays Item read reader steady zero end other bytes more = tt
many_stays {A} Item read reader steady (suc n) end other bytes more =
    bind_stays Item read reader steady end other bytes more _ _ (λ x rest. others x (many_at read n end rest) (many_at read n other (rest ++ more)) (many_stays Item read reader steady n end other rest more))
  where
    others : (x : A) (r s : Result (List A × List ℕ) Stop) → Stays r s → (let f : List A × List ℕ → Result (List A × List ℕ) Stop = λ o. Ok (x ∷ o.0, o.1) in Stays (r >>= f) (s >>= f))
    others x (Ok o) s e = tt
    others x (Err (Broken place)) s e = tt
    others x (Err (Foreign item)) s e = rw e refl

pub vector_stays : {A : Type 0} (Item : A → List ℕ → Type 0) (read : Read A) → IsReader Item read → IsSteady read → IsSteady (vector_at read)
unfolding vector_at
vector_stays Item read reader steady end other bytes more =
    bind_stays _ u32_at u32_reader u32_stays end other bytes more _ _ (λ count rest. many_stays Item read reader steady count end other rest more)

pub bytes_stay : IsSteady bytes_at
unfolding bytes_at front_at
bytes_stay end other bytes more =
    bind_stays _ u32_at u32_reader u32_stays end other bytes more _ _ (λ count rest. never_stays (nat_le count (length rest)) (take count rest, drop count rest) end (front_at count other (rest ++ more)))

pub name_stays : IsSteady name_at
unfolding name_at
name_stays end other bytes more =
    bind_stays _ bytes_at bytes_reader bytes_stay end other bytes more _ _ (λ name rest. never_stays (is_utf8 name) (name, rest) (end - length bytes) (checked_name (other - length (bytes ++ more)) name (rest ++ more)))

pub part_stays : IsSteady part_at
unfolding part_at
part_stays end other bytes more =
    bind_stays _ u32_at u32_reader u32_stays end other bytes more _ _ (λ size rest. never_stays (nat_le size (length rest)) (take size rest, drop size rest) (end - length bytes) (cut_at (other - length (bytes ++ more)) size (rest ++ more)))

ended_stays : {A : Type 0} (end : ℕ) (x : A) (rest : List ℕ) (more : Result A Stop) → Stays (ended end x rest) more
ended_stays end x [] more = tt
ended_stays end x (b ∷ rest) more = tt

pub whole_stays : {A : Type 0} (Item : A → List ℕ → Type 0) (read : Read A) → IsReader Item read → IsSteady read → (end other : ℕ) (bytes more : List ℕ) → Stays (whole read end bytes) (whole read other (bytes ++ more))
unfolding whole
whole_stays Item read reader steady end other bytes more =
    bind_stays Item read reader steady end other bytes more _ _ (λ x rest. ended_stays end x rest (ended other x (rest ++ more)))

-- one value in a part of its own: a foreign answer in the part stays, whatever the part's place
pub sized_stays : {A : Type 0} (Item : A → List ℕ → Type 0) (read : Read A) → IsReader Item read → IsSteady read → IsSteady (sized_at read)
unfolding sized_at
sized_stays {A} Item read reader steady end other bytes more =
    bind_stays SpellsBytes part_at part_reader part_stays end other bytes more _ _ (λ part rest. inner rest (rest ++ more) (whole read (end - length rest) part) (whole read (other - length (rest ++ more)) part) (same part (end - length rest) (other - length (rest ++ more))))
  where
    same : (part : List ℕ) (a b : ℕ) → Stays (whole read a part) (whole read b part)
    same part a b = subst (λ (p : List ℕ). Stays (whole read a part) (whole read b p)) (append-nil part) (whole_stays Item read reader steady a b part [])

    inner : (rest longer : List ℕ) (r s : Result A Stop) → Stays r s → (let f : A → Result (A × List ℕ) Stop = λ x. Ok (x, rest) in let g : A → Result (A × List ℕ) Stop = λ x. Ok (x, longer) in Stays (r >>= f) (s >>= g))
    inner rest longer (Ok x) s e = tt
    inner rest longer (Err (Broken place)) s e = tt
    inner rest longer (Err (Foreign item)) s e = rw e refl
