-- What is broken stands at the end at most, so a fault's place fits where the end does.
use Rattle.std.proofs.Common.{◌≡◌, ℕ, zero, suc, ◌-◌, ◌≤◌, List, [], ◌∷◌, length, Result, Ok, Err, Bool, true, false, cond, eqb, arith, subst}
use Rattle.std.specs.Prelude.{nat_le, take, drop}
use Rattle.std.specs.Str.{is_utf8}
use Rattle.leb_codec.specs.Spelling.{magnitude, signed_value}
use Rattle.leb_codec.specs.Reading.{number_at}
use Rattle.leb_codec.specs.declared.fault.LebFault.{LebFault}
use Rattle.leb_codec.specs.declared.form.Form.TheVariants.{U32, S32, S33, S64}
use Rattle.wasm_grammar.specs.declared.fault.Stop.{Stop}
use Rattle.wasm_grammar.specs.declared.fault.Stop.TheVariants.{Broken, Foreign}
use Rattle.wasm_grammar.specs.Reading.{Read, ◌>>=◌, behind, byte_at, tag_at, u32_at, s32_at, s33_at, s64_at, many_at, vector_at, front_at, bytes_at, name_at, part_at, ended, whole, sized_at}

-- The place of a broken answer is at most this end.
abbrev pub Bounded : {A : Type 0} → ℕ → Result A Stop → Type 0
Bounded end (Ok x) = Unit {0}
Bounded end (Err (Broken place)) = place ≤ end
Bounded end (Err (Foreign item)) = Unit {0}

pub bounded_broken : {A : Type 0} (end place : ℕ) (r : Result A Stop) → Bounded end r → r ≡ Err (Broken place) → place ≤ end
bounded_broken end place r b e = subst (Bounded end) e b

pub bind_bounded : {A B : Type 0} (end : ℕ) (r : Result A Stop) (f : A → Result B Stop) → Bounded end r → ((x : A) → Bounded end (f x)) → Bounded end (r >>= f)
bind_bounded end (Ok x) f b g = g x
bind_bounded end (Err (Broken place)) f b g = b
bind_bounded end (Err (Foreign item)) f b g = tt

pub cond_bounded : {A : Type 0} (end : ℕ) (q : Bool) (a b : Result A Stop) → Bounded end a → Bounded end b → Bounded end (cond q a b)
cond_bounded end true a b f g = f
cond_bounded end false a b f g = g

pub byte_bounded : (end : ℕ) (bytes : List ℕ) → Bounded end (byte_at end bytes)
byte_bounded end [] = omega arith
byte_bounded end (b ∷ bytes) = tt

pub tag_bounded : (tag end : ℕ) (bytes : List ℕ) → Bounded end (tag_at tag end bytes)
tag_bounded tag end [] = omega arith
tag_bounded tag end (b ∷ bytes) = cond_bounded end (eqb b tag) (Ok bytes) (Err (Broken (end - length (b ∷ bytes)))) tt (omega arith)

behind_bounded : {N : Type 0} (end : ℕ) (bytes : List ℕ) (r : Result (N × ℕ) LebFault) → Bounded end (behind end bytes r)
behind_bounded end bytes (Ok found) = tt
behind_bounded end bytes (Err e) = omega arith

pub u32_bounded : (end : ℕ) (bytes : List ℕ) → Bounded end (u32_at end bytes)
unfolding u32_at
u32_bounded end bytes = behind_bounded end bytes (number_at magnitude U32 bytes)

pub s32_bounded : (end : ℕ) (bytes : List ℕ) → Bounded end (s32_at end bytes)
unfolding s32_at
s32_bounded end bytes = behind_bounded end bytes (number_at signed_value S32 bytes)

pub s33_bounded : (end : ℕ) (bytes : List ℕ) → Bounded end (s33_at end bytes)
unfolding s33_at
s33_bounded end bytes = behind_bounded end bytes (number_at signed_value S33 bytes)

pub s64_bounded : (end : ℕ) (bytes : List ℕ) → Bounded end (s64_at end bytes)
unfolding s64_at
s64_bounded end bytes = behind_bounded end bytes (number_at signed_value S64 bytes)

pub many_bounded : {A : Type 0} (item : Read A) → ((end : ℕ) (bytes : List ℕ) → Bounded end (item end bytes)) → (n end : ℕ) (bytes : List ℕ) → Bounded end (many_at item n end bytes)
unfolding many_at
many_bounded item b zero end bytes = tt
many_bounded item b (suc n) end bytes =
    bind_bounded end (item end bytes) _ (b end bytes) (λ first. bind_bounded end (many_at item n end first.1) _ (many_bounded item b n end first.1) (λ others. tt))

pub vector_bounded : {A : Type 0} (item : Read A) → ((end : ℕ) (bytes : List ℕ) → Bounded end (item end bytes)) → (end : ℕ) (bytes : List ℕ) → Bounded end (vector_at item end bytes)
unfolding vector_at
vector_bounded item b end bytes = bind_bounded end (u32_at end bytes) _ (u32_bounded end bytes) (λ count. many_bounded item b count.0 end count.1)

-- what is bounded by a part's end is bounded by the end of all
pub later_bounded : {A : Type 0} (end later : ℕ) (r : Result A Stop) → end ≤ later → Bounded end r → Bounded later r
later_bounded end later (Ok x) le b = tt
later_bounded end later (Err (Broken place)) le b = omega (arith, le, b)
later_bounded end later (Err (Foreign item)) le b = tt

pub bytes_bounded : (end : ℕ) (bytes : List ℕ) → Bounded end (bytes_at end bytes)
unfolding bytes_at front_at
bytes_bounded end bytes =
    bind_bounded end (u32_at end bytes) _ (u32_bounded end bytes) (λ count.
    cond_bounded end (nat_le count.0 (length count.1)) (Ok (take count.0 count.1, drop count.0 count.1)) (Err (Broken end)) tt (omega arith))

pub name_bounded : (end : ℕ) (bytes : List ℕ) → Bounded end (name_at end bytes)
unfolding name_at
name_bounded end bytes =
    bind_bounded end (bytes_at end bytes) _ (bytes_bounded end bytes) (λ name.
    cond_bounded end (is_utf8 name.0) (Ok (name.0, name.1)) (Err (Broken (end - length bytes))) tt (omega arith))

pub part_bounded : (end : ℕ) (bytes : List ℕ) → Bounded end (part_at end bytes)
unfolding part_at
part_bounded end bytes =
    bind_bounded end (u32_at end bytes) _ (u32_bounded end bytes) (λ size.
    cond_bounded end (nat_le size.0 (length size.1)) (Ok (take size.0 size.1, drop size.0 size.1)) (Err (Broken (end - length bytes))) tt (omega arith))

ended_bounded : {A : Type 0} (end : ℕ) (x : A) (rest : List ℕ) → Bounded end (ended end x rest)
ended_bounded end x [] = tt
ended_bounded end x (b ∷ rest) = omega arith

pub whole_bounded : {A : Type 0} (item : Read A) → ((end : ℕ) (bytes : List ℕ) → Bounded end (item end bytes)) → (end : ℕ) (bytes : List ℕ) → Bounded end (whole item end bytes)
unfolding whole
whole_bounded item b end bytes = bind_bounded end (item end bytes) _ (b end bytes) (λ x. ended_bounded end x.0 x.1)

pub sized_bounded : {A : Type 0} (item : Read A) → ((end : ℕ) (bytes : List ℕ) → Bounded end (item end bytes)) → (end : ℕ) (bytes : List ℕ) → Bounded end (sized_at item end bytes)
unfolding sized_at
sized_bounded item b end bytes =
    bind_bounded end (part_at end bytes) _ (part_bounded end bytes) (λ part.
    bind_bounded end (whole item (end - length part.1) part.0) _ (later_bounded (end - length part.1) end (whole item (end - length part.1) part.0) (omega arith) (whole_bounded item b (end - length part.1) part.0)) (λ x. tt))
