-- What is read is in the grammar, and what is in the grammar is read.
use Rattle.std.proofs.Common.{◌≡◌, ℕ, zero, suc, ◌-◌, ◌+◌, ◌≤◌, List, [], ◌∷◌, ◌++◌, length, take, Result, Ok, Err, refl, sym, ap, subst, Bool, true, false, cond, eqb, ◌∙◌, append_assoc, arith}
use Rattle.std.specs.Prelude.{IfOk, drop, nat_le}
use Rattle.std.specs.Str.{is_utf8}
use Rattle.std.proofs.lemmas.List.{take-append-drop, take_at, drop_at, length-append, length-take-le, append-nil}
use Rattle.std.proofs.lemmas.Bool.{eqb-true, eq-eqb, leb-true, le-leb}
use Rattle.std.proofs.lemmas.Str.{IsUtf8-from_is_utf8, is_utf8-from_IsUtf8}
use Rattle.leb_codec.specs.Spelling.{magnitude, signed_value, Spells, IsAtFront}
use Rattle.leb_codec.specs.Reading.{number_at}
use Rattle.leb_codec.specs.declared.fault.LebFault.{LebFault}
use Rattle.leb_codec.specs.declared.form.Form.{Form}
use Rattle.leb_codec.specs.declared.form.Form.TheVariants.{U32, S32, S33, S64}
use Rattle.leb_codec.proofs.Laws.{number_found, number_again}
use Rattle.wasm_grammar.specs.declared.fault.Stop.{Stop}
use Rattle.wasm_grammar.specs.declared.fault.Stop.TheVariants.{Broken}
use Rattle.wasm_grammar.specs.Readers.{Takes, IsUnambiguous, IsReader}
use Rattle.wasm_grammar.specs.Grammar.{SpellsByte, SpellsU32, SpellsS32, SpellsS33, SpellsS64, SpellsItself, SpellsBytes, SpellsName, SpellsSized, Then, SpellsMany, SpellsVector}
use Rattle.wasm_grammar.specs.Reading.{Read, ◌>>=◌, behind, byte_at, tag_at, u32_at, s32_at, s33_at, s64_at, many_at, vector_at, front_at, bytes_at, checked_name, name_at, cut_at, part_at, ended, whole, sized_at}

-- ---- steps

pub bind_ok : {A B : Type 0} (r : Result A Stop) (f : A → Result B Stop) (y : B) → (r >>= f) ≡ Ok y → (x : A) × (r ≡ Ok x) × (f x ≡ Ok y)
bind_ok (Ok x) f y e = (x, refl, e)
bind_ok (Err d) f y e = absurd cc

pub ok_is : {A : Type 0} {x y : A} → (let r : Result A Stop = Ok x in r ≡ Ok y) → x ≡ y
ok_is e = cc

pub cond_ok : {A : Type 0} (b : Bool) (d : Stop) (x y : A) → (let r : Result A Stop = cond b (Ok x) (Err d) in r ≡ Ok y) → (b ≡ true) × (x ≡ y)
cond_ok true d x y e = (refl, cc)
cond_ok false d x y e = absurd cc

-- one part, and then another
pub Takes-then : {P Q : List ℕ → Type 0} {a b c : List ℕ} → Takes P a b → Takes Q b c → Takes (Then P Q) a c
Takes-then {c = c} p q = record {
  text = p.text ++ q.text;
  spells = (p.text, q.text, p.spells, q.spells, refl);
  parts = p.parts ∙ ap (λ (t : List ℕ). p.text ++ t) q.parts ∙ sym (append_assoc p.text q.text c);
}

pub regrouped : (a b text rest : List ℕ) → text ≡ a ++ b → text ++ rest ≡ a ++ (b ++ rest)
regrouped a b text rest e = ap (λ (t : List ℕ). t ++ rest) e ∙ append_assoc a b rest

-- ---- bytes and numbers

pub tag_found : (tag end : ℕ) (bytes rest : List ℕ) → tag_at tag end bytes ≡ Ok rest → Takes (SpellsByte tag) bytes rest
tag_found tag end [] rest e = absurd cc
tag_found tag end (b ∷ bytes) rest e =
    let g = cond_ok (eqb b tag) (Broken (end - length (b ∷ bytes))) bytes rest e in
    let is : b ≡ tag = eqb-true b tag g.0 in
    record { text = tag ∷ []; spells = refl; parts = rw (is, g.1) refl }

pub tag_again : (tag end : ℕ) (text rest : List ℕ) → SpellsByte tag text → tag_at tag end (text ++ rest) ≡ Ok rest
tag_again tag end text rest e = rw (e, eq-eqb tag tag refl) refl

pub byte_reader : IsReader SpellsByte byte_at
byte_reader = record { found = byte_found; again = byte_again }
  where
    byte_found : (end : ℕ) (bytes : List ℕ) (x : ℕ) (rest : List ℕ) → byte_at end bytes ≡ Ok (x, rest) → Takes (SpellsByte x) bytes rest
    byte_found end [] x rest e = absurd cc
    byte_found end (b ∷ bytes) x rest e = let both = ok_is e in subst (λ (p : ℕ × List ℕ). Takes (SpellsByte p.0) (b ∷ bytes) p.1) both (record { text = b ∷ []; spells = refl; parts = refl })

    byte_again : (end x : ℕ) (text rest : List ℕ) → SpellsByte x text → byte_at end (text ++ rest) ≡ Ok (x, rest)
    byte_again end x text rest e = rw e refl

behind_ok : {N : Type 0} (value : List ℕ → N) (form : Form) (end : ℕ) (bytes : List ℕ) (r : Result (N × ℕ) LebFault) (n : N) (rest : List ℕ) → IfOk r (IsAtFront value form bytes) → behind end bytes r ≡ Ok (n, rest)
    → Takes (λ text. Spells value form text n) bytes rest
behind_ok value form end bytes (Err d) n rest front e = absurd cc
behind_ok {N} value form end bytes (Ok found) n rest front e =
    subst (λ (p : N × List ℕ). Takes (λ text. Spells value form text p.0) bytes p.1) (ok_is e) (record { text = take found.1 bytes; spells = front.spells; parts = sym (take-append-drop found.1 bytes) })

number_reader : {N : Type 0} (value : List ℕ → N) (form : Form) → IsReader (λ n text. Spells value form text n) (λ end bytes. behind end bytes (number_at value form bytes))
number_reader value form = record {
  found = λ end bytes x rest e. behind_ok value form end bytes (number_at value form bytes) x rest (number_found value form bytes (number_at value form bytes) refl) e;
  again = λ end x text rest s.
      let read : number_at value form (text ++ rest) ≡ Ok (x, length text) = number_again value form (text ++ rest) (number_at value form (text ++ rest)) refl text rest x s refl in
      rw (read, drop_at text rest (length text) refl) refl;
}

pub u32_reader : IsReader SpellsU32 u32_at
unfolding u32_at
u32_reader = number_reader magnitude U32

pub s32_reader : IsReader SpellsS32 s32_at
unfolding s32_at
s32_reader = number_reader signed_value S32

pub s33_reader : IsReader SpellsS33 s33_at
unfolding s33_at
s33_reader = number_reader signed_value S33

pub s64_reader : IsReader SpellsS64 s64_at
unfolding s64_at
s64_reader = number_reader signed_value S64

-- ---- items

pub many_found : {A : Type 0} (Item : A → List ℕ → Type 0) (read : Read A) → IsReader Item read → (n end : ℕ) (bytes : List ℕ) (xs : List A) (rest : List ℕ) → many_at read n end bytes ≡ Ok (xs, rest)
    → Takes (SpellsMany Item xs) bytes rest × (length xs ≡ n)
unfolding many_at
many_found {A} Item read reader zero end bytes xs rest e =
    subst (λ (p : List A × List ℕ). Takes (SpellsMany Item p.0) bytes p.1 × (length p.0 ≡ 0)) (ok_is e) (record { text = []; spells = refl; parts = refl }, refl)
many_found {A} Item read reader (suc n) end bytes xs rest e =
    let a = bind_ok (read end bytes) (λ first. many_at read n end first.1 >>= λ others. Ok (first.0 ∷ others.0, others.1)) (xs, rest) e in
    let b = bind_ok (many_at read n end a.0.1) (λ others. Ok (a.0.0 ∷ others.0, others.1)) (xs, rest) a.2 in
    let first = reader.found end bytes a.0.0 a.0.1 a.1 in
    let others = many_found Item read reader n end a.0.1 b.0.0 b.0.1 b.1 in
    subst (λ (p : List A × List ℕ). Takes (SpellsMany Item p.0) bytes p.1 × (length p.0 ≡ suc n)) (ok_is b.2) (Takes-then first others.0, ap suc others.1)

pub many_again : {A : Type 0} (Item : A → List ℕ → Type 0) (read : Read A) → IsReader Item read → (end : ℕ) (xs : List A) (text rest : List ℕ) → SpellsMany Item xs text → many_at read (length xs) end (text ++ rest) ≡ Ok (xs, rest)
unfolding many_at
many_again Item read reader end [] text rest s = rw s refl
many_again Item read reader end (x ∷ xs) text rest s =
    let parts = regrouped s.0 s.1 text rest s.4 in
    rw (parts, reader.again end x s.0 (s.1 ++ rest) s.2, many_again Item read reader end xs s.1 rest s.3) refl

pub vector_reader : {A : Type 0} (Item : A → List ℕ → Type 0) (read : Read A) → IsReader Item read → IsReader (SpellsVector Item) (vector_at read)
unfolding vector_at
vector_reader {A} Item read reader = record {
  found = λ end bytes xs rest e.
      let a = bind_ok (u32_at end bytes) (λ count. many_at read count.0 end count.1) (xs, rest) e in
      let count = u32_reader.found end bytes a.0.0 a.0.1 a.1 in
      let items = many_found Item read reader a.0.0 end a.0.1 xs rest a.2 in
      let counted : Takes (SpellsU32 (length xs)) bytes a.0.1 = rw items.1 count in
      Takes-then counted items.0;
  again = λ end xs text rest s.
      let parts = regrouped s.0 s.1 text rest s.4 in
      rw (parts, u32_reader.again end (length xs) s.0 (s.1 ++ rest) s.2, many_again Item read reader end xs s.1 rest s.3) refl;
}

-- ---- bytes that are kept, and names

le_is : (n m : ℕ) → nat_le n m ≡ true → n ≤ m
le_is n m e = leb-true n m e

-- bytes that are cut in two
cut_ok : (n : ℕ) (d : Stop) (bytes front rest : List ℕ) → (let r : Result (List ℕ × List ℕ) Stop = cond (nat_le n (length bytes)) (Ok (take n bytes, drop n bytes)) (Err d) in r ≡ Ok (front, rest)) → Takes (SpellsItself front) bytes rest × (length front ≡ n)
cut_ok n d bytes front rest e =
    let both = cond_ok (nat_le n (length bytes)) d (take n bytes, drop n bytes) (front, rest) e in
    let le : n ≤ length bytes = le_is n (length bytes) both.0 in
    subst (λ (p : List ℕ × List ℕ). Takes (SpellsItself p.0) bytes p.1 × (length p.0 ≡ n)) both.1 (record { text = take n bytes; spells = refl; parts = sym (take-append-drop n bytes) }, length-take-le n bytes le)

cut_again : (front rest : List ℕ) (d : Stop) → (let r : Result (List ℕ × List ℕ) Stop = cond (nat_le (length front) (length (front ++ rest))) (Ok (take (length front) (front ++ rest), drop (length front) (front ++ rest))) (Err d) in r ≡ Ok (front, rest))
cut_again front rest d =
    let le : length front ≤ length (front ++ rest) = omega (arith, length-append front rest) in
    rw (le-leb (length front) (length (front ++ rest)) le, take_at front rest (length front) refl, drop_at front rest (length front) refl) refl

pub bytes_reader : IsReader SpellsBytes bytes_at
unfolding bytes_at front_at
bytes_reader = record {
  found = λ end bytes text rest e.
      let a = bind_ok (u32_at end bytes) (λ count. front_at count.0 end count.1) (text, rest) e in
      let count = u32_reader.found end bytes a.0.0 a.0.1 a.1 in
      let front = cut_ok a.0.0 (Broken end) a.0.1 text rest a.2 in
      let counted : Takes (SpellsU32 (length text)) bytes a.0.1 = rw front.1 count in
      Takes-then counted front.0;
  again = λ end text spelling rest s.
      let parts = regrouped s.0 s.1 spelling rest s.4 in
      rw (parts, u32_reader.again end (length text) s.0 (s.1 ++ rest) s.2, s.3) (cut_again text rest (Broken end));
}

pub name_reader : IsReader SpellsName name_at
unfolding name_at
name_reader = record {
  found = λ end bytes name rest e.
      let a = bind_ok (bytes_at end bytes) (λ name. checked_name (end - length bytes) name.0 name.1) (name, rest) e in
      let c = cond_ok (is_utf8 a.0.0) (Broken (end - length bytes)) (a.0.0, a.0.1) (name, rest) a.2 in
      let front = bytes_reader.found end bytes a.0.0 a.0.1 a.1 in
      subst (λ (p : List ℕ × List ℕ). Takes (SpellsName p.0) bytes p.1) c.1 (record { text = front.text; spells = (IsUtf8-from_is_utf8 a.0.0 c.0, front.spells); parts = front.parts });
  again = λ end name text rest s. rw (bytes_reader.again end name text rest s.1, is_utf8-from_IsUtf8 name s.0) refl;
}

-- ---- parts of a given size

pub part_found : (end : ℕ) (bytes part rest : List ℕ) → part_at end bytes ≡ Ok (part, rest) → Takes (Then (SpellsU32 (length part)) (SpellsItself part)) bytes rest
unfolding part_at
part_found end bytes part rest e =
    let a = bind_ok (u32_at end bytes) (λ size. cut_at (end - length bytes) size.0 size.1) (part, rest) e in
    let size = u32_reader.found end bytes a.0.0 a.0.1 a.1 in
    let front = cut_ok a.0.0 (Broken (end - length bytes)) a.0.1 part rest a.2 in
    let sized : Takes (SpellsU32 (length part)) bytes a.0.1 = rw front.1 size in
    Takes-then sized front.0

pub part_again : (end : ℕ) (size part rest : List ℕ) → SpellsU32 (length part) size → part_at end (size ++ (part ++ rest)) ≡ Ok (part, rest)
unfolding part_at
part_again end size part rest s = rw (u32_reader.again end (length part) size (part ++ rest) s) (cut_again part rest (Broken (end - length (size ++ (part ++ rest)))))

pub part_reader : IsReader SpellsBytes part_at
part_reader = record {
  found = part_found;
  again = λ end part text rest s.
      let parts = regrouped s.0 s.1 text rest s.4 in
      rw (parts, s.3) (part_again end s.0 part rest s.2);
}

ended_ok : {A : Type 0} (end : ℕ) (x y : A) (rest : List ℕ) → ended end x rest ≡ Ok y → (rest ≡ []) × (x ≡ y)
ended_ok end x y [] e = (refl, ok_is e)
ended_ok end x y (b ∷ rest) e = absurd cc

-- a value is all the bytes exactly where they spell it
pub whole_found : {A : Type 0} (Item : A → List ℕ → Type 0) (read : Read A) → IsReader Item read → (end : ℕ) (bytes : List ℕ) (x : A) → whole read end bytes ≡ Ok x → Item x bytes
unfolding whole
whole_found Item read reader end bytes x e =
    let a = bind_ok (read end bytes) (λ x. ended end x.0 x.1) x e in
    let d = ended_ok end a.0.0 x a.0.1 a.2 in
    let front = reader.found end bytes a.0.0 a.0.1 a.1 in
    let all : front.text ≡ bytes = sym (front.parts ∙ ap (λ (t : List ℕ). front.text ++ t) d.0 ∙ append-nil front.text) in
    subst (λ y. Item y bytes) d.1 (subst (Item a.0.0) all front.spells)

pub whole_again : {A : Type 0} (Item : A → List ℕ → Type 0) (read : Read A) → IsReader Item read → (end : ℕ) (bytes : List ℕ) (x : A) → Item x bytes → whole read end bytes ≡ Ok x
unfolding whole
whole_again Item read reader end bytes x s =
    let read_all : read end bytes ≡ Ok (x, []) = ap (read end) (sym (append-nil bytes)) ∙ reader.again end x bytes [] s in
    rw read_all refl

pub sized_reader : {A : Type 0} (Item : A → List ℕ → Type 0) (read : Read A) → IsReader Item read → IsReader (λ x. SpellsSized (Item x)) (sized_at read)
unfolding sized_at
sized_reader {A} Item read reader = record {
  found = λ end bytes x rest e.
      let a = bind_ok (part_at end bytes) (λ part. whole read (end - length part.1) part.0 >>= λ x. Ok (x, part.1)) (x, rest) e in
      let b = bind_ok (whole read (end - length a.0.1) a.0.0) (λ x. Ok (x, a.0.1)) (x, rest) a.2 in
      let front = part_found end bytes a.0.0 a.0.1 a.1 in
      let inner = whole_found Item read reader (end - length a.0.1) a.0.0 b.0 b.1 in
      let s = front.spells in
      let taken : Takes (SpellsSized (Item b.0)) bytes a.0.1 = record { text = front.text; spells = (s.0, a.0.0, s.2, inner, s.4 ∙ ap (λ (t : List ℕ). s.0 ++ t) s.3); parts = front.parts } in
      subst (λ (p : A × List ℕ). Takes (SpellsSized (Item p.0)) bytes p.1) (ok_is b.2) taken;
  again = λ end x text rest s.
      let parts = regrouped s.0 s.1 text rest s.4 in
      rw (parts, part_again end s.0 s.1 rest s.2, whole_again Item read reader (end - length rest) s.1 x s.3) refl;
}

-- ---- how many bytes were taken

pub taken_length : {P : List ℕ → Type 0} {bytes rest : List ℕ} (t : Takes P bytes rest) → length bytes ≡ length t.text + length rest
taken_length {rest = rest} t = ap length t.parts ∙ length-append t.text rest

pub taken_front : {P : List ℕ → Type 0} {bytes rest : List ℕ} (t : Takes P bytes rest) → P (take (length bytes - length rest) bytes)
taken_front {P} {bytes} {rest} t =
    let k : length bytes - length rest ≡ length t.text = omega (arith, taken_length t) in
    let front : take (length bytes - length rest) bytes ≡ t.text = ap (λ n. take n bytes) k ∙ ap (take (length t.text)) t.parts ∙ take_at t.text rest (length t.text) refl in
    subst P (sym front) t.spells

pub taken_rest : {P : List ℕ → Type 0} {bytes rest : List ℕ} (t : Takes P bytes rest) → drop (length bytes - length rest) bytes ≡ rest
taken_rest {P} {bytes} {rest} t =
    let k : length bytes - length rest ≡ length t.text = omega (arith, taken_length t) in
    ap (λ n. drop n bytes) k ∙ ap (drop (length t.text)) t.parts ∙ drop_at t.text rest (length t.text) refl

-- ---- one spelling, one value

pub only_ok : {A : Type 0} (Item : A → List ℕ → Type 0) (read : Read A) → IsReader Item read → (end : ℕ) (bytes : List ℕ) (x : A) (rest : List ℕ) → read end bytes ≡ Ok (x, rest)
    → (y : A) (text more : List ℕ) → Item y text → bytes ≡ text ++ more → (x ≡ y) × (length bytes - length rest ≡ length text)
only_ok {A} Item read reader end bytes x rest e y text more s parts =
    let other : read end bytes ≡ Ok (y, more) = rw parts (reader.again end y text more s) in
    let both : ◌≡◌ {A = A × List ℕ} (x, rest) (y, more) = ok_is (sym e ∙ other) in
    let same : rest ≡ more = ap (λ (p : A × List ℕ). p.1) both in
    (ap (λ (p : A × List ℕ). p.0) both, omega (arith, ap length parts, length-append text more, ap length same))

pub only_err : {A P : Type 0} (Item : A → List ℕ → Type 0) (read : Read A) → IsReader Item read → (end : ℕ) (bytes : List ℕ) (d : Stop) → read end bytes ≡ Err d
    → (y : A) (text more : List ℕ) → Item y text → bytes ≡ text ++ more → P
only_err Item read reader end bytes d e y text more s parts =
    let other : read end bytes ≡ Ok (y, more) = rw parts (reader.again end y text more s) in
    absurd cc

-- what is read exactly is unambiguous
pub one_value : {A : Type 0} (Item : A → List ℕ → Type 0) (read : Read A) → IsReader Item read → IsUnambiguous Item
one_value {A} Item read reader = λ x y text other rest more s t parts.
    let first : read 0 (text ++ rest) ≡ Ok (x, rest) = reader.again 0 x text rest s in
    let both = only_ok Item read reader 0 (text ++ rest) x rest first y other more t parts in
    let same : length text ≡ length other = omega (arith, both.1, length-append text rest) in
    let front : take (length text) (text ++ rest) ≡ text = take_at text rest (length text) refl in
    let back : take (length text) (other ++ more) ≡ other = take_at other more (length text) (sym same) in
    (both.0, sym front ∙ ap (take (length text)) parts ∙ back)

-- ---- one test of a dispatch

-- an answer behind a test: either the test holds, or the answer comes from the other branch
pub branch : {A P : Type 0} (q : Bool) (here other : Result A Stop) (y : A) → (q ≡ true → here ≡ Ok y → P) → (other ≡ Ok y → P) → cond q here other ≡ Ok y → P
branch true here other y f g e = f refl e
branch false here other y f g e = g e

pub never : {A P : Type 0} (d : Stop) (y : A) → (let r : Result A Stop = Err d in r ≡ Ok y) → P
never d y e = absurd cc

-- a byte that was read is this one
pub is_byte : (byte tag : ℕ) (bytes mid : List ℕ) → eqb byte tag ≡ true → Takes (SpellsByte byte) bytes mid → Takes (SpellsByte tag) bytes mid
is_byte byte tag bytes mid q front = subst (λ (n : ℕ). Takes (SpellsByte n) bytes mid) (eqb-true byte tag q) front

pub tagged : {P : List ℕ → Type 0} (byte tag : ℕ) (bytes mid rest : List ℕ) → eqb byte tag ≡ true → Takes (SpellsByte byte) bytes mid → Takes P mid rest → Takes (Then (SpellsByte tag) P) bytes rest
tagged byte tag bytes mid rest q front p = Takes-then (is_byte byte tag bytes mid q front) p
