-- What is written is in the grammar, and as short as can be.
use Rattle.std.proofs.Common.{◌≡◌, ℕ, ◌≤◌, List, [], ◌∷◌, ◌++◌, length, take, refl, sym, ap, subst, ◌∙◌, append_assoc, arith, Result, Ok, Err}
use Rattle.std.specs.Prelude.{OnOk}
use Rattle.std.proofs.lemmas.List.{length-append, length-take, take-take, take_at, append-nil}
use Rattle.wasm_grammar.specs.Grammar.{SpellsNothing, SpellsU32, SpellsVector, SpellsItself, SpellsBytes, SpellsName, SpellsMany, Then}
use Rattle.wasm_grammar.specs.Writers.{Appends, Writes, HasSpelling, Keeps}

-- what has a spelling is written so
pub Writes-from : {P : List ℕ → Type 0} {old new : List ℕ} → Appends P old new → Writes P old new
Writes-from a = λ some s. a

-- and what is written, where it has a spelling, is written so where it has one
pub Writes-spelled : {P : List ℕ → Type 0} (old new : List ℕ) → Writes P old new → HasSpelling P → Appends P old new
Writes-spelled old new w s = w s.0 s.1

-- a vector has a spelling where its count and each item have one
pub vector_spelled : {A : Type 0} (Item : A → List ℕ → Type 0) → ((x : A) → HasSpelling (Item x)) → (xs : List A) → HasSpelling (SpellsU32 (length xs)) → HasSpelling (SpellsVector Item xs)
vector_spelled {A} Item each xs count = let many = items xs in (count.0 ++ many.0, (count.0, many.0, count.1, many.1, refl))
  where
    items : (ys : List A) → HasSpelling (SpellsMany Item ys)
    items [] = ([], refl)
    items (y ∷ ys) = let first = each y in let others = items ys in (first.0 ++ others.0, (first.0, others.0, first.1, others.1, refl))

-- one part, and then another
pub Appends-then : {P Q : List ℕ → Type 0} {a b c : List ℕ} → Appends P a b → Appends Q b c → Appends (Then P Q) a c
Appends-then {P} {Q} {a} {b} {c} p q = record {
  text = p.text ++ q.text;
  spells = (p.text, q.text, p.spells, q.spells, refl);
  parts = q.parts ∙ ap (λ (t : List ℕ). t ++ q.text) p.parts ∙ append_assoc a p.text q.text;
  least = λ other s.
      let first : length p.text ≤ length s.0 = p.least s.0 s.2 in
      let second : length q.text ≤ length s.1 = q.least s.1 s.3 in
      omega (arith, first, second, length-append p.text q.text, ap length s.4, length-append s.0 s.1);
}

pub Writes-then : {P Q : List ℕ → Type 0} {a b c : List ℕ} → Writes P a b → Writes Q b c → Writes (Then P Q) a c
Writes-then p q = λ some s. Appends-then (p s.0 s.2) (q s.1 s.3)

pub Writes-nothing : (old : List ℕ) → Writes SpellsNothing old old
Writes-nothing old = λ some s. record { text = []; spells = refl; parts = sym (append-nil old); least = λ other o. omega arith }

pub Writes-itself : (text old new : List ℕ) → new ≡ old ++ text → Appends (SpellsItself text) old new
Writes-itself text old new e = record { text = text; spells = refl; parts = e; least = λ other o. omega (arith, ap length o) }

-- what has the same spellings is written so too
pub Writes-same : {P Q : List ℕ → Type 0} {old new : List ℕ} → ((t : List ℕ) → P t → Q t) → ((t : List ℕ) → Q t → P t) → Writes P old new → Writes Q old new
Writes-same to from w = λ some s.
    let a = w some (from some s) in
    record { text = a.text; spells = to a.text a.spells; parts = a.parts; least = λ other o. a.least other (from other o) }

-- bytes that were written as a vector are a name, where they are UTF-8
pub name_written : {name old new : List ℕ} → Appends (SpellsBytes name) old new → Writes (SpellsName name) old new
name_written a = λ some s. record { text = a.text; spells = (s.0, a.spells); parts = a.parts; least = λ other o. a.least other o.1 }

-- ---- the bytes that were there

pub keeps_then : (a b c : List ℕ) → Keeps a b → Keeps b c → Keeps a c
keeps_then a b c p q =
    let shorter : length a ≤ length b = omega (arith, length-take (length a) b, ap length p) in
    sym (take-take (length a) (length b) c shorter) ∙ ap (take (length a)) q ∙ p

pub keeps_more : (a t : List ℕ) → Keeps a (a ++ t)
keeps_more a t = take_at a t (length a) refl

pub Appends-keeps : {P : List ℕ → Type 0} (a b : List ℕ) → Appends P a b → Keeps a b
Appends-keeps a b p = rw p.parts (keeps_more a p.text)

-- ---- items, and one more

more_parts : {A : Type 0} (Item : A → List ℕ → Type 0) (xs : List A) (x : A) (t : List ℕ) → SpellsMany Item (xs ++ x ∷ []) t → Then (SpellsMany Item xs) (Item x) t
more_parts Item [] x t s = ([], s.0, refl, s.2, s.4 ∙ ap (λ (r : List ℕ). s.0 ++ r) s.3 ∙ append-nil s.0)
more_parts Item (y ∷ xs) x t s =
    let tail = more_parts Item xs x s.1 s.3 in
    (s.0 ++ tail.0, tail.1, (s.0, tail.0, s.2, tail.2, refl), tail.3, s.4 ∙ ap (λ (r : List ℕ). s.0 ++ r) tail.4 ∙ sym (append_assoc s.0 tail.0 tail.1))

parts_more : {A : Type 0} (Item : A → List ℕ → Type 0) (xs : List A) (x : A) (t : List ℕ) → Then (SpellsMany Item xs) (Item x) t → SpellsMany Item (xs ++ x ∷ []) t
parts_more Item [] x t s = (s.1, [], s.3, refl, s.4 ∙ ap (λ (r : List ℕ). r ++ s.1) s.2 ∙ sym (append-nil s.1))
parts_more Item (y ∷ xs) x t s =
    let f = s.2 in
    (f.0, f.1 ++ s.1, f.2, parts_more Item xs x (f.1 ++ s.1) (f.1, s.1, f.3, s.3, refl), s.4 ∙ ap (λ (r : List ℕ). r ++ s.1) f.4 ∙ append_assoc f.0 f.1 s.1)

pub Writes-more : {A : Type 0} (Item : A → List ℕ → Type 0) (xs : List A) (x : A) (a b c : List ℕ) → Writes (SpellsMany Item xs) a b → Writes (Item x) b c → Writes (SpellsMany Item (xs ++ x ∷ [])) a c
Writes-more Item xs x a b c p q = Writes-same (parts_more Item xs x) (more_parts Item xs x) (Writes-then p q)

-- what was written stands as it was after a call that cuts back where it failed
pub after_cut : {A E : Type 0} (R : List ℕ → Type 0) (r s : Result A E) (b c : List ℕ) → r ≡ s → OnOk s (c ≡ b) → OnOk s (R b) → OnOk r (R c)
after_cut R r (Ok x) b c same is wrote = rw same (subst R (sym is) wrote)
after_cut R r (Err e) b c same is wrote = rw same tt

-- what holds where the call did it
pub both-ok : {A E P Q R : Type 0} (r : Result A E) → (P → Q → R) → OnOk r P → OnOk r Q → OnOk r R
both-ok (Ok x) f p q = f p q
both-ok (Err e) f p q = tt

pub on-ok : {A E P Q : Type 0} (r : Result A E) → (P → Q) → OnOk r P → OnOk r Q
on-ok (Ok x) f p = f p
on-ok (Err e) f p = tt
