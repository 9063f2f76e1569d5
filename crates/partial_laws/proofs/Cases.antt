-- Where no names clash and none is defined twice, none does so where one object stands for a run.
use Rattle.std.proofs.Common.{◌≡◌, ℕ, Bool, true, false, not, ◌==◌, ◌||◌, ◌&&◌, List, [], ◌∷◌, filter, inl, inr, ⊎_elim, refl, sym, ap, subst, ◌∙◌}
use Rattle.std.specs.Prelude.{if◌then◌else◌, Option, Some, None, option_map, option_and_then, find, All}
use Rattle.std.proofs.lemmas.Bool.{and_parts, and_from, eqb-true, eq-eqb}
use Rattle.list_places.specs.Has.{Has}
use Rattle.list_places.proofs.Lists.{find_has, has_map, has_filter, all_has}
use Rattle.name_rules.specs.object_file.wl_base.declared.fault.Fault.{Fault}
use Rattle.name_rules.specs.object_file.linking_section.Flags.{kind_code}
use Rattle.name_rules.specs.Entries.{InputSymbol, name_of, is_named, is_kind, same_entry, same_symbol_type}
use Rattle.name_rules.specs.Cases.{explicit_import, differ, clashes_with, first_entry, passes, clashes, clash_of, clash, is_strong, first_strong, is_duplicate, duplicate_of, duplicate}
use Rattle.partial_laws.specs.Joining.{Joining, joined, Kept, IsJoining}
use Rattle.partial_laws.proofs.Same.{name_equal, name_itself, type_equal, type_itself, entry_itself}

-- ---- what is found

no_some : {A : Type 0} (x : A) → Some x ≡ None → ⊥
no_some x e = absurd cc

not_true : false ≡ true → ⊥
not_true e = absurd cc

pub find_none : {A : Type 0} (t : A → Bool) (xs : List A) → find t xs ≡ None → (x : A) → Has xs x → t x ≡ false
find_none t [] none x has = absurd has
find_none {A} t (y ∷ ys) none x has = by_test (t y) refl none (λ e below. find_none t ys e x below)
  where
    by_test : (b : Bool) → t y ≡ b → (if b then Some y else find t ys) ≡ None → (find t ys ≡ None → Has ys x → t x ≡ false) → t x ≡ false
    by_test true is e rest = absurd (no_some y e)
    by_test false is e rest = ⊎_elim (λ (it : y ≡ x). sym (ap t it) ∙ is) (λ below. rest e below) has

pub find_nothing : {A : Type 0} (t : A → Bool) (xs : List A) → ((x : A) → Has xs x → t x ≡ false) → find t xs ≡ None
find_nothing t [] each = refl
find_nothing t (y ∷ ys) each = rw (each y (inl refl)) (find_nothing t ys (λ x has. each x (inr has)))

-- What is found passes, so nothing is found where what passes would be told.
told_none : {A B : Type 0} (t : A → Bool) (u : A → Option B) (f : A → B → Fault) → ((x : A) → t x ≡ true → u x ≡ None → ⊥) → (xs : List A)
    → option_and_then (λ x. option_map (f x) (u x)) (find t xs) ≡ None → find t xs ≡ None
told_none {A} {B} t u f each xs none = by_found (find t xs) refl none
  where
    by_other : (x : A) → t x ≡ true → (o : Option B) → u x ≡ o → option_map (f x) o ≡ None → ⊥
    by_other x is None nothing e = each x is nothing
    by_other x is (Some y) some e = no_some (f x y) e

    by_found : (o : Option A) → find t xs ≡ o → option_and_then (λ x. option_map (f x) (u x)) o ≡ None → find t xs ≡ None
    by_found None found e = found
    by_found (Some x) found e = absurd (by_other x (find_has t xs x found).1 (u x) refl e)

passed : (test : InputSymbol → Bool) (o : Option InputSymbol) → passes test o ≡ true → o ≡ None → ⊥
passed test None t none = not_true t
passed test (Some a) t none = no_some a none

pub no_duplicate : (es : List InputSymbol) → duplicate es ≡ None → (e : InputSymbol) → Has es e → is_duplicate es e ≡ false
unfolding duplicate
no_duplicate es none e has =
    find_none (is_duplicate es) es
    (told_none (is_duplicate es) (λ x. first_strong es (name_of x)) duplicate_of
    (λ x is nothing. passed (λ a. not (same_entry a x)) (first_strong es (name_of x)) (and_parts (is_strong x) (passes (λ a. not (same_entry a x)) (first_strong es (name_of x))) is).1 nothing) es none)
    e has

pub no_clash : (es : List InputSymbol) → clash es ≡ None → (e : InputSymbol) → Has es e → clashes es e ≡ false
unfolding clash
no_clash es none e has =
    find_none (clashes es) es
    (told_none (clashes es) (λ x. first_entry es (name_of x)) clash_of (λ x is nothing. passed (λ a. clashes_with a x) (first_entry es (name_of x)) is nothing) es none)
    e has

not_false : (b : Bool) → not b ≡ false → b ≡ true
not_false true e = refl
not_false false e = absurd cc

-- Entries of one name are of one kind and type.
pub one_type : (es : List InputSymbol) → clash es ≡ None → (a e : InputSymbol) → Has es a → Has es e → name_of a ≡ name_of e → (kind_code a.symbol.kind ≡ kind_code e.symbol.kind) × (a.type ≡ e.type)
one_type es none a e has_a has_e name = by_first (first_entry es (name_of e)) refl
  where
    or_left_false : (x y : Bool) → (x || y) ≡ false → x ≡ false
    or_left_false true y h = h
    or_left_false false y h = refl

    as_first : (b : InputSymbol) (n : List ℕ) (x : InputSymbol) → Has es x → name_of x ≡ n → first_entry es n ≡ Some b → (kind_code x.symbol.kind ≡ kind_code b.symbol.kind) × (b.type ≡ x.type)
    as_first b n x has of some =
        let fails : clashes es x ≡ false = no_clash es none x has in
        let told : clashes es x ≡ clashes_with b x = ap (passes (λ a. clashes_with a x)) (ap (first_entry es) of ∙ some) in
        let alike : (is_kind b.symbol.kind x && same_symbol_type b.type x.type) ≡ true =
        not_false (is_kind b.symbol.kind x && same_symbol_type b.type x.type)
        (or_left_false (not (is_kind b.symbol.kind x && same_symbol_type b.type x.type)) (differ (explicit_import b) (explicit_import x)) (sym told ∙ fails)) in
        let p = and_parts (is_kind b.symbol.kind x) (same_symbol_type b.type x.type) alike in
        (eqb-true (kind_code x.symbol.kind) (kind_code b.symbol.kind) p.0, type_equal b.type x.type p.1)

    by_first : (o : Option InputSymbol) → first_entry es (name_of e) ≡ o → (kind_code a.symbol.kind ≡ kind_code e.symbol.kind) × (a.type ≡ e.type)
    by_first None nothing = absurd (not_true (sym (find_none (is_named (name_of e)) es nothing e has_e) ∙ name_itself (name_of e)))
    by_first (Some b) some =
        let p = as_first b (name_of e) a has_a name some in
        let q = as_first b (name_of e) e has_e refl some in
        (p.0 ∙ sym q.0, sym p.1 ∙ q.1)

module _ (j : Joining) (S : InputSymbol → Type 0) (es : List InputSymbol) (is : IsJoining j S es) (all : All S es) where
  -- What stands in the other link stands for one of this that is kept.
  pub record Origin (e : InputSymbol) : Type 0 where
    pub symbol : InputSymbol
    pub there : Has es symbol
    pub kept : Kept j S symbol
    pub moves : j.move symbol ≡ e

  pub origin : (e : InputSymbol) → Has (joined j es) e → Origin e
  origin e has =
      let m = has_map j.move (filter j.keep es) e has in
      let f = has_filter j.keep es m.0 m.1 in
      record { symbol = m.0; there = f.0; kept = record { symbol = all_has S es all m.0 f.0; kept = f.1 }; moves = m.2 }

  -- ---- duplicates

  one_strong : duplicate es ≡ None → (a e : InputSymbol) → Has es a → Has es e → is_strong a ≡ true → is_strong e ≡ true → name_of a ≡ name_of e → a ≡ e
  one_strong none a e has_a has_e strong_a strong_e name = by_first (first_strong es (name_of e)) refl
    where
      S_of : (x : InputSymbol) → Has es x → S x
      S_of x has = all_has S es all x has

      -- the first is each of them
      is_first : (b : InputSymbol) (n : List ℕ) (x : InputSymbol) → Has es x → is_strong x ≡ true → name_of x ≡ n → first_strong es n ≡ Some b → b ≡ x
      is_first b n x has strong of some =
          let found = find_has (λ y. is_strong y && is_named n y) es b some in
          let fails : is_duplicate es x ≡ false = no_duplicate es none x has in
          let told : is_duplicate es x ≡ not (same_entry b x) =
          ap (λ (s : Bool). s && passes (λ a. not (same_entry a x)) (first_strong es (name_of x))) strong
          ∙ ap (passes (λ a. not (same_entry a x))) (ap (first_strong es) of ∙ some) in
          is.one b x (S_of b found.0) (S_of x has) (not_false (same_entry b x) (sym told ∙ fails))

      by_first : (o : Option InputSymbol) → first_strong es (name_of e) ≡ o → a ≡ e
      by_first None nothing = absurd (not_true (sym (find_none (λ y. is_strong y && is_named (name_of e) y) es nothing e has_e) ∙ and_from (is_strong e) (is_named (name_of e) e) strong_e (name_itself (name_of e))))
      by_first (Some b) some = sym (is_first b (name_of e) a has_a strong_a name some) ∙ is_first b (name_of e) e has_e strong_e refl some

  strong_before : (e : InputSymbol) → Kept j S e → is_strong (j.move e) ≡ true → is_strong e ≡ true
  strong_before e kept strong =
      let p = and_parts (j.move e).defines ((j.move e).class == 0) strong in
      and_from e.defines (e.class == 0) (is.defines e kept p.0) (ap (λ (n : ℕ). n == 0) (sym (is.class e kept p.0)) ∙ p.1)

  pub duplicate_joined : duplicate es ≡ None → duplicate (joined j es) ≡ None
  unfolding duplicate
  duplicate_joined none = ap (option_and_then (λ e. option_map (duplicate_of e) (first_strong (joined j es) (name_of e)))) (find_nothing (is_duplicate (joined j es)) (joined j es) each)
    where
      by_first : (e : InputSymbol) (x : Origin e) → is_strong e ≡ true → (o : Option InputSymbol) → first_strong (joined j es) (name_of e) ≡ o → passes (λ a. not (same_entry a e)) o ≡ false
      by_first e x strong None nothing = refl
      by_first e x strong (Some a) some =
          let found = find_has (λ y. is_strong y && is_named (name_of e) y) (joined j es) a some in
          let tests = and_parts (is_strong a) (is_named (name_of e) a) found.1 in
          let y : Origin a = origin a found.0 in
          let one : y.symbol ≡ x.symbol =
          one_strong none y.symbol x.symbol y.there x.there
          (strong_before y.symbol y.kept (ap is_strong y.moves ∙ tests.0)) (strong_before x.symbol x.kept (ap is_strong x.moves ∙ strong))
          (sym (is.name y.symbol y.kept) ∙ (ap name_of y.moves ∙ (name_equal (name_of a) (name_of e) tests.1 ∙ (sym (ap name_of x.moves) ∙ is.name x.symbol x.kept)))) in
          let same : a ≡ e = sym y.moves ∙ (ap j.move one ∙ x.moves) in
          ap not (ap (λ z. same_entry z e) same ∙ entry_itself e)

      by_strong : (e : InputSymbol) → Origin e → (b : Bool) → is_strong e ≡ b → (b && passes (λ a. not (same_entry a e)) (first_strong (joined j es) (name_of e))) ≡ false
      by_strong e x true strong = by_first e x strong (first_strong (joined j es) (name_of e)) refl
      by_strong e x false strong = refl

      each : (e : InputSymbol) → Has (joined j es) e → is_duplicate (joined j es) e ≡ false
      each e has =
          ap (λ (b : Bool). b && passes (λ a. not (same_entry a e)) (first_strong (joined j es) (name_of e))) refl
          ∙ by_strong e (origin e has) (is_strong e) refl

  -- ---- clashes

  pub clash_joined : clash es ≡ None
      → ((a b : InputSymbol) → Has es a → Has es b → Kept j S a → Kept j S b → name_of a ≡ name_of b → first_entry (joined j es) (name_of b) ≡ Some (j.move a)
      → differ (explicit_import (j.move a)) (explicit_import (j.move b)) ≡ false)
      → clash (joined j es) ≡ None
  unfolding clash
  clash_joined none agree = ap (option_and_then (λ e. option_map (clash_of e) (first_entry (joined j es) (name_of e)))) (find_nothing (clashes (joined j es)) (joined j es) each)
    where
      beside : (a e : InputSymbol) → Origin a → Origin e → name_of a ≡ name_of e → first_entry (joined j es) (name_of e) ≡ Some a → clashes_with a e ≡ false
      beside a e x y name some =
          let names : name_of x.symbol ≡ name_of y.symbol = sym (is.name x.symbol x.kept) ∙ (ap name_of x.moves ∙ (name ∙ (sym (ap name_of y.moves) ∙ is.name y.symbol y.kept))) in
          let one = one_type es none x.symbol y.symbol x.there y.there names in
          let kinds : kind_code e.symbol.kind ≡ kind_code a.symbol.kind =
          ap (λ z. kind_code z.symbol.kind) (sym y.moves) ∙ (ap (λ k. kind_code k) (is.kind y.symbol y.kept) ∙ (sym one.0 ∙ (sym (ap (λ k. kind_code k) (is.kind x.symbol x.kept)) ∙ ap (λ z. kind_code z.symbol.kind) x.moves))) in
          let types : a.type ≡ e.type =
          ap (λ z. z.type) (sym x.moves) ∙ (is.type x.symbol x.kept ∙ (one.1 ∙ (sym (is.type y.symbol y.kept) ∙ ap (λ z. z.type) y.moves))) in
          let kind : is_kind a.symbol.kind e ≡ true = eq-eqb (kind_code e.symbol.kind) (kind_code a.symbol.kind) kinds in
          let type : same_symbol_type a.type e.type ≡ true = subst (λ t. same_symbol_type a.type t ≡ true) types (type_itself a.type) in
          let apart : differ (explicit_import a) (explicit_import e) ≡ false =
          ap (λ z. differ (explicit_import z) (explicit_import e)) (sym x.moves) ∙ (ap (λ z. differ (explicit_import (j.move x.symbol)) (explicit_import z)) (sym y.moves) ∙ agree x.symbol y.symbol x.there y.there x.kept y.kept names
          (ap (first_entry (joined j es)) (sym (is.name y.symbol y.kept) ∙ ap name_of y.moves) ∙ (some ∙ ap Some (sym x.moves)))) in
          ap (λ (b : Bool). not (b && same_symbol_type a.type e.type) || differ (explicit_import a) (explicit_import e)) kind
          ∙ (ap (λ (b : Bool). not b || differ (explicit_import a) (explicit_import e)) type ∙ apart)

      by_first : (e : InputSymbol) → Origin e → (o : Option InputSymbol) → first_entry (joined j es) (name_of e) ≡ o → passes (λ a. clashes_with a e) o ≡ false
      by_first e y None nothing = refl
      by_first e y (Some a) some =
          let found = find_has (is_named (name_of e)) (joined j es) a some in
          beside a e (origin a found.0) y (name_equal (name_of a) (name_of e) found.1) some

      each : (e : InputSymbol) → Has (joined j es) e → clashes (joined j es) e ≡ false
      each e has = by_first e (origin e has) (first_entry (joined j es) (name_of e)) refl
