-- The least of symbols, and the first of those that rise.
use Rattle.std.proofs.Common.{◌≡◌, ◌==◌, ◌&&◌, ◌||◌, nat_le, Bool, true, false, cond, List, [], ◌∷◌, ◌++◌, map, filter, filter_map, flat_map, find, Option, Some, None, option_map, option_and_then, refl, sym, ap, ◌∙◌, arith, eq-eqb, eqb-true, inl, inr, ◌⊎◌}
use Rattle.std.specs.List.{AllByRecursion}
use Rattle.std.proofs.lemmas.Bool.{and_parts, and_from}
use Rattle.link_program.specs.name_rules.Entries.{InputSymbol, same_entry}
use Rattle.link_program.specs.name_rules.Meanings.{is_nothing}
use Rattle.link_program.specs.link_rules.Program.{Ref, InitCall, insert_call, by_priority}
use Rattle.link_program.specs.link_rules.Marks.{is_open}
use Rattle.name_unresolved.specs.Refers.{SymbolAt}
use Rattle.name_unresolved.specs.Least.{is_before, lesser, least_by}
use Rattle.link_marks.proofs.Members.{In, found_has}

-- ---- lesser

pub lesser_none : (a : Option SymbolAt) → lesser a None ≡ a
lesser_none None = refl
lesser_none (Some a) = refl

before_trans : (a b c : SymbolAt) → is_before a b ≡ true → is_before b c ≡ true → is_before a c ≡ true
before_trans a b c h k = grind arith

not_before_trans : (a b c : SymbolAt) → is_before a b ≡ false → is_before b c ≡ false → is_before a c ≡ false
not_before_trans a b c h k = grind arith

pub before_back : (a b : SymbolAt) → is_before a b ≡ true → is_before b a ≡ false
before_back a b h = grind arith

input_same : (a b : SymbolAt) → is_before a b ≡ false → is_before b a ≡ false → a.0 ≡ b.0
input_same a b h k = grind arith

place_same : (a b : SymbolAt) → is_before a b ≡ false → is_before b a ≡ false → a.1 ≡ b.1
place_same a b h k = grind arith

abbrev lesser_of : SymbolAt → SymbolAt → SymbolAt
lesser_of a b = cond (is_before b a) b a

lesser_is : (a b : SymbolAt) → lesser (Some a) (Some b) ≡ Some (lesser_of a b)
lesser_is a b = by (is_before b a)
  where
    by : (h : Bool) → cond h (Some b) (Some a) ≡ Some (cond h b a)
    by true = refl
    by false = refl

of_assoc : (a b c : SymbolAt) → lesser_of (lesser_of a b) c ≡ lesser_of a (lesser_of b c)
of_assoc a b c = by (is_before b a) (is_before c b) refl refl
  where
    by : (h k : Bool) → is_before b a ≡ h → is_before c b ≡ k
        → cond (is_before c (cond h b a)) c (cond h b a) ≡ cond (is_before (cond k c b) a) (cond k c b) a
    by true true ba cb = rw (cb, before_trans c b a cb ba) refl
    by true false ba cb = rw (cb, ba) refl
    by false true ba cb = refl
    by false false ba cb = rw (ba, not_before_trans c b a cb ba) refl

pub lesser_assoc : (a b c : Option SymbolAt) → lesser (lesser a b) c ≡ lesser a (lesser b c)
lesser_assoc None b c = refl
lesser_assoc (Some a) None c = refl
lesser_assoc (Some a) (Some b) None = lesser_none (lesser (Some a) (Some b))
lesser_assoc (Some a) (Some b) (Some c) =
    ap (λ o. lesser o (Some c)) (lesser_is a b) ∙ lesser_is (lesser_of a b) c ∙ ap Some (of_assoc a b c)
    ∙ sym (ap (lesser (Some a)) (lesser_is b c) ∙ lesser_is a (lesser_of b c))

lesser_comm : (a b : Option SymbolAt) → lesser a b ≡ lesser b a
lesser_comm None b = sym (lesser_none b)
lesser_comm (Some a) None = refl
lesser_comm (Some a) (Some b) = by (is_before b a) (is_before a b) refl refl
  where
    by : (h k : Bool) → is_before b a ≡ h → is_before a b ≡ k → cond h (Some b) (Some a) ≡ cond k (Some a) (Some b)
    by true true ba ab = absurd (both_ways (sym ab ∙ before_back b a ba))
      where
        both_ways : true ≡ false → ⊥
        both_ways e = cc
    by true false ba ab = refl
    by false true ba ab = refl
    by false false ba ab = let p = input_same a b ab ba in let q = place_same a b ab ba in λ i. Some (p i, q i)

swapped : (a b c : Option SymbolAt) → lesser a (lesser b c) ≡ lesser b (lesser a c)
swapped a b c = sym (lesser_assoc a b c) ∙ ap (λ o. lesser o c) (lesser_comm a b) ∙ lesser_assoc b a c

-- ---- lists

module _ {A : Type 0} (f : A → Option SymbolAt) where
  pub append_is : (xs ys : List A) → least_by f (xs ++ ys) ≡ lesser (least_by f xs) (least_by f ys)
  append_is [] ys = refl
  append_is (x ∷ xs) ys = ap (lesser (f x)) (append_is xs ys) ∙ sym (lesser_assoc (f x) (least_by f xs) (least_by f ys))

  pub map_is : {B : Type 0} (g : B → A) (xs : List B) → least_by f (map g xs) ≡ least_by (λ x. f (g x)) xs
  map_is g [] = refl
  map_is g (x ∷ xs) = ap (lesser (f (g x))) (map_is g xs)

  pub flat_map_is : {B : Type 0} (g : B → List A) (xs : List B) → least_by f (flat_map g xs) ≡ least_by (λ x. least_by f (g x)) xs
  flat_map_is g [] = refl
  flat_map_is g (x ∷ xs) = append_is (g x) (flat_map g xs) ∙ ap (lesser (least_by f (g x))) (flat_map_is g xs)

  pub filter_map_is : {B : Type 0} (g : B → Option A) (xs : List B) → least_by f (filter_map g xs) ≡ least_by (λ x. option_and_then f (g x)) xs
  filter_map_is g [] = refl
  filter_map_is g (x ∷ xs) = by (filter_map_is g xs) (g x) refl
    where
      by : least_by f (filter_map g xs) ≡ least_by (λ x. option_and_then f (g x)) xs → (o : Option A) → g x ≡ o
          → least_by f (filter_map g (x ∷ xs)) ≡ lesser (option_and_then f o) (least_by (λ x. option_and_then f (g x)) xs)
      by rest None e = rw e rest
      by rest (Some a) e = rw e (ap (lesser (f a)) rest)

  pub filter_is : (p : A → Bool) (xs : List A) → least_by f (filter p xs) ≡ least_by (λ x. cond (p x) (f x) None) xs
  filter_is p [] = refl
  filter_is p (x ∷ xs) = by (filter_is p xs) (p x)
    where
      by : least_by f (filter p xs) ≡ least_by (λ x. cond (p x) (f x) None) xs → (b : Bool)
          → least_by f (cond b (x ∷ filter p xs) (filter p xs)) ≡ lesser (cond b (f x) None) (least_by (λ x. cond (p x) (f x) None) xs)
      by rest true = ap (lesser (f x)) rest
      by rest false = rest

  pub least_agree : (g : A → Option SymbolAt) (xs : List A) → AllByRecursion (λ x. f x ≡ g x) xs → least_by f xs ≡ least_by g xs
  least_agree g [] all = refl
  least_agree g (x ∷ xs) all = let h = all.0 in let t = least_agree g xs all.1 in λ i. lesser (h i) (t i)

  pub least_same : (g : A → Option SymbolAt) → ((x : A) → f x ≡ g x) → (xs : List A) → least_by f xs ≡ least_by g xs
  least_same g same [] = refl
  least_same g same (x ∷ xs) = let h = same x in let t = least_same g same xs in λ i. lesser (h i) (t i)

-- ---- calls by priority

module _ (g : InitCall → Option SymbolAt) where
  insert_by : (c d : InitCall) (ds : List InitCall) → least_by g (insert_call c ds) ≡ lesser (g c) (least_by g ds) → (b : Bool)
      → least_by g (cond b (c ∷ d ∷ ds) (d ∷ insert_call c ds)) ≡ lesser (g c) (lesser (g d) (least_by g ds))
  insert_by c d ds again true = refl
  insert_by c d ds again false = ap (lesser (g d)) again ∙ swapped (g d) (g c) (least_by g ds)

  insert_is : (c : InitCall) (ds : List InitCall) → least_by g (insert_call c ds) ≡ lesser (g c) (least_by g ds)
  insert_is c [] = refl
  insert_is c (d ∷ ds) = insert_by c d ds (insert_is c ds) (nat_le c.priority d.priority)

  pub sorted_is : (cs : List InitCall) → least_by g (by_priority cs) ≡ least_by g cs
  sorted_is [] = refl
  sorted_is (c ∷ cs) = insert_is c (by_priority cs) ∙ ap (lesser (g c)) (sorted_is cs)

module _ (P : InitCall → Type 0) where
  insert_all_by : (c d : InitCall) (ds : List InitCall) → P c → P d → AllByRecursion P ds → AllByRecursion P (insert_call c ds) → (b : Bool) → AllByRecursion P (cond b (c ∷ d ∷ ds) (d ∷ insert_call c ds))
  insert_all_by c d ds h k all again true = (h, (k, all))
  insert_all_by c d ds h k all again false = (k, again)

  insert_all : (c : InitCall) (ds : List InitCall) → P c → AllByRecursion P ds → AllByRecursion P (insert_call c ds)
  insert_all c [] h all = (h, tt)
  insert_all c (d ∷ ds) h all = insert_all_by c d ds h all.0 all.1 (insert_all c ds h all.1) (nat_le c.priority d.priority)

  pub sorted_all : (cs : List InitCall) → AllByRecursion P cs → AllByRecursion P (by_priority cs)
  sorted_all [] all = tt
  sorted_all (c ∷ cs) all = insert_all c (by_priority cs) all.0 (sorted_all cs all.1)

-- ---- symbols that rise

abbrev pub at : InputSymbol → SymbolAt
at e = (e.input, e.place)

abbrev pub Before : InputSymbol → InputSymbol → Type 0
Before a b = is_before (at a) (at b) ≡ true

abbrev pub Rising : List InputSymbol → Type 0
Rising [] = Unit {0}
Rising (e ∷ es) = AllByRecursion (Before e) es × Rising es

pub rising_both : (xs ys : List InputSymbol) → Rising xs → Rising ys → AllByRecursion (λ x. AllByRecursion (Before x) ys) xs → Rising (xs ++ ys)
rising_both [] ys h k all = k
rising_both (x ∷ xs) ys h k all = (behind xs h.0, rising_both xs ys h.1 k all.1)
  where
    behind : (zs : List InputSymbol) → AllByRecursion (Before x) zs → AllByRecursion (Before x) (zs ++ ys)
    behind [] hs = all.0
    behind (z ∷ zs) hs = (hs.0, behind zs hs.1)

same_at : (x e : InputSymbol) → same_entry x e ≡ true → at e ≡ at x
same_at x e h =
    let both = and_parts (x.input == e.input) (x.place == e.place) h in
    let p : e.input ≡ x.input = sym (eqb-true x.input e.input both.0) in
    let q : e.place ≡ x.place = sym (eqb-true x.place e.place both.1) in
    λ i. (p i, q i)

pub entry_itself : (e : InputSymbol) → same_entry e e ≡ true
entry_itself e = and_from (e.input == e.input) (e.place == e.place) (eq-eqb e.input e.input refl) (eq-eqb e.place e.place refl)

true_false : true ≡ false → ⊥
true_false h = cc

-- a symbol is found by its input and place
found_by : (e x : InputSymbol) (es : List InputSymbol) → (In x es → option_map at (find (same_entry x) es) ≡ Some (at x)) → (b : Bool) → same_entry x e ≡ b → (e ≡ x) ⊎ In x es
    → option_map at (cond b (Some e) (find (same_entry x) es)) ≡ Some (at x)
found_by e x es again true is k = ap Some (same_at x e is)
found_by e x es again false is (inl same) = absurd (true_false (sym (entry_itself x) ∙ ap (same_entry x) (sym same) ∙ is))
found_by e x es again false is (inr k) = again k

found_at : (es : List InputSymbol) (x : InputSymbol) → In x es → option_map at (find (same_entry x) es) ≡ Some (at x)
found_at [] x h = absurd h
found_at (e ∷ es) x h = found_by e x es (found_at es x) (same_entry x e) refl h

-- the first that passes one of two tests, where they rise
earlier : (a : InputSymbol) (o : Option InputSymbol) → ((e : InputSymbol) → o ≡ Some e → Before a e) → lesser (Some (at a)) (option_map at o) ≡ Some (at a)
earlier a None f = refl
earlier a (Some e) f = ap (λ b. cond b (Some (at e)) (Some (at a))) (before_back (at a) (at e) (f e refl))

later : (a : InputSymbol) (o : Option InputSymbol) → ((e : InputSymbol) → o ≡ Some e → Before a e) → lesser (option_map at o) (Some (at a)) ≡ Some (at a)
later a None f = refl
later a (Some e) f = ap (λ b. cond b (Some (at a)) (Some (at e))) (f e refl)

itself : (a : InputSymbol) → lesser (Some (at a)) (Some (at a)) ≡ Some (at a)
itself a = by (is_before (at a) (at a))
  where
    by : (b : Bool) → cond b (Some (at a)) (Some (at a)) ≡ Some (at a)
    by true = refl
    by false = refl

either_by : (P Q : InputSymbol → Bool) (e : InputSymbol) (es : List InputSymbol) → AllByRecursion (Before e) es
    → option_map at (find (λ e. P e || Q e) es) ≡ lesser (option_map at (find P es)) (option_map at (find Q es)) → (b c : Bool)
    → option_map at (cond (b || c) (Some e) (find (λ e. P e || Q e) es)) ≡ lesser (option_map at (cond b (Some e) (find P es))) (option_map at (cond c (Some e) (find Q es)))
either_by P Q e es rise again true true = sym (itself e)
either_by P Q e es rise again true false = sym (earlier e (find Q es) (λ x is. (found_has (Before e) Q es x rise is).0))
either_by P Q e es rise again false true = sym (later e (find P es) (λ x is. (found_has (Before e) P es x rise is).0))
either_by P Q e es rise again false false = again

either : (P Q : InputSymbol → Bool) (es : List InputSymbol) → Rising es → option_map at (find (λ e. P e || Q e) es) ≡ lesser (option_map at (find P es)) (option_map at (find Q es))
either P Q [] rise = refl
either P Q (e ∷ es) rise = either_by P Q e es rise.0 (either P Q es rise.1) (P e) (Q e)

none_found : (es : List InputSymbol) → find (λ e. false) es ≡ None
none_found [] = refl
none_found (e ∷ es) = none_found es

-- ---- references that mean nothing

abbrev pub open_at : Ref → Option SymbolAt
open_at r = cond (is_nothing r.meaning) (Some (at r.entry)) None

-- The first symbol that a reference leaves open is the least that one does.
pub first_open : (es : List InputSymbol) (refs : List Ref) → Rising es → AllByRecursion (λ (r : Ref). is_nothing r.meaning ≡ true → In r.entry es) refs → option_map at (find (is_open refs) es) ≡ least_by open_at refs
first_open es [] rise known = ap (option_map at) (none_found es)
first_open es (r ∷ refs) rise known =
    either (λ e. is_nothing r.meaning && same_entry r.entry e) (is_open refs) es rise
    ∙ (λ i. lesser (by (is_nothing r.meaning) refl i) (first_open es refs rise known.1 i))
  where
    by : (b : Bool) → is_nothing r.meaning ≡ b → option_map at (find (λ e. b && same_entry r.entry e) es) ≡ cond b (Some (at r.entry)) None
    by true is = found_at es r.entry (known.0 is)
    by false is = ap (option_map at) (none_found es)
