-- Where the whole link gives some bytes, the later one gives the same.
use Rattle.std.proofs.Common.{◌≡◌, ℕ, suc, ◌+◌, ◌≤◌, ◌^◌, Bool, true, false, ◌&&◌, List, [], ◌∷◌, ◌++◌, map, filter, length, inl, inr, ⊎_elim, refl, sym, ap, ◌∙◌, subst, arith}
use Rattle.std.specs.Prelude.{if◌then◌else◌, nat_lt, Option, Some, None, option_map, find, flat_map, bytes_eq, Result, Ok}
use Rattle.std.specs.List.{list_any}
use Rattle.std.proofs.lemmas.Bool.{and_from}
use Rattle.std.proofs.lemmas.Bool.Decides.{nat_tests}
use Rattle.std.proofs.lemmas.List.{length-append}
use Rattle.list_places.specs.Has.{Has, Apart}
use Rattle.list_places.proofs.Lists.{has_either, has_left, has_right, has_flat, flat_has, has_filter, has_any, any_has, has_map, map_has, distinct_only, apart_distinct}
use Rattle.name_rules.specs.object_file.wl_base.Choice.{first_some, given, unless, distinct, distinct_onto, ◌>>=◌}
use Rattle.name_rules.specs.object_file.wl_base.declared.fault.Fault.TheVariants.{TooManyNames, Unresolved}
use Rattle.name_rules.specs.object_file.linking_section.declared.group.Group.{Group}
use Rattle.name_rules.specs.object_file.declared.object.Object.{Object}
use Rattle.made_symbols.specs.declared.mode.Mode.TheVariants.{Plain}
use Rattle.name_rules.specs.Entries.{InputSymbol, name_of, same_entry, entries, group_winner, is_input}
use Rattle.name_rules.specs.Meanings.{is_nothing}
use Rattle.name_rules.specs.Cases.{clash_by, duplicate}
use Rattle.link_plan.specs.declared.plan.Plan.{Plan}
use Rattle.link_plan.specs.declared.plan.InputWord.{InputWord}
use Rattle.link_rules.specs.Program.{Program, Part, Ref, refs}
use Rattle.link_rules.specs.Marks.{all_symbols, refs_of, missing, is_open, demanded, exported, repeated_export, pic_fault, unresolved, uncalled, live, picked, targets, root_places}
use Rattle.link_rules.specs.LinkOf.{asked_names, all_names, too_many_names, exporting, marked, laid_out, link_program}
use Rattle.live_mark.specs.Live.{reached, is_among}
use Rattle.partial_rules.specs.Partial.{groups_in, group_for}
use Rattle.partial_rules.specs.Alike.{LiveMeant}
use Rattle.partial_laws.specs.Inputs.{Run, Objects, as_input, alone, later, whole_objects, run_objects, later_objects}
use Rattle.partial_laws.specs.Joining.{Joining, IsJoining, Kept}
use Rattle.partial_laws.specs.Joined.{linked_symbols}
use Rattle.partial_laws.specs.Standing.{joining}
use Rattle.partial_laws.specs.PartialThenLink.{with_inputs}
use Rattle.partial_laws.proofs.Instance.{all_from_has}
use Rattle.partial_laws.proofs.Same.{entry_itself, name_itself, name_equal}
use Rattle.partial_laws.proofs.Regions.{entry_linked}
use Rattle.partial_laws.proofs.Programs.{programs_are_of}
use Rattle.partial_laws.proofs.Stated.{is as is_joining, kept_names}
use Rattle.partial_parts_laws.specs.Linked.{Links, alone_program, whole_program, later_program}
use Rattle.partial_parts_laws.specs.Moves.{StandsInLinks}
use Rattle.partial_parts_laws.specs.AlikeLinks.{WordsStay, SameOutput}
use Rattle.partial_parts_laws.proofs.Parts.{objects_are, plan_is}
use Rattle.partial_parts_laws.proofs.Referred.{not_found}
use Rattle.partial_parts_laws.proofs.Linking.{plan_same, agree_once, agree_clash}
use Rattle.partial_parts_laws.proofs.Stubs.{part_meant}

-- ---- steps that may be refused

passes : {A B F : Type 0} (o : Option F) (a : A) (k : A → Result B F) (b : B) → (unless o a >>= k) ≡ Ok b → (o ≡ None) × (k a ≡ Ok b)
passes None a k b e = (refl, e)
passes (Some f) a k b e = absurd cc

goes_on : {A B F : Type 0} (o : Option F) (a : A) (k : A → Result B F) → o ≡ None → (unless o a >>= k) ≡ k a
goes_on None a k e = refl
goes_on (Some f) a k e = absurd cc

second_none : {A : Type 0} (a b : Option A) → first_some (a ∷ b ∷ []) ≡ None → b ≡ None
second_none None None e = refl
second_none None (Some y) e = absurd cc
second_none (Some x) b e = absurd cc

mapped_none : {A B : Type 0} (f : A → B) (o : Option A) → option_map f o ≡ None → o ≡ None
mapped_none f None e = refl
mapped_none f (Some x) e = absurd cc

to_false : (b : Bool) → (b ≡ true → ⊥) → b ≡ false
to_false true h = absurd (h refl)
to_false false h = refl

-- ---- fewer names

seen_stays : (seen ts : List (List ℕ)) (t : List ℕ) → Has seen t → Has (distinct_onto bytes_eq seen ts) t
seen_stays seen [] t has = has
seen_stays seen (x ∷ ts) t has = by_test (list_any (bytes_eq x) seen) (seen_stays seen ts t has) (seen_stays (seen ++ x ∷ []) ts t (has_left seen (x ∷ []) t has))
  where
    by_test : (b : Bool) → Has (distinct_onto bytes_eq seen ts) t → Has (distinct_onto bytes_eq (seen ++ x ∷ []) ts) t → Has (distinct_onto bytes_eq (if b then seen else seen ++ x ∷ []) ts) t
    by_test true stays more = stays
    by_test false stays more = more

listed : (seen ts : List (List ℕ)) (t : List ℕ) → Has ts t → Has (distinct_onto bytes_eq seen ts) t
listed seen [] t has = absurd has
listed seen (x ∷ ts) t (inr has) = listed (if list_any (bytes_eq x) seen then seen else seen ++ x ∷ []) ts t has
listed seen (x ∷ ts) t (inl it) = seen_stays (if list_any (bytes_eq x) seen then seen else seen ++ x ∷ []) ts t (by_test (list_any (bytes_eq x) seen) refl)
  where
    by_test : (b : Bool) → list_any (bytes_eq x) seen ≡ b → Has (if b then seen else seen ++ x ∷ []) t
    by_test true e = let r = has_any (bytes_eq x) seen e in subst (Has seen) (sym (name_equal x r.0 r.2) ∙ it) r.1
    by_test false e = has_right seen (x ∷ []) t (inl it)

-- a list around one of its elements
cut_at : {A : Type 0} (xs : List A) (x : A) → Has xs x → (a : List A) × (b : List A) × (xs ≡ a ++ x ∷ b)
cut_at [] x has = absurd has
cut_at (y ∷ ys) x (inl e) = ([], ys, ap (λ z. z ∷ ys) e)
cut_at (y ∷ ys) x (inr has) = let r = cut_at ys x has in (y ∷ r.0, r.1, ap (λ zs. y ∷ zs) r.2)

fewer : (xs ys : List (List ℕ)) → Apart bytes_eq xs → ((n : List ℕ) → Has xs n → Has ys n) → length xs ≤ length ys
fewer [] ys apart within = omega arith
fewer (x ∷ xs) ys apart within =
    let c = cut_at ys x (within x (inl refl)) in
    let rest : length xs ≤ length (c.0 ++ c.1) = fewer xs (c.0 ++ c.1) apart.1 (λ n has. other c.0 c.1 n (apart.0 n has) (subst (λ zs. Has zs n) c.2 (within n (inr has)))) in
    let long : length ys ≡ length c.0 + suc (length c.1) = ap (λ zs. length zs) c.2 ∙ length-append c.0 (x ∷ c.1) in
    let short : length (c.0 ++ c.1) ≡ length c.0 + length c.1 = length-append c.0 c.1 in
    omega (arith, rest, long, short)
  where
    other : (a b : List (List ℕ)) (n : List ℕ) → (bytes_eq x n ≡ true → ⊥) → Has (a ++ x ∷ b) n → Has (a ++ b) n
    other a b n differs has =
        ⊎_elim (λ h. has_left a b n h) (λ r. ⊎_elim (λ (e : x ≡ n). absurd (differs (ap (bytes_eq x) (sym e) ∙ name_itself x))) (λ h. has_right a b n h) r) (has_either a (x ∷ b) n has)

name_turned : (x y : List ℕ) → bytes_eq x y ≡ true → bytes_eq y x ≡ true
name_turned x y e = ap (bytes_eq y) (name_equal x y e) ∙ name_itself y

fewer_names : (xs ys : List (List ℕ)) → ((n : List ℕ) → Has xs n → Has ys n) → length (distinct bytes_eq xs) ≤ length (distinct bytes_eq ys)
fewer_names xs ys within =
    fewer (distinct bytes_eq xs) (distinct bytes_eq ys) (apart_distinct bytes_eq name_turned [] xs tt)
    (λ n has. listed [] ys n (within n (⊎_elim (λ none. absurd none) (λ h. h) (distinct_only bytes_eq [] xs n has))))

picked_has : (marked : List ℕ) (at : ℕ) (xs : List Part) (x : Part) → Has (picked marked at xs) x → Has xs x
picked_has marked at [] x has = has
picked_has marked at (y ∷ ys) x has = by_test (is_among marked at) has (picked_has marked (at + 1) ys x)
  where
    by_test : (b : Bool) → Has (if b then y ∷ picked marked (at + 1) ys else picked marked (at + 1) ys) x → (Has (picked marked (at + 1) ys) x → Has ys x) → Has (y ∷ ys) x
    by_test true (inl e) rest = inl e
    by_test true (inr h) rest = inr (rest h)
    by_test false h rest = inr (rest h)

module _ (run : Run) (os : Objects) (ls : Links) (s : StandsInLinks run os ls) (w : WordsStay ls) where
  abbrev p : Program
  p = alone_program run os ls

  abbrev P : Program
  P = whole_program run os ls

  abbrev Q : Program
  Q = later_program run os ls

  abbrev W : List Object
  W = whole_objects os

  abbrev L : List Object
  L = later_objects run os

  abbrev RO : List Object
  RO = run_objects run os

  abbrev es : List InputSymbol
  es = entries Plain W

  abbrev j : Joining
  j = joining run os p

  abbrev Known : InputSymbol → Type 0
  Known e = Has (linked_symbols W) e

  abbrev J : IsJoining j Known es
  J = is_joining run os p s.names

  -- ---- something is meant by all that live parts refer to

  live_has : (x : Part) → Has (live P (exported Plain P)) x → Has P.parts x
  unfolding live
  live_has x has = picked_has (reached (targets P) (root_places P (exported Plain P))) 0 P.parts x has

  none_open : (parts : List Part) → unresolved P parts ≡ None → find (is_open (refs_of parts)) (all_symbols P) ≡ None
  unfolding unresolved
  none_open parts e =
      mapped_none (λ (x : InputSymbol). Unresolved (name_of x) x.input) (find (is_open (refs_of parts)) (all_symbols P))
      (second_none (first_some (map (missing P) (demanded P.plan))) (option_map (λ (x : InputSymbol). Unresolved (name_of x) x.input) (find (is_open (refs_of parts)) (all_symbols P))) e)

  all_meant : unresolved P (live P (exported Plain P)) ≡ None → LiveMeant P
  all_meant e =
      all_from_has (λ (ref : Ref). is_nothing ref.meaning ≡ false) (refs_of (live P (exported Plain P))) (λ ref has.
      let f = has_flat refs (live P (exported Plain P)) ref has in
      let m = part_meant run os ls s w f.0 (live_has f.0 f.1) ref f.2 in
      to_false (is_nothing ref.meaning) (λ open_.
      not_found (is_open (refs_of (live P (exported Plain P)))) (all_symbols P) (none_open (live P (exported Plain P)) e) ref.entry
      (subst (λ xs. Has xs ref.entry) (sym (programs_are_of ls.whole.plan ls.whole.files ls.whole.all W).symbols_are) m.1)
      (any_has (λ (r : Ref). is_nothing r.meaning && same_entry r.entry ref.entry) (refs_of (live P (exported Plain P))) ref has (and_from (is_nothing ref.meaning) (same_entry ref.entry ref.entry) open_ (entry_itself ref.entry)))))

  live_meant : (bytes : List ℕ) → exporting Plain P (exported Plain P) ≡ Ok bytes → LiveMeant P
  unfolding marked pic_fault
  live_meant bytes e =
      let a = passes (repeated_export Plain P (exported Plain P)) (exported Plain P) (λ exports. marked Plain P exports) bytes e in
      let lp : List Part = live P (exported Plain P) in
      all_meant (passes (unresolved P lp) lp (λ parts. unless (uncalled Plain P parts) parts >>= λ parts. laid_out Plain P (exported Plain P) parts) bytes a.1).0

  -- ---- names

  entry_names : (n : List ℕ) → Has (map name_of Q.entries) n → Has (map name_of P.entries) n
  entry_names n has =
      let m = has_map name_of Q.entries n has in
      let q = has_map j.move (filter j.keep es) m.0 (subst (λ xs. Has xs m.0) ((programs_are_of ls.after.plan ls.after.files ls.after.all L).entries_are ∙ (kept_names run os p s.names).symbols.0) m.1) in
      let f = has_filter j.keep es q.0 q.1 in
      let kept : Kept j Known q.0 = record { symbol = entry_linked W q.0 f.0; kept = f.1 } in
      subst (Has (map name_of P.entries)) (sym (J.name q.0 kept) ∙ (ap name_of q.2 ∙ m.2))
      (map_has name_of P.entries q.0 (subst (λ xs. Has xs q.0) (sym (programs_are_of ls.whole.plan ls.whole.files ls.whole.all W).entries_are) f.0))

  name_of_group : (o : Object) → Has W o → (g : Group) → Has o.groups g → Has (flat_map (λ (x : Object). map (λ (h : Group). h.name) x.groups) W) g.name
  name_of_group o ho g hg = flat_has (λ (x : Object). map (λ (h : Group). h.name) x.groups) W o g.name ho (map_has (λ (h : Group). h.name) o.groups g hg)

  joined_group : (g : Group) → Has os.joined.groups g → Has (flat_map (λ (x : Object). map (λ (h : Group). h.name) x.groups) W) g.name
  joined_group g hg =
      let f = has_flat (λ o. groups_in p o) RO g (subst (λ xs. Has xs g) (s.read.groups ∙ ap (flat_map (λ o. groups_in p o)) (objects_are ls.run_alone RO)) hg) in
      let m = has_map (λ (o : Object). as_input (alone run o.input) o) os.middle f.0 f.1 in
      let q = has_map (λ h. group_for p f.0 h) (filter (λ (h : Group). is_input f.0.input (group_winner p.objects h.name)) f.0.groups) g f.2 in
      let t = has_filter (λ (h : Group). is_input f.0.input (group_winner p.objects h.name)) f.0.groups q.0 q.1 in
      subst (Has (flat_map (λ (x : Object). map (λ (h : Group). h.name) x.groups) W)) (ap (λ (h : Group). h.name) q.2)
      (name_of_group m.0 (has_right os.before (os.middle ++ os.behind) m.0 (has_left os.middle os.behind m.0 m.1)) q.0 (subst (λ (o : Object). Has o.groups q.0) (sym m.2) t.0))

  later_groups : (n : List ℕ) → Has (flat_map (λ (x : Object). map (λ (h : Group). h.name) x.groups) L) n → Has (flat_map (λ (x : Object). map (λ (h : Group). h.name) x.groups) W) n
  later_groups n has =
      let f = has_flat (λ (x : Object). map (λ (h : Group). h.name) x.groups) L n has in
      let g = has_map (λ (h : Group). h.name) f.0.groups n f.2 in
      subst (Has (flat_map (λ (x : Object). map (λ (h : Group). h.name) x.groups) W)) g.2
      (⊎_elim (λ before. name_of_group f.0 (has_left os.before (os.middle ++ os.behind) f.0 before) g.0 g.1)
      (λ rest. ⊎_elim (λ (e : os.joined ≡ f.0). joined_group g.0 (subst (λ (o : Object). Has o.groups g.0) (sym e) g.1))
      (λ behind. let m = has_map (λ (o : Object). as_input (later run o.input) o) os.behind f.0 behind in
      name_of_group m.0 (has_right os.before (os.middle ++ os.behind) m.0 (has_right os.middle os.behind m.0 m.1)) g.0 (subst (λ (o : Object). Has o.groups g.0) (sym m.2) g.1)) rest)
      (has_either os.before (os.joined ∷ map (λ (o : Object). as_input (later run o.input) o) os.behind) f.0 f.1))

  asked_same : (plan : Plan) (inputs : List InputWord) → asked_names (with_inputs plan inputs) ≡ asked_names plan
  unfolding asked_names
  asked_same plan inputs = refl

  abbrev groups_of : Program → List (List ℕ)
  groups_of r = flat_map (λ (o : Object). map (λ (g : Group). g.name) o.groups) r.objects

  names_within : (n : List ℕ) → Has (all_names Q) n → Has (all_names P) n
  names_within n has =
      let asked : asked_names Q.plan ≡ asked_names P.plan = plan_same run os ls s w (λ plan. asked_names plan) asked_same in
      let if_there : Q.plan.exports_if ≡ P.plan.exports_if = plan_same run os ls s w (λ plan. plan.exports_if) (λ plan inputs. refl) in
      ⊎_elim (λ front. ⊎_elim (λ named. ⊎_elim
      (λ own. has_left (map name_of P.entries ++ groups_of P ++ asked_names P.plan) P.plan.exports_if n (has_left (map name_of P.entries ++ groups_of P) (asked_names P.plan) n (has_left (map name_of P.entries) (groups_of P) n (entry_names n own))))
      (λ grouped. has_left (map name_of P.entries ++ groups_of P ++ asked_names P.plan) P.plan.exports_if n (has_left (map name_of P.entries ++ groups_of P) (asked_names P.plan) n (has_right (map name_of P.entries) (groups_of P) n
      (subst (λ (xs : List Object). Has (flat_map (λ (o : Object). map (λ (g : Group). g.name) o.groups) xs) n) (sym (objects_are ls.whole W)) (later_groups n
      (subst (λ (xs : List Object). Has (flat_map (λ (o : Object). map (λ (g : Group). g.name) o.groups) xs) n) (objects_are ls.after L) grouped))))))
      (has_either (map name_of Q.entries) (groups_of Q) n named))
      (λ words. has_left (map name_of P.entries ++ groups_of P ++ asked_names P.plan) P.plan.exports_if n (has_right (map name_of P.entries ++ groups_of P) (asked_names P.plan) n (subst (λ xs. Has xs n) asked words)))
      (has_either (map name_of Q.entries ++ groups_of Q) (asked_names Q.plan) n front))
      (λ last. has_right (map name_of P.entries ++ groups_of P ++ asked_names P.plan) P.plan.exports_if n (subst (λ xs. Has xs n) if_there last))
      (has_either (map name_of Q.entries ++ groups_of Q ++ asked_names Q.plan) Q.plan.exports_if n has)

  less_so : (n m k : ℕ) → n ≤ m → nat_lt k m ≡ false → nat_lt k n ≡ false
  less_so n m k le is = grind (arith, nat_tests, le, is)

  few_names : too_many_names P ≡ None → too_many_names Q ≡ None
  unfolding too_many_names
  few_names none = by_test (nat_lt (2 ^ 24) (length (distinct bytes_eq (all_names P)))) refl none
    where
      le : length (distinct bytes_eq (all_names Q)) ≤ length (distinct bytes_eq (all_names P))
      le = fewer_names (all_names Q) (all_names P) names_within

      by_test : (b : Bool) → nat_lt (2 ^ 24) (length (distinct bytes_eq (all_names P))) ≡ b → given b TooManyNames ≡ None → given (nat_lt (2 ^ 24) (length (distinct bytes_eq (all_names Q)))) TooManyNames ≡ None
      by_test true is e = absurd cc
      by_test false is e = ap (λ (b : Bool). given b TooManyNames) (less_so (length (distinct bytes_eq (all_names Q))) (length (distinct bytes_eq (all_names P))) (2 ^ 24) le is)

  -- ---- the link

  same_link : SameOutput run os ls → (bytes : List ℕ) → link_program Plain P ≡ Ok bytes → link_program Plain Q ≡ Ok bytes
  unfolding link_program
  same_link output bytes e =
      let a = passes (too_many_names P) P (λ r. unless (clash_by r.plan.loose_calls r.entries) r >>= λ r. unless (duplicate r.entries) r >>= λ r. exporting Plain r (exported Plain r)) bytes e in
      let b = passes (clash_by P.plan.loose_calls P.entries) P (λ r. unless (duplicate r.entries) r >>= λ r. exporting Plain r (exported Plain r)) bytes a.1 in
      let c = passes (duplicate P.entries) P (λ r. exporting Plain r (exported Plain r)) bytes b.1 in
      goes_on (too_many_names Q) Q (λ r. unless (clash_by r.plan.loose_calls r.entries) r >>= λ r. unless (duplicate r.entries) r >>= λ r. exporting Plain r (exported Plain r)) (few_names a.0)
      ∙ (goes_on (clash_by Q.plan.loose_calls Q.entries) Q (λ r. unless (duplicate r.entries) r >>= λ r. exporting Plain r (exported Plain r))
      (ap (λ (x : Bool). clash_by x Q.entries) (ap (λ (plan : Plan). plan.loose_calls) (plan_is ls.after L) ∙ s.strict_after) ∙ agree_clash run os ls s w)
      ∙ (goes_on (duplicate Q.entries) Q (λ r. exporting Plain r (exported Plain r)) (agree_once run os ls s w c.0)
      ∙ output (live_meant bytes c.1) bytes c.1))

pub links_are_same : (run : Run) (os : Objects) (ls : Links) → StandsInLinks run os ls → WordsStay ls → SameOutput run os ls → (bytes : List ℕ)
    → link_program Plain (whole_program run os ls) ≡ Ok bytes → link_program Plain (later_program run os ls) ≡ Ok bytes
links_are_same run os ls s w output bytes linked = same_link run os ls s w output bytes linked
