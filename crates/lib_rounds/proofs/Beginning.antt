-- What is loaded at once, step by step.
use Rattle.std.proofs.Common.{◌≡◌, ℕ, zero, suc, ◌+◌, ◌-◌, ◌<◌, ◌≤◌, Bool, true, false, not, ◌&&◌, ◌||◌, cond, List, [], ◌∷◌, ◌++◌, length, map, take, drop, Option, Some, None, Result, Ok, set, refl, sym, ap, subst, ◌∙◌, arith, inl, inr, append_assoc, get_or}
use Rattle.std.specs.Prelude.{Contains, slice_get, slice_index_or, option_map, sum_by, replicate, ◌==◌, MatchBool}
use Rattle.std.specs.List.{list_any}
use Rattle.std.specs.Option.{IsSome}
use Rattle.std.specs.Map.{lookup}
use Rattle.std.specs.Str.{bytes_eq}
use Rattle.std.proofs.lemmas.Bool.{cases_Bool, ne_eqb, eq-eqb}
use Rattle.std.proofs.lemmas.List.{drop_more, take_all, take_more, length-map}
use Rattle.std.proofs.lemmas.List.Elements.{Contains-append_right}
use Rattle.std.proofs.lemmas.Option.{slice_get-map, slice_get_within}
use Rattle.std.proofs.lemmas.List.Folds.{list_any_more}
use Rattle.std.proofs.lemmas.List.Sums.{sum_by-cons}
use Rattle.object_file.specs.wl_base.declared.fault.Fault.{Fault}
use Rattle.object_file.specs.wl_base.Choice.{first_some, has_name}
use Rattle.made_symbols.specs.declared.mode.Mode.{Mode}
use Rattle.made_symbols.specs.declared.roles.Role.TheVariants.{CallCtors}
use Rattle.made_symbols.specs.Made.{MadeSymbol, made, made_at, made_function}
use Rattle.object_file.specs.declared.object.Object.{Object}
use Rattle.round_rules.specs.declared.given.GivenObject.{GivenObject}
use Rattle.round_rules.specs.declared.given.LibraryFile.{LibraryFile}
use Rattle.round_rules.specs.Rounds.{Candidate, is_defined, defined_names}
use Rattle.round_rules.specs.RoundLaws.{Rise}
use Rattle.round_rules.specs.Inputs.{IsGivenAs}
use Rattle.lib_rounds.specs.Offers.{lazy_offer, lazy_offer_in}
use Rattle.lib_rounds.specs.Held.{Held, absent, waiting, loaded, holding, held_as, held_by, is_loaded_slot, loaded_objects}
use Rattle.lib_rounds.specs.State.{World, Defines, Enters}
use Rattle.lib_rounds.specs.Begin.{IsPut, KnowsGiven, PutsAll, starts, held_of}
use Rattle.lib_rounds.proofs.Kept.{contains_head, contains_tail, pairs_later}
use Rattle.lib_rounds.proofs.Rising.{below, numbers_rise, place_of}
use Rattle.lib_rounds.proofs.Slots.{map_but_one}
use Rattle.lib_rounds.proofs.Adding.{defines_more}

-- ---- names that the linker makes

two_ways : (a b : Bool) (k : ℕ) → (let x : Option ℕ = cond b (Some k) (cond a (Some k) None) in x ≡ cond (a || b) (Some k) None)
two_ways true true k = refl
two_ways true false k = refl
two_ways false true k = refl
two_ways false false k = refl

pub made_more : (mode : Mode) (k : ℕ) (n name : List ℕ) (before after : Option ℕ) → k < length (made mode) → name ≡ (made_at mode k).name
    → before ≡ cond (list_any (λ m. bytes_eq n m.name) (take k (made mode))) (Some 0) None → after ≡ cond (bytes_eq n name) (Some 0) before
    → after ≡ cond (list_any (λ m. bytes_eq n m.name) (take (k + 1) (made mode))) (Some 0) None
made_more mode k n name before after lt is was now =
    now ∙ ap (λ (x : Option ℕ). cond (bytes_eq n name) (Some 0) x) was
    ∙ two_ways (list_any (λ m. bytes_eq n m.name) (take k (made mode))) (bytes_eq n name) 0
    ∙ ap (λ (x : List ℕ). cond (list_any (λ m. bytes_eq n m.name) (take k (made mode)) || bytes_eq n x) (Some 0) None) is
    ∙ ap (λ (b : Bool). cond b (Some 0) None) (sym (list_any_more (λ (m : MadeSymbol). bytes_eq n m.name) (made mode) k (made_function CallCtors []) lt))

pub made_all : (mode : Mode) (k : ℕ) (n : List ℕ) (now : Option ℕ) → length (made mode) ≤ k → now ≡ cond (list_any (λ m. bytes_eq n m.name)
    (take k (made mode))) (Some 0) None
    → now ≡ cond (list_any (λ m. bytes_eq n m.name) (made mode)) (Some 0) None
made_all mode k n now le is = is ∙ ap (λ (ms : List MadeSymbol). cond (list_any (λ m. bytes_eq n m.name) ms) (Some 0) None) (take_all k
    (made mode) le)

-- ---- how many inputs there are

abbrev pub member_count : LibraryFile → ℕ
member_count l = length l.library.members

pub count_more : (ls : List LibraryFile) (at : ℕ) (l : LibraryFile) → at < length ls → l ≡ get_or ls at l → sum_by member_count
    (drop at ls) ≡ member_count l + sum_by member_count (drop (at + 1) ls)
count_more ls at l lt is =
    ap (sum_by member_count) (drop_more ls at l lt ∙ ap (λ (x : LibraryFile). x ∷ drop (at + 1) ls) (sym is)) ∙ sum_by-cons member_count l (drop
    (at + 1) ls)

-- ---- objects of the words

-- nothing is put yet
pub put_none : (w : World) (slots : List Held) (lazies definers : List (List ℕ × ℕ)) → slots ≡ replicate (length w.all) absent → ((n : List ℕ)
    → lookup (bytes_eq n) lazies ≡ None) → Defines w.mode slots definers
    → PutsAll w [] slots lazies definers
put_none w slots lazies definers are none d = record { slots_are = are ∙ absents w.all; lazy = none; defines = d }
  where
    absents : (cs : List Candidate) → replicate (length cs) absent ≡ map (held_of []) cs
    absents [] = refl
    absents (c ∷ cs) = ap (λ (hs : List Held). absent ∷ hs) (absents cs)

-- its input isn't among later ones
later_apart : (left : List GivenObject) (g : GivenObject) (done : List GivenObject) → Rise (map (λ g. g.object.input) (left ++ g ∷ done)) → list_any
    (λ h. h.object.input == g.object.input) done ≡ false
later_apart [] g done rise = apart_from done (λ h m. below (λ (h : GivenObject). h.object.input) g done rise h m)
  where
    apart_from : (hs : List GivenObject) → ((h : GivenObject) → Contains hs h → g.object.input < h.object.input) → list_any
        (λ h. h.object.input == g.object.input) hs ≡ false
    apart_from [] above = refl
    apart_from (h ∷ hs) above =
        let lt = above h (contains_head h hs) in
        rw (ne_eqb h.object.input g.object.input (λ e. omega (arith, lt, e))) (apart_from hs (λ k m. above k (contains_tail h hs k m)))
later_apart (x ∷ left) g done rise = later_apart left g done (pairs_later (λ (a b : ℕ). a < b) x.object.input (map (λ g. g.object.input)
    (left ++ g ∷ done)) rise)

-- the loaded objects, where an object that isn't loaded waits
waits : (slots : List Held) (i : ℕ) (h : Held) (o : Object) → slice_get slots i ≡ Some h → is_loaded_slot h ≡ false → loaded_objects (set slots i
    (waiting o)) ≡ loaded_objects slots
waits [] i h o e n = absurd cc
waits (loaded p ∷ slots) zero h o e n = let one : loaded p ≡ h = cc in let t : is_loaded_slot h ≡ true = ap is_loaded_slot (sym one) in absurd cc
waits (absent ∷ slots) zero h o e n = refl
waits (waiting p ∷ slots) zero h o e n = refl
waits (loaded p ∷ slots) (suc i) h o e n = ap (λ (os : List Object). p ∷ os) (waits slots i h o e n)
waits (absent ∷ slots) (suc i) h o e n = waits slots i h o e n
waits (waiting p ∷ slots) (suc i) h o e n = waits slots i h o e n

still_loaded : (slots : List Held) (i k : ℕ) (h g : Held) → slice_get slots i ≡ Some h → is_loaded_slot h ≡ false → is_loaded_slot
    (get_or slots k absent) ≡ true → is_loaded_slot (get_or (set slots i g) k absent) ≡ true
still_loaded [] i k h g e n l = absurd cc
still_loaded (x ∷ slots) zero zero h g e n l = let one : x ≡ h = cc in let t : is_loaded_slot h ≡ true = subst (λ
    (y : Held). is_loaded_slot y ≡ true) one l in absurd cc
still_loaded (x ∷ slots) zero (suc k) h g e n l = l
still_loaded (x ∷ slots) (suc i) zero h g e n l = l
still_loaded (x ∷ slots) (suc i) (suc k) h g e n l = still_loaded slots i k h g e n l

defines_wait : (mode : Mode) (slots : List Held) (definers : List (List ℕ × ℕ)) (i : ℕ) (h : Held) (o : Object) → Defines mode slots definers
    → slice_get slots i ≡ Some h → is_loaded_slot h ≡ false
    → Defines mode (set slots i (waiting o)) definers
defines_wait mode slots definers i h o d at n = record {
  defined = λ name. d.defined name ∙ ap (λ (os : List Object). is_defined mode os name) (sym (waits slots i h o at n));
  by_loaded = λ name input e positive. still_loaded slots i (input - 1) h (waiting o) at n (d.by_loaded name input e positive);
}

-- what an object's slot is
put_slot : (need m lazy : Bool) (r : Result Object Fault) (o : Object) → m ≡ false → need ≡ lazy → r ≡ Ok o → held_as
    (not need && not m) m r ≡ holding (not lazy) o
put_slot need m true r o e f g = rw (e, f, g) refl
put_slot need m false r o e f g = rw (e, f, g) refl

offer_lazy : (n : List ℕ) (g : GivenObject) (rest : Option ℕ) (others : List (Option ℕ)) → g.lazy ≡ true → rest ≡ first_some others → cond (has_name
    (defined_names g.object) n) (Some g.object.input) rest ≡ first_some (lazy_offer_in n g ∷ others)
offer_lazy n g rest others e is = elim (cases_Bool (has_name (defined_names g.object) n)) [ inl has ↦ rw (e, has) refl | inr none ↦ rw (e, none) is ]

offer_plain : (n : List ℕ) (g : GivenObject) (rest : Option ℕ) (others : List (Option ℕ)) → g.lazy ≡ false → rest ≡ first_some others
    → rest ≡ first_some (lazy_offer_in n g ∷ others)
offer_plain n g rest others e is = rw e is

module _ (w : World) (given : List GivenObject) (knows : KnowsGiven w.all given) (left : List GivenObject) (g : GivenObject) (done : List GivenObject)
    (parts : left ++ g ∷ done ≡ given)
    (slots after : List Held) (lazies lazies_now definers definers_now : List (List ℕ × ℕ)) (before : PutsAll w done slots lazies definers)
    (put : IsPut g slots after lazies lazies_now definers definers_now) where
  its_candidate : (c : Candidate) × (slice_get w.all (g.object.input - 1) ≡ Some c) × IsGivenAs c g
  its_candidate =
      let p = place_of given g (subst (λ (gs : List GivenObject). Contains gs g) parts (Contains-append_right left (g ∷ done) g (contains_head g done))) in
      knows.at p.0 g p.1

  fresh : list_any (λ h. h.object.input == its_candidate.0.input) done ≡ false
  fresh =
      ap (λ (k : ℕ). list_any (λ h. h.object.input == k) done) its_candidate.2.input
      ∙ later_apart left g done (subst (λ (gs : List GivenObject). Rise (map (λ g. g.object.input) gs)) (sym parts) knows.rise)

  slot_was : slice_get slots (g.object.input - 1) ≡ Some absent
  slot_was =
      ap (λ (hs : List Held). slice_get hs (g.object.input - 1)) before.slots_are ∙ slice_get-map (held_of done) w.all (g.object.input - 1)
      ∙ ap (option_map (held_of done)) its_candidate.1 ∙ ap (λ (b : Bool). Some (cond b (held_by starts its_candidate.0) absent)) fresh

  slots_now : after ≡ map (held_of (g ∷ done)) w.all
  slots_now =
      let c = its_candidate.0 in
      let same : (g.object.input == c.input) ≡ true = eq-eqb g.object.input c.input (sym its_candidate.2.input) in
      let here : held_of (g ∷ done) c ≡ holding (not g.lazy) g.object
      = ap (λ (b : Bool). cond (b || list_any (λ h. h.object.input == c.input) done) (held_by starts c) absent) same
      ∙ put_slot c.by_need c.is_member g.lazy c.object g.object its_candidate.2.is_member its_candidate.2.by_need its_candidate.2.object in
      put.slot ∙ ap (λ (hs : List Held). set hs (g.object.input - 1) (holding (not g.lazy) g.object)) before.slots_are
      ∙ ap (λ (h : Held). set (map (held_of done) w.all) (g.object.input - 1) h) (sym here)
      ∙ sym (map_but_one (held_of done) (held_of (g ∷ done)) w.all (g.object.input - 1) c (numbers_rise w.all knows.numbered) its_candidate.1
      (λ d m other. ap (λ (b : Bool). cond (b || list_any (λ h. h.object.input == d.input) done) (held_by starts d) absent)
      (ne_eqb g.object.input d.input (λ e. other (sym e ∙ sym its_candidate.2.input)))))

  by_kind : (b : Bool) → g.lazy ≡ b → MatchBool b (Enters g.object g.object.input lazies lazies_now × (definers_now ≡ definers))
      (Enters g.object g.object.input definers definers_now × (lazies_now ≡ lazies))
      → ((n : List ℕ) → lookup (bytes_eq n) lazies_now ≡ lazy_offer (g ∷ done) n) × Defines w.mode after definers_now
  by_kind true e names = (
    λ n. names.0 n ∙ offer_lazy n g (lookup (bytes_eq n) lazies) (map (lazy_offer_in n) done) e (before.lazy n),
    subst (λ (hs : List Held). Defines w.mode hs definers_now) (sym (put.slot ∙ ap (λ (b : Bool). set slots (g.object.input - 1) (holding
        (not b) g.object)) e))
        (subst (λ (ds : List (List ℕ × ℕ)). Defines w.mode (set slots (g.object.input - 1) (waiting g.object)) ds) (sym names.1)
        (defines_wait w.mode slots definers (g.object.input - 1) absent g.object before.defines slot_was refl)),
  )
  by_kind false e names = (
    λ n. ap (λ (ds : List (List ℕ × ℕ)). lookup (bytes_eq n) ds) names.1 ∙ offer_plain n g (lookup (bytes_eq n) lazies) (map
        (lazy_offer_in n) done) e (before.lazy n),
    defines_more w.mode slots after definers definers_now g.object.input absent g.object before.defines slot_was refl (put.slot ∙ ap (λ
        (b : Bool). set slots (g.object.input - 1) (holding (not b) g.object)) e) names.0,
  )

  -- one object more
  pub put_more : PutsAll w (g ∷ done) after lazies_now definers_now
  put_more = let r = by_kind g.lazy refl put.names in record { slots_are = slots_now; lazy = r.0; defines = r.1 }

-- its slot is there
pub put_within : (w : World) (given : List GivenObject) → KnowsGiven w.all given → (left : List GivenObject) (g : GivenObject) (done : List GivenObject)
    → left ++ g ∷ done ≡ given → (slots : List Held) → slots ≡ map (held_of done) w.all
    → (0 < g.object.input) × (g.object.input ≤ length slots)
put_within w given knows left g done parts slots are =
    let p = place_of given g (subst (λ (gs : List GivenObject). Contains gs g) parts (Contains-append_right left (g ∷ done) g (contains_head g done))) in
    let c = knows.at p.0 g p.1 in
    let inside = slice_get_within w.all (g.object.input - 1) c.0 c.1 in
    let n = knows.numbered (g.object.input - 1) c.0 c.1 in
    let i = c.2.input in
    let long = ap (λ (hs : List Held). length hs) are ∙ length-map w.all (held_of done) in
    omega (arith, inside, n, i, long)

-- what is popped stood at the end
pub popped : {X : Type 0} (old new : List X) (r : Option X) (x : X) → new ≡ take (length old - 1) old → ((d : X) → 0 < length old → r ≡ Some
    (slice_index_or old (length old - 1) d)) → (IsSome r → 0 < length old) → r ≡ Some x → old ≡ new ++ x ∷ []
popped {X} old new r x rest value some e =
    let long : 0 < length old = some (subst (λ (o : Option X). IsSome o) (sym e) refl) in
    let last : get_or old (length old - 1) x ≡ x = some_same (get_or old (length old - 1) x) x (sym (value x long) ∙ e) in
    sym (take_all (length old - 1 + 1) old (omega (arith, long))) ∙ take_more old (length old - 1) x (omega (arith, long))
    ∙ ap (λ (xs : List X). xs ++ get_or old (length old - 1) x ∷ []) (sym rest) ∙ ap (λ (y : X). new ++ y ∷ []) last
  where
    some_same : (a b : X) → (let o : Option X = Some a in o ≡ Some b) → a ≡ b
    some_same a b e = cc

pub behind : {X : Type 0} (old new : List X) (x : X) (done whole : List X) → old ≡ new ++ x ∷ [] → old ++ done ≡ whole → new ++ x ∷ done ≡ whole
behind {X} old new x done whole e parts = sym (append_assoc new (x ∷ []) done) ∙ ap (λ (xs : List X). xs ++ done) (sym e) ∙ parts
