-- What a link that loads objects tells, and that rounds keep what is loaded.
use Rattle.std.proofs.Common.{◌≡◌, ℕ, zero, suc, ◌+◌, ◌-◌, ◌<◌, ◌^◌, Bool, true, false, not, ◌==◌, List, [], ◌∷◌, ◌++◌, filter, map, length, refl, sym, ap, subst, ◌∙◌, arith}
use Rattle.std.specs.Prelude.{Option, Some, None, filter_map, Result, Ok, Err, nat_le}
use Rattle.std.proofs.lemmas.Bool.{or_left, eq-eqb}
use Rattle.std.proofs.lemmas.Bool.Decides.{nat_tests}
use Rattle.std.proofs.lemmas.List.Folds.{list_any-append}
use Rattle.list_places.specs.Has.{Has}
use Rattle.list_places.proofs.Lists.{has_filter, filter_has, map_has, has_pick, any_has, some_is}
use Rattle.name_rules.specs.object_file.wl_base.Choice.{given, unless, ◌>>=◌}
use Rattle.name_rules.specs.object_file.wl_base.declared.fault.Fault.{Fault}
use Rattle.name_rules.specs.object_file.wl_base.declared.fault.Fault.TheVariants.{TooManyInputs}
use Rattle.name_rules.specs.object_file.declared.object.Object.{Object}
use Rattle.made_symbols.specs.declared.mode.Mode.TheVariants.{Plain}
use Rattle.round_rules.specs.Rounds.{Candidate, Added, object_in, is_loaded, objects_of, always_read_fault, at_once, added_with, adds_any, added_fault, inputs_of, go_on, next_adds, rounds, loaded_inputs, wanted_names, load}
use Rattle.link_plan.specs.declared.plan.Plan.{Plan}
use Rattle.link_rules.specs.Candidates.{too_much_input, too_many_inputs, words_for, candidates_from, candidates_of}
use Rattle.link_rules.specs.LinkOf.{the_readers}
use Rattle.partial_loading_laws.specs.Loads.{AreReadOf}
use Rattle.partial_loading_laws.proofs.Names.{guard, ok_is, bind_ok, first_of}
use Rattle.partial_loading_laws.proofs.Rounds.{filter_every, filter_nothing}
use Rattle.partial_loading_laws.proofs.Candidates.{onto, behind, from_none, from_behind}

-- ---- what a link that loads tells

pub unless_ok : {A F : Type 0} (t : Option F) (x y : A) → unless t x ≡ Ok y → (t ≡ None) × (x ≡ y)
unless_ok None x y e = (refl, ok_is x y _ refl e)
unless_ok (Some f) x y e = absurd (grind arith)

pub given_none : {A : Type 0} (b : Bool) (x : A) → given b x ≡ None → b ≡ false
given_none true x e = absurd cc
given_none false x e = refl

pub record Told (plan : Plan) (files : List (List ℕ)) (all : List Candidate) : Type 0 where
  pub input : too_much_input files ≡ None
  pub are : behind 0 0 plan.inputs files ≡ Ok all
  pub few : length all < 2 ^ 20

pub candidates_told : (plan : Plan) (files : List (List ℕ)) (all : List Candidate) → plan.make_case ≡ None → candidates_of the_readers plan files ≡ Ok all → Told plan files all
unfolding candidates_of
candidates_told plan files all no_case e =
    let a = guard (too_much_input files) (words_for plan.make_case plan.inputs files) _ all e in
    let b = bind_ok (candidates_from the_readers 0 [] (words_for plan.make_case plan.inputs files) files) _ all a.1 in
    let d = unless_ok (too_many_inputs b.0) b.0 all b.2 in
    let low = given_none (nat_le (2 ^ 20) (length b.0)) _ d.0 in
    record {
      input = a.0;
      are = from_none (behind 0 0 plan.inputs files) all (sym (from_behind 0 [] plan.inputs files) ∙ (ap (λ ws. candidates_from the_readers 0 [] (words_for ws plan.inputs files) files) (sym no_case) ∙ (b.1 ∙ ap (λ cs. Ok cs) d.1)));
      few = subst (λ cs. length cs < 2 ^ 20) d.1 (grind (arith, nat_tests, low));
    }

low_test : (n : ℕ) → n < 2 ^ 20 → nat_le (2 ^ 20) n ≡ false
low_test n low = grind (arith, nat_tests, low)

pub candidates_from_told : (plan : Plan) (files : List (List ℕ)) (all : List Candidate) → plan.make_case ≡ None → too_much_input files ≡ None → length all < 2 ^ 20 → behind 0 0 plan.inputs files ≡ Ok all
    → candidates_of the_readers plan files ≡ Ok all
unfolding candidates_of
candidates_from_told plan files all no_case short few are =
    ap (λ t. unless t (words_for plan.make_case plan.inputs files) >>= λ words. candidates_from the_readers 0 [] words files >>= λ all. unless (too_many_inputs all) all) short
    ∙ (ap (λ ws. candidates_from the_readers 0 [] (words_for ws plan.inputs files) files >>= λ all. unless (too_many_inputs all) all) no_case
    ∙ (ap (λ r. r >>= λ all. unless (too_many_inputs all) all) (from_behind 0 [] plan.inputs files ∙ ap (onto []) are)
    ∙ ap (λ b. unless (given b (TooManyInputs (length all))) all) (low_test (length all) few)))

pub record LoadTold (asked : List (List ℕ)) (all : List Candidate) (objects : List Object) : Type 0 where
  pub last : List ℕ
  pub read : always_read_fault all ≡ None
  pub ends : rounds Plain asked all (length all + 1) (at_once all) ≡ Ok last
  pub are : objects ≡ objects_of all last

pub load_told : (asked : List (List ℕ)) (all : List Candidate) (objects : List Object) → load Plain asked all ≡ Ok objects → LoadTold asked all objects
unfolding load
load_told asked all objects e =
    let a = bind_ok (loaded_inputs Plain asked all) (λ loaded. Ok (objects_of all loaded)) objects e in
    let b = guard (always_read_fault all) (at_once all) (rounds Plain asked all (length all + 1)) a.0 a.1 in
    record { last = a.0; read = b.0; ends = b.1; are = sym (ok_is (objects_of all a.0) objects _ refl a.2) }

pub load_from_told : (asked : List (List ℕ)) (all : List Candidate) (last : List ℕ) → always_read_fault all ≡ None → rounds Plain asked all (length all + 1) (at_once all) ≡ Ok last
    → load Plain asked all ≡ Ok (objects_of all last)
unfolding load
load_from_told asked all last read ends =
    ap (λ t. (unless t (at_once all) >>= rounds Plain asked all (length all + 1)) >>= λ loaded. Ok (objects_of all loaded)) read
    ∙ ap (λ r. r >>= λ loaded. Ok (objects_of all loaded)) ends

-- ---- rounds that keep what is loaded

pub kept_loaded : (asked : List (List ℕ)) (all : List Candidate) (n : ℕ) (loaded last : List ℕ) (c : Candidate) → rounds Plain asked all n loaded ≡ Ok last → is_loaded loaded c ≡ true → is_loaded last c ≡ true
kept_loaded asked all zero loaded last c e held = subst (λ l. is_loaded l c ≡ true) (ok_is loaded last _ refl e) held
kept_loaded asked all (suc n) loaded last c e held = by_adds (next_adds Plain asked all loaded) e (λ now ends. kept_loaded asked all n now last c ends)
  where
    by_adds : (new : List Added) → go_on (rounds Plain asked all n) loaded new ≡ Ok last → ((now : List ℕ) → rounds Plain asked all n now ≡ Ok last → is_loaded now c ≡ true → is_loaded last c ≡ true) → is_loaded last c ≡ true
    by_adds [] e next = subst (λ l. is_loaded l c ≡ true) (ok_is loaded last _ refl e) held
    by_adds (a ∷ as') e next =
        let g = guard (first_of added_fault (a ∷ as')) (loaded ++ inputs_of (a ∷ as')) (rounds Plain asked all n) last e in
        next (loaded ++ inputs_of (a ∷ as')) g.1 (list_any-append (λ k. k == c.input) loaded (inputs_of (a ∷ as')) ∙ or_left (is_loaded loaded c) (is_loaded (inputs_of (a ∷ as')) c) held)

pub loaded_first : (all : List Candidate) (c : Candidate) → Has all c → c.by_need ≡ false → is_loaded (at_once all) c ≡ true
loaded_first all c has eager =
    any_has (λ k. k == c.input) (at_once all) c.input
    (map_has (λ (x : Candidate). x.input) (filter (λ (x : Candidate). not x.by_need) all) c (filter_has (λ (x : Candidate). not x.by_need) all c has (ap not eager)))
    (eq-eqb c.input c.input refl)

-- where all is loaded already, no round adds any
nothing_added : (asked : List (List ℕ)) (all : List Candidate) (n : ℕ) (loaded last : List ℕ) → ((c : Candidate) → Has all c → is_loaded loaded c ≡ true) → rounds Plain asked all n loaded ≡ Ok last → loaded ≡ last
nothing_added asked all zero loaded last each e = ok_is loaded last _ refl e
nothing_added asked all (suc n) loaded last each e =
    let none : next_adds Plain asked all loaded ≡ [] =
    ap (λ cs. filter adds_any (map (added_with all (wanted_names Plain asked (objects_of all loaded))) cs)) (filter_nothing (λ (c : Candidate). not (is_loaded loaded c)) all (λ c has. ap not (each c has))) in
    ok_is loaded last _ refl (ap (go_on (rounds Plain asked all n) loaded) (sym none) ∙ e)

pub all_loaded : (asked : List (List ℕ)) (all : List Candidate) (objects : List Object) → ((c : Candidate) → Has all c → c.by_need ≡ false) → load Plain asked all ≡ Ok objects
    → objects ≡ filter_map (λ (c : Candidate). object_in c.object) all
all_loaded asked all objects eager e =
    let t = load_told asked all objects e in
    let each : (c : Candidate) → Has all c → is_loaded (at_once all) c ≡ true = λ c has. loaded_first all c has (eager c has) in
    t.are ∙ (ap (objects_of all) (sym (nothing_added asked all (length all + 1) (at_once all) t.last each t.ends))
    ∙ ap (filter_map (λ (c : Candidate). object_in c.object)) (filter_every (is_loaded (at_once all)) all each))

pub read_of : (cs : List Candidate) (loaded : List ℕ) → AreReadOf cs (objects_of cs loaded)
read_of cs loaded o has =
    let p = has_pick (λ (c : Candidate). object_in c.object) (filter (is_loaded loaded) cs) o has in
    let f = has_filter (is_loaded loaded) cs p.0 p.1 in
    (p.0, f.0, read_so p.0.object p.2)
  where
    read_so : (r : Result Object Fault) → object_in r ≡ Some o → r ≡ Ok o
    read_so (Ok u) e = ap (λ (x : Object). Ok x) (some_is u o e)
    read_so (Err f) e = absurd cc
