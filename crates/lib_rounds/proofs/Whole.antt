-- Loading candidates one after another.
use Rattle.std.proofs.Common.{◌≡◌, ℕ, zero, suc, ◌+◌, ◌-◌, ◌<◌, ◌≤◌, ◌^◌, Bool, true, false, ◌||◌, cond, List, [], ◌∷◌, ◌++◌, length, map, drop, Option, Some, None, Result, Ok, Err, set, refl, sym, ap, subst, ◌∙◌, arith, inl, inr, append_assoc, get_or}
use Rattle.std.specs.Prelude.{Contains, filter, flat_map, slice_get, ◌==◌}
use Rattle.std.specs.List.{list_any}
use Rattle.std.proofs.lemmas.Bool.{cases_Bool, eqb-true}
use Rattle.std.proofs.lemmas.List.{append-nil, map-append, drop_more, length-map}
use Rattle.std.proofs.lemmas.List.Folds.{list_any-append}
use Rattle.std.proofs.lemmas.Option.{slice_get_within, get_or_from_slice_get}
use Rattle.object_file.specs.wl_base.declared.fault.Fault.{Fault}
use Rattle.object_file.specs.wl_base.declared.span.Span.{Span}
use Rattle.object_file.specs.wl_base.Choice.{first_some}
use Rattle.object_file.specs.declared.object.Object.{Object}
use Rattle.round_rules.specs.declared.given.LibraryFile.{LibraryFile}
use Rattle.lib_rounds.specs.declared.error.RoundError.{RoundError}
use Rattle.lib_rounds.specs.declared.error.RoundError.TheVariants.{Refused, OutOfMemory}
use Rattle.round_rules.specs.Rounds.{Candidate, fault_in, object_fault}
use Rattle.round_rules.specs.RoundLaws.{inputs_in}
use Rattle.round_rules.specs.Inputs.{members_from, members_of}
use Rattle.lib_rounds.specs.Held.{Held, absent, loaded, held_as, held_by, is_loaded_slot}
use Rattle.lib_rounds.specs.State.{World, Hold, Defines, Enters, Fails, FailsBy, or_in, by_slot, IsOffer, candidate_at, no_candidate}
use Rattle.lib_rounds.specs.Begin.{KnowsMembers, LoadedAll}
use Rattle.lib_rounds.proofs.Kept.{contains_head, contains_tail}
use Rattle.lib_rounds.proofs.Picked.{same_input}
use Rattle.lib_rounds.proofs.Rising.{at_place, numbers_rise}
use Rattle.lib_rounds.proofs.Adding.{slots_more, holds_by, slot_held, slot_unloaded, defines_more}

-- Of these candidates some are loaded, without a fault, and others are left.
pub record Loading (w : World) (old slots : List Held) (definers : List (List ℕ × ℕ)) (done left whole : List Candidate) : Type 0 where
  pub parts : done ++ left ≡ whole
  pub slots_are : (p : Candidate → Bool) → old ≡ map (held_by p) w.all → slots ≡ map (held_by (or_in p (inputs_in done))) w.all
  pub defines : Defines w.mode slots definers
  pub no_fault : first_some (map object_fault done) ≡ None

pub held_alike : (q r : Candidate → Bool) (cs : List Candidate) → ((c : Candidate) → Contains cs c → q c ≡ r c) → map (held_by q) cs ≡ map
    (held_by r) cs
held_alike q r [] h = refl
held_alike q r (c ∷ cs) h =
    ap (λ (b : Bool). held_as b c.is_member c.object ∷ map (held_by q) cs) (h c (contains_head c cs)) ∙ ap (λ (hs : List Held). held_by r c ∷ hs)
    (held_alike q r cs (λ d m. h d (contains_tail c cs d m)))

or_false : (b : Bool) → b ≡ (b || false)
or_false true = refl
or_false false = refl

or_or : (a b c : Bool) → (a || (b || c)) ≡ ((a || b) || c)
or_or true b c = refl
or_or false b c = refl

-- ---- faults

first_join : (xs ys : List Candidate) → first_some (map object_fault xs) ≡ None → first_some (map object_fault (xs ++ ys)) ≡ first_some
    (map object_fault ys)
first_join [] ys e = refl
first_join (x ∷ xs) ys e = by_fault (object_fault x) (map object_fault xs) (map object_fault (xs ++ ys)) (first_some (map object_fault ys)) e
    (first_join xs ys)
  where
    by_fault : (o : Option Fault) (os ps : List (Option Fault)) (r : Option Fault) → first_some (o ∷ os) ≡ None → (first_some os ≡ None
        → first_some ps ≡ r) → first_some (o ∷ ps) ≡ r
    by_fault None os ps r e h = h e
    by_fault (Some f) os ps r e h = absurd cc

fault_first : (e : RoundError) (o : Option Fault) (os : List (Option Fault)) → FailsBy e o → FailsBy e (first_some (o ∷ os))
fault_first OutOfMemory o os f = tt
fault_first (Refused fault) o os f = ap (λ (x : Option Fault). first_some (x ∷ os)) f

fails_join : (e : RoundError) (cs rest : List Candidate) → FailsBy e (first_some (map object_fault cs)) → FailsBy e (first_some (map object_fault
    (cs ++ rest)))
fails_join OutOfMemory cs rest f = tt
fails_join (Refused fault) [] rest f = absurd cc
fails_join (Refused fault) (c ∷ cs) rest f = by_fault (object_fault c) (map object_fault cs) (map object_fault (cs ++ rest)) f (fails_join
    (Refused fault) cs rest)
  where
    by_fault : (o : Option Fault) (os ps : List (Option Fault)) → first_some (o ∷ os) ≡ Some fault → (first_some os ≡ Some fault
        → first_some ps ≡ Some fault) → first_some (o ∷ ps) ≡ Some fault
    by_fault None os ps f h = h f
    by_fault (Some x) os ps f h = f

read_fault : (e : RoundError) (r : Result Object Fault) → Fails e r → FailsBy e (fault_in r)
read_fault OutOfMemory r f = tt
read_fault (Refused fault) r f = ap fault_in f

-- ---- the start and the end

module _ (w : World) (old : List Held) (whole : List Candidate) where
  pub loading_start : (definers : List (List ℕ × ℕ)) → Defines w.mode old definers → Loading w old old definers [] whole whole
  loading_start definers d = record {
    parts = refl;
    slots_are = λ p e. e ∙ held_alike p (or_in p []) w.all (λ c m. or_false (p c));
    defines = d;
    no_fault = refl;
  }

  module _ (slots : List Held) (definers : List (List ℕ × ℕ)) (done left : List Candidate) (now : Loading w old slots definers done left whole) where
    pub loading_end : left ≡ [] → LoadedAll w whole old slots definers
    loading_end none =
        let same : done ≡ whole = sym (append-nil done) ∙ ap (λ (cs : List Candidate). done ++ cs) (sym none) ∙ now.parts in
        record {
          no_fault = subst (λ (cs : List Candidate). first_some (map object_fault cs) ≡ None) same now.no_fault;
          slots = λ p e. subst (λ (cs : List Candidate). slots ≡ map (held_by (or_in p (inputs_in cs))) w.all) same (now.slots_are p e);
          defines = now.defines;
        }

    -- a fault of some that are left is that of all
    pub loading_fails : (e : RoundError) (cs rest : List Candidate) → left ≡ cs ++ rest → FailsBy e (first_some (map object_fault cs)) → FailsBy e
        (first_some (map object_fault whole))
    loading_fails e cs rest parts f =
        subst (FailsBy e) (sym (first_join done left now.no_fault) ∙ ap (λ (xs : List Candidate). first_some (map object_fault xs)) now.parts)
        (subst (λ (xs : List Candidate). FailsBy e (first_some (map object_fault xs))) (sym parts) (fails_join e cs rest f))

    pub loading_refused : (e : RoundError) (c : Candidate) (rest : List Candidate) → left ≡ c ∷ rest → Fails e c.object → FailsBy e (first_some
        (map object_fault whole))
    loading_refused e c rest parts f = loading_fails e (c ∷ []) rest parts (fault_first e (object_fault c) [] (read_fault e c.object f))

    -- ---- several more

    more_parts : (cs rest : List Candidate) → left ≡ cs ++ rest → (done ++ cs) ++ rest ≡ whole
    more_parts cs rest parts = append_assoc done cs rest ∙ ap (λ (xs : List Candidate). done ++ xs) (sym parts) ∙ now.parts

    or_in_join : (p : Candidate → Bool) (cs : List Candidate) (c : Candidate) → or_in (or_in p (inputs_in done)) (inputs_in cs) c ≡ or_in p
        (inputs_in (done ++ cs)) c
    or_in_join p cs c =
        sym (or_or (p c) (list_any (λ k. k == c.input) (inputs_in done)) (list_any (λ k. k == c.input) (inputs_in cs)))
        ∙ ap (λ (b : Bool). p c || b) (sym (list_any-append (λ k. k == c.input) (inputs_in done) (inputs_in cs)) ∙ ap (list_any
        (λ k. k == c.input)) (sym (map-append (λ (d : Candidate). d.input) done cs)))

    pub loading_many : (cs rest : List Candidate) (after : List Held) (defined : List (List ℕ × ℕ)) → left ≡ cs ++ rest
        → LoadedAll w cs slots after defined → Loading w old after defined (done ++ cs) rest whole
    loading_many cs rest after defined parts h = record {
      parts = more_parts cs rest parts;
      slots_are = λ p e. h.slots (or_in p (inputs_in done)) (now.slots_are p e) ∙ held_alike (or_in (or_in p (inputs_in done)) (inputs_in cs))
          (or_in p (inputs_in (done ++ cs))) w.all (λ c m. or_in_join p cs c);
      defines = h.defines;
      no_fault = first_join done cs now.no_fault ∙ h.no_fault;
    }

    pub loading_hold : ((i : ℕ) (c : Candidate) → slice_get w.all i ≡ Some c → c.input ≡ i + 1) → Hold w.all old → Hold w.all slots
    loading_hold numbered hold = holds_by w.all numbered slots (or_in (by_slot old) (inputs_in done)) (now.slots_are (by_slot old) hold)

    -- ---- one more

    module _ (numbered : (i : ℕ) (c : Candidate) → slice_get w.all i ≡ Some c → c.input ≡ i + 1) (hold : Hold w.all old) (c : Candidate)
        (rest : List Candidate) (parts : left ≡ c ∷ rest) (i : ℕ) (at : slice_get w.all (i - 1) ≡ Some c) (same : c.input ≡ i) where
      its_slot_was : slice_get slots (i - 1) ≡ Some (held_by (or_in (by_slot old) (inputs_in done)) c)
      its_slot_was = slot_held w.all slots (or_in (by_slot old) (inputs_in done)) (i - 1) c (now.slots_are (by_slot old) hold) at

      one_longer : (p : Candidate → Bool) → map (held_by (or_in p (inputs_in done ++ i ∷ []))) w.all ≡ map (held_by (or_in p (inputs_in
          (done ++ c ∷ [])))) w.all
      one_longer p = ap (λ (ks : List ℕ). map (held_by (or_in p ks)) w.all) (ap (λ (k : ℕ). inputs_in done ++ k ∷ []) (sym same) ∙ sym (map-append
          (λ (d : Candidate). d.input) done (c ∷ [])))

      pub loading_unloaded : is_loaded_slot (get_or slots (i - 1) absent) ≡ false → slice_get slots (i - 1) ≡ Some
          (held_as false c.is_member c.object)
      loading_unloaded n = slot_unloaded w.all slots (or_in (by_slot old) (inputs_in done)) (i - 1) c (now.slots_are (by_slot old) hold) at n

      pub loading_more : (after : List Held) (defined : List (List ℕ × ℕ)) (o : Object) → is_loaded_slot (get_or slots (i - 1) absent) ≡ false
          → c.object ≡ Ok o → after ≡ set slots (i - 1) (loaded o) → Enters o i definers defined
          → Loading w old after defined (done ++ c ∷ []) rest whole
      loading_more after defined o unloaded read is enters = record {
        parts = more_parts (c ∷ []) rest parts;
        slots_are = λ p e. slots_more w.all numbered p (inputs_in done) slots after i c o (now.slots_are p e) at same read is ∙ one_longer p;
        defines = defines_more w.mode slots after definers defined i (held_as false c.is_member c.object) o now.defines
            (loading_unloaded unloaded) (unloaded_slot c.is_member c.object) is enters;
        no_fault = first_join done (c ∷ []) now.no_fault ∙ ap (λ (r : Result Object Fault). first_some (fault_in r ∷ [])) read;
      }
        where
          unloaded_slot : (m : Bool) (r : Result Object Fault) → is_loaded_slot (held_as false m r) ≡ false
          unloaded_slot true (Ok o) = refl
          unloaded_slot false (Ok o) = refl
          unloaded_slot m (Err fault) = refl

      -- it is loaded already
      pub loading_skip : is_loaded_slot (get_or slots (i - 1) absent) ≡ true → Loading w old slots definers (done ++ c ∷ []) rest whole
      loading_skip is = record {
        parts = more_parts (c ∷ []) rest parts;
        slots_are = λ p e. now.slots_are p e ∙ held_alike (or_in p (inputs_in done)) (or_in p (inputs_in (done ++ c ∷ []))) w.all
            (λ d m. stays p e d m);
        defines = now.defines;
        no_fault = first_join done (c ∷ []) now.no_fault ∙ ap (λ (o : Option Fault). first_some (o ∷ [])) (no_fault_there (or_in (by_slot old)
            (inputs_in done) c) c.is_member c.object
            (sym (ap is_loaded_slot (get_or_from_slice_get slots (i - 1) (held_by (or_in (by_slot old) (inputs_in done)) c) absent its_slot_was))
            ∙ is));
      }
        where
          no_fault_there : (b m : Bool) (r : Result Object Fault) → is_loaded_slot (held_as b m r) ≡ true → fault_in r ≡ None
          no_fault_there b m (Ok o) e = refl
          no_fault_there b m (Err fault) e = absurd cc

          loaded_so : (b m : Bool) (r : Result Object Fault) → is_loaded_slot (held_as b m r) ≡ true → b ≡ true
          loaded_so true m r e = refl
          loaded_so false true (Ok o) e = absurd cc
          loaded_so false false (Ok o) e = absurd cc
          loaded_so false m (Err fault) e = absurd cc

          stays : (p : Candidate → Bool) → old ≡ map (held_by p) w.all → (d : Candidate) → Contains w.all d → or_in p (inputs_in done) d ≡ or_in p
              (inputs_in (done ++ c ∷ [])) d
          stays p e d m =
              let was : or_in p (inputs_in (done ++ c ∷ [])) d ≡ (or_in p (inputs_in done) d || ((c.input == d.input) || false)) = sym
              (or_in_join p (c ∷ []) d) in
              elim (cases_Bool (c.input == d.input)) [
                | inl one ↦
                    let alike = same_input w.all (numbers_rise w.all numbered) c d (at_place w.all (i - 1) c at) m (eqb-true c.input d.input one) in
                    let there = slot_held w.all slots (or_in p (inputs_in done)) (i - 1) c (now.slots_are p e) at in
                    let t : or_in p (inputs_in done) c ≡ true = loaded_so (or_in p (inputs_in done) c) c.is_member c.object (sym
                    (ap is_loaded_slot (get_or_from_slice_get slots (i - 1) (held_by (or_in p (inputs_in done)) c) absent there)) ∙ is) in
                    let td : or_in p (inputs_in done) d ≡ true = subst (λ (x : Candidate). or_in p (inputs_in done) x ≡ true) alike t in
                    td ∙ sym (was ∙ ap (λ (b : Bool). b || ((c.input == d.input) || false)) td)
                | inr other ↦ or_false (or_in p (inputs_in done) d) ∙ sym (was ∙ ap (λ (b : Bool). or_in p (inputs_in done) d || (b || false)) other)
              ]

-- the one at a place, and those behind it
pub drop_at : (cs : List Candidate) (k : ℕ) (c : Candidate) → slice_get cs k ≡ Some c → drop k cs ≡ c ∷ drop (k + 1) cs
drop_at cs k c e = drop_more cs k c (slice_get_within cs k c e) ∙ ap (λ (x : Candidate). x ∷ drop (k + 1) cs) (get_or_from_slice_get cs k c c e)

some_at : {X : Type 0} (xs : List X) (i : ℕ) → i < length xs → (x : X) × (slice_get xs i ≡ Some x)
some_at [] i lt = absurd (omega (arith, lt))
some_at (y ∷ ys) zero lt = (y, refl)
some_at (y ∷ ys) (suc i) lt = some_at ys i (omega (arith, lt))

-- ---- the member of a number

module _ (all : List Candidate) (libraries : List LibraryFile) (files : List (List ℕ)) (knows : KnowsMembers all libraries files) (at k : ℕ)
    (l : LibraryFile) (here : slice_get libraries at ≡ Some l) (within : k < length l.library.members) where
  pub member_here : (c : Candidate) × (slice_get (members_of files l) k ≡ Some c) × (slice_get all (l.first + k - 1) ≡ Some c)
      × IsOffer libraries files (record { input = l.first + k; library = at; member = k }) c
  member_here = let s = some_at l.library.members k within in knows.member at k l s.0 here s.1

  -- its number
  pub member_fits : (l.first + k < 2 ^ 20) × (1 ≤ l.first + k) × (l.first + k - 1 < length all)
  member_fits =
      let inside = slice_get_within all (l.first + k - 1) member_here.0 member_here.2 in
      let n = knows.numbered (l.first + k - 1) member_here.0 member_here.2 in
      let i = member_here.3.input in
      omega (arith, inside, n, i, knows.few)

  pub member_is : candidate_at all (l.first + k) ≡ member_here.0
  member_is = get_or_from_slice_get all (l.first + k - 1) member_here.0 no_candidate member_here.2

-- there are as many slots as candidates
pub loading_long : (w : World) (old slots : List Held) (definers : List (List ℕ × ℕ)) (done left whole : List Candidate)
    → Loading w old slots definers done left whole → Hold w.all old → length slots ≡ length w.all
loading_long w old slots definers done left whole now hold = ap (λ (hs : List Held). length hs) (now.slots_are (by_slot old) hold)
    ∙ length-map w.all (held_by (or_in (by_slot old) (inputs_in done)))

pub members_long : (l : LibraryFile) (bytes : List ℕ) (input member : ℕ) (ss : List Span) → length (members_from l bytes input member ss) ≡ length ss
members_long l bytes input member [] = refl
members_long l bytes input member (s ∷ ss) = ap suc (members_long l bytes (input + 1) (member + 1) ss)

-- ---- libraries that are loaded whole

abbrev pub whole_members : List (List ℕ) → List LibraryFile → List Candidate
whole_members files libraries = flat_map (members_of files) (filter (λ l. l.whole) libraries)

first_whole : (files : List (List ℕ)) (l : LibraryFile) (ls : List LibraryFile) → l.whole ≡ true → whole_members files
    (l ∷ ls) ≡ members_of files l ++ whole_members files ls
first_whole files l ls e = ap (λ (b : Bool). flat_map (members_of files) (cond b (l ∷ filter (λ l. l.whole) ls) (filter (λ l. l.whole) ls))) e

first_not : (files : List (List ℕ)) (l : LibraryFile) (ls : List LibraryFile) → l.whole ≡ false → whole_members files
    (l ∷ ls) ≡ whole_members files ls
first_not files l ls e = ap (λ (b : Bool). flat_map (members_of files) (cond b (l ∷ filter (λ l. l.whole) ls) (filter (λ l. l.whole) ls))) e

drop_library : (ls : List LibraryFile) (k : ℕ) (l : LibraryFile) → slice_get ls k ≡ Some l → drop k ls ≡ l ∷ drop (k + 1) ls
drop_library ls k l e = drop_more ls k l (slice_get_within ls k l e) ∙ ap (λ (x : LibraryFile). x ∷ drop (k + 1) ls)
    (get_or_from_slice_get ls k l l e)

pub whole_here : (files : List (List ℕ)) (ls : List LibraryFile) (at : ℕ) (l : LibraryFile) → slice_get ls at ≡ Some l → l.whole ≡ true
    → whole_members files (drop at ls) ≡ members_of files l ++ whole_members files (drop (at + 1) ls)
whole_here files ls at l e w = ap (whole_members files) (drop_library ls at l e) ∙ first_whole files l (drop (at + 1) ls) w

pub whole_past : (files : List (List ℕ)) (ls : List LibraryFile) (at : ℕ) (l : LibraryFile) → slice_get ls at ≡ Some l → l.whole ≡ false
    → whole_members files (drop at ls) ≡ whole_members files (drop (at + 1) ls)
whole_past files ls at l e w = ap (whole_members files) (drop_library ls at l e) ∙ first_not files l (drop (at + 1) ls) w
