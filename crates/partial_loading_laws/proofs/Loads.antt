-- The candidates of three links side by side, and so what they load.
use Rattle.std.proofs.Common.{◌≡◌, ◌⊎◌, ℕ, suc, ◌+◌, ◌-◌, ◌<◌, ◌≤◌, ◌^◌, Bool, true, false, not, ◌||◌, ◌==◌, List, [], ◌∷◌, ◌++◌, filter, map, length, inl, inr, ⊎_elim, refl, sym, ap, subst, ◌∙◌, append_assoc, arith}
use Rattle.std.specs.Prelude.{None, filter_map, Result, Ok, Err, nat_le, min, slice_index_or}
use Rattle.std.specs.List.{list_any, AllZip}
use Rattle.std.proofs.lemmas.Bool.{ne_eqb}
use Rattle.std.proofs.lemmas.Bool.Decides.{nat_tests}
use Rattle.std.proofs.lemmas.List.{map-append, length-append}
use Rattle.std.proofs.lemmas.List.Elements.{filter-append}
use Rattle.std.proofs.lemmas.List.Folds.{list_any-append}
use Rattle.list_places.specs.Has.{Has}
use Rattle.list_places.proofs.Lists.{has_left, has_right, has_either, has_filter, filter_has}
use Rattle.name_rules.specs.object_file.wl_base.Choice.{given, ◌>>=◌}
use Rattle.name_rules.specs.object_file.wl_base.declared.fault.Fault.{Fault}
use Rattle.name_rules.specs.object_file.wl_base.declared.fault.Fault.TheVariants.{TooMuchInput}
use Rattle.name_rules.specs.object_file.declared.object.Object.{Object}
use Rattle.name_rules.specs.object_file.ObjectOf.{object_of}
use Rattle.made_symbols.specs.declared.mode.Mode.TheVariants.{Plain}
use Rattle.round_rules.specs.Rounds.{Candidate, fault_in, object_in, object_fault, is_loaded, objects_of, is_always_read, always_read_fault, at_once, rounds, load}
use Rattle.link_plan.specs.declared.plan.Plan.{Plan}
use Rattle.link_rules.specs.Candidates.{is_library, total_len, too_much_input, plain_word, plain_candidate, candidates_in, opened, candidates_of}
use Rattle.link_rules.specs.LinkOf.{asked_names, the_readers}
use Rattle.partial_rules.specs.PartialLink.{bare}
use Rattle.partial_laws.specs.Inputs.{Run, as_input, alone, later}
use Rattle.partial_laws.specs.PartialThenLink.{Cut, run_plan, later_plan}
use Rattle.partial_loading_laws.specs.Alike.{AlikeRead, AlikeCandidate}
use Rattle.partial_loading_laws.specs.Names.{StandsForNames}
use Rattle.partial_loading_laws.specs.Numbered.{AreNumbered}
use Rattle.partial_loading_laws.specs.Loads.{Loading, LoadsAfter, Loads, RunsAreLoaded}
use Rattle.partial_loading_laws.proofs.Names.{ok_is, no_some, none_each, each_none}
use Rattle.partial_loading_laws.proofs.Rounds.{Beside, Sides, Same, Ended, object_moves, objects_cut, after_objects, rounds_alike, few_left}
use Rattle.partial_loading_laws.proofs.Candidates.{onto, behind, Cuts, behind_cut, behind_join, behind_numbered, Shifted, behind_shift, behind_read, AreWholeFiles, behind_whole}
use Rattle.partial_loading_laws.proofs.Zips.{zip_filter, zip_filter_map, zip_length, zip_partner, zip_add}
use Rattle.partial_loading_laws.proofs.Told.{Told, candidates_told, candidates_from_told, LoadTold, load_told, load_from_told, kept_loaded, loaded_first, all_loaded, read_of}
use Rattle.partial_loading_laws.proofs.Numbers.{numbered_cut, numbered_in, file_in_left, file_in_right, IsOutside, moved_number, low_stays, high_moves, numbers_tell}

-- ---- the three links

shift_alone : (n m : ℕ) → 0 + n < m → m - n + (0 + n) ≡ m + 0
shift_alone n m low = omega (arith, low)

shift_none : (m : ℕ) → 0 < m → m + 0 ≡ m + 0
shift_none m low = refl

shift_later : (f k n m : ℕ) → n ≡ f + k → 0 < k → 0 + n < m → m + 1 - k + (0 + n) ≡ m + (0 + f + 1)
shift_later f k n m is some low = omega (arith, is, some, low)

module _ (plan : Plan) (files : List (List ℕ)) (c : Cut plan files) (l : Loading plan files c) where
  told : Told plan files l.all
  told = candidates_told plan files l.all l.no_case l.candidates

  told_alone : Told (bare (run_plan plan files c)) c.middle l.all_alone
  told_alone = candidates_told (bare (run_plan plan files c)) c.middle l.all_alone refl l.candidates_alone

  lengths : length (c.before ++ c.run) ≡ length (c.front ++ c.middle)
  lengths = length-append c.before c.run ∙ (ap (λ n. n + length c.run) c.as_many_front ∙ (ap (λ n. length c.front + n) c.as_many_middle ∙ sym (length-append c.front c.middle)))

  all_cut : Cuts 0 0 (c.before ++ c.run) c.behind (c.front ++ c.middle) c.back l.all
  all_cut =
      behind_cut 0 0 (c.before ++ c.run) c.behind (c.front ++ c.middle) c.back l.all lengths
      (ap (λ fs. behind 0 0 (c.before ++ c.run ++ c.behind) fs) (sym c.files_are) ∙ (ap (λ ws. behind 0 0 ws files) (sym c.words) ∙ told.are))

  front_cut : Cuts 0 0 c.before c.run c.front c.middle all_cut.left
  front_cut = behind_cut 0 0 c.before c.run c.front c.middle all_cut.left c.as_many_front all_cut.first

  abbrev front : List Candidate
  front = front_cut.left

  abbrev run : List Candidate
  run = front_cut.right

  abbrev back : List Candidate
  back = all_cut.right

  abbrev numbers : Run
  numbers = record { first = length front; many = length run }

  abbrev middle : List Object
  middle = filter_map (λ (x : Candidate). object_in x.object) run

  all_are : l.all ≡ front ++ (run ++ back)
  all_are = all_cut.all_are ∙ (ap (λ cs. cs ++ back) front_cut.all_are ∙ append_assoc front run back)

  -- ---- where files stand

  run_files : (k : ℕ) → k < length c.middle → slice_index_or files (0 + length c.before + k) [] ≡ slice_index_or c.middle k []
  run_files k low =
      let at : 0 + length c.before + k ≡ length c.front + k = ap (λ n. 0 + n + k) c.as_many_front ∙ plus_none (length c.front) k in
      let long : length (c.front ++ c.middle) ≡ length c.front + length c.middle = length-append c.front c.middle in
      let inside : length c.front + k < length (c.front ++ c.middle) = omega (arith, long, low) in
      ap (λ n. slice_index_or files n []) at
      ∙ (ap (λ fs. slice_index_or fs (length c.front + k) []) c.files_are
      ∙ (file_in_left (c.front ++ c.middle) c.back (length c.front + k) inside ∙ file_in_right c.front c.middle k))
    where
      plus_none : (n k : ℕ) → 0 + n + k ≡ n + k
      plus_none n k = omega arith

  front_files : (k : ℕ) → k < length c.front → slice_index_or files (0 + k) [] ≡ slice_index_or c.front k []
  front_files k low =
      let at : 0 + k ≡ k = omega arith in
      let long : length (c.front ++ c.middle) ≡ length c.front + length c.middle = length-append c.front c.middle in
      let inside : k < length (c.front ++ c.middle) = omega (arith, long, low) in
      ap (λ n. slice_index_or files n []) at
      ∙ (ap (λ fs. slice_index_or fs k []) c.files_are ∙ (file_in_left (c.front ++ c.middle) c.back k inside ∙ file_in_left c.front c.middle k low))

  back_files : (k : ℕ) → k < length c.back → slice_index_or files (0 + length (c.before ++ c.run) + k) [] ≡ slice_index_or c.back k []
  back_files k low =
      let at : 0 + length (c.before ++ c.run) + k ≡ length (c.front ++ c.middle) + k = ap (λ n. 0 + n + k) lengths ∙ plus_none (length (c.front ++ c.middle)) k in
      ap (λ n. slice_index_or files n []) at ∙ (ap (λ fs. slice_index_or fs (length (c.front ++ c.middle) + k) []) c.files_are ∙ file_in_right (c.front ++ c.middle) c.back k)
    where
      plus_none : (n k : ℕ) → 0 + n + k ≡ n + k
      plus_none n k = omega arith

  alone_files : (k : ℕ) → k < length c.middle → slice_index_or c.middle (0 + k) [] ≡ slice_index_or c.middle k []
  alone_files k low = let at : 0 + k ≡ k = omega arith in ap (λ n. slice_index_or c.middle n []) at

  -- ---- the run

  whole_run : AreWholeFiles files (0 + length c.before) (0 + length front) c.run run
  whole_run = behind_whole files 0 (0 + length c.before) (0 + length front) c.run c.middle run c.as_many_middle run_files l.plain front_cut.second

  whole_alone : AreWholeFiles c.middle 0 0 c.run l.all_alone
  whole_alone = behind_whole c.middle 0 0 0 c.run c.middle l.all_alone c.as_many_middle alone_files l.plain told_alone.are

  shifted_run : Shifted (alone numbers) files c.middle 0 0 c.run c.middle run
  shifted_run = behind_shift (alone numbers) files c.middle (0 + length c.before) 0 (0 + length front) 0 c.run c.middle run run_files alone_files (λ m low. shift_alone (length front) m low) front_cut.second

  run_alike : AllZip (AlikeCandidate (alone numbers) files c.middle) run l.all_alone
  run_alike = subst (λ cs. AllZip (AlikeCandidate (alone numbers) files c.middle) run cs) (ok_is shifted_run.moved l.all_alone (behind 0 0 c.run c.middle) shifted_run.are told_alone.are) shifted_run.beside

  objects_alone : l.objects_alone ≡ map (λ (o : Object). as_input (alone numbers o.input) o) middle
  objects_alone =
      all_loaded [] l.all_alone l.objects_alone (λ x has. (whole_alone.each x has).by_need) l.loaded_alone
      ∙ zip_filter_map (AlikeCandidate (alone numbers) files c.middle) (λ (o : Object). as_input (alone numbers o.input) o) (λ (x : Candidate). object_in x.object) (λ (x : Candidate). object_in x.object)
      (λ x y b. object_moves (alone numbers) x.input y.input x.object y.object b.input b.object) run l.all_alone run_alike

  some : 0 < length run
  some = let m : length run ≡ length c.run = whole_run.many in let s : 0 < length c.run = c.some in omega (arith, m, s)

  -- ---- what the whole link loads

  loading : LoadTold (asked_names plan) l.all l.objects
  loading = load_told (asked_names plan) l.all l.objects l.loaded

  in_all : (x : Candidate) → Has run x → Has l.all x
  in_all x has = subst (λ cs. Has cs x) (sym all_are) (has_right front (run ++ back) x (has_left run back x has))

  run_loaded : (x : Candidate) → Has run x → is_loaded loading.last x ≡ true
  run_loaded x has = kept_loaded (asked_names plan) l.all (length l.all + 1) (at_once l.all) loading.last x loading.ends (loaded_first l.all x (in_all x has) (whole_run.each x has).by_need)

  abbrev before_objects : List Object
  before_objects = objects_of front loading.last

  abbrev behind_objects : List Object
  behind_objects = objects_of back loading.last

  objects_are : l.objects ≡ before_objects ++ (middle ++ behind_objects)
  objects_are = loading.are ∙ (ap (λ cs. objects_of cs loading.last) all_are ∙ objects_cut loading.last front run back run_loaded)

  numbered : AreNumbered 0 l.all
  numbered = behind_numbered 0 0 plan.inputs files l.all told.are

  numbered_parts : AreNumbered 0 front × AreNumbered (0 + length front) (run ++ back)
  numbered_parts = numbered_cut 0 front (run ++ back) (subst (AreNumbered 0) all_are numbered)

  numbered_rest : AreNumbered (0 + length front) run × AreNumbered (0 + length front + length run) back
  numbered_rest = numbered_cut (0 + length front) run back numbered_parts.1

  front_low : (x : Candidate) → Has front x → x.input ≤ length front
  front_low x has = let r = numbered_in 0 front numbered_parts.0 x has in let h : x.input ≤ 0 + length front = r.1 in omega (arith, h)

  run_between : (x : Candidate) → Has run x → (length front < x.input) × (x.input ≤ length front + length run)
  run_between x has =
      let r = numbered_in (0 + length front) run numbered_rest.0 x has in
      let a : 0 + length front < x.input = r.0 in
      let b : x.input ≤ 0 + length front + length run = r.1 in
      (omega (arith, a), omega (arith, b))

  back_high : (x : Candidate) → Has back x → length front + length run < x.input
  back_high x has = let r = numbered_in (0 + length front + length run) back numbered_rest.1 x has in let a : 0 + length front + length run < x.input = r.0 in omega (arith, a)

  -- ---- the later link

  module _ (r : List ℕ) (joined : Object) (read : object_of (length front + 1) r ≡ Ok joined) (plain : is_library r ≡ false) (short : total_len (c.front ++ r ∷ c.back) < 2 ^ 32) (names : StandsForNames middle joined) where
    abbrev files_after : List (List ℕ)
    files_after = c.front ++ r ∷ c.back

    front_after_files : (k : ℕ) → k < length c.front → slice_index_or files_after (0 + k) [] ≡ slice_index_or c.front k []
    front_after_files k low = let at : 0 + k ≡ k = omega arith in ap (λ n. slice_index_or files_after n []) at ∙ file_in_left c.front (r ∷ c.back) k low

    back_after_files : (k : ℕ) → k < length c.back → slice_index_or files_after (0 + length c.before + 1 + k) [] ≡ slice_index_or c.back k []
    back_after_files k low =
        let at : 0 + length c.before + 1 + k ≡ length c.front + suc k = ap (λ n. 0 + n + 1 + k) c.as_many_front ∙ plus_one (length c.front) k in
        ap (λ n. slice_index_or files_after n []) at ∙ file_in_right c.front (r ∷ c.back) (suc k)
      where
        plus_one : (n k : ℕ) → 0 + n + 1 + k ≡ n + suc k
        plus_one n k = omega arith

    shifted_front : Shifted (λ n. n) files files_after 0 0 c.before c.front front
    shifted_front = behind_shift (λ n. n) files files_after 0 0 0 0 c.before c.front front front_files front_after_files shift_none front_cut.first

    front_same : shifted_front.moved ≡ front
    front_same = ok_is shifted_front.moved front (behind 0 0 c.before c.front) shifted_front.are front_cut.first

    front_alike : AllZip (AlikeCandidate (λ n. n) files files_after) front front
    front_alike = subst (λ cs. AllZip (AlikeCandidate (λ n. n) files files_after) front cs) front_same shifted_front.beside

    left_long : length all_cut.left ≡ length front + length run
    left_long = ap (λ (cs : List Candidate). length cs) front_cut.all_are ∙ length-append front run

    shifted_back : Shifted (later numbers) files files_after (0 + length c.before + 1) (0 + length front + 1) c.behind c.back back
    shifted_back =
        behind_shift (later numbers) files files_after (0 + length (c.before ++ c.run)) (0 + length c.before + 1) (0 + length all_cut.left) (0 + length front + 1) c.behind c.back back back_files back_after_files
        (λ m low. shift_later (length front) (length run) (length all_cut.left) m left_long some low) all_cut.second

    abbrev back_after : List Candidate
    back_after = shifted_back.moved

    abbrev one : Candidate
    one = plain_candidate the_readers (0 + length c.before) plain_word r (0 + length front + 1)

    abbrev all_after : List Candidate
    all_after = front ++ (one ∷ back_after)

    rest_after : behind (0 + length c.before) (0 + length front) (plain_word ∷ c.behind) (r ∷ c.back) ≡ Ok (one ∷ back_after)
    rest_after =
        ap (λ lib. opened the_readers (0 + length c.before) r lib
        >>= λ o. onto (candidates_in the_readers (0 + length c.before) plain_word r (0 + length front + 1) o) (behind (0 + length c.before + 1) (0 + length front + length (candidates_in the_readers (0 + length c.before) plain_word r (0 + length front + 1) o)) c.behind c.back)) plain
        ∙ ap (onto (one ∷ [])) shifted_back.are

    are_after : behind 0 0 (c.before ++ plain_word ∷ c.behind) (c.front ++ r ∷ c.back) ≡ Ok all_after
    are_after = behind_join 0 0 c.before (plain_word ∷ c.behind) c.front (r ∷ c.back) front (one ∷ back_after) c.as_many_front front_cut.first rest_after

    back_long : length back_after ≡ length back
    back_long = zip_length (AlikeCandidate (later numbers) files files_after) back back_after shifted_back.beside

    few_after : length all_after < 2 ^ 20
    few_after =
        let a : length all_after ≡ length front + suc (length back_after) = length-append front (one ∷ back_after) in
        let b : length (front ++ (run ++ back)) ≡ length front + length (run ++ back) = length-append front (run ++ back) in
        let d : length (run ++ back) ≡ length run + length back = length-append run back in
        let e : length (front ++ (run ++ back)) < 2 ^ 20 = subst (λ cs. length cs < 2 ^ 20) all_are told.few in
        few (length front) (length run) (length back) (length back_after) (length all_after) (length (run ++ back)) (length (front ++ (run ++ back))) a b d e back_long some
      where
        few : (f k b ba n rb w : ℕ) → n ≡ f + suc ba → w ≡ f + rb → rb ≡ k + b → w < 2 ^ 20 → ba ≡ b → 0 < k → n < 2 ^ 20
        few f k b ba n rb w p q s t u v = omega (arith, p, q, s, t, u, v)

    short_after : too_much_input files_after ≡ None
    short_after = ap (λ b. given b (TooMuchInput (min (total_len files_after) (2 ^ 64 - 1)))) (room (total_len files_after) short)
      where
        room : (n : ℕ) → n < 2 ^ 32 → nat_le (2 ^ 32) n ≡ false
        room n low = grind (arith, nat_tests, low)

    candidates_after : candidates_of the_readers (later_plan plan files c) files_after ≡ Ok all_after
    candidates_after = candidates_from_told (later_plan plan files c) files_after all_after l.no_case short_after few_after are_after

    -- ---- side by side

    abbrev Both : Candidate → Candidate → Type 0
    Both x y = Beside (moved_number numbers) (IsOutside numbers) files files_after x y

    before_both : AllZip Both front front
    before_both =
        zip_add (AlikeCandidate (λ n. n) files files_after) Both front front
        (λ x y has b. record {
          outside = inl (front_low x has);
          alike = record {
            input = b.input ∙ sym (low_stays numbers x.input (front_low x has));
            file = b.file;
            start = b.start;
            len = b.len;
            is_member = b.is_member;
            by_need = b.by_need;
            offers = b.offers;
            object = b.object;
          };
        })
        front_alike

    behind_both : AllZip Both back back_after
    behind_both =
        zip_add (AlikeCandidate (later numbers) files files_after) Both back back_after
        (λ x y has b. record {
          outside = inr (back_high x has);
          alike = record {
            input = b.input ∙ sym (high_moves numbers x.input (back_high x has));
            file = b.file;
            start = b.start;
            len = b.len;
            is_member = b.is_member;
            by_need = b.by_need;
            offers = b.offers;
            object = b.object;
          };
        })
        shifted_back.beside

    apart_run : (x : Candidate) → Has run x → (n : ℕ) → IsOutside numbers n → (x.input == n) ≡ false
    apart_run x has n (inl low) = let b = run_between x has in ne_eqb x.input n (λ e. between_low (length front) x.input n low b.0 e)
      where
        between_low : (f i n : ℕ) → n ≤ f → f < i → i ≡ n → ⊥
        between_low f i n a b e = absurd (omega (arith, a, b, e))
    apart_run x has n (inr high) = let b = run_between x has in ne_eqb x.input n (λ e. between_high (length front) (length run) x.input n high b.1 e)
      where
        between_high : (f k i n : ℕ) → f + k < n → i ≤ f + k → i ≡ n → ⊥
        between_high f k i n a b e = absurd (omega (arith, a, b, e))

    apart_one : (n : ℕ) → IsOutside numbers n → (one.input == moved_number numbers n) ≡ false
    apart_one n (inl low) = ne_eqb one.input (moved_number numbers n) (λ e. one_low (length front) n low (e ∙ low_stays numbers n low))
      where
        one_low : (f n : ℕ) → n ≤ f → 0 + f + 1 ≡ n → ⊥
        one_low f n a e = absurd (omega (arith, a, e))
    apart_one n (inr high) = ne_eqb one.input (moved_number numbers n) (λ e. one_high (length front) (length run) n high (e ∙ high_moves numbers n high))
      where
        one_high : (f k n : ℕ) → f + k < n → 0 + f + 1 ≡ n + 1 - k → ⊥
        one_high f k n a e = absurd (omega (arith, a, e))

    one_read : object_of (0 + length front + 1) r ≡ Ok joined
    one_read = let z : 0 + length front + 1 ≡ length front + 1 = omega arith in ap (λ n. object_of n r) z ∙ read

    sides : Sides (moved_number numbers) (IsOutside numbers) files files_after front front run back back_after one joined
    sides = record {
      before = before_both;
      behind = behind_both;
      no_offers = λ x has. (whole_run.each x has).offers;
      none_offered = refl;
      read = one_read;
      names = names;
    }

    abbrev whole : List Candidate
    whole = front ++ (run ++ back)

    abbrev asked : List (List ℕ)
    asked = asked_names plan

    abbrev Alike : List ℕ → List ℕ → Type 0
    Alike a b = Same (moved_number numbers) (IsOutside numbers) files files_after asked (numbers_tell numbers some) front front run back back_after one joined sides a b

    -- ---- what is loaded at once

    at_once_append : (xs ys : List Candidate) → at_once (xs ++ ys) ≡ at_once xs ++ at_once ys
    at_once_append xs ys =
        ap (map (λ (x : Candidate). x.input)) (filter-append (λ (x : Candidate). not x.by_need) xs ys)
        ∙ map-append (λ (x : Candidate). x.input) (filter (λ (x : Candidate). not x.by_need) xs) (filter (λ (x : Candidate). not x.by_need) ys)

    abbrev holds : List ℕ → ℕ → Bool
    holds loaded n = list_any (λ k. k == n) loaded

    inputs_both : (n : ℕ) → IsOutside numbers n → (xs ys : List Candidate) → AllZip Both xs ys → holds (map (λ (y : Candidate). y.input) ys) (moved_number numbers n) ≡ holds (map (λ (x : Candidate). x.input) xs) n
    inputs_both n o [] [] z = refl
    inputs_both n o [] (y ∷ ys) z = absurd z
    inputs_both n o (x ∷ xs) [] z = absurd z
    inputs_both n o (x ∷ xs) (y ∷ ys) z = rw (z.0.alike.input, numbers_tell numbers some x.input n z.0.outside o, inputs_both n o xs ys z.1) refl

    once_both : (n : ℕ) → IsOutside numbers n → (xs ys : List Candidate) → AllZip Both xs ys → holds (at_once ys) (moved_number numbers n) ≡ holds (at_once xs) n
    once_both n o xs ys z =
        inputs_both n o (filter (λ (x : Candidate). not x.by_need) xs) (filter (λ (y : Candidate). not y.by_need) ys)
        (zip_filter Both (λ (x : Candidate). not x.by_need) (λ (y : Candidate). not y.by_need) (λ x y b. ap not b.alike.by_need) xs ys z)

    none_held : (n : ℕ) (xs : List Candidate) → ((x : Candidate) → Has xs x → (x.input == n) ≡ false) → holds (map (λ (x : Candidate). x.input) xs) n ≡ false
    none_held n [] each = refl
    none_held n (x ∷ xs) each = rw (each x (inl refl), none_held n xs (λ y has. each y (inr has))) refl

    run_once : (n : ℕ) → IsOutside numbers n → holds (at_once run) n ≡ false
    run_once n o = none_held n (filter (λ (x : Candidate). not x.by_need) run) (λ x has. apart_run x (has_filter (λ (x : Candidate). not x.by_need) run x has).0 n o)

    first_same : Alike (at_once whole) (at_once all_after)
    first_same = record {
      each = λ n o.
          let m = moved_number numbers n in
          ap (λ ls. holds ls m) (at_once_append front (one ∷ back_after))
          ∙ (list_any-append (λ k. k == m) (at_once front) (at_once (one ∷ back_after))
          ∙ (ap (λ (b : Bool). holds (at_once front) m || (b || holds (at_once back_after) m)) (apart_one n o)
          ∙ (ap (λ (b : Bool). b || holds (at_once back_after) m) (once_both n o front front before_both)
          ∙ (ap (λ (b : Bool). holds (at_once front) n || b) (once_both n o back back_after behind_both)
          ∙ sym (ap (λ ls. holds ls n) (at_once_append front (run ++ back) ∙ ap (λ ls. at_once front ++ ls) (at_once_append run back))
          ∙ (list_any-append (λ k. k == n) (at_once front) (at_once run ++ at_once back)
          ∙ ap (λ (b : Bool). holds (at_once front) n || b) (list_any-append (λ k. k == n) (at_once run) (at_once back) ∙ ap (λ (b : Bool). b || holds (at_once back) n) (run_once n o))))))));
      run_loaded = λ x has. loaded_first whole x (has_right front (run ++ back) x (has_left run back x has)) (whole_run.each x has).by_need;
      one_loaded = loaded_first all_after one (has_right front (one ∷ back_after) one (inl refl)) refl;
    }

    -- ---- what is always read

    fault_none : (i j : ℕ) (x y : Result Object Fault) → AlikeRead i j x y → fault_in x ≡ None → fault_in y ≡ None
    fault_none i j (Ok o) (Ok u) a e = refl
    fault_none i j (Ok o) (Err g) a e = absurd a
    fault_none i j (Err f) (Ok u) a e = absurd a
    fault_none i j (Err f) (Err g) a e = absurd (no_some f e)

    read_both : (xs ys : List Candidate) → AllZip Both xs ys → ((x : Candidate) → Has xs x → is_always_read x ≡ true → object_fault x ≡ None) → (y : Candidate) → Has ys y → is_always_read y ≡ true → object_fault y ≡ None
    read_both xs ys z each y has always =
        let p = zip_partner Both xs ys z y has in
        fault_none p.0.input y.input p.0.object y.object p.2.alike.object
        (each p.0 p.1 (ap (λ (b : Bool). not b || not p.0.by_need) (sym p.2.alike.is_member) ∙ (ap (λ (b : Bool). not y.is_member || not b) (sym p.2.alike.by_need) ∙ always)))

    read_whole : (x : Candidate) → Has whole x → is_always_read x ≡ true → object_fault x ≡ None
    read_whole x has always = none_each object_fault (filter is_always_read whole) (subst (λ cs. always_read_fault cs ≡ None) all_are loading.read) x (filter_has is_always_read whole x has always)

    read_one : (y : Candidate) → Has (one ∷ back_after) y → is_always_read y ≡ true → object_fault y ≡ None
    read_one y (inl is) always = ap (λ (d : Candidate). object_fault d) (sym is) ∙ ap fault_in one_read
    read_one y (inr has) always = read_both back back_after behind_both (λ x h. read_whole x (has_right front (run ++ back) x (has_right run back x h))) y has always

    read_each : (y : Candidate) → Has all_after y → is_always_read y ≡ true → object_fault y ≡ None
    read_each y has always =
        ⊎_elim (λ h. read_both front front before_both (λ x k. read_whole x (has_left front (run ++ back) x k)) y h always) (λ h. read_one y h always) (has_either front (one ∷ back_after) y has)

    read_after : always_read_fault all_after ≡ None
    read_after = each_none object_fault (filter is_always_read all_after) (λ y has. let f = has_filter is_always_read all_after y has in read_each y f.0 f.1)

    -- ---- what is loaded

    ends_whole : rounds Plain asked whole (length whole + 1) (at_once whole) ≡ Ok loading.last
    ends_whole = subst (λ cs. rounds Plain asked cs (length cs + 1) (at_once cs) ≡ Ok loading.last) all_are loading.ends

    ended : Ended (moved_number numbers) (IsOutside numbers) files files_after asked (numbers_tell numbers some) front front run back back_after one joined sides loading.last (rounds Plain asked all_after (length all_after + 1) (at_once all_after))
    ended =
        let few = few_left (moved_number numbers) (IsOutside numbers) files files_after asked (numbers_tell numbers some) front front run back back_after one joined sides (at_once whole) (at_once all_after) first_same in
        rounds_alike (moved_number numbers) (IsOutside numbers) files files_after asked (numbers_tell numbers some) front front run back back_after one joined sides (length whole + 1) (length all_after + 1) (at_once whole) (at_once all_after) loading.last first_same few.0 few.1 ends_whole

    moved_map : (move other : ℕ → ℕ) (os : List Object) → ((o : Object) → Has os o → move o.input ≡ other o.input) → map (λ (o : Object). as_input (move o.input) o) os ≡ map (λ (o : Object). as_input (other o.input) o) os
    moved_map move other [] each = refl
    moved_map move other (o ∷ os) each = ap (λ n. as_input n o ∷ map (λ (x : Object). as_input (move x.input) x) os) (each o (inl refl)) ∙ ap (λ xs. as_input (other o.input) o ∷ xs) (moved_map move other os (λ x has. each x (inr has)))

    unmoved : (os : List Object) → map (λ (o : Object). as_input o.input o) os ≡ os
    unmoved [] = refl
    unmoved (o ∷ os) = ap (λ xs. o ∷ xs) (unmoved os)

    alike_input : (i j : ℕ) (x y : Result Object Fault) (o : Object) → AlikeRead i j x y → x ≡ Ok o → o.input ≡ i
    alike_input i j (Ok u) (Ok v) o a e = ap (λ (w : Object). w.input) (ok_is o u _ e refl) ∙ a.0
    alike_input i j (Ok u) (Err g) o a e = absurd a
    alike_input i j (Err f) y o a e = absurd (grind arith)

    input_both : (xs ys : List Candidate) → AllZip Both xs ys → (o : Object) (x : Candidate) → Has xs x → x.object ≡ Ok o → o.input ≡ x.input
    input_both [] ys z o x has e = absurd has
    input_both (w ∷ xs) [] z o x has e = absurd z
    input_both (w ∷ xs) (y ∷ ys) z o x (inl is) e = alike_input x.input y.input x.object y.object o (subst (λ (v : Candidate). AlikeRead v.input y.input v.object y.object) is z.0.alike.object) e
    input_both (w ∷ xs) (y ∷ ys) z o x (inr has) e = input_both xs ys z.1 o x has e

    before_stay : map (λ (o : Object). as_input (moved_number numbers o.input) o) before_objects ≡ before_objects
    before_stay =
        moved_map (moved_number numbers) (λ n. n) before_objects
        (λ o has.
        let x = read_of front loading.last o has in
        low_stays numbers o.input (subst (λ n. n ≤ length front) (sym (input_both front front before_both o x.0 x.1 x.2)) (front_low x.0 x.1)))
        ∙ unmoved before_objects

    behind_move : map (λ (o : Object). as_input (moved_number numbers o.input) o) behind_objects ≡ map (λ (o : Object). as_input (later numbers o.input) o) behind_objects
    behind_move =
        moved_map (moved_number numbers) (later numbers) behind_objects
        (λ o has.
        let x = read_of back loading.last o has in
        high_moves numbers o.input (subst (λ n. length front + length run < n) (sym (input_both back back_after behind_both o x.0 x.1 x.2)) (back_high x.0 x.1)))

    loaded_after : load Plain asked all_after ≡ Ok (before_objects ++ (joined ∷ map (λ (o : Object). as_input (later numbers o.input) o) behind_objects))
    loaded_after =
        load_from_told asked all_after ended.other read_after ended.ends
        ∙ ap (λ os. Ok os) (after_objects (moved_number numbers) (IsOutside numbers) files files_after asked (numbers_tell numbers some) front front run back back_after one joined sides loading.last ended.other ended.same
        ∙ (ap (λ os. os ++ (joined ∷ map (λ (o : Object). as_input (moved_number numbers o.input) o) behind_objects)) before_stay ∙ ap (λ os. before_objects ++ (joined ∷ os)) behind_move))

    one_file : slice_index_or files_after (0 + length c.before) [] ≡ r
    one_file =
        let at : 0 + length c.before ≡ length c.front + 0 = ap (λ n. 0 + n) c.as_many_front ∙ plus (length c.front) in
        ap (λ n. slice_index_or files_after n []) at ∙ file_in_right c.front (r ∷ c.back) 0
      where
        plus : (n : ℕ) → 0 + n ≡ n + 0
        plus n = omega arith

    loads_after : LoadsAfter plan files c l numbers front back before_objects behind_objects r joined
    loads_after = record {
      all = all_after;
      front_after = front;
      one = one;
      back_after = back_after;
      all_are = refl;
      candidates = candidates_after;
      front_alike = front_alike;
      back_alike = shifted_back.beside;
      loaded = loaded_after;
      numbered = behind_numbered 0 0 (c.before ++ plain_word ∷ c.behind) (c.front ++ r ∷ c.back) all_after are_after;
      one_input = first_plus (length front);
      one_start = refl;
      one_file = one_file;
    }
      where
        first_plus : (n : ℕ) → 0 + n + 1 ≡ n + 1
        first_plus n = omega arith

  loads : Loads plan files c l
  loads = record {
    front = front;
    run = run;
    back = back;
    before = before_objects;
    behind = behind_objects;
    all_are = all_are;
    some = some;
    objects_are = objects_are;
    read_all = behind_read 0 0 plan.inputs files l.all told.are;
    read_before = read_of front loading.last;
    read_behind = read_of back loading.last;
    numbered = numbered;
    numbered_alone = behind_numbered 0 0 c.run c.middle l.all_alone told_alone.are;
    files_alone = whole_alone.each;
    run_alike = run_alike;
    objects_alone = objects_alone;
    after = loads_after;
  }

pub runs_are_loaded : RunsAreLoaded
runs_are_loaded plan files c l = loads plan files c l
