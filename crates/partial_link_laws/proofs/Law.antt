-- The law of partial links: from the bytes of the run's partial link and of the whole link to those of the later link.
use Rattle.std.proofs.Common.{◌≡◌, ℕ, ◌+◌, ◌-◌, ◌<◌, ◌≤◌, ◌^◌, ◌==◌, Bool, false, List, [], ◌∷◌, ◌++◌, map, length, take, drop, inl, inr, refl, sym, ap, subst, ◌∙◌, arith}
use Rattle.std.specs.Prelude.{Option, Some, None, unwrap_or, find, filter_map, slice_get, slice_index_or, Result, Ok, Err, All, IsTrue}
use Rattle.std.proofs.lemmas.List.{length-append}
use Rattle.std.proofs.Math.Seq.{take-length}
use Rattle.list_places.specs.Has.{Has}
use Rattle.list_places.proofs.Lists.{has_left, has_right, has_at, map_has, has_pick, all_has, some_is}
use Rattle.name_rules.specs.object_file.wl_base.declared.fault.Fault.{Fault}
use Rattle.name_rules.specs.object_file.declared.object.Object.{Object}
use Rattle.object_file.specs.Sound.{Sound}
use Rattle.object_file.specs.Objects.{object_from}
use Rattle.object_file.specs.ObjectOf.{IsObject, object_of}
use Rattle.made_symbols.specs.declared.mode.Mode.TheVariants.{Plain}
use Rattle.round_rules.specs.Rounds.{Candidate, object_in, load}
use Rattle.name_rules.specs.Entries.{entries}
use Rattle.name_rules.specs.Cases.{clash}
use Rattle.link_program.specs.Loaded.{home_of, IsReadFrom as IsOfCandidate, IsLoaded as AreInputsLoaded}
use Rattle.name_entries.specs.View.{InputsRise}
use Rattle.link_inputs.specs.Loaded.{LoadedAreSound}
use Rattle.link_plan.specs.declared.plan.Plan.{Plan}
use Rattle.link_plan.specs.declared.plan.InputWord.{InputWord}
use Rattle.link_rules.specs.Candidates.{is_library, plain_word}
use Rattle.link_rules.specs.Program.{Program, program_of}
use Rattle.link_rules.specs.LinkOf.{asked_names, link_of}
use Rattle.partial_rules.specs.Relocatable.{relocatable_bytes}
use Rattle.partial_rules.specs.Partial.{symbol_for, standing, relocatable}
use Rattle.partial_rules.specs.PartialLink.{bare, partial_of}
use Rattle.partial_rules.specs.Sections.{sections_told}
use Rattle.partial_rules.specs.ReadAs.{parts_told}
use Rattle.partial_laws.specs.Inputs.{Run, Objects, as_input, alone, later, whole_objects, later_objects, AreCut}
use Rattle.partial_laws.specs.Loaded.{Rise, AreLoaded}
use Rattle.partial_laws.specs.Names.{IsOf, IsRead, StandsForRun}
use Rattle.partial_laws.specs.Premises.{is_uniform, is_grounded, inits_stand, explicit_among, explicit_agree, groups_among, groups_agree}
use Rattle.partial_laws.specs.Programs.{ProgramsAreOf}
use Rattle.partial_laws.specs.PartialThenLink.{Cut, run_plan, later_plan, PlainWords, Premises, PartialThenLink}
use Rattle.partial_laws.proofs.Instance.{all_from_has}
use Rattle.partial_loading_laws.specs.Alike.{AlikeCandidate}
use Rattle.partial_loading_laws.specs.Loads.{Loading, Loads, LoadsAfter, RunsAreLoaded}
use Rattle.partial_loading_laws.specs.Names.{StandsForNames, RunsStandForNames}
use Rattle.partial_loading_laws.specs.Numbered.{AreNumbered}
use Rattle.partial_loading_laws.proofs.Numbers.{numbered_cut, numbered_in}
use Rattle.partial_parts_laws.specs.Linked.{Linked, Links, program, SameFile, FilesAgree, alone_program}
use Rattle.partial_parts_laws.specs.PartsRead.{PartsRead}
use Rattle.partial_parts_laws.specs.SymbolsBack.{AreNamed, SymbolsAreRead}
use Rattle.partial_parts_laws.specs.RunBack.{RunIsLinked, IsReadBack, RunsAreRead, RunsRefer, RunsGroups}
use Rattle.partial_parts_laws.specs.Moves.{StandsInLinks}
use Rattle.partial_parts_laws.specs.AlikeLinks.{WordsStay, IsLoaded, LinkedFilesAreSame}
use Rattle.partial_object_laws.specs.ReadAlone.{IsReadFrom, AreReadAlone, AreReadWell, ReadWell, IsAnObject, PartialsAreObjects}
use Rattle.partial_link_laws.proofs.Few.{few_symbols}
use Rattle.partial_link_laws.proofs.Files.{found_by, zip_other, same_file, one_group}
use Rattle.partial_link_laws.proofs.Told.{MadeOf, PartialTold, partial_told, LinkTold, link_told, held, bare_asks, inputs_ask, no_library}

-- The laws that it is made of.
pub record Laws : Type 0 where
  pub loads : RunsAreLoaded
  pub names : RunsStandForNames
  pub well : ReadWell
  pub objects : PartialsAreObjects
  pub groups : RunsGroups
  pub symbols : SymbolsAreRead
  pub runs : RunsAreRead
  pub refer : RunsRefer
  pub same : LinkedFilesAreSame
  pub programs : ProgramsAreOf
  pub found : (input : ℕ) (bytes : List ℕ) (o : Object) → object_of input bytes ≡ Ok o → IsObject input bytes o
  pub again : (input : ℕ) (bytes : List ℕ) (o : Object) → IsObject input bytes o → object_of input bytes ≡ Ok o
  pub input : (input : ℕ) (bytes : List ℕ) (o : Object) → IsObject input bytes o → o.input ≡ input
  pub sound : (input : ℕ) (bytes : List ℕ) (o : Object) → IsObject input bytes o → Sound (length bytes) o
  pub loaded : LoadedAreSound

rises : (last : ℕ) (os : List Object) → InputsRise last os → Rise last os
rises last [] r = tt
rises last (o ∷ os) r = (r.0, rises o.input os r.2)

inputs_low : (last : ℕ) (os : List Object) → InputsRise last os → (o : Object) → Has os o → o.input < 2 ^ 20
inputs_low last [] r o has = absurd has
inputs_low last (x ∷ os) r o (inl is) = subst (λ (y : Object). y.input < 2 ^ 20) is r.1
inputs_low last (x ∷ os) r o (inr has) = inputs_low x.input os r.2 o has

object_some : (r : Result Object Fault) (o : Object) → object_in r ≡ Some o → r ≡ Ok o
object_some (Ok u) o e = ap (λ (x : Object). Ok x) (some_is u o e)
object_some (Err f) o e = absurd cc

file_whole : (f : List ℕ) (start len : ℕ) → start ≡ 0 → len ≡ length f → take len (drop start f) ≡ f
file_whole f start len s l = ap (λ n. take len (drop n f)) s ∙ (ap (take len) (none_dropped f) ∙ (ap (λ n. take n f) l ∙ take-length f))
  where
    none_dropped : (xs : List ℕ) → drop 0 xs ≡ xs
    none_dropped [] = refl
    none_dropped (x ∷ xs) = refl

module _ (laws : Laws) (plan : Plan) (files : List (List ℕ)) (c : Cut plan files) (r bytes : List ℕ) (part : partial_of (run_plan plan files c) c.middle ≡ Ok r) (linked : link_of plan files ≡ Ok bytes)
    (premises : Premises plan files c r) where
  words : PlainWords plan
  words = premises.words

  told_alone : PartialTold (run_plan plan files c) c.middle r
  told_alone = partial_told (run_plan plan files c) c.middle r part

  told : LinkTold plan files
  told = link_told plan files bytes words.plain words.strict linked

  abbrev bare_plan : Plan
  bare_plan = bare (run_plan plan files c)

  abbrev loading : Loading plan files c
  loading = record {
    all = told.all;
    objects = told.objects;
    all_alone = told_alone.all;
    objects_alone = told_alone.objects;
    no_case = words.no_case;
    candidates = told.candidates;
    loaded = told.loaded;
    plain = told_alone.plain;
    candidates_alone = told_alone.candidates;
    loaded_alone = told_alone.loaded;
  }

  loads : Loads plan files c loading
  loads = laws.loads plan files c loading

  abbrev run : Run
  run = record { first = length loads.front; many = length loads.run }

  abbrev middle : List Object
  middle = filter_map (λ (x : Candidate). object_in x.object) loads.run

  abbrev alone_link : Linked
  alone_link = record { plan = bare_plan; files = c.middle; all = told_alone.all }

  abbrev whole_link : Linked
  whole_link = record { plan = plan; files = files; all = told.all }

  -- the run's objects as they are alone
  abbrev RO : List Object
  RO = map (λ (o : Object). as_input (alone run o.input) o) middle

  abbrev p : Program
  p = program alone_link RO

  made : MadeOf p r
  made = subst (λ os. MadeOf (program alone_link os) r) loads.objects_alone told_alone.made

  -- ---- what is read

  lengths : length files ≡ unwrap_or plan.make_case (length plan.inputs)
  lengths =
      let a : length (c.front ++ c.middle ++ c.back) ≡ length (c.front ++ c.middle) + length c.back = length-append (c.front ++ c.middle) c.back in
      let b : length (c.front ++ c.middle) ≡ length c.front + length c.middle = length-append c.front c.middle in
      let d : length (c.before ++ c.run ++ c.behind) ≡ length (c.before ++ c.run) + length c.behind = length-append (c.before ++ c.run) c.behind in
      let e : length (c.before ++ c.run) ≡ length c.before + length c.run = length-append c.before c.run in
      let f : length c.before ≡ length c.front = c.as_many_front in
      let g : length c.run ≡ length c.middle = c.as_many_middle in
      let h : length c.behind ≡ length c.back = c.as_many_back in
      let same : length (c.front ++ c.middle ++ c.back) ≡ length (c.before ++ c.run ++ c.behind) = omega (arith, a, b, d, e, f, g, h) in
      ap (λ (fs : List (List ℕ)). length fs) c.files_are ∙ (same ∙ sym (ap (λ (o : Option ℕ). unwrap_or o (length plan.inputs)) words.no_case ∙ ap (λ (ws : List InputWord). length ws) c.words))

  inputs : AreInputsLoaded files told.all told.objects (map home_of told.all)
  inputs = (laws.loaded Plain plan files (asked_names plan) told.all told.objects lengths told.candidates told.loaded).1

  inputs_alone : AreInputsLoaded c.middle told_alone.all told_alone.objects (map home_of told_alone.all)
  inputs_alone = (laws.loaded Plain bare_plan c.middle [] told_alone.all told_alone.objects (sym c.as_many_middle) told_alone.candidates told_alone.loaded).1

  -- An object is what some bytes are.
  record ReadSo (o : Object) : Type 0 where
    bytes_of : List ℕ
    is : IsObject o.input bytes_of o

  read_candidate : (x : Candidate) → Has told.all x → (o : Object) → x.object ≡ Ok o → (bs : List ℕ) × IsObject x.input bs o
  read_candidate x has o e = let b = loads.read_all x has in (b.0, laws.found x.input b.0 o (sym b.1 ∙ e))

  read_so : (o : Object) → Has told.objects o → ReadSo o
  read_so o has =
      let x = all_has (λ (o : Object). (x : Candidate) × (slice_get told.all (o.input - 1) ≡ Some x) × IsOfCandidate files x o) told.objects inputs.each o has in
      let b = read_candidate x.0 (has_at told.all (o.input - 1) x.0 x.1) o x.2.object in
      record { bytes_of = b.0; is = subst (λ (n : ℕ). IsObject n b.0 o) x.2.input b.1 }

  -- its number is that of its candidate
  input_is : (x : Candidate) → Has told.all x → (o : Object) → x.object ≡ Ok o → o.input ≡ x.input
  input_is x has o e = let b = read_candidate x has o e in laws.input x.input b.0 o b.1

  -- ---- the run alone

  rise_alone : Rise 0 RO
  rise_alone = subst (Rise 0) loads.objects_alone (rises 0 told_alone.objects inputs_alone.rise)

  each_alone : (o : Object) → Has told_alone.objects o → IsReadFrom alone_link o
  each_alone o has =
      let x = all_has (λ (o : Object). (x : Candidate) × (slice_get told_alone.all (o.input - 1) ≡ Some x) × IsOfCandidate c.middle x o) told_alone.objects inputs_alone.each o has in
      let y : Candidate = x.0 in
      let there : Has told_alone.all y = has_at told_alone.all (o.input - 1) y x.1 in
      let w = loads.files_alone y there in
      let f : List ℕ = slice_index_or c.middle y.file [] in
      let same : y.input ≡ o.input = x.2.input in
      let place : y.input + 0 ≡ y.file + (0 + 1) = w.place in
      let file : o.input ≡ y.file + 1 = omega (arith, same, place) in
      let is : IsObject y.input f o = laws.found y.input f o (sym w.object ∙ x.2.object) in
      record {
        candidate = y;
        found = found_by told_alone.all loads.numbered_alone y there o.input same;
        file = file;
        start = w.start;
        is = subst (λ (bs : List ℕ). IsObject o.input bs o) (sym (file_whole f y.start y.len w.start w.len)) (subst (λ (n : ℕ). IsObject n f o) same is);
      }

  read_alone : AreReadAlone alone_link RO
  read_alone = record {
    strict = refl;
    rise = rise_alone;
    no_clash = made.no_clash;
    each = λ o has. each_alone o (subst (λ (os : List Object). Has os o) (sym loads.objects_alone) has);
  }

  well : AreReadWell alone_link RO
  well = laws.well alone_link RO read_alone

  an_object : IsAnObject alone_link RO
  an_object = laws.objects alone_link RO read_alone made.local made.short

  -- ---- the object that stands for the run

  abbrev at : ℕ
  at = length loads.front + 1

  abbrev joined : Object
  joined = object_from at (sections_told (relocatable p)) (parts_told (relocatable p) an_object.codes)

  joined_read : object_of at r ≡ Ok joined
  joined_read = subst (λ (bs : List ℕ). object_of at bs ≡ Ok joined) made.is (laws.again at (relocatable_bytes (relocatable p)) joined (an_object.is at))

  joined_input : joined.input ≡ at
  joined_input = laws.input at (relocatable_bytes (relocatable p)) joined (an_object.is at)

  no_library_there : is_library r ≡ false
  no_library_there = subst (λ (bs : List ℕ). is_library bs ≡ false) made.is (no_library (relocatable p))

  abbrev os : Objects
  os = record { before = loads.before; middle = middle; behind = loads.behind; joined = joined }

  -- ---- numbers of the three parts

  numbered_all : AreNumbered 0 (loads.front ++ (loads.run ++ loads.back))
  numbered_all = subst (AreNumbered 0) loads.all_are loads.numbered

  numbered_parts : AreNumbered 0 loads.front × AreNumbered (0 + length loads.front) (loads.run ++ loads.back)
  numbered_parts = numbered_cut 0 loads.front (loads.run ++ loads.back) numbered_all

  numbered_rest : AreNumbered (0 + length loads.front) loads.run × AreNumbered (0 + length loads.front + length loads.run) loads.back
  numbered_rest = numbered_cut (0 + length loads.front) loads.run loads.back numbered_parts.1

  in_front : (x : Candidate) → Has loads.front x → Has told.all x
  in_front x has = subst (λ (xs : List Candidate). Has xs x) (sym loads.all_are) (has_left loads.front (loads.run ++ loads.back) x has)

  in_run : (x : Candidate) → Has loads.run x → Has told.all x
  in_run x has = subst (λ (xs : List Candidate). Has xs x) (sym loads.all_are) (has_right loads.front (loads.run ++ loads.back) x (has_left loads.run loads.back x has))

  in_back : (x : Candidate) → Has loads.back x → Has told.all x
  in_back x has = subst (λ (xs : List Candidate). Has xs x) (sym loads.all_are) (has_right loads.front (loads.run ++ loads.back) x (has_right loads.run loads.back x has))

  run_read : (o : Object) → Has middle o → (x : Candidate) × Has loads.run x × (x.object ≡ Ok o)
  run_read o has = let x = has_pick (λ (x : Candidate). object_in x.object) loads.run o has in (x.0, x.1, object_some x.0.object o x.2)

  before_low : (o : Object) → Has loads.before o → o.input ≤ run.first
  before_low o has =
      let x = loads.read_before o has in
      let same : o.input ≡ x.0.input = input_is x.0 (in_front x.0 x.1) o x.2 in
      let high : x.0.input ≤ 0 + length loads.front = (numbered_in 0 loads.front numbered_parts.0 x.0 x.1).1 in
      omega (arith, same, high)

  middle_high : (o : Object) → Has middle o → run.first < o.input
  middle_high o has =
      let x = run_read o has in
      let same : o.input ≡ x.0.input = input_is x.0 (in_run x.0 x.1) o x.2 in
      let low : 0 + length loads.front < x.0.input = (numbered_in (0 + length loads.front) loads.run numbered_rest.0 x.0 x.1).0 in
      omega (arith, same, low)

  middle_low : (o : Object) → Has middle o → o.input ≤ run.first + run.many
  middle_low o has =
      let x = run_read o has in
      let same : o.input ≡ x.0.input = input_is x.0 (in_run x.0 x.1) o x.2 in
      let high : x.0.input ≤ 0 + length loads.front + length loads.run = (numbered_in (0 + length loads.front) loads.run numbered_rest.0 x.0 x.1).1 in
      omega (arith, same, high)

  behind_high : (o : Object) → Has loads.behind o → run.first + run.many < o.input
  behind_high o has =
      let x = loads.read_behind o has in
      let same : o.input ≡ x.0.input = input_is x.0 (in_back x.0 x.1) o x.2 in
      let low : 0 + length loads.front + length loads.run < x.0.input = (numbered_in (0 + length loads.front + length loads.run) loads.back numbered_rest.1 x.0 x.1).0 in
      omega (arith, same, low)

  cut : AreCut run os
  cut = record {
    some = loads.some;
    before = all_from_has (λ (o : Object). o.input ≤ run.first) loads.before before_low;
    from = all_from_has (λ (o : Object). run.first < o.input) middle middle_high;
    to = all_from_has (λ (o : Object). o.input ≤ run.first + run.many) middle middle_low;
    behind = all_from_has (λ (o : Object). run.first + run.many < o.input) loads.behind behind_high;
    place = joined_input;
    groups = laws.groups run os (record { run_alone = alone_link; whole = whole_link; after = whole_link }) rise_alone an_object.codes at refl;
  }

  -- ---- all objects

  in_objects : (o : Object) → Has (whole_objects os) o → Has told.objects o
  in_objects o has = subst (λ (xs : List Object). Has xs o) (sym loads.objects_are) has

  sound_all : All (λ (o : Object). (size : ℕ) × Sound size o) (whole_objects os)
  sound_all =
      all_from_has (λ (o : Object). (size : ℕ) × Sound size o) (whole_objects os)
      (λ o has. let b = read_so o (in_objects o has) in (length b.bytes_of, laws.sound o.input b.bytes_of o b.is))

  groups_agreed : IsTrue (groups_among told.objects)
  unfolding program_of
  groups_agreed = held groups_agree plan files told.all told.objects told.candidates told.loaded premises.groups

  all_loaded : AreLoaded (whole_objects os)
  all_loaded = record {
    rise = subst (Rise 0) loads.objects_are (rises 0 told.objects inputs.rise);
    low = all_from_has (λ (o : Object). (o.input < 2 ^ 20) × (length o.symbols < 2 ^ 32)) (whole_objects os)
        (λ o has. let b = read_so o (in_objects o has) in (inputs_low 0 told.objects inputs.rise o (in_objects o has), few_symbols o.input b.bytes_of o b.is));
    once = λ o has g h hg hh kind index mg mh. let b = read_so o (in_objects o has) in one_group (length b.bytes_of) o (laws.sound o.input b.bytes_of o b.is) g h hg hh kind index mg mh;
    agree = subst (λ (xs : List Object). IsTrue (groups_among xs)) loads.objects_are groups_agreed;
  }

  is_of : IsOf p RO
  is_of = laws.programs bare_plan c.middle told_alone.all RO

  joined_symbols : joined.symbols ≡ map (symbol_for p) (standing p)
  joined_symbols = (laws.symbols alone_link RO well.linked well.named an_object.codes an_object.writable made.short run os at refl).0

  stands_for_names : StandsForNames middle joined
  stands_for_names = laws.names run os p cut all_loaded is_of joined_symbols

  after : LoadsAfter plan files c loading run loads.front loads.back loads.before loads.behind r joined
  after = loads.after r joined joined_read no_library_there premises.short stands_for_names

  abbrev after_link : Linked
  after_link = record { plan = later_plan plan files c; files = c.front ++ r ∷ c.back; all = after.all }

  abbrev ls : Links
  ls = record { run_alone = alone_link; whole = whole_link; after = after_link }

  -- ---- the same files

  found_whole : (x : Candidate) → Has told.all x → (o : Object) → x.object ≡ Ok o → find (λ (y : Candidate). y.input == o.input) told.all ≡ Some x
  found_whole x has o e = found_by told.all loads.numbered x has o.input (sym (input_is x has o e))

  after_front : (y : Candidate) → Has after.front_after y → Has after.all y
  after_front y has = subst (λ (xs : List Candidate). Has xs y) (sym after.all_are) (has_left after.front_after (after.one ∷ after.back_after) y has)

  after_back : (y : Candidate) → Has after.back_after y → Has after.all y
  after_back y has = subst (λ (xs : List Candidate). Has xs y) (sym after.all_are) (has_right after.front_after (after.one ∷ after.back_after) y (inr has))

  one_there : Has after.all after.one
  one_there = subst (λ (xs : List Candidate). Has xs after.one) (sym after.all_are) (has_right after.front_after (after.one ∷ after.back_after) after.one (inl refl))

  before_files : (o : Object) → Has loads.before o → SameFile whole_link o.input after_link o.input
  before_files o has =
      let x = loads.read_before o has in
      let y = zip_other (AlikeCandidate (λ n. n) files (c.front ++ r ∷ c.back)) loads.front after.front_after after.front_alike x.0 x.1 in
      same_file whole_link after_link o.input o.input x.0 y.0 (found_whole x.0 (in_front x.0 x.1) o x.2)
      (found_by after.all after.numbered y.0 (after_front y.0 y.1) o.input (y.2.input ∙ sym (input_is x.0 (in_front x.0 x.1) o x.2))) y.2.start y.2.file

  behind_files : (o : Object) → Has loads.behind o → SameFile whole_link o.input after_link (later run o.input)
  behind_files o has =
      let x = loads.read_behind o has in
      let y = zip_other (AlikeCandidate (later run) files (c.front ++ r ∷ c.back)) loads.back after.back_after after.back_alike x.0 x.1 in
      same_file whole_link after_link o.input (later run o.input) x.0 y.0 (found_whole x.0 (in_back x.0 x.1) o x.2)
      (found_by after.all after.numbered y.0 (after_back y.0 y.1) (later run o.input) (y.2.input ∙ ap (later run) (sym (input_is x.0 (in_back x.0 x.1) o x.2)))) y.2.start y.2.file

  run_files : (o : Object) → Has middle o → SameFile whole_link o.input alone_link (alone run o.input)
  run_files o has =
      let x = run_read o has in
      let y = zip_other (AlikeCandidate (alone run) files c.middle) loads.run told_alone.all loads.run_alike x.0 x.1 in
      same_file whole_link alone_link o.input (alone run o.input) x.0 y.0 (found_whole x.0 (in_run x.0 x.1) o x.2)
      (found_by told_alone.all loads.numbered_alone y.0 y.1 (alone run o.input) (y.2.input ∙ ap (alone run) (sym (input_is x.0 (in_run x.0 x.1) o x.2)))) y.2.start y.2.file

  alone_has : (o : Object) → Has middle o → Has RO (as_input (alone run o.input) o)
  alone_has o has = map_has (λ (x : Object). as_input (alone run x.input) x) middle o has

  files_agree : FilesAgree run os ls
  files_agree = record {
    before = before_files;
    behind = behind_files;
    of_run = run_files;
    functions = λ o has f hf.
        sym (ap (λ (bs : List ℕ). length bs) ((run_files o has).bytes f.span)) ∙ well.linked.lie.functions (as_input (alone run o.input) o) (alone_has o has) f hf;
    segments = λ o has g hg.
        sym (ap (λ (bs : List ℕ). length bs) ((run_files o has).bytes g.span)) ∙ well.linked.lie.segments (as_input (alone run o.input) o) (alone_has o has) g hg;
  }

  -- ---- the run is linked, and read back

  named_middle : All AreNamed middle
  named_middle =
      all_from_has AreNamed middle
      (λ o has. let n = all_has AreNamed RO well.named (as_input (alone run o.input) o) (alone_has o has) in record { sections = n.sections; imported = n.imported; tables = n.tables })

  run_linked : RunIsLinked run os ls
  run_linked = record { cut = cut; loaded = all_loaded; sound = sound_all; named = named_middle; files = files_agree; strict = refl; no_clash = made.no_clash }

  read_back : IsReadBack run os ls
  read_back = record {
    codes = an_object.codes;
    writable = an_object.writable;
    short = made.short;
    read = ap (λ (n : ℕ). object_from n (sections_told (relocatable p)) (parts_told (relocatable p) an_object.codes)) (sym joined_input);
    file = record {
      candidate = after.one;
      found = found_by after.all after.numbered after.one one_there joined.input (after.one_input ∙ sym joined_input);
      start = after.one_start;
      file = after.one_file ∙ sym made.is;
    };
  }

  read_run : IsRead run os (alone_program run os ls) × PartsRead os.joined ls.after (alone_program run os ls)
  read_run = laws.runs run os ls run_linked read_back

  -- ---- what the law on links asks

  held_alone : (test : Program → Bool) → IsTrue (test (program_of Plain bare_plan c.middle told_alone.all told_alone.objects)) → IsTrue (test p)
  held_alone test h = subst (λ (xs : List Object). IsTrue (test (program alone_link xs))) loads.objects_alone h

  loaded_bare : load Plain (asked_names bare_plan) told_alone.all ≡ Ok told_alone.objects
  loaded_bare = ap (λ (asked : List (List ℕ)). load Plain asked told_alone.all) (bare_asks (run_plan plan files c)) ∙ told_alone.loaded

  explicit_agreed : IsTrue (explicit_among (entries Plain told.objects))
  unfolding program_of
  explicit_agreed = held explicit_agree plan files told.all told.objects told.candidates told.loaded premises.explicit

  stands_for_run : StandsForRun run os (alone_program run os ls)
  stands_for_run = record {
    cut = cut;
    loaded = all_loaded;
    program = is_of;
    read = read_run.0;
    refer = laws.refer run os sound_all named_middle;
    uniform = held_alone is_uniform (held is_uniform bare_plan c.middle told_alone.all told_alone.objects told_alone.candidates loaded_bare premises.uniform);
    grounded = held_alone is_grounded (held is_grounded bare_plan c.middle told_alone.all told_alone.objects told_alone.candidates loaded_bare premises.grounded);
    explicit = subst (λ (xs : List Object). IsTrue (explicit_among (entries Plain xs))) loads.objects_are explicit_agreed;
    no_clash = subst (λ (xs : List Object). clash (entries Plain xs) ≡ None) loads.objects_are told.no_clash;
  }

  stands_in_links : StandsInLinks run os ls
  stands_in_links = record {
    names = stands_for_run;
    sound = sound_all;
    files = files_agree;
    read = read_run.1;
    locals = made.local;
    inits = held_alone inits_stand (held inits_stand bare_plan c.middle told_alone.all told_alone.objects told_alone.candidates loaded_bare premises.inits);
    strict_alone = refl;
    strict = words.strict;
    strict_after = words.strict;
    allow = refl;
  }

  words_stay : WordsStay ls
  words_stay = record { inputs = c.before ++ plain_word ∷ c.behind; plan = refl; no_driver = words.no_driver }

  whole_loaded : IsLoaded whole_link (whole_objects os)
  whole_loaded = record { plain = words.plain; candidates = told.candidates; load_all = told.loaded ∙ ap (λ (xs : List Object). Ok xs) loads.objects_are }

  after_loaded : IsLoaded after_link (later_objects run os)
  after_loaded = record {
    plain = words.plain;
    candidates = after.candidates;
    load_all = ap (λ (asked : List (List ℕ)). load Plain asked after.all) (sym (inputs_ask plan (c.before ++ plain_word ∷ c.behind))) ∙ after.loaded;
  }

  then_linked : link_of (later_plan plan files c) (c.front ++ r ∷ c.back) ≡ Ok bytes
  then_linked = laws.same run os ls stands_in_links words_stay whole_loaded after_loaded bytes linked

pub partial_then_link : Laws → PartialThenLink
partial_then_link laws plan files c r bytes part linked premises = then_linked laws plan files c r bytes part linked premises
