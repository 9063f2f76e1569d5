-- The words of inputs, with the marks between them.
use Rattle.std.proofs.Common.{◌≡◌, inl, inr, ℕ, nat_eq, arith, Bool, true, false, not, ◌&&◌, ◌||◌, cond, List, [], ◌∷◌, ◌++◌, map, Option, Some, None, is_some, Result, Ok, Err, refl, sym, ap, subst, ◌∙◌, append_assoc}
use Rattle.std.specs.Prelude.{codes}
use Rattle.std.proofs.lemmas.Bool.Decides.{nat_tests}
use Rattle.link_words.specs.declared.kind.Kind.TheVariants as kinds
use Rattle.link_words.specs.declared.options.Takes.TheVariants as takes
use Rattle.link_words.specs.Cut.{begins_with_dash}
use Rattle.driver_table.specs.declared.meaning.Meaning.{Meaning}
use Rattle.driver_table.specs.declared.meaning.Meaning.TheVariants as meanings
use Rattle.driver_table.specs.Items.{Said}
use Rattle.driver_table.specs.Texts.{begins}
use Rattle.driver_texts.specs.Thin.{members_of}
use Rattle.driver_texts.specs.Paths.{plain, member_path, folder_of}
use Rattle.driver_words.specs.Search.{found}
use Rattle.driver_words.specs.Start.{or_refused, beside, leaves, started_in, start_folder, started}
use Rattle.driver_words.specs.Inputs.{file_named, or_unfound, library_path, grouped, members_in, is_thin, opened, opened_of, given_by, inside_after, whole_after, and_then, inputs_from}
use Rattle.driver_words.specs.Translated.{World}
use Rattle.driver_laws.specs.Laws.{File, file, opened_files, files_at, files_by, files_from}
use Rattle.driver_laws.proofs.Pieces.{Every, Piece, IsSpelled, words_of, words_both, all_both}

-- an input, or a mark
pub data Mark : Type 0 where
  input : List ℕ → Mark
  opens : Mark
  closes : Mark
  wholes : Mark
  parts : Mark

abbrev pub piece_of : Mark → Piece
piece_of (input p) = record { kind = kinds.Input; value = p; own = p ∷ [] }
piece_of opens = record { kind = kinds.StartLib; value = []; own = codes "--start-lib" ∷ [] }
piece_of closes = record { kind = kinds.EndLib; value = []; own = codes "--end-lib" ∷ [] }
piece_of wholes = record { kind = kinds.WholeArchive; value = []; own = codes "--whole-archive" ∷ [] }
piece_of parts = record { kind = kinds.NoWholeArchive; value = []; own = codes "--no-whole-archive" ∷ [] }

abbrev pub IsPlain : Mark → Type 0
IsPlain (input p) = begins_with_dash p ≡ false
IsPlain other = Unit {0}

pub mark_spelled : (m : Mark) → IsPlain m → IsSpelled (piece_of m)
mark_spelled (input p) plain = record { spells = λ at. inl (refl, refl, plain); more = refl }
mark_spelled opens plain = record { spells = λ at. inr (inr (record { name = codes "--start-lib"; takes = takes.Nothing; is_option = refl; spelled = (refl, refl) })); more = refl }
mark_spelled closes plain = record { spells = λ at. inr (inr (record { name = codes "--end-lib"; takes = takes.Nothing; is_option = refl; spelled = (refl, refl) })); more = refl }
mark_spelled wholes plain = record { spells = λ at. inr (inr (record { name = codes "--whole-archive"; takes = takes.Nothing; is_option = refl; spelled = (refl, refl) })); more = refl }
mark_spelled parts plain = record { spells = λ at. inr (inr (record { name = codes "--no-whole-archive"; takes = takes.Nothing; is_option = refl; spelled = (refl, refl) })); more = refl }

-- groups don't nest, and none is left open
abbrev pub nested : Bool → List Mark → Bool
nested inside [] = not inside
nested inside (input p ∷ ms) = nested inside ms
nested inside (opens ∷ ms) = not inside && nested true ms
nested inside (closes ∷ ms) = inside && nested false ms
nested inside (wholes ∷ ms) = nested inside ms
nested inside (parts ∷ ms) = nested inside ms

-- the files, with their modes
abbrev pub files_in : Bool → Bool → List Mark → List File
files_in lazy whole [] = []
files_in lazy whole (input p ∷ ms) = file lazy whole p ∷ files_in lazy whole ms
files_in lazy whole (opens ∷ ms) = files_in true whole ms
files_in lazy whole (closes ∷ ms) = files_in false whole ms
files_in lazy whole (wholes ∷ ms) = files_in lazy true ms
files_in lazy whole (parts ∷ ms) = files_in lazy false ms

-- ---- paths

dash : (path : List ℕ) (t : Bool) → begins (codes "-") path ≡ t → begins_with_dash (cond t (codes "./" ++ path) path) ≡ false
dash path true is = refl
dash [] false is = refl
dash (b ∷ path) false is = other (first (nat_eq 45 b) is)
  where
    first : (t : Bool) → (t && true) ≡ false → t ≡ false
    first true h = h
    first false h = refl

    other : nat_eq 45 b ≡ false → nat_eq b 45 ≡ false
    other h = grind (arith, nat_tests)

plain_is : (path : List ℕ) → begins_with_dash (plain path) ≡ false
plain_is path = dash path (begins (codes "-") path) refl

ok_is : {A E : Type 0} {a b : A} → (let r : Result A E = Ok a in r ≡ Ok b) → a ≡ b
ok_is e = cc

library_plain : (held : World) (folders : List (List ℕ)) (name path : List ℕ) → library_path held folders name ≡ Ok path → begins_with_dash path ≡ false
library_plain held folders name path e = by (found (λ n. is_some (held n)) folders (file_named name)) e
  where
    by : (f : Option (List ℕ)) → or_unfound name f ≡ Ok path → begins_with_dash path ≡ false
    by None e = absurd cc
    by (Some p) e = subst (λ (q : List ℕ). begins_with_dash q ≡ false) (ok_is e) (plain_is p)

started_plain : (held : World) (folders : List (List ℕ)) (value path : List ℕ) → started held folders (plain value) ≡ Ok path → begins_with_dash path ≡ false
started_plain held folders value path e = by (start_folder (plain value)) e
  where
    itself : (let r : Result (List ℕ) (List ℕ) = Ok (plain value) in r ≡ Ok path) → begins_with_dash path ≡ false
    itself e = subst (λ (q : List ℕ). begins_with_dash q ≡ false) (ok_is e) (plain_is value)

    other : (f : Option (List ℕ)) → or_refused (plain value) f ≡ Ok path → begins_with_dash path ≡ false
    other None e = absurd cc
    other (Some p) e = subst (λ (q : List ℕ). begins_with_dash q ≡ false) (ok_is e) (plain_is p)

    replaced : (folder : List ℕ) (t : Bool) → cond t (beside held folders (plain value) folder) (Ok (plain value)) ≡ Ok path → begins_with_dash path ≡ false
    replaced folder true e = other (found (λ name. is_some (held name)) (folder ∷ folders) (codes "crt1.o")) e
    replaced folder false e = itself e

    by : (f : Option (List ℕ)) → started_in held folders (plain value) f ≡ Ok path → begins_with_dash path ≡ false
    by None e = itself e
    by (Some folder) e = replaced folder (leaves (held (plain value))) e

-- ---- what an item gives

pub record Given (inside whole inside_then whole_then : Bool) (words : List (List ℕ)) (files : List File) : Type 0 where
  pub marks : List Mark
  pub words_are : words ≡ words_of (map piece_of marks)
  pub plain : Every IsPlain marks
  pub nests : (ms : List Mark) → nested inside (marks ++ ms) ≡ nested inside_then ms
  pub lists : (ms : List Mark) → files_in inside whole (marks ++ ms) ≡ files ++ files_in inside_then whole_then ms

paths_words : (names : List (List ℕ)) → names ≡ words_of (map piece_of (map input names))
paths_words [] = refl
paths_words (n ∷ names) = ap (λ (ns : List (List ℕ)). n ∷ ns) (paths_words names)

paths_plain : (library : List ℕ) (names : List (List ℕ)) → Every IsPlain (map input (map (member_path library) names))
paths_plain library [] = tt
paths_plain library (n ∷ names) = (plain_is (cond (begins (codes "/") n) n (folder_of library ++ n)), paths_plain library names)

paths_nest : (names : List (List ℕ)) (inside : Bool) (ms : List Mark) → nested inside (map input names ++ ms) ≡ nested inside ms
paths_nest [] inside ms = refl
paths_nest (n ∷ names) inside ms = paths_nest names inside ms

paths_list : (names : List (List ℕ)) (lazy whole : Bool) (ms : List Mark) → files_in lazy whole (map input names ++ ms) ≡ map (file lazy whole) names ++ files_in lazy whole ms
paths_list [] lazy whole ms = refl
paths_list (n ∷ names) lazy whole ms = ap (λ (fs : List File). file lazy whole n ∷ fs) (paths_list names lazy whole ms)

-- the members of a library, not as a group
as_paths : (inside whole : Bool) (names : List (List ℕ)) → Every IsPlain (map input names) → Given inside whole inside whole names (map (file inside whole) names)
as_paths inside whole names plain = record {
  marks = map input names;
  words_are = paths_words names;
  plain = plain;
  nests = λ ms. paths_nest names inside ms;
  lists = λ ms. paths_list names inside whole ms;
}

-- the members of a library as a group
as_group : (names : List (List ℕ)) → Every IsPlain (map input names) → Given false false false false (codes "--start-lib" ∷ (names ++ codes "--end-lib" ∷ [])) (map (file true false) names)
as_group names plain = record {
  marks = opens ∷ (map input names ++ closes ∷ []);
  words_are =
      ap (λ (ws : List (List ℕ)). codes "--start-lib" ∷ ws)
      (ap (λ (ws : List (List ℕ)). ws ++ codes "--end-lib" ∷ []) (paths_words names) ∙ sym (words_both (map piece_of (map input names)) (piece_of closes ∷ [])) ∙ ap words_of (sym (map_both (map input names) (closes ∷ []))));
  plain = (tt, all_both IsPlain (map input names) (closes ∷ []) plain (tt, tt));
  nests = λ ms. ap (nested true) (append_assoc (map input names) (closes ∷ []) ms) ∙ paths_nest names true (closes ∷ ms);
  lists = λ ms. ap (files_in true false) (append_assoc (map input names) (closes ∷ []) ms) ∙ paths_list names true false (closes ∷ ms);
}
  where
    map_both : (a b : List Mark) → map piece_of (a ++ b) ≡ map piece_of a ++ map piece_of b
    map_both [] b = refl
    map_both (m ∷ ms) b = ap (λ (ps : List Piece). piece_of m ∷ ps) (map_both ms b)

one_path : (inside whole : Bool) (p : List ℕ) → begins_with_dash p ≡ false → Given inside whole inside whole (p ∷ []) (file inside whole p ∷ [])
one_path inside whole p plain = record { marks = input p ∷ []; words_are = refl; plain = (plain, tt); nests = λ ms. refl; lists = λ ms. refl }

members_plain : (library : List ℕ) (text : Option (List ℕ)) → Every IsPlain (map input (members_in library text))
members_plain library None = tt
members_plain library (Some text) = paths_plain library (members_of text)

of_members : (inside whole : Bool) (names : List (List ℕ)) → Every IsPlain (map input names) → Given inside whole inside whole (grouped (inside || whole) names) (map (file (inside || not whole) whole) names)
of_members true whole names plain = as_paths true whole names plain
of_members false true names plain = as_paths false true names plain
of_members false false names plain = as_group names plain

of_path : (held : World) (inside whole : Bool) (p : List ℕ) → begins_with_dash p ≡ false → Given inside whole inside whole (opened held (inside || whole) p) (opened_files held inside whole p)
of_path held inside whole p plain = by (is_thin held p)
  where
    by : (t : Bool) → Given inside whole inside whole (cond t (grouped (inside || whole) (members_in p (held p))) (p ∷ [])) (cond t (map (file (inside || not whole) whole) (members_in p (held p))) (file inside whole p ∷ []))
    by true = of_members inside whole (members_in p (held p)) (members_plain p (held p))
    by false = one_path inside whole p plain

of_result : (held : World) (inside whole : Bool) (r : Result (List ℕ) (List ℕ)) (words : List (List ℕ)) → ((p : List ℕ) → r ≡ Ok p → begins_with_dash p ≡ false) → opened_of held (inside || whole) r ≡ Ok words
    → Given inside whole inside whole words (files_at held inside whole r)
of_result held inside whole (Err refusal) words plain e = absurd cc
of_result held inside whole (Ok p) words plain e =
    subst (λ (ws : List (List ℕ)). Given inside whole inside whole ws (opened_files held inside whole p)) (ok_is e) (of_path held inside whole p (plain p refl))

nothing : (inside whole : Bool) (words : List (List ℕ)) → (let r : Result (List (List ℕ)) (List ℕ) = Ok [] in r ≡ Ok words) → Given inside whole inside whole words []
nothing inside whole words e = subst (λ (ws : List (List ℕ)). Given inside whole inside whole ws []) (ok_is e) (record { marks = []; words_are = refl; plain = tt; nests = λ ms. refl; lists = λ ms. refl })

of_item : (held : World) (folders : List (List ℕ)) (inside whole : Bool) (m : Meaning) (value : List ℕ) (words : List (List ℕ)) → given_by held folders inside whole m value ≡ Ok words
    → Given inside whole (inside_after inside m) (whole_after whole m) words (files_by held folders inside whole m value)
of_item held folders inside whole meanings.Input value words e = of_result held inside whole (started held folders (plain value)) words (started_plain held folders value) e
of_item held folders inside whole meanings.Library value words e = of_result held inside whole (library_path held folders value) words (library_plain held folders value) e
of_item held folders true whole meanings.StartLib value words e = absurd cc
of_item held folders false whole meanings.StartLib value words e =
    subst (λ (ws : List (List ℕ)). Given false whole true whole ws []) (ok_is e) (record { marks = opens ∷ []; words_are = refl; plain = (tt, tt); nests = λ ms. refl; lists = λ ms. refl })
of_item held folders true whole meanings.EndLib value words e =
    subst (λ (ws : List (List ℕ)). Given true whole false whole ws []) (ok_is e) (record { marks = closes ∷ []; words_are = refl; plain = (tt, tt); nests = λ ms. refl; lists = λ ms. refl })
of_item held folders false whole meanings.EndLib value words e = absurd cc
of_item held folders inside whole meanings.WholeArchive value words e =
    subst (λ (ws : List (List ℕ)). Given inside whole inside true ws []) (ok_is e) (record { marks = wholes ∷ []; words_are = refl; plain = (tt, tt); nests = λ ms. refl; lists = λ ms. refl })
of_item held folders inside whole meanings.NoWholeArchive value words e =
    subst (λ (ws : List (List ℕ)). Given inside whole inside false ws []) (ok_is e) (record { marks = parts ∷ []; words_are = refl; plain = (tt, tt); nests = λ ms. refl; lists = λ ms. refl })
of_item held folders inside whole meanings.Drop value words e = nothing inside whole words e
of_item held folders inside whole meanings.Z value words e = nothing inside whole words e
of_item held folders inside whole meanings.Warn value words e = nothing inside whole words e
of_item held folders inside whole meanings.Refuse value words e = nothing inside whole words e
of_item held folders inside whole meanings.Output value words e = nothing inside whole words e
of_item held folders inside whole meanings.Entry value words e = nothing inside whole words e
of_item held folders inside whole meanings.NoEntry value words e = nothing inside whole words e
of_item held folders inside whole meanings.Export value words e = nothing inside whole words e
of_item held folders inside whole meanings.ExportIfDefined value words e = nothing inside whole words e
of_item held folders inside whole meanings.Undefined value words e = nothing inside whole words e
of_item held folders inside whole meanings.ExportDynamic value words e = nothing inside whole words e
of_item held folders inside whole meanings.NoExportDynamic value words e = nothing inside whole words e
of_item held folders inside whole meanings.ExportTable value words e = nothing inside whole words e
of_item held folders inside whole meanings.AllowUndefined value words e = nothing inside whole words e
of_item held folders inside whole meanings.ImportUndefined value words e = nothing inside whole words e
of_item held folders inside whole meanings.GcSections value words e = nothing inside whole words e
of_item held folders inside whole meanings.NoGcSections value words e = nothing inside whole words e
of_item held folders inside whole meanings.StackFirst value words e = nothing inside whole words e
of_item held folders inside whole meanings.NoStackFirst value words e = nothing inside whole words e
of_item held folders inside whole meanings.GlobalBase value words e = nothing inside whole words e
of_item held folders inside whole meanings.InitialMemory value words e = nothing inside whole words e
of_item held folders inside whole meanings.MaxMemory value words e = nothing inside whole words e
of_item held folders inside whole meanings.NoGrowableMemory value words e = nothing inside whole words e
of_item held folders inside whole meanings.ImportMemory value words e = nothing inside whole words e
of_item held folders inside whole meanings.ImportMemoryAs value words e = nothing inside whole words e
of_item held folders inside whole meanings.ExportMemory value words e = nothing inside whole words e
of_item held folders inside whole meanings.ExportMemoryAs value words e = nothing inside whole words e
of_item held folders inside whole meanings.StackSize value words e = nothing inside whole words e
of_item held folders inside whole meanings.Threads value words e = nothing inside whole words e
of_item held folders inside whole meanings.Quoting value words e = nothing inside whole words e
of_item held folders inside whole meanings.Folder value words e = nothing inside whole words e
of_item held folders inside whole meanings.Shared value words e = nothing inside whole words e
of_item held folders inside whole meanings.Relocatable value words e = nothing inside whole words e
of_item held folders inside whole meanings.FatalWarnings value words e = nothing inside whole words e
of_item held folders inside whole meanings.NoFatalWarnings value words e = nothing inside whole words e
of_item held folders inside whole meanings.TableBase value words e = nothing inside whole words e
of_item held folders inside whole meanings.PageSize value words e = nothing inside whole words e
of_item held folders inside whole meanings.InitialHeap value words e = nothing inside whole words e
of_item held folders inside whole meanings.Version value words e = nothing inside whole words e
of_item held folders inside whole meanings.Help value words e = nothing inside whole words e
of_item held folders inside whole meanings.Unresolved value words e = nothing inside whole words e
of_item held folders inside whole meanings.Machine value words e = nothing inside whole words e
of_item held folders inside whole meanings.StripAll value words e = nothing inside whole words e
of_item held folders inside whole meanings.StripDebug value words e = nothing inside whole words e
of_item held folders inside whole meanings.KeepSection value words e = nothing inside whole words e
of_item held folders inside whole meanings.CheckFeatures value words e = nothing inside whole words e
of_item held folders inside whole meanings.NoCheckFeatures value words e = nothing inside whole words e
of_item held folders inside whole meanings.Features value words e = nothing inside whole words e
of_item held folders inside whole meanings.ExtraFeatures value words e = nothing inside whole words e

-- ---- what all items give

pub record AreInputs (inside whole : Bool) (words : List (List ℕ)) (files : List File) : Type 0 where
  pub marks : List Mark
  pub words_are : words ≡ words_of (map piece_of marks)
  pub plain : Every IsPlain marks
  pub nests : nested inside marks ≡ true
  pub lists : files_in inside whole marks ≡ files

map_both : (a b : List Mark) → map piece_of (a ++ b) ≡ map piece_of a ++ map piece_of b
map_both [] b = refl
map_both (m ∷ ms) b = ap (λ (ps : List Piece). piece_of m ∷ ps) (map_both ms b)

joined : (inside whole inside_then whole_then : Bool) (first rest : List (List ℕ)) (files more : List File) → Given inside whole inside_then whole_then first files → AreInputs inside_then whole_then rest more
    → AreInputs inside whole (first ++ rest) (files ++ more)
joined inside whole inside_then whole_then first rest files more g r = record {
  marks = g.marks ++ r.marks;
  words_are = (λ i. g.words_are i ++ r.words_are i) ∙ sym (words_both (map piece_of g.marks) (map piece_of r.marks)) ∙ ap words_of (sym (map_both g.marks r.marks));
  plain = all_both IsPlain g.marks r.marks g.plain r.plain;
  nests = g.nests r.marks ∙ r.nests;
  lists = g.lists r.marks ∙ ap (λ (fs : List File). files ++ fs) r.lists;
}

and_rest : (held : World) (folders : List (List ℕ)) (items : List Said) (said : Said) (inside whole : Bool) (words : List (List ℕ)) (r : Result (List (List ℕ)) (List ℕ))
    → given_by held folders inside whole said.meaning said.value ≡ r → (s : Result (List (List ℕ)) (List ℕ))
    → ((rest : List (List ℕ)) → s ≡ Ok rest → AreInputs (inside_after inside said.meaning) (whole_after whole said.meaning) rest (files_from held folders (inside_after inside said.meaning) (whole_after whole said.meaning) items))
    → and_then r s ≡ Ok words
    → AreInputs inside whole words (files_by held folders inside whole said.meaning said.value ++ files_from held folders (inside_after inside said.meaning) (whole_after whole said.meaning) items)
and_rest held folders items said inside whole words (Err refusal) _ s more e = absurd cc
and_rest held folders items said inside whole words (Ok first) _ (Err refusal) more e = absurd cc
and_rest held folders items said inside whole words (Ok first) is (Ok rest) more e =
    subst (λ (ws : List (List ℕ)). AreInputs inside whole ws (files_by held folders inside whole said.meaning said.value ++ files_from held folders (inside_after inside said.meaning) (whole_after whole said.meaning) items)) (ok_is e)
    (joined inside whole (inside_after inside said.meaning) (whole_after whole said.meaning) first rest _ _
    (of_item held folders inside whole said.meaning said.value first is) (more rest refl))

pub inputs_are : (held : World) (folders : List (List ℕ)) (items : List Said) (inside whole : Bool) (words : List (List ℕ)) → inputs_from held folders inside whole items ≡ Ok words
    → AreInputs inside whole words (files_from held folders inside whole items)
inputs_are held folders [] true whole words e =
    subst (λ (ws : List (List ℕ)). AreInputs true whole ws []) (ok_is e) (record { marks = closes ∷ []; words_are = refl; plain = (tt, tt); nests = refl; lists = refl })
inputs_are held folders [] false whole words e = subst (λ (ws : List (List ℕ)). AreInputs false whole ws []) (ok_is e) (record { marks = []; words_are = refl; plain = tt; nests = refl; lists = refl })
inputs_are held folders (said ∷ items) inside whole words e =
    and_rest held folders items said inside whole words (given_by held folders inside whole said.meaning said.value) refl (inputs_from held folders (inside_after inside said.meaning) (whole_after whole said.meaning) items)
    (λ rest more. inputs_are held folders items (inside_after inside said.meaning) (whole_after whole said.meaning) rest more) e
