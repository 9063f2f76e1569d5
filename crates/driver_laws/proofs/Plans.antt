-- The linker's own words have a plan, whose inputs are the files that are named, and which is partial or isn't, shared or isn't, and keeps
-- debug sections or doesn't.
use Rattle.std.proofs.Common.{◌≡◌, ℕ, ◌+◌, Bool, true, false, not, ◌&&◌, ◌||◌, cond, List, [], ◌∷◌, ◌++◌, length, drop, map, unwrap_or, Option, Some, None, is_some, Result, Ok, Err, IsOk, refl, sym, ap, subst, ◌∙◌, append_assoc, length-append}
use Rattle.std.specs.Prelude.{codes}
use Rattle.std.specs.Option.{option_or, option_map}
use Rattle.wl_base.specs.Choice.{first_some, given}
use Rattle.wl_base.specs.declared.usage.Usage.{Usage}
use Rattle.wl_base.specs.declared.usage.Usage.TheVariants.{OpenGroup, CaseAndInput, NoInput, NoOutput, PartialClash}
use Rattle.link_plan.specs.declared.plan.Plan.{Plan}
use Rattle.link_plan.specs.declared.plan.FeatureWords.{FeatureWords}
use Rattle.link_plan.specs.declared.plan.InputWord.{InputWord}
use Rattle.link_words.specs.declared.kind.Kind.{Kind}
use Rattle.link_words.specs.declared.kind.Kind.TheVariants as kinds
use Rattle.link_words.specs.declared.range.Range.TheVariants.{Cases}
use Rattle.link_words.specs.Kinds.{same}
use Rattle.link_words.specs.Numbers.{number_in}
use Rattle.link_words.specs.Items.{Said as Item}
use Rattle.link_words.specs.Fields.{saying, has, group, latest, inputs_from, inputs}
use Rattle.link_words.specs.Faults.{group_fault, first_fault}
use Rattle.link_words.specs.Words.{plan_of, plan_from, word}
use Rattle.link_words.specs.WordLaws.{PlansAreCuts}
use Rattle.link_words.specs.Spelled.{Cuts}
use Rattle.driver_table.specs.Items.{Said}
use Rattle.driver_table.specs.Texts.{line}
use Rattle.driver_table.specs.Cut.{behind, cut_of}
use Rattle.driver_fields.specs.Values.{values_fault}
use Rattle.driver_fields.specs.Lacking.{lacking}
use Rattle.driver_fields.specs.Fields.{fatal, is_partial, is_shared, keeps_debug}
use Rattle.driver_fields.specs.Own.{own_words, warnings}
use Rattle.driver_fields.specs.Sections.{keeps_names, feature_words}
use Rattle.driver_words.specs.Expand.{expanded_to}
use Rattle.driver_words.specs.Inputs.{folders_of, inputs_of}
use Rattle.driver_words.specs.declared.answer.What.{What}
use Rattle.driver_words.specs.declared.answer.Answer.TheVariants.{Links, Refuses}
use Rattle.driver_words.specs.Translated.{World, then_answer, unless_refused, unless_said, links, links_with, asked, has_path, with_path, linked, answered, not_deeper, cut_and_answered, translated_words, is_flavor, under_flavor, first_and_rest, flavored_by, behind_flavor, translated_by}
use Rattle.driver_laws.specs.Laws.{File, file, named_files, planned_files, OwnWordsHavePlans, PlansNameTheFiles, PlansKeepDebug, PlansArePartial, PlansAreShared}
use Rattle.driver_laws.proofs.Pieces.{Every, Piece, IsSpelled, IsOption, is_plain, has_kind, words_of, words_both, placed, cuts, any_left}
use Rattle.driver_laws.proofs.Options.{own_have, not_both}
use Rattle.driver_laws.proofs.Inputs.{Mark, input, opens, closes, wholes, parts, piece_of, IsPlain, mark_spelled, nested, files_in, inputs_are}

-- ---- what a plain kind isn't

record Plain (kind : Kind) : Type 0 where
  is_input : same kind kinds.Input ≡ false
  is_start : same kind kinds.StartLib ≡ false
  is_end : same kind kinds.EndLib ≡ false
  is_whole : same kind kinds.WholeArchive ≡ false
  is_part : same kind kinds.NoWholeArchive ≡ false
  is_case : same kind kinds.MakeCase ≡ false

either_false : (a b : Bool) → not (a || b) ≡ true → (a ≡ false) × (not b ≡ true)
either_false true b h = absurd cc
either_false false b h = (refl, h)

not_true : (b : Bool) → not b ≡ true → b ≡ false
not_true true h = absurd cc
not_true false h = refl

plain_kind : (kind : Kind) → is_plain kind ≡ true → Plain kind
plain_kind kind h =
    let a = either_false (same kind kinds.Input) _ h in
    let b = either_false (same kind kinds.StartLib) _ a.1 in
    let c = either_false (same kind kinds.EndLib) _ b.1 in
    let d = either_false (same kind kinds.WholeArchive) _ c.1 in
    let e = either_false (same kind kinds.NoWholeArchive) _ d.1 in
    record { is_input = a.0; is_start = b.0; is_end = c.0; is_whole = d.0; is_part = e.0; is_case = not_true (same kind kinds.MakeCase) e.1 }

-- ---- no group is at fault, and none is left open

abbrev marked : List Mark → List Piece
marked ms = map piece_of ms

groups_stand : (ms : List Mark) (at : ℕ) (w : Option ℕ) → nested (is_some w) ms ≡ true → group_fault w (placed at (marked ms)) ≡ None
groups_stand [] at w h = refl
groups_stand (input p ∷ ms) at w h = groups_stand ms (at + 1) w h
groups_stand (opens ∷ ms) at None h = groups_stand ms (at + 1) (Some at) h
groups_stand (opens ∷ ms) at (Some k) h = absurd cc
groups_stand (closes ∷ ms) at None h = absurd cc
groups_stand (closes ∷ ms) at (Some k) h = groups_stand ms (at + 1) None h
groups_stand (wholes ∷ ms) at w h = groups_stand ms (at + 1) w h
groups_stand (parts ∷ ms) at w h = groups_stand ms (at + 1) w h

groups_close : (ms : List Mark) (at : ℕ) (w : Option ℕ) → nested (is_some w) ms ≡ true → latest group w (placed at (marked ms)) ≡ None
groups_close [] at None h = refl
groups_close [] at (Some k) h = absurd cc
groups_close (input p ∷ ms) at w h = groups_close ms (at + 1) w h
groups_close (opens ∷ ms) at None h = groups_close ms (at + 1) (Some at) h
groups_close (opens ∷ ms) at (Some k) h = absurd cc
groups_close (closes ∷ ms) at None h = absurd cc
groups_close (closes ∷ ms) at (Some k) h = groups_close ms (at + 1) None h
groups_close (wholes ∷ ms) at w h = groups_close ms (at + 1) w h
groups_close (parts ∷ ms) at w h = groups_close ms (at + 1) w h

-- behind options it is so too
faults_skip : (ps more : List Piece) → Every IsOption ps → ((at : ℕ) → group_fault None (placed at more) ≡ None) → (at : ℕ) → group_fault None (placed at (ps ++ more)) ≡ None
faults_skip [] more all h at = h at
faults_skip (p ∷ ps) more all h at =
    let k = plain_kind p.kind all.0.plain in
    (λ j. cond ((k.is_start j && false) || (k.is_end j && true)) (Some (OpenGroup at)) (group_fault (unwrap_or (option_or (given (k.is_start j) (Some at)) (given (k.is_end j) None)) None) (placed (at + length p.own) (ps ++ more))))
    ∙ faults_skip ps more all.1 h (at + length p.own)

opens_skip : (ps more : List Piece) → Every IsOption ps → ((at : ℕ) → latest group None (placed at more) ≡ None) → (at : ℕ) → latest group None (placed at (ps ++ more)) ≡ None
opens_skip [] more all h at = h at
opens_skip (p ∷ ps) more all h at =
    let k = plain_kind p.kind all.0.plain in
    (λ j. latest group (unwrap_or (option_or (given (k.is_start j) (Some at)) (given (k.is_end j) None)) None) (placed (at + length p.own) (ps ++ more)))
    ∙ opens_skip ps more all.1 h (at + length p.own)

-- ---- no case is asked for

abbrev case_from : Option ℕ → List Item → Option ℕ
case_from start items = latest (saying kinds.MakeCase (λ said. number_in Cases said.value)) start items

no_case : (ms : List Mark) (at : ℕ) → case_from None (placed at (marked ms)) ≡ None
no_case [] at = refl
no_case (input p ∷ ms) at = no_case ms (at + 1)
no_case (opens ∷ ms) at = no_case ms (at + 1)
no_case (closes ∷ ms) at = no_case ms (at + 1)
no_case (wholes ∷ ms) at = no_case ms (at + 1)
no_case (parts ∷ ms) at = no_case ms (at + 1)

case_skips : (ps more : List Piece) → Every IsOption ps → ((at : ℕ) → case_from None (placed at more) ≡ None) → (at : ℕ) → case_from None (placed at (ps ++ more)) ≡ None
case_skips [] more all h at = h at
case_skips (p ∷ ps) more all h at =
    let k = plain_kind p.kind all.0.plain in
    (λ j. case_from (unwrap_or (given (k.is_case j) (number_in Cases p.value)) None) (placed (at + length p.own) (ps ++ more))) ∙ case_skips ps more all.1 h (at + length p.own)

-- ---- there is an input

has_input : (ms : List Mark) (at : ℕ) → has_path (words_of (marked ms)) ≡ true → has kinds.Input (placed at (marked ms)) ≡ true
has_input [] at h = absurd cc
has_input (input p ∷ ms) at h = refl
has_input (opens ∷ ms) at h = has_input ms (at + 1) h
has_input (closes ∷ ms) at h = has_input ms (at + 1) h
has_input (wholes ∷ ms) at h = has_input ms (at + 1) h
has_input (parts ∷ ms) at h = has_input ms (at + 1) h

input_skips : (ps more : List Piece) → ((at : ℕ) → has kinds.Input (placed at more) ≡ true) → (at : ℕ) → has kinds.Input (placed at (ps ++ more)) ≡ true
input_skips [] more h at = h at
input_skips (p ∷ ps) more h at = by (same p.kind kinds.Input) (input_skips ps more h (at + length p.own))
  where
    by : (t : Bool) → has kinds.Input (placed (at + length p.own) (ps ++ more)) ≡ true → (t || has kinds.Input (placed (at + length p.own) (ps ++ more))) ≡ true
    by true h = refl
    by false h = h

-- ---- there is an output

output_from : (ps : List Piece) (at : ℕ) (w : Option (List ℕ)) → (has_kind kinds.Output ps || is_some w) ≡ true → is_some (latest (saying kinds.Output (λ said. Some said.value)) w (placed at ps)) ≡ true
output_from [] at w h = h
output_from (p ∷ ps) at w h = by (λ v t. output_from ps (at + length p.own) v t) (same p.kind kinds.Output) h
  where
    or_true : (b : Bool) → (b || true) ≡ true
    or_true true = refl
    or_true false = refl

    by : ((v : Option (List ℕ)) → (has_kind kinds.Output ps || is_some v) ≡ true → is_some (latest (saying kinds.Output (λ said. Some said.value)) v (placed (at + length p.own) ps)) ≡ true)
        → (t : Bool) → ((t || has_kind kinds.Output ps) || is_some w) ≡ true
        → is_some (latest (saying kinds.Output (λ said. Some said.value)) (unwrap_or (given t (Some p.value)) w) (placed (at + length p.own) ps)) ≡ true
    by rest true h = rest (Some p.value) (or_true (has_kind kinds.Output ps))
    by rest false h = rest w h

or_left : (a b : Bool) → a ≡ true → (a || b) ≡ true
or_left a b h = ap (λ t. t || b) h

-- ---- options alone say what is written

is_mark : Kind → Bool
is_mark kind = same kinds.Input kind || (same kinds.StartLib kind || (same kinds.EndLib kind || (same kinds.WholeArchive kind || same kinds.NoWholeArchive kind)))

no_first : (a b : Bool) → (a || b) ≡ false → (a ≡ false) × (b ≡ false)
no_first true b h = absurd cc
no_first false b h = (refl, h)

mark_kind : (kind : Kind) → is_mark kind ≡ false → (m : Mark) → same (piece_of m).kind kind ≡ false
unfolding is_mark
mark_kind kind h m =
    let a = no_first (same kinds.Input kind) _ h in
    let b = no_first (same kinds.StartLib kind) _ a.1 in
    let c = no_first (same kinds.EndLib kind) _ b.1 in
    let d = no_first (same kinds.WholeArchive kind) _ c.1 in
    by m a.0 b.0 c.0 d.0 d.1
  where
    by : (m : Mark) → same kinds.Input kind ≡ false → same kinds.StartLib kind ≡ false → same kinds.EndLib kind ≡ false → same kinds.WholeArchive kind ≡ false → same kinds.NoWholeArchive kind ≡ false
        → same (piece_of m).kind kind ≡ false
    by (input p) a b c d e = a
    by opens a b c d e = b
    by closes a b c d e = c
    by wholes a b c d e = d
    by parts a b c d e = e

marks_quiet : (kind : Kind) → is_mark kind ≡ false → (ms : List Mark) (at : ℕ) → has kind (placed at (marked ms)) ≡ false
marks_quiet kind none [] at = refl
marks_quiet kind none (m ∷ ms) at = (λ i. mark_kind kind none m i || has kind (placed (at + length (piece_of m).own) (marked ms))) ∙ marks_quiet kind none ms (at + length (piece_of m).own)

options_say : (kind : Kind) (ps more : List Piece) (at : ℕ) → ((at : ℕ) → has kind (placed at more) ≡ false) → has kind (placed at (ps ++ more)) ≡ has_kind kind ps
options_say kind [] more at h = h at
options_say kind (p ∷ ps) more at h = ap (λ (t : Bool). same p.kind kind || t) (options_say kind ps more (at + length p.own) h)

-- ---- no fault of all words together

all_none : (g : Option Usage) (o k : Option ℕ) (i : Bool) (t : Option (List ℕ)) (c : Bool) → g ≡ None → o ≡ None → k ≡ None → i ≡ true → is_some t ≡ true → c ≡ false
    → first_some (g ∷ None ∷ option_map OpenGroup o ∷ given (is_some k && i) CaseAndInput ∷ given (not (is_some k) && not i) NoInput ∷ given (not (is_some k) && not (is_some t)) NoOutput
    ∷ given c PartialClash ∷ []) ≡ None
all_none g o k i t c is_g is_o is_k is_i is_t is_c =
    (λ j. first_some (
    is_g j ∷ None ∷ option_map OpenGroup (is_o j) ∷ given (is_some (is_k j) && is_i j) CaseAndInput ∷ given (not (is_some (is_k j)) && not (is_i j)) NoInput
    ∷ given (not (is_some (is_k j)) && not (is_t j)) NoOutput ∷ given (is_c j) PartialClash ∷ []))

record Whole (ps : List Piece) (ms : List Mark) : Type 0 where
  all : Every IsOption ps
  output : has_kind kinds.Output ps ≡ true
  no_clash : (has_kind kinds.Shared ps && has_kind kinds.Partial ps) ≡ false
  nests : nested false ms ≡ true
  some : has_path (words_of (marked ms)) ≡ true

no_fault : (ps : List Piece) (ms : List Mark) → Whole ps ms → first_fault (placed 0 (ps ++ marked ms), None) ≡ None
unfolding first_fault is_mark
no_fault ps ms w =
    let case = case_skips ps (marked ms) w.all (λ at. no_case ms at) 0 in
    let shared = options_say kinds.Shared ps (marked ms) 0 (marks_quiet kinds.Shared refl ms) in
    let partial = options_say kinds.Partial ps (marked ms) 0 (marks_quiet kinds.Partial refl ms) in
    all_none _ _ _ _ _ _
    (faults_skip ps (marked ms) w.all (λ at. groups_stand ms at None w.nests) 0)
    (opens_skip ps (marked ms) w.all (λ at. groups_close ms at None w.nests) 0)
    case
    (input_skips ps (marked ms) (λ at. has_input ms at w.some) 0)
    (output_from (ps ++ marked ms) 0 None (or_left (has_kind kinds.Output (ps ++ marked ms)) false (any_left kinds.Output ps (marked ms) w.output)))
    ((λ j. (is_some (case j) || shared j) && partial j) ∙ w.no_clash)

-- ---- what the inputs of the plan name

abbrev look : List (List ℕ) → InputWord → File
look own i = file i.lazy i.whole (word own i.place)

word_at : (front rest : List (List ℕ)) (p : List ℕ) → word (front ++ p ∷ rest) (length front) ≡ p
word_at [] rest p = refl
word_at (w ∷ front) rest p = word_at front rest p

-- a word more in front
shifted : (front own : List (List ℕ)) (ps : List Piece) (lazy whole : Bool) (files : List File)
    → map (look ((front ++ own) ++ words_of ps)) (inputs_from lazy whole (placed (length (front ++ own)) ps)) ≡ files
    → map (look (front ++ (own ++ words_of ps))) (inputs_from lazy whole (placed (length front + length own) ps)) ≡ files
shifted front own ps lazy whole files e =
    (λ j. map (look (sym (append_assoc front own (words_of ps)) j)) (inputs_from lazy whole (placed (sym (length-append front own) j) ps))) ∙ e

marks_look : (ms : List Mark) (front : List (List ℕ)) (lazy whole : Bool) → map (look (front ++ words_of (marked ms))) (inputs_from lazy whole (placed (length front) (marked ms))) ≡ files_in lazy whole ms
marks_look [] front lazy whole = refl
marks_look (input p ∷ ms) front lazy whole =
    let tail = shifted front (p ∷ []) (marked ms) lazy whole _ (marks_look ms (front ++ p ∷ []) lazy whole) in
    (λ j. file lazy whole (word_at front (words_of (marked ms)) p j) ∷ tail j)
marks_look (opens ∷ ms) front lazy whole = shifted front (codes "--start-lib" ∷ []) (marked ms) true whole _ (marks_look ms (front ++ codes "--start-lib" ∷ []) true whole)
marks_look (closes ∷ ms) front lazy whole = shifted front (codes "--end-lib" ∷ []) (marked ms) false whole _ (marks_look ms (front ++ codes "--end-lib" ∷ []) false whole)
marks_look (wholes ∷ ms) front lazy whole = shifted front (codes "--whole-archive" ∷ []) (marked ms) lazy true _ (marks_look ms (front ++ codes "--whole-archive" ∷ []) lazy true)
marks_look (parts ∷ ms) front lazy whole = shifted front (codes "--no-whole-archive" ∷ []) (marked ms) lazy false _ (marks_look ms (front ++ codes "--no-whole-archive" ∷ []) lazy false)

options_look : (ps more : List Piece) (files : List File) → Every IsOption ps
    → ((front : List (List ℕ)) → map (look (front ++ words_of more)) (inputs_from false false (placed (length front) more)) ≡ files)
    → (front : List (List ℕ)) → map (look (front ++ words_of (ps ++ more))) (inputs_from false false (placed (length front) (ps ++ more))) ≡ files
options_look [] more files all h front = h front
options_look (p ∷ ps) more files all h front =
    let k = plain_kind p.kind all.0.plain in
    let own = front ++ (p.own ++ words_of (ps ++ more)) in
    let rest = placed (length front + length p.own) (ps ++ more) in
    (λ j. map (look own) (cond (k.is_input j) (record { place = length front; lazy = false; whole = false } ∷ inputs_from false false rest)
    (inputs_from (unwrap_or (option_or (given (k.is_start j) true) (given (k.is_end j) false)) false) (unwrap_or (option_or (given (k.is_whole j) true) (given (k.is_part j) false)) false) rest)))
    ∙ shifted front p.own (ps ++ more) false false files (options_look ps more files all.1 h (front ++ p.own))

-- ---- the translation, step by step

record Answered (held : World) (items : List Said) (own told : List (List ℕ)) (f n : Bool) (w : Option FeatureWords) : Type 0 where
  lacks : lacking items ≡ None
  links : linked held items ≡ Links own told f n w

answered_by : (held : World) (items : List Said) (own told : List (List ℕ)) (f n : Bool) (w : Option FeatureWords) (a : Option What) (v l : Option (List ℕ)) → lacking items ≡ l → unless_said a (unless_refused v (unless_refused l (linked held items))) ≡ Links own told f n w
    → Answered held items own told f n w
answered_by held items own told f n w (Some what) v l is e = absurd cc
answered_by held items own told f n w None (Some line) l is e = absurd cc
answered_by held items own told f n w None None (Some line) is e = absurd cc
answered_by held items own told f n w None None None is e = record { lacks = is; links = e }

record Linked (held : World) (items : List Said) (own : List (List ℕ)) : Type 0 where
  words : List (List ℕ)
  inputs_are : inputs_of held items ≡ Ok words
  own_is : own_words items ++ words ≡ own
  some : has_path words ≡ true

links_own : (t k : Bool) (v : Option FeatureWords) (words told own heard : List (List ℕ)) (f n : Bool) (w : Option FeatureWords) → links t k v words told ≡ Links own heard f n w → words ≡ own
links_own true k v words (line ∷ told) own heard f n w e = absurd cc
links_own true k v words [] own heard f n w e = cc
links_own false k v words told own heard f n w e = cc

drop_front : (front words : List (List ℕ)) → drop (length front) (front ++ words) ≡ words
drop_front [] words = refl
drop_front (w ∷ front) words = drop_front front words

linked_by : (held : World) (items : List Said) (own told : List (List ℕ)) (f n : Bool) (w : Option FeatureWords) (r : Result (List (List ℕ)) (List ℕ)) → inputs_of held items ≡ r
    → then_answer (with_path (length (own_words items)) (behind (own_words items) r)) (links_with items) ≡ Links own told f n w → Linked held items own
linked_by held items own told f n w (Err refusal) is e = absurd cc
linked_by held items own told f n w (Ok words) is e = by (has_path (drop (length (own_words items)) (own_words items ++ words))) refl e
  where
    by : (t : Bool) → has_path (drop (length (own_words items)) (own_words items ++ words)) ≡ t
        → then_answer (cond t (Ok (own_words items ++ words)) (Err (codes "no input files"))) (links_with items) ≡ Links own told f n w → Linked held items own
    by false some e = absurd cc
    by true some e = record {
      words = words;
      inputs_are = is;
      own_is = links_own (fatal items) (keeps_names items) (feature_words items) (own_words items ++ words) (warnings items) own told f n w e;
      some = ap has_path (sym (drop_front (own_words items) words)) ∙ some;
    }

-- ---- the plan

record Planned (held : World) (items : List Said) (own : List (List ℕ)) : Type 0 where
  plan : Plan
  is : plan_of own ≡ Ok plan
  names : planned_files own plan ≡ named_files held items
  partial : plan.partial ≡ is_partial items
  shared : plan.shared ≡ is_shared items
  debug : plan.keep_debug ≡ keeps_debug items

all_spelled : (ps : List Piece) (ms : List Mark) → Every IsOption ps → Every IsPlain ms → Every IsSpelled (ps ++ marked ms)
all_spelled [] [] a b = tt
all_spelled [] (m ∷ ms) a b = (mark_spelled m b.0, all_spelled [] ms tt b.1)
all_spelled (p ∷ ps) ms a b = (a.0.spelled, all_spelled ps ms a.1 b)

planned : PlansAreCuts → (held : World) (items : List Said) (own : List (List ℕ)) → lacking items ≡ None → Linked held items own → Planned held items own
unfolding plan_from is_mark
planned laws held items own lacks l =
    let o = own_have items lacks in
    let i = inputs_are held (folders_of items) items false false l.words l.inputs_are in
    let ps = o.pieces in
    let all = ps ++ marked i.marks in
    let own_is : own ≡ words_of all = sym l.own_is ∙ (λ j. o.words_are j ++ i.words_are j) ∙ sym (words_both ps (marked i.marks)) in
    let whole : Whole ps i.marks = record { all = o.all; output = o.output; no_clash = (λ j. o.shared_is j && o.partial_is j) ∙ not_both items lacks; nests = i.nests; some = ap has_path (sym i.words_are) ∙ l.some } in
    let cut = subst (λ (ws : List (List ℕ)). Cuts false 0 (placed 0 all) ws) (sym own_is) (cuts all 0 (all_spelled ps i.marks o.all i.plain)) in
    record {
      plan = plan_from (placed 0 all);
      is = (laws own (plan_from (placed 0 all))).1 (placed 0 all, cut, no_fault ps i.marks whole, refl);
      names =
          ap (λ (ws : List (List ℕ)). map (look ws) (inputs (placed 0 all))) own_is
          ∙ options_look ps (marked i.marks) (files_in false false i.marks) o.all (λ front. marks_look i.marks front false false) []
          ∙ i.lists;
      partial = options_say kinds.Partial ps (marked i.marks) 0 (marks_quiet kinds.Partial refl i.marks) ∙ o.partial_is;
      shared = options_say kinds.Shared ps (marked i.marks) 0 (marks_quiet kinds.Shared refl i.marks) ∙ o.shared_is;
      debug = options_say kinds.KeepDebug ps (marked i.marks) 0 (marks_quiet kinds.KeepDebug refl i.marks) ∙ o.debug;
    }

of_answer : PlansAreCuts → (held : World) (items : List Said) (own told : List (List ℕ)) (f n : Bool) (w : Option FeatureWords) → answered held items ≡ Links own told f n w → Planned held items own
of_answer laws held items own told f n w e =
    let a = answered_by held items own told f n w (asked items) (values_fault items) (lacking items) refl e in
    planned laws held items own a.lacks (linked_by held items own told f n w (inputs_of held items) refl a.links)

is_plan : (r : Result Plan Usage) (plan : Plan) → r ≡ Ok plan → IsOk r
is_plan (Ok plan) other e = refl
is_plan (Err fault) other e = absurd cc

same_plan : (own : List (List ℕ)) (a b : Plan) → plan_of own ≡ Ok a → plan_of own ≡ Ok b → a ≡ b
same_plan own a b one other = cc

pub name_files : PlansAreCuts → PlansNameTheFiles
name_files laws held items own told f n w plan e is =
    let p = of_answer laws held items own told f n w e in
    ap (planned_files own) (same_plan own plan p.plan is p.is) ∙ p.names

pub keep_debug : PlansAreCuts → PlansKeepDebug
keep_debug laws held items own told f n w plan e is =
    let p = of_answer laws held items own told f n w e in
    ap (λ (q : Plan). q.keep_debug) (same_plan own plan p.plan is p.is) ∙ p.debug

pub are_partial : PlansAreCuts → PlansArePartial
are_partial laws held items own told f n w plan e is =
    let p = of_answer laws held items own told f n w e in
    ap (λ (q : Plan). q.partial) (same_plan own plan p.plan is p.is) ∙ p.partial

pub are_shared : PlansAreCuts → PlansAreShared
are_shared laws held items own told f n w plan e is =
    let p = of_answer laws held items own told f n w e in
    ap (λ (q : Plan). q.shared) (same_plan own plan p.plan is p.is) ∙ p.shared

-- ---- from the words

module _ (laws : PlansAreCuts) (held : World) (own told : List (List ℕ)) (f n : Bool) (w : Option FeatureWords) where
  of_cut : (r : Result (List Said) (List ℕ)) → then_answer r (answered held) ≡ Links own told f n w → IsOk (plan_of own)
  of_cut (Err refusal) e = absurd cc
  of_cut (Ok items) e = let p = of_answer laws held items own told f n w e in is_plan (plan_of own) p.plan p.is

  of_expanded : (r : Result (List (List ℕ)) (List ℕ)) → then_answer (not_deeper r) (cut_and_answered held) ≡ Links own told f n w → IsOk (plan_of own)
  of_expanded (Err name) e = absurd cc
  of_expanded (Ok words) e = of_cut (cut_of words) e

  of_words : (words : List (List ℕ)) → translated_words held words ≡ Links own told f n w → IsOk (plan_of own)
  of_words words e = of_expanded (expanded_to 20 held words) e

  of_flavor : (name : List ℕ) (words : List (List ℕ)) → under_flavor held name words ≡ Links own told f n w → IsOk (plan_of own)
  of_flavor name words e = by (is_flavor name) e
    where
      by : (t : Bool) → cond t (translated_words held words) (Refuses (line (codes "unknown flavor: ") name [] [])) ≡ Links own told f n w → IsOk (plan_of own)
      by true e = of_words words e
      by false e = absurd cc

  of_flavored : (p : Option (List ℕ × List (List ℕ))) → flavored_by held p ≡ Links own told f n w → IsOk (plan_of own)
  of_flavored None e = absurd cc
  of_flavored (Some p) e = of_flavor p.0 p.1 e

  of_translated : (words : List (List ℕ)) (flavor : Option (List (List ℕ))) → translated_by held words flavor ≡ Links own told f n w → IsOk (plan_of own)
  of_translated words None e = of_words words e
  of_translated words (Some flavor) e = of_flavored (first_and_rest flavor) e

pub have_plans : PlansAreCuts → OwnWordsHavePlans
have_plans laws held words own told f n w e = of_translated laws held own told f n w words (behind_flavor words) e
