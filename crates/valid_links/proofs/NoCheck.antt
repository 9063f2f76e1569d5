-- A link without the check never has the fault of the check: no step of its definition gives it.
use Rattle.std.proofs.Common.{◌≡◌, inl, inr, ℕ, zero, suc, ◌+◌, ◌^◌, nat_lt, Bool, true, false, List, [], ◌∷◌, ◌++◌, length, map, refl, sym, subst, Option, Some, None, Result, Ok, Err}
use Rattle.std.specs.Prelude.{if◌then◌else◌, option_map, option_and_then, find}
use Rattle.list_places.specs.Has.{Has}
use Rattle.list_places.proofs.Lists.{has_filter, has_map}
use Rattle.object_file.specs.wl_base.Choice.{given, first_some, unless, ◌>>=◌}
use Rattle.object_file.specs.wl_base.declared.fault.Fault.{Fault}
use Rattle.object_file.specs.wl_base.declared.fault.Fault.TheVariants.{TooLong, Invalid}
use Rattle.object_file.specs.wl_base.declared.fault.InvalidAt.{InvalidAt}
use Rattle.object_file.specs.wasm_module.wasm_instr.wasm_grammar.declared.fault.Stop.{Stop}
use Rattle.object_file.specs.wasm_module.wasm_instr.wasm_grammar.declared.fault.Stop.TheVariants.{Broken, Foreign}
use Rattle.object_file.specs.wasm_module.wasm_sections.declared.section.SectionSpan.{SectionSpan}
use Rattle.object_file.specs.wasm_module.wasm_sections.declared.fault.FrameFault.{FrameFault}
use Rattle.object_file.specs.wasm_module.wasm_sections.Reading.{frame_at}
use Rattle.object_file.specs.object_parts.declared.parts.Parts.{Parts}
use Rattle.object_file.specs.object_parts.declared.reading.SectionStop.{SectionStop}
use Rattle.object_file.specs.object_parts.Reading.{parts_of}
use Rattle.object_file.specs.object_rules.Rules.{broken_rule}
use Rattle.object_file.specs.declared.object.Object.{Object}
use Rattle.object_file.specs.ObjectOf.{section_fault, agreed, spelled_object, framed_object, object_of}
use Rattle.made_symbols.specs.declared.mode.Mode.{Mode}
use Rattle.made_symbols.specs.declared.mode.Mode.TheVariants.{Plain, Shared}
use Rattle.link_plan.specs.declared.plan.Plan.{Plan}
use Rattle.link_plan.specs.declared.plan.InputWord.{InputWord}
use Rattle.link_runs.specs.link_facts.link_worlds.link_rules.name_rules.Entries.{InputSymbol, name_of}
use Rattle.link_runs.specs.link_facts.link_worlds.link_rules.name_rules.Cases.{first_entry, judge, breaks, differs, clashes, clash_of, clash, clash_beside, other_import, broken, loose_clash, clash_by, first_strong, is_duplicate, duplicate_of, duplicate}
use Rattle.link_runs.specs.link_facts.link_worlds.link_rules.round_rules.Rounds.{Candidate, Added, fault_in, object_fault, is_always_read, always_read_fault, wanted_names, objects_of, added_with, adds_any, added_fault_in, added_fault, inputs_of, go_on, next_adds, rounds, at_once, loaded_inputs, load}
use Rattle.link_runs.specs.link_facts.link_worlds.link_rules.Candidates.{opened_library, opened, is_library, candidates_in, candidates_from, too_much_input, too_many_inputs, words_for, candidates_of}
use Rattle.link_runs.specs.link_facts.link_worlds.link_rules.ModeOf.{mode_of}
use Rattle.link_runs.specs.link_facts.link_worlds.link_rules.Program.{Program, Part, program_of}
use Rattle.link_runs.specs.link_facts.link_worlds.link_rules.Values.{Layout}
use Rattle.link_runs.specs.link_facts.link_worlds.link_rules.Output.{layout, image, source_windows}
use Rattle.link_runs.specs.link_facts.link_worlds.link_rules.image_emit.declared.tree.Image.{Image}
use Rattle.link_runs.specs.link_facts.link_worlds.link_rules.Marks.{Given, demanded, exported, given_names, repeated_by, first_repeat, repeated_export, live, pic_fault, missing, unresolved, uncalled}
use Rattle.link_runs.specs.link_facts.link_worlds.link_rules.LinkOf.{asked_names, too_many_names, passed_fault, memory_fault, table_fault, output_fault, reference_fault, output_bytes, written, laid_out, marked, link_program, link_by, the_readers, link_of}

-- ---- what is looked at

abbrev is_check : Fault → Bool
is_check (Invalid at) = true
is_check _ = false

-- there is no fault, or another one
abbrev Free : Option Fault → Type 0
Free None = Unit {0}
Free (Some f) = is_check f ≡ false

abbrev pub NotRefused : {A : Type 0} → Result A Fault → Type 0
NotRefused (Ok a) = Unit {0}
NotRefused (Err f) = is_check f ≡ false

then_free : {A B : Type 0} (r : Result A Fault) (next : A → Result B Fault) → NotRefused r → ((a : A) → r ≡ Ok a → NotRefused (next a)) → NotRefused (r >>= next)
then_free (Ok a) next first later = later a refl
then_free (Err f) next first later = first

unless_free : {A : Type 0} (o : Option Fault) (a : A) → Free o → NotRefused (unless o a)
unless_free None a free = tt
unless_free (Some f) a free = free

guard_free : {A B : Type 0} (o : Option Fault) (a : A) (next : A → Result B Fault) → Free o → NotRefused (next a) → NotRefused (unless o a >>= next)
guard_free None a next free later = later
guard_free (Some f) a next free later = free

given_free : (b : Bool) (f : Fault) → is_check f ≡ false → Free (given b f)
given_free true f other = other
given_free false f other = tt

map_free : {A : Type 0} (g : A → Fault) (o : Option A) → ((a : A) → is_check (g a) ≡ false) → Free (option_map g o)
map_free g None other = tt
map_free g (Some a) other = other a

and_then_free : {A : Type 0} (k : A → Option Fault) (o : Option A) → ((a : A) → Free (k a)) → Free (option_and_then k o)
and_then_free k None free = tt
and_then_free k (Some a) free = free a

first_free : (o : Option Fault) (rest : List (Option Fault)) → Free o → Free (first_some rest) → Free (first_some (o ∷ rest))
first_free None rest free later = later
first_free (Some f) rest free later = free

all_free : {A : Type 0} (g : A → Option Fault) (xs : List A) → ((x : A) → Has xs x → Free (g x)) → Free (first_some (map g xs))
all_free g [] free = tt
all_free g (x ∷ xs) free = first_free (g x) (map g xs) (free x (inl refl)) (all_free g xs (λ y h. free y (inr h)))

-- ---- reading

cond_free : {A : Type 0} (b : Bool) (x y : Result A Fault) → NotRefused x → NotRefused y → NotRefused (if b then x else y)
cond_free true x y first later = first
cond_free false x y first later = later

section_free : (input section : ℕ) (stop : Stop) → is_check (section_fault input section stop) ≡ false
section_free input section (Broken place) = refl
section_free input section (Foreign item) = refl

agreed_free : (input : ℕ) (all : List SectionSpan) (parts : Parts) (o : Option ℕ) → NotRefused (agreed input all parts o)
agreed_free input all parts None = tt
agreed_free input all parts (Some rule) = refl

spelled_free : (input : ℕ) (bytes : List ℕ) (all : List SectionSpan) (r : Result Parts SectionStop) → NotRefused (spelled_object input bytes all r)
spelled_free input bytes all (Ok parts) = agreed_free input all parts (broken_rule all bytes parts)
spelled_free input bytes all (Err e) = section_free input e.section e.stop

framed_free : (input : ℕ) (bytes : List ℕ) (r : Result (List SectionSpan) FrameFault) → NotRefused (framed_object input bytes r)
framed_free input bytes (Ok all) = spelled_free input bytes all (parts_of all bytes)
framed_free input bytes (Err e) = refl

object_free : (input : ℕ) (bytes : List ℕ) → NotRefused (object_of input bytes)
unfolding object_of
object_free input bytes =
    cond_free (nat_lt (2 ^ 30) (length bytes)) (Err (TooLong input (length bytes))) (framed_object input bytes (frame_at bytes)) refl (framed_free input bytes (frame_at bytes))

library_free : (file : ℕ) (r : _) → NotRefused (opened_library file r)
library_free file (Ok l) = tt
library_free file (Err fault) = refl

opened_free : (file : ℕ) (bytes : List ℕ) (b : Bool) → NotRefused (opened the_readers file bytes b)
opened_free file bytes false = tt
opened_free file bytes true = library_free file (the_readers.library bytes)

from_free : (file : ℕ) (found : List Candidate) (ws : List InputWord) (files : List (List ℕ)) → NotRefused (candidates_from the_readers file found ws files)
from_free file found [] files = tt
from_free file found (w ∷ ws) [] = tt
from_free file found (w ∷ ws) (bytes ∷ files) =
    then_free (opened the_readers file bytes (is_library bytes)) _ (opened_free file bytes (is_library bytes))
    (λ o is. from_free (file + 1) (found ++ candidates_in the_readers file w bytes (length found + 1) o) ws files)

candidates_free : (plan : Plan) (files : List (List ℕ)) → NotRefused (candidates_of the_readers plan files)
unfolding candidates_of
candidates_free plan files =
    guard_free (too_much_input files) (words_for plan.make_case plan.inputs files) _ (given_free _ _ refl)
    (then_free (candidates_from the_readers 0 [] (words_for plan.make_case plan.inputs files) files) (λ all. unless (too_many_inputs all) all)
    (from_free 0 [] (words_for plan.make_case plan.inputs files) files) (λ all is. unless_free (too_many_inputs all) all (given_free _ _ refl)))

-- ---- loading

fault_free : (r : Result Object Fault) → NotRefused r → Free (fault_in r)
fault_free (Ok o) free = tt
fault_free (Err f) free = free

added_free : (a : Added) (r : Result Object Fault) → NotRefused r → Free (added_fault_in a r)
added_free a (Err f) free = free
added_free a (Ok o) free = map_free _ _ (λ name. refl)

module _ (mode : Mode) (asked : List (List ℕ)) (all : List Candidate) (each : (c : Candidate) → Has all c → NotRefused c.object) where
  new_free : (loaded : List ℕ) (a : Added) → Has (next_adds mode asked all loaded) a → NotRefused a.candidate.object
  new_free loaded a h =
      let wanted = wanted_names mode asked (objects_of all loaded) in
      let m = has_map (added_with all wanted) _ a (has_filter adds_any _ a h).0 in
      subst (λ (a : Added). NotRefused a.candidate.object) m.2 (each m.0 (has_filter _ all m.0 m.1).0)

  go_free : (again : List ℕ → Result (List ℕ) Fault) (loaded : List ℕ) (new : List Added) → ((xs : List ℕ) → NotRefused (again xs)) → ((a : Added) → Has new a → NotRefused a.candidate.object)
      → NotRefused (go_on again loaded new)
  go_free again loaded [] more free = tt
  go_free again loaded (a ∷ as') more free =
      guard_free (first_some (map added_fault (a ∷ as'))) (loaded ++ inputs_of (a ∷ as')) again
      (all_free added_fault (a ∷ as') (λ b h. added_free b b.candidate.object (free b h))) (more (loaded ++ inputs_of (a ∷ as')))

  rounds_free : (n : ℕ) (loaded : List ℕ) → NotRefused (rounds mode asked all n loaded)
  rounds_free zero loaded = tt
  rounds_free (suc n) loaded = go_free (rounds mode asked all n) loaded (next_adds mode asked all loaded) (rounds_free n) (new_free loaded)

  load_free : NotRefused (load mode asked all)
  unfolding load
  load_free =
      then_free (loaded_inputs mode asked all) _
      (guard_free (always_read_fault all) (at_once all) (rounds mode asked all (length all + 1))
      (all_free object_fault _ (λ c h. fault_free c.object (each c (has_filter is_always_read all c h).0))) (rounds_free (length all + 1) (at_once all)))
      (λ loaded is. tt)

-- ---- names

beside_free : (test : InputSymbol → InputSymbol → Bool) (beside : List ℕ → Option InputSymbol) (all : List InputSymbol) → Free (clash_beside test beside all)
beside_free test beside all = and_then_free _ _ (λ e. map_free (clash_of e) (beside (name_of e)) (λ a. refl))

clash_free : (loose : Bool) (all : List InputSymbol) → Free (clash_by loose all)
unfolding clash loose_clash
clash_free false all =
    and_then_free (λ e. option_map (clash_of e) (first_entry all (name_of e))) (find (clashes all) all) (λ e. map_free (clash_of e) (first_entry all (name_of e)) (λ a. refl))
clash_free true all =
    first_free (other_import all) (broken all ∷ []) (beside_free differs (first_entry all) all) (first_free (broken all) [] (beside_free breaks (judge all) all) tt)

duplicate_free : (all : List InputSymbol) → Free (duplicate all)
unfolding duplicate
duplicate_free all =
    and_then_free (λ e. option_map (duplicate_of e) (first_strong all (name_of e))) (find (is_duplicate all) all) (λ e. map_free (duplicate_of e) (first_strong all (name_of e)) (λ a. refl))

names_free : (p : Program) → Free (too_many_names p)
unfolding too_many_names
names_free p = given_free _ _ refl

-- ---- exports and marks

repeat_free : (earlier given : List Given) → Free (first_repeat earlier given)
repeat_free earlier [] = tt
repeat_free earlier (g ∷ gs) = first_free (repeated_by earlier g) _ (map_free _ _ (λ f. refl)) (first_free (first_repeat (earlier ++ g ∷ []) gs) [] (repeat_free (earlier ++ g ∷ []) gs) tt)

export_free : (mode : Mode) (p : Program) (es : List InputSymbol) → Free (repeated_export mode p es)
unfolding repeated_export
export_free mode p es = repeat_free [] (given_names mode p es)

pic_free : (mode : Mode) (parts : List Part) → Free (pic_fault mode parts)
unfolding pic_fault
pic_free Plain parts = tt
pic_free Shared parts = map_free _ _ (λ ref. refl)

open_free : (p : Program) (parts : List Part) → Free (unresolved p parts)
unfolding unresolved
open_free p parts =
    first_free (first_some (map (missing p) (demanded p.plan))) _ (all_free (missing p) (demanded p.plan) (λ name h. given_free _ _ refl))
    (first_free _ [] (map_free _ _ (λ e. refl)) tt)

uncalled_free : (mode : Mode) (p : Program) (parts : List Part) → Free (uncalled mode p parts)
unfolding uncalled
uncalled_free Plain p parts = given_free _ _ refl
uncalled_free Shared p parts = tt

-- ---- the output

memory_free : (mode : Mode) (p : Program) (parts : List Part) → Free (memory_fault mode p parts)
unfolding memory_fault
memory_free mode p parts = map_free passed_fault _ (λ x. refl)

table_free : (l : Layout) → Free (table_fault l)
unfolding table_fault
table_free l = map_free _ _ (λ n. refl)

output_free : (p : Program) (i : Image) → Free (output_fault p i)
unfolding output_fault
output_free p i = given_free _ _ refl

written_free : (mode : Mode) (p : Program) (i : Image) (wss : _) → NotRefused (written mode p i wss)
unfolding written reference_fault
written_free mode p i wss =
    guard_free (output_fault p i) i _ (output_free p i)
    (guard_free (reference_fault wss) wss (λ wss. Ok (output_bytes mode p i wss)) (map_free _ _ (λ n. refl)) tt)

laid_free : (mode : Mode) (p : Program) (es : List InputSymbol) (parts : List Part) → NotRefused (laid_out mode p es parts)
unfolding laid_out
laid_free mode p es parts =
    guard_free (memory_fault mode p parts) parts _ (memory_free mode p parts)
    (guard_free (table_fault (layout mode p parts es)) (layout mode p parts es) _ (table_free (layout mode p parts es))
    (written_free mode p (image mode p parts es (layout mode p parts es)) (source_windows mode p parts es (layout mode p parts es))))

marked_free : (mode : Mode) (p : Program) (es : List InputSymbol) → NotRefused (marked mode p es)
unfolding marked
marked_free mode p es =
    guard_free (pic_fault mode (live p es)) (live p es) _ (pic_free mode (live p es))
    (guard_free (unresolved p (live p es)) (live p es) _ (open_free p (live p es))
    (guard_free (uncalled mode p (live p es)) (live p es) _ (uncalled_free mode p (live p es)) (laid_free mode p es (live p es))))

program_free : (mode : Mode) (p : Program) → NotRefused (link_program mode p)
unfolding link_program
program_free mode p =
    guard_free (too_many_names p) p _ (names_free p)
    (guard_free (clash_by p.plan.loose_calls p.entries) p _ (clash_free p.plan.loose_calls p.entries)
    (guard_free (duplicate p.entries) p _ (duplicate_free p.entries)
    (guard_free (repeated_export mode p (exported mode p)) (exported mode p) _ (export_free mode p (exported mode p)) (marked_free mode p (exported mode p)))))

-- ---- all

-- given that each candidate is read of some bytes
pub link_free : (plan : Plan) (files : List (List ℕ))
    → ((all : List Candidate) → candidates_of the_readers plan files ≡ Ok all → (c : Candidate) → Has all c → (bytes : List ℕ) × (c.object ≡ object_of c.input bytes)) → NotRefused (link_of plan files)
unfolding link_of link_by
link_free plan files read =
    then_free (candidates_of the_readers plan files) _ (candidates_free plan files)
    (λ all is.
    then_free (load (mode_of plan) (asked_names plan) all) _
    (load_free (mode_of plan) (asked_names plan) all (λ c h. let b = read all is c h in subst NotRefused (sym b.1) (object_free c.input b.0)))
    (λ objects got. program_free (mode_of plan) (program_of (mode_of plan) plan files all objects)))

pub not_check : {A : Type 0} (r : Result A Fault) (at : InvalidAt) → NotRefused r → r ≡ Err (Invalid at) → ⊥
not_check r at free is = let h : true ≡ false = subst NotRefused is free in absurd cc
