-- What stands behind a module: how long both are, which faults there are, and what is told of it before the module is written.
use Rattle.std.proofs.Common.{◌≡◌, ℕ, ◌+◌, ◌-◌, ◌<◌, ◌^◌, nat_lt, Bool, true, false, List, [], ◌∷◌, ◌++◌, length, filter, Option, Some, None, Result, Ok, Err, refl, ap, ◌∙◌, arith, length-append}
use Rattle.std.specs.Prelude.{◌==◌, if◌then◌else◌, IfOk}
use Rattle.std.proofs.lemmas.Bool.{ltb-false}
use Rattle.link_output.specs.link_program.wl_base.Choice.{given, unless, ◌>>=◌}
use Rattle.link_output.specs.link_program.wl_base.declared.fault.Fault.{Fault}
use Rattle.link_output.specs.link_program.wl_base.declared.fault.Fault.TheVariants.{DebugTooLong, Invalid}
use Rattle.link_output.specs.link_program.wl_base.declared.fault.InvalidAt.{InvalidAt}
use Rattle.link_output.specs.link_program.object_file.declared.object.Object.{Object}
use Rattle.link_output.specs.link_program.linking_section.declared.symbol.Symbol.{Symbol}
use Rattle.link_output.specs.link_program.made_symbols.declared.mode.Mode.{Mode}
use Rattle.link_output.specs.link_program.round_rules.Rounds.{Candidate, load}
use Rattle.link_output.specs.link_program.name_rules.Entries.{InputSymbol}
use Rattle.link_output.specs.link_program.link_plan.declared.plan.Plan.{Plan}
use Rattle.link_output.specs.link_program.link_rules.ModeOf.{mode_of}
use Rattle.link_output.specs.link_program.link_rules.Candidates.{candidates_of}
use Rattle.link_output.specs.link_program.link_rules.Program.{Program, Part, program_of}
use Rattle.link_output.specs.link_program.link_rules.LinkOf.{asked_names, the_readers, link_program, link_by, link_of}
use Rattle.link_output.specs.link_program.declared.error.LinkError.{LinkError}
use Rattle.debug_rules.specs.Sections.{Custom, customs, is_debug, payloads_for}
use Rattle.debug_rules.specs.Faults.{Input, Debug, relocs_in, debug_at, debugs_from, debug_places, debugs_of, debugs}
use Rattle.debug_rules.specs.Joined.{Places, length_fault, tail_of, joined}
use Rattle.link_output.specs.link_program.reloc_section.declared.entry.Reloc.{Reloc}
use Rattle.link_tails.specs.debug_tails.link_debug.Places.{link_inputs}
use Rattle.link_tails.specs.debug_tails.Tails.{live_tail, laid_tail}
use Rattle.object_features.specs.Tail.{feature_tail}
use Rattle.object_features.proofs.Customs.{dont_judge}
use Rattle.link_tails.specs.Tails.{laid_names, laid_features, laid_more, further, both_tails, laid_whole, program_whole, whole_tail_by, whole_tail, with_tail}
use Rattle.link_core.specs.declared.prepared.Prepared.{Prepared}
use Rattle.link_core.specs.Answers.{Answers, IsShort}
use Rattle.link_core.specs.Chosen.{stage_of}
use Rattle.link_core.specs.Loading.{Loading, program_in}
use Rattle.link_core.specs.Tails.{TellsTail, stage_tail}

-- ---- the sections have no fault of the check

abbrev NeverInvalid : {A : Type 0} → Result A Fault → Type 0
NeverInvalid (Ok a) = Unit {0}
NeverInvalid (Err f) = (at : InvalidAt) → f ≡ Invalid at → ⊥

never_by : {A B : Type 0} (r : Result A Fault) (next : A → Result B Fault) → NeverInvalid r → ((a : A) → NeverInvalid (next a)) → NeverInvalid (r >>= next)
never_by (Ok a) next first others = others a
never_by (Err f) next first others = first

one_judged : (object input : ℕ) (symbols : List Symbol) (c : Custom) (o : Option (List Reloc)) → NeverInvalid (debug_at object input symbols c o)
one_judged object input symbols c None = λ at e. absurd cc
one_judged object input symbols c (Some rs) = tt

some_judged : (object input : ℕ) (symbols : List Symbol) (debug : List ℕ) (all cs : List Custom) → NeverInvalid (debugs_from object input symbols debug all cs)
some_judged object input symbols debug all [] = tt
some_judged object input symbols debug all (c ∷ cs) =
    let found = relocs_in debug symbols (length c.content) (payloads_for c.at all) in
    never_by (debug_at object input symbols c found) (λ (d : Debug). debugs_from object input symbols debug all cs >>= λ ds. Ok (d ∷ ds)) (one_judged object input symbols c found)
    (λ d. never_by (debugs_from object input symbols debug all cs) (λ (ds : List Debug). Ok (d ∷ ds)) (some_judged object input symbols debug all cs) (λ ds. tt))

object_judged : (object : ℕ) (i : Input) → NeverInvalid (debugs_of object i)
unfolding debugs_of
object_judged object i = some_judged object i.input i.symbols (debug_places (customs i.bytes)) (customs i.bytes) (filter is_debug (customs i.bytes))

all_judged : (object : ℕ) (is : List Input) → NeverInvalid (debugs object is)
all_judged object [] = tt
all_judged object (i ∷ is) =
    never_by (debugs_of object i) (λ (d : List Debug). debugs (object + 1) is >>= λ ds. Ok (d ++ ds)) (object_judged object i)
    (λ d. never_by (debugs (object + 1) is) (λ (ds : List Debug). Ok (d ++ ds)) (all_judged (object + 1) is) (λ ds. tt))

long_judged : (b : Bool) (n : ℕ) (tail : List ℕ) → NeverInvalid (unless (given b (DebugTooLong n)) tail)
long_judged true n tail = λ at e. absurd cc
long_judged false n tail = tt

-- ---- with them there are fewer than 2^31 bytes

abbrev Within : ℕ → Result (List ℕ) Fault → Type 0
Within len (Ok tail) = len + length tail < 2 ^ 31
Within len (Err f) = Unit {0}

if_short : (b : Bool) (len : ℕ) (tail : List ℕ) → nat_lt (2 ^ 31 - 1) (len + length tail) ≡ b → Within len (unless (given b (DebugTooLong (len + length tail))) tail)
if_short true len tail e = tt
if_short false len tail e = omega (arith, ltb-false (2 ^ 31 - 1) (len + length tail) e)

-- ---- both

record Stands (len : ℕ) (r : Result (List ℕ) Fault) : Type 0 where
  never : NeverInvalid r
  within : len < 2 ^ 31 → Within len r

joined_stands : (len : ℕ) (inputs : List Input) (p : Places) → Stands len (joined len inputs p)
unfolding joined
joined_stands len inputs p = record {
  never = never_by (debugs 0 inputs) (λ (all : List Debug). unless (length_fault (len + length (tail_of all p))) (tail_of all p)) (all_judged 0 inputs)
      (λ all. long_judged (nat_lt (2 ^ 31 - 1) (len + length (tail_of all p))) (len + length (tail_of all p)) (tail_of all p));
  within = λ short. by (debugs 0 inputs);
}
  where
    by : (r : Result (List Debug) Fault) → Within len (r >>= λ all. unless (length_fault (len + length (tail_of all p))) (tail_of all p))
    by (Ok all) = if_short (nat_lt (2 ^ 31 - 1) (len + length (tail_of all p))) len (tail_of all p) refl
    by (Err f) = tt

nothing : Result (List ℕ) Fault
nothing = Ok []

laid_stands : (mode : Mode) (p : Program) (all : List Candidate) (es : List InputSymbol) (parts : List Part) (len : ℕ) → Stands len (laid_tail mode p all es parts len)
unfolding laid_tail nothing
laid_stands mode p all es parts len = by p.plan.keep_debug
  where
    by : (b : Bool) → Stands len (if b then live_tail mode p all parts es len else nothing)
    by true = joined_stands len _ _
    by false = record { never = tt; within = λ short. omega (arith, short) }

-- ---- with what stands behind the sections

features_stand : (p : Program) (all : List Candidate) → NeverInvalid (laid_features p all)
unfolding laid_features
features_stand p all = by (feature_tail p.plan.features (link_inputs p.files all p.objects)) refl
  where
    by : (r : Result (List ℕ) Fault) → feature_tail p.plan.features (link_inputs p.files all p.objects) ≡ r → NeverInvalid r
    by (Ok section) e = tt
    by (Err f) e = λ at is. dont_judge p.plan.features (link_inputs p.files all p.objects) at (e ∙ ap Err is)

more_stands : (mode : Mode) (p : Program) (all : List Candidate) (es : List InputSymbol) (parts : List Part) → NeverInvalid (laid_more mode p all es parts)
more_stands mode p all es parts = never_by (laid_features p all) (λ (features : List ℕ). (let y : Result (List ℕ) Fault = Ok (laid_names mode p es parts ++ features) in y)) (features_stand p all) (λ features. tt)

further_stands : (len : ℕ) (debug more : List ℕ) → (len < 2 ^ 31 → Within len (Ok debug)) → Stands len (further len debug more)
further_stands len debug more first = by (length more == 0)
  where
    by : (b : Bool) → Stands len (if b then Ok debug else unless (length_fault (len + length (debug ++ more))) (debug ++ more))
    by true = record { never = tt; within = first }
    by false = record {
      never = long_judged (nat_lt (2 ^ 31 - 1) (len + length (debug ++ more))) (len + length (debug ++ more)) (debug ++ more);
      within = λ short. if_short (nat_lt (2 ^ 31 - 1) (len + length (debug ++ more))) len (debug ++ more) refl;
    }

both_stand : (len : ℕ) (d m : Result (List ℕ) Fault) → Stands len d → NeverInvalid m → Stands len (both_tails len d m)
both_stand len (Err x) m first second = first
both_stand len (Ok debug) (Err x) first second = record { never = second; within = λ short. tt }
both_stand len (Ok debug) (Ok more) first second = further_stands len debug more first.within

whole_stands : (mode : Mode) (p : Program) (all : List Candidate) (es : List InputSymbol) (parts : List Part) (len : ℕ) → Stands len (laid_whole mode p all es parts len)
unfolding laid_whole
whole_stands mode p all es parts len = both_stand len (laid_tail mode p all es parts len) (laid_more mode p all es parts) (laid_stands mode p all es parts len) (more_stands mode p all es parts)

program_stands : (mode : Mode) (p : Program) (all : List Candidate) (len : ℕ) → Stands len (program_whole mode p all len)
unfolding program_whole
program_stands mode p all len = whole_stands mode p all _ _ len

module _ (mode : Mode) (plan : Plan) (files : List (List ℕ)) (len : ℕ) where
  -- of the loaded objects of a link that is given
  tail_stands_by : (bytes : List ℕ) → link_by mode the_readers plan files ≡ Ok bytes → Stands len (whole_tail_by mode the_readers plan files len)
  unfolding whole_tail_by link_by
  tail_stands_by bytes e = by (candidates_of the_readers plan files) e
    where
      objects_stand : (all : List Candidate) (r : Result (List Object) Fault) → (r >>= λ objects. link_program mode (program_of mode plan files all objects)) ≡ Ok bytes
          → Stands len (r >>= λ objects. program_whole mode (program_of mode plan files all objects) all len)
      objects_stand all (Ok objects) e = program_stands mode (program_of mode plan files all objects) all len
      objects_stand all (Err f) e = absurd cc

      by : (r : Result (List Candidate) Fault) → (r >>= λ all. load mode (asked_names plan) all >>= λ objects. link_program mode (program_of mode plan files all objects)) ≡ Ok bytes
          → Stands len (r >>= λ all. load mode (asked_names plan) all >>= λ objects. program_whole mode (program_of mode plan files all objects) all len)
      by (Ok all) e = objects_stand all (load mode (asked_names plan) all) e
      by (Err f) e = absurd cc

  -- what is said of the loaded objects
  tail_by : (all : List Candidate) (objects : List Object) → candidates_of the_readers plan files ≡ Ok all → load mode (asked_names plan) all ≡ Ok objects
      → whole_tail_by mode the_readers plan files len ≡ program_whole mode (program_of mode plan files all objects) all len
  unfolding whole_tail_by
  tail_by all objects found given =
      ap (λ (r : Result (List Candidate) Fault). r >>= λ all. load mode (asked_names plan) all >>= λ objects. program_whole mode (program_of mode plan files all objects) all len) found
      ∙ ap (λ (r : Result (List Object) Fault). r >>= λ objects. program_whole mode (program_of mode plan files all objects) all len) given

tail_stands : (plan : Plan) (files : List (List ℕ)) (len : ℕ) (bytes : List ℕ) → link_of plan files ≡ Ok bytes → Stands len (whole_tail plan files len)
unfolding whole_tail link_of
tail_stands plan files len bytes link = tail_stands_by (mode_of plan) plan files len bytes link

-- what is said of the loaded objects of a link
pub loaded_tail : (plan : Plan) (files : List (List ℕ)) (len : ℕ) (all : List Candidate) (objects : List Object)
    → candidates_of the_readers plan files ≡ Ok all → load (mode_of plan) (asked_names plan) all ≡ Ok objects
    → whole_tail plan files len ≡ (let p = program_of (mode_of plan) plan files all objects in program_whole (mode_of p.plan) p all len)
unfolding whole_tail program_of
loaded_tail plan files len all objects found given = tail_by (mode_of plan) plan files len all objects found given

-- ---- behind a module

abbrev then_behind : List ℕ → Result (List ℕ) Fault → Result (List ℕ) Fault
then_behind bytes r = r >>= λ tail. Ok (bytes ++ tail)

ok_is : (a b : List ℕ) (r : Result (List ℕ) Fault) → r ≡ Ok a → r ≡ Ok b → a ≡ b
ok_is a b r e f = grind arith

whole_long : (bytes whole : List ℕ) (r : Result (List ℕ) Fault) → Within (length bytes) r → then_behind bytes r ≡ Ok whole → length whole < 2 ^ 31
whole_long bytes whole (Ok tail) within e =
    let same : bytes ++ tail ≡ whole = ok_is (bytes ++ tail) whole (Ok (bytes ++ tail)) refl e in
    omega (arith, within, length-append bytes tail, ap length same)
whole_long bytes whole (Err f) within e = absurd cc

whole_never : (bytes : List ℕ) (r : Result (List ℕ) Fault) → NeverInvalid r → (at : InvalidAt) → then_behind bytes r ≡ Err (Invalid at) → ⊥
whole_never bytes (Ok tail) never at e = cc
whole_never bytes (Err f) never at e = never at (let same : f ≡ Invalid at = grind arith in same)

module _ (plan : Plan) (files : List (List ℕ)) (bytes : List ℕ) (link : link_of plan files ≡ Ok bytes) where
  pub whole_is_short : length bytes < 2 ^ 31 → (r : Result (List ℕ) LinkError) → Answers r (with_tail plan files bytes) → IsShort r
  whole_is_short short (Ok whole) said = whole_long bytes whole (whole_tail plan files (length bytes)) ((tail_stands plan files (length bytes) bytes link).within short) said
  whole_is_short short (Err e) said = tt

  pub sections_dont_judge : (at : InvalidAt) → with_tail plan files bytes ≡ Err (Invalid at) → ⊥
  sections_dont_judge at e = whole_never bytes (whole_tail plan files (length bytes)) (tail_stands plan files (length bytes) bytes link).never at e

-- ---- what is told of it while the module is laid out

pub prepared_tail : (l : Loading) (r : Result Prepared LinkError)
    → IfOk r (λ p. TellsTail p.tail (stage_tail (record { stage = stage_of (program_in l); all = l.origin.all }) p.measured.len))
    → IfOk r (λ p. TellsTail p.tail (program_whole (mode_of (program_in l).plan) (program_in l) l.origin.all p.measured.len))
unfolding program_whole
prepared_tail l (Ok p) told = told
prepared_tail l (Err e) told = tt
