-- The parts of what stands behind an output.
use Rattle.std.proofs.Common.{◌≡◌, ◌∙◌, ℕ, zero, suc, ◌+◌, ◌-◌, ◌<◌, ◌≤◌, ◌^◌, nat_lt, Bool, true, false, List, [], ◌∷◌, ◌++◌, length, Option, Some, None, Result, Ok, Err, ◌⊎◌, inl, inr, refl, sym, ap, subst, arith, length-append, append_assoc, eqb-true}
use Rattle.std.specs.Prelude.{◌==◌, if◌then◌else◌}
use Rattle.std.proofs.lemmas.Bool.{ltb-false}
use Rattle.std.proofs.lemmas.List.{append-nil}
use Rattle.object_file.specs.wl_base.Choice.{given, unless, ◌>>=◌}
use Rattle.object_file.specs.wl_base.declared.fault.Fault.{Fault}
use Rattle.object_file.specs.wl_base.declared.fault.Fault.TheVariants.{DebugTooLong}
use Rattle.object_file.specs.declared.object.Object.{Object}
use Rattle.object_file.specs.wasm_module.Sections.{AreCustoms, IsCustom, Repeated}
use Rattle.made_symbols.specs.declared.mode.Mode.{Mode}
use Rattle.round_rules.specs.Rounds.{Candidate, load}
use Rattle.name_rules.specs.Entries.{InputSymbol}
use Rattle.link_plan.specs.declared.plan.Plan.{Plan}
use Rattle.link_rules.specs.ModeOf.{mode_of}
use Rattle.link_rules.specs.Candidates.{candidates_of}
use Rattle.link_rules.specs.Program.{Program, Part, program_of}
use Rattle.link_rules.specs.Marks.{exported, live}
use Rattle.link_rules.specs.Output.{layout}
use Rattle.link_rules.specs.LinkOf.{asked_names, the_readers}
use Rattle.debug_tails.specs.Tails.{laid_tail, program_tail, debug_tail_by, debug_tail}
use Rattle.debug_links.proofs.Candidates.{bind_ok, ok_is}
use Rattle.debug_links.proofs.Keeps.{tail_by}
use Rattle.name_section.specs.Names.{name_section}
use Rattle.name_section.specs.Customs.{NamesAreCustom}
use Rattle.debug_tails.specs.link_debug.Places.{link_inputs}
use Rattle.object_features.specs.Laws.{FeaturesAreCustom}
use Rattle.function_names.specs.Names.{function_names}
use Rattle.link_tails.specs.Tails.{laid_names, laid_features, laid_more, further, both_tails, laid_whole, program_whole, whole_tail_by, whole_tail}

-- ---- lengths

-- nothing stands there, or all is short
abbrev pub IsBounded : ℕ → List ℕ → List ℕ → Type 0
IsBounded len tail more = (more ≡ []) ⊎ (len + length tail < 2 ^ 31)

no_length : (xs : List ℕ) → length xs ≡ 0 → xs ≡ []
no_length [] e = refl
no_length (x ∷ xs) e = absurd cc

unless_short : (b : Bool) (n : ℕ) (all tail : List ℕ) → nat_lt (2 ^ 31 - 1) n ≡ b → unless (given b (DebugTooLong n)) all ≡ Ok tail → (all ≡ tail) × (n < 2 ^ 31)
unless_short true n all tail is e = absurd cc
unless_short false n all tail is e = (ok_is e, omega (arith, ltb-false (2 ^ 31 - 1) n is))

pub further_ok : (len : ℕ) (debug more tail : List ℕ) → further len debug more ≡ Ok tail → (debug ++ more ≡ tail) × IsBounded len tail more
further_ok len debug more tail e = by (length more == 0) refl e
  where
    n : ℕ
    n = len + length (debug ++ more)

    by : (b : Bool) → (length more == 0) ≡ b → (if b then Ok debug else unless (given (nat_lt (2 ^ 31 - 1) n) (DebugTooLong n)) (debug ++ more)) ≡ Ok tail → (debug ++ more ≡ tail) × IsBounded len tail more
    by true is e =
        let none : more ≡ [] = no_length more (eqb-true (length more) 0 is) in
        (ap (λ ys. debug ++ ys) none ∙ (append-nil debug ∙ ok_is e), inl none)
    by false is e =
        let s = unless_short (nat_lt (2 ^ 31 - 1) n) n (debug ++ more) tail refl e in
        (s.0, inr (omega (arith, s.1, ap length s.0)))

-- ---- what the parts are

-- The debug sections, and what stands behind them.
pub record Parted (len : ℕ) (d m : Result (List ℕ) Fault) (tail : List ℕ) : Type 0 where
  pub debug : List ℕ
  pub more : List ℕ
  pub is_debug : d ≡ Ok debug
  pub is_more : m ≡ Ok more
  pub is : debug ++ more ≡ tail
  pub bounded : IsBounded len tail more

pub parted : (len : ℕ) (d m : Result (List ℕ) Fault) (tail : List ℕ) → both_tails len d m ≡ Ok tail → Parted len d m tail
parted len d m tail e =
    let a = bind_ok d (λ debug. m >>= λ more. further len debug more) tail e in
    let b = bind_ok m (λ more. further len a.0 more) tail a.2 in
    let s = further_ok len a.0 b.0 tail b.2 in
    record { debug = a.0; more = b.0; is_debug = a.1; is_more = b.1; is = s.0; bounded = s.1 }

-- ---- that they are custom sections

no_customs : AreCustoms []
no_customs = (0, refl)

customs_from : (tail : List ℕ) → AreCustoms tail → (n : ℕ) (bytes : List ℕ) → Repeated n IsCustom bytes → AreCustoms (bytes ++ tail)
customs_from tail behind zero bytes none = subst (λ (front : List ℕ). AreCustoms (front ++ tail)) (sym none) behind
customs_from tail behind (suc n) bytes s =
    let more = customs_from tail behind n s.1 s.3 in
    (suc more.0, (s.0, s.1 ++ tail, s.2, more.1, ap (λ all. all ++ tail) s.4 ∙ append_assoc s.0 s.1 tail))

-- custom sections, and more behind them
pub customs_more : (tail : List ℕ) → AreCustoms tail → (bytes : List ℕ) → AreCustoms bytes → AreCustoms (bytes ++ tail)
customs_more tail behind bytes customs = customs_from tail behind customs.0 bytes customs.1

features_custom : FeaturesAreCustom → (p : Program) (all : List Candidate) (features : List ℕ) → laid_features p all ≡ Ok features → length features < 2 ^ 32 → AreCustoms features
unfolding laid_features
features_custom are p all features e short = are p.plan.features (link_inputs p.files all p.objects) features e short

names_custom : NamesAreCustom → (mode : Mode) (p : Program) (exports : List InputSymbol) (parts : List Part) → length (laid_names mode p exports parts) < 2 ^ 32 → AreCustoms (laid_names mode p exports parts)
unfolding laid_names
names_custom are mode p exports parts short = by p.plan.names short
  where
    section : List ℕ
    section = name_section (function_names mode p (layout mode p parts exports))

    by : (b : Bool) → length (if b then section else []) < 2 ^ 32 → AreCustoms (if b then section else [])
    by true short = are (function_names mode p (layout mode p parts exports)) short
    by false short = no_customs

both_custom : NamesAreCustom → FeaturesAreCustom → (mode : Mode) (p : Program) (all : List Candidate) (exports : List InputSymbol) (parts : List Part) (more : List ℕ)
    → laid_more mode p all exports parts ≡ Ok more → length more < 2 ^ 32 → AreCustoms more
both_custom are say mode p all exports parts more e short =
    let names = laid_names mode p exports parts in
    let f = bind_ok (laid_features p all) (λ (features : List ℕ). (let y : Result (List ℕ) Fault = Ok (names ++ features) in y)) more e in
    let is : names ++ f.0 ≡ more = ok_is f.2 in
    let long = length-append names f.0 in
    let whole = ap length is in
    subst AreCustoms is
    (customs_more f.0 (features_custom say p all f.0 f.1 (omega (arith, short, long, whole))) names (names_custom are mode p exports parts (omega (arith, short, long, whole))))

pub more_custom : NamesAreCustom → FeaturesAreCustom → (mode : Mode) (p : Program) (all : List Candidate) (exports : List InputSymbol) (parts : List Part) (len : ℕ) (d : Result (List ℕ) Fault) (tail : List ℕ)
    → (s : Parted len d (laid_more mode p all exports parts) tail) → AreCustoms s.more
more_custom are say mode p all exports parts len d tail s = by s.bounded
  where
    by : IsBounded len tail s.more → AreCustoms s.more
    by (inl none) = subst AreCustoms (sym none) no_customs
    by (inr short) =
        let long = length-append s.debug s.more in
        let whole = ap length s.is in
        both_custom are say mode p all exports parts s.more s.is_more (omega (arith, short, long, whole))

-- ---- of files

-- What stands behind an output is its debug sections, and custom sections behind them.
pub record Split (plan : Plan) (files : List (List ℕ)) (len : ℕ) (tail : List ℕ) : Type 0 where
  pub debug : List ℕ
  pub more : List ℕ
  pub told : debug_tail plan files len ≡ Ok debug
  pub is : debug ++ more ≡ tail
  pub customs : AreCustoms more

module _ (mode : Mode) (plan : Plan) (files : List (List ℕ)) where
  -- of what was found and loaded
  pub whole_by : (all : List Candidate) (objects : List Object) (len : ℕ) → candidates_of the_readers plan files ≡ Ok all → load mode (asked_names plan) all ≡ Ok objects
      → whole_tail_by mode the_readers plan files len ≡ program_whole mode (program_of mode plan files all objects) all len
  unfolding whole_tail_by
  whole_by all objects len found loaded = rw (found, loaded) refl

  split_by : NamesAreCustom → FeaturesAreCustom → (len : ℕ) (tail : List ℕ) → whole_tail_by mode the_readers plan files len ≡ Ok tail
      → (debug : List ℕ) × (more : List ℕ) × (debug_tail_by mode the_readers plan files len ≡ Ok debug) × (debug ++ more ≡ tail) × AreCustoms more
  unfolding whole_tail_by program_whole laid_whole program_tail
  split_by are say len tail e =
      let a = bind_ok (candidates_of the_readers plan files) (λ all. load mode (asked_names plan) all >>= λ objects. program_whole mode (program_of mode plan files all objects) all len) tail e in
      let b = bind_ok (load mode (asked_names plan) a.0) (λ objects. program_whole mode (program_of mode plan files a.0 objects) a.0 len) tail a.2 in
      let p = program_of mode plan files a.0 b.0 in
      let es = exported mode p in
      let parts = live p es in
      let d = laid_tail mode p a.0 es parts len in
      let s = parted len d (laid_more mode p a.0 es parts) tail b.2 in
      (s.debug, s.more, tail_by mode plan files a.0 b.0 len a.1 b.1 ∙ s.is_debug, s.is, more_custom are say mode p a.0 es parts len d tail s)

pub split : NamesAreCustom → FeaturesAreCustom → (plan : Plan) (files : List (List ℕ)) (len : ℕ) (tail : List ℕ) → whole_tail plan files len ≡ Ok tail → Split plan files len tail
unfolding whole_tail debug_tail
split are say plan files len tail e =
    let s = split_by (mode_of plan) plan files are say len tail e in
    record { debug = s.0; more = s.1; told = s.2; is = s.3; customs = s.4 }
