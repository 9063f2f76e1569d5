-- What stands behind an output leaves it as it was.
use Rattle.std.proofs.Common.{◌≡◌, ◌∙◌, ℕ, false, List, [], ◌++◌, length, None, Result, Ok, refl, ap, subst}
use Rattle.std.proofs.lemmas.List.{append-nil}
use Rattle.object_file.specs.wl_base.Choice.{◌>>=◌}
use Rattle.object_file.specs.wl_base.declared.fault.Fault.{Fault}
use Rattle.object_file.specs.declared.object.Object.{Object}
use Rattle.object_file.specs.wasm_module.Sections.{AreCustoms}
use Rattle.module_tails.specs.Tails.{CustomsSayNothing}
use Rattle.made_symbols.specs.declared.mode.Mode.{Mode}
use Rattle.round_rules.specs.Rounds.{Candidate}
use Rattle.link_plan.specs.declared.plan.Plan.{Plan}
use Rattle.link_rules.specs.ModeOf.{mode_of}
use Rattle.link_rules.specs.Program.{program_of}
use Rattle.link_rules.specs.LinkOf.{the_readers, link_by, link_of}
use Rattle.debug_links.specs.valid_links.link_runs.Links.{Runs}
use Rattle.debug_links.specs.valid_links.output_check.Check.{IsValidOutput}
use Rattle.debug_links.specs.Keeps as debug
use Rattle.debug_links.proofs.Candidates.{bind_ok, ok_is}
use Rattle.debug_links.proofs.Keeps.{loads_of}
use Rattle.debug_tails.specs.Tails.{laid_tail}
use Rattle.name_section.specs.Customs.{NamesAreCustom}
use Rattle.object_features.specs.Tail.{feature_tail}
use Rattle.object_features.specs.Laws.{FeaturesAreCustom}
use Rattle.link_tails.specs.Tails.{laid_names, laid_features, laid_whole, program_whole, whole_tail_by, whole_tail, with_tail}
use Rattle.link_tails.specs.Keeps.{TailIsCustoms, ValidStays, RunsStay, NoWord}
use Rattle.link_tails.proofs.Parts.{customs_more, split, whole_by}

-- ---- behind an output

-- what stands behind the bytes
pub tail_of : (plan : Plan) (files : List (List ℕ)) (bytes whole : List ℕ) → with_tail plan files bytes ≡ Ok whole → (tail : List ℕ) × (whole_tail plan files (length bytes) ≡ Ok tail) × (bytes ++ tail ≡ whole)
tail_of plan files bytes whole e =
    let a = bind_ok (whole_tail plan files (length bytes)) (λ (tail : List ℕ). (let y : Result (List ℕ) Fault = Ok (bytes ++ tail) in y)) whole e in
    (a.0, a.1, ok_is a.2)

pub customs_law : debug.TailIsCustoms → NamesAreCustom → FeaturesAreCustom → TailIsCustoms
customs_law tails are say plan files len tail e =
    let s = split are say plan files len tail e in
    subst AreCustoms s.is (customs_more s.more s.customs s.debug (tails plan files len s.debug s.told))

valid_with : CustomsSayNothing → (bytes tail : List ℕ) → AreCustoms tail → IsValidOutput bytes → IsValidOutput (bytes ++ tail)
valid_with nothing bytes tail customs v =
    let still = nothing v.is bytes tail v.spelled customs in
    record { is = v.is; read = still.1; spelled = still.0; valid = v.valid; no_fault = v.no_fault }

pub valid_law : TailIsCustoms → CustomsSayNothing → ValidStays
valid_law tails nothing plan files bytes whole v e =
    let t = tail_of plan files bytes whole e in
    subst IsValidOutput t.2 (valid_with nothing bytes t.0 (tails plan files (length bytes) t.0 t.1) v)

pub runs_law : TailIsCustoms → debug.TailsRun → RunsStay
runs_law tails run plan files bytes whole r e =
    let t = tail_of plan files bytes whole e in
    subst (Runs plan files) t.2 (run plan files bytes t.0 r (tails plan files (length bytes) t.0 t.1))

-- ---- without words

module _ (mode : Mode) (plan : Plan) (files : List (List ℕ)) (off : plan.keep_debug ≡ false) (unnamed : plan.names ≡ false) (bare : plan.features ≡ None) where
  no_tail : (all : List Candidate) (objects : List Object) (len : ℕ) → program_whole mode (program_of mode plan files all objects) all len ≡ Ok []
  unfolding program_whole laid_whole laid_tail laid_names laid_features feature_tail program_of
  no_tail all objects len = rw (off, unnamed, bare) refl

  no_tail_by : (bytes : List ℕ) (len : ℕ) → link_by mode the_readers plan files ≡ Ok bytes → whole_tail_by mode the_readers plan files len ≡ Ok []
  no_tail_by bytes len e =
      let l = loads_of mode plan files bytes e in
      whole_by mode plan files l.0 l.1 len l.2 l.3 ∙ no_tail l.0 l.1 len

none_behind : (plan : Plan) (files : List (List ℕ)) (bytes : List ℕ) → plan.keep_debug ≡ false → plan.names ≡ false → plan.features ≡ None
    → link_of plan files ≡ Ok bytes → whole_tail plan files (length bytes) ≡ Ok []
unfolding link_of whole_tail
none_behind plan files bytes off unnamed bare e = no_tail_by (mode_of plan) plan files off unnamed bare bytes (length bytes) e

pub word_law : NoWord
word_law plan files bytes off unnamed bare e =
    ap (λ (r : Result (List ℕ) Fault). r >>= λ tail. (let y : Result (List ℕ) Fault = Ok (bytes ++ tail) in y)) (none_behind plan files bytes off unnamed bare e) ∙ ap Ok (append-nil bytes)
