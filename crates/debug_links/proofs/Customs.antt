-- What stands behind an output are custom sections.
use Rattle.std.proofs.Common.{◌≡◌, ◌∙◌, ℕ, ◌+◌, Bool, true, false, List, [], ◌∷◌, take, drop, Some, Ok, inl, inr, refl, sym, ap, subst, arith}
use Rattle.std.specs.Prelude.{◌==◌, if◌then◌else◌, filter, find, map, slice_index_or}
use Rattle.std.specs.List.{AllByRecursion}
use Rattle.list_places.specs.Has.{Has}
use Rattle.object_file.specs.declared.object.Object.{Object}
use Rattle.object_file.specs.wasm_module.Sections.{AreCustoms}
use Rattle.valid_links.specs.link_runs.link_program.made_symbols.declared.mode.Mode.{Mode}
use Rattle.valid_links.specs.link_runs.link_program.link_plan.declared.plan.Plan.{Plan}
use Rattle.valid_links.specs.link_runs.link_program.round_rules.Rounds.{Candidate, load}
use Rattle.valid_links.specs.link_runs.link_program.name_rules.Entries.{InputSymbol}
use Rattle.valid_links.specs.link_runs.link_program.image_emit.Bytes.{file_part}
use Rattle.valid_links.specs.link_runs.link_program.link_rules.ModeOf.{mode_of}
use Rattle.valid_links.specs.link_runs.link_program.link_rules.Candidates.{candidates_of}
use Rattle.valid_links.specs.link_runs.link_program.link_rules.Program.{Program, Part, program_of, span_in}
use Rattle.valid_links.specs.link_runs.link_program.link_rules.Marks.{exported, live}
use Rattle.valid_links.specs.link_runs.link_program.link_rules.Output.{layout}
use Rattle.valid_links.specs.link_runs.link_program.link_rules.LinkOf.{asked_names, the_readers}
use Rattle.valid_links.specs.link_runs.link_facts.Facts.{bytes_of}
use Rattle.debug_customs.specs.Customs.{IsNamed, AreNamed, JoinedAreCustoms}
use Rattle.debug_customs.specs.Objects.{ObjectsAreNamed}
use Rattle.debug_customs.specs.debug_rules.Sections.{Custom, customs, is_debug}
use Rattle.debug_tails.specs.link_debug.Places.{input_in, span_at, link_inputs, link_places}
use Rattle.debug_tails.specs.Tails.{live_tail, laid_tail, program_tail, debug_tail_by, debug_tail}
use Rattle.debug_links.specs.Keeps.{TailIsCustoms}
use Rattle.debug_links.proofs.Candidates.{bind_ok, ok_is, IsRead, loaded_read}

-- ---- names

kept_named : (q : Bool) (c : Custom) (cs : List Custom) → IsNamed c → AllByRecursion IsNamed cs → AllByRecursion IsNamed (if q then c ∷ cs else cs)
kept_named true c cs is are = (is, are)
kept_named false c cs is are = are

of_debug : (cs : List Custom) → AllByRecursion IsNamed cs → AllByRecursion IsNamed (filter is_debug cs)
of_debug [] are = tt
of_debug (c ∷ cs) are = kept_named (is_debug c) c (filter is_debug cs) are.0 (of_debug cs are.1)

module _ (named : ObjectsAreNamed) (files : List (List ℕ)) (all : List Candidate) where
  -- a candidate's bytes are those of the object's span
  span_is : (o : Object) (c : Candidate) → find (λ d. d.input == o.input) all ≡ Some c → file_part files (span_at all o.input (find (λ d. d.input == o.input) all)) ≡ bytes_of files c
  span_is o c e =
      let start : c.start + 0 ≡ c.start = omega arith in
      ap (λ r. file_part files (span_at all o.input r)) e
      ∙ (ap (λ r. file_part files (span_in r (record { start = 0; len = c.len }))) e
      ∙ ap (λ k. take c.len (drop k (slice_index_or files c.file []))) start)

  inputs_named : (os : List Object) → ((o : Object) → Has os o → IsRead files all o) → AreNamed (map (input_in files all) os)
  inputs_named [] read = tt
  inputs_named (o ∷ os) read =
      let r = read o (inl refl) in
      let are = named o.input (bytes_of files r.0) o r.2 in
      (of_debug _ (subst (λ bytes. AllByRecursion IsNamed (customs bytes)) (sym (span_is o r.0 r.1)) are), inputs_named os (λ x h. read x (inr h)))

-- ---- the tail

no_customs : AreCustoms []
no_customs = (0, refl)

module _ (mode : Mode) where
  laid_customs : JoinedAreCustoms → (p : Program) (all : List Candidate) (exports : List InputSymbol) (parts : List Part) (len : ℕ) (tail : List ℕ)
      → AreNamed (link_inputs p.files all p.objects) → laid_tail mode p all exports parts len ≡ Ok tail → AreCustoms tail
  unfolding laid_tail
  laid_customs joined p all exports parts len tail named e = by p.plan.keep_debug e
    where
      by : (q : Bool) → (if q then live_tail mode p all parts exports len else Ok []) ≡ Ok tail → AreCustoms tail
      by true e = joined len (link_inputs p.files all p.objects) (link_places mode p parts exports (layout mode p parts exports)) tail named e
      by false e = subst AreCustoms (ok_is e) no_customs

  customs_by : ObjectsAreNamed → JoinedAreCustoms → (plan : Plan) (files : List (List ℕ)) (len : ℕ) (tail : List ℕ) → debug_tail_by mode the_readers plan files len ≡ Ok tail → AreCustoms tail
  unfolding debug_tail_by program_tail program_of link_inputs
  customs_by named joined plan files len tail e =
      let a = bind_ok (candidates_of the_readers plan files) _ tail e in
      let b = bind_ok (load mode (asked_names plan) a.0) _ tail a.2 in
      let p = program_of mode plan files a.0 b.0 in
      let are : AreNamed (link_inputs files a.0 b.0) = inputs_named named files a.0 b.0 (loaded_read files plan a.0 b.0 a.1 mode (asked_names plan) b.1) in
      laid_customs joined p a.0 (exported mode p) (live p (exported mode p)) len tail are b.2

pub tail_customs : ObjectsAreNamed → JoinedAreCustoms → TailIsCustoms
unfolding debug_tail
tail_customs named joined plan files len tail e = customs_by (mode_of plan) named joined plan files len tail e
