use Rattle.std.proofs.Common.{◌∙◌, ap, sym, subst, List, length}
use Rattle.std.proofs.lemmas.Result.{err_from_is_err_and}
use Rattle.link_program.specs.link_plan.declared.plan.InputWord.{InputWord}
use Rattle.link_program.specs.link_rules.ModeOf.{mode_of}
use Rattle.link_inputs.specs.Sources.{AreSources}
use Rattle.link_inputs.proofs.Files.{opened_are, opened_long}
use Rattle.link_inputs.proofs.Sourced.{words_long, few_files, opened_ok, sourced, refused_early, exact, found}
use Rattle.link_inputs.proofs.call.load_inputs.Goals as goal

pub returns-in_err-opened-clause-exact : goal.returns-in_err-opened-clause-exact
returns-in_err-opened-clause-exact g c =
    let p = err_from_is_err_and c.from_residual.result c.from_residual.ensures.1 in
    let f = refused_early (mode_of c.args.plan.now) c.args.plan.now c.args.files.now c.in_err-opened.field-0.0 c.requires.files c.in_err-opened.ensures in
    rw (p.1, p.2) f

pub number_inputs-requires-clause-same : goal.number_inputs-requires-clause-same
number_inputs-requires-clause-same g c =
    let files = c.args.files.now in
    let opened = opened_ok files c.in_ok-opened.opened c.in_ok-opened.ensures in
    let long = words_long c.args.plan.now files c.requires.files in
    opened_long files c.in_ok-opened.opened (opened_are 0 files c.in_ok-opened.opened opened.0)
    ∙ sym (ap (λ (ws : List InputWord). length ws) (c.as_slice.ensures ∙ c.in_ok-words.ensures) ∙ long)

pub number_inputs-requires-clause-few : goal.number_inputs-requires-clause-few
number_inputs-requires-clause-few g c = (opened_ok c.args.files.now c.in_ok-opened.opened c.in_ok-opened.ensures).1

pub load_sources-requires-clause-sources : goal.load_sources-requires-clause-sources
load_sources-requires-clause-sources g c κs within =
    sourced c.args.plan.now c.args.files.now c.in_ok-opened.opened c.in_ok-sources.sources c.in_ok-opened.ensures c.requires.files
    (few_files c.args.plan.now c.args.files.now c.requires.plan c.requires.files)
    (subst (λ (ws : List InputWord). AreSources ws c.in_ok-opened.opened c.in_ok-sources.sources) (c.as_slice.ensures ∙ c.in_ok-words.ensures) c.in_ok-sources.ensures)

pub returns-clause-exact : goal.returns-clause-exact
returns-clause-exact g c =
    let s = sourced c.args.plan.now c.args.files.now c.in_ok-opened.opened c.in_ok-sources.sources c.in_ok-opened.ensures c.requires.files
    (few_files c.args.plan.now c.args.files.now c.requires.plan c.requires.files)
    (subst (λ (ws : List InputWord). AreSources ws c.in_ok-opened.opened c.in_ok-sources.sources) (c.as_slice.ensures ∙ c.in_ok-words.ensures) c.in_ok-sources.ensures) in
    exact c.args.plan.now c.args.files.now c.in_ok-opened.opened c.in_ok-sources.sources c.in_ok-opened.ensures c.requires.files s c.load_sources.result c.load_sources.ensures

pub returns-clause-found : goal.returns-clause-found
returns-clause-found g c =
    let s = sourced c.args.plan.now c.args.files.now c.in_ok-opened.opened c.in_ok-sources.sources c.in_ok-opened.ensures c.requires.files
    (few_files c.args.plan.now c.args.files.now c.requires.plan c.requires.files)
    (subst (λ (ws : List InputWord). AreSources ws c.in_ok-opened.opened c.in_ok-sources.sources) (c.as_slice.ensures ∙ c.in_ok-words.ensures) c.in_ok-sources.ensures) in
    found c.args.plan.now c.args.files.now c.in_ok-opened.opened c.in_ok-sources.sources c.in_ok-opened.ensures c.requires.files s c.load_sources.result c.load_sources.ensures
