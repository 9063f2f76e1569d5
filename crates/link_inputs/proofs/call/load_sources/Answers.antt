use Rattle.std.proofs.Common.{rules}
use Rattle.link_program.specs.link_rules.ModeOf.{mode_of}
use Rattle.link_program.specs.link_rules.LinkOf.{asked_names}
use Rattle.link_inputs.proofs.Sourced.{fits, candidates, all_read, all_few, homes_all, refused_by}
use Rattle.link_inputs.proofs.call.load_sources.Goals as goal

pub read_given-requires-clause-fit : goal.read_given-requires-clause-fit
read_given-requires-clause-fit g c κs within =
    fits c.args.plan.now c.args.files.now c.args.sources c.requires.sources c.as_slice.result.now c.as_slice.ensures

pub load_given-requires-sync-R : goal.load_given-requires-sync-R
load_given-requires-sync-R g c κs within =
    let are = candidates c.args.plan.now c.args.files.now c.args.sources c.requires.sources c.in-Ok.given c.as_slice.result.now
    c.as_slice-in-Ok.result.now c.as_slice.ensures c.as_slice-in-Ok.ensures c.in-Ok.ensures in
    let read = all_read c.args.plan.now c.args.files.now c.args.sources c.requires.sources c.as_slice-in-Ok.result.now c.as_slice-in-Ok.ensures in
    search (rules, are, read)

pub returns-in-Ok : goal.returns-in-Ok
returns-in-Ok g c = (c.in_ok-loaded-in-Ok.ensures, homes_all c.args.plan.now c.args.files.now c.args.sources c.requires.sources)

pub refused-least-requires-clause-read : goal.refused-least-requires-clause-read
refused-least-requires-clause-read g c =
    all_read c.args.plan.now c.args.files.now c.args.sources c.requires.sources c.as_slice-in-Err.result.now c.as_slice-in-Err.ensures

pub refused-least-requires-clause-few : goal.refused-least-requires-clause-few
refused-least-requires-clause-few g c =
    all_few c.args.plan.now c.args.files.now c.args.sources c.requires.sources c.as_slice-in-Err.result.now c.as_slice-in-Err.ensures

pub returns : goal.returns
returns g c =
    refused_by c.args.plan.now c.args.files.now c.args.sources c.requires.sources (mode_of c.args.plan.now) (asked_names c.args.plan.now) c.as_slice.result.now
    c.as_slice-in-Err.result.now c.in-Err.first c.refused-least.result c.as_slice.ensures c.as_slice-in-Err.ensures c.in-Err.ensures c.refused-least.ensures
