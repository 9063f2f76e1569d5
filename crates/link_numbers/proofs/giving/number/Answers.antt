use Rattle.std.proofs.Common.{rules, ◌≡◌, map, sym, ◌∙◌}
use Rattle.link_keys.specs.link_program.link_rules.ModeOf.{mode_of}
use Rattle.link_keys.specs.link_program.name_entries.Fits.{Fits}
use Rattle.link_keys.specs.link_program.Told.{told_winner}
use Rattle.link_keys.specs.link_program.Program.{IsProgramOf}
use Rattle.link_keys.specs.link_program.Stand.{PartsStand}
use Rattle.link_keys.specs.link_program.Live.{AreLive, AllMeant}
use Rattle.link_numbers.proofs.Begun.{a_row_each, one_each_import, plain_given, plain_overflow, shared_given_all, shared_overflow}
use Rattle.link_numbers.proofs.giving.number.Goals as goal

pub numbers_told-requires-clause-fits : goal.numbers_told-requires-clause-fits
numbers_told-requires-clause-fits g c κs within = let fits : Fits g.link.mode c.args.entries = search rules in fits.objects

pub numbers_told-requires-clause-rows : goal.numbers_told-requires-clause-rows
numbers_told-requires-clause-rows g c κs within =
    let fits : Fits g.link.mode c.args.entries = search rules in
    let same : c.args.entries.names.now ≡ c.args.program.names.now = search rules in
    a_row_each c.args.entries c.args.program.names.now fits.objects same

pub shared_numbers-requires-clause-one : goal.shared_numbers-requires-clause-one
shared_numbers-requires-clause-one g c κs within =
    let mode : mode_of c.args.program.plan.now ≡ g.link.mode = search rules in
    let is : IsProgramOf g.link.mode c.args.program g.link.program = search rules in
    let stand : PartsStand g.link.program = search rules in
    let are : AreLive g.link.program c.args.live.now g.link.parts = search rules in
    let meant : AllMeant g.link.parts = search rules in
    let same : c.args.entries.objects.now ≡ c.args.program.objects.now = search rules in
    let told : c.args.exports.now ≡ map (told_winner c.args.program.names.now.names) g.link.exports = search rules in
    one_each_import g.link.mode c.args.program g.link.program c.args.live.now g.link.parts is stand are meant c.args.entries.objects.now c.args.exports.now g.link.exports same told
    (sym (c.in-Shared.ensures ∙ mode))

pub shared_numbers-requires-clause-fits : goal.shared_numbers-requires-clause-fits
shared_numbers-requires-clause-fits g c κs within = let fits : Fits g.link.mode c.args.entries = search rules in fits.objects

pub shared_numbers-requires-clause-rows : goal.shared_numbers-requires-clause-rows
shared_numbers-requires-clause-rows g c κs within =
    let fits : Fits g.link.mode c.args.entries = search rules in
    let same : c.args.entries.names.now ≡ c.args.program.names.now = search rules in
    a_row_each c.args.entries c.args.program.names.now fits.objects same

pub returns-in-Plain-clause-numbers : goal.returns-in-Plain-clause-numbers
returns-in-Plain-clause-numbers g c =
    let mode : mode_of c.args.program.plan.now ≡ g.link.mode = search rules in
    let is : IsProgramOf g.link.mode c.args.program g.link.program = search rules in
    let stand : PartsStand g.link.program = search rules in
    let are : AreLive g.link.program c.args.live.now g.link.parts = search rules in
    let meant : AllMeant g.link.parts = search rules in
    let same : c.args.entries.objects.now ≡ c.args.program.objects.now = search rules in
    let told : c.args.exports.now ≡ map (told_winner c.args.program.names.now.names) g.link.exports = search rules in
    (plain_given g.link.mode c.args.program g.link.program c.args.live.now g.link.parts is stand are meant c.args.entries.objects.now c.args.exports.now g.link.exports same told
    (sym (c.in-Plain.ensures ∙ mode)) c.numbers_told.result c.numbers_told.ensures.numbers).gives

pub returns-in-Plain-clause-imported : goal.returns-in-Plain-clause-imported
returns-in-Plain-clause-imported g c =
    let mode : mode_of c.args.program.plan.now ≡ g.link.mode = search rules in
    let is : IsProgramOf g.link.mode c.args.program g.link.program = search rules in
    let stand : PartsStand g.link.program = search rules in
    let are : AreLive g.link.program c.args.live.now g.link.parts = search rules in
    let meant : AllMeant g.link.parts = search rules in
    let same : c.args.entries.objects.now ≡ c.args.program.objects.now = search rules in
    let told : c.args.exports.now ≡ map (told_winner c.args.program.names.now.names) g.link.exports = search rules in
    (plain_given g.link.mode c.args.program g.link.program c.args.live.now g.link.parts is stand are meant c.args.entries.objects.now c.args.exports.now g.link.exports same told
    (sym (c.in-Plain.ensures ∙ mode)) c.numbers_told.result c.numbers_told.ensures.numbers).held

pub returns-in-Plain-clause-table : goal.returns-in-Plain-clause-table
returns-in-Plain-clause-table g c =
    let mode : mode_of c.args.program.plan.now ≡ g.link.mode = search rules in
    let is : IsProgramOf g.link.mode c.args.program g.link.program = search rules in
    let stand : PartsStand g.link.program = search rules in
    let are : AreLive g.link.program c.args.live.now g.link.parts = search rules in
    let meant : AllMeant g.link.parts = search rules in
    let same : c.args.entries.objects.now ≡ c.args.program.objects.now = search rules in
    let told : c.args.exports.now ≡ map (told_winner c.args.program.names.now.names) g.link.exports = search rules in
    plain_overflow g.link.mode c.args.program g.link.program c.args.live.now g.link.parts is stand are meant c.args.entries.objects.now c.args.exports.now g.link.exports same told
    (sym (c.in-Plain.ensures ∙ mode)) c.numbers_told.result c.numbers_told.ensures.table

pub returns-in-Shared-clause-numbers : goal.returns-in-Shared-clause-numbers
returns-in-Shared-clause-numbers g c =
    let mode : mode_of c.args.program.plan.now ≡ g.link.mode = search rules in
    let is : IsProgramOf g.link.mode c.args.program g.link.program = search rules in
    let stand : PartsStand g.link.program = search rules in
    let are : AreLive g.link.program c.args.live.now g.link.parts = search rules in
    let meant : AllMeant g.link.parts = search rules in
    let same : c.args.entries.objects.now ≡ c.args.program.objects.now = search rules in
    let told : c.args.exports.now ≡ map (told_winner c.args.program.names.now.names) g.link.exports = search rules in
    (shared_given_all g.link.mode c.args.program g.link.program c.args.live.now g.link.parts is stand are meant c.args.entries.objects.now c.args.exports.now g.link.exports same told
    (sym (c.in-Shared.ensures ∙ mode)) c.shared_numbers.result c.shared_numbers.ensures.numbers).gives

pub returns-in-Shared-clause-imported : goal.returns-in-Shared-clause-imported
returns-in-Shared-clause-imported g c =
    let mode : mode_of c.args.program.plan.now ≡ g.link.mode = search rules in
    let is : IsProgramOf g.link.mode c.args.program g.link.program = search rules in
    let stand : PartsStand g.link.program = search rules in
    let are : AreLive g.link.program c.args.live.now g.link.parts = search rules in
    let meant : AllMeant g.link.parts = search rules in
    let same : c.args.entries.objects.now ≡ c.args.program.objects.now = search rules in
    let told : c.args.exports.now ≡ map (told_winner c.args.program.names.now.names) g.link.exports = search rules in
    (shared_given_all g.link.mode c.args.program g.link.program c.args.live.now g.link.parts is stand are meant c.args.entries.objects.now c.args.exports.now g.link.exports same told
    (sym (c.in-Shared.ensures ∙ mode)) c.shared_numbers.result c.shared_numbers.ensures.numbers).held

pub returns-in-Shared-clause-table : goal.returns-in-Shared-clause-table
returns-in-Shared-clause-table g c =
    let mode : mode_of c.args.program.plan.now ≡ g.link.mode = search rules in
    let is : IsProgramOf g.link.mode c.args.program g.link.program = search rules in
    let stand : PartsStand g.link.program = search rules in
    let are : AreLive g.link.program c.args.live.now g.link.parts = search rules in
    let meant : AllMeant g.link.parts = search rules in
    let same : c.args.entries.objects.now ≡ c.args.program.objects.now = search rules in
    let told : c.args.exports.now ≡ map (told_winner c.args.program.names.now.names) g.link.exports = search rules in
    shared_overflow g.link.mode c.args.program g.link.program c.args.live.now g.link.parts is stand are meant c.args.entries.objects.now c.args.exports.now g.link.exports same told
    (sym (c.in-Shared.ensures ∙ mode)) c.shared_numbers.result c.shared_numbers.ensures.table
