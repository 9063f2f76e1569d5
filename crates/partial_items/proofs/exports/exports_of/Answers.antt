use Rattle.std.proofs.Common.{ap, ◌∙◌, filter_map}
use Rattle.partial_items.specs.Items.{export_for}
use Rattle.partial_items.proofs.Contents.{exports_are}
use Rattle.partial_items.proofs.exports.exports_of.Goals as goal

pub returns : goal.returns
returns c = λ p is are counted.
    c.in_ok-exports.ensures
    ∙ (ap (filter_map (export_for c.args.program.objects.now c.args.program.tables.now c.args.kept.now c.args.imported)) c.functions.ensures
    ∙ exports_are c.args.program p is c.args.kept.now c.args.imported are counted)
