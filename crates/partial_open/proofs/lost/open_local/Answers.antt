use Rattle.std.proofs.Common.{◌≡◌, sym, subst, ◌∙◌}
use Rattle.link_program.specs.name_entries.Parts.{AreParts}
use Rattle.partial_rules.specs.Partial.{open_local}
use Rattle.partial_open.specs.Lost.{first_fault}
use Rattle.partial_open.proofs.Whole.{open_told}
use Rattle.partial_open.proofs.lost.open_local.Goals as goal

pub returns : goal.returns
returns c = λ d p is strict same.
    let parts = c.args.entries.parts.now in
    let objects : c.args.entries.objects.now ≡ p.objects = same ∙ is.objects in
    c.in_ok-fault.ensures
    ∙ subst (λ os. first_fault os os parts ≡ open_local p) (sym objects) (open_told d p is strict parts (subst (λ os. AreParts os parts) objects c.requires.parts))
