use Rattle.std.proofs.Common.{◌≡◌, ap, subst, ◌∙◌, rules}
use Rattle.link_program.specs.wl_base.Answers.{Answers}
use Rattle.link_layout.specs.Put.{written_of}
use Rattle.link_layout.specs.Layout.{looked}
use Rattle.link_layout.specs.Sources.{windows_of}
use Rattle.link_layout.proofs.patches.all_patches.Goals as goal

pub returns : goal.returns
returns g c =
    let same : c.deref-2.result.now ≡ c.in_ok-sources.sources.items = search rules in
    subst (λ ws. Answers c.patches_by.result (written_of (looked c.args.layout).mode ws)) (ap (windows_of (looked c.args.layout)) same ∙ c.in_ok-sources.ensures) c.patches_by.ensures
