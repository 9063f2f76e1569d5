use Rattle.std.proofs.Common.{ap, ◌∙◌}
use Rattle.link_image.specs.Sections.{image_of}
use Rattle.link_image.proofs.Near.{chunks_differ}
use Rattle.link_image.proofs.making.image_seen.Goals as goal

pub make_held-requires : goal.make_held-requires
make_held-requires g c = (chunks_differ g.s.program g.s.parts g.s.exports c.args.layout c.requires.0, (c.requires.0, c.requires.1.0))

pub returns : goal.returns
returns g c =
    let a = c.in_ok-declared.ensures in
    let b = c.in_ok-defined.ensures in
    let h = c.in_ok-held.ensures in
    c.joined.ensures
    ∙ (λ i. record {
      custom = c.in_ok-custom.ensures i;
      types = a.types i;
      imports = a.imports i;
      functions = a.functions i;
      tables = b.tables i;
      memories = b.memories i;
      globals = b.globals i;
      exports = b.exports i;
      elements = h.elements i;
      bodies = h.bodies i;
      data_offset = h.offset i;
      blocks = h.data i;
    })
    ∙ ap (λ m. image_of m g.s c.args.layout c.args.live.now) c.mode_of-mode.ensures
