use Rattle.std.proofs.Common.{subst, sym}
use Rattle.object_parts.specs.Reading.{GivesParts}
use Rattle.object_parts.proofs.Sections.{is_spelled, parts_again}
use Rattle.object_parts.proofs.Lying.{parts_lie}
use Rattle.object_parts.proofs.reading.parts_of.Goals as goal

pub returns-clause-found : goal.returns-clause-found
returns-clause-found c = is_spelled c.args.all.now c.args.bytes.now c.parts_at.result c.parts_at.ensures

pub returns-clause-only : goal.returns-clause-only
returns-clause-only c = λ parts s. subst (GivesParts c.parts_at.result) (parts_again c.args.all.now c.args.bytes.now parts s) c.parts_at.ensures

pub returns-clause-within : goal.returns-clause-within
returns-clause-within c = parts_lie c.args.all.now c.args.bytes.now c.parts_at.result c.requires.lie c.parts_at.ensures
