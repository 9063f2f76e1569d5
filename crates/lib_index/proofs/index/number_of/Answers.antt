use Rattle.std.proofs.Common.{◌∙◌}
use Rattle.lib_index.proofs.IndexLaws.{found_at, search_finds}
use Rattle.lib_index.proofs.index.number_of.Goals as goal

pub returns-then-stands_at : goal.returns-then-stands_at
returns-then-stands_at c = found_at c.args.places.now c.args.place c.args.near c.requires (c.stands_at.ensures c.if-stands_at.true)

pub returns-then-stands_at-2 : goal.returns-then-stands_at-2
returns-then-stands_at-2 c = found_at c.args.places.now c.args.place c.saturating_add-next.result c.requires (c.stands_at-2.ensures c.if-stands_at-2.true)

pub returns : goal.returns
returns c = c.ok.ensures.value ∙ search_finds c.args.places.now c.args.place c.binary_search.result c.requires c.binary_search.ensures.position
