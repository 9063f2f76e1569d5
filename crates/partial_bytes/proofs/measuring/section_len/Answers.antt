use Rattle.std.proofs.Common.{rules}
use Rattle.partial_bytes.proofs.Bridge.{section_long}
use Rattle.partial_bytes.proofs.measuring.section_len.Goals as goal

pub returns : goal.returns
returns c = search (rules, section_long)
