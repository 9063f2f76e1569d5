use Rattle.std.proofs.Common.{◌≡◌, take}
use Rattle.indexmap.specs.IndexSet.{insert_all}
use Rattle.link_keys.specs.Codes.{same_code}
use Rattle.link_keys.proofs.marks.put_codes.Given as goal

abbrev pub invariant-loop-code : goal.invariant-loop-code
invariant-loop-code l = l.codes.keys ≡ insert_all same_code l.fn.codes.keys (take l.code-index l.more)
