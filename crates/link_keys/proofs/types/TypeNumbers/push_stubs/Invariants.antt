use Rattle.std.proofs.Common.{◌≡◌, map, fold}
use Rattle.link_keys.specs.Types.{with_numbered, stub_type, stubs_seen}
use Rattle.link_keys.specs.Lists.{numbers_below, flag_at}
use Rattle.link_keys.proofs.types.TypeNumbers.push_stubs.Given as goal

abbrev pub invariant-loop-number : goal.invariant-loop-number
invariant-loop-number l = l.self ≡ fold with_numbered l.fn.self (map (stub_type (stubs_seen l.entries.objects.now l.stubs) l.names) (numbers_below (flag_at l.flags) l.number))
