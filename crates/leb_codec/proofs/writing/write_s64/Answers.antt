use Rattle.std.proofs.Common.{◌≡◌, true, false, length, take, ap, arith, length-take}
use Rattle.std.proofs.lemmas.Int.{ints}
use Rattle.leb_codec.specs.Shortest.{s64}
use Rattle.leb_codec.proofs.Computed.{s64_spells, s64_least}
use Rattle.leb_codec.proofs.Written.{s64_written}
use Rattle.leb_codec.proofs.writing.write_s64.Goals as goal

pub returns-then-n-lt0-clause-bytes : goal.returns-then-n-lt0-clause-bytes
returns-then-n-lt0-clause-bytes c = s64_written true _ c.args.n _ (omega (arith, ints)) c.write_groups.ensures.bytes

pub returns-then-n-lt0-clause-spells : goal.returns-then-n-lt0-clause-spells
returns-then-n-lt0-clause-spells c = rw (returns-then-n-lt0-clause-bytes c) (s64_spells c.args.n (omega (arith, ints)) (omega (arith, ints)))

pub returns-then-n-lt0-clause-shortest : goal.returns-then-n-lt0-clause-shortest
returns-then-n-lt0-clause-shortest c = λ bytes s.
    let long : length (take c.write_groups.result c.write_groups.new.to) ≡ length (s64 c.args.n) = ap length (returns-then-n-lt0-clause-bytes c) in
    omega (arith, long, length-take c.write_groups.result c.write_groups.new.to, s64_least c.args.n bytes s)

pub returns-else-n-lt0-clause-bytes : goal.returns-else-n-lt0-clause-bytes
returns-else-n-lt0-clause-bytes c = s64_written false _ c.args.n _ (omega (arith, ints)) c.write_groups-else-n-lt0.ensures.bytes

pub returns-else-n-lt0-clause-spells : goal.returns-else-n-lt0-clause-spells
returns-else-n-lt0-clause-spells c = rw (returns-else-n-lt0-clause-bytes c) (s64_spells c.args.n (omega (arith, ints)) (omega (arith, ints)))

pub returns-else-n-lt0-clause-shortest : goal.returns-else-n-lt0-clause-shortest
returns-else-n-lt0-clause-shortest c = λ bytes s.
    let long : length (take c.write_groups-else-n-lt0.result c.write_groups-else-n-lt0.new.to) ≡ length (s64 c.args.n) = ap length (returns-else-n-lt0-clause-bytes c) in
    omega (arith, long, length-take c.write_groups-else-n-lt0.result c.write_groups-else-n-lt0.new.to, s64_least c.args.n bytes s)
