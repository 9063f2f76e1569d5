use Rattle.std.proofs.Common.{◌≡◌, ◌+◌, ◌-◌, ◌/◌, ◌∷◌, length, take, set, ap, arith, length-set, length-take}
use Rattle.leb_codec.specs.Shortest.{shortest, u32}
use Rattle.leb_codec.proofs.Computed.{u32_spells, u32_least}
use Rattle.leb_codec.proofs.Written.{byte_more, byte_last, kept_more, left_more, shortest_more, shortest_end}
use Rattle.leb_codec.proofs.writing.write_u32.Goals as goal

pub loop-rest-preserved : goal.loop-rest-preserved
loop-rest-preserved c =
    let i = c.loop-rest.invariant in
    let to = c.loop-rest.to in
    let len = c.loop-rest.len in
    let rest = c.loop-rest.rest in
    let byte = c.high_byte.result in
    let more = left_more len rest i.few i.left (omega arith) in
    let parts : shortest (4 - len) rest ≡ byte ∷ shortest (4 - (len + 1)) (rest / 128) = rw c.high_byte.ensures (shortest_more len rest more.0 (omega arith)) in
    record {
      few = omega (arith, more.0);
      room = omega (arith, length-set to len byte);
      left = more.1;
      so_far = byte_more to len byte _ _ (omega arith) (rw parts at i.so_far);
      kept = kept_more to c.args.to.now len byte i.kept;
    }

pub returns-clause-bytes : goal.returns-clause-bytes
returns-clause-bytes c =
    let i = c.loop-rest.invariant in
    byte_last c.loop-rest.to c.loop-rest.len c.loop-rest.rest (u32 c.args.n) (omega arith) (rw (shortest_end (4 - c.loop-rest.len) c.loop-rest.rest (omega arith)) at i.so_far)

pub returns-clause-spells : goal.returns-clause-spells
returns-clause-spells c = rw (returns-clause-bytes c) (u32_spells c.args.n (omega arith))

pub returns-clause-shortest : goal.returns-clause-shortest
returns-clause-shortest c = λ bytes s.
    let to = set c.loop-rest.to c.loop-rest.len c.loop-rest.rest in
    let long : length (take (c.loop-rest.len + 1) to) ≡ length (u32 c.args.n) = ap length (returns-clause-bytes c) in
    omega (arith, long, length-take (c.loop-rest.len + 1) to, length-set c.loop-rest.to c.loop-rest.len c.loop-rest.rest, c.loop-rest.invariant.few, c.loop-rest.invariant.room, u32_least c.args.n bytes s)
