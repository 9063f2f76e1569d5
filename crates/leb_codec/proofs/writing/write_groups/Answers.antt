use Rattle.std.proofs.Common.{◌≡◌, ◌+◌, ◌-◌, ◌/◌, ◌∷◌, arith, length-set}
use Rattle.leb_codec.specs.Shortest.{shortest_signed}
use Rattle.leb_codec.specs.Writing.{turned}
use Rattle.leb_codec.proofs.Written.{byte_more, byte_last, kept_more, groups_left, groups_more, groups_end}
use Rattle.leb_codec.proofs.writing.write_groups.Goals as goal

pub loop-rest-preserved : goal.loop-rest-preserved
loop-rest-preserved c =
    let i = c.loop-rest.invariant in
    let to = c.loop-rest.to in
    let len = c.loop-rest.len in
    let rest = c.loop-rest.rest in
    let byte = c.next_group.result + 128 in
    let more = groups_left len rest i.few i.left (omega arith) in
    let parts : shortest_signed (9 - len) (turned c.args.negative rest) ≡ byte ∷ shortest_signed (9 - (len + 1)) (turned c.args.negative (rest / 128)) =
    groups_more c.args.negative len rest c.next_group.result more.0 (omega arith) c.next_group.ensures in
    record {
      few = omega (arith, more.0);
      room = omega (arith, length-set to len byte);
      left = more.1;
      so_far = byte_more to len byte _ _ (omega arith) (rw parts at i.so_far);
      kept = kept_more to c.args.to.now len byte i.kept;
    }

pub returns-clause-bytes : goal.returns-clause-bytes
returns-clause-bytes c =
    let i = c.loop-rest.invariant in
    byte_last c.loop-rest.to c.loop-rest.len c.next_group-2.result (shortest_signed 9 (turned c.args.negative c.args.bits)) (omega arith)
    (rw (groups_end c.args.negative (9 - c.loop-rest.len) c.loop-rest.rest c.next_group-2.result (omega arith) c.next_group-2.ensures) at i.so_far)
