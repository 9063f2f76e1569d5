use Rattle.std.proofs.Common.{rules}
use Rattle.relink_out.proofs.relink.object.Goals as goal

pub written_of-requires-sync-R : goal.written_of-requires-sync-R
written_of-requires-sync-R g c κs within =
    let program = c.requires.1.1.0 in
    let strict = c.requires.1.1.1.0 in
    let stand = c.requires.1.1.1.1.0 in
    let rise = c.requires.1.1.1.1.1.0 in
    let fits = c.requires.1.1.1.1.1.1.0 in
    let objects = c.requires.1.1.1.1.1.1.1.0 in
    let files = c.requires.1.1.1.1.1.1.1.1.1 in
    let found = c.in_ok-found.ensures g.p program in
    let typed = c.in_ok-typed.ensures g.p program strict found in
    let named = c.in_ok-named.ensures g.p program strict found in
    let held = c.in_ok-held.ensures in
    (search rules, (search rules, (program, (strict, (stand, (rise, (fits, (objects, (files, (found, (typed, (named, held))))))))))))
