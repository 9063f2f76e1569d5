use Rattle.std.proofs.Common.{◌≡◌, ◌∙◌, length, sym, refl, rules}
use Rattle.debug_rules.specs.Joined.{patch_for, place_at}
use Rattle.debug_out.specs.Inputs.{places_of}
use Rattle.debug_out.specs.Refs.{debug_seen}
use Rattle.debug_out.proofs.Bounds.{entry_room, entry_filled, stopped_filled, all_filled}
use Rattle.debug_out.proofs.windows.fill_entries.Goals as goal

pub put_word-requires : goal.put_word-requires
put_word-requires c =
    entry_room (patch_for (place_at c.args.rows.now c.args.d.now.object) (places_of c.args.places.now) (debug_seen c.args.d.now)) c.args.count c.loop.counter c.args.end c.loop.left.now
    c.in-Ok.x.0 c.in-Ok.x.1.now c.loop-test.true (search rules) (length c.loop.out) c.loop.invariant.0

pub loop-preserved : goal.loop-preserved
loop-preserved c =
    entry_filled (patch_for (place_at c.args.rows.now c.args.d.now.object) (places_of c.args.places.now) (debug_seen c.args.d.now)) c.args.count c.loop.counter c.args.end c.loop.left.now
    c.in-Ok.x.0 c.in-Ok.x.1.now c.loop-test.true (search rules) c.loop.out c.put_word.new.out _ (search rules) c.put_word.ensures.len c.loop.invariant

pub returns : goal.returns
returns c =
    all_filled (patch_for (place_at c.args.rows.now c.args.d.now.object) (places_of c.args.places.now) (debug_seen c.args.d.now)) c.args.count c.loop.counter c.args.end c.loop.left.now
    c.loop.out _ (search rules) c.loop.invariant.1
