use Rattle.std.proofs.Common.{[], ◌∷◌}
use Rattle.std.proofs.lemmas.List.{append-nil}
use Rattle.lib_index.specs.Table.{shown}
use Rattle.lib_rounds.proofs.Beginning.{put_none, put_more, put_within, popped, behind}
use Rattle.lib_rounds.proofs.begin.put_given.Goals as goal

pub loop-object-init : goal.loop-object-init
loop-object-init g c = (
  [],
  append-nil c.args.given,
  put_none g.w c.args.slots.now.items (shown c.args.lazies.now)
      (shown c.args.definers.now) c.requires.1.0 c.requires.1.1.1 c.requires.1.1.0,
)

pub put_one-requires : goal.put_one-requires
put_one-requires g c =
    put_within g.w c.args.given c.requires.0 c.pop.new.self c.in-Some.object c.loop-object.invariant.0
    (behind c.loop-object.left c.pop.new.self c.in-Some.object c.loop-object.invariant.0 c.args.given
    (popped c.loop-object.left c.pop.new.self c.pop.result c.in-Some.object c.pop.ensures.rest c.pop.ensures.value c.pop.ensures.some.0
    c.in-Some.is) c.loop-object.invariant.1)
    c.loop-object.slots.items c.loop-object.invariant.2.slots_are

pub loop-object-preserved : goal.loop-object-preserved
loop-object-preserved g c =
    let done = c.loop-object.invariant.0 in
    let parts = behind c.loop-object.left c.pop.new.self c.in-Some.object done c.args.given
    (popped c.loop-object.left c.pop.new.self c.pop.result c.in-Some.object c.pop.ensures.rest c.pop.ensures.value c.pop.ensures.some.0
    c.in-Some.is) c.loop-object.invariant.1 in (
      c.in-Some.object ∷ done,
      parts,
      put_more g.w c.args.given c.requires.0 c.pop.new.self c.in-Some.object c.loop-object.invariant.0 parts c.loop-object.slots.items
          c.put_one.new.slots.items (shown c.loop-object.lazies) (shown c.put_one.new.lazies) (shown c.loop-object.definers)
          (shown c.put_one.new.definers)
          c.loop-object.invariant.2 c.in_ok-put_one.ensures,
    )
