use Rattle.std.proofs.Common.{◌≡◌, ◌++◌, List, map, length, get_or, slice_get, Some, None, refl}
use Rattle.std.proofs.lemmas.Option.{slice_get-get_or, slice_get_read, slice_get_past}
use Rattle.link_program.specs.reloc_apply.declared.window.Window.{Window}
use Rattle.link_program.specs.Moved.{moved_windows}
use Rattle.link_layout.specs.Rows.{part_windows}
use Rattle.link_layout.specs.Sources.{windows_of}
use Rattle.link_layout.specs.Layout.{looked}
use Rattle.link_layout.proofs.Gathered.{add_step, add_past, add_end}
use Rattle.link_layout.proofs.gathering.add_parts.Goals.{in-Some+in_ok-add_part, in_default}
use Rattle.link_layout.proofs.gathering.add_parts.Goals as goal

pub loop-i-preserved : goal.loop-i-preserved
loop-i-preserved c =
    let k = looked c.args.layout in
    let f = part_windows k in
    let places = c.args.places.now in
    let numbers = c.args.numbers.now in
    let i = c.loop-i.i in
    let all : List Window = windows_of k c.args.sources.now.items ++ moved_windows places (map f numbers) in
    elim c.match-get.branch [
      | in-Some+in_ok-add_part w ↦
          let l = w.in-Some.ensures.lookup in
          let at_place : slice_get places i ≡ Some w.in-Some.place.now = slice_get_read places (length places) i w.in-Some.place.now refl l.3.0 l.1 in
          rw w.sources-is (add_step f places numbers i w.in-Some.place.now (get_or numbers i None) (windows_of k c.loop-i.sources.items) (windows_of k w.add_part.new.sources.items) all at_place
          (slice_get-get_or numbers i None c.loop-i-test.true) c.loop-i.invariant w.in_ok-add_part.ensures)
      | in_default w ↦
          rw w.sources-is (add_past f places numbers i (windows_of k c.loop-i.sources.items) all (slice_get_past places i w.in_default.ensures.lookup.3) c.loop-i.invariant)
    ]

pub returns : goal.returns
returns c =
    let k = looked c.args.layout in
    let f = part_windows k in
    let places = c.args.places.now in
    let numbers = c.args.numbers.now in
    add_end f places numbers c.loop-i.i (windows_of k c.loop-i.sources.items) (windows_of k c.args.sources.now.items ++ moved_windows places (map f numbers)) c.loop-i-test.false c.loop-i.invariant
