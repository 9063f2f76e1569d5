use Rattle.std.proofs.Common.{ap, sym, ◌∙◌, arith}
use Rattle.std.specs.Prelude.{option_map}
use Rattle.indexmap.specs.IndexMap.{get}
use Rattle.run_modules.specs.Keys.{key_seen, same_key}
use Rattle.run_modules.proofs.SameCells.{key_more, key_passed}
use Rattle.run_modules.proofs.keys.first_places.Goals as goal
use Rattle.run_modules.proofs.keys.first_places.Goals.{in-Some+in_ok-note, in_default}

pub loop-import-preserved : goal.loop-import-preserved
loop-import-preserved c =
    let all = c.args.imports.now in
    let i = c.loop-import.import-index in
    let before = c.loop-import.invariant in
    elim c.match-key_in.branch [
      | in-Some+in_ok-note w ↦
          let some = sym c.key_in.ensures ∙ ap (option_map key_seen) w.in-Some.is in
          rw (w.places-is, w.place-is) (record {
            found = λ q. key_more all i c.import-item.result c.loop-import.place w.in-Some.key q c.loop-import.places w.note.new.places _ c.loop-import-test.true c.import-item.is some (w.in_ok-note.ensures q) (before.found q);
            within = omega (arith, before.within);
          })
      | in_default w ↦
          let none = sym c.key_in.ensures ∙ ap (option_map key_seen) w.in_default.is in
          rw (w.places-is, w.place-is) (record {
            found = λ q. key_passed all i c.import-item.result c.loop-import.place q (get same_key c.loop-import.places q) _ c.loop-import-test.true c.import-item.is none (before.found q);
            within = omega (arith, before.within);
          })
    ]
