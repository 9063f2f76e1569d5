use Rattle.std.proofs.Common.{◌≡◌, ◌++◌, [], List, Option, ℕ, map, ap, ◌∙◌, rules}
use Rattle.link_program.specs.reloc_apply.declared.window.Window.{Window}
use Rattle.link_program.specs.Moved.{moved_windows}
use Rattle.link_layout.specs.declared.gathering.Source.{Source}
use Rattle.link_layout.specs.Seen.{body_number}
use Rattle.link_layout.specs.Rows.{body_windows, part_windows}
use Rattle.link_layout.specs.Layout.{looked}
use Rattle.link_layout.specs.Sources.{windows_of}
use Rattle.link_layout.proofs.Pairs.{map_twice}
use Rattle.link_layout.proofs.Gathered.{all_gathered}
use Rattle.link_layout.proofs.gathering.sources_of.Goals as goal

pub returns : goal.returns
returns g c =
    let k = looked c.args.layout in
    let keys = c.keys_behind-keys.result.now in
    let places = c.args.places.now in
    let numbers : List (Option ℕ) = c.deref.result.now in
    let same : numbers ≡ c.in_ok-bodies.bodies.items = search rules in
    let told : map (part_windows k) numbers ≡ map (body_windows k) keys =
    ap (map (part_windows k)) (same ∙ c.in_ok-bodies.ensures) ∙ map_twice (part_windows k) (body_number k.tables.chunks) keys in
    let bodies : List Window = moved_windows places (map (part_windows k) numbers) in
    let none : c.in_ok-sources.sources.items ≡ [] = search rules in
    let first : windows_of k c.add_parts.new.sources.items ≡ moved_windows places (map (body_windows k) keys) =
    c.in_ok-add_parts.ensures ∙ ap (λ (ss : List Source). windows_of k ss ++ bodies) none ∙ ap (moved_windows places) told in
    all_gathered k c.args.live.now places keys c.deref-2.result.now c.places_behind.result.now (windows_of k c.add_parts.new.sources.items)
    (windows_of k c.add_segments.new.sources.items) (search rules) (search rules) (search rules) first c.in_ok-add_segments.ensures
