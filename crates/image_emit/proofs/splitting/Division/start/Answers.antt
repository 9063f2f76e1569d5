use Rattle.std.proofs.Common.{◌≡◌, ◌<◌, ◌≤◌, ◌+◌, ◌-◌, ℕ, List, length, ap, sym, arith, rules, ◌∙◌}
use Rattle.image_emit.specs.Bytes.{tree_of}
use Rattle.image_emit.specs.Parts.{upto, part_start}
use Rattle.image_emit.specs.PartLaws.{start_zero, start_is}
use Rattle.image_emit.proofs.Cuts.{few_parts, part_some, part_most, start_past, pieces_count, sources_count}
use Rattle.image_emit.proofs.splitting.Division.start.Goals as goal

pub overflow_sub-first : goal.overflow_sub-first
overflow_sub-first c =
    let d = c.args.self.now in
    let t = tree_of d.files.now d.image.now in
    let some : 0 < c.args.part = search rules in
    let low : c.args.part < d.width = search rules in
    let one = part_some t d.width d.parts.0 (few_parts d.files.now d.image.now d.places.now d.placed d.width d.parts.1) c.args.part some low in
    let is = c.first.ensures in
    omega (arith, one, is)

pub end-requires : goal.end-requires
end-requires c =
    let d = c.args.self.now in
    let t = tree_of d.files.now d.image.now in
    let some : 0 < c.args.part = search rules in
    let low : c.args.part < d.width = search rules in
    let few = few_parts d.files.now d.image.now d.places.now d.placed d.width d.parts.1 in
    let one = part_some t d.width d.parts.0 few c.args.part some low in
    let most = part_most t d.width d.parts.0 few c.args.part in
    let is = c.first.ensures in
    let long = ap (λ (ps : List ℕ). length ps) d.placed in
    omega (arith, one, most, is, long, pieces_count t, sources_count t)

pub returns-then-part-eq0 : goal.returns-then-part-eq0
returns-then-part-eq0 c =
    let d = c.args.self.now in
    let t = tree_of d.files.now d.image.now in
    let is : c.args.part ≡ 0 = search rules in
    sym (ap (part_start t d.width) is ∙ start_zero t d.width d.parts.0 (few_parts d.files.now d.image.now d.places.now d.placed d.width d.parts.1))

pub returns-then-part-self : goal.returns-then-part-self
returns-then-part-self c =
    let d = c.args.self.now in
    let t = tree_of d.files.now d.image.now in
    let high : d.width ≤ c.args.part = search rules in
    d.long ∙ sym (start_past t d.width d.parts.0 (few_parts d.files.now d.image.now d.places.now d.placed d.width d.parts.1) c.args.part high)

pub returns-else-part-self : goal.returns-else-part-self
returns-else-part-self c =
    let d = c.args.self.now in
    let t = tree_of d.files.now d.image.now in
    let some : 0 < c.args.part = search rules in
    let low : c.args.part < d.width = search rules in
    let few = few_parts d.files.now d.image.now d.places.now d.placed d.width d.parts.1 in
    let one = part_some t d.width d.parts.0 few c.args.part some low in
    let is = c.first.ensures in
    let back : c.first.result - 1 + 1 ≡ c.first.result = omega (arith, one, is) in
    c.end.ensures ∙ ap (λ (n : ℕ). length (upto t n)) (back ∙ is) ∙ sym (start_is t d.width d.parts.0 few c.args.part some)
