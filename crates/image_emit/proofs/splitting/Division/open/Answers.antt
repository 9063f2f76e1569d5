use Rattle.std.proofs.Common.{◌≡◌, ◌<◌, ◌+◌, ℕ, List, drop, ap, sym, refl, subst, arith, rules, ◌∙◌}
use Rattle.image_emit.specs.Bytes.{tree_of}
use Rattle.image_emit.specs.Parts.{upto, part_first, part_start}
use Rattle.image_emit.specs.Put.{IsPut}
use Rattle.image_emit.proofs.Cuts.{few_parts, first_opens, first_room, part_opens, start_most}
use Rattle.image_emit.proofs.splitting.Division.open.Goals as goal

pub put_front-requires-clause-room : goal.put_front-requires-clause-room
put_front-requires-clause-room c =
    let d = c.args.self.now in
    let t = tree_of d.files.now d.image.now in
    let room = first_room t d.width d.parts.0 (few_parts d.files.now d.image.now d.places.now d.placed d.width d.parts.1) in
    let is : c.args.part ≡ 0 = search rules in
    let next : c.args.part + 1 ≡ 1 = omega (arith, is) in
    let from = ap (part_start t d.width) is in
    let to = ap (part_start t d.width) next in
    let long = c.requires.1 in
    let most = start_most t d.width d.parts.0 (few_parts d.files.now d.image.now d.places.now d.placed d.width d.parts.1) (c.args.part + 1) in
    let whole = d.long in
    let short = d.short.0 in
    (omega (arith, room, long, from, to), omega (arith, long, most, whole, short))

pub returns-then-part-eq0 : goal.returns-then-part-eq0
returns-then-part-eq0 c =
    let d = c.args.self.now in
    let t = tree_of d.files.now d.image.now in
    let opens = first_opens t d.width d.parts.0 (few_parts d.files.now d.image.now d.places.now d.placed d.width d.parts.1) in
    let is : c.args.part ≡ 0 = search rules in
    let first = ap (λ (p : ℕ). drop (part_start t d.width p) (upto t (part_first t d.width p))) is in
    subst (λ (zs : List ℕ). IsPut c.args.items.now 0 zs c.put_front.result c.put_front.new.out) (sym opens ∙ sym first) c.put_front.ensures

pub returns-else-part-eq0 : goal.returns-else-part-eq0
returns-else-part-eq0 c =
    let d = c.args.self.now in
    let t = tree_of d.files.now d.image.now in
    let some : 0 < c.args.part = search rules in
    let none = part_opens t d.width d.parts.0 (few_parts d.files.now d.image.now d.places.now d.placed d.width d.parts.1) c.args.part some in
    subst (λ (zs : List ℕ). IsPut c.args.items.now 0 zs 0 c.args.items.now) (sym none) (record { front = refl; place = refl; len = refl })
