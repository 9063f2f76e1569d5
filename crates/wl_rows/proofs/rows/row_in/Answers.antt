use Rattle.std.proofs.Common.{◌≡◌, ◌+◌, ◌-◌, ◌<◌, ◌≤◌, ℕ, length, get_or, drop, [], arith, ap, subst, refl, ◌∙◌, sym}
use Rattle.std.proofs.lemmas.Option.{slice_get_read}
use Rattle.wl_rows.proofs.Reading.{flat, behind_it, in_it, past_all}
use Rattle.wl_rows.proofs.rows.row_in.Goals as goal

pub loop-rows-preserved : goal.loop-rows-preserved
loop-rows-preserved g c =
    let pieces = c.args.pieces.now in
    let i = c.loop-rows.rows-index in
    let rows = c.rows-item.result in
    let there = slice_get_read pieces (length pieces) i rows refl (omega arith) c.rows-item.is in
    let past : length rows ≤ c.loop-rows.left = omega (arith, c.len.ensures, c.if-left-len.false) in
    ap (λ (n : ℕ). get_or (flat (drop (i + 1) pieces)) (c.loop-rows.left - n) []) c.len-left.ensures
    ∙ behind_it pieces i c.loop-rows.left rows _ there past c.loop-rows.invariant

pub returns-then-left-len : goal.returns-then-left-len
returns-then-left-len g c =
    let pieces = c.args.pieces.now in
    let i = c.loop-rows.rows-index in
    let rows = c.rows-item.result in
    let there = slice_get_read pieces (length pieces) i rows refl (omega arith) c.rows-item.is in
    let lt : c.loop-rows.left < length rows = omega (arith, c.len.ensures, c.if-left-len.true) in
    c.row.ensures ∙ in_it pieces i c.loop-rows.left rows _ there lt c.loop-rows.invariant

pub returns : goal.returns
returns g c = past_all c.args.pieces.now c.loop-rows.rows-index c.loop-rows.left _ (omega arith) c.loop-rows.invariant
