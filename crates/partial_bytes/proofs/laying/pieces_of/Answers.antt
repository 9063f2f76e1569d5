use Rattle.std.proofs.Common.{◌++◌, ◌∷◌, [], ◌∙◌, refl, sym, ap, subst, arith}
use Rattle.partial_bytes.specs.Pieces.{Fit}
use Rattle.partial_bytes.specs.declared.pieces.Piece.TheVariants.{Front, Linking}
use Rattle.partial_bytes.proofs.Laid.{one_fit, all_bytes}
use Rattle.partial_bytes.proofs.laying.pieces_of.Goals as goal

pub returns-clause-bytes : goal.returns-clause-bytes
returns-clause-bytes c =
    all_bytes c.args.tree.now (Front c.args.tree) (Linking c.args.tree) c.as_slice.result.now c.as_slice-3.result.now c.code_at-code.result _
    c.push.new.self c.push_section.new.out c.push_section-2.new.out c.push-2.new.self c.push_relocs.new.out c.push_relocs-2.new.out
    refl refl c.as_slice.ensures c.as_slice-3.ensures c.code_at-code.ensures.value (omega (arith, c.code_at-code.ensures.value, c.present.ensures.value))
    (c.in_ok-push.ensures.ok ∙ ap (λ qs. qs ++ Front c.args.tree ∷ []) c.in_ok-out.ensures)
    c.in_ok-push_section.ensures.bytes c.in_ok-push_section-2.ensures.bytes c.in_ok-push-2.ensures.ok c.in_ok-push_relocs.ensures.bytes c.in_ok-push_relocs-2.ensures.bytes

pub returns-clause-fit : goal.returns-clause-fit
returns-clause-fit c = λ hb hs.
    let first : Fit c.push.new.self = subst Fit (sym (c.in_ok-push.ensures.ok ∙ ap (λ qs. qs ++ Front c.args.tree ∷ []) c.in_ok-out.ensures)) refl in
    let bodies = c.in_ok-push_section.ensures.fit hb first in
    let segments = c.in_ok-push_section-2.ensures.fit hs bodies in
    let linking : Fit c.push-2.new.self = subst Fit (sym c.in_ok-push-2.ensures.ok) (one_fit c.push_section-2.new.out (Linking c.args.tree) segments refl) in
    c.in_ok-push_relocs-2.ensures.fit hs (c.in_ok-push_relocs.ensures.fit hb linking)
