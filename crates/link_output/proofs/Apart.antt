-- The windows of all sources lie apart in the output.
use Rattle.std.proofs.Common.{◌≡◌, ℕ, ◌+◌, ◌≤◌, List, [], ◌∷◌, ◌++◌, length, map, sym, ap, ◌∙◌, subst, arith, length-append}
use Rattle.std.specs.List.{AllZip}
use Rattle.link_program.specs.reloc_apply.declared.window.Window.{Window}
use Rattle.link_program.specs.reloc_apply.declared.window.Patch.{Patch}
use Rattle.link_program.specs.reloc_apply.Windows.{patch_of}
use Rattle.link_program.specs.reloc_apply.Apart.{AreApart, moved}
use Rattle.link_program.proofs.reloc_apply_lemmas.Apart.{lie_in_all, apart_moved, apart_append}
use Rattle.link_program.specs.image_emit.Bytes.{Tree, bytes_of}
use Rattle.link_program.specs.image_emit.Filled.{all_moved, AllLieIn}
use Rattle.link_program.specs.image_emit.Pieces.{Piece, joined, pieces, front, places, source_places, sources}
use Rattle.link_program.proofs.image_emit_lemmas.Joined.{pieces_are_bytes}
use Rattle.link_program.proofs.image_emit_lemmas.Stands.{bytes_in, sources_in}
use Rattle.link_output.specs.Written.{StandInSources}

-- what is apart from a place on is so from a place before it
earlier : (at from end : ℕ) (ps : List Patch) → at ≤ from → AreApart from end ps → AreApart at end ps
earlier at from end [] before apart = omega (arith, before, apart)
earlier at from end (p ∷ ps) before apart = (omega (arith, before, apart.0), apart.1)

-- the windows of pieces that stand one behind another
abbrev StandIn : List (List Patch) → List (List ℕ) → Type 0
StandIn pss sources = AllZip (λ ps bytes. AreApart 0 (length bytes) ps) pss sources

apart_in : (at : ℕ) (qs : List Piece) (pss : List (List Patch)) → StandIn pss (map bytes_in qs) → AreApart at (at + length (joined qs)) (all_moved (places at qs) pss)
apart_in at [] [] stand = omega (arith)
apart_in at [] (ps ∷ pss) stand = absurd stand
apart_in at (q ∷ qs) [] stand = absurd stand
apart_in at (q ∷ qs) (ps ∷ pss) stand =
    let start : ℕ = at + length q.head in
    let next : ℕ = at + length q.head + length q.bytes in
    let end : ℕ = next + length (joined qs) in
    let whole : end ≡ at + length (joined (q ∷ qs)) = omega (arith, length-append q.head q.bytes, length-append (q.head ++ q.bytes) (joined qs)) in
    let first : AreApart (start + 0) (start + length q.bytes) (map {A = Patch} {B = Patch} (moved start) ps) = apart_moved start 0 (length q.bytes) ps stand.0 in
    let here : AreApart at next (map {A = Patch} {B = Patch} (moved start) ps) = earlier at (start + 0) next (map {A = Patch} {B = Patch} (moved start) ps) (omega (arith)) first in
    subst (λ e. AreApart at e (map {A = Patch} {B = Patch} (moved start) ps ++ all_moved (places next qs) pss)) whole
    (apart_append at next end (map {A = Patch} {B = Patch} (moved start) ps) (all_moved (places next qs) pss) here (apart_in next qs pss stand.1))

patches_stand : (wss : List (List Window)) (bss : List (List ℕ)) → StandInSources wss bss → StandIn (map (map patch_of) wss) bss
patches_stand [] [] stand = stand
patches_stand [] (b ∷ bs) stand = stand
patches_stand (ws ∷ wss) [] stand = stand
patches_stand (ws ∷ wss) (b ∷ bs) stand = (stand.0, patches_stand wss bs stand.1)

-- in the whole output
pub all_apart : (t : Tree) (wss : List (List Window)) → StandInSources wss (sources t)
    → AreApart 0 (length (bytes_of t)) (all_moved (source_places t) (map (map patch_of) wss))
all_apart t wss stand =
    let pss : List (List Patch) = map (map patch_of) wss in
    let at : ℕ = length (front t) in
    let inside : StandIn pss (map bytes_in (pieces t)) = subst (StandIn pss) (sym (sources_in t)) (patches_stand wss (sources t) stand) in
    let end : at + length (joined (pieces t)) ≡ length (bytes_of t) = sym (length-append (front t) (joined (pieces t))) ∙ ap length (pieces_are_bytes t) in
    earlier 0 at (length (bytes_of t)) (all_moved (source_places t) pss) (omega (arith))
    (subst (λ e. AreApart at e (all_moved (source_places t) pss)) end (apart_in at (pieces t) pss inside))

lie_all : (pss : List (List Patch)) (bss : List (List ℕ)) → StandIn pss bss → AllLieIn pss bss
lie_all [] [] stand = stand
lie_all [] (b ∷ bs) stand = stand
lie_all (ps ∷ pss) [] stand = stand
lie_all (ps ∷ pss) (b ∷ bs) stand = (lie_in_all 0 (length b) ps stand.0, lie_all pss bs stand.1)

-- each window lies in its source
pub all_lie : (t : Tree) (wss : List (List Window)) → StandInSources wss (sources t) → AllLieIn (map (map patch_of) wss) (sources t)
all_lie t wss stand = lie_all (map (map patch_of) wss) (sources t) (patches_stand wss (sources t) stand)
