-- A header and sections one after another, whose numbers are in Core's order, are a frame.
use Rattle.std.proofs.Common.{◌≡◌, ℕ, ◌<◌, ◌≤◌, List, [], ◌∷◌, ◌++◌, length, refl, sym, ap, subst, arith, append_assoc, Bool, true, false, max}
use Rattle.std.specs.Prelude.{take, drop}
use Rattle.std.proofs.Math.Seq.{drop-append_seam, take-append_seam}
use Rattle.object_file.specs.leb_codec.Shortest.{u32}
use Rattle.wasm_instr.proofs.leb_codec_lemmas.Computed.{u32_spells}
use Rattle.wasm_sections.specs.Sections.{rank_of, IsInOrder, AreSections, header, IsFrame}
use Rattle.image_emit.specs.Bytes.{sized}
use Rattle.partial_rules.specs.Sections.{Raw, raw_bytes, raws_bytes, spans}
use Rattle.partial_rules.proofs.Spelling.{Fits, left_fits, right_fits}

-- Their numbers are at most 13 and in the order of a module, behind one of the rank last.
abbrev pub InOrder : ℕ → List Raw → Type 0
InOrder last [] = Unit {0}
InOrder last (s ∷ ss) = IsInOrder last s.id × (s.id ≤ 13) × InOrder (max (rank_of s.id) last) ss

pub sections_stand : (last end : ℕ) (ss : List Raw) → InOrder last ss → Fits (raws_bytes ss) → AreSections last end (spans end ss) (raws_bytes ss)
sections_stand last end [] order fits = refl
sections_stand last end (s ∷ ss) order fits =
    let own : Fits (s.id ∷ sized s.payload) = left_fits (raw_bytes s) (raws_bytes ss) fits in
    let size : Fits s.payload = right_fits (u32 (length s.payload)) s.payload (right_fits (s.id ∷ []) (sized s.payload) own) in (
      u32 (length s.payload),
      s.payload,
      raws_bytes ss,
      ap (λ bytes. s.id ∷ bytes) (append_assoc (u32 (length s.payload)) s.payload (raws_bytes ss)),
      order.1,
      u32_spells (length s.payload) size,
      order.0,
      refl,
      sections_stand (max (rank_of s.id) last) end ss order.2 (right_fits (raw_bytes s) (raws_bytes ss) fits),
    )

-- So with the header they are a frame.
pub framed : (ss : List Raw) → InOrder 0 ss → Fits (header ++ raws_bytes ss) → IsFrame (spans (length (header ++ raws_bytes ss)) ss) (header ++ raws_bytes ss)
framed ss order fits = (raws_bytes ss, refl, sections_stand 0 (length (header ++ raws_bytes ss)) ss order (right_fits header (raws_bytes ss) fits))

-- ---- the order, with sections that may be left out

lower : (low high : ℕ) (id : ℕ) → low ≤ high → IsInOrder high id → IsInOrder low id
lower low high id le order = λ some. omega (arith, le, order some)

max_le : (a low high : ℕ) → low ≤ high → max a low ≤ max a high
max_le a low high le = omega (arith, le)

pub order_low : (low high : ℕ) (ss : List Raw) → low ≤ high → InOrder high ss → InOrder low ss
order_low low high [] le order = order
order_low low high (s ∷ ss) le order =
    (lower low high s.id le order.0, order.1, order_low (max (rank_of s.id) low) (max (rank_of s.id) high) ss (max_le (rank_of s.id) low high le) order.2)

-- a section of a number, or none
abbrev pub perhaps : Bool → ℕ → List ℕ → List Raw
perhaps true id payload = record { id = id; payload = payload } ∷ []
perhaps false id payload = []

pub order_perhaps : (there : Bool) (last id : ℕ) (payload : List ℕ) (ss : List Raw) → last < rank_of id → id ≤ 13 → InOrder (rank_of id) ss → InOrder last (perhaps there id payload ++ ss)
order_perhaps true last id payload ss low few order =
    let top : max (rank_of id) last ≡ rank_of id = omega (arith, low) in
    (λ some. low, few, subst (λ r. InOrder r ss) (sym top) order)
order_perhaps false last id payload ss low few order = order_low last (rank_of id) ss (omega (arith, low)) order

-- a custom section stands anywhere
pub order_custom : (last : ℕ) (payload : List ℕ) (ss : List Raw) → InOrder last ss → InOrder last (record { id = 0; payload = payload } ∷ ss)
order_custom last payload ss order = (λ some. absurd (omega (arith, some)), omega arith, subst (λ r. InOrder r ss) (top last) order)
  where
    top : (n : ℕ) → n ≡ max (rank_of 0) n
    top n = omega arith

-- ---- what stands in the span of a section

pub payload_at : (front payload rest : List ℕ) → take (length payload) (drop (length front) (front ++ (payload ++ rest))) ≡ payload
payload_at front payload rest = rw (drop-append_seam front (payload ++ rest)) (take-append_seam payload rest)
