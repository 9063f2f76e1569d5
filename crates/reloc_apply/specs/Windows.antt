-- Windows, the values that fit them, and bytes with their windows written.
-- Linking.md, "Relocation Sections": a relocated number is padded to five bytes in code, and has four bytes in data.
use Rattle.std.specs.Prelude.{◌≡◌, ℕ, ◌+◌, ◌-◌, ◌/◌, ◌%◌, ◌^◌, nat_lt, int_lt, Bool, not, ◌&&◌, List, [], ◌∷◌, ◌++◌, take, drop, length, find, if◌then◌else◌, Option, option_map, map, Result, Ok, Err, ℤ, pos, negsuc, ◌+ℤ◌, ◌≤ℤ◌}
use Rattle.leb_codec.specs.Shortest.{u32_padded, s32_padded}
use Rattle.wl_base.specs.Choice.{unless, ◌>>=◌}
use Rattle.wl_base.specs.declared.fault.What.TheVariants.{Reference}
use Rattle.wl_base.specs.declared.layout_error.LayoutError.{LayoutError}
use Rattle.wl_base.specs.declared.layout_error.LayoutError.TheVariants.{Overflow, OutOfMemory}
use Rattle.reloc_apply.specs.declared.window.Form.{Form}
use Rattle.reloc_apply.specs.declared.window.Form.TheVariants.{Unsigned5, Signed5, Word4}
use Rattle.reloc_apply.specs.declared.window.Window.{Window}
use Rattle.reloc_apply.specs.declared.window.Patch.{Patch}
use Rattle.reloc_apply.specs.declared.window.Patches.{Patches}

-- an integer modulo 2^32, and 32 bits as a signed number
abbrev pub bits32 : ℤ → ℕ
bits32 (pos n) = n % 2 ^ 32
bits32 (negsuc n) = 2 ^ 32 - 1 - n % 2 ^ 32

abbrev pub signed32 : ℕ → ℤ
signed32 n = if nat_lt n (2 ^ 31) then pos n else negsuc (2 ^ 32 - 1 - n)

-- the value that belongs into a window
abbrev pub value : Window → ℤ
value w = w.target +ℤ w.addend

-- what is asked of a window: its value is an i64
abbrev pub IsSum : Window → Type 0
IsSum w = (negsuc (2 ^ 63 - 1) ≤ℤ (value w)) × ((value w) ≤ℤ pos (2 ^ 63 - 1))

-- the least value of a form; the greatest is 2^32 - 1 for each
abbrev pub least_of : Form → ℤ
least_of Unsigned5 = pos 0
least_of Signed5 = negsuc (2 ^ 31 - 1)
least_of Word4 = negsuc (2 ^ 31 - 1)

-- whether a value is in the range of the form
abbrev pub fits_form : Form → ℤ → Bool
fits_form form v = not (int_lt v (least_of form)) && int_lt v (pos (2 ^ 32))

abbrev pub fits : Window → Bool
fits w = fits_form w.form (value w)

-- the first value that is out of range
unfoldable pub value_overflow : List Window → Option ℤ
value_overflow windows = option_map value (find (λ w. not (fits w)) windows)

-- four bytes, the lowest first
abbrev pub little : ℕ → List ℕ
little n = (n % 256) ∷ (n / 256 % 256) ∷ (n / 65536 % 256) ∷ (n / 16777216 % 256) ∷ []

-- the bytes of a window
abbrev pub spelled : Form → ℕ → List ℕ
spelled Unsigned5 n = u32_padded n
spelled Signed5 n = s32_padded (signed32 n)
spelled Word4 n = little n

-- the bytes with new ones from that place on
abbrev pub over : ℕ → List ℕ → List ℕ → List ℕ
over place new bytes = take place bytes ++ new ++ drop (place + length new) bytes

-- what is written for a window
abbrev pub patch_of : Window → Patch
patch_of w = record { place = w.place; form = w.form; value = bits32 (value w) }

-- what is written for each, or the first value that is out of range
unfoldable pub patches_of : List Window → Result Patches LayoutError
patches_of windows = unless (option_map (Overflow Reference) (value_overflow windows)) (record { patches = map patch_of windows })

-- the same for one window, and for one after another up to the first that is out of range
abbrev pub patch_at : Window → Result Patch LayoutError
patch_at w = if fits w then Ok (patch_of w) else Err (Overflow Reference (value w))

abbrev pub patches_from : List Window → Result (List Patch) LayoutError
patches_from [] = Ok []
patches_from (w ∷ ws) = do
  first ← patch_at w
  others ← patches_from ws
  Ok (first ∷ others)

-- patches, and behind them those of windows; or the first value of the windows that is out of range
abbrev pub patched_on : List Patch → List Window → Result (List Patch) LayoutError
patched_on front ws = patches_from ws >>= λ xs. Ok (front ++ xs)

-- what is written for a window whose value is stored when the output is loaded (DynamicLinking.md), or its value, if that is out of range
abbrev pub held_at : Window → Result Patch LayoutError
held_at w = if fits w then Ok (record { place = w.place; form = w.form; value = 0 }) else Err (Overflow Reference (value w))

-- the same behind other patches
abbrev pub held_on : List Patch → Window → Result (List Patch) LayoutError
held_on front w = held_at w >>= λ x. Ok (front ++ x ∷ [])

-- what is there behind a call that puts patches behind others
abbrev pub Puts : {A : Type 0} → Result A LayoutError → List Patch → Result (List Patch) LayoutError → Type 0
Puts (Ok a) now said = said ≡ Ok now
Puts (Err (Overflow what needed)) now said = said ≡ Err (Overflow what needed)
Puts (Err OutOfMemory) now said = Unit {0}

-- the bytes with one window written, and with one after another
abbrev pub patched : Patch → List ℕ → List ℕ
patched p bytes = over p.place (spelled p.form p.value) bytes

abbrev pub filled : List Patch → List ℕ → List ℕ
filled [] bytes = bytes
filled (p ∷ ps) bytes = filled ps (patched p bytes)
