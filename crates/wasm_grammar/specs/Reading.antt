-- Reading by the grammar of the binary format (WebAssembly Core Specification 2.0, section 5), from
-- left to right: the value at the front and the bytes after it, or the first fault.
--
-- The first number of each reader is the place of the end of the bytes, so they stand at end less
-- their length, and every place that a fault names is counted as the end is.
use Rattle.std.specs.Prelude.{ℕ, zero, suc, ◌-◌, ℤ, List, [], ◌∷◌, length, take, drop, nat_le, Result, Ok, Err, ◌==◌, if◌then◌else◌}
use Rattle.std.specs.Str.{is_utf8}
use Rattle.leb_codec.specs.Spelling.{magnitude, signed_value}
use Rattle.leb_codec.specs.Reading.{number_at}
use Rattle.leb_codec.specs.declared.fault.LebFault.{LebFault}
use Rattle.leb_codec.specs.declared.form.Form.TheVariants.{U32, S32, S33, S64}
use Rattle.wasm_grammar.specs.declared.fault.Stop.{Stop}
use Rattle.wasm_grammar.specs.declared.fault.Stop.TheVariants.{Broken}

-- One step, and then what depends on its answer: the first fault from the left is the answer.
infixl 10 ◌>>=◌
abbrev pub ◌>>=◌ : {A B : Type 0} → Result A Stop → (A → Result B Stop) → Result B Stop
(Ok x) >>= f = f x
(Err e) >>= f = Err e

-- What reads a value of this type: from the place of the end and the bytes to the value and the
-- bytes after it.
abbrev pub Read : Type 0 → Type 0
Read A = ℕ → List ℕ → Result (A × List ℕ) Stop

-- A byte (Core 5.2.1). Where there is none, the end is broken.
abbrev pub byte_at : Read ℕ
byte_at end [] = Err (Broken end)
byte_at end (byte ∷ rest) = Ok (byte, rest)

-- The rest, behind a byte that has to stand there. Another byte is broken at its own place.
abbrev pub tag_at : ℕ → ℕ → List ℕ → Result (List ℕ) Stop
tag_at tag end [] = Err (Broken end)
tag_at tag end (byte ∷ rest) = if byte == tag then Ok rest else Err (Broken (end - length (byte ∷ rest)))

-- A number, and what stands behind it. A number that is not there is broken at its first byte.
abbrev pub behind : {N : Type 0} → ℕ → List ℕ → Result (N × ℕ) LebFault → Result (N × List ℕ) Stop
behind end bytes (Ok found) = Ok (found.0, drop found.1 bytes)
behind end bytes (Err e) = Err (Broken (end - length bytes))

-- The numbers of Core 5.2.2.
unfoldable pub u32_at : Read ℕ
u32_at end bytes = behind end bytes (number_at magnitude U32 bytes)

unfoldable pub s32_at : Read ℤ
s32_at end bytes = behind end bytes (number_at signed_value S32 bytes)

unfoldable pub s33_at : Read ℤ
s33_at end bytes = behind end bytes (number_at signed_value S33 bytes)

unfoldable pub s64_at : Read ℤ
s64_at end bytes = behind end bytes (number_at signed_value S64 bytes)

-- So many items, one after another (Core 5.1.1). The first one that is at fault decides.
unfoldable pub many_at : {A : Type 0} → Read A → ℕ → Read (List A)
many_at item zero end bytes = Ok ([], bytes)
many_at item (suc n) end bytes = do
  first ← item end bytes
  others ← many_at item n end first.1
  Ok (first.0 ∷ others.0, others.1)

-- A vector: a u32 count, and as many items (Core 5.1.3). A count that is too great is no fault of
-- its own: what is broken is the place where the items run out.
unfoldable pub vector_at : {A : Type 0} → Read A → Read (List A)
vector_at item end bytes = do
  count ← u32_at end bytes
  many_at item count.0 end count.1

-- So many bytes. They are broken where they run out, at the end.
unfoldable pub front_at : ℕ → Read (List ℕ)
front_at n end bytes = if nat_le n (length bytes) then Ok (take n bytes, drop n bytes) else Err (Broken end)

-- A vector of bytes: a u32 count, and as many bytes (Core 5.1.3).
unfoldable pub bytes_at : Read (List ℕ)
bytes_at end bytes = do
  count ← u32_at end bytes
  front_at count.0 end count.1

-- The bytes of a name, where they are UTF-8. Others are broken at the place of their count.
abbrev pub checked_name : ℕ → List ℕ → List ℕ → Result (List ℕ × List ℕ) Stop
checked_name place name rest = if is_utf8 name then Ok (name, rest) else Err (Broken place)

-- A name: a vector of bytes that are UTF-8 (Core 5.2.4).
unfoldable pub name_at : Read (List ℕ)
name_at end bytes = do
  name ← bytes_at end bytes
  checked_name (end - length bytes) name.0 name.1

-- The bytes that a size measures, cut from those after them. A size that runs past the end is
-- broken at its own place.
abbrev pub cut_at : ℕ → ℕ → List ℕ → Result (List ℕ × List ℕ) Stop
cut_at place size rest = if nat_le size (length rest) then Ok (take size rest, drop size rest) else Err (Broken place)

-- A u32 size, and so many bytes: the contents of a section, or of a function's code (Core 5.5.2,
-- 5.5.13).
unfoldable pub part_at : Read (List ℕ)
part_at end bytes = do
  size ← u32_at end bytes
  cut_at (end - length bytes) size.0 size.1

-- Nothing may follow: the value, where no byte is left. Else the first byte that is left is broken.
abbrev pub ended : {A : Type 0} → ℕ → A → List ℕ → Result A Stop
ended end x [] = Ok x
ended end x (byte ∷ rest) = Err (Broken (end - length (byte ∷ rest)))

-- The end itself: no byte is left.
abbrev pub none_at : ℕ → List ℕ → Result (Unit {0}) Stop
none_at end bytes = ended end tt bytes

-- One value that is all the bytes.
unfoldable pub whole : {A : Type 0} → Read A → ℕ → List ℕ → Result A Stop
whole item end bytes = do
  x ← item end bytes
  ended end x.0 x.1

-- A u32 size, and one value that is just so many bytes long (Core 5.5.2). Its bytes end where the
-- part does, so what runs out or is left over in it is broken there.
unfoldable pub sized_at : {A : Type 0} → Read A → Read A
sized_at item end bytes = do
  part ← part_at end bytes
  x ← whole item (end - length part.1) part.0
  Ok (x, part.1)
