-- The types of numeric instructions (Core 3.3.1), by their opcodes (5.4.7).
use Rattle.std.specs.Prelude.{ℕ, List, [], ◌∷◌, Bool, if◌then◌else◌, ◌&&◌, nat_eq, nat_le}
use Rattle.wasm_types.specs.declared.value.ValType.{ValType}
use Rattle.wasm_types.specs.declared.value.ValType.TheVariants.{I32, I64, F32, F64}
use Rattle.valid_rules.specs.declared.types.Shape.{Shape}
use Rattle.valid_rules.specs.declared.types.Shape.TheVariants.{Typed, Untyped}

-- It takes these and gives those.
abbrev pub to : List ValType → List ValType → Shape
to params results = Typed (record { params = params; results = results })

-- It takes one number and gives one.
abbrev pub one : ValType → ValType → Shape
one t r = to (t ∷ []) (r ∷ [])

-- It takes two numbers of one type and gives one.
abbrev pub two : ValType → ValType → Shape
two t r = to (t ∷ t ∷ []) (r ∷ [])

abbrev pub within : ℕ → ℕ → ℕ → Bool
within low high op = nat_le low op && nat_le op high

-- By the order of the opcodes: tests and comparisons (45 to 66), what computes (67 to A6), conversions (A7 to BB;
-- integers of other widths, integers of floats, floats of integers, and floats of other widths),
-- reinterpretations (BC to BF), and extensions of a part (C0 to C4).
unfoldable pub numeric : ℕ → Shape
numeric op =
    if nat_eq op 0x45 then one I32 I32 else if within 0x46 0x4f op then two I32 I32 else if nat_eq op 0x50 then one I64 I32 else if within 0x51 0x5a op then two I64 I32
    else if within 0x5b 0x60 op then two F32 I32 else if within 0x61 0x66 op then two F64 I32
    else if within 0x67 0x69 op then one I32 I32 else if within 0x6a 0x78 op then two I32 I32 else if within 0x79 0x7b op then one I64 I64 else if within 0x7c 0x8a op then two I64 I64
    else if within 0x8b 0x91 op then one F32 F32 else if within 0x92 0x98 op then two F32 F32 else if within 0x99 0x9f op then one F64 F64 else if within 0xa0 0xa6 op then two F64 F64
    else if nat_eq op 0xa7 then one I64 I32 else if within 0xac 0xad op then one I32 I64
    else if within 0xa8 0xa9 op then one F32 I32 else if within 0xaa 0xab op then one F64 I32 else if within 0xae 0xaf op then one F32 I64 else if within 0xb0 0xb1 op then one F64 I64
    else if within 0xb2 0xb3 op then one I32 F32 else if within 0xb4 0xb5 op then one I64 F32 else if within 0xb7 0xb8 op then one I32 F64 else if within 0xb9 0xba op then one I64 F64
    else if nat_eq op 0xb6 then one F64 F32 else if nat_eq op 0xbb then one F32 F64
    else if nat_eq op 0xbc then one F32 I32 else if nat_eq op 0xbd then one F64 I64 else if nat_eq op 0xbe then one I32 F32 else if nat_eq op 0xbf then one I64 F64
    else if within 0xc0 0xc1 op then one I32 I32 else if within 0xc2 0xc4 op then one I64 I64 else Untyped

-- A conversion that saturates, by the number after FC: an i32 of a float, then an i64.
unfoldable pub truncation : ℕ → Shape
truncation n =
    if within 0 1 n then one F32 I32 else if within 2 3 n then one F64 I32 else if within 4 5 n then one F32 I64 else if within 6 7 n then one F64 I64 else Untyped
