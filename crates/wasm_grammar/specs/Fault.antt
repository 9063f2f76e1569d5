-- What a reader of the program answers, beside what reading gives.
--
-- Reading is a function on lists (Reading). It gives the value at the front and the bytes after it,
-- or the first fault from left to right. The program answers the same, but for want of memory.
use Rattle.std.specs.Prelude.{◌≡◌, Result, Ok, Err}
use Rattle.wasm_grammar.specs.declared.fault.Stop.{Stop}
use Rattle.wasm_grammar.specs.declared.fault.ReadFault.{ReadFault}
use Rattle.wasm_grammar.specs.declared.fault.ReadFault.TheVariants.{Stopped, OutOfMemory}

-- What a reader that takes no memory answered, seen by view, is what reading gives.
abbrev pub Reads : {X Y : Type 0} → (X → Y) → Result X Stop → Result Y Stop → Type 0
Reads view (Ok x) read = read ≡ Ok (view x)
Reads view (Err e) read = read ≡ Err e

-- Reading gives this fault. Want of memory says nothing of the bytes.
abbrev pub Fails : {Y : Type 0} → ReadFault → Result Y Stop → Type 0
Fails (Stopped e) read = read ≡ Err e
Fails OutOfMemory read = Unit {0}

-- What a reader answered, seen by view, is what reading gives, unless memory ran out.
abbrev pub Gives : {X Y : Type 0} → (X → Y) → Result X ReadFault → Result Y Stop → Type 0
Gives view (Ok x) read = read ≡ Ok (view x)
Gives view (Err e) read = Fails e read
