-- The block of a label stands among the types.
use Rattle.std.proofs.Common.{◌≡◌, ℕ, List, Option, Some, subst}
use Rattle.std.specs.Prelude.{slice_get}
use Rattle.valid_bodies.specs.declared.blocks.Block.{Block}
use Rattle.valid_bodies.specs.declared.blocks.Outer.{Outer}
use Rattle.valid_bodies.specs.Blocks.{blocks_in, Stands, Open}
use Rattle.valid_bodies.proofs.Keeping.{target_stands}

pub target_here : (inner : Option Block) (b target : Block) (os : List Outer) (k n m : ℕ) → inner ≡ Some b → Open inner os n m → slice_get (blocks_in b os) k ≡ Some target → Stands target n
target_here inner b target os k n m here o e = target_stands b target os k n m e (subst (λ (i : Option Block). Open i os n m) here o)
