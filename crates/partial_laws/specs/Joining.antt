-- The symbols of a link in which one object stands for a run of neighbouring inputs: those of the whole link that are kept, each by what it
-- is there. What is asked of them, so that names have the same winners and symbols the same meanings.
use Rattle.std.specs.Prelude.{◌≡◌, ℕ, nat_lt, Bool, true, false, not, ◌&&◌, List, [], ◌∷◌, ◌++◌, IsTrue, All, map, filter, Some, None}
use Rattle.std.specs.List.{list_any}
use Rattle.name_rules.specs.object_file.linking_section.Flags.{is_weak, is_explicit}
use Rattle.name_rules.specs.Entries.{InputSymbol, name_of, named, is_entry, is_named, is_kind, same_entry}
use Rattle.name_rules.specs.Meanings.{Meaning, here, imported, null, nothing, entry_rank, winner, references, least_import}

-- Which symbols of the whole link stand in the other one too, and as which.
pub record Joining : Type 0 where
  pub keep : InputSymbol → Bool
  pub move : InputSymbol → InputSymbol

abbrev pub explicit_of : List InputSymbol → List InputSymbol
explicit_of refs = filter (λ r. is_explicit r.symbol) refs

abbrev pub any_strong : List InputSymbol → Bool
any_strong refs = list_any (λ r. not (is_weak r.symbol)) refs

module _ (j : Joining) where
  abbrev pub joined : List InputSymbol → List InputSymbol
  joined es = map j.move (filter j.keep es)

  abbrev pub moved : Meaning → Meaning
  moved (here e) = here (j.move e)
  moved (imported k) = imported k
  moved null = null
  moved nothing = nothing

  -- Of the symbols of the whole link: one that stands in the other too.
  pub record Kept (S : InputSymbol → Type 0) (e : InputSymbol) : Type 0 where
    pub symbol : S e
    pub kept : j.keep e ≡ true

  -- The symbols of the whole link are S, and these are its entries of names.
  pub record IsJoining (S : InputSymbol → Type 0) (es : List InputSymbol) : Type 0 where
    pub entries : All (λ (e : InputSymbol). is_entry e ≡ true) es
    -- a symbol is told by its input and place
    pub one : (a b : InputSymbol) → S a → S b → same_entry a b ≡ true → a ≡ b
    pub apart : (a b : InputSymbol) → Kept S a → Kept S b → same_entry (j.move a) (j.move b) ≡ same_entry a b
    -- it is of the same name, kind and type
    pub name : (e : InputSymbol) → Kept S e → name_of (j.move e) ≡ name_of e
    pub kind : (e : InputSymbol) → Kept S e → (j.move e).symbol.kind ≡ e.symbol.kind
    pub type : (e : InputSymbol) → Kept S e → (j.move e).type ≡ e.type
    pub entry : (e : InputSymbol) → Kept S e → is_entry (j.move e) ≡ is_entry e
    -- a symbol that is no entry defines what it did; an entry defines its name only if it did, and is then of the same class, and in the same order
    -- among those of its name
    pub own : (e : InputSymbol) → Kept S e → is_entry e ≡ false → (j.move e).defines ≡ e.defines
    pub defines : (e : InputSymbol) → Kept S e → (j.move e).defines ≡ true → e.defines ≡ true
    pub class : (e : InputSymbol) → Kept S e → (j.move e).defines ≡ true → (j.move e).class ≡ e.class
    pub order : (a b : InputSymbol) → Kept S a → Kept S b → is_entry a ≡ true → is_entry b ≡ true → name_of a ≡ name_of b
        → (j.move a).defines ≡ true → (j.move b).defines ≡ true
        → nat_lt (entry_rank (j.move a)) (entry_rank (j.move b)) ≡ nat_lt (entry_rank a) (entry_rank b)
    -- the winner of a name stands there, and defines it
    pub winner_kept : (name : List ℕ) (w : InputSymbol) → winner es name ≡ Some w → j.keep w ≡ true
    pub winner_defines : (name : List ℕ) (w : InputSymbol) → winner es name ≡ Some w → (j.move w).defines ≡ true
    -- of a name without a winner the references say the same: the least import that EXPLICIT_NAME asks for; without one, the least import; and
    -- whether one is strong
    pub explicit : (name : List ℕ) → winner es name ≡ None → least_import (explicit_of (references (named (joined es) name))) ≡ least_import (explicit_of (references (named es name)))
    pub least : (name : List ℕ) → winner es name ≡ None → least_import (explicit_of (references (named es name))) ≡ None
        → least_import (references (named (joined es) name)) ≡ least_import (references (named es name))
    pub strong : (name : List ℕ) → winner es name ≡ None → any_strong (references (named (joined es) name)) ≡ any_strong (references (named es name))
    -- and a reference is WEAK where it was
    pub weak : (e : InputSymbol) → Kept S e → is_entry e ≡ true → winner es (name_of e) ≡ None → is_weak (j.move e).symbol ≡ is_weak e.symbol

  -- ---- what is seen first

  -- One that stands for a symbol: a kept entry of its name and kind.
  abbrev pub stands_for : InputSymbol → InputSymbol → Bool
  stands_for e f = j.keep f && is_entry f && is_named (name_of e) f && is_kind e.symbol.kind f

  -- Behind those that were seen: an entry that isn't kept, of a name without a winner, has one before it that stands for it.
  abbrev pub ComeFirst : List InputSymbol → List InputSymbol → List InputSymbol → Type 0
  ComeFirst es seen [] = Unit {0}
  ComeFirst es seen (x ∷ xs) = (j.keep x ≡ false → is_entry x ≡ true → winner es (name_of x) ≡ None → IsTrue (list_any (stands_for x) seen)) × ComeFirst es (seen ++ x ∷ []) xs
