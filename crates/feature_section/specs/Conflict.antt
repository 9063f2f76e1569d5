-- Whether objects agree about features, as wasm-ld's check of features asks.
--
-- The objects are taken in their order, and each is asked two things. Does it use a feature (mark it as used or required) that an object
-- disallows? Its features are taken in their order. Does it leave a feature without use that an object requires? These are taken in the
-- order of their names. The first fault is the answer. Where several objects disallow a feature, or require it, the first of them is named.
-- An object without the section says nothing: it uses no feature, and so it lacks each one that is required.
--
-- So does wasm-ld (`--check-features`, its default), up to its first fault, but for the order of required features, which there is that of a
-- hash table. What it asks of shared memory and of thread-local data isn't asked here. It refuses an object that names a feature twice; here
-- such a one may disallow what it uses itself.
use Rattle.std.specs.Prelude.{ℕ, suc, ◌==◌, Bool, not, ◌&&◌, ◌||◌, List, [], ◌∷◌, if◌then◌else◌, Option, Some, None, is_some}
use Rattle.std.specs.Map.{lookup}
use Rattle.std.specs.List.{list_any}
use Rattle.std.specs.BTreeMap.{insert_entry, is_at}
use Rattle.feature_section.specs.declared.feature.Feature.{Feature}
use Rattle.feature_section.specs.declared.feature.FeatureMark.{FeatureMark}
use Rattle.feature_section.specs.declared.feature.FeatureMark.TheVariants.{Required, Disallowed}
use Rattle.feature_section.specs.declared.conflict.Saying.{Saying}
use Rattle.feature_section.specs.declared.conflict.Conflict.{Conflict}
use Rattle.feature_section.specs.Payload.{mark_byte}
use Rattle.feature_section.specs.Union.{name_cmp, is_name, is_among, is_used, uses, with_features}

-- The marks are the same.
abbrev pub is_mark : FeatureMark → FeatureMark → Bool
is_mark a b = mark_byte a == mark_byte b

-- ---- who says it

-- Features of a mark, in the order of their names, each with the place where it is said first.
abbrev pub Sayings : Type 0
Sayings = List (List ℕ × Saying)

-- Where it is said of this feature.
abbrev pub said_at : Sayings → List ℕ → Option Saying
said_at sayings name = lookup (is_at (name_cmp name)) sayings

-- One more; of two of a name the earlier one stays.
abbrev pub said_also : Sayings → List ℕ → Saying → Sayings
said_also sayings name at = if is_some (said_at sayings name) then sayings else insert_entry name_cmp sayings name at

-- Those of an object from a place among its features on.
abbrev pub said_from : FeatureMark → ℕ → ℕ → Sayings → List Feature → Sayings
said_from mark object place sayings [] = sayings
said_from mark object place sayings (f ∷ features) =
    said_from mark object (suc place) (if is_mark f.mark mark then said_also sayings f.name (record { object = object; place = place }) else sayings) features

-- Those of the objects from one of them on.
abbrev pub said_by : FeatureMark → ℕ → Sayings → List (List Feature) → Sayings
said_by mark object sayings [] = sayings
said_by mark object sayings (features ∷ objects) = said_by mark (suc object) (said_from mark object 0 sayings features) objects

-- ---- who goes against it

abbrev pub conflict_at : ℕ → Option Saying → Option Conflict
conflict_at object None = None
conflict_at object (Some at) = Some (record { object = object; against = at })

abbrev pub first_of_two : Option Conflict → Option Conflict → Option Conflict
first_of_two None other = other
first_of_two (Some c) other = Some c

-- The first feature that the object uses and another one disallows.
abbrev pub used_against : Sayings → ℕ → List Feature → Option Conflict
used_against disallowed object [] = None
used_against disallowed object (f ∷ features) =
    first_of_two (conflict_at object (if is_used f.mark then said_at disallowed f.name else None)) (used_against disallowed object features)

-- The first feature that is required and isn't among these names.
abbrev pub lacking : List (List ℕ) → ℕ → Sayings → Option Conflict
lacking names object [] = None
lacking names object (said ∷ required) = if is_among names said.0 then lacking names object required else Some (record { object = object; against = said.1 })

-- The first fault of an object.
abbrev pub object_conflict : Sayings → Sayings → ℕ → List Feature → Option Conflict
object_conflict disallowed required object features = first_of_two (used_against disallowed object features) (lacking (with_features [] features) object required)

-- The first fault of the objects from one of them on.
abbrev pub conflict_from : Sayings → Sayings → ℕ → List (List Feature) → Option Conflict
conflict_from disallowed required object [] = None
conflict_from disallowed required object (features ∷ objects) = first_of_two (object_conflict disallowed required object features) (conflict_from disallowed required (suc object) objects)

unfoldable pub first_conflict : List (List Feature) → Option Conflict
first_conflict objects = conflict_from (said_by Disallowed 0 [] objects) (said_by Required 0 [] objects) 0 objects

-- ---- the rule without an order

-- An object says this of the feature.
abbrev pub says : FeatureMark → List ℕ → List Feature → Bool
says mark name features = list_any (λ f. is_mark f.mark mark && is_name name f.name) features

-- An object uses what one of the objects disallows, or doesn't use what one of them requires.
abbrev pub goes_against : List (List Feature) → List Feature → Bool
goes_against objects features =
    list_any (λ f. is_used f.mark && list_any (says Disallowed f.name) objects) features
    || list_any (λ other. list_any (λ f. is_mark f.mark Required && not (uses f.name features)) other) objects
