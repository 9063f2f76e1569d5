-- What is wrong with the words, the first fault alone.
use Rattle.std.specs.Prelude.{ℕ, not, ◌&&◌, ◌||◌, List, [], ◌∷◌, if◌then◌else◌, unwrap_or, is_some, Option, Some, None}
use Rattle.std.specs.Option.{option_map}
use Rattle.wl_base.specs.Choice.{first_some, given}
use Rattle.wl_base.specs.declared.usage.Usage.{Usage}
use Rattle.wl_base.specs.declared.usage.Usage.TheVariants.{OpenGroup, CaseAndInput, NoInput, NoOutput, PartialClash}
use Rattle.link_words.specs.declared.kind.Kind.TheVariants.{Input, Output, StartLib, EndLib, Partial, Shared}
use Rattle.link_words.specs.Kinds.{same}
use Rattle.link_words.specs.Items.{Said}
use Rattle.link_words.specs.Cut.{Cutting}
use Rattle.link_words.specs.Fields.{has, text, group, open_group, case}

-- a group that begins in a group, or ends outside one
abbrev pub group_fault : Option ℕ → List Said → Option Usage
group_fault within [] = None
group_fault within (said ∷ items) =
    if (same said.kind StartLib && is_some within) || (same said.kind EndLib && not (is_some within)) then Some (OpenGroup said.at)
    else group_fault (unwrap_or (group said) within) items

-- the first fault: of the words from left to right, then of all together. The items stand before the word that ended the cut.
unfoldable pub first_fault : Cutting → Option Usage
first_fault c = first_some (
    group_fault None c.0
    ∷ c.1
    ∷ option_map OpenGroup (open_group c.0)
    ∷ given (is_some (case c.0) && has Input c.0) CaseAndInput
    ∷ given (not (is_some (case c.0)) && not (has Input c.0)) NoInput
    ∷ given (not (is_some (case c.0)) && not (is_some (text Output c.0))) NoOutput
    ∷ given ((is_some (case c.0) || has Shared c.0) && has Partial c.0) PartialClash
    ∷ [])
