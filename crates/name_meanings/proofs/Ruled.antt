-- The rules, by what decides them.
use Rattle.std.proofs.Common.{◌≡◌, Bool, true, false, ◌&&◌, ◌∙◌, List, [], ◌∷◌, refl, ap, sym, Option, Some, None}
use Rattle.std.specs.Prelude.{filter, if◌then◌else◌, option_map, unwrap_or}
use Rattle.name_entries.specs.wl_base.Choice.{first_some}
use Rattle.name_entries.specs.linking_section.Flags.{is_explicit}
use Rattle.name_entries.specs.object_file.declared.object.Object.{Object}
use Rattle.name_entries.specs.made_symbols.declared.mode.Mode.{Mode}
use Rattle.name_entries.specs.made_symbols.declared.mode.Mode.TheVariants.{Plain, Shared}
use Rattle.name_entries.specs.name_rules.Entries.{InputSymbol, ImportKey, is_entry, name_of, named}
use Rattle.name_entries.specs.name_rules.Meanings.{Meaning, here, imported, nothing, Uses, winner, references, least_import, where_given, own_meaning, meaning, by_rules}
use Rattle.name_meanings.specs.declared.columns.At.{At}
use Rattle.name_meanings.specs.Columns.{or_else, import_at, StandsOn}
use Rattle.name_meanings.specs.Known.{may_stand, last_rule}
use Rattle.name_meanings.proofs.Noted.{map_or}

abbrev pub decided : Option InputSymbol → Option ImportKey → Bool → Option ImportKey → Option Meaning → Meaning
decided w x may l last = unwrap_or (first_some (option_map here w ∷ option_map imported x ∷ option_map imported (where_given may l) ∷ last ∷ [])) nothing

abbrev pub explicit_import_of : List InputSymbol → Option ImportKey
explicit_import_of es = least_import (filter (λ r. is_explicit r.symbol) (references es))

pub ruled : (mode : Mode) (uses : Uses) (allow : Bool) (all : List InputSymbol) (e : InputSymbol) → is_entry e ≡ true
    → meaning mode uses allow all e
    ≡ decided (winner all (name_of e)) (explicit_import_of (named all (name_of e))) (may_stand mode uses allow (named all (name_of e)) e) (least_import (references (named all (name_of e)))) (last_rule mode uses e)
ruled Plain uses allow all e is = ap (λ b. if b then by_rules Plain uses allow (named all (name_of e)) e else own_meaning e) is
ruled Shared uses allow all e is = ap (λ b. if b then by_rules Shared uses allow (named all (name_of e)) e else own_meaning e) is

pub unruled : (mode : Mode) (uses : Uses) (allow : Bool) (all : List InputSymbol) (e : InputSymbol) → is_entry e ≡ false → meaning mode uses allow all e ≡ own_meaning e
unruled mode uses allow all e is = ap (λ b. if b then by_rules mode uses allow (named all (name_of e)) e else own_meaning e) is

pub by_import : (x : Option ImportKey) (may : Bool) (l : Option ImportKey) (last : Option Meaning) (key : ImportKey) → or_else x (where_given may l) ≡ Some key → decided None x may l last ≡ imported key
by_import (Some k) may l last key is = ap (λ o. unwrap_or (option_map imported o) nothing) is
by_import None true (Some k) last key is = ap (λ o. unwrap_or (option_map imported o) nothing) is
by_import None true None last key is = absurd cc
by_import None false l last key is = absurd cc

pub by_none : (x : Option ImportKey) (may : Bool) (l : Option ImportKey) (last : Option Meaning) → or_else x (where_given may l) ≡ None → decided None x may l last ≡ unwrap_or last nothing
by_none (Some k) may l last is = absurd cc
by_none None true (Some k) last is = absurd cc
by_none None true None (Some m) is = refl
by_none None true None None is = refl
by_none None false l (Some m) is = refl
by_none None false l None is = refl

-- ---- the symbol on whose import a name stands

given_stands : (objects : List Object) (b : Option At) (l : Option ImportKey) (may : Bool) → StandsOn objects b l → StandsOn objects (where_given may b) (where_given may l)
given_stands objects b l true stands = stands
given_stands objects b l false stands = refl

pub source_stands : (objects : List Object) (a b : Option At) (x l : Option ImportKey) (may : Bool) → StandsOn objects a x → StandsOn objects b l
    → StandsOn objects (or_else a (where_given may b)) (or_else x (where_given may l))
source_stands objects a b x l may first second =
    map_or (import_at objects) a (where_given may b)
    ∙ (λ j. or_else (first j) (given_stands objects b l may second j))
    ∙ sym (map_or Some x (where_given may l))

pub key_of_source : (v o : Option ImportKey) → Some v ≡ option_map Some o → (key : ImportKey) × (o ≡ Some key) × (v ≡ Some key)
key_of_source v None is = absurd cc
key_of_source v (Some key) is = (key, refl, ap (λ p. unwrap_or p None) is)

pub no_source : (objects : List Object) (o : Option ImportKey) → StandsOn objects None o → o ≡ None
no_source objects None is = refl
no_source objects (Some key) is = absurd cc

pub own_source : (a b : Option At) (may : Bool) (at : At) → or_else a (where_given may b) ≡ Some at → or_else a b ≡ Some at
own_source (Some a) b may at is = is
own_source None b true at is = is
own_source None b false at is = absurd cc
