-- Debug sections by the numbers of their names, and where they begin.
use Rattle.std.specs.Prelude.{◌≡◌, ℕ, ◌+◌, List, [], ◌∷◌, ◌++◌, map, filter, length, sum_by, slice_index_or, Option, Some, None}
use Rattle.leb_codec.specs.Shortest.{u32}
use Rattle.wl_base.specs.Names.{number_of}
use Rattle.image_emit.specs.Bytes.{sized}
use Rattle.debug_rules.specs.Faults.{Debug}
use Rattle.debug_rules.specs.Joined.{is_named, length_of, begins, place_at, own_length}
use Rattle.debug_out.specs.declared.refs.DebugRef.{DebugRef}
use Rattle.debug_out.specs.declared.groups.Groups.{Groups}
use Rattle.debug_out.specs.Refs.{debug_seen}

-- by the number of its name, the sections of each name
abbrev pub HasMembers : List (List ℕ) → List (List DebugRef) → List Debug → Type 0
HasMembers names members ds = (n : ℕ) (name : List ℕ) → number_of names name ≡ Some n → map debug_seen (slice_index_or members n []) ≡ filter (is_named name) ds

-- how many bytes they have
abbrev pub HasLengths : List (List ℕ) → List ℕ → List Debug → Type 0
HasLengths names lengths ds = (n : ℕ) (name : List ℕ) → number_of names name ≡ Some n → slice_index_or lengths n 0 ≡ length_of name ds

-- by object and place in it, where each section begins in the joined one
abbrev pub HasRows : List (List (Option ℕ)) → List Debug → Type 0
HasRows rows ds = (object at : ℕ) → place_at rows object at ≡ begins ds object at

abbrev pub IsGrouped : List (List ℕ) → Groups → List Debug → Type 0
IsGrouped names g ds = HasMembers names g.members.items ds × HasLengths names g.lengths.items ds × HasRows g.rows.items ds

-- the first that is there
abbrev pub or_else : Option ℕ → Option ℕ → Option ℕ
or_else None other = other
or_else (Some n) other = Some n

-- how many bytes a joined section has whose contributions have so many
abbrev pub payload_len : List ℕ → ℕ → ℕ
payload_len name len = length (sized name) + len

abbrev pub section_len : List ℕ → ℕ → ℕ
section_len name len = 1 + length (u32 (payload_len name len)) + payload_len name len

-- how many bytes the joined sections of these names have
abbrev pub sections_len : List Debug → List (List ℕ) → ℕ
sections_len ds names = sum_by (λ name. section_len name (length_of name ds)) names
