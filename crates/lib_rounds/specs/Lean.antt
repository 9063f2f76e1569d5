-- The same rounds, which look only at the names that what the round before added refers to.
use Rattle.std.specs.Prelude.{◌≡◌, ◌<◌, ℕ, zero, suc, false, not, All, Contains, length, unwrap_or, List, [], ◌∷◌, ◌++◌, filter, filter_map, map, flat_map, Result, Ok}
use Rattle.std.specs.Ordering.{nat_cmp}
use Rattle.std.specs.BTreeMap.{is_at}
use Rattle.std.specs.Map.{lookup, keys_of}
use Rattle.std.specs.List.Sorted.{IsStrictlySortedBy}
use Rattle.object_file.specs.wl_base.Choice.{first_some, unless, ◌>>=◌}
use Rattle.object_file.specs.wl_base.declared.fault.Fault.{Fault}
use Rattle.object_file.specs.declared.object.Object.{Object}
use Rattle.made_symbols.specs.declared.mode.Mode.{Mode}
use Rattle.round_rules.specs.Rounds.{Candidate, Added, object_in, objects_of, strong_names, is_defined, round_adds, added_fault, inputs_of, is_loaded, names_for}

-- The objects that a round adds, by rising input.
abbrev pub new_objects : List Added → List Object
new_objects new = filter_map (λ a. object_in a.candidate.object) new

-- The names that the next round looks at: those that what was added refers to strongly.
abbrev pub names_of : List Added → List (List ℕ)
names_of new = flat_map strong_names (new_objects new)

-- The names that the first round looks at.
abbrev pub first_names : List (List ℕ) → List Object → List (List ℕ)
first_names asked objects = asked ++ flat_map strong_names objects

-- What follows a round: the next one looks at the names of what was added.
abbrev pub lean_on : (List ℕ → List (List ℕ) → Result (List ℕ) Fault) → List ℕ → List Added → Result (List ℕ) Fault
lean_on again loaded [] = Ok loaded
lean_on again loaded (a ∷ as') = unless (first_some (map added_fault (a ∷ as'))) (loaded ++ inputs_of (a ∷ as')) >>= λ l. again l (names_of (a ∷ as'))

module _ (mode : Mode) (all : List Candidate) where
  -- What a round adds, by the names that it looks at.
  abbrev pub lean_adds : List ℕ → List (List ℕ) → List Added
  lean_adds loaded names = round_adds all (filter (λ n. not (is_defined mode (objects_of all loaded) n)) names) loaded

  -- One round after another, at most so many, up to the one that adds nothing.
  abbrev pub lean : ℕ → List ℕ → List (List ℕ) → Result (List ℕ) Fault
  lean zero loaded names = Ok loaded
  lean (suc n) loaded names = lean_on (lean n) loaded (lean_adds loaded names)

-- What a round adds as a map has it: by input, and for each the names for which it is added.
abbrev pub Entry : Type 0
Entry = ℕ × List (List ℕ)

abbrev pub AreAdds : List Entry → List Added → Type 0
AreAdds [] [] = Unit {0}
AreAdds [] (a ∷ as') = ⊥
AreAdds (e ∷ es) [] = ⊥
AreAdds (e ∷ es) (a ∷ as') = (e.0 ≡ a.candidate.input) × (e.1 ≡ a.names) × AreAdds es as'

module _ (all : List Candidate) (wanted : List (List ℕ)) (loaded : List ℕ) where
  -- it is that of a candidate that isn't loaded
  abbrev pub IsFresh : Entry → Type 0
  IsFresh e = (c : Candidate) × Contains all c × (c.input ≡ e.0) × (is_loaded loaded c ≡ false)

  -- Rising entries that hold the names of each candidate that isn't loaded, and nothing else.
  pub record HoldNames (es : List Entry) : Type 0 where
    pub sorted : IsStrictlySortedBy nat_cmp (keys_of es)
    pub names : (c : Candidate) → Contains all c → is_loaded loaded c ≡ false
        → unwrap_or (lookup (is_at (nat_cmp c.input)) es) [] ≡ names_for all wanted c
    pub filled : All (λ e. 0 < length e.1) es
    pub fresh : All IsFresh es
