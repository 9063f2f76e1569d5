-- Where a group takes a definition of the run away, the input that wins the group defines the name by the same class.
use Rattle.std.proofs.Common.{◌≡◌, ℕ, ◌+◌, ◌≤◌, ◌==◌, Bool, true, false, not, ◌||◌, ◌&&◌, List, [], ◌∷◌, ◌++◌, inl, inr, refl, sym, ap, subst, ◌∙◌, arith}
use Rattle.std.specs.Prelude.{if◌then◌else◌, Option, Some, None, unwrap_or, is_some, option_map, find, flat_map, bytes_eq, All}
use Rattle.std.specs.List.{list_any, list_all}
use Rattle.std.proofs.lemmas.Bool.{and_parts, and_from, eqb-true, eq-eqb}
use Rattle.list_places.specs.Has.{Has}
use Rattle.list_places.proofs.Lists.{all_has, has_any, any_has, has_filter, filter_has, has_left, has_right, has_map, map_has, find_has, flat_has, has_flat}
use Rattle.name_rules.specs.object_file.wl_base.Choice.{first_some}
use Rattle.name_rules.specs.object_file.linking_section.declared.symbol.Symbol.{Symbol}
use Rattle.name_rules.specs.object_file.linking_section.declared.symbol.SymbolKind.{SymbolKind}
use Rattle.name_rules.specs.object_file.linking_section.declared.symbol.SymbolKind.TheVariants.{Function, Datum, GlobalVar, Section, Table}
use Rattle.name_rules.specs.object_file.linking_section.declared.group.Group.{Group}
use Rattle.name_rules.specs.object_file.linking_section.declared.member_kinds.TheConstants as members
use Rattle.name_rules.specs.object_file.linking_section.Flags.{has_bit, is_weak, is_local, is_undefined, is_definition}
use Rattle.name_rules.specs.object_file.declared.object.Object.{Object}
use Rattle.made_symbols.specs.declared.mode.Mode.TheVariants.{Plain}
use Rattle.name_rules.specs.Entries.{InputSymbol, has_group, group_winner, is_input, has_member, is_kept, in_kept_part, entry_in, entries_from, symbols_of, is_entry, entries, name_of}
use Rattle.link_rules.specs.Program.{Program}
use Rattle.partial_laws.specs.Premises.{is_member_of, members_of, same_symbol, all_among, group_agrees}
use Rattle.partial_laws.specs.Inputs.{Run, as_input, alone, Objects, whole_objects, run_objects, AreCut}
use Rattle.partial_laws.specs.Loaded.{AreLoaded}
use Rattle.partial_laws.specs.Standing.{defines_in, alone_symbol}
use Rattle.partial_laws.specs.Joined.{IsBefore}
use Rattle.partial_laws.proofs.Same.{name_itself, name_equal}
use Rattle.partial_laws.proofs.Groups.{find_append, is_taken, is_taken_away, run_kept}
use Rattle.partial_laws.proofs.Cases.{find_none}
use Rattle.partial_laws.proofs.Opened.{all_true}
use Rattle.partial_laws.proofs.Regions.{linked_entry}
use Rattle.partial_laws.proofs.Instance.{all_from_has}
use Rattle.partial_laws.proofs.Loading.{In, is_in}

no_true : false ≡ true → ⊥
no_true e = absurd cc

not_true : (b : Bool) → not b ≡ true → b ≡ false
not_true true h = absurd (no_true h)
not_true false h = refl

pub none_of : {A : Type 0} (t : A → Bool) (xs : List A) → ((x : A) → Has xs x → t x ≡ false) → list_any t xs ≡ false
none_of t [] each = refl
none_of t (x ∷ xs) each = rw (each x (inl refl), none_of t xs (λ y has. each y (inr has))) refl

-- a symbol of an object is one of its entries
symbol_listed : (objects : List Object) (o : Object) (at : ℕ) (ss : List Symbol) (s : Symbol) → Has ss s → (place : ℕ) × Has (entries_from objects o at ss) (entry_in objects o place s)
symbol_listed objects o at [] s has = absurd has
symbol_listed objects o at (x ∷ ss) s (inl is) = (at, inl (ap (entry_in objects o at) is))
symbol_listed objects o at (x ∷ ss) s (inr has) = let r = symbol_listed objects o (at + 1) ss s has in (r.0, inr r.1)

-- ---- the input that wins a group keeps its members

module _ (objects : List Object) (b : Object) (h : Group) (wins : find (has_group h.name) objects ≡ Some b)
    (once : (g : Group) → Has b.groups g → (kind index : ℕ) → has_member kind index g ≡ true → has_member kind index h ≡ true → g.name ≡ h.name) where
  member_kept : (kind index : ℕ) → has_member kind index h ≡ true → is_kept objects b kind index ≡ true
  member_kept kind index member = ap not (none_of (λ g. has_member kind index g && not (is_input b.input (group_winner objects g.name))) b.groups each)
    where
      each : (g : Group) → Has b.groups g → (has_member kind index g && not (is_input b.input (group_winner objects g.name))) ≡ false
      each g has = by_member (has_member kind index g) refl
        where
          by_member : (t : Bool) → has_member kind index g ≡ t → (t && not (is_input b.input (group_winner objects g.name))) ≡ false
          by_member false is = refl
          by_member true is =
              ap (λ n. not (is_input b.input (group_winner objects n))) (once g has kind index is member)
              ∙ (ap (λ o. not (is_input b.input (option_map (λ (x : Object). x.input) o))) wins ∙ ap not (eq-eqb b.input b.input refl))

  part_kept : (t : Symbol) (kind : SymbolKind) → is_member_of h t kind ≡ true → in_kept_part objects b t kind ≡ true
  part_kept t Function member = member_kept members.FUNCTION t.index member
  part_kept t Datum member = member_kept members.DATA t.index member
  part_kept t GlobalVar member = refl
  part_kept t Section member = refl
  part_kept t Table member = refl

  -- A definition in the group is an entry that defines its name.
  pub record Defined (s : Symbol) (d : InputSymbol) : Type 0 where
    pub there : Has (symbols_of objects b) d
    pub entry : is_entry d ≡ true
    pub input : d.input ≡ b.input
    pub name : name_of d ≡ unwrap_or s.name []
    pub class : d.class ≡ (if is_weak s then 1 else 0)
    pub defines : d.defines ≡ true

  pub group_symbol : (s t : Symbol) → Has (members_of b h) t → same_symbol s t ≡ true → (d : InputSymbol) × Defined s d
  group_symbol s t has same =
      let f = has_filter (λ x. is_definition x && is_member_of h x x.kind) b.symbols t has in
      let m = and_parts (is_definition t) (is_member_of h t t.kind) f.1 in
      let d = and_parts (is_some t.name && not (is_undefined t)) (not (is_local t)) m.0 in
      let n = and_parts (is_some t.name) (not (is_undefined t)) d.0 in
      let e = and_parts (bytes_eq (unwrap_or s.name []) (unwrap_or t.name [])) (s.flags == t.flags) same in
      let place = symbol_listed objects b 0 b.symbols t f.0 in
      let flags : t.flags ≡ s.flags = sym (eqb-true s.flags t.flags e.1) in (
        entry_in objects b place.0 t,
        record {
          there = place.1;
          entry = and_from (is_some t.name) (not (is_local t && not (is_undefined t))) n.0 (ap (λ (l : Bool). not (l && not (is_undefined t))) (not_true (is_local t) d.1));
          input = refl;
          name = sym (name_equal (unwrap_or s.name []) (unwrap_or t.name []) e.0);
          class = ap (λ (k : ℕ). if has_bit 0x01 k then 1 else 0) flags;
          defines = and_from (not (is_undefined t)) (in_kept_part objects b t t.kind) n.1 (part_kept t t.kind m.1);
        },
      )

-- Objects that have a group of one name define the same in it.
agreeing : (objects : List Object) → AreLoaded objects → (o b : Object) (g h : Group) (s : Symbol) → Has objects o → Has objects b → Has o.groups g → Has b.groups h → bytes_eq g.name h.name ≡ true
    → Has (members_of o g) s → (t : Symbol) × Has (members_of b h) t × (same_symbol s t ≡ true)
agreeing objects loaded o b g h s ho hb hg hh same has =
    let a = all_true (group_agrees o g b) b.groups
    (all_true (λ other. list_all (group_agrees o g other) other.groups) objects
    (all_true (λ k. list_all (λ other. list_all (group_agrees o k other) other.groups) objects) o.groups
    (all_true (λ x. list_all (λ k. list_all (λ other. list_all (group_agrees x k other) other.groups) objects) x.groups) objects loaded.agree o ho) g hg) b hb) h hh in
    let among : all_among (members_of o g) (members_of b h) ≡ true = sym (ap (λ (t : Bool). not t || all_among (members_of o g) (members_of b h)) same) ∙ a in
    let r = has_any (same_symbol s) (members_of b h) (all_true (λ x. list_any (same_symbol x) (members_of b h)) (members_of o g) among s has) in
    (r.0, r.1, r.2)

module _ (run : Run) (os : Objects) (p : Program) (cut : AreCut run os) (loaded : AreLoaded (whole_objects os)) where
  abbrev W : List Object
  W = whole_objects os

  abbrev RO : List Object
  RO = run_objects run os

  in_whole : (o : Object) → Has os.middle o → Has W o
  in_whole o has = has_right os.before (os.middle ++ os.behind) o (has_left os.middle os.behind o has)

  -- a definition that other objects see, and is a member
  is_seen : (e : InputSymbol) → is_entry e ≡ true → is_undefined e.symbol ≡ false → is_definition e.symbol ≡ true
  is_seen e entry defined =
      let p = and_parts (is_some e.symbol.name) (not (is_local e.symbol && not (is_undefined e.symbol))) entry in
      and_from (is_some e.symbol.name && not (is_undefined e.symbol)) (not (is_local e.symbol))
      (and_from (is_some e.symbol.name) (not (is_undefined e.symbol)) p.0 (ap not defined))
      (sym (ap (λ (u : Bool). not (is_local e.symbol && not u)) defined ∙ ap not (and_true (is_local e.symbol))) ∙ p.1)
    where
      and_true : (x : Bool) → (x && true) ≡ x
      and_true true = refl
      and_true false = refl

  listed_member : (o : Object) (g : Group) (place : ℕ) (s : Symbol) → Has o.symbols s → is_definition s ≡ true → is_member_of g s s.kind ≡ true → Has (members_of o g) s
  listed_member o g place s has seen member = filter_has (λ x. is_definition x && is_member_of g x x.kind) o.symbols s has (and_from (is_definition s) (is_member_of g s s.kind) seen member)

  -- ---- taken away by an input before the run

  to_taken : (t r : Bool) → (not t && r) ≡ false → r ≡ true → t ≡ true
  to_taken true r e is = refl
  to_taken false true e is = absurd (no_true (sym e))
  to_taken false false e is = absurd (no_true is)

  lost_member : (o : Object) (kind index : ℕ) → In run os cut loaded.rise o → is_kept RO (as_input (alone run o.input) o) kind index ≡ true → is_kept W o kind index ≡ false
      → (g : Group) × Has o.groups g × (has_member kind index g ≡ true) × (list_any (has_group g.name) os.before ≡ true)
  lost_member o kind index i kept left =
      let any : is_taken_away run os cut o kind index ≡ true =
      to_taken (is_taken_away run os cut o kind index) (is_kept RO (as_input (alone run o.input) o) kind index) (sym (run_kept run os cut o kind index i.from i.to) ∙ left) kept in
      let g = has_any (λ x. has_member kind index x && is_taken run os cut x.name) o.groups any in
      let t = and_parts (has_member kind index g.0) (is_taken run os cut g.0.name) g.2 in
      (g.0, g.1, t.0, t.1)

  lost : (o : Object) (s : Symbol) (kind : SymbolKind) → In run os cut loaded.rise o → in_kept_part RO (as_input (alone run o.input) o) s kind ≡ true → in_kept_part W o s kind ≡ false
      → (g : Group) × Has o.groups g × (is_member_of g s kind ≡ true) × (list_any (has_group g.name) os.before ≡ true)
  lost o s Function i kept left = lost_member o members.FUNCTION s.index i kept left
  lost o s Datum i kept left = lost_member o members.DATA s.index i kept left
  lost o s GlobalVar i kept left = absurd (no_true (sym left))
  lost o s Section i kept left = absurd (no_true (sym left))
  lost o s Table i kept left = absurd (no_true (sym left))

  and_left_true : (x y : Bool) → x ≡ true → (x && y) ≡ false → y ≡ false
  and_left_true true y is e = e
  and_left_true false y is e = absurd (no_true is)

  found_before : (name : List ℕ) → list_any (has_group name) os.before ≡ true → (b : Object) × (find (has_group name) os.before ≡ Some b)
  found_before name any = by_found (find (has_group name) os.before) refl
    where
      by_found : (o : Option Object) → find (has_group name) os.before ≡ o → (b : Object) × (find (has_group name) os.before ≡ Some b)
      by_found None none = absurd (no_true (sym (none_of (has_group name) os.before (find_none (has_group name) os.before none)) ∙ any))
      by_found (Some b) some = (b, some)

  -- The group is that of an input before the run, which defines the name.
  taken_by : (o : Object) (place : ℕ) (s : Symbol) → In run os cut loaded.rise o → Has os.middle o → Has o.symbols s → is_definition s ≡ true
      → (g : Group) × Has o.groups g × (is_member_of g s s.kind ≡ true) × (list_any (has_group g.name) os.before ≡ true) → (d : InputSymbol) × IsBefore run os p (entry_in W o place s) d
  taken_by o place s i ho hs seen lost_by =
      let g : Group = lost_by.0 in
      let b = found_before g.name lost_by.3 in
      let f = find_has (has_group g.name) os.before b.0 b.1 in
      let hb : Has W b.0 = has_left os.before (os.middle ++ os.behind) b.0 f.0 in
      let h = has_any (λ x. bytes_eq x.name g.name) b.0.groups f.1 in
      let same : h.0.name ≡ g.name = name_equal h.0.name g.name h.2 in
      let wins : find (has_group h.0.name) W ≡ Some b.0 =
      ap (λ n. find (has_group n) W) same ∙ (find_append (has_group g.name) os.before (os.middle ++ os.behind) ∙ ap (λ x. first_some (x ∷ find (has_group g.name) (os.middle ++ os.behind) ∷ [])) b.1) in
      let t = agreeing W loaded o b.0 g h.0 s (in_whole o ho) hb lost_by.1 h.1 (ap (λ n. bytes_eq g.name n) same ∙ name_itself g.name) (listed_member o g place s hs seen lost_by.2) in
      let r = group_symbol W b.0 h.0 wins (λ x hx kind index m n. loaded.once b.0 hb x h.0 hx h.1 kind index m n) s t.0 t.1 t.2 in
      let k : Defined W b.0 h.0 wins (λ x hx kind index m n. loaded.once b.0 hb x h.0 hx h.1 kind index m n) s r.0 = r.1 in (
        r.0,
        record {
          entry = linked_entry W r.0 (flat_has (symbols_of W) W b.0 r.0 hb k.there) k.entry;
          before = let low : b.0.input ≤ run.first = all_has (λ (x : Object). x.input ≤ run.first) os.before cut.before b.0 f.0 in omega (arith, k.input, low);
          name = k.name;
          class = k.class;
          defines = k.defines;
        },
      )

  -- ---- dropped in the run alone

  dropped_member : (o : Object) (kind index : ℕ) → is_kept RO (as_input (alone run o.input) o) kind index ≡ false → (g : Group) × Has o.groups g × (has_member kind index g ≡ true)
  dropped_member o kind index left =
      let any : list_any (λ x. has_member kind index x && not (is_input (alone run o.input) (group_winner RO x.name))) o.groups ≡ true =
      not_false (list_any (λ x. has_member kind index x && not (is_input (alone run o.input) (group_winner RO x.name))) o.groups) left in
      let g = has_any (λ x. has_member kind index x && not (is_input (alone run o.input) (group_winner RO x.name))) o.groups any in
      (g.0, g.1, (and_parts (has_member kind index g.0) (not (is_input (alone run o.input) (group_winner RO g.0.name))) g.2).0)
    where
      not_false : (x : Bool) → not x ≡ false → x ≡ true
      not_false true e = refl
      not_false false e = absurd (no_true (sym e))

  dropped_in : (o : Object) (s : Symbol) (kind : SymbolKind) → in_kept_part RO (as_input (alone run o.input) o) s kind ≡ false → (g : Group) × Has o.groups g × (is_member_of g s kind ≡ true)
  dropped_in o s Function left = dropped_member o members.FUNCTION s.index left
  dropped_in o s Datum left = dropped_member o members.DATA s.index left
  dropped_in o s GlobalVar left = absurd (no_true (sym left))
  dropped_in o s Section left = absurd (no_true (sym left))
  dropped_in o s Table left = absurd (no_true (sym left))

  found_alone : (o : Object) (g : Group) → Has os.middle o → Has o.groups g → (b : Object) × Has os.middle b × (find (has_group g.name) RO ≡ Some (as_input (alone run b.input) b))
  found_alone o g ho hg = by_found (find (has_group g.name) RO) refl
    where
      own : has_group g.name (as_input (alone run o.input) o) ≡ true
      own = any_has (λ x. bytes_eq x.name g.name) o.groups g hg (name_itself g.name)

      by_found : (x : Option Object) → find (has_group g.name) RO ≡ x → (b : Object) × Has os.middle b × (find (has_group g.name) RO ≡ Some (as_input (alone run b.input) b))
      by_found None none =
          absurd (no_true (sym (find_none (has_group g.name) RO none (as_input (alone run o.input) o) (map_has (λ (y : Object). as_input (alone run y.input) y) os.middle o ho)) ∙ own))
      by_found (Some c) some =
          let m = has_map (λ (y : Object). as_input (alone run y.input) y) os.middle c (find_has (has_group g.name) RO c some).0 in
          (m.0, m.1, some ∙ ap Some (sym m.2))

  dropped_by : (o : Object) (place : ℕ) (s : Symbol) → Has os.middle o → Has o.symbols s → is_definition s ≡ true → (g : Group) × Has o.groups g × (is_member_of g s s.kind ≡ true)
      → (d : InputSymbol) × Has (entries Plain RO) d × (name_of d ≡ name_of (entry_in W o place s)) × (d.defines ≡ true)
  dropped_by o place s ho hs seen by_group =
      let g : Group = by_group.0 in
      let b = found_alone o g ho by_group.1 in
      let c : Object = as_input (alone run b.0.input) b.0 in
      let h = has_any (λ x. bytes_eq x.name g.name) b.0.groups (find_has (has_group g.name) RO (as_input (alone run b.0.input) b.0) b.2).1 in
      let same : h.0.name ≡ g.name = name_equal h.0.name g.name h.2 in
      let wins : find (has_group h.0.name) RO ≡ Some (as_input (alone run b.0.input) b.0) = ap (λ n. find (has_group n) RO) same ∙ b.2 in
      let t = agreeing W loaded o b.0 g h.0 s (in_whole o ho) (in_whole b.0 b.1) by_group.1 h.1 (ap (λ n. bytes_eq g.name n) same ∙ name_itself g.name) (listed_member o g place s hs seen by_group.2) in
      let r = group_symbol RO (as_input (alone run b.0.input) b.0) h.0 wins (λ x hx kind index m n. loaded.once b.0 (in_whole b.0 b.1) x h.0 hx h.1 kind index m n) s t.0 t.1 t.2 in
      let k : Defined RO (as_input (alone run b.0.input) b.0) h.0 wins (λ x hx kind index m n. loaded.once b.0 (in_whole b.0 b.1) x h.0 hx h.1 kind index m n) s r.0 = r.1 in
      (r.0, linked_entry RO r.0 (flat_has (symbols_of RO) RO (as_input (alone run b.0.input) b.0) r.0 (map_has (λ (y : Object). as_input (alone run y.input) y) os.middle b.0 b.1) k.there) k.entry, k.name, k.defines)

  -- ---- for all symbols of the run

  all_listed : (P : InputSymbol → Type 0) → ((o : Object) → Has os.middle o → (place : ℕ) (s : Symbol) → Has o.symbols s → P (entry_in W o place s)) → All P (flat_map (symbols_of W) os.middle)
  all_listed P each =
      all_from_has P (flat_map (symbols_of W) os.middle) (λ e has.
      let f = has_flat (symbols_of W) os.middle e has in
      let t = from_listed f.0 0 f.0.symbols (λ s h. h) e f.2 in
      subst P (sym t.3) (each f.0 f.1 t.0 t.1 t.2))
    where
      from_listed : (o : Object) (at : ℕ) (ss : List Symbol) → ((s : Symbol) → Has ss s → Has o.symbols s) → (e : InputSymbol) → Has (entries_from W o at ss) e → (place : ℕ) × (s : Symbol) × Has o.symbols s × (e ≡ entry_in W o place s)
      from_listed o at [] inside e has = absurd has
      from_listed o at (s ∷ ss) inside e (inl is) = (at, s, inside s (inl refl), sym is)
      from_listed o at (s ∷ ss) inside e (inr has) = from_listed o (at + 1) ss (λ x h. inside x (inr h)) e has

  pub taken : All (λ (e : InputSymbol). is_entry e ≡ true → e.defines ≡ false → (alone_symbol run os e).defines ≡ true → (d : InputSymbol) × IsBefore run os p e d) (flat_map (symbols_of W) os.middle)
  taken = all_listed (λ e. is_entry e ≡ true → e.defines ≡ false → (alone_symbol run os e).defines ≡ true → (d : InputSymbol) × IsBefore run os p e d) each
    where
      each : (o : Object) → Has os.middle o → (place : ℕ) (s : Symbol) → Has o.symbols s → is_entry (entry_in W o place s) ≡ true → (entry_in W o place s).defines ≡ false
          → (alone_symbol run os (entry_in W o place s)).defines ≡ true → (d : InputSymbol) × IsBefore run os p (entry_in W o place s) d
      each o ho place s hs entry left alone_d =
          let i : In run os cut loaded.rise o = is_in run os cut loaded.rise o ho in
          let d = and_parts (not (is_undefined s)) (in_kept_part RO (as_input (alone run o.input) o) s s.kind) (sym (ap (defines_in run os (entry_in W o place s)) i.found) ∙ alone_d) in
          let seen : is_definition s ≡ true = is_seen (entry_in W o place s) entry (not_true (is_undefined s) d.0) in
          taken_by o place s i ho hs seen (lost o s s.kind i d.1 (and_left_true (not (is_undefined s)) (in_kept_part W o s s.kind) d.0 left))

  pub dropped : All (λ (e : InputSymbol). is_entry e ≡ true → (alone_symbol run os e).defines ≡ false → is_undefined e.symbol ≡ false
      → (d : InputSymbol) × Has (entries Plain RO) d × (name_of d ≡ name_of e) × (d.defines ≡ true)) (flat_map (symbols_of W) os.middle)
  dropped = all_listed (λ e. is_entry e ≡ true → (alone_symbol run os e).defines ≡ false → is_undefined e.symbol ≡ false → (d : InputSymbol) × Has (entries Plain RO) d × (name_of d ≡ name_of e) × (d.defines ≡ true)) each
    where
      each : (o : Object) → Has os.middle o → (place : ℕ) (s : Symbol) → Has o.symbols s → is_entry (entry_in W o place s) ≡ true → (alone_symbol run os (entry_in W o place s)).defines ≡ false → is_undefined s ≡ false
          → (d : InputSymbol) × Has (entries Plain RO) d × (name_of d ≡ name_of (entry_in W o place s)) × (d.defines ≡ true)
      each o ho place s hs entry left defined =
          let i : In run os cut loaded.rise o = is_in run os cut loaded.rise o ho in
          let seen : is_definition s ≡ true = is_seen (entry_in W o place s) entry defined in
          dropped_by o place s ho hs seen (dropped_in o s s.kind (and_left_true (not (is_undefined s)) (in_kept_part RO (as_input (alone run o.input) o) s s.kind) (ap not defined)
          (sym (ap (defines_in run os (entry_in W o place s)) i.found) ∙ left)))
