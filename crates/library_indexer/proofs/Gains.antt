-- What the members give, one after another.
use Rattle.std.proofs.Common.{◌≡◌, ℕ, ◌+◌, ◌<◌, Bool, true, ◌&&◌, List, [], ◌∷◌, ◌++◌, length, take, drop, get_or, Some, ◌-◌, ◌||◌, refl, sym, ap, ◌∙◌}
use Rattle.std.specs.Prelude.{map, slice_get, not, Ok, Err}
use Rattle.std.specs.List.{list_all}
use Rattle.std.proofs.lemmas.List.{take_more, flat_map_more, map-append, append-nil}
use Rattle.std.proofs.lemmas.Option.{slice_get_within, get_or_from_slice_get}
use Rattle.wl_base.specs.declared.fault.Fault.{Fault}
use Rattle.wl_base.specs.declared.span.Span.{Span}
use Rattle.object_file.specs.declared.object.Object.{Object}
use Rattle.object_file.specs.ObjectOf.{object_of}
use Rattle.lib_index.specs.Library.{bytes_of}
use Rattle.round_rules.specs.Rounds.{defined_names}
use Rattle.library_indexer.specs.declared.entries.Entries.{Entries}
use Rattle.library_indexer.specs.Index.{header_length}
use Rattle.library_indexer.specs.Indexed.{begins_as_object, has_name_in_data, text_in, places_in, tells, entries_of}
use Rattle.library_indexer.specs.Steps.{with_names, with_member, moved_back}
use Rattle.library_indexer.proofs.Names.{and_assoc, made}

all_more : (f : Span → Bool) (xs : List Span) (x : Span) → (list_all f xs && f x) ≡ list_all f (xs ++ x ∷ [])
all_more f [] x = and_true (f x)
  where
    and_true : (b : Bool) → b ≡ (b && true)
    and_true true = refl
    and_true Bool.false = refl
all_more f (y ∷ ys) x = and_assoc (f y) (list_all f ys) (f x) ∙ ap (λ t. f y && t) (all_more f ys x)

pub one_more : (bytes : List ℕ) (members : List Span) (m : Span) → with_member bytes (entries_of bytes members) m ≡ entries_of bytes (members ++ m ∷ [])
one_more bytes members m =
    made _ _ _ _ _ _ (flat_map_more (text_in bytes) [] members m) (flat_map_more (places_in bytes) [] members m) (all_more (tells bytes) members m)

pub gains : (bytes : List ℕ) (members : List Span) (k : ℕ) (d : Span) (now new : Entries) → k < length members → now ≡ entries_of bytes (take k members)
    → new ≡ with_member bytes now (get_or members k d) → new ≡ entries_of bytes (take (k + 1) members)
gains bytes members k d now new lt so_far is =
    is ∙ ap (λ (e : Entries). with_member bytes e (get_or members k d)) so_far ∙ one_more bytes (take k members) (get_or members k d) ∙ ap (entries_of bytes) (sym (take_more members k d lt))

-- ---- one member

pub gives_all : (bytes : List ℕ) (e : Entries) (m : Span) (object : Object) → object_of 0 (bytes_of bytes m) ≡ Ok object
    → with_names e (m.start - header_length) (defined_names object) ≡ with_member bytes e m
gives_all bytes e m object is = rw is refl

pub gives_nothing : (bytes : List ℕ) (e : Entries) (m : Span) (fault : Fault) → object_of 0 (bytes_of bytes m) ≡ Err fault
    → (let x : Entries = record { text = e.text; places = e.places; told = e.told && not (begins_as_object (bytes_of bytes m) || has_name_in_data (drop (m.start - header_length) bytes)) } in x ≡ with_member bytes e m)
gives_nothing bytes e m fault is = rw is (made _ _ _ _ _ _ (sym (append-nil e.text)) (sym (append-nil e.places)) refl)

-- ---- where the members lay

pub moves_back : (ms : List Span) (k : ℕ) (m : Span) (now new : List Span) → Some m ≡ slice_get ms k → now ≡ map moved_back (take k ms) → new ≡ now ++ moved_back m ∷ [] → new ≡ map moved_back (take (k + 1) ms)
moves_back ms k m now new at so_far is =
    let lt : k < length ms = slice_get_within ms k m (sym at) in
    let item : get_or ms k m ≡ m = get_or_from_slice_get ms k m m (sym at) in
    let more : take (k + 1) ms ≡ take k ms ++ m ∷ [] = take_more ms k m lt ∙ ap (λ (y : Span). take k ms ++ y ∷ []) item in
    is ∙ ap (λ (xs : List Span). xs ++ moved_back m ∷ []) so_far ∙ sym (map-append moved_back (take k ms) (m ∷ [])) ∙ ap (map moved_back) (sym more)
