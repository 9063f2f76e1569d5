-- A library that is completed is read.
use Rattle.std.proofs.Common.{◌≡◌, ℕ, zero, suc, ◌+◌, ◌-◌, ◌%◌, ◌^◌, ◌≤◌, ◌<◌, Bool, true, false, cond, ◌&&◌, List, [], ◌∷◌, ◌++◌, length, take, drop, Some, Result, Ok, Err, inl, refl, sym, ap, subst, ◌∙◌, arith, append_assoc, length-drop}
use Rattle.std.specs.Prelude.{All, map, slice_get, codes, decimal, ◌==◌}
use Rattle.std.specs.List.{flat_map, list_all}
use Rattle.std.proofs.lemmas.Bool.{ltb-true, ltb-false, le-ltb}
use Rattle.std.proofs.lemmas.List.{length-append, length-map, take_at, drop_at}
use Rattle.std.proofs.lemmas.List.Elements.{All-nil, All-weaker}
use Rattle.wl_base.specs.declared.span.Span.{Span}
use Rattle.wl_base.specs.declared.fault.Fault.{Fault}
use Rattle.wl_base.specs.declared.fault.LibFault.{LibFault}
use Rattle.wl_base.specs.declared.fault.LibFault.TheVariants.{NoIndex}
use Rattle.object_file.specs.declared.object.Object.{Object}
use Rattle.lib_index.specs.declared.members.Member.{Member}
use Rattle.lib_index.specs.Archive.{magic, member_of, SpellsHeader, AreMembers}
use Rattle.lib_index.specs.Library.{Contents, IsLibrary, SpellsIndex, SpellsWord, AreNames, spans, bytes_of, leasts}
use Rattle.lib_index.specs.Reading.{library_of}
use Rattle.lib_index.proofs.LibraryLaws.{library_again}
use Rattle.library_indexer.specs.declared.entries.Entries.{Entries}
use Rattle.library_indexer.specs.Index.{word, moved_by, moved_word, unfilled_size, data_size, filling, spaced, index_header, index_data, with_entries}
use Rattle.library_indexer.specs.Indexed.{header_of, ended, names_given, can_be_told, is_told, names_in, tells, read_in, members_of, entries_of, entries_in, fits, can_be_completed, lacks_index, with_index}
use Rattle.library_indexer.specs.Steps.{moved_back}
use Rattle.library_indexer.specs.Completed.{moved, numbered, contents_of, AreRead, AreKept}
use Rattle.library_indexer.proofs.Cut.{HasMembers, has_members, members_are, stand_behind, lie_behind_magic, LiesBehindMagic}
use Rattle.library_indexer.proofs.Moved.{moved_member, cut_moves, spans_move, headers_move, all_hold_same, back_again}
use Rattle.library_indexer.proofs.Names.{all_both}
use Rattle.library_indexer.proofs.Numbers.{moved_header, names_are, places_are, places_lie, text_is, EndsIn}
use Rattle.library_indexer.proofs.Spelled.{size_is_spelled, size_is_ten, word_is_spelled, words_are_spelled, words_are_long, names_are_spelled}

abbrev Entry : Type 0
Entry = List ℕ × ℕ

-- ---- lengths

filling_is : (n : ℕ) → length (filling n) ≡ n % 2
filling_is n = by (n % 2) (omega arith)
  where
    by : (r : ℕ) → r < 2 → length {A = ℕ} (cond (r == 1) (0 ∷ []) []) ≡ r
    by zero lt = refl
    by (suc zero) lt = refl
    by (suc (suc r)) lt = absurd (omega (arith, lt))

header_is_long : (size : ℕ) → size < 2 ^ 32 → length (index_header size) ≡ 60
unfolding index_header
header_is_long size small =
    let mark : List ℕ = 0x60 ∷ 0x0a ∷ [] in
    omega (arith, size_is_ten size small, length-append (codes "/               0           0     0     0       ") (spaced (decimal size) ++ mark), length-append (spaced (decimal size)) mark)

data_are_long : (places text : List ℕ) → length (index_data places text) ≡ data_size places text
unfolding index_data
data_are_long places text =
    let size : ℕ = data_size places text in
    let words : List ℕ = flat_map (moved_word size) places in
    let last : List ℕ = filling (unfilled_size places text) in
    omega (arith, words_are_long size places, filling_is (unfilled_size places text), length-append (word (length places)) (words ++ (text ++ last)), length-append words (text ++ last), length-append text last)

even : (n : ℕ) → (n + n % 2) % 2 ≡ 0
even n = omega arith

-- ---- a library that is given entries

-- What holds of the entries, and of the members in front of which they are put.
pub record AreGiven (places text : List ℕ) (entries : List Entry) (all : List Member) : Type 0 where
  pub small : data_size places text < 2 ^ 32
  pub reach : All (λ p. p + moved_by (data_size places text) < 2 ^ 32) places
  pub named : AreNames (map (λ (e : Entry). e.0) entries) text
  pub found : map Some (map (λ p. p + moved_by (data_size places text)) places) ≡ map (slice_get (map (moved_header (moved_by (data_size places text))) (spans all))) (map (λ (e : Entry). e.1) entries)

index_spelled : (places text : List ℕ) (entries : List Entry) (all : List Member) → AreGiven places text entries all
    → SpellsIndex (map (λ p. p + moved_by (data_size places text)) places) (map (λ (e : Entry). e.0) entries) (index_data places text)
unfolding index_data
index_spelled places text entries all given =
    let size : ℕ = data_size places text in
    let same : length (map (λ p. p + moved_by size) places) ≡ length places = length-map places (λ p. p + moved_by size) in
    record {
      count = word (length places);
      words = flat_map (moved_word size) places;
      text = text;
      more = filling (unfilled_size places text);
      parts = refl;
      counted = subst (λ n. SpellsWord n (word (length places))) (sym same) (word_is_spelled (length places) (omega (arith, given.small)));
      placed = words_are_spelled size places given.reach;
      named = given.named;
    }

header_spelled : (size : ℕ) → size < 2 ^ 32 → SpellsHeader (codes "/               ") size (index_header size)
unfolding index_header
header_spelled size small = record {
  between = codes "0           0     0     0       ";
  field = spaced (decimal size);
  parts = refl;
  name_long = refl;
  between_long = refl;
  field_long = size_is_ten size small;
  sized = size_is_spelled size small;
}

pub given_is_library : (bytes places text : List ℕ) (entries : List Entry) (h : HasMembers bytes) → AreGiven places text entries h.all
    → IsLibrary (record { members = map (moved (moved_by (data_size places text))) (spans h.all); offered = leasts entries }) (with_entries places text bytes)
unfolding with_entries
given_is_library bytes places text entries h given =
    let size : ℕ = data_size places text in
    let by : ℕ = moved_by size in
    let head : List ℕ = index_header size in
    let content : List ℕ = index_data places text in
    let whole : List ℕ = magic ++ (head ++ (content ++ drop 8 bytes)) in
    let behind : drop 8 bytes ≡ h.rest = ap (drop 8) h.begins ∙ drop_at magic h.rest 8 refl in
    let rest : List ℕ = head ++ (content ++ h.rest) in
    let begins : whole ≡ magic ++ rest = ap (λ (x : List ℕ). magic ++ (head ++ (content ++ x))) behind in
    let head_long : length head ≡ 60 = header_is_long size given.small in
    let data_long : length content ≡ size = data_are_long places text in
    let before : length bytes ≡ 8 + length h.rest = omega (arith, ap length h.begins, length-append magic h.rest) in
    let inner : length (content ++ h.rest) ≡ size + length h.rest = omega (arith, length-append content h.rest, data_long) in
    let long : length whole ≡ length bytes + by = omega (arith, ap length begins, length-append magic rest, length-append head (content ++ h.rest), head_long, inner, before) in
    let start : length whole - length (content ++ h.rest) ≡ 68 = omega (arith, long, before, inner) in
    let first : Member = member_of (codes "/               ") (length whole - length rest) (length whole - length (content ++ h.rest)) (length content) in
    let others : AreMembers (length whole) (map (moved_member by) h.all) h.rest
    = subst (λ end. AreMembers end (map (moved_member by) h.all) h.rest) (sym long) (cut_moves by (length bytes) h.all h.rest (omega (arith, before)) h.members) in
    let headed : SpellsHeader (codes "/               ") (length content) head = subst (λ n. SpellsHeader (codes "/               ") n head) (sym data_long) (header_spelled size given.small) in
    let padded : 0 ≡ length content % 2 = sym (ap (λ n. n % 2) data_long ∙ even (unfilled_size places text)) in
    let front : length (magic ++ head) ≡ 68 = omega (arith, length-append magic head, head_long) in
    let holds : bytes_of whole first.span ≡ content
    = ap (λ n. take (length content) (drop n whole)) start
    ∙ ap (λ (x : List ℕ). take (length content) (drop 68 x)) (begins ∙ sym (append_assoc magic head (content ++ h.rest)))
    ∙ ap (take (length content)) (drop_at (magic ++ head) (content ++ h.rest) 68 front) ∙ take_at content h.rest (length content) refl in
    let stand = stand_behind (length bytes) h.all h.rest (omega (arith, before)) h.members in
    record {
      rest = rest;
      all = first ∷ map (moved_member by) h.all;
      entries = entries;
      begins = begins;
      cut = (codes "/               ", head, content, [], h.rest, refl, headed, inl padded, refl, others);
      holds = sym (spans_move by h.all);
      given = (
        refl,
        record {
          places = map (λ p. p + by) places;
          spelled = subst (λ (x : List ℕ). SpellsIndex (map (λ p. p + by) places) (map (λ (e : Entry). e.0) entries) x) (sym holds) (index_spelled places text entries h.all given);
          found = given.found ∙ ap (λ (hs : List ℕ). map (slice_get hs) (map (λ (e : Entry). e.1) entries)) (sym (headers_move by h.all stand));
        },
      );
      offers = refl;
    }

-- ---- one that is given nothing

pub bare_is : (bytes : List ℕ) (library : Contents) → library_of bytes ≡ Err NoIndex → library_of (with_entries [] [] bytes) ≡ Ok library → map moved_back library.members ≡ members_of bytes
bare_is bytes library lacks read =
    let h = has_members bytes lacks in
    let nothing : AreGiven [] [] [] h.all = record { small = omega arith; reach = All-nil (λ p. p + 64 < 2 ^ 32); named = refl; found = refl } in
    let same = sym (library_again (with_entries [] [] bytes) _ (given_is_library bytes [] [] [] h nothing)) ∙ read in
    let members : map (moved 64) (spans h.all) ≡ library.members = by _ library same in
    ap (map moved_back) (sym members) ∙ back_again (spans h.all) ∙ sym (members_are bytes h)
  where
    by : (l m : Contents) → (let r : Result Contents LibFault = Ok l in r ≡ Ok m) → l.members ≡ m.members
    by l m e = let same : l ≡ m = cc in ap (λ (x : Contents). x.members) same

pub bare_is_short : (bytes : List ℕ) → fits 4 bytes ≡ true → length (with_entries [] [] bytes) < 2 ^ 32
unfolding with_entries
bare_is_short bytes short =
    let head : List ℕ = index_header (data_size [] []) in
    let content : List ℕ = index_data [] [] in
    omega (arith, ltb-true (length bytes + 64) (2 ^ 32) short, length-append magic (head ++ (content ++ drop 8 bytes)), length-append head (content ++ drop 8 bytes), header_is_long (data_size [] []) (omega arith), length-append content (drop 8 bytes), data_are_long [] [], length-drop 8 bytes)

pub members_lie : (bytes : List ℕ) → library_of bytes ≡ Err NoIndex → All (EndsIn (length bytes)) (members_of bytes)
members_lie bytes lacks =
    let h = has_members bytes lacks in
    subst (λ (ms : List Span). All (EndsIn (length bytes)) ms) (sym (members_are bytes h))
    (All-weaker (LiesBehindMagic (length bytes)) (EndsIn (length bytes)) (λ m p. p.1) (spans h.all) (lie_behind_magic bytes h))

pub found_lie : (bytes : List ℕ) (members : List Span) → library_of bytes ≡ Err NoIndex → members ≡ members_of bytes → All (λ m. m.start + m.len ≤ length bytes) members
found_lie bytes members lacks is = subst (λ (ms : List Span). All (EndsIn (length bytes)) ms) (sym is) (members_lie bytes lacks)

pub places_are_small : (bytes : List ℕ) → library_of bytes ≡ Err NoIndex → fits 4 bytes ≡ true → All (λ p. p < 2 ^ 32) (entries_in bytes).places
places_are_small bytes lacks short =
    places_lie bytes (length bytes) (2 ^ 32) (omega (arith, ltb-true (length bytes + 64) (2 ^ 32) short)) (members_of bytes) (members_lie bytes lacks)

-- ---- one that is too long

left_as_it_is : (lacks told fits : Bool) (whole bytes : List ℕ) → fits ≡ false → cond lacks (cond (told && fits) whole bytes) bytes ≡ bytes
left_as_it_is false told fits whole bytes e = refl
left_as_it_is true true fits whole bytes e = rw e refl
left_as_it_is true false fits whole bytes e = refl

pub long_stays : (bytes : List ℕ) → fits 4 bytes ≡ false → with_index bytes ≡ bytes
unfolding with_index
long_stays bytes long =
    let e : Entries = entries_in bytes in
    let size : ℕ = data_size e.places e.text in
    let least : 2 ^ 32 ≤ length bytes + 64 = ltb-false (length bytes + 64) (2 ^ 32) long in
    let longer : fits size bytes ≡ false = le-ltb (length bytes + moved_by size) (2 ^ 32) (omega (arith, least)) in
    left_as_it_is (lacks_index (library_of bytes)) e.told (fits size bytes) (with_entries e.places e.text bytes) bytes longer

-- ---- one that is given all

both : (a b : Bool) → (a && b) ≡ true → (a ≡ true) × (b ≡ true)
both true b e = (refl, e)
both false b e = absurd cc

names_told : (header content : List ℕ) (read : Result Object Fault) → is_told header content read ≡ true → list_all can_be_told (names_given read) ≡ true
names_told header content (Ok object) e = e
names_told header content (Err fault) e = refl

all_told : (bytes : List ℕ) (ms : List Span) → list_all (tells bytes) ms ≡ true → list_all can_be_told (flat_map (names_in bytes) ms) ≡ true
all_told bytes [] e = refl
all_told bytes (m ∷ ms) e =
    let p = both (tells bytes m) (list_all (tells bytes) ms) e in
    let mine : list_all can_be_told (names_in bytes m) ≡ true = names_told (drop (header_of m) bytes) (bytes_of bytes m) (read_in bytes m) p.0 in
    let others : list_all can_be_told (flat_map (names_in bytes) ms) ≡ true = all_told bytes ms p.1 in
    all_both (names_in bytes m) (flat_map (names_in bytes) ms) ∙ (λ i. mine i && others i)

entries_given : (bytes : List ℕ) (h : HasMembers bytes) → can_be_completed (entries_of bytes (spans h.all)) bytes ≡ true
    → AreGiven (entries_of bytes (spans h.all)).places (entries_of bytes (spans h.all)).text (numbered bytes 0 (spans h.all)) h.all
entries_given bytes h can =
    let ms : List Span = spans h.all in
    let e : Entries = entries_of bytes ms in
    let size : ℕ = data_size e.places e.text in
    let p = both e.told (fits size bytes) can in
    let short : length bytes + moved_by size < 2 ^ 32 = ltb-true (length bytes + moved_by size) (2 ^ 32) p.1 in
    let lie : All (EndsIn (length bytes)) ms = All-weaker (LiesBehindMagic (length bytes)) (EndsIn (length bytes)) (λ m p. p.1) ms (lie_behind_magic bytes h) in
    let reach : All (λ p. p < length bytes + 1) e.places = places_lie bytes (length bytes) (length bytes + 1) (omega arith) ms lie in
    let named : AreNames (flat_map (names_in bytes) ms) (flat_map ended (flat_map (names_in bytes) ms)) = names_are_spelled (flat_map (names_in bytes) ms) (all_told bytes ms p.0) in
    record {
      small = omega (arith, short);
      reach = All-weaker (λ p. p < length bytes + 1) (λ p. p + moved_by size < 2 ^ 32) (λ p lt. omega (arith, lt, short)) e.places reach;
      named = subst (λ (ns : List (List ℕ)). AreNames ns e.text) (sym (names_are bytes 0 ms)) (subst (λ (t : List ℕ). AreNames (flat_map (names_in bytes) ms) t) (text_is bytes ms) named);
      found = places_are bytes (moved_by size) [] ms;
    }

completes : (lacks can : Bool) (whole bytes : List ℕ) → lacks ≡ true → can ≡ true → cond lacks (cond can whole bytes) bytes ≡ whole
completes lacks can whole bytes p q = rw (p, q) refl

with_index_is : (bytes : List ℕ) → library_of bytes ≡ Err NoIndex → can_be_completed (entries_in bytes) bytes ≡ true
    → with_index bytes ≡ with_entries (entries_in bytes).places (entries_in bytes).text bytes
unfolding with_index
with_index_is bytes lacks can =
    completes (lacks_index (library_of bytes)) (can_be_completed (entries_in bytes) bytes) (with_entries (entries_in bytes).places (entries_in bytes).text bytes) bytes (ap lacks_index lacks) can

-- The library with what the index gives for these members.
abbrev IsReadWith : List ℕ → List Span → Type 0
IsReadWith bytes ms =
    IsLibrary (record { members = map (moved (moved_by (data_size (entries_of bytes ms).places (entries_of bytes ms).text))) ms; offered = leasts (numbered bytes 0 ms) })
    (with_entries (entries_of bytes ms).places (entries_of bytes ms).text bytes)

pub completed_is_read : AreRead
completed_is_read bytes c =
    let h = has_members bytes c.0 in
    let are : spans h.all ≡ members_of bytes = sym (members_are bytes h) in
    let can : can_be_completed (entries_of bytes (spans h.all)) bytes ≡ true = ap (λ (ms : List Span). can_be_completed (entries_of bytes ms) bytes) are ∙ c.1 in
    let read : IsReadWith bytes (spans h.all)
    = given_is_library bytes (entries_of bytes (spans h.all)).places (entries_of bytes (spans h.all)).text (numbered bytes 0 (spans h.all)) h (entries_given bytes h can) in
    let there : IsReadWith bytes (members_of bytes) = subst (λ (ms : List Span). IsReadWith bytes ms) are read in
    subst (λ (x : List ℕ). IsLibrary (contents_of bytes) x) (sym (with_index_is bytes c.0 c.1)) there

kept : (bytes : List ℕ) (h : HasMembers bytes) (places text : List ℕ) → data_size places text < 2 ^ 32 → (ms : List Span) → All (LiesBehindMagic (length bytes)) ms
    → map (bytes_of (with_entries places text bytes)) (map (moved (moved_by (data_size places text))) ms) ≡ map (bytes_of bytes) ms
unfolding with_entries
kept bytes h places text small ms lie =
    let size : ℕ = data_size places text in
    let head : List ℕ = index_header size in
    let content : List ℕ = index_data places text in
    let front : List ℕ = magic ++ (head ++ content) in
    let behind : drop 8 bytes ≡ h.rest = ap (drop 8) h.begins ∙ drop_at magic h.rest 8 refl in
    let parts : magic ++ (head ++ (content ++ drop 8 bytes)) ≡ front ++ h.rest
    = ap (λ (x : List ℕ). magic ++ (head ++ (content ++ x))) behind ∙ sym (append_assoc magic (head ++ content) h.rest ∙ ap (λ (x : List ℕ). magic ++ x) (append_assoc head content h.rest)) in
    let long : length front ≡ 8 + moved_by size = omega (arith, length-append magic (head ++ content), length-append head content, header_is_long size small, data_are_long places text) in
    ap (λ (x : List ℕ). map (bytes_of x) (map (moved (moved_by size)) ms)) parts
    ∙ all_hold_same (moved_by size) (length bytes) front h.rest ms long lie
    ∙ sym (ap (λ (x : List ℕ). map (bytes_of x) ms) h.begins)

pub completed_is_kept : AreKept
completed_is_kept bytes c =
    let h = has_members bytes c.0 in
    let e : Entries = entries_in bytes in
    let p = both e.told (fits (data_size e.places e.text) bytes) c.1 in
    let small : data_size e.places e.text < 2 ^ 32 = omega (arith, ltb-true (length bytes + moved_by (data_size e.places e.text)) (2 ^ 32) p.1) in
    let lie : All (LiesBehindMagic (length bytes)) (members_of bytes) = subst (λ (ms : List Span). All (LiesBehindMagic (length bytes)) ms) (sym (members_are bytes h)) (lie_behind_magic bytes h) in
    ap (λ (x : List ℕ). map (bytes_of x) (contents_of bytes).members) (with_index_is bytes c.0 c.1)
    ∙ kept bytes h e.places e.text small (members_of bytes) lie
