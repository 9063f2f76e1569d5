-- The chunks of all parts differ.
use Rattle.std.proofs.Common.{◌≡◌, ◌⊎◌, ℕ, zero, suc, ◌+◌, ◌<◌, ◌≤◌, Bool, true, false, cond, List, [], ◌∷◌, ◌++◌, length, length-take, get_or, take, drop, Option, Some, None, refl, sym, ap, subst, ◌∙◌, arith, inl, inr}
use Rattle.std.specs.Prelude.{slice_get, map, filter, option_map, ◌==◌, ◌&&◌, if◌then◌else◌}
use Rattle.std.proofs.lemmas.List.{map-append, append_assoc, append-nil, take_more}
use Rattle.std.proofs.lemmas.Option.{slice_get_within, slice_get-map, slice_get-get_or}
use Rattle.link_program.specs.mark_bits.declared.chunk.Chunk.{Chunk}
use Rattle.link_program.specs.mark_bits.Chunks.{Differ, Lacks}
use Rattle.link_program.specs.object_file.declared.object.Object.{Object}
use Rattle.link_program.specs.made_symbols.declared.mode.Mode.{Mode}
use Rattle.link_program.specs.made_symbols.Made.{made, MadeSymbol, call_ctors}
use Rattle.link_program.specs.name_entries.View.{InputsRise}
use Rattle.link_program.specs.link_rules.Program.{indexed, option_onto, made_kind, no_source}
use Rattle.link_program.specs.declared.named.Named.{Named}
use Rattle.link_program.specs.declared.part.Content.TheVariants as contents
use Rattle.link_program.specs.declared.part.Part.{Part}
use Rattle.program_tables.specs.declared.view.Lookups.{Lookups}
use Rattle.program_tables.specs.Inits.{call_names}
use Rattle.program_tables.specs.Views.{View, view_at}
use Rattle.program_tables.specs.Rows.{Row, function_row, segment_row, global_row, keeps_row, rows_in, made_row, made_rows, rows_of_view, rows_upto, all_rows}
use Rattle.program_tables.proofs.Lists.{Each, each_append, each_weaker, each_at}
use Rattle.program_tables.proofs.Growing.{differ_more}
use Rattle.program_tables.proofs.Placing.{dropped}
use Rattle.program_tables.proofs.Steps.{item_at}
use Rattle.program_tables.proofs.Turning.{view_object}

abbrev pub chunk_of : Row → Chunk
chunk_of row = row.part.chunk

abbrev chunk : ℕ → ℕ → ℕ → Chunk
chunk input kind index = record { input = input; kind = kind; index = index }

-- A chunk stands before another one: its input is less, or with the same input its kind, or with the same kind its index.
abbrev Before : ℕ → ℕ → ℕ → Chunk → Type 0
Before input kind index c = (c.input < input) ⊎ ((c.input ≡ input) × ((c.kind < kind) ⊎ ((c.kind ≡ kind) × (c.index < index))))

not_before : (input kind index : ℕ) → Before input kind index (chunk input kind index) → ⊥
not_before input kind index (inl lt) = omega (arith, lt)
not_before input kind index (inr (same, inl lt)) = omega (arith, lt)
not_before input kind index (inr (same, inr (also, lt))) = omega (arith, lt)

before_next : (input kind index : ℕ) (c : Chunk) → Before input kind index c → Before input kind (index + 1) c
before_next input kind index c (inl lt) = inl lt
before_next input kind index c (inr (same, inl lt)) = inr (same, inl lt)
before_next input kind index c (inr (same, inr (also, lt))) = inr (same, inr (also, omega (arith, lt)))

before_kind : (input kind index : ℕ) (c : Chunk) → Before input kind index c → Before input (kind + 1) 0 c
before_kind input kind index c (inl lt) = inl lt
before_kind input kind index c (inr (same, inl lt)) = inr (same, inl (omega (arith, lt)))
before_kind input kind index c (inr (same, inr (also, lt))) = inr (same, inl (omega (arith, also)))

before_input : (input kind index other : ℕ) → input < other → (c : Chunk) → Before input kind index c → Before other 0 0 c
before_input input kind index other less c (inl lt) = inl (omega (arith, lt, less))
before_input input kind index other less c (inr (same, rest)) = inl (omega (arith, same, less))

-- Chunks that differ, before a place.
record Line (cs : List Chunk) (input kind index : ℕ) : Type 0 where
  differ : Differ cs
  before : Each (Before input kind index) cs

put : (cs : List Chunk) (input kind index : ℕ) → Line cs input kind index → Line (cs ++ chunk input kind index ∷ []) input kind (index + 1)
put cs input kind index line = record {
  differ = differ_more cs (chunk input kind index) line.differ
      (λ k at. not_before input kind index (each_at (Before input kind index) cs k (chunk input kind index) line.before at));
  before = each_append (Before input kind (index + 1)) cs (chunk input kind index ∷ [])
      (each_weaker (Before input kind index) (Before input kind (index + 1)) (before_next input kind index) cs line.before)
      (inr (refl, inr (refl, omega arith)), tt);
}

pass : (cs : List Chunk) (input kind index : ℕ) → Line cs input kind index → Line cs input kind (index + 1)
pass cs input kind index line = record {
  differ = line.differ;
  before = each_weaker (Before input kind index) (Before input kind (index + 1)) (before_next input kind index) cs line.before;
}

next_kind : (cs : List Chunk) (input kind index : ℕ) → Line cs input kind index → Line cs input (kind + 1) 0
next_kind cs input kind index line = record {
  differ = line.differ;
  before = each_weaker (Before input kind index) (Before input (kind + 1) 0) (before_kind input kind index) cs line.before;
}

next_input : (cs : List Chunk) (input kind index other : ℕ) → input < other → Line cs input kind index → Line cs other 0 0
next_input cs input kind index other less line = record {
  differ = line.differ;
  before = each_weaker (Before input kind index) (Before other 0 0) (before_input input kind index other less) cs line.before;
}

-- ---- the parts of an object

-- kept rows of one kind, each with the chunk of its place
kind_line : {X : Type 0} (keeps : Row → Bool) (f : ℕ → X → Row) (input kind : ℕ) → ((n : ℕ) (x : X) → chunk_of (f n x) ≡ chunk input kind n) → (xs : List X) (n : ℕ) (cs : List Chunk)
    → Line cs input kind n → Line (cs ++ map chunk_of (filter keeps (indexed f n xs))) input (kind + 1) 0
kind_line keeps f input kind is [] n cs line = subst (λ ds. Line ds input (kind + 1) 0) (sym (append-nil cs)) (next_kind cs input kind n line)
kind_line keeps f input kind is (x ∷ xs) n cs line =
    by (keeps (f n x)) (kind_line keeps f input kind is xs (n + 1) (cs ++ chunk input kind n ∷ []) (put cs input kind n line))
    (kind_line keeps f input kind is xs (n + 1) cs (pass cs input kind n line))
  where
    by : (kept : Bool) → Line ((cs ++ chunk input kind n ∷ []) ++ map chunk_of (filter keeps (indexed f (n + 1) xs))) input (kind + 1) 0
        → Line (cs ++ map chunk_of (filter keeps (indexed f (n + 1) xs))) input (kind + 1) 0
        → Line (cs ++ map chunk_of (cond kept (f n x ∷ filter keeps (indexed f (n + 1) xs)) (filter keeps (indexed f (n + 1) xs)))) input (kind + 1) 0
    by true more same =
        subst (λ ds. Line ds input (kind + 1) 0)
        (append_assoc cs (chunk input kind n ∷ []) (map chunk_of (filter keeps (indexed f (n + 1) xs)))
        ∙ ap (λ (c : Chunk). cs ++ (c ∷ map chunk_of (filter keeps (indexed f (n + 1) xs)))) (sym (is n x))) more
    by false more same = same

object_line : (v : View) (cs : List Chunk) → Line cs v.object.input 0 0 → Line (cs ++ map chunk_of (rows_in v)) (v.object.input + 1) 0 0
object_line v cs line =
    let functions = filter (keeps_row v) (indexed (function_row v) 0 v.object.functions) in
    let segments = filter (keeps_row v) (indexed (segment_row v) 0 v.object.segments) in
    let globals = filter (keeps_row v) (indexed (global_row v) 0 v.object.globals) in
    let one = kind_line (keeps_row v) (function_row v) v.object.input 0 (λ n x. refl) v.object.functions 0 cs line in
    let two = kind_line (keeps_row v) (segment_row v) v.object.input 1 (λ n x. refl) v.object.segments 0 (cs ++ map chunk_of functions) one in
    let three = kind_line (keeps_row v) (global_row v) v.object.input 2 (λ n x. refl) v.object.globals 0 ((cs ++ map chunk_of functions) ++ map chunk_of segments) two in
    let is : ((cs ++ map chunk_of functions) ++ map chunk_of segments) ++ map chunk_of globals ≡ cs ++ map chunk_of (rows_in v) =
    ap (λ ds. ds ++ map chunk_of globals) (append_assoc cs (map chunk_of functions) (map chunk_of segments) ∙ ap (λ ds. cs ++ ds) (sym (map-append chunk_of functions segments)))
    ∙ append_assoc cs (map chunk_of (functions ++ segments)) (map chunk_of globals)
    ∙ ap (λ ds. cs ++ ds) (sym (map-append chunk_of (functions ++ segments) globals)) in
    next_input (cs ++ map chunk_of (rows_in v)) v.object.input 3 0 (v.object.input + 1) (omega arith) (subst (λ ds. Line ds v.object.input 3 0) is three)

-- ---- the linker's parts

abbrev Own : ℕ → Chunk → Type 0
Own number c = (c.input ≡ 0) × (c.index < number)

own_next : (number : ℕ) (c : Chunk) → Own number c → Own (number + 1) c
own_next number c own = (own.0, omega (arith, own.1))

-- They differ, and have numbers below this.
record Made (cs : List Chunk) (number : ℕ) : Type 0 where
  differ : Differ cs
  own : Each (Own number) cs

made_line : (calls : List Named) (ms : List MadeSymbol) (number : ℕ) (cs : List Chunk) → Made cs number → Line (cs ++ map chunk_of (made_rows calls number ms)) 1 0 0
made_line calls [] number cs own = subst (λ ds. Line ds 1 0 0) (sym (append-nil cs)) (record {
  differ = own.differ;
  before = each_weaker (Own number) (Before 1 0 0) (λ c is. inl (omega (arith, is.0))) cs own.own;
})
made_line calls (m ∷ ms) number cs own =
    let later = each_weaker (Own number) (Own (number + 1)) (own_next number) cs own.own in
    by (made_kind m.kind) (made_line calls ms (number + 1) cs (record { differ = own.differ; own = later }))
    (λ kind. made_line calls ms (number + 1) (cs ++ chunk 0 kind number ∷ []) (record {
      differ = differ_more cs (chunk 0 kind number) own.differ
          (λ k at. let is = each_at (Own number) cs k (chunk 0 kind number) own.own at in omega (arith, is.1));
      own = each_append (Own (number + 1)) cs (chunk 0 kind number ∷ []) later ((refl, omega arith), tt);
    }))
  where
    by : (kind : Option ℕ) → Line (cs ++ map chunk_of (made_rows calls (number + 1) ms)) 1 0 0
        → ((kind : ℕ) → Line ((cs ++ chunk 0 kind number ∷ []) ++ map chunk_of (made_rows calls (number + 1) ms)) 1 0 0)
        → Line (cs ++ map chunk_of (option_onto (option_map (λ kind. record {
          part = record { chunk = record { input = 0; kind = kind; index = number }; content = contents.Made; source = no_source };
          named = if (kind == 0) && (number == call_ctors) then calls else [];
        }) kind) (made_rows calls (number + 1) ms))) 1 0 0
    by None same more = same
    by (Some kind) same more = subst (λ ds. Line ds 1 0 0) (append_assoc cs (chunk 0 kind number ∷ []) (map chunk_of (made_rows calls (number + 1) ms))) (more kind)

-- ---- all parts

-- The chunks of the first objects' parts, behind others; the inputs of the other objects come behind.
record Lines (l : Lookups) (others : List Chunk) (n : ℕ) : Type 0 where
  last : ℕ
  line : Line (others ++ map chunk_of (rows_upto l n)) (last + 1) 0 0
  rise : InputsRise last (drop n l.entries.objects.now)

-- a later input
reach : (cs : List Chunk) (last input : ℕ) → last < input → Line cs (last + 1) 0 0 → Line cs input 0 0
reach cs last input less line = record {
  differ = line.differ;
  before = each_weaker (Before (last + 1) 0 0) (Before input 0 0) (later last input less) cs line.before;
}
  where
    later : (last input : ℕ) → last < input → (c : Chunk) → Before (last + 1) 0 0 c → Before input 0 0 c
    later last input less c (inl lt) = inl (omega (arith, lt, less))
    later last input less c (inr (same, inl lt)) = absurd (omega (arith, lt))
    later last input less c (inr (same, inr (also, lt))) = absurd (omega (arith, lt))

rises : (l : Lookups) (n last : ℕ) (o : Object) → slice_get l.entries.objects.now n ≡ Some o → InputsRise last (drop n l.entries.objects.now) → InputsRise last (o ∷ drop (suc n) l.entries.objects.now)
rises l n last o at rise =
    let e : n + 1 ≡ suc n = omega arith in
    subst (InputsRise last) (dropped l.entries.objects.now n o at ∙ ap (λ (k : ℕ). o ∷ drop k l.entries.objects.now) e) rise

one_object : (l : Lookups) (others : List Chunk) (n : ℕ) (o : Object) → slice_get l.entries.objects.now n ≡ Some o → Lines l others n → (v : Option View) → view_at l n ≡ v → Lines l others (suc n)
one_object l others n o at so_far None is =
    let up = rises l n so_far.last o at so_far.rise in
    let rest : others ++ map chunk_of (rows_upto l n) ≡ others ++ map chunk_of (rows_upto l (suc n)) =
    ap (λ rows. others ++ map chunk_of rows) (sym (append-nil (rows_upto l n)) ∙ ap (λ x. rows_upto l n ++ rows_of_view x) (sym is)) in
    record {
      last = o.input;
      line = subst (λ ds. Line ds (o.input + 1) 0 0) rest
          (reach (others ++ map chunk_of (rows_upto l n)) so_far.last (o.input + 1) (omega (arith, up.0)) so_far.line);
      rise = up.2;
    }
one_object l others n o at so_far (Some v) is =
    let up = rises l n so_far.last v.object (view_object l n v is) so_far.rise in
    let cs = others ++ map chunk_of (rows_upto l n) in
    let more : cs ++ map chunk_of (rows_in v) ≡ others ++ map chunk_of (rows_upto l (suc n)) =
    append_assoc others (map chunk_of (rows_upto l n)) (map chunk_of (rows_in v))
    ∙ ap (λ ds. others ++ ds) (sym (map-append chunk_of (rows_upto l n) (rows_in v)))
    ∙ ap (λ x. others ++ map chunk_of (rows_upto l n ++ rows_of_view x)) (sym is) in
    record {
      last = v.object.input;
      line = subst (λ ds. Line ds (v.object.input + 1) 0 0) more (object_line v cs (reach cs so_far.last v.object.input up.0 so_far.line));
      rise = up.2;
    }

lines_upto : (l : Lookups) (others : List Chunk) → Line others 1 0 0 → InputsRise 0 l.entries.objects.now → (n : ℕ) → n ≤ length l.entries.objects.now → Lines l others n
lines_upto l others line rise zero le = record {
  last = 0;
  line = subst (λ ds. Line ds 1 0 0) (sym (append-nil others)) line;
  rise = rise;
}
lines_upto l others line rise (suc n) le =
    let found = item_at l.entries.objects.now n (omega (arith, le)) in
    one_object l others n found.0 found.1 (lines_upto l others line rise n (omega (arith, le))) (view_at l n) refl

none_there : (j : ℕ) (c : Chunk) → slice_get [] j ≡ Some c → ⊥
none_there j c at = absurd cc

pub all_differ : (mode : Mode) (l : Lookups) → InputsRise 0 l.entries.objects.now → Differ (map chunk_of (all_rows mode l))
all_differ mode l rise =
    let calls = call_names l in
    let cs = map chunk_of (made_rows calls 0 (made mode)) in
    let own : Line cs 1 0 0 = made_line calls (made mode) 0 [] (record { differ = λ j k c at _. absurd (none_there j c at); own = tt }) in
    let lines = lines_upto l cs own rise (length l.entries.objects.now) (omega arith) in
    subst Differ (sym (map-append chunk_of (made_rows calls 0 (made mode)) (rows_upto l (length l.entries.objects.now)))) lines.line.differ

-- the chunks of parts that are those of all rows
map_both : {A B C : Type 0} (f : B → C) (g : A → B) (xs : List A) → map f (map g xs) ≡ map (λ x. f (g x)) xs
map_both f g [] = refl
map_both f g (x ∷ xs) = ap (λ l. f (g x) ∷ l) (map_both f g xs)

pub chunks_are : (rows : List Row) (parts : List Part) → parts ≡ map (λ (row : Row). row.part) rows → map (λ (part : Part). part.chunk) parts ≡ map (λ (row : Row). row.part.chunk) rows
chunks_are rows parts is = ap (map (λ (part : Part). part.chunk)) is ∙ map_both (λ (part : Part). part.chunk) (λ (row : Row). row.part) rows

pub parts_differ : (mode : Mode) (l : Lookups) (parts : List Part) → InputsRise 0 l.entries.objects.now → parts ≡ map (λ (row : Row). row.part) (all_rows mode l) → Differ (map (λ (part : Part). part.chunk) parts)
parts_differ mode l parts rise is = subst Differ (sym (chunks_are (all_rows mode l) parts is)) (all_differ mode l rise)

-- no chunk stands twice in front of another one
pub lacks_next : (chunks : List Chunk) (i : ℕ) (c : Chunk) → Differ chunks → slice_get chunks i ≡ Some c → Lacks (take i chunks) c
lacks_next chunks i c differ at k here =
    let lt = slice_get_within (take i chunks) k c here in
    let low : k < i = omega (arith, lt, length-take i chunks) in
    let there : slice_get chunks k ≡ Some c = in_front chunks i k here in
    let same : k ≡ i = differ k i c there at in
    omega (arith, same, low)
  where
    in_front : (cs : List Chunk) (n k : ℕ) → slice_get (take n cs) k ≡ Some c → slice_get cs k ≡ Some c
    in_front cs zero k e = absurd cc
    in_front [] (suc n) k e = e
    in_front (x ∷ cs) (suc n) zero e = e
    in_front (x ∷ cs) (suc n) (suc k) e = in_front cs n k e

abbrev own_chunk : Part → Chunk
own_chunk part = part.chunk

map_take : (i : ℕ) (parts : List Part) → map own_chunk (take i parts) ≡ take i (map own_chunk parts)
map_take zero parts = refl
map_take (suc i) [] = refl
map_take (suc i) (p ∷ ps) = ap (λ l. p.chunk ∷ l) (map_take i ps)

pub lacks_part : (parts : List Part) (chunks : List Chunk) (i : ℕ) (d : Part) → Differ (map own_chunk parts) → i < length parts → chunks ≡ map own_chunk (take i parts) → Lacks chunks (get_or parts i d).chunk
lacks_part parts chunks i d differ lt are =
    let at : slice_get (map own_chunk parts) i ≡ Some (get_or parts i d).chunk = slice_get-map own_chunk parts i ∙ ap (option_map own_chunk) (slice_get-get_or parts i d lt) in
    subst (λ cs. Lacks cs (get_or parts i d).chunk) (sym (are ∙ map_take i parts)) (lacks_next (map own_chunk parts) i (get_or parts i d).chunk differ at)

pub chunk_more : (parts : List Part) (old new : List Chunk) (i : ℕ) (d : Part) → i < length parts → old ≡ map own_chunk (take i parts) → new ≡ old ++ (get_or parts i d).chunk ∷ []
    → new ≡ map own_chunk (take (i + 1) parts)
chunk_more parts old new i d lt before pushed =
    pushed ∙ ap (λ l. l ++ (get_or parts i d).chunk ∷ []) before ∙ sym (map-append own_chunk (take i parts) (get_or parts i d ∷ [])) ∙ ap (map own_chunk) (sym (take_more parts i d lt))
