-- How long the joined sections are.
use Rattle.std.proofs.Common.{ℕ, suc, ◌≡◌, ◌∙◌, ◌+◌, ◌==◌, true, false, Bool, cond, List, [], ◌∷◌, ◌++◌, length, map, filter, flat_map, sum_by, Option, Some, drop, get_or, slice_get, ◌<◌, refl, ap, sym, arith, length-append}
use Rattle.std.specs.List.{AllByRecursion}
use Rattle.std.proofs.lemmas.Option.{slice_get-get_or}
use Rattle.std.proofs.lemmas.List.Sums.{sum_by-drop_more}
use Rattle.leb_codec.specs.Shortest.{u32}
use Rattle.image_emit.specs.Bytes.{sized}
use Rattle.reloc_section.specs.declared.entry.Reloc.{Reloc}
use Rattle.reloc_apply.proofs.Apart.{lie_in_all}
use Rattle.reloc_apply.proofs.Over.{long_all}
use Rattle.debug_rules.specs.Faults.{Debug}
use Rattle.debug_rules.specs.Joined.{Places, value_of, patch_for, written, content_of, begins, is_named, own_length, length_of, names_of, payload_of, section_of, tail_of}
use Rattle.debug_out.specs.Grouped.{payload_len, section_len, sections_len}
use Rattle.debug_out.specs.Windows.{Stands}
use Rattle.debug_out.proofs.Stands.{apart}

sum_cons : {A : Type 0} (f : A → ℕ) (x : A) (xs : List A) → sum_by f (x ∷ xs) ≡ f x + sum_by f xs
sum_cons f x xs = sum_by-drop_more f (x ∷ xs) 0 x (omega arith)

-- a contribution is as long as its section
pub written_long : (begin : ℕ → Option ℕ) (p : Places) (d : Debug) → Stands d → length (written begin p d) ≡ length d.section.content
written_long begin p d stands =
    long_all (map (patch_for begin p d) d.relocs) d.section.content
    (lie_in_all 0 (length d.section.content) (map (patch_for begin p d) d.relocs) (apart (value_of begin p d) (length d.section.content) 0 d.relocs (omega arith) stands))

kept_on : (b : Bool) (P : Debug → Type 0) (d : Debug) (ds : List Debug) → P d → AllByRecursion P ds → AllByRecursion P (cond b (d ∷ ds) ds)
kept_on true P d ds h hs = (h, hs)
kept_on false P d ds h hs = hs

pub all_kept : (P : Debug → Type 0) (keep : Debug → Bool) (ds : List Debug) → AllByRecursion P ds → AllByRecursion P (filter keep ds)
all_kept P keep [] h = tt
all_kept P keep (d ∷ ds) h = kept_on (keep d) P d (filter keep ds) h.0 (all_kept P keep ds h.1)

pub contents_long : (begin : Debug → ℕ → Option ℕ) (p : Places) (ds : List Debug) → AllByRecursion Stands ds → length (flat_map (λ d. written (begin d) p d) ds) ≡ sum_by own_length ds
contents_long begin p [] h = refl
contents_long begin p (d ∷ ds) h =
    length-append (written (begin d) p d) (flat_map (λ d. written (begin d) p d) ds)
    ∙ (ap (λ n. n + length (flat_map (λ d. written (begin d) p d) ds)) (written_long (begin d) p d h.0)
    ∙ (ap (λ n. length d.section.content + n) (contents_long begin p ds h.1) ∙ sym (sum_cons own_length d ds)))

pub payload_long : (all : List Debug) (p : Places) (name : List ℕ) → AllByRecursion Stands all → length (payload_of all p name) ≡ payload_len name (length_of name all)
payload_long all p name h =
    omega (arith, length-append (sized name) (flat_map (content_of all p) (filter (is_named name) all)), contents_long (λ d. begins all d.object) p (filter (is_named name) all) (all_kept Stands (is_named name) all h))

section_long : (all : List Debug) (p : Places) (name : List ℕ) → AllByRecursion Stands all → length (section_of all p name) ≡ section_len name (length_of name all)
section_long all p name h =
    let n = payload_len name (length_of name all) in
    let long = payload_long all p name h in
    let head : suc (length (u32 n) + n) ≡ 1 + length (u32 n) + n = omega arith in
    ap suc (length-append (u32 (length (payload_of all p name))) (payload_of all p name))
    ∙ (ap (λ k. suc (length (u32 k) + k)) long ∙ head)

sections_long : (all : List Debug) (p : Places) (names : List (List ℕ)) → AllByRecursion Stands all → length (flat_map (section_of all p) names) ≡ sections_len all names
sections_long all p [] h = refl
sections_long all p (name ∷ names) h =
    length-append (section_of all p name) (flat_map (section_of all p) names)
    ∙ (ap (λ n. n + length (flat_map (section_of all p) names)) (section_long all p name h)
    ∙ (ap (λ n. section_len name (length_of name all) + n) (sections_long all p names h) ∙ sym (sum_cons (λ name. section_len name (length_of name all)) name names)))

pub tail_long : (all : List Debug) (p : Places) → AllByRecursion Stands all → length (tail_of all p) ≡ sections_len all (names_of all)
unfolding tail_of
tail_long all p h = sections_long all p (names_of all) h

-- the joined section of one name more
pub sections_step : (names : List (List ℕ)) (ds : List Debug) (n total len sum whole : ℕ) → n < length names
    → ((name : List ℕ) → slice_get names n ≡ Some name → len ≡ section_len name (length_of name ds)) → sum ≡ total + len
    → total + sections_len ds (drop n names) ≡ whole → sum + sections_len ds (drop (n + 1) names) ≡ whole
sections_step names ds n total len sum whole lt is add so_far =
    let here = is (get_or names n []) (slice_get-get_or names n [] lt) in
    let more = sum_by-drop_more (λ name. section_len name (length_of name ds)) names n [] lt in
    omega (arith, here, more, add, so_far)
