-- Numbers of 8 bytes stored one after the other: how long they are, two lists put together, and one turn of a loop that stores them.
use Rattle.std.specs.Prelude.{◌≡◌, ◌∷◌, ◌++◌, ◌+◌, ◌*◌, ◌≤◌, ◌<◌}
use Rattle.laws.specs.Kit.{refl, sym, ap, ◌∙◌, List, [], map, append_assoc, ℕ, zero, suc, arith}
use Rattle.laws.specs.Kit.{zero-add, ℤ, pos, length, take, drop, get_or, length-append, sets, sets-eq, drop-cons, drop-length, drop_at}
use Rattle.laws.specs.Kit.{length-take-le, length-sets}
use native.Mathlib.Numerals.{add-one}
use mir.Syntax.{w64}
use mir.Val.{SFits, to_z, of_z}
use mir.Facts.{to_z-of_z}
use Rattle.endian.specs.Number.{bytes_of}
use Rattle.laws.proofs.Lay.{sets_join}
use Rattle.endian.proofs.Width.{length_bytes}
use Rattle.frame.specs.declared.Row.{Row}
use Rattle.frame.specs.Step.{row_width, numbers_of}
use Rattle.timing.specs.declared.State.{State}
use Rattle.timing.specs.Step.{numbers}
use Rattle.timing.specs.Answers.{summary_width, summary_with, summary_of}
use Rattle.timing.proofs.Sink.{Sink, numbers_more}
use Rattle.report.specs.Paper.{signed, in_bytes, encoded, row_bytes, number_bytes}

pub length_stored : (xs : List ℕ) → length (in_bytes xs) ≡ number_bytes * length xs
unfolding in_bytes
length_stored [] = refl
length_stored (x ∷ xs) =
    length-append (bytes_of 8 x) (in_bytes xs) ∙ rw (length_bytes 8 x, length_stored xs) (omega arith)

pub stored_append : (xs ys : List ℕ) → in_bytes (xs ++ ys) ≡ in_bytes xs ++ in_bytes ys
unfolding in_bytes
stored_append [] ys = refl
stored_append (x ∷ xs) ys =
    ap (λ (l : List ℕ). bytes_of 8 x ++ l) (stored_append xs ys) ∙ sym (append_assoc (bytes_of 8 x) (in_bytes xs) (in_bytes ys))

signs_append : (a b : List ℤ) → map signed (a ++ b) ≡ map signed a ++ map signed b
signs_append [] b = refl
signs_append (z ∷ a) b = ap (λ (l : List ℕ). signed z ∷ l) (signs_append a b)

pub length_signs : (zs : List ℤ) → length (map signed zs) ≡ length zs
length_signs [] = refl
length_signs (z ∷ zs) = ap suc (length_signs zs)

pub encoded_append : (a b : List ℤ) → encoded (a ++ b) ≡ encoded a ++ encoded b
encoded_append a b = ap in_bytes (signs_append a b) ∙ stored_append (map signed a) (map signed b)

pub length_encoded : (zs : List ℤ) → length (encoded zs) ≡ number_bytes * length zs
length_encoded zs = length_stored (map signed zs) ∙ ap (λ (n : ℕ). number_bytes * n) (length_signs zs)

-- rows written as bytes
pub rows_none : row_bytes [] ≡ []
unfolding numbers in_bytes
rows_none = refl

pub rows_more : (r : Row) (rs : List Row) → row_bytes (r ∷ rs) ≡ encoded (numbers_of r) ++ row_bytes rs
rows_more r rs = ap encoded (numbers_more r rs) ∙ encoded_append (numbers_of r) (numbers rs)

abbrev pub as_bytes : Sink ℕ
as_bytes = record { row = λ r. encoded (numbers_of r); write = row_bytes; none = rows_none; more = rows_more }

pub row_length : (r : Row) → length (encoded (numbers_of r)) ≡ number_bytes * row_width
row_length r = length_encoded (numbers_of r)

pub nine : (s : State) → length (summary_of s) ≡ summary_width
unfolding summary_with
nine s = refl

-- a number that is not negative is its own 64 bits
pub naturals : (xs : List ℕ) → map signed (map pos xs) ≡ xs
naturals [] = refl
naturals (x ∷ xs) = ap (λ (l : List ℕ). x ∷ l) (naturals xs)

pub sign_at : (zs : List ℤ) (k : ℕ) → get_or (map signed zs) k 0 ≡ signed (get_or zs k (pos 0))
sign_at [] k = refl
sign_at (z ∷ zs) zero = refl
sign_at (z ∷ zs) (suc k) = sign_at zs k

-- read as 64 bits and back, as a call passes it on
pub sign_passed : (zs : List ℤ) (k : ℕ) → SFits w64 (get_or zs k (pos 0))
    → of_z w64 (to_z w64 (of_z w64 (get_or zs k (pos 0)))) ≡ get_or (map signed zs) k 0
sign_passed zs k f = ap (λ (z : ℤ). of_z w64 z) (to_z-of_z f) ∙ sym (sign_at zs k)

-- ---- a loop that stores numbers: one turn, and the end

pub store_turn : (place next k x : ℕ) (xs d : List ℕ) → next ≡ place + number_bytes → k < length xs → x ≡ get_or xs k 0
    → sets (sets d place (bytes_of 8 x)) next (in_bytes (drop (k + 1) xs)) ≡ sets d place (in_bytes (drop k xs))
unfolding in_bytes
store_turn place next k x xs d n h e =
    let here : in_bytes (drop k xs) ≡ bytes_of 8 x ++ in_bytes (drop (k + 1) xs) =
    ap in_bytes (drop-cons xs k 0 h) ∙ rw (e, add-one k) in
    let behind : place + length (bytes_of 8 x) ≡ next = omega (arith, length_bytes 8 x) in
    sym (ap (sets d place) here ∙ sets_join (bytes_of 8 x) (in_bytes (drop (k + 1) xs)) d place ∙ rw behind)

pub store_done : (place k : ℕ) (xs d : List ℕ) {r : List ℕ} → k ≡ length xs → sets d place (in_bytes (drop k xs)) ≡ r → d ≡ r
unfolding in_bytes
store_done place k xs d e q = sym (rw (e, drop-length xs)) ∙ q

-- ---- the rows stored first, and what stands before them last

pub front_last : (front rows d : List ℕ) → length front + length rows ≤ length d
    → sets (sets d (length front) rows) 0 front ≡ (front ++ rows) ++ drop (length (front ++ rows)) d
front_last front rows d h =
    let k = length front in
    let rest = drop (k + length rows) d in
    let behind : sets d k rows ≡ take k d ++ (rows ++ rest) =
    sets-eq rows d k (omega arith) ∙ append_assoc (take k d) rows rest in
    let short : length (take k d) ≡ k = length-take-le k d (omega arith) in
    sets-eq front (sets d k rows) 0 (omega (arith, length-sets d k rows))
    ∙ ap (λ (n : ℕ). front ++ drop n (sets d k rows)) (zero-add k)
    ∙ ap (λ (l : List ℕ). front ++ l) (ap (drop k) behind ∙ drop_at (take k d) (rows ++ rest) k short)
    ∙ sym (append_assoc front rows rest) ∙ rw (length-append front rows)
