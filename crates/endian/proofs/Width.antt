-- Bytes to a number and back, for any width, and both by halves. By the list: the first byte is a digit in base 256 above the others.
use Rattle.std.specs.Prelude.{◌≡◌, ◌∷◌, ◌++◌, ◌+◌, ◌*◌, ◌/◌, ◌%◌, ◌^◌, ◌≤◌, ◌<◌}
use Rattle.laws.specs.Kit.{refl, sym, ap, ◌∙◌, List, [], ℕ, zero, suc, arith, div-one}
use Rattle.laws.specs.Kit.{add_assoc, mul_assoc, add-mul, pow-succ', one-le-pow, mod-lt, div-add-mod', div-lt_iff_lt-mul}
use Rattle.laws.specs.Kit.{length, take, drop, get_or, set, length-append, length-drop, sets, take-add, drop-drop, length-take-le}
use native.Mathlib.Numerals.{add-one}
use lib.Arith.{digits_lt, digits_div, digits_mod}
use lib.Pow.{pow-add}
use Rattle.laws.proofs.Lay.{sets_join}
use Rattle.endian.specs.Number.{number_of, number_at, bytes_of, Bytes, Room}

positive : (k : ℕ) → 0 < 256 ^ k
positive k = one-le-pow k 256 (omega arith)

pub length_bytes : (k x : ℕ) → length (bytes_of k x) ≡ k
unfolding bytes_of
length_bytes zero x = refl
length_bytes (suc k) x = ap suc (length_bytes k (x % 256 ^ k))

-- so many bytes hold less than so much
pub number_small : (bs : List ℕ) → Bytes bs → number_of bs < 256 ^ length bs
unfolding number_of
number_small [] h = omega arith
number_small (b ∷ bs) h = rw (pow-succ' 256 (length bs)) (digits_lt h.0 (number_small bs h.1))

-- F2: a number that fits comes back from its bytes, which are bytes
pub number_of_its_bytes : (k x : ℕ) → x < 256 ^ k → number_of (bytes_of k x) ≡ x
unfolding number_of bytes_of
number_of_its_bytes zero x h = omega arith
number_of_its_bytes (suc k) x h =
    rw (length_bytes k (x % 256 ^ k), number_of_its_bytes k (x % 256 ^ k) (mod-lt x (positive k))) (div-add-mod' x (256 ^ k))

pub bytes_small : (k x : ℕ) → x < 256 ^ k → Bytes (bytes_of k x)
unfolding bytes_of
bytes_small zero x h = tt
bytes_small (suc k) x h = (
  (div-lt_iff_lt-mul (positive k)).1 (rw (pow-succ' 256 k) at h),
  bytes_small k (x % 256 ^ k) (mod-lt x (positive k)),
)

-- F2: bytes come back from their number
pub bytes_number : (bs : List ℕ) → Bytes bs → bytes_of (length bs) (number_of bs) ≡ bs
unfolding number_of bytes_of
bytes_number [] h = refl
bytes_number (b ∷ bs) h =
    rw (digits_div b (number_small bs h.1), digits_mod b (number_small bs h.1), bytes_number bs h.1)

-- bytes: each of a list, in front, behind, and one list after another
pub bytes_all : (l : List ℕ) → ((i : ℕ) → get_or l i 0 < 256) → Bytes l
bytes_all [] h = tt
bytes_all (b ∷ l) h = (h 0, bytes_all l (λ i. h (suc i)))

pub bytes_take : (k : ℕ) (l : List ℕ) → Bytes l → Bytes (take k l)
bytes_take zero l h = tt
bytes_take (suc k) [] h = tt
bytes_take (suc k) (b ∷ l) h = (h.0, bytes_take k l h.1)

pub bytes_drop : (k : ℕ) (l : List ℕ) → Bytes l → Bytes (drop k l)
bytes_drop zero l h = h
bytes_drop (suc k) [] h = tt
bytes_drop (suc k) (b ∷ l) h = bytes_drop k l h.1

pub bytes_append : (u v : List ℕ) → Bytes u → Bytes v → Bytes (u ++ v)
bytes_append [] v hu hv = hv
bytes_append (b ∷ u) v hu hv = (hu.0, bytes_append u v hu.1 hv)

-- by halves

pub number_join : (u v : List ℕ) → number_of (u ++ v) ≡ number_of u * 256 ^ length v + number_of v
unfolding number_of
number_join [] v = omega arith
number_join (b ∷ u) v =
    rw (
      length-append u v,
      number_join u v,
      pow-add 256 (length u) (length v),
      add-mul (b * 256 ^ length u) (number_of u) (256 ^ length v),
      mul_assoc b (256 ^ length u) (256 ^ length v),
      add_assoc (b * (256 ^ length u * 256 ^ length v)) (number_of u * 256 ^ length v) (number_of v),
    )

pub bytes_join : (j k x : ℕ) → x < 256 ^ (j + k) → bytes_of (j + k) x ≡ bytes_of j (x / 256 ^ k) ++ bytes_of k (x % 256 ^ k)
bytes_join j k x h =
    let high = (div-lt_iff_lt-mul (positive k)).1 (rw (pow-add 256 j k) at h) in
    let low = mod-lt x (positive k) in
    let whole = bytes_of j (x / 256 ^ k) ++ bytes_of k (x % 256 ^ k) in
    let long : length whole ≡ j + k = rw (length-append, length_bytes j, length_bytes k) in
    let same : number_of whole ≡ x =
    rw (number_join, number_of_its_bytes j _ high, number_of_its_bytes k _ low, length_bytes) (div-add-mod' x (256 ^ k)) in
    let small = bytes_append (bytes_of j (x / 256 ^ k)) (bytes_of k (x % 256 ^ k)) (bytes_small j _ high) (bytes_small k _ low) in
    rw (long, same) at (bytes_number whole small)

-- at a place of a list

-- one byte, where there is one; past the end both are 0
pub number_byte : (s : List ℕ) (at : ℕ) → number_at 1 s at ≡ get_or s at 0
unfolding number_of
number_byte [] zero = refl
number_byte [] (suc at) = refl
number_byte (b ∷ s) zero = omega arith
number_byte (b ∷ s) (suc at) = number_byte s at

pub number_halves : (j k : ℕ) (s : List ℕ) (at : ℕ) → at + (j + k) ≤ length s
    → number_at (j + k) s at ≡ number_at j s at * 256 ^ k + number_at k s (at + j)
number_halves j k s at h =
    let long : length (take k (drop (at + j) s)) ≡ k = length-take-le k _ (rw length-drop (omega arith)) in
    rw (take-add j k (drop at s), number_join, drop-drop j at s, long)

-- two halves that were read make the whole
pub halves_read : (j k : ℕ) {s : List ℕ} {at a b : ℕ} → Room (j + k) s at
    → a ≡ number_at j s at → b ≡ number_at k s (at + j) → a * 256 ^ k + b ≡ number_at (j + k) s at
halves_read j k {s} {at} h e f = rw (e, f) (sym (number_halves j k s at h.inside))

-- the two bytes of a number
pub two_stored : (x : ℕ) (d : List ℕ) (at : ℕ) → set (set d at (x / 256)) (at + 1) (x % 256) ≡ sets d at (bytes_of 2 x)
unfolding bytes_of
two_stored x d at = rw (add-one at, div-one (x % 256))

-- two halves that were stored are the whole, stored
pub halves_stored : (j k x : ℕ) {d e : List ℕ} {at : ℕ} → Room (j + k) d at → x < 256 ^ (j + k)
    → e ≡ sets (sets d at (bytes_of j (x / 256 ^ k))) (at + j) (bytes_of k (x % 256 ^ k)) → e ≡ sets d at (bytes_of (j + k) x)
halves_stored j k x {d} {e} {at} room h f =
    f ∙ sym (rw (bytes_join j k x h, sets_join, length_bytes))
