-- Bytes to a number and back, and both by halves, in either order. By turning: turned twice, bytes stand as they stood.
use Rattle.std.specs.Prelude.{◌≡◌, ◌∷◌, ◌++◌}
use Rattle.laws.specs.Kit.{refl, sym, ap, ◌∙◌, List, [], reverse, reverse-cons, reverse-append, reverse-reverse, ℕ}
use Rattle.std.specs.Prelude.{◌+◌, ◌^◌, ◌<◌}
use Rattle.laws.specs.Kit.{arith, length, take, drop, length-drop, length-reverse, take-add}
use Rattle.laws.specs.Kit.{drop-drop, length-take-le}
use Rattle.endian.specs.declared.Order.{Order}
use Rattle.endian.specs.declared.Order.TheVariants.{Big, Little}
use Rattle.endian.specs.Number.{number_of, bytes_of, Bytes, Room}
use Rattle.endian.specs.Order.{turned, number_by, bytes_by, joined}
use Rattle.endian.proofs.Width.{bytes_append, number_of_its_bytes, bytes_number, number_join}

pub turned_twice : (o : Order) (l : List ℕ) → turned o (turned o l) ≡ l
turned_twice Big l = refl
turned_twice Little l = reverse-reverse l

pub length_turned : (o : Order) (l : List ℕ) → length (turned o l) ≡ length l
length_turned Big l = refl
length_turned Little l = length-reverse l

bytes_reversed : (l : List ℕ) → Bytes l → Bytes (reverse l)
bytes_reversed [] h = tt
bytes_reversed (b ∷ l) h = rw (reverse-cons b l) (bytes_append (reverse l) (b ∷ []) (bytes_reversed l h.1) (h.0, tt))

bytes_turned : (o : Order) (l : List ℕ) → Bytes l → Bytes (turned o l)
bytes_turned Big l h = h
bytes_turned Little l h = bytes_reversed l h

-- a number that fits comes back from its bytes, and bytes come back from their number
pub number_back : (o : Order) (k x : ℕ) → x < 256 ^ k → number_of (turned o (bytes_by o k x)) ≡ x
number_back o k x h = rw (turned_twice o (bytes_of k x)) (number_of_its_bytes k x h)

pub bytes_back : (o : Order) (bs : List ℕ) → Bytes bs → bytes_by o (length bs) (number_of (turned o bs)) ≡ bs
bytes_back o bs h =
    let again = rw (length_turned o bs) at (bytes_number (turned o bs) (bytes_turned o bs h)) in
    ap (turned o) again ∙ turned_twice o bs

number_joined : (o : Order) (k : ℕ) (u v : List ℕ) → length u ≡ k → length v ≡ k
    → joined o k (number_of (turned o u)) (number_of (turned o v)) ≡ number_of (turned o (u ++ v))
number_joined Big k u v hu hv = sym (number_join u v ∙ rw hv)
number_joined Little k u v hu hv = sym (ap number_of (reverse-append u v) ∙ number_join (reverse v) (reverse u) ∙ rw (length-reverse u, hu))

-- two halves that were read in the order that was named make the whole
pub halves_by : (o : Order) (k : ℕ) {named : Order} {s : List ℕ} {at a b : ℕ} → named ≡ o → Room (k + k) s at
    → a ≡ number_by named k s at → b ≡ number_by named k s (at + k) → joined o k a b ≡ number_by named (k + k) s at
halves_by o k {named} {s} {at} told h e f =
    let u = take k (drop at s) in
    let v = take k (drop (at + k) s) in
    let long_u : length u ≡ k = length-take-le k _ (rw length-drop (omega (arith, h.inside))) in
    let long_v : length v ≡ k = length-take-le k _ (rw length-drop (omega (arith, h.inside))) in
    rw (e, f, told) (number_joined o k u v long_u long_v ∙ rw (take-add k k (drop at s), drop-drop k at s))
