-- The bytes of a number as std has them, and a slice of bytes that is replaced.
use Rattle.std.specs.Prelude.{◌≡◌, ◌++◌, ◌+◌, ◌-◌, ◌^◌, ◌≤◌, ◌<◌}
use Rattle.laws.specs.Kit.{sym, ◌∙◌, List, append_assoc, ℕ, arith, length, take, drop, drop-drop, sets, sets-eq}
use Rattle.std.specs.Int.{w16, w32, w64, to_be_bytes}
use Rattle.endian.specs.Number.{bytes_of, Room}
use Rattle.endian.proofs.Width.{length_bytes}

pub two_bytes : (x : ℕ) → x < 2 ^ 16 → to_be_bytes w16 x ≡ bytes_of 2 x
unfolding bytes_of
two_bytes x h = grind arith

pub four_bytes : (x : ℕ) → x < 2 ^ 32 → to_be_bytes w32 x ≡ bytes_of 4 x
unfolding bytes_of
four_bytes x h = grind arith

pub eight_bytes : (x : ℕ) → x < 2 ^ 64 → to_be_bytes w64 x ≡ bytes_of 8 x
unfolding bytes_of
eight_bytes x h = grind arith

-- the bytes from a place on, replaced by the k bytes of a number
pub put_part : (k x : ℕ) (d : List ℕ) (at : ℕ) {ys : List ℕ} → Room k d at → ys ≡ bytes_of k x
    → take at d ++ (ys ++ drop ((at + k) - at) (drop at d)) ≡ sets d at (bytes_of k x)
put_part k x d at {ys} room e =
    let whole : (at + k) - at ≡ k = omega arith in
    let long : at + length (bytes_of k x) ≤ length d = rw (length_bytes k x) room.inside in
    rw (e, whole, drop-drop k at d) (sym (sets-eq (bytes_of k x) d at long
    ∙ rw (length_bytes k x) (append_assoc (take at d) (bytes_of k x) (drop (at + k) d))))
