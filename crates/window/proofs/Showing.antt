-- What is shown of a window: how long it is, that it holds bytes, and what is shown behind some of it. By the laws of take and drop.
use Rattle.std.specs.Prelude.{◌≡◌, ◌∷◌, ◌+◌, ◌-◌, ◌≤◌, ◌<◌}
use Rattle.laws.specs.Kit.{sym, ap, subst, ◌∙◌, List, [], ℕ, zero, suc, arith, length, take, drop, drop-drop}
use Rattle.laws.specs.Kit.{length-drop, length-take-le, get_or, get_or-drop, drop-nil, take-nil}
use Rattle.window.specs.declared.Span.{Span}
use Rattle.window.specs.Step.{Fits, shown, onward, settled_of}

pub drop_take : (n m : ℕ) (l : List ℕ) → drop n (take m l) ≡ take (m - n) (drop n l)
drop_take zero m l = let all : m - 0 ≡ m = omega arith in sym (ap (λ (k : ℕ). take k l) all)
drop_take (suc n) zero l = drop-nil (suc n) ∙ sym (ap (λ (k : ℕ). take k (drop (suc n) l)) none)
  where
    none : 0 - suc n ≡ 0
    none = omega arith
drop_take (suc n) (suc m) [] = sym (take-nil (suc m - suc n))
drop_take (suc n) (suc m) (x ∷ l) = drop_take n m l ∙ ap (λ (k : ℕ). take k (drop n l)) less
  where
    less : m - n ≡ suc m - suc n
    less = omega arith

pub shown_size : (h : Span) (w : List ℕ) → Fits h (length w) → length (shown h w) ≡ h.held - h.from
shown_size h w f =
    length-take-le (h.held - h.from) (drop h.from w) (omega (arith, length-drop h.from w, f.in_order, f.inside))

pub settled_shown : (h : Span) (w after : List ℕ) → take (h.held - h.from) after ≡ shown h w → shown (settled_of h) after ≡ shown h w
settled_shown h w after e =
    let all : h.held - h.from - 0 ≡ h.held - h.from = omega arith in
    ap (λ (n : ℕ). take n after) all ∙ e

-- what is shown behind so many bytes
pub onward_shown : (h : Span) (n : ℕ) (w : List ℕ) → shown (onward h n) w ≡ drop n (shown h w)
onward_shown h n w =
    let less : h.held - (h.from + n) ≡ h.held - h.from - n = omega arith in
    ap (λ (m : ℕ). take m (drop (h.from + n) w)) less
    ∙ ap (take (h.held - h.from - n)) (sym (drop-drop n h.from w))
    ∙ sym (drop_take n (h.held - h.from) (drop h.from w))

-- so many bytes of what is shown may be used
pub used_fits : (h : Span) (w : List ℕ) (n : ℕ) → Fits h (length w) → n ≤ length (shown h w) → h.from + n ≤ h.held
used_fits h w n f q = omega (arith, q, shown_size h w f, f.in_order)

abbrev pub Bytes : List ℕ → Type 0
Bytes l = (i : ℕ) → get_or l i 0 < 256

take_bytes : (n : ℕ) (l : List ℕ) → Bytes l → Bytes (take n l)
take_bytes zero l b i = omega arith
take_bytes (suc n) [] b i = b i
take_bytes (suc n) (x ∷ l) b zero = b zero
take_bytes (suc n) (x ∷ l) b (suc i) = take_bytes n l (λ j. b (suc j)) i

drop_bytes : (n : ℕ) (l : List ℕ) → Bytes l → Bytes (drop n l)
drop_bytes n l b i = subst (λ (x : ℕ). x < 256) (sym (get_or-drop n l i 0)) (b (n + i))

pub shown_bytes : (h : Span) (w : List ℕ) → Bytes w → Bytes (shown h w)
shown_bytes h w b = take_bytes (h.held - h.from) (drop h.from w) (drop_bytes h.from w b)
