-- A capture written in the other byte order is opened in that order, and has the same answer. What the header says is a predicate on its
-- answer; the two magics are no other magic turned.
use Rattle.std.specs.Prelude.{◌≡◌, ◌++◌, ◌≤◌}
use Rattle.laws.specs.Kit.{refl, sym, ap, subst, ◌∙◌, Bool, true, false, List, reverse, ℕ, arith}
use Rattle.laws.specs.Kit.{ltb, eqb, length, take, drop, length-drop, length-append, take_at, drop_at, drop-drop, length-take-le, le-ltb}
use Rattle.laws.specs.Kit.{eq-eqb, ne_eqb, ltb-false, eqb-true, eqb-false}
use Rattle.laws.specs.Choose.{pick}
use Rattle.laws.proofs.Choose.{pick_either}
use Rattle.endian.specs.declared.Order.{Order}
use Rattle.endian.specs.declared.Order.TheVariants.{Big, Little}
use Rattle.endian.specs.Number.{number_of, bytes_of, Bytes}
use Rattle.endian.specs.Order.{number_by}
use Rattle.endian.proofs.Width.{bytes_number}
use Rattle.capture.specs.declared.Format.{Format}
use Rattle.capture.specs.declared.Setting.{Setting}
use Rattle.capture.specs.declared.Seen.{Seen}
use Rattle.capture.specs.Paper.{header_bytes, microseconds, nanoseconds, Header, capture, unknown, format, linked_by, magic_by, header_of}
use Rattle.capture.specs.Paper.{records_in, checked_of}
use Rattle.capture.specs.Swap.{other, other_order, other_setting, word_at, swap_records, swap_file}
use Rattle.capture.proofs.Swapping.{turned_back, word_length, records_swapped}

-- no magic, in one order
abbrev NoMagic : Order → List ℕ → Type 0
NoMagic o s = (number_by o 4 s 0 ≡ microseconds → ⊥) × (number_by o 4 s 0 ≡ nanoseconds → ⊥)

-- what a header that is known is
record Headed (f : Format) (s : List ℕ) : Type 0 where
  twenty_four : header_bytes ≤ length s
  magic : number_by f.order 4 s 0 ≡ pick f.nano nanoseconds microseconds
  link : number_by f.order 4 s 20 ≡ 1
  first : f.order ≡ Little → NoMagic Big s

abbrev Says : List ℕ → Header → Type 0
Says s (capture f) = Headed f s
Says s unknown = Unit

big_little : Big ≡ Little → ⊥
big_little e = let z : ◌≡◌ {A = ℕ} 0 1 = cc in omega arith

module _ (s : List ℕ) (long : header_bytes ≤ length s) where
  linked_says : (o : Order) (nano : Bool) → number_by o 4 s 0 ≡ pick nano nanoseconds microseconds → (o ≡ Little → NoMagic Big s)
      → Says s (linked_by o nano s)
  unfolding linked_by
  linked_says o nano m n =
      pick_either (Says s) (eqb (number_by o 4 s 20) 1)
      (λ e. record { twenty_four = long; magic = m; link = eqb-true (number_by o 4 s 20) 1 e; first = n })
      (λ e. tt)

  magic_says : (o : Order) (rest : Header) → (o ≡ Little → NoMagic Big s) → (NoMagic o s → Says s rest) → Says s (magic_by o s rest)
  unfolding magic_by
  magic_says o rest n r =
      pick_either (Says s) (eqb (number_by o 4 s 0) microseconds)
      (λ e. linked_says o false (eqb-true (number_by o 4 s 0) microseconds e) n)
      (λ e. pick_either (Says s) (eqb (number_by o 4 s 0) nanoseconds)
      (λ g. linked_says o true (eqb-true (number_by o 4 s 0) nanoseconds g) n)
      (λ g. r (eqb-false (number_by o 4 s 0) microseconds e, eqb-false (number_by o 4 s 0) nanoseconds g)))

header_says : (s : List ℕ) → Says s (header_of s)
unfolding header_of
header_says s =
    pick_either (Says s) (ltb (length s) header_bytes) (λ e. tt)
    (λ e.
    let long = ltb-false (length s) header_bytes e in
    magic_says s long Big (magic_by Little s unknown) (λ z. absurd (big_little z))
    (λ n. magic_says s long Little unknown (λ q. n) (λ m. tt)))

-- and back
header_as : (f : Format) (s : List ℕ) → Headed f s → header_of s ≡ capture f
unfolding header_of magic_by linked_by
header_as f s h = go f.order f.nano h.magic h.link h.first
  where
    go : (o : Order) (nano : Bool) → number_by o 4 s 0 ≡ pick nano nanoseconds microseconds → number_by o 4 s 20 ≡ 1
        → (o ≡ Little → NoMagic Big s) → header_of s ≡ capture (format o nano)
    go Big false m l n =
        rw (le-ltb (length s) header_bytes h.twenty_four, eq-eqb (number_by Big 4 s 0) microseconds m, eq-eqb (number_by Big 4 s 20) 1 l)
    go Big true m l n =
        rw (le-ltb (length s) header_bytes h.twenty_four, m, eq-eqb (number_by Big 4 s 20) 1 l)
    go Little false m l n =
        rw (
          le-ltb (length s) header_bytes h.twenty_four,
          ne_eqb (number_by Big 4 s 0) microseconds (n refl).0,
          ne_eqb (number_by Big 4 s 0) nanoseconds (n refl).1,
          m,
          eq-eqb (number_by Little 4 s 20) 1 l,
        )
    go Little true m l n =
        rw (
          le-ltb (length s) header_bytes h.twenty_four,
          ne_eqb (number_by Big 4 s 0) microseconds (n refl).0,
          ne_eqb (number_by Big 4 s 0) nanoseconds (n refl).1,
          m,
          eq-eqb (number_by Little 4 s 20) 1 l,
        )

-- a magic turned is none
turned_magic : (m : ℕ) (x : List ℕ) → Bytes x → length x ≡ 4 → number_of x ≡ m
    → number_of (reverse x) ≡ number_of (reverse (bytes_of 4 m))
turned_magic m x b h e =
    let same : bytes_of 4 m ≡ x = rw (h, e) at (bytes_number x b) in
    ap (λ (l : List ℕ). number_of (reverse l)) (sym same)

micro_turned : number_of (reverse (bytes_of 4 2712847316)) ≡ 3569595041
unfolding number_of bytes_of
micro_turned = refl

nano_turned : number_of (reverse (bytes_of 4 2712812621)) ≡ 1295823521
unfolding number_of bytes_of
nano_turned = refl

no_magic_turned : (nano : Bool) (x : List ℕ) → Bytes x → length x ≡ 4 → number_of x ≡ pick nano nanoseconds microseconds
    → (number_of (reverse x) ≡ microseconds → ⊥) × (number_of (reverse x) ≡ nanoseconds → ⊥)
no_magic_turned true x b h e =
    let t = turned_magic 2712812621 x b h e ∙ nano_turned in (λ q. omega arith, λ q. omega arith)
no_magic_turned false x b h e =
    let t = turned_magic 2712847316 x b h e ∙ micro_turned in (λ q. omega arith, λ q. omega arith)

module _ (f : Format) (s : List ℕ) (h : Headed f s) where
  long_0 : length (reverse (word_at 0 s)) ≡ 4
  long_0 = word_length 0 s (omega (arith, h.twenty_four))

  long_20 : length (reverse (word_at 20 s)) ≡ 4
  long_20 = word_length 20 s (omega (arith, h.twenty_four))

  between : length (take 16 (drop 4 s)) ≡ 16
  between = length-take-le 16 (drop 4 s) (rw length-drop (omega (arith, h.twenty_four)))

  abbrev records : List ℕ
  records = swap_records (length (drop header_bytes s)) f (drop header_bytes s)

  swapped_0 : word_at 0 (swap_file f s) ≡ reverse (word_at 0 s)
  unfolding swap_file
  swapped_0 = take_at (reverse (word_at 0 s)) _ 4 long_0

  past_magic : drop 4 (swap_file f s) ≡ take 16 (drop 4 s) ++ (reverse (word_at 20 s) ++ records)
  unfolding swap_file
  past_magic = drop_at (reverse (word_at 0 s)) _ 4 long_0

  past_between : drop 20 (swap_file f s) ≡ reverse (word_at 20 s) ++ records
  past_between = sym (drop-drop 16 4 (swap_file f s)) ∙ ap (drop 16) past_magic ∙ drop_at (take 16 (drop 4 s)) _ 16 between

  past_header : drop header_bytes (swap_file f s) ≡ records
  past_header = sym (drop-drop 4 20 (swap_file f s)) ∙ ap (drop 4) past_between ∙ drop_at (reverse (word_at 20 s)) _ 4 long_20

  swapped_20 : word_at 20 (swap_file f s) ≡ reverse (word_at 20 s)
  swapped_20 = ap (take 4) past_between ∙ take_at (reverse (word_at 20 s)) _ 4 long_20

  swapped_long : header_bytes ≤ length (swap_file f s)
  unfolding swap_file
  swapped_long =
      let a = long_0 in
      let b = between in
      let c = long_20 in
      rw (length-append, length-append, length-append) (omega arith)

  number_swapped : (i : ℕ) → word_at i (swap_file f s) ≡ reverse (word_at i s)
      → number_by (other f.order) 4 (swap_file f s) i ≡ number_by f.order 4 s i
  number_swapped i e = rw e (ap number_of (turned_back f.order (word_at i s)))

  swapped_headed : Bytes (word_at 0 s) → Headed (other_order f) (swap_file f s)
  swapped_headed b = record {
    twenty_four = swapped_long;
    magic = number_swapped 0 swapped_0 ∙ h.magic;
    link = number_swapped 20 swapped_20 ∙ h.link;
    first = λ e. rw swapped_0 (no_magic_turned f.nano (word_at 0 s) b (length-take-le 4 s (omega (arith, h.twenty_four)))
        (big f.order e h.magic));
  }
    where
      big : (o : Order) → other o ≡ Little → number_by o 4 s 0 ≡ pick f.nano nanoseconds microseconds
          → number_of (word_at 0 s) ≡ pick f.nano nanoseconds microseconds
      big Little e m = absurd (big_little e)
      big Big e m = m

-- it is known, with its words in the other order, and holds the same records
pub swapped_known : (f : Format) (s : List ℕ) → Bytes (word_at 0 s) → header_of s ≡ capture f
    → header_of (swap_file f s) ≡ capture (other_order f)
swapped_known f s b e = header_as (other_order f) (swap_file f s) (swapped_headed f s (subst (Says s) e (header_says s)) b)

pub swapped_records : (p : Setting) (s : List ℕ) → header_of s ≡ capture p.format
    → records_in (other_setting p) (drop header_bytes (swap_file p.format s)) ≡ records_in p (drop header_bytes s)
swapped_records p s e = rw (past_header p.format s (subst (Says s) e (header_says s))) (records_swapped p (drop header_bytes s))

-- R12: so its check is the same
pub check_swapped : (port offset : ℕ) (y : Seen) (f : Format) (s : List ℕ) → Bytes (word_at 0 s) → header_of s ≡ capture f
    → checked_of port offset y (swap_file f s) ≡ checked_of port offset y s
unfolding checked_of
check_swapped port offset y f s b e =
    let p : Setting = record { format = f; port = port; offset = offset } in
    rw (swapped_known f s b e, e, swapped_records p s e)
