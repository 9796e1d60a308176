-- Reads and arrivals of n packets: packet i is there by read j exactly when the reads before it are at most j. From it: least is minus
-- the greatest lack at an arrival, the peak is the greatest level, and the buffer runs dry exactly when a packet comes after its read.
use Rattle.std.specs.Prelude.{◌≡◌, ◌+◌, ◌-◌, ◌*◌, ◌≤◌, ◌<◌}
use Rattle.laws.specs.Kit.{refl, sym, ◌∙◌, Bool, true, false, ℕ, suc, arith, mul-le-mul_right, dec_lt, ltb}
use Rattle.std.specs.Prelude.{◌≤ℤ◌}
use Rattle.laws.specs.Kit.{leb, pos, sub_ℕ, ltb-true, lt-ltb, leb-true, le-leb}
use Rattle.laws.specs.Most.{most}
use Rattle.laws.proofs.Most.{most_is}
use Rattle.laws.specs.Count.{count, UpTo}
use Rattle.laws.proofs.Count.{count_le, falls_up_to}
use Rattle.laws.proofs.Differ.{differ_sub, differ_le, differ_same}
use Rattle.grain.specs.Paper.{read_before, reads_before}
use Rattle.grain.proofs.ReadCount.{reads_first}

-- n packets that come in order, packet i at a i; read j is num / den times j after base
pub record Arrivals : Type 0 where
  pub n : ℕ
  pub base : ℕ
  pub num : ℕ
  pub den : ℕ
  pub a : ℕ → ℕ
  pub up : (i j : ℕ) → i ≤ j → j < n → a i ≤ a j

module _ (f : Arrivals) where
  open f use {n, base, num, den, a, up}

  -- when read j is and when packet i comes, both times den
  abbrev due : ℕ → ℕ
  due j = base * den + j * num

  abbrev came : ℕ → ℕ
  came i = a i * den

  -- the reads before packet i, and the packets there by read j
  abbrev R : ℕ → ℕ
  R i = reads_before n base num den (a i)

  abbrev A : ℕ → ℕ
  A j = count (λ i. leb (came i) (due j)) n

  arrived_first : (j : ℕ) → UpTo (λ i. leb (came i) (due j)) n (A j)
  arrived_first j = falls_up_to (λ i. leb (came i) (due j)) n (record {
    down = λ i k l g q. le-leb (came i) (due j) (omega (arith, leb-true (came k) (due j) q, mul-le-mul_right den (up i k l g)));
  })

  pub there_after : (i j : ℕ) → i < n → j < n → i < A j → R i ≤ j
  there_after i j hi hj l =
      let there = leb-true (came i) (due j) ((arrived_first j).passes i hi l) in
      let late : ¬ (j < R i) = λ q. omega (arith, ltb-true (due j) (came i) ((reads_first n base num den (a i)).passes j hj q)) in
      omega arith

  pub after_there : (i j : ℕ) → i < n → j < n → R i ≤ j → i < A j
  after_there i j hi hj l =
      let late : ¬ (due j < came i) = λ q. omega (arith, (reads_first n base num den (a i)).inside j hj (lt-ltb (due j) (came i) q)) in
      (arrived_first j).inside i hi (le-leb (came i) (due j) (omega arith))

  -- packet j is late exactly when more than j reads come before it
  pub late_is : (j : ℕ) → j < n → ltb (due j) (came j) ≡ ltb j (R j)
  late_is j l = go (ltb j (R j)) refl
    where
      go : (t : Bool) → ltb j (R j) ≡ t → ltb (due j) (came j) ≡ t
      go true e = (reads_first n base num den (a j)).passes j l (ltb-true j (R j) e)
      go false e = at (ltb (due j) (came j)) refl
        where
          at : (t : Bool) → ltb (due j) (came j) ≡ t → t ≡ false
          at true q = sym (lt-ltb j (R j) ((reads_first n base num den (a j)).inside j l q)) ∙ e
          at false q = refl

  -- the greatest lack of packets at an arrival
  abbrev pub lack : ℕ
  lack = most (λ i. R i - i) n

  pub lack_bound : (j : ℕ) → j < n → suc j ≤ A j + lack
  lack_bound j h = go (dec_lt j (A j))
    where
      go : Dec (j < A j) → suc j ≤ A j + lack
      go (yes l) = omega arith
      go (no g) =
          let k : A j < n = omega arith in
          let before : ¬ (R (A j) ≤ j) = λ q. omega (arith, after_there (A j) j k h q) in
          omega (arith, (most_is (λ i. R i - i) n).bound (A j) k)

  lack_met : 0 < n → (j : ℕ) × (j < n) × (suc j ≡ A j + lack)
  lack_met p = go ((most_is (λ i. R i - i) n).met p) (dec_lt 0 lack)
    where
      go : (i : ℕ) × (i < n) × (R i - i ≡ lack) → Dec (0 < lack) → (j : ℕ) × (j < n) × (suc j ≡ A j + lack)
      go w (yes l) =
          let i = w.0 in
          let j : ℕ = R i - 1 in
          let h : j < n = omega (arith, count_le (read_before base num den (a i)) n, w.1) in
          let there : ¬ (i < A j) = λ q. omega (arith, there_after i j w.1 h q, w.2) in
          (j, h, omega (arith, w.2, lack_bound j h))
      go w (no g) =
          let h : n - 1 < n = omega arith in
          (n - 1, h, omega (arith, count_le (λ i. leb (came i) (due (n - 1))) n, lack_bound (n - 1) h))

  -- least, over all n reads
  pub least_bound : (j : ℕ) → j < n → sub_ℕ 0 lack ≤ℤ sub_ℕ (A j) (suc j)
  least_bound j h =
      differ_le (sub_ℕ 0 lack) (sub_ℕ (A j) (suc j)) 0 lack (A j) (suc j) (differ_sub 0 lack) (differ_sub (A j) (suc j))
      (omega (arith, lack_bound j h))

  pub least_met : 0 < n → (j : ℕ) × (j < n) × (sub_ℕ 0 lack ≡ sub_ℕ (A j) (suc j))
  least_met p =
      let w = lack_met p in (
        w.0,
        w.1,
        differ_same (sub_ℕ 0 lack) (sub_ℕ (A w.0) (suc w.0)) 0 lack (A w.0) (suc w.0) (differ_sub 0 lack)
            (differ_sub (A w.0) (suc w.0)) (omega (arith, w.2)),
      )

  -- dry exactly when a packet is late
  pub dry_late : 0 < lack → (j : ℕ) × (j < n) × (j < R j)
  dry_late d = go (dec_lt 0 n)
    where
      go : Dec (0 < n) → (j : ℕ) × (j < n) × (j < R j)
      go (yes p) = let w = (most_is (λ i. R i - i) n).met p in (w.0, w.1, omega (arith, w.2))
      go (no g) = absurd (omega (arith, (most_is (λ i. R i - i) n).none (omega arith)))

  pub late_dry : (j : ℕ) → j < n → j < R j → 0 < lack
  late_dry j h l = omega (arith, (most_is (λ i. R i - i) n).bound j h)

  -- the peak, which is not below 0: the last packet is the n-th of n reads
  abbrev pub top : ℕ
  top = most (λ i. suc i - R i) n

  pub top_bound : (j : ℕ) → j < n → suc j ≤ top + R j
  top_bound j h = omega (arith, (most_is (λ i. suc i - R i) n).bound j h)

  pub peak_bound : (j : ℕ) → j < n → sub_ℕ (suc j) (R j) ≤ℤ pos top
  peak_bound j h =
      differ_le (sub_ℕ (suc j) (R j)) (pos top) (suc j) (R j) top 0 (differ_sub (suc j) (R j)) (omega arith) (omega (arith, top_bound j h))

  pub peak_met : 0 < n → (j : ℕ) × (j < n) × (pos top ≡ sub_ℕ (suc j) (R j))
  peak_met p = go ((most_is (λ i. suc i - R i) n).met p) (dec_lt 0 top)
    where
      is : (j : ℕ) → suc j ≡ top + R j → pos top ≡ sub_ℕ (suc j) (R j)
      is j e = differ_same (pos top) (sub_ℕ (suc j) (R j)) top 0 (suc j) (R j) (omega arith) (differ_sub (suc j) (R j)) (omega arith)

      go : (i : ℕ) × (i < n) × (suc i - R i ≡ top) → Dec (0 < top) → (j : ℕ) × (j < n) × (pos top ≡ sub_ℕ (suc j) (R j))
      go w (yes l) = (w.0, w.1, is w.0 (omega (arith, w.2)))
      go w (no g) =
          let h : n - 1 < n = omega arith in (
            n - 1,
            h,
            is (n - 1) (omega (arith, count_le (read_before base num den (a (n - 1))) n, top_bound (n - 1) h)),
          )
