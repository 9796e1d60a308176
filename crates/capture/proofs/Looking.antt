-- A window with its skipped records passed over: what lies ahead is, behind so many skipped records, what the rest of the file holds. By the
-- records that are passed over.
use Rattle.std.specs.Prelude.{◌≡◌, ◌++◌, ◌+◌, ◌-◌, Ok, Err, ◌≤◌, ◌<◌}
use Rattle.laws.specs.Kit.{refl, sym, ap, subst, ◌∙◌, Bool, true, List, [], ℕ, zero, suc, arith, length, take, drop, length-drop, drop-drop}
use Rattle.std.proofs.lemmas.List.{take_rest}
use Rattle.capture.specs.declared.Setting.{Setting}
use Rattle.capture.specs.declared.Cursor.{Cursor}
use Rattle.capture.specs.declared.Next.{Next}
use Rattle.capture.specs.Step.{NextRead, AheadRead, ahead_refused}
use Rattle.capture.specs.declared.Next.TheVariants as next
use Rattle.capture.specs.declared.Ahead.TheVariants as ahead
use Rattle.capture.specs.Paper.{packet, skipped, done, stopped, none, more, records_in}
use Rattle.capture.specs.Step.{between, next_of, rest_from, behind_by, ahead_next, ahead_by, ahead_of, skipping, UsedFits}
use Rattle.capture.specs.Pieces.{Keeps}
use Rattle.capture.proofs.InPieces.{next_keeps}

-- what is used lies within the window, and a record takes some of it
abbrev pub Within : List ℕ → NextRead → Type 0
Within w (Ok (next.Packet p n)) = (0 < n) × (n ≤ length w)
Within w (Ok (next.Skipped n)) = (0 < n) × (n ≤ length w)
Within w (Ok (next.More c n)) = n ≤ length w
Within w (Ok next.End) = Unit
Within w (Err number) = Unit

pub next_within : (p : Setting) (c : Cursor) (w : List ℕ) (last : Bool) → Within w (next_of p c w last)
next_within p c w last = go (next_of p c w last) (next_keeps p w [] last (λ e. refl) c)
  where
    go : (r : NextRead) → Keeps p c w [] r → Within w r
    go (Ok (next.Packet q n)) k = (k.0, k.1)
    go (Ok (next.Skipped n)) k = (k.0, k.1)
    go (Ok (next.More d n)) k = k.0
    go (Ok next.End) k = tt
    go (Err n) k = tt

-- ---- what lies ahead

abbrev pub Lies : Setting → Cursor → List ℕ → List ℕ → ℕ → ℕ → AheadRead → Type 0
Lies p c w v used skips (Ok (ahead.Packet q m n)) =
    (i : ℕ) × (j : ℕ) × (m ≡ skips + i) × (n ≡ used + j) × (0 < j) × (j ≤ length w)
    × (rest_from p c (w ++ v) ≡ skipping i (more (packet q) (records_in p (drop j w ++ v))))
Lies p c w v used skips (Ok (ahead.Wait d m n)) =
    (i : ℕ) × (j : ℕ) × (m ≡ skips + i) × (n ≡ used + j) × (j ≤ length w)
    × (rest_from p c (w ++ v) ≡ skipping i (rest_from p d (drop j w ++ v)))
Lies p c w v used skips (Ok (ahead.End m)) = (i : ℕ) × (m ≡ skips + i) × (rest_from p c (w ++ v) ≡ skipping i (none done))
Lies p c w v used skips (Err r) =
    (i : ℕ) × (r.skipped ≡ skips + i) × (rest_from p c (w ++ v) ≡ skipping i (none (stopped r.number)))

module _ (p : Setting) (v : List ℕ) (last : Bool) (end : last ≡ true → v ≡ []) where
  -- one record is skipped before
  further : (c : Cursor) (w : List ℕ) (used skips n : ℕ) → n ≤ length w
      → rest_from p c (w ++ v) ≡ more skipped (records_in p (drop n w ++ v))
      → (r : AheadRead) → Lies p between (drop n w) v (used + n) (skips + 1) r → Lies p c w v used skips r
  unfolding skipping rest_from
  further c w used skips n h e (Ok (ahead.Packet q m k)) (i, j, a, b, some, within, lies) = (
    suc i,
    n + j,
    omega arith,
    omega arith,
    omega arith,
    omega (arith, length-drop n w),
    e ∙ ap (more skipped) (lies ∙ ap (λ (l : List ℕ). skipping i (more (packet q) (records_in p (l ++ v)))) (drop-drop j n w)),
  )
  further c w used skips n h e (Ok (ahead.Wait d m k)) (i, j, a, b, within, lies) = (
    suc i,
    n + j,
    omega arith,
    omega arith,
    omega (arith, length-drop n w),
    e ∙ ap (more skipped) (lies ∙ ap (λ (l : List ℕ). skipping i (rest_from p d (l ++ v))) (drop-drop j n w)),
  )
  further c w used skips n h e (Ok (ahead.End m)) (i, a, lies) = (suc i, omega arith, e ∙ ap (more skipped) lies)
  further c w used skips n h e (Err r) (i, a, lies) = (suc i, omega arith, e ∙ ap (more skipped) lies)

  pub ahead_lies : (k : ℕ) (c : Cursor) (w : List ℕ) (used skips : ℕ) → length w < k
      → Lies p c w v used skips (ahead_by k p c w last used skips)
  unfolding ahead_by behind_by skipping
  ahead_lies zero c w used skips h = absurd (omega arith)
  ahead_lies (suc k) c w used skips h =
      go (next_of p c w last) (next_keeps p w v last end c)
      (λ n some. ahead_lies k between (drop n w) (used + n) (skips + 1) (omega (arith, length-drop n w)))
    where
      go : (r : NextRead) → Keeps p c w v r
          → ((n : ℕ) → (0 < n) × (n ≤ length w)
          → Lies p between (drop n w) v (used + n) (skips + 1) (ahead_by k p between (drop n w) last (used + n) (skips + 1)))
          → Lies p c w v used skips (ahead_next (λ n. ahead_by k p between (drop n w) last (used + n) (skips + 1)) used skips r)
      go (Ok (next.Packet q n)) s ih = (0, n, omega arith, refl, s.0, s.1, s.2)
      go (Ok (next.Skipped n)) s ih =
          further c w used skips n s.1 s.2 (ahead_by k p between (drop n w) last (used + n) (skips + 1)) (ih n (s.0, s.1))
      go (Ok (next.More d n)) s ih = (0, n, omega arith, refl, s.0, s.1)
      go (Ok next.End) s ih = (0, omega arith, s)
      go (Err x) s ih = (0, omega arith, s)

-- R14: whatever follows the window
pub ahead_keeps : (p : Setting) (c : Cursor) (w v : List ℕ) (last : Bool) → (last ≡ true → v ≡ []) → Lies p c w v 0 0 (ahead_of p c w last)
unfolding ahead_of
ahead_keeps p c w v last end = ahead_lies p v last end (suc (length w)) c w 0 0 (omega arith)

-- within 64 bits
pub used_fits : (w : List ℕ) (used : ℕ) (r : Next) → used + length w < 18446744073709551616 → Within w (Ok r) → UsedFits r used
used_fits w used (next.Packet q n) h s = omega (arith, s.1)
used_fits w used (next.Skipped n) h s = tt
used_fits w used (next.More c n) h s = omega arith
used_fits w used next.End h s = tt

-- ---- one turn

module _ (p : Setting) (last : Bool) where
  -- any number of steps that is enough
  ahead_same : (k j : ℕ) (c : Cursor) (w : List ℕ) (used skips : ℕ) → length w < k → length w < j
      → ahead_by k p c w last used skips ≡ ahead_by j p c w last used skips
  unfolding ahead_by
  ahead_same zero j c w used skips h g = absurd (omega arith)
  ahead_same (suc k) zero c w used skips h g = absurd (omega arith)
  ahead_same (suc k) (suc j) c w used skips h g =
      go (next_of p c w last) (next_within p c w last)
      (λ n some. ahead_same k j between (drop n w) (used + n) (skips + 1) (omega (arith, length-drop n w)) (omega (arith, length-drop n w)))
    where
      go : (r : NextRead) → Within w r
          → ((n : ℕ) → (0 < n) × (n ≤ length w)
          → ahead_by k p between (drop n w) last (used + n) (skips + 1) ≡ ahead_by j p between (drop n w) last (used + n) (skips + 1))
          → ahead_next (λ n. ahead_by k p between (drop n w) last (used + n) (skips + 1)) used skips r
          ≡ ahead_next (λ n. ahead_by j p between (drop n w) last (used + n) (skips + 1)) used skips r
      go (Ok (next.Packet q n)) s ih = refl
      go (Ok (next.Skipped n)) s ih = ih n s
      go (Ok (next.More d n)) s ih = refl
      go (Ok next.End) s ih = refl
      go (Err x) s ih = refl

  -- the search goes on from here
  abbrev pub ahead_from : Cursor → List ℕ → ℕ → ℕ → AheadRead
  ahead_from c w used skips = ahead_by (suc (length (drop used w))) p c (drop used w) last used skips

  pub ahead_begins : (c : Cursor) (w : List ℕ) → ahead_of p c w last ≡ ahead_from c w 0 0
  unfolding ahead_of
  ahead_begins c w = refl

  -- by what stands ahead of the rest of the window
  module _ (c : Cursor) (w : List ℕ) (used skips : ℕ) where
    ahead_is : {r : NextRead} → r ≡ next_of p c (take (length w - used) (drop used w)) last → next_of p c (drop used w) last ≡ r
    ahead_is e = sym (e ∙ rw (take_rest w used))

    -- a record that is refused ends it
    pub ahead_refuses : {n : ℕ} → Err n ≡ next_of p c (take (length w - used) (drop used w)) last
        → ahead_from c w used skips ≡ ahead_refused n skips
    unfolding ahead_by
    ahead_refuses e = rw (ahead_is e) refl

    module _ {r : Next} (e : Ok r ≡ next_of p c (take (length w - used) (drop used w)) last) where
      pub turn_within : Within (drop used w) (Ok r)
      turn_within = subst (Within (drop used w)) (ahead_is e) (next_within p c (drop used w) last)

      pub turn_fits : used ≤ length w → length w < 18446744073709551616 → UsedFits r used
      turn_fits h k = used_fits (drop used w) used r (omega (arith, length-drop used w)) turn_within

      -- and so does what is no skipped record
      pub ahead_stops : ((n : ℕ) → r ≡ next.Skipped n → ⊥) → ahead_from c w used skips ≡ Ok (behind_by used skips r)
      unfolding ahead_by
      ahead_stops k = rw (ahead_is e) (go r k)
        where
          go : (r : Next) → ((n : ℕ) → r ≡ next.Skipped n → ⊥)
              → ahead_next (λ n. ahead_by (length (drop used w)) p between (drop n (drop used w)) last (used + n) (skips + 1)) used skips
              (Ok r)
              ≡ Ok (behind_by used skips r)
          go (next.Packet q n) k = refl
          go (next.Skipped n) k = absurd (k n refl)
          go (next.More d n) k = refl
          go next.End k = refl

    module _ {r : Next} (e : Ok r ≡ next_of p c (take (length w - used) (drop used w)) last)
        {n : ℕ} (f : r ≡ next.Skipped n) (inside : used ≤ length w) where
      -- a skipped record takes some of the window, and no more than is left
      pub skipped_within : (0 < n) × (used + n ≤ length w)
      skipped_within =
          let within = subst (λ (q : Next). Within (drop used w) (Ok q)) f (turn_within e) in
          (within.0, omega (arith, within.1, length-drop used w))

      pub ahead_goes : ahead_from c w used skips ≡ ahead_from between w (used + n) (skips + 1)
      unfolding ahead_by
      ahead_goes =
          let left = length-drop used w in
          let less = length-drop n (drop used w) in
          let on : ahead_by (length (drop used w)) p between (drop n (drop used w)) last (used + n) (skips + 1)
          ≡ ahead_from between w (used + n) (skips + 1) =
          ahead_same (length (drop used w)) (suc (length (drop n (drop used w)))) between (drop n (drop used w)) (used + n) (skips + 1)
          (omega (arith, skipped_within)) (omega arith)
          ∙ rw (drop-drop n used w) in
          rw (ahead_is e, f) on

pub ruleset ahead_laws = (ahead_begins, ahead_refuses, turn_fits, ahead_stops, skipped_within, ahead_goes)
