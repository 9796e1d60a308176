-- What lies ahead lies within the window; more is wanted only of a window that is not the last, and that is used up or shows fewer than 178
-- bytes. By what capture's Looking and InPieces say of one record, record by record.
use Rattle.std.specs.Prelude.{◌≡◌, ◌+◌, ◌≤◌, ◌<◌, Ok, Err}
use Rattle.laws.specs.Kit.{refl, Bool, false, List, [], ℕ, zero, suc, arith, length, drop}
use Rattle.headers.specs.Step.{matter}
use Rattle.capture.specs.declared.Setting.{Setting}
use Rattle.capture.specs.declared.Cursor.{Cursor}
use Rattle.capture.specs.Step.{NextRead}
use Rattle.capture.specs.declared.Next.TheVariants as next
use Rattle.capture.specs.Step.{AheadRead}
use Rattle.capture.specs.declared.Ahead.TheVariants.{Packet, Wait, End}
use Rattle.capture.specs.Paper.{record_bytes}
use Rattle.capture.specs.Step.{between, next_of, behind_by, ahead_next, ahead_by, ahead_of}
use Rattle.capture.proofs.InPieces.{Waits, next_waits}
use Rattle.capture.proofs.Looking.{Within, next_within, Lies, ahead_keeps}

-- within the window
abbrev pub Inside : List ℕ → AheadRead → Type 0
Inside w (Ok (Packet p m n)) = (0 < n) × (n ≤ length w)
Inside w (Ok (Wait d m n)) = n ≤ length w
Inside w (Ok (End m)) = Unit
Inside w (Err r) = Unit

pub ahead_inside : (p : Setting) (c : Cursor) (w : List ℕ) (last : Bool) → Inside w (ahead_of p c w last)
ahead_inside p c w last = go (ahead_of p c w last) (ahead_keeps p c w [] last (λ e. refl))
  where
    go : (r : AheadRead) → Lies p c w [] 0 0 r → Inside w r
    go (Ok (Packet q m n)) (i, j, a, b, some, within, lies) = (omega arith, omega arith)
    go (Ok (Wait d m n)) (i, j, a, b, within, lies) = omega arith
    go (Ok (End m)) k = tt
    go (Err r) k = tt

-- more is wanted
abbrev pub Wanting : List ℕ → Bool → AheadRead → Type 0
Wanting w last (Ok (Packet p m n)) = Unit
Wanting w last (Ok (Wait d m n)) = (last ≡ false) × (n ≡ 0 → length w < record_bytes + matter)
Wanting w last (Ok (End m)) = Unit
Wanting w last (Err r) = Unit

-- behind some bytes that were used
abbrev Later : ℕ → Bool → AheadRead → Type 0
Later used last (Ok (Packet p m n)) = Unit
Later used last (Ok (Wait d m n)) = (last ≡ false) × (used ≤ n)
Later used last (Ok (End m)) = Unit
Later used last (Err r) = Unit

module _ (p : Setting) (last : Bool) where
  later_used : (k : ℕ) (c : Cursor) (w : List ℕ) (used skips : ℕ) → Later used last (ahead_by k p c w last used skips)
  unfolding ahead_by behind_by
  later_used zero c w used skips = tt
  later_used (suc k) c w used skips =
      go (next_of p c w last) (next_waits p c w last) (λ n. later_used k between (drop n w) (used + n) (skips + 1))
    where
      less : (n : ℕ) (r : AheadRead) → Later (used + n) last r → Later used last r
      less n (Ok (Packet q m i)) s = tt
      less n (Ok (Wait d m i)) s = (s.0, omega (arith, s.1))
      less n (Ok (End m)) s = tt
      less n (Err r) s = tt

      go : (r : NextRead) → Waits w last r
          → ((n : ℕ) → Later (used + n) last (ahead_by k p between (drop n w) last (used + n) (skips + 1)))
          → Later used last (ahead_next (λ n. ahead_by k p between (drop n w) last (used + n) (skips + 1)) used skips r)
      go (Ok (next.Packet q n)) s ih = tt
      go (Ok (next.Skipped n)) s ih = less n (ahead_by k p between (drop n w) last (used + n) (skips + 1)) (ih n)
      go (Ok (next.More d n)) s ih = (s.0, omega arith)
      go (Ok next.End) s ih = tt
      go (Err x) s ih = tt

  pub ahead_wants : (c : Cursor) (w : List ℕ) → Wanting w last (ahead_of p c w last)
  unfolding ahead_of ahead_by behind_by
  ahead_wants c w =
      go (next_of p c w last) (next_waits p c w last) (next_within p c w last)
      (λ n. later_used (length w) between (drop n w) (0 + n) (0 + 1))
    where
      wants : (n : ℕ) (r : AheadRead) → 0 < n → Later (0 + n) last r → Wanting w last r
      wants n (Ok (Packet q m i)) h s = tt
      wants n (Ok (Wait d m i)) h s = (s.0, λ z. absurd (omega (arith, s.1)))
      wants n (Ok (End m)) h s = tt
      wants n (Err r) h s = tt

      go : (r : NextRead) → Waits w last r → Within w r
          → ((n : ℕ) → Later (0 + n) last (ahead_by (length w) p between (drop n w) last (0 + n) (0 + 1)))
          → Wanting w last (ahead_next (λ n. ahead_by (length w) p between (drop n w) last (0 + n) (0 + 1)) 0 0 r)
      go (Ok (next.Packet q n)) s t ih = tt
      go (Ok (next.Skipped n)) s t ih = wants n (ahead_by (length w) p between (drop n w) last (0 + n) (0 + 1)) t.0 (ih n)
      go (Ok (next.More d n)) s t ih = (s.0, λ z. s.1.0 (omega arith))
      go (Ok next.End) s t ih = tt
      go (Err x) s t ih = tt
