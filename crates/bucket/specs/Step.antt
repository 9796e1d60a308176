-- The bucket step by step, as the code goes: each packet by the drain instants
-- since the packet before it. D i are those up to packet i's arrival.
use Rattle.std.specs.Prelude.{◌+◌, ◌-◌}
use Rattle.laws.specs.Kit.{Bool, true, false, ℕ, zero, suc, max, leb, ltb}
use Rattle.laws.specs.Choose.{pick}
use Rattle.laws.specs.Most.{most}
use Rattle.bucket.specs.declared.Bucket.{Bucket}
use Rattle.bucket.specs.declared.Network.{Network}
use Rattle.bucket.specs.declared.Network.TheVariants.{Pass, Burst}

-- B7: a fresh bucket
abbrev pub empty_of : Bucket
empty_of = record { level = 0; start = 0; peak = 0; network = Pass }

-- D3d: the first burst stands
abbrev pub judged : Network → Bool → ℕ → ℕ → Network
judged Pass true first last = Burst (record { first = first; last = last })
judged Pass false first last = Pass
judged (Burst r) above first last = Burst r

-- D3c: only a new peak is judged: a level that is none is no higher than one that was judged (proofs/Runs.antt, judged_at_peaks)
abbrev pub arrived_of : ℕ → ℕ → ℕ → Network → ℕ → ℕ → Bucket
arrived_of level start peak network place limit = record {
  level = level;
  start = start;
  peak = max peak level;
  network = pick (ltb peak level) (judged network (ltb limit level) start place) network;
}

-- B2, B4: level' = (level less the drains, not below 0) + 1; where nothing is left of the level a new run begins
unfoldable pub step_of : Bucket → ℕ → ℕ → ℕ → Bucket
step_of b place drains limit =
    arrived_of (b.level - drains + 1) (pick (leb b.level drains) place b.start) b.peak b.network place limit

-- ---- the same by place, over the whole history

module _ (D : ℕ → ℕ) where
  unfoldable pub level_at : ℕ → ℕ
  level_at zero = 1
  level_at (suc i) = level_at i - (D (suc i) - D i) + 1

  unfoldable pub start_at : ℕ → ℕ
  unfolding level_at
  start_at zero = 0
  start_at (suc i) = pick (leb (level_at i) (D (suc i) - D i)) (suc i) (start_at i)

  module _ (limit : ℕ) where
    -- after the first m packets
    unfoldable pub network_at : ℕ → Network
    unfolding level_at start_at
    network_at zero = Pass
    network_at (suc i) = judged (network_at i) (ltb limit (level_at i)) (start_at i) i

    unfoldable pub bucket_at : ℕ → Bucket
    unfolding network_at most
    bucket_at zero = empty_of
    bucket_at (suc i) = record { level = level_at i; start = start_at i; peak = most level_at (suc i); network = network_at (suc i) }

  -- the drain instants since the packet before packet i; up to it, for the first
  abbrev pub drains_since : ℕ → ℕ
  drains_since zero = D 0
  drains_since (suc i) = D (suc i) - D i
